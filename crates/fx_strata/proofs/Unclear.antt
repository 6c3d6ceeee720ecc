-- Words of one factor or two that have one sum, and the words of two factors that are not clear.
use Rattle.std.proofs.Common.{ℕ, ◌≡◌, cond, eqb, ◌&&◌, List, map, length, refl, sym, ◌∙◌, ap, arith}
use Rattle.std.proofs.Common.{eqb-true, eq-eqb}
use Rattle.fx_designs.specs.Galois.{add, mul, neg, IsField, number}
use Rattle.fx_designs.specs.Vectors.{IsVector, dot, scale, minus, weight, is_zero, combination}
use Rattle.fx_designs.specs.Runs.{runs_of, is_constant}
use Rattle.fx_laws.specs.Changes.{IsChange}
use Rattle.fx_laws.proofs.Linear.{dot-zeros, dot_code}
use Rattle.fx_laws.proofs.Changes.{add-over, change-zeros}
use Rattle.fx_laws.proofs.Space.{ext, AreVectors, plus-vector, scale-vector, zeros-vector, combination-vector}
use Rattle.fx_laws.proofs.Tests.{bool_same}
use Rattle.fx_laws.proofs.Ranks.{change-injective, number-same}
use Rattle.fx_laws.proofs.Raises.{plus-combination, scale-combination}
use Rattle.fx_laws.proofs.Weights.{zeros_from_weight, weight-zeros}
use Rattle.fx_reduction.proofs.Cancelling.{add-negated}
use Rattle.fx_strata.specs.Designs.{Strata, is_effect, is_unclear, effects_of, unclear_of}
use Rattle.fx_strata.specs.Words.{words_in}
use Rattle.fx_strata.specs.Sums.{effects_at, is_unclear_sum, unclear_sums}
use Rattle.fx_strata.proofs.Totals.{total, total-same, total-changed}
use Rattle.fx_strata.proofs.Runs.{each-point, in-blocks, over-all}

module _ (q m : ℕ) (f : IsField q) where
  -- of the words that are counted for the sum v
  abbrev pub near : List ℕ → ℕ → List ℕ → ℕ
  near v j s = cond (eqb (number q s) (number q v) && is_effect j) 1 0

  pub effects-total : (rows : List (List ℕ)) (v : List ℕ) → effects_at q m rows v ≡ total q m f (near v) rows
  unfolding effects_at
  effects-total rows v = refl

  -- a change takes the words with a sum to those with its image
  module _ (a : List ℕ → List ℕ) (change : IsChange q m a) where
    pub zero-changed : (v : List ℕ) → IsVector q m v → is_zero (a v) ≡ is_zero v
    zero-changed v hv = bool_same _ _
        (λ e. ap is_zero (change.zero_alone v hv
        (zeros_from_weight _ m (let h = change.vector v hv in h.len) (eqb-true _ 0 e)))
        ∙ eq-eqb _ 0 (weight-zeros m))
        (λ e. cc (
          zeros_from_weight v m hv.len (eqb-true _ 0 e),
          change-zeros q m f a change,
          eq-eqb _ 0 (weight-zeros m),
        ))

    pub same-number : (v w : List ℕ) → IsVector q m v → IsVector q m w
        → eqb (number q (a w)) (number q (a v)) ≡ eqb (number q w) (number q v)
    same-number v w hv hw = bool_same _ _
        (λ e. eq-eqb _ _ (ap (number q) (change-injective q m f a change w v hw hv
        (number-same q m f _ _ (change.vector w hw) (change.vector v hv) (eqb-true _ _ e)))))
        (λ e. eq-eqb _ _ (cc (number-same q m f w v hw hv (eqb-true _ _ e))))

    pub effects-kept : (v : List ℕ) → IsVector q m v → (zs : List (List ℕ)) → AreVectors q m zs
        → total q m f (λ j s. near (a v) j (a s)) zs ≡ effects_at q m zs v
    effects-kept v hv zs hz =
        cc (
          total-same q m f (near v) (λ j s. near (a v) j (a s)) zs zs refl
              (λ u hu. cc (same-number v _ hv (combination-vector q m f u zs hz))),
          effects-total zs v,
        )

    pub effects-changed : (v : List ℕ) → IsVector q m v → (zs : List (List ℕ)) → AreVectors q m zs
        → effects_at q m (map a zs) (a v) ≡ effects_at q m zs v
    effects-changed v hv zs hz =
        cc (effects-total (map a zs) (a v), total-changed q m f (near (a v)) a change zs hz, effects-kept v hv zs hz)

  -- the difference of two sums
  difference : (u v p : List ℕ) (rows : List (List ℕ)) → dot q (combination q m (minus q u v) rows) p
      ≡ add q (dot q (combination q m u rows) p) (mul q (neg q 1) (dot q (combination q m v rows) p))
  difference u v p rows =
      cc (plus-combination q m f u (scale q (neg q 1) v) rows p, scale-combination q m f (neg q 1) v rows p)

  pub no-difference : (u v : List ℕ) (rows : List (List ℕ)) → AreVectors q m rows
      → is_zero (combination q m (minus q u v) rows)
      ≡ eqb (number q (combination q m v rows)) (number q (combination q m u rows))
  no-difference u v rows hr =
      let a = combination q m u rows in
      let b = combination q m v rows in
      let c = combination q m (minus q u v) rows in
      let ha = combination-vector q m f u rows hr in
      let hb = combination-vector q m f v rows hr in
      let hc = combination-vector q m f (minus q u v) rows hr in
      bool_same _ _
      (λ e. eq-eqb _ _ (ap (number q) (sym (ext q m f a b ha hb (λ p.
      let one : add q (dot q a p) (mul q (neg q 1) (dot q b p)) ≡ 0 =
      cc (difference u v p rows, zeros_from_weight c m hc.len (eqb-true _ 0 e), dot-zeros q f m p) in
      cc (
        add-over q f _ _ (dot_code q f b p) (dot_code q f a p),
        f.add_zero (dot q b p) (dot_code q f b p),
      ))))))
      (λ e. ap is_zero (ext q m f c _ hc (zeros-vector q m f) (λ p.
      cc (
        difference u v p rows,
        number-same q m f b a hb ha (eqb-true _ _ e),
        add-negated q f _ (dot_code q f a p),
        dot-zeros q f m p,
      )))
      ∙ eq-eqb _ 0 (weight-zeros m))

-- over the runs
module _ (x : Strata) (f : IsField x.q) (base factors : List (List ℕ)) (hb : AreVectors x.q x.m base)
    (hf : AreVectors x.q x.m factors) where
  pub minus-vector : (u v : List ℕ) → IsVector x.q (length factors) u → IsVector x.q (length factors) v
      → IsVector x.q (length factors) (minus x.q u v)
  minus-vector u v hu hv =
      plus-vector x.q _ f u _ hu
      (scale-vector x.q _ f (neg x.q 1) v hv)

  pub effects-are : (u : List ℕ) → IsVector x.q (length factors) u
      → effects_of x factors u ≡ effects_at x.q x.m factors (combination x.q x.m u factors)
  unfolding effects_at
  effects-are u hu = each-point x.q _ (omega arith)
      (λ v. cond (is_constant x.q (minus x.q u v) (runs_of x.q x.m factors) && is_effect (weight v)) 1 0)
      (λ v. cond (eqb (number x.q (combination x.q x.m v factors)) (number x.q (combination x.q x.m u factors))
      && is_effect (weight v)) 1 0)
      (λ v hv. cc (
        over-all x.q x.m f factors base hf hb _ (minus-vector u v hu hv),
        no-difference x.q x.m f u v factors hf,
      ))

  pub unclear-test : (u : List ℕ) → IsVector x.q (length factors) u
      → is_unclear x base factors u ≡ is_unclear_sum x base factors (combination x.q x.m u factors)
  unclear-test u hu = cc (in-blocks x.q x.m f factors base hf hb u hu, effects-are u hu)

  pub unclear-are-sums : unclear_of x base factors ≡ unclear_sums x base factors
  unfolding words_in
  unclear-are-sums = each-point x.q _ (omega arith)
      (λ u. cond (is_unclear x base factors u && eqb (weight u) 2) 1 0)
      (λ u. cond (is_unclear_sum x base factors (combination x.q x.m u factors) && eqb (weight u) 2) 1 0)
      (λ u hu. cc (unclear-test u hu))
