-- The words of canonical designs from two tallies.
use Rattle.std.proofs.Common.{ℕ, ◌≡◌, ◌<◌, ◌≤◌, ◌+◌, ◌-◌, ◌*◌, ◌/◌, ◌^◌, zero, suc, Bool, true, false, not, cond, eqb}
use Rattle.std.proofs.Common.{◌&&◌, List, [], ◌∷◌, ◌++◌, length, drop, refl, sym, subst, ◌∙◌, ap, ap₂, arith, eqb-true}
use Rattle.std.proofs.Common.{eq-eqb}
use Rattle.std.specs.List.{sum_by}
use Rattle.std.proofs.Math.Nat.{pow-zero, pow-suc, one-le-pow, div-one, mul_comm, div-div-eq-div-mul, div-lt_iff_lt-mul}
use Rattle.std.proofs.lemmas.Nat.{pow-add}
use Rattle.std.proofs.lemmas.List.{length-map, map-append, drop-map}
use Rattle.std.proofs.lemmas.List.Elements.{recursion_from_All}
use Rattle.fx_designs.specs.Galois.{mul, IsField, digits}
use Rattle.fx_designs.specs.Vectors.{IsVector, plus, zeros, weight, is_zero, combination, vectors_of}
use Rattle.fx_designs.specs.Runs.{points}
use Rattle.fx_designs.specs.Spans.{in_span}
use Rattle.fx_laws.specs.Changes.{IsShort}
use Rattle.fx_laws.proofs.Space.{scale-vector, combination-vector}
use Rattle.fx_laws.proofs.Codes.{digits-vector}
use Rattle.fx_laws.proofs.Changes.{zeros-short}
use Rattle.fx_laws.proofs.Shift.{all-points}
use Rattle.fx_laws.proofs.Sums.{sum_by-plus}
use Rattle.fx_laws.proofs.Tests.{bool_same}
use Rattle.fx_laws.proofs.Raises.{sum_by-each}
use Rattle.fx_laws.proofs.CanonicalTest.{rows-vectors}
use Rattle.fx_laws.proofs.Weights.{weight-zeros, zeros_from_weight}
use Rattle.fx_words.specs.Spreads.{spread}
use Rattle.fx_reduction.proofs.ConstantTests.{constant-words}
use Rattle.fx_words.proofs.Spreads.{words-spread}
use Rattle.fx_words.proofs.Levels.{so_far-all, so_far-zero}
use Rattle.fx_strata.specs.Designs.{Strata}
use Rattle.fx_strata.specs.Words.{words_in}
use Rattle.fx_strata.specs.Sums.{is_in_base}
use Rattle.fx_strata.specs.Canonical.{base}
use Rattle.fx_strata.specs.Spreads.{behind_base, sums_behind, AreSpread, NewAreSpread, WordsBySpreads}
use Rattle.fx_strata.specs.Spreads.{NewWordsBySpreads}
use Rattle.fx_strata.proofs.Moved.{in-base, base-in}
use Rattle.fx_strata.proofs.Runs.{words-are-sums}
use Rattle.fx_strata.proofs.Floored.{new-confounded, inside-grows}

drop-zeros : (h m : ℕ) → drop h (zeros m) ≡ zeros (m - h)
drop-zeros zero m = ap zeros (let e : m ≡ m - 0 = omega arith in e)
drop-zeros (suc h) zero = ap zeros (let e : 0 ≡ 0 - suc h = omega arith in e)
drop-zeros (suc h) (suc m) = drop-zeros h m ∙ ap zeros (let e : m - h ≡ suc m - suc h = omega arith in e)

drop-plus : (q h : ℕ) (v w : List ℕ) → length v ≡ length w → drop h (plus q v w) ≡ plus q (drop h v) (drop h w)
drop-plus q zero v w e = refl
drop-plus q (suc h) [] [] e = refl
drop-plus q (suc h) [] (b ∷ w) e = absurd (omega arith)
drop-plus q (suc h) (a ∷ v) [] e = absurd (omega arith)
drop-plus q (suc h) (a ∷ v) (b ∷ w) e = drop-plus q h v w (omega arith)

short-drop : (h : ℕ) (v : List ℕ) → IsShort h v → drop h v ≡ zeros (length v - h)
short-drop zero [] s = refl
short-drop zero (a ∷ v) s = ap₂ (λ x l. x ∷ l) s.0 (short-drop zero v s.1)
    ∙ ap zeros (let e : suc (length v - 0) ≡ suc (length v) - 0 = omega arith in e)
short-drop (suc h) [] s = ap zeros (let e : 0 ≡ 0 - suc h = omega arith in e)
short-drop (suc h) (a ∷ v) s =
    short-drop h v s ∙ ap zeros (let e : length v - h ≡ suc (length v) - suc h = omega arith in e)

drop-short : (h n : ℕ) (v : List ℕ) → drop h v ≡ zeros n → IsShort h v
drop-short zero n [] e = tt
drop-short zero zero (a ∷ v) e = cc e
drop-short zero (suc n) (a ∷ v) e =
    let first : a ≡ 0 = cc e in
    let rest : v ≡ zeros n = cc e in
    (first, drop-short zero n v rest)
drop-short (suc h) n [] e = tt
drop-short (suc h) n (a ∷ v) e = drop-short h n v e

digits-behind : (q h m r : ℕ) → h ≤ m → 0 < q → drop h (digits q m r) ≡ digits q (m - h) (r / q ^ h)
digits-behind q zero m r low some =
    ap₂ (λ n k. digits q n k) (let e : m ≡ m - 0 = omega arith in e)
    (sym (cc (pow-zero q, div-one r)))
digits-behind q (suc h) zero r low some = absurd (omega arith)
digits-behind q (suc h) (suc m) r low some =
    digits-behind q h m (r / q) (omega arith) some
    ∙ ap₂ (λ n k. digits q n k) (let e : m - h ≡ suc m - suc h = omega arith in e)
    (cc (div-div-eq-div-mul r q (q ^ h), mul_comm q (q ^ h), pow-suc q h))

-- what of some rows whose sum is zero is counted by a tally
zero-spread : (q m : ℕ) (f : IsField q) (rows : List ℕ) (k : ℕ)
    → words_in q m is_zero (vectors_of q m rows) k ≡ spread q m (vectors_of q m rows) k 0
zero-spread q m f rows k =
    let x : Strata = record { q = q; m = m; h = 0; w = 0; n = 0 } in
    cc (
      words-are-sums x f [] _ tt (rows-vectors q m f rows) (omega arith) false k,
      constant-words q m f _
          (rows-vectors q m f rows) k,
      words-spread q m (vectors_of q m rows) k,
    )

-- a row more
pushed : (q m : ℕ) (f : IsField q) (rows : List ℕ) (r k : ℕ) → 0 < k → r < q ^ m
    → spread q m (vectors_of q m (rows ++ r ∷ [])) k 0
    ≡ spread q m (vectors_of q m rows) k 0 + (q - 1) * spread q m (vectors_of q m rows) (k - 1) r
pushed q m f rows r k some low =
    let big = f.more_than_one in
    let last : q - 1 + 1 ≡ q = omega arith in
    cc (so_far-all q m f rows r k 0 (omega arith), so_far-zero q m f rows r k (q - 1) some (omega arith) low)

both-kinds : (z i w : Bool) → (z ≡ true → i ≡ true)
    → cond {A = ℕ} ((not z && i) && w) 1 0 + cond {A = ℕ} (z && w) 1 0 ≡ cond (i && w) 1 0
both-kinds true true true h = refl
both-kinds true true false h = refl
both-kinds true false w h = (let e = h refl in cc e)
both-kinds false true true h = refl
both-kinds false true false h = refl
both-kinds false false w h = refl

module _ (x : Strata) (f : IsField x.q) (room : x.h ≤ x.m) where
  some : 0 < x.q
  some = omega arith

  drop-combination : (u rows : List ℕ) → drop x.h (combination x.q x.m u (vectors_of x.q x.m rows))
      ≡ combination x.q (x.m - x.h) u (vectors_of x.q (x.m - x.h) (behind_base x rows))
  drop-combination [] rows = drop-zeros x.h x.m
  drop-combination (a ∷ u) [] = drop-zeros x.h x.m
  drop-combination (a ∷ u) (r ∷ rows) =
      let v = digits x.q x.m r in
      cc (
        drop-plus x.q x.h _ _
            ((scale-vector x.q x.m f a v (digits-vector x.q x.m r some)).len ∙ sym
            (combination-vector x.q x.m f u _ (rows-vectors x.q x.m f rows)).len),
        drop-map (mul x.q a) x.h v,
        digits-behind x.q x.h x.m r room some,
        drop-combination u rows,
      )

  behind-test : (v : List ℕ) → IsVector x.q x.m v → in_span x.q x.m (base x) v ≡ is_zero (drop x.h v)
  behind-test v hv = bool_same _ _
      (λ e. eq-eqb _ 0
      (ap weight (short-drop x.h v (in-base x f room v hv e)) ∙ weight-zeros (length v - x.h)))
      (λ e. base-in x f room v hv (drop-short x.h _ v
      (zeros_from_weight _ (length (drop x.h v)) refl (eqb-true _ 0 e))))

  pub zero-inside : (v : List ℕ) → IsVector x.q x.m v → is_zero v ≡ true → in_span x.q x.m (base x) v ≡ true
  zero-inside v hv e = base-in x f room v hv
      (subst (IsShort x.h) (sym (zeros_from_weight v x.m hv.len (eqb-true _ 0 e))) (zeros-short x.m x.h))

  module _ (rows : List ℕ) (k : ℕ) where
    abbrev V : List (List ℕ)
    V = vectors_of x.q x.m rows

    abbrev ps : List (List ℕ)
    ps = points x.q (length V)

    each : (g h : List ℕ → ℕ) → ((u : List ℕ) → IsVector x.q (length V) u → g u ≡ h u) → sum_by g ps ≡ sum_by h ps
    each g h same = sum_by-each g h ps (recursion_from_All _ ps (all-points x.q _ some (λ u. g u ≡ h u) same))

    behind-same : words_in x.q x.m (λ v. in_span x.q x.m (base x) v) V k
        ≡ words_in x.q (x.m - x.h) is_zero (vectors_of x.q (x.m - x.h) (behind_base x rows)) k
    unfolding words_in
    behind-same =
        let g : List ℕ → ℕ =
        λ u. cond (is_zero (combination x.q (x.m - x.h) u (vectors_of x.q (x.m - x.h) (behind_base x rows)))
        && eqb (weight u) k) 1 0 in
        let same =
        length-map rows (digits x.q x.m)
        ∙ sym (length-map (behind_base x rows) (digits x.q (x.m - x.h)) ∙ length-map rows (λ r. r / x.q ^ x.h))
        in
        cc (each (λ u. cond (in_span x.q x.m (base x) (combination x.q x.m u V) && eqb (weight u) k) 1 0) g
        (λ u hu. cc
        (behind-test _ (combination-vector x.q x.m f u V (rows-vectors x.q x.m f rows)), drop-combination u rows)))

    inside-and-zero : words_in x.q x.m (is_in_base x (base x)) V k + words_in x.q x.m is_zero V k
        ≡ words_in x.q x.m (λ v. in_span x.q x.m (base x) v) V k
    unfolding words_in
    inside-and-zero =
        let i : List ℕ → ℕ = λ u. cond (is_in_base x (base x) (combination x.q x.m u V) && eqb (weight u) k) 1 0 in
        let z : List ℕ → ℕ = λ u. cond (is_zero (combination x.q x.m u V) && eqb (weight u) k) 1 0 in
        cc (
          sum_by-plus i z ps,
          each (λ u. i u + z u)
              (λ u. cond (in_span x.q x.m (base x) (combination x.q x.m u V) && eqb (weight u) k) 1 0)
              (λ u hu. both-kinds _ _
              _ (zero-inside _
              (combination-vector x.q x.m f u V (rows-vectors x.q x.m f rows)))),
        )

    pub are-spread : AreSpread x rows k
    are-spread =
        let e = zero-spread x.q x.m f rows k in
        let e' = inside-and-zero in
        let e2 = behind-same in
        let e3 = zero-spread x.q (x.m - x.h) f (behind_base x rows) k in
        record { constant = e; in_groups = omega arith }

  pub new-are-spread : (rows : List ℕ) (r k : ℕ) → x.w ≤ length rows → r < x.q ^ x.m → 0 < k → NewAreSpread x rows r k
  new-are-spread rows r k long low pos =
      let more : List ℕ = rows ++ r ∷ [] in
      let here = are-spread rows k in
      let there = are-spread more k in
      let one = pushed x.q x.m f rows r k pos low in
      let wide : x.q ^ x.m ≡ x.q ^ (x.m - x.h) * x.q ^ x.h =
      ap (λ n. x.q ^ n) (let e : x.m ≡ x.m - x.h + x.h = omega arith in e) ∙ pow-add x.q (x.m - x.h) x.h in
      let two = pushed x.q _ f (behind_base x rows) _ k pos
      ((div-lt_iff_lt-mul (one-le-pow x.h x.q some)).1 (rw wide at low)) in
      let behind : sums_behind x more k 0
      ≡ spread x.q (x.m - x.h) (vectors_of x.q (x.m - x.h) (behind_base x rows ++ r / x.q ^ x.h ∷ [])) k 0 =
      cc (map-append (λ r. r / x.q ^ x.h) rows (r ∷ [])) in
      let a = here.constant in
      let b = there.constant in
      let c = here.in_groups in
      let d = there.in_groups in
      let e = new-confounded x f k rows r long in
      let up = inside-grows x f k rows r in
      record { constant = omega arith; both = omega arith }

pub words_by_spreads : (x : Strata) (f : IsField x.q) → WordsBySpreads x
words_by_spreads x f rows k room = are-spread x f room rows k

pub new_words_by_spreads : (x : Strata) (f : IsField x.q) → NewWordsBySpreads x
new_words_by_spreads x f rows r k room long low pos = new-are-spread x f room rows r k long low pos
