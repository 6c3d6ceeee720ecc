-- Spans and ranks.
use Rattle.std.proofs.Common.{ℕ, ◌≡◌, ◌<◌, ◌+◌, zero, suc, Bool, true, false, eqb, ◌||◌, List, [], ◌∷◌, ◌++◌, map}
use Rattle.std.proofs.Common.{length, length-append, refl, sym, subst, ◌∙◌, ap, ap₂, arith, inl, inr}
use Rattle.std.specs.List.{AllByRecursion, list_any}
use Rattle.std.proofs.lemmas.Bool.{eq-eqb, eqb-true}
use Rattle.std.proofs.lemmas.List.Folds.{list_any_at}
use Rattle.std.proofs.lemmas.List.Elements.{recursion_from_All}
use Rattle.fx_designs.specs.Galois.{add, mul, neg, IsField, number}
use Rattle.fx_designs.specs.Vectors.{dot, plus, scale, zeros, combination, IsVector}
use Rattle.fx_designs.specs.Runs.{points}
use Rattle.fx_laws.specs.Spans.{InSpan}
use Rattle.fx_designs.specs.Spans.{in_span, rank_after}
use Rattle.fx_laws.specs.Changes.{IsChange, unit, IsShort, IsFormedTo}
use Rattle.fx_laws.proofs.Linear.{zero-mul, zero-add-code, dot_code, dot-plus, dot-scale, dot-zeros}
use Rattle.fx_laws.proofs.Codes.{digits-number, points-at, length-points}
use Rattle.fx_laws.proofs.Shift.{place, place-below, point_of-place, all-points}
use Rattle.fx_laws.proofs.Space.{ext, zeros-vector, plus-vector, scale-vector, combination-vector, AreVectors}
use Rattle.fx_laws.proofs.Changes.{unit-vector, short-zeros, zeros-short, change-combination, scale-none, short_more}
use Rattle.fx_laws.proofs.Changes.{unit_short, add-over}
use Rattle.fx_laws.proofs.Separation.{add-mul, one-mul}
use Rattle.std.proofs.lemmas.List.{length-map, map_push}
use Rattle.fx_base.proofs.Lists.{each-append}
use Rattle.fx_laws.proofs.Tests.{bool_same}

pub plus-assoc : (q : ℕ) (f : IsField q) (v w x : List ℕ) → plus q (plus q v w) x ≡ plus q v (plus q w x)
plus-assoc q f [] w x = refl
plus-assoc q f (a ∷ v) [] x = refl
plus-assoc q f (a ∷ v) (b ∷ w) [] = refl
plus-assoc q f (a ∷ v) (b ∷ w) (c ∷ x) = rw (f.add_assoc a b c, plus-assoc q f v w x) refl

pub zeros-plus : (q m : ℕ) (f : IsField q) (x : List ℕ) → IsVector q m x → plus q (zeros m) x ≡ x
zeros-plus q m f x h = ext q m f (plus q (zeros m) x) x (plus-vector q m f (zeros m) x (zeros-vector q m f) h) h
    (λ p. dot-plus q f (zeros m) x p ∙ (rw (dot-zeros q f m p) (zero-add-code q f (dot q x p) (dot_code q f x p))))

pub plus-zero : (q m : ℕ) (f : IsField q) (x : List ℕ) → IsVector q m x → plus q x (zeros m) ≡ x
plus-zero q m f x h = ext q m f (plus q x (zeros m)) x (plus-vector q m f x (zeros m) h (zeros-vector q m f)) h
    (λ p. dot-plus q f x (zeros m) p ∙ (rw (dot-zeros q f m p) (f.add_zero (dot q x p) (dot_code q f x p))))

pub append-vector : (q n k : ℕ) (v w : List ℕ) → IsVector q n v → IsVector q k w → IsVector q (n + k) (v ++ w)
append-vector q n k v w hv hw =
    record {
      len = length-append v w ∙ ap₂ (λ (x y : ℕ). x + y) hv.len hw.len;
      codes = each-append (λ c. c < q) v w hv.codes hw.codes;
    }

module _ (q m : ℕ) (f : IsField q) where
  pub combination-append : (u v : List ℕ) (xs ys : List (List ℕ)) → length u ≡ length xs → AreVectors q m ys
      → combination q m (u ++ v) (xs ++ ys) ≡ plus q (combination q m u xs) (combination q m v ys)
  combination-append [] v [] ys e hy = sym (zeros-plus q m f (combination q m v ys) (combination-vector q m f v ys hy))
  combination-append [] v (x ∷ xs) ys e hy = absurd (omega arith)
  combination-append (a ∷ u) v [] ys e hy = absurd (omega arith)
  combination-append (a ∷ u) v (x ∷ xs) ys e hy =
      cc (
        combination-append u v xs ys (omega arith) hy,
        plus-assoc q f (scale q a x) (combination q m u xs) (combination q m v ys),
      )

  pub span-snoc : (bs : List (List ℕ)) (r v w : List ℕ) (c : ℕ) → c < q → IsVector q m r → InSpan q m bs v
      → w ≡ plus q v (scale q c r) → InSpan q m (bs ++ r ∷ []) w
  span-snoc bs r v w c hc hr s e = record {
    by = s.by ++ c ∷ [];
    vector = rw (length-append bs (r ∷ []))
        (append-vector q (length bs) 1 s.by (c ∷ []) s.vector (record { len = refl; codes = (hc, tt) }));
    gives = combination-append s.by (c ∷ []) bs (r ∷ []) s.vector.len (hr, tt)
        ∙ ap₂ (plus q) s.gives (plus-zero q m f (scale q c r) (scale-vector q m f c r hr)) ∙ sym e;
  }

  any_gives : (p : List ℕ → Bool) (n : ℕ) (xs : List (List ℕ)) → AllByRecursion (λ x. IsVector q n x) xs
      → list_any p xs ≡ true → (x : List ℕ) × IsVector q n x × (p x ≡ true)
  any_gives p n [] h e = absurd (cc)
  any_gives p n (x ∷ xs) h e =
      let go : (b : Bool) → p x ≡ b → (b || list_any p xs) ≡ true → (x : List ℕ) × IsVector q n x × (p x ≡ true) =
      λ b. elim b as (λ b. p x ≡ b → (b || list_any p xs) ≡ true → (x : List ℕ) × IsVector q n x × (p x ≡ true))
      [ true ↦ λ is t. (x, h.0, is) | false ↦ λ is t. any_gives p n xs h.1 t ] in
      go (p x) refl e

  pub number-same : (v w : List ℕ) → IsVector q m v → IsVector q m w → number q v ≡ number q w → v ≡ w
  number-same v w hv hw e = cc (digits-number q m v hv, e, digits-number q m w hw)

  pub in_span-true : (rows : List (List ℕ)) (v : List ℕ) → AreVectors q m rows → IsVector q m v
      → in_span q m rows v ≡ true → InSpan q m rows v
  unfolding in_span
  in_span-true rows v hr hv e =
      let some : 0 < q = omega (arith, f.more_than_one) in
      let found =
      any_gives (λ u. eqb (number q (combination q m u rows)) (number q v)) (length rows) (points q (length rows))
      (recursion_from_All (λ u. IsVector q (length rows) u) (points q (length rows))
      (all-points q (length rows) some (λ u. IsVector q (length rows) u) (λ p h. h))) e in
      record {
        by = found.0;
        vector = found.1;
        gives = number-same _ v (combination-vector q m f found.0 rows hr) hv (eqb-true _ _ found.2);
      }

  pub in_span-holds : (rows : List (List ℕ)) (v : List ℕ) → InSpan q m rows v → in_span q m rows v ≡ true
  unfolding in_span
  in_span-holds rows v s =
      let some : 0 < q = omega (arith, f.more_than_one) in
      let n : ℕ = length rows in
      let below = place-below q n s.by s.vector in
      list_any_at (λ u. eqb (number q (combination q m u rows)) (number q v)) (points q n) (place q s.by) []
      (rw (length-points q n) below)
      (rw (points-at q n (place q s.by) some below, point_of-place q n s.by s.vector)
      (eq-eqb _ _ (ap (number q) s.gives)))

  pub in_span-none : (rows : List (List ℕ)) (v : List ℕ) → AreVectors q m rows → IsVector q m v
      → (InSpan q m rows v → ⊥) → in_span q m rows v ≡ false
  in_span-none rows v hr hv out =
      let go : (b : Bool) → in_span q m rows v ≡ b → b ≡ false =
      λ b. elim b as (λ b. in_span q m rows v ≡ b → b ≡ false)
      [ true ↦ λ e. absurd (out (in_span-true rows v hr hv e)) | false ↦ λ e. refl ] in
      go (in_span q m rows v) refl

-- the rows before span exactly the short vectors
pub record Spans (q m k : ℕ) (bs : List (List ℕ)) : Type 0 where
  pub vectors : AreVectors q m bs
  pub short : AllByRecursion (λ r. IsShort k r) bs
  pub all : (v : List ℕ) → IsVector q m v → IsShort k v → InSpan q m bs v

short-plus : (q k : ℕ) (f : IsField q) (v w : List ℕ) → IsShort k v → IsShort k w → IsShort k (plus q v w)
short-plus q k f [] w hv hw = hw
short-plus q k f (a ∷ v) [] hv hw = hv
short-plus q zero f (a ∷ v) (b ∷ w) hv hw =
    (rw (hv.0, hw.0) (f.add_zero 0 (omega (arith, f.more_than_one))), short-plus q zero f v w hv.1 hw.1)
short-plus q (suc k) f (a ∷ v) (b ∷ w) hv hw = short-plus q k f v w hv hw

pub short-scale : (q k c : ℕ) (f : IsField q) (v : List ℕ) → IsShort k v → IsShort k (scale q c v)
short-scale q zero c f [] h = tt
short-scale q (suc k) c f [] h = tt
short-scale q zero c f (a ∷ v) h = (rw h.0 (f.mul_zero c), short-scale q zero c f v h.1)
short-scale q (suc k) c f (a ∷ v) h = short-scale q k c f v h

pub short-combination : (q m k : ℕ) (f : IsField q) (u : List ℕ) (bs : List (List ℕ)) → AllByRecursion (λ r. IsShort k r) bs
    → IsShort k (combination q m u bs)
short-combination q m k f [] bs h = zeros-short m k
short-combination q m k f (a ∷ u) [] h = zeros-short m k
short-combination q m k f (a ∷ u) (r ∷ bs) h =
    short-plus q k f (scale q a r) (combination q m u bs) (short-scale q k a f r h.0)
    (short-combination q m k f u bs h.1)

pub unit-long : (m k : ℕ) → k < m → IsShort k (unit m k) → ⊥
unit-long zero k room h = absurd (omega arith)
unit-long (suc m) zero room h = (let e = h.0 in omega arith)
unit-long (suc m) (suc k) room h = unit-long m k (omega arith) h

pub record Split (q m k : ℕ) (v : List ℕ) : Type 0 where
  pub first : List ℕ
  pub factor : ℕ
  pub vector : IsVector q m first
  pub short : IsShort k first
  pub code : factor < q
  pub is : v ≡ plus q first (scale q factor (unit m k))

short_split : (q m k : ℕ) (f : IsField q) (v : List ℕ) → IsVector q m v → k < m → IsShort (suc k) v → Split q m k v
short_split q zero k f v h room s = absurd (omega arith)
short_split q (suc m) k f [] h room s = absurd (let e = h.len in omega arith)
short_split q (suc m) zero f (a ∷ v) h room s =
    let hv : IsVector q m v = record { len = (let e = h.len in omega arith); codes = h.codes.1 } in
    record {
      first = zeros (suc m);
      factor = a;
      vector = zeros-vector q (suc m) f;
      short = zeros-short (suc m) zero;
      code = h.codes.0;
      is = (let z = short-zeros m v hv.len s in
          let one : add q 0 (mul q a 1) ≡ a = ap (add q 0) (f.mul_one a h.codes.0) ∙ zero-add-code q f a h.codes.0 in
          let rest : plus q (zeros m) (scale q a (zeros m)) ≡ zeros m =
          zeros-plus q m f (scale q a (zeros m)) (scale-vector q m f a (zeros m) (zeros-vector q m f)) ∙ ext q m f _
          _ (scale-vector q m f a (zeros m) (zeros-vector q m f)) (zeros-vector q m f)
          (λ p. dot-scale q f a (zeros m) p ∙ (rw (dot-zeros q f m p) (f.mul_zero a))) in
          rw (one, rest, z) refl);
    }
short_split q (suc m) (suc k) f (a ∷ v) h room s =
    let hv : IsVector q m v = record { len = (let e = h.len in omega arith); codes = h.codes.1 } in
    let r = short_split q m k f v hv (omega arith) s in
    record {
      first = a ∷ r.first;
      factor = r.factor;
      vector = record { len = (let e = r.vector.len in omega arith); codes = (h.codes.0, r.vector.codes) };
      short = r.short;
      code = r.code;
      is = (let e = r.is in rw (f.mul_zero r.factor, f.add_zero a h.codes.0) (ap (λ x. a ∷ x) e));
    }

module _ (q m : ℕ) (f : IsField q) where
  pub spans-none : Spans q m 0 []
  spans-none =
      record {
        vectors = tt;
        short = tt;
        all = λ v h s. record
            { by = []; vector = record { len = refl; codes = tt }; gives = sym (short-zeros m v h.len s) };
      }

  pub spans-short : (k : ℕ) (bs : List (List ℕ)) (v : List ℕ) → Spans q m k bs → InSpan q m bs v → IsShort k v
  spans-short k bs v h s = subst (IsShort k) s.gives (short-combination q m k f s.by bs h.short)

  pub spans-old : (k : ℕ) (bs : List (List ℕ)) (r : List ℕ) → IsVector q m r → Spans q m k bs → IsShort k r
      → Spans q m k (bs ++ r ∷ [])
  spans-old k bs r hr h s = record {
    vectors = each-append (λ r. IsVector q m r) bs (r ∷ []) h.vectors (hr, tt);
    short = each-append (λ r. IsShort k r) bs (r ∷ []) h.short (s, tt);
    all = λ v hv sv. span-snoc q m f bs r v v 0 (omega (arith, f.more_than_one)) hr (h.all v hv sv)
        (sym (cc (scale-none q m f r hr, plus-zero q m f v hv)));
  }

  more-short : (k : ℕ) (bs : List (List ℕ)) → AllByRecursion (λ r. IsShort k r) bs
      → AllByRecursion (λ r. IsShort (suc k) r) bs
  more-short k [] h = tt
  more-short k (r ∷ bs) h = (short_more k r h.0, more-short k bs h.1)

  pub spans-new : (k : ℕ) (bs : List (List ℕ)) → k < m → Spans q m k bs → Spans q m (suc k) (bs ++ unit m k ∷ [])
  spans-new k bs room h =
      let hu = unit-vector q m k f in
      record {
        vectors = each-append (λ r. IsVector q m r) bs (unit m k ∷ []) h.vectors (hu, tt);
        short = each-append (λ r. IsShort (suc k) r) bs (unit m k ∷ []) (more-short k bs h.short) (unit_short m k, tt);
        all = λ v hv sv.
            (let r = short_split q m k f v hv room sv in
            span-snoc q m f bs (unit m k) r.first v r.factor r.code hu (h.all r.first r.vector r.short) r.is);
      }

  -- the rank of formed rows
  pub rank-formed : (k n : ℕ) (bs rows : List (List ℕ)) → AreVectors q m rows → Spans q m k bs → IsFormedTo m k rows n
      → rank_after q m bs rows + k ≡ n
  rank-formed k n bs [] hr h formed = omega (arith, formed)
  rank-formed k n bs (r ∷ rows) hr h formed =
      elim formed [
        | inl s ↦
            let rest = rank-formed k n (bs ++ r ∷ []) rows hr.1 (spans-old k bs r hr.0 h s.0) s.1 in
            let is = in_span-holds q m f bs r (h.all r hr.0 s.0) in
            rw is (omega arith)
        | inr s ↦
            let new : r ≡ unit m k = s.1 in
            let hs : Spans q m (suc k) (bs ++ r ∷ []) =
            rw new (spans-new k bs s.0 h) in
            let rest = rank-formed (suc k) n (bs ++ r ∷ []) rows hr.1 hs s.2 in
            let is = in_span-none q m f bs r h.vectors hr.0
            (λ i. unit-long m k s.0 (subst (IsShort k) new (spans-short k bs r h i))) in
            rw is (omega arith)
      ]

  pub change-injective : (a : List ℕ → List ℕ) → IsChange q m a → (v w : List ℕ) → IsVector q m v → IsVector q m w
      → a v ≡ a w → v ≡ w
  change-injective a h v w hv hw e =
      let w' : List ℕ = scale q (neg q 1) w in
      let hw' = scale-vector q m f (neg q 1) w hw in
      let none : (x : List ℕ) → IsVector q m x → plus q x (scale q (neg q 1) x) ≡ zeros m =
      λ x hx. ext q m f _ _ (plus-vector q m f x _ hx (scale-vector q m f (neg q 1) x hx)) (zeros-vector q m f)
      (λ p. cc (
        dot-plus q f x (scale q (neg q 1) x) p,
        dot-scale q f (neg q 1) x p,
        one-mul q f (dot q x p) (dot_code q f x p),
        add-mul q f 1 (neg q 1) (dot q x p),
        f.add_neg 1,
        zero-mul q f (dot q x p),
        dot-zeros q f m p,
      )) in
      let moved : a (plus q v w') ≡ zeros m =
      h.sums v w' hv hw' ∙ ap₂ (plus q) e (h.multiples (neg q 1) w hw) ∙ none (a w) (h.vector w hw) in
      let gone : plus q v w' ≡ zeros m = h.zero_alone (plus q v w') (plus-vector q m f v w' hv hw') moved in
      ext q m f v w hv hw (λ p.
      let one : add q (dot q v p) (mul q (neg q 1) (dot q w p)) ≡ 0 =
      cc (dot-scale q f (neg q 1) w p, dot-plus q f v w' p, gone, dot-zeros q f m p) in
      cc (
        add-over q f (dot q w p) (dot q v p) (dot_code q f w p) (dot_code q f v p),
        one,
        f.add_zero (dot q w p) (dot_code q f w p),
      ))

  pub map-vectors : (a : List ℕ → List ℕ) → IsChange q m a → (bs : List (List ℕ)) → AreVectors q m bs
      → AreVectors q m (map a bs)
  map-vectors a h [] hb = tt
  map-vectors a h (b ∷ bs) hb = (h.vector b hb.0, map-vectors a h bs hb.1)

  pub in_span-change : (a : List ℕ → List ℕ) → IsChange q m a → (bs : List (List ℕ)) (r : List ℕ) → AreVectors q m bs
      → IsVector q m r → in_span q m (map a bs) (a r) ≡ in_span q m bs r
  in_span-change a h bs r hb hr =
      bool_same _ _
      (λ e. (let s = in_span-true q m f (map a bs) (a r) (map-vectors a h bs hb) (h.vector r hr) e in
      in_span-holds q m f bs r (record {
        by = s.by;
        vector = rw (length-map bs a) at s.vector;
        gives = change-injective a h _ r (combination-vector q m f s.by bs hb) hr
            (sym (change-combination q m f a h s.by bs hb) ∙ s.gives);
      })))
      (λ e. (let s = in_span-true q m f bs r hb hr e in
      in_span-holds q m f (map a bs) (a r) (record {
        by = s.by;
        vector = rw (length-map bs a) s.vector;
        gives = change-combination q m f a h s.by bs hb ∙ ap a s.gives;
      })))

  -- a change of the run indexes keeps the rank
  pub rank-change : (a : List ℕ → List ℕ) → IsChange q m a → (bs rows : List (List ℕ)) → AreVectors q m bs
      → AreVectors q m rows → rank_after q m (map a bs) (map a rows) ≡ rank_after q m bs rows
  rank-change a h bs [] hb hr = refl
  rank-change a h bs (r ∷ rows) hb hr =
      cc (
        in_span-change a h bs r hb hr.0,
        map_push a bs r,
        rank-change a h (bs ++ r ∷ []) rows (each-append (λ r. IsVector q m r) bs (r ∷ []) hb (hr.0, tt)) hr.1,
      )
