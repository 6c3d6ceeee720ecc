-- Where inside factors are missing, the rows of all outside factors are live.
use Rattle.std.proofs.Common.{ℕ, ◌≡◌, ◌<◌, ◌≤◌, ◌+◌, ◌-◌, ◌^◌, Bool, true, not, cond, List, [], ◌∷◌}
use Rattle.std.proofs.Common.{◌++◌, length, take, drop, refl, subst, ap, arith, inl, inr, eq-eqb}
use Rattle.std.proofs.Common.{take-append-drop, length-append}
use Rattle.std.specs.List.{AllByRecursion, sum_by}
use Rattle.std.proofs.lemmas.Bool.{and_from, ne_eqb, cond-true, false_from_ne_true, lt-ltb, ltb-true}
use Rattle.std.proofs.lemmas.List.{length-take}
use Rattle.std.proofs.lemmas.List.Sums.{sum_by-cons}
use Rattle.std.proofs.lemmas.List.Elements.{recursion_from_All}
use Rattle.std.specs.Prelude.{nat_lt}
use Rattle.fx_base.proofs.Lists.{each-append_parts}
use Rattle.fx_designs.specs.Galois.{IsField, number, digits}
use Rattle.fx_designs.specs.Vectors.{weight, combination, vectors_of}
use Rattle.fx_designs.specs.Runs.{points}
use Rattle.fx_designs.specs.Spans.{in_span}
use Rattle.fx_designs.specs.Problems.{Dimensions}
use Rattle.fx_laws.specs.Changes.{IsShort}
use Rattle.fx_laws.proofs.Codes.{number-digits, digits-vector}
use Rattle.fx_laws.proofs.Space.{combination-vector}
use Rattle.fx_laws.proofs.Shift.{all-points}
use Rattle.fx_laws.proofs.Sums.{sum_by-zero}
use Rattle.fx_laws.proofs.Raises.{sum_by-each}
use Rattle.fx_laws.proofs.Prefixes.{number-short, short-number}
use Rattle.fx_laws.proofs.CanonicalTest.{rows-vectors}
use Rattle.fx_laws.proofs.Tests.{bool_same}
use Rattle.fx_words.specs.Spreads.{spread}
use Rattle.fx_strata.specs.Designs.{Strata}
use Rattle.fx_strata.specs.Canonical.{dimensions_of, base, IsDesign}
use Rattle.fx_strata.specs.Clear.{is_live}
use Rattle.fx_strata.specs.Laws.{LiveByTallies}
use Rattle.fx_strata.proofs.Moved.{in-base, base-in}
use Rattle.fx_strata.proofs.Earlier.{InRange, stage-range, shorts}
use Rattle.fx_strata.proofs.Rests.{split}
use Rattle.fx_strata.proofs.Live.{hit, spread-total}
use Rattle.fx_laws.proofs.Ranks.{short-combination}

sum-back : (g : ℕ → ℕ) (ms ys : List ℕ) → sum_by g ys ≤ sum_by g (ms ++ ys)
sum-back g [] ys = omega arith
sum-back g (m ∷ ms) ys = (omega (arith, sum_by-cons g m (ms ++ ys), sum-back g ms ys))

sum-ones : (p : ℕ → Bool) (xs : List ℕ) → AllByRecursion (λ r. p r ≡ true) xs
    → sum_by (λ r. cond {A = ℕ} (p r) 1 0) xs ≡ length xs
sum-ones p [] h = refl
sum-ones p (x ∷ xs) h =
    let e = sum_by-cons (λ r. cond {A = ℕ} (p r) 1 0) x xs in
    let one : cond {A = ℕ} (p x) 1 0 ≡ 1 = cond-true (p x) 1 0 h.0 in
    let rest = sum-ones p xs h.1 in
    omega arith

module _ (x : Strata) (f : IsField x.q) (c s : List ℕ) (D : IsDesign x (c ++ s)) (low : length c < x.w) where
  abbrev d : Dimensions
  d = dimensions_of x

  abbrev all : List ℕ
  all = c ++ s

  some : 0 < x.q
  some = omega arith

  room : x.h ≤ x.m
  room = D.laid.base

  halves : (ms : List ℕ) × (take x.w all ≡ c ++ ms) × (s ≡ ms ++ drop x.w all)
  halves =
      let e' = D.laid.len in
      split _ _ c s (take-append-drop x.w all) (omega (arith, length-take x.w all))

  inside : AllByRecursion (λ v. IsShort x.h v) (vectors_of x.q x.m c)
  inside = elim (D.laid.first) [
    | inl e ↦ absurd (omega arith)
    | inr st ↦ shorts x f room c (each-append_parts (λ r. InRange d f 0 x.h r) c halves.0
        (subst (AllByRecursion (λ r. InRange d f 0 x.h r)) halves.1 (stage-range d f 0 x.h _ st))).0
  ]

  none-at : (k n : ℕ) → x.q ^ x.h ≤ n → spread x.q x.m (vectors_of x.q x.m c) k n ≡ 0
  none-at k n high =
      let C = vectors_of x.q x.m c in
      let ps = points x.q (length C) in
      cc (
        spread-total x.q x.m f C k n,
        sum_by-each (λ u. hit x.q x.m f k n (weight u) (combination x.q x.m u C))
            (λ u. 0) ps
            (recursion_from_All _ ps (all-points x.q (length C) some
            (λ u. hit x.q x.m f k n (weight u) (combination x.q x.m u C) ≡ 0)
            (λ u hu.
            let v = combination x.q x.m u C in
            let below =
            short-number x.q x.m x.h f v (combination-vector x.q x.m f u C (rows-vectors x.q x.m f c))
            (short-combination x.q x.m x.h f u C inside) in
            cc (ne_eqb (number x.q v) n (λ e. omega arith))))),
        sum_by-zero ps,
      )

  is-live-row : (r : ℕ) → x.q ^ x.h ≤ r → r < x.q ^ x.m → is_live x c (digits x.q x.m r) ≡ true
  is-live-row r high top =
      let v = digits x.q x.m r in
      let hv = digits-vector x.q x.m r some in
      let here = number-digits x.q x.m r some top in
      let up : x.q ^ x.h ≤ number x.q v = omega arith in
      and_from _ _ (ap not (false_from_ne_true (in_span x.q x.m (base x) v)
      (λ t. omega (arith, short-number x.q x.m x.h f v hv (in-base x f room v hv t)))))
      (and_from _ _ (eq-eqb _ _ (none-at 1 _ up)) (lt-ltb _ _ (omega (arith, none-at 2 _ up))))

  lives : (rs : List ℕ) → AllByRecursion (λ r. InRange d f x.h (x.m - x.h) r) rs
      → AllByRecursion (λ r. is_live x c (digits x.q x.m r) ≡ true) rs
  lives [] h = tt
  lives (r ∷ rs) h =
      let top =
      rw (let e : x.h + (x.m - x.h) ≡ x.m = omega (arith, room) in e) at h.0.high in
      (is-live-row r h.0.low top, lives rs h.1)

  pub others-live : x.n ≤ sum_by (λ r. cond {A = ℕ} (is_live x c (digits x.q x.m r)) 1 0) s
  others-live =
      let g : ℕ → ℕ = λ r. cond {A = ℕ} (is_live x c (digits x.q x.m r)) 1 0 in
      let back = drop x.w all in
      let ones =
      sum-ones _ back
      (lives back (stage-range d f x.h _ back D.laid.second)) in
      let e : length (take x.w all) + length back ≡ length all =
      cc (length-append (take x.w all) back, take-append-drop x.w all) in
      let e2 = D.laid.len in
      let more =
      rw (← halves.2) at (sum-back g halves.0 back) in
      omega (arith, length-take x.w all)

-- what is live is told from numbers
pub live_by_tallies : (x : Strata) (f : IsField x.q) → LiveByTallies x
live_by_tallies x f rows r room top =
    let some : 0 < x.q = omega arith in
    let v = digits x.q x.m r in
    let hv = digits-vector x.q x.m r some in
    let here = number-digits x.q x.m r some top in
    let inside =
    bool_same (in_span x.q x.m (base x) v) (nat_lt r (x.q ^ x.h))
    (λ t. lt-ltb r _
    (rw here at (short-number x.q x.m x.h f v hv (in-base x f room v hv t))))
    (λ t. base-in x f room v hv
    (number-short x.q x.m x.h f v hv (rw here (ltb-true r _ t)))) in
    cc
