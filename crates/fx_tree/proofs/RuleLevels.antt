-- The rows that introduce run indexes have the run indexes as their levels, so each of the others has the levels of a
-- combination of them, and their own levels are those of a full factorial.
use Rattle.std.proofs.Common.{ℕ, ◌≡◌, ◌<◌, ◌≤◌, ◌+◌, ◌-◌, ◌^◌, zero, suc, Bool, true, false, List, [], ◌∷◌, ◌++◌}
use Rattle.std.proofs.Common.{length, take, drop, refl, sym, ap, ◌∙◌, inl, inr, arith, eqb-true, cond, eqb}
use Rattle.std.specs.Prelude.{◌==◌, ◌&&◌, if◌then◌else◌, count_by}
use Rattle.std.specs.List.{sum_by}
use Rattle.std.proofs.lemmas.Bool.{cases_Bool, cond-true, cond-false}
use Rattle.std.proofs.lemmas.List.Elements.{recursion_from_All}
use Rattle.std.proofs.Math.Nat.{pow-le-pow_right}
use Rattle.fx_designs.specs.Galois.{IsField, add, mul, digits, number, codes_of}
use Rattle.fx_designs.specs.Vectors.{IsVector, dot, vectors_of, zeros, same}
use Rattle.fx_designs.specs.Runs.{levels_at, points, runs_of}
use Rattle.fx_designs.specs.Problems.{Dimensions, Requirement}
use Rattle.fx_designs.specs.Canonical.{is_canonical}
use Rattle.fx_laws.specs.Changes.{unit, IsShort}
use Rattle.fx_laws.proofs.Codes.{digits-vector, number-digits, length-points}
use Rattle.fx_laws.proofs.Linear.{dot-zeros, dot_code, zero-mul, zero-add-code}
use Rattle.fx_laws.proofs.Prefixes.{digits-unit, number-short}
use Rattle.fx_laws.proofs.Raises.{sum_by-each}
use Rattle.fx_laws.proofs.Shift.{all-points, points-sum}
use Rattle.fx_laws.proofs.Sums.{sum_by-pick, sum_by-ext, sum_by-zero, sum_by_map, sum_by-constant}
use Rattle.fx_tree.specs.Introduced.{introduced, introducing}
use Rattle.fx_tree.proofs.Extensions.{canonical-front}
use Rattle.fx_tree.proofs.Introduced.{within, below}

module _ (q : ℕ) (f : IsField q) where
  some : 0 < q
  some = omega (arith, f.more_than_one)

  -- the level of a unit row is the code of a run index
  drop_unit : (m k : ℕ) (p : List ℕ) → IsVector q m p → k < m → drop k p ≡ dot q (unit m k) p ∷ drop (suc k) p
  drop_unit zero k p h low = absurd (omega (arith, low))
  drop_unit (suc m) k [] h low = absurd (let e = h.len in omega arith)
  drop_unit (suc m) zero (a ∷ p) h low =
      let value : add q (mul q 1 a) (dot q (zeros m) p) ≡ a =
      rw (dot-zeros q f m p, f.mul_comm 1 a, f.mul_one a h.codes.0) (f.add_zero a h.codes.0) in
      cc value
  drop_unit (suc m) (suc k) (a ∷ p) h low =
      let own : add q (mul q 0 a) (dot q (unit m k) p) ≡ dot q (unit m k) p =
      cc (zero-mul q f a, zero-add-code q f (dot q (unit m k) p) (dot_code q f (unit m k) p)) in
      cc (
        drop_unit m k p (record { len = (let e = h.len in omega arith); codes = h.codes.1 }) (omega (arith, low)),
        own,
      )

  -- a vector that has only zeros from place k on needs no more than k codes
  zero_short : (v p : List ℕ) → IsShort zero v → dot q v p ≡ 0
  zero_short [] p s = refl
  zero_short (a ∷ v) [] s = refl
  zero_short (a ∷ v) (b ∷ p) s = rw (s.0, zero-mul q f b, zero_short v p s.1) (f.add_zero 0 some)

  dot_short : (k : ℕ) (v p : List ℕ) → IsShort k v → dot q v (take k p) ≡ dot q v p
  dot_short k [] p s = refl
  dot_short zero (a ∷ v) [] s = refl
  dot_short zero (a ∷ v) (b ∷ p) s = sym (zero_short (a ∷ v) (b ∷ p) s)
  dot_short (suc k) (a ∷ v) [] s = refl
  dot_short (suc k) (a ∷ v) (b ∷ p) s = ap (add q (mul q a b)) (dot_short k v p s)

  counts_up : (k : ℕ) (rows : List ℕ) → k ≤ introduced q k rows
  counts_up k [] = omega arith
  counts_up k (row ∷ rows) = elim (cases_Bool (row == q ^ k)) [
    | inl is ↦
        let up = counts_up (k + 1) rows in
        let here : introduced q (if row == q ^ k then k + 1 else k) rows ≡ introduced q (k + 1) rows =
        cc is in
        omega (arith, up, here)
    | inr other ↦
        let up = counts_up k rows in
        let here : introduced q (if row == q ^ k then k + 1 else k) rows ≡ introduced q k rows =
        cc other in
        omega (arith, up, here)
  ]

  nothing_taken : (k : ℕ) (xs : List ℕ) → take (k - k) xs ≡ []
  nothing_taken k xs = (let none : k - k ≡ 0 = omega arith in cc none)

  -- the levels of the introducing rows are the run indexes that they introduce
  indexes : (m k : ℕ) (rows p : List ℕ) → IsVector q m p → introduced q k rows ≤ m
      → introducing q k rows (levels_at q (vectors_of q m rows) p) ≡ take (introduced q k rows - k) (drop k p)
  indexes m k [] p h fits = sym (nothing_taken k (drop k p))
  indexes m k (row ∷ rows) p h fits = elim (cases_Bool (row == q ^ k)) [
    | inl is ↦
        let levels : List ℕ = levels_at q (vectors_of q m rows) p in
        let last : ℕ = introduced q (k + 1) rows in
        let up = counts_up (k + 1) rows in
        let here : introduced q (if row == q ^ k then k + 1 else k) rows ≡ last =
        cc is in
        let room : k < m = omega (arith, up, here, fits) in
        let level : dot q (digits q m row) p ≡ dot q (unit m k) p =
        cc (eqb-true row (q ^ k) is, digits-unit q m k f room) in
        let rest = indexes m (k + 1) rows p h (omega (arith, here, fits)) in
        let next : k + 1 ≡ suc k = omega arith in
        let more : last - k ≡ suc (last - (k + 1)) = omega (arith, up) in
        cc (
          cond-true (row == q ^ k) (dot q (digits q m row) p ∷ introducing q (k + 1) rows levels)
              (introducing q k rows levels) is,
          level,
          rest,
          next,
          here,
          drop_unit m k p h room,
          more,
        )
    | inr other ↦
        let levels : List ℕ = levels_at q (vectors_of q m rows) p in
        let here : introduced q (if row == q ^ k then k + 1 else k) rows ≡ introduced q k rows =
        cc other in
        cc (
          cond-false (row == q ^ k) (dot q (digits q m row) p ∷ introducing q (k + 1) rows levels)
              (introducing q k rows levels) other,
          indexes m k rows p h (omega (arith, here, fits)),
          here,
        )
  ]

  first_indexes : (m : ℕ) (rows p : List ℕ) → IsVector q m p → introduced q 0 rows ≤ m
      → introducing q 0 rows (levels_at q (vectors_of q m rows) p) ≡ take (introduced q 0 rows) p
  first_indexes m rows p h fits =
      let all : introduced q 0 rows - 0 ≡ introduced q 0 rows = omega arith in
      cc (indexes m 0 rows p h fits, all)

  pub ruled : (m : ℕ) (rows : List ℕ) (row : ℕ) (p : List ℕ) → IsVector q m p → introduced q 0 rows ≤ m
      → row < q ^ introduced q 0 rows
      → dot q (digits q m row) (introducing q 0 rows (levels_at q (vectors_of q m rows) p)) ≡ dot q (digits q m row) p
  ruled m rows row p h fits low =
      let last : ℕ = introduced q 0 rows in
      let v : List ℕ = digits q m row in
      let wide : q ^ last ≤ q ^ m = pow-le-pow_right some fits in
      let named : number q v ≡ row = number-digits q m row some (omega (arith, low, wide)) in
      cc (
        first_indexes m rows p h fits,
        dot_short last v p (number-short q m last f v (digits-vector q m row some) (omega (arith, low, named))),
      )

  -- how many points begin with these codes
  beginning : (m n : ℕ) (c : List ℕ) → IsVector q n c → n ≤ m
      → count_by (λ p. same (take n p) c) (points q m) ≡ q ^ (m - n)
  beginning m zero [] h fits = let all : m - 0 ≡ m = omega arith in
      sum_by-constant 1 (points q m) ∙ omega arith ∙ length-points q m ∙ ap (λ k. q ^ k) (sym all)
  beginning m zero (a ∷ c) h fits = absurd (let e = h.len in omega arith)
  beginning m (suc n) [] h fits = absurd (let e = h.len in omega arith)
  beginning zero (suc n) (a ∷ c) h fits = absurd (omega (arith, fits))
  beginning (suc m) (suc n) (a ∷ c) h fits =
      let rest : count_by (λ p. same (take n p) c) (points q m) ≡ q ^ (m - n) =
      beginning m n c (record { len = (let e = h.len in omega arith); codes = h.codes.1 }) (omega (arith, fits)) in
      let less : suc m - suc n ≡ m - n = omega arith in
      let at_code : (b : ℕ) → sum_by (λ p. cond (eqb b a && same (take n p) c) 1 0) (points q m)
      ≡ cond (eqb b a) (q ^ (m - n)) 0 = λ b. elim (cases_Bool (eqb b a)) [
        | inl is ↦ rw is rest
        | inr other ↦ rw other (sum_by-zero (points q m))
      ] in
      cc (
        points-sum q m (λ p. cond (same (take (suc n) p) (a ∷ c)) 1 0),
        sum_by-ext _ _ (codes_of q) at_code,
        sum_by-pick (λ x. q ^ (m - n)) a 0 q (omega arith) (omega (arith, h.codes.0)),
        less,
      )

  pub factorial : (m : ℕ) (rows c : List ℕ) → introduced q 0 rows ≤ m → IsVector q (introduced q 0 rows) c
      → count_by (λ x. same (introducing q 0 rows x) c) (runs_of q m (vectors_of q m rows))
      ≡ q ^ (m - introduced q 0 rows)
  unfolding runs_of
  factorial m rows c fits h =
      let levels : List ℕ → List ℕ = levels_at q (vectors_of q m rows) in
      let count : Bool → ℕ = λ b. cond b 1 0 in
      let n = introduced q 0 rows in
      let here : (p : List ℕ) → IsVector q m p
      → count (same (introducing q 0 rows (levels p)) c) ≡ count (same (take n p) c) =
      λ p hp. cc (first_indexes m rows p hp fits) in
      sum_by_map (λ x. count (same (introducing q 0 rows x) c)) levels (points q m)
      ∙ sum_by-each (λ p. count (same (introducing q 0 rows (levels p)) c)) (λ p. count (same (take n p) c))
      (points q m)
      (recursion_from_All _ (points q m) (all-points q m some _ here))
      ∙ beginning m (introduced q 0 rows) c h fits

module _ (d : Dimensions) (f : IsField d.q) (wanted : Requirement) where
  pub levels : (rows : List ℕ) (row : ℕ) (p : List ℕ) → is_canonical d wanted (rows ++ row ∷ []) ≡ true
      → (row == d.q ^ introduced d.q 0 rows) ≡ false → IsVector d.q d.m p
      → dot d.q (digits d.q d.m row) (introducing d.q 0 rows (levels_at d.q (vectors_of d.q d.m rows) p))
      ≡ dot d.q (digits d.q d.m row) p
  levels rows row p can none h =
      ruled d.q f d.m rows row p h
      (within d f wanted (length rows) rows refl (canonical-front d f wanted rows row can))
      (below d f wanted rows row can none)

  pub combinations : (rows c : List ℕ) → is_canonical d wanted rows ≡ true → IsVector d.q (introduced d.q 0 rows) c
      → count_by (λ x. same (introducing d.q 0 rows x) c) (runs_of d.q d.m (vectors_of d.q d.m rows))
      ≡ d.q ^ (d.m - introduced d.q 0 rows)
  combinations rows c can = factorial d.q f d.m rows c (within d f wanted (length rows) rows refl can)
