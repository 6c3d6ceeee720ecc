-- One row more in the counts.
use Rattle.std.proofs.Common.{ℕ, ◌≡◌, ◌<◌, ◌≤◌, ◌+◌, ◌-◌, ◌*◌, ◌/◌, ◌%◌, ◌^◌, ◌&&◌, zero, suc, false, cond, eqb, List}
use Rattle.std.proofs.Common.{[], ◌∷◌, ◌++◌, length, replicate, get_or, set, slice_index, refl, ◌∙◌}
use Rattle.std.proofs.Common.{arith, inl, inr, suc-mul}
use Rattle.std.specs.Prelude.{bit_xor}
use Rattle.std.proofs.lemmas.Bool.{cases_eq, ne_eqb, and_right}
use Rattle.std.proofs.lemmas.Nat.{mod-mul-add, xor_lt}
use Rattle.std.proofs.Math.Nat.{one-le-pow, mod-lt}
use native.Mathlib.Nat.{div-lt_iff_lt-mul}
use Rattle.std.proofs.lemmas.Grind.{get_or-set_at}
use Rattle.std.proofs.lemmas.List.{get_or-set_other, length_push, length-set}
use Rattle.fx_designs.specs.Galois.{neg, digits, prime_of, degree_of}
use Rattle.fx_designs.specs.Vectors.{scale, vectors_of}
use Rattle.fx_laws.proofs.Codes.{digits-vector}
use Rattle.fx_laws.proofs.Forms.{scale-one}
use Rattle.fx_laws.proofs.Space.{scale-vector}
use Rattle.fx_demands.proofs.Digits.{sum_xor}
use Rattle.fx_words.specs.Spreads.{spread}
use Rattle.fx_words.specs.Tables.{difference}
use Rattle.fx_words.proofs.Levels.{length-vectors, so_far-one, so_far-more, so_far-all, spread-fits, spread-none}
use Rattle.fx_foldover.specs.Counts.{AreCounts}
use Rattle.fx_foldover.proofs.Rules.{two}
use Rattle.fx_words.proofs.Starts.{spread-start}
use Rattle.fx_points.proofs.Multiples.{place_below}

-- where the count of the weight below is, for the point less the row
abbrev pub lighter_place : ℕ → ℕ → ℕ → ℕ
lighter_place points row place = place - points - place % points + bit_xor (place % points) row

-- the counts from a place on have those of the weight below added, and the others are as before
pub record IsAdded (points row place : ℕ) (before counts : List ℕ) : Type 0 where
  pub len : length counts ≡ length before
  pub done : (p : ℕ) → place ≤ p → p < length before
      → slice_index counts p ≡ slice_index before p + slice_index before (lighter_place points row p)
  pub left : (p : ℕ) → p < place → slice_index counts p ≡ slice_index before p

pub begin : (points row place : ℕ) (counts : List ℕ) → length counts ≤ place → IsAdded points row place counts counts
begin points row place counts past =
    record { len = refl; done = λ p hp low. absurd (omega arith); left = λ p hp. refl }

-- the lighter place is a weight below
lighter-before : (n row place : ℕ) → row < 2 ^ n → 2 ^ n ≤ place → 0 < 2 ^ n → lighter_place (2 ^ n) row place < place
lighter-before n row place hr low some =
    let x = place % 2 ^ n in
    let below = xor_lt n x row (omega arith) hr in
    let whole : 2 ^ n * (place / 2 ^ n) + place % 2 ^ n ≡ place = omega arith in
    omega arith

-- one place more
pub add : (points row place : ℕ) (before counts : List ℕ) (v : ℕ) → IsAdded points row (place + 1) before counts
    → place < length before → v ≡ slice_index before place + slice_index before (lighter_place points row place)
    → IsAdded points row place before (set counts place v)
add points row place before counts v h low is = record {
  len = cc (length-set counts place v);
  done = λ p hp inside. elim (cases_eq p place) [
    | inl here ↦
        cc (get_or-set_at counts place p v 0 here (omega arith))
    | inr other ↦
        get_or-set_other counts place p v 0 other ∙ h.done p (omega arith) inside
  ];
  left = λ p hp. get_or-set_other counts place p v 0 (λ e. omega arith) ∙ h.left p (omega arith);
}

neg_one : neg 2 1 ≡ 1
unfolding neg prime_of degree_of
neg_one = refl

-- at two levels a difference is the exclusive or
difference-two : (n x r : ℕ) → x < 2 ^ n → r < 2 ^ n → difference 2 n x 1 r ≡ bit_xor x r
difference-two n x r hx hr =
    let row = scale 2 1 (digits 2 n r) in
    let vector = scale-vector 2 n two 1 _ (digits-vector 2 n r (omega arith)) in
    cc (neg_one, scale-one 2 n two row vector, sum_xor n x r hx hr)

spread-two : (n : ℕ) (rows : List ℕ) (r w x : ℕ) → 0 < w → x < 2 ^ n → r < 2 ^ n
    → spread 2 n (vectors_of 2 n rows) w x + spread 2 n (vectors_of 2 n rows) (w - 1) (bit_xor x r)
    ≡ spread 2 n (vectors_of 2 n (rows ++ r ∷ [])) w x
spread-two n rows r w x some hx hr =
    let vectors = vectors_of 2 n rows in
    cc (
      difference-two n x r hx hr,
      so_far-one 2 n rows r w x,
      so_far-more 2 n rows r w x 1 some (omega arith),
      so_far-all 2 n two rows r w x hx,
    )

lighter_at : (points row w x : ℕ) → x < points
    → lighter_place points row (suc w * points + x) ≡ w * points + bit_xor x row
lighter_at points row w x low =
    let first : suc w * points + x - points - x ≡ w * points = omega (arith, suc-mul w points) in
    cc (mod-mul-add (suc w) points x low)

-- the sum of two counts is that of one row more
new-count : (n s : ℕ) (rows : List ℕ) (row points : ℕ) (before : List ℕ) → points ≡ 2 ^ n → row < 2 ^ n
    → AreCounts n s rows before → (w x : ℕ) → suc w ≤ s → x < 2 ^ n
    → slice_index before (suc w * 2 ^ n + x)
    + slice_index before (lighter_place points row (suc w * 2 ^ n + x))
    ≡ spread 2 n (vectors_of 2 n (rows ++ row ∷ [])) (suc w) x
new-count n s rows row points before ep hr old w x hw hx =
    let p : ℕ = suc w * 2 ^ n + x in
    let vectors = vectors_of 2 n rows in
    let less : suc w - 1 ≡ w = omega arith in
    let moved : lighter_place points row p ≡ w * 2 ^ n + bit_xor x row =
    cc (lighter_at _ row w x hx) in
    cc (
      old.are (suc w) x hw hx,
      old.are w (bit_xor x row) (omega arith) (xor_lt n x row hx hr),
      spread-two n rows row
          (suc w) x (omega arith) hx hr,
    )

-- the counts at a place that is still to come, and at its lighter place, are as before
pub both-left : (n row points place p : ℕ) (before counts : List ℕ) → points ≡ 2 ^ n → row < 2 ^ n → points ≤ p
    → place ≡ p + 1 → IsAdded points row place before counts
    → slice_index counts p + slice_index counts (lighter_place points row p)
    ≡ slice_index before p + slice_index before (lighter_place points row p)
both-left n row points place p before counts ep hr low next h =
    let light =
    rw (← ep) at (lighter-before n row p hr (omega arith) (one-le-pow n 2 (omega arith))) in
    cc (h.left p (omega arith), h.left (lighter_place points row p) (omega arith))

-- a sum of two counts fits
pub sum-fits : (n s : ℕ) (rows : List ℕ) (row points p : ℕ) (before : List ℕ) → points ≡ 2 ^ n → row < 2 ^ n
    → points ≤ p → p < (s + 1) * 2 ^ n → 2 ^ (length rows + 1) < 2 ^ 127 → AreCounts n s rows before
    → slice_index before p + slice_index before (lighter_place points row p) < 2 ^ 128
sum-fits n s rows row points p before ep hr low high few old =
    let some = one-le-pow n 2 (omega arith) in
    let inside : p / 2 ^ n < s + 1 = (div-lt_iff_lt-mul some).1 high in
    go (p / 2 ^ n) (p % 2 ^ n) (omega arith) (mod-lt p some) (omega arith)
  where
    go : (w x : ℕ) → p ≡ w * 2 ^ n + x → x < 2 ^ n → w ≤ s
        → slice_index before p + slice_index before (lighter_place points row p) < 2 ^ 128
    go zero x is hx hw = absurd (omega arith)
    go (suc w) x is hx hw =
        let all = vectors_of 2 n (rows ++ row ∷ []) in
        let fits =
        spread-fits 2 n all (suc w) x (rw (length-vectors 2 n (rows ++ row ∷ []) ∙ length_push rows row) few) in
        let same : slice_index before p + slice_index before (lighter_place points row p) ≡ spread 2 n all (suc w) x =
        cc (new-count n s rows row points before ep hr old w x hw hx) in
        omega arith

-- where the loop has come to its end, the row is counted
pub added : (n s : ℕ) (rows : List ℕ) (row points place : ℕ) (before counts : List ℕ) → points ≡ 2 ^ n → row < 2 ^ n
    → place ≤ points → points ≤ place → AreCounts n s rows before → IsAdded points row place before counts
    → AreCounts n s (rows ++ row ∷ []) counts
added n s rows row points place before counts ep hr le ge old h = record {
  len = cc;
  are = λ w x hw hx. at w x hw hx;
}
  where
    inside : (w x : ℕ) → w ≤ s → x < 2 ^ n → w * 2 ^ n + x < length before
    inside w x hw hx = (let below = place_below _ (s + 1) w x (omega arith) hx in omega arith)

    at : (w x : ℕ) → w ≤ s → x < 2 ^ n
        → slice_index counts (w * 2 ^ n + x) ≡ spread 2 n (vectors_of 2 n (rows ++ row ∷ [])) w x
    at zero x hw hx =
        cc (h.left (0 * 2 ^ n + x) (omega arith), old.are 0 x hw hx, spread-none 2 n two rows row 0 x refl hx)
    at (suc w) x hw hx =
        h.done (suc w * 2 ^ n + x) (omega (arith, suc-mul w (2 ^ n))) (inside _ x hw hx)
        ∙ new-count n s rows row points before ep hr old w x hw hx

-- the counts of no rows
pub start : (n s count : ℕ) → count ≡ (s + 1) * 2 ^ n → 0 < count → AreCounts n s [] (set (replicate count 0) 0 1)
start n s count e some = record {
  len = length-set (replicate count 0) 0 1 ∙ length-zeros count ∙ e;
  are = λ w x hw hx. cc (at w x hx, spread-start 2 n w x);
}
  where
    length-zeros : (n : ℕ) → length (replicate {A = ℕ} n 0) ≡ n
    length-zeros zero = refl
    length-zeros (suc n) = cc (length-zeros n)

    at-zeros : (n i : ℕ) → ◌≡◌ {A = ℕ} (get_or (replicate n 0) i 0) 0
    at-zeros zero zero = refl
    at-zeros zero (suc i) = refl
    at-zeros (suc n) zero = refl
    at-zeros (suc n) (suc i) = at-zeros n i

    away : (p : ℕ) → (p ≡ 0 → ⊥) → ◌≡◌ {A = ℕ} (get_or (set (replicate count 0) 0 1) p 0) 0
    away p other = get_or-set_other (replicate count 0) 0 p 1 0 other ∙ at-zeros count p

    at : (w x : ℕ) → x < 2 ^ n
        → ◌≡◌ {A = ℕ} (slice_index (set (replicate count 0) 0 1) (w * 2 ^ n + x)) (cond (eqb 0 x && eqb 0 w) 1 0)
    at zero zero hx =
        get_or-set_at (replicate count 0) 0 (0 * 2 ^ n + 0) 1 0 (omega arith) (omega (arith, length-zeros count))
    at zero (suc x) hx =
        cc (away (0 * 2 ^ n + suc x) (λ e. omega arith), ne_eqb 0 (suc x) (λ e. omega arith))
    at (suc w) x hx =
        let up = suc-mul w (2 ^ n) in
        cc (
          away (suc w * 2 ^ n + x) (λ e. omega arith),
          ne_eqb 0 (suc w) (λ e. omega arith),
          and_right (eqb 0 x) false
              refl,
        )
