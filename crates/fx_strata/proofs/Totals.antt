-- Sums over all words of some rows, of anything that depends on the weight of the word and on its sum.
use Rattle.std.proofs.Common.{ℕ, ◌≡◌, ◌<◌, ◌≤◌, ◌+◌, ◌-◌, suc, Bool, true, false, cond, eqb, ◌&&◌, List, [], ◌∷◌, ◌++◌}
use Rattle.std.proofs.Common.{map, length, refl, sym, ◌∙◌, ap, ap₂, arith, append-nil}
use Rattle.std.specs.Prelude.{nat_lt}
use Rattle.std.specs.List.{sum_by, range_with_len}
use Rattle.std.proofs.lemmas.List.{length-map}
use Rattle.std.proofs.lemmas.List.Sums.{sum_by-cons}
use Rattle.std.proofs.lemmas.List.Elements.{recursion_from_All}
use Rattle.fx_designs.specs.Galois.{IsField, codes_of}
use Rattle.fx_designs.specs.Vectors.{plus, scale, weight, combination, IsVector, zeros}
use Rattle.fx_designs.specs.Runs.{points}
use Rattle.fx_laws.specs.Changes.{IsChange}
use Rattle.fx_laws.specs.Scalings.{AreScalars, scaled, times}
use Rattle.fx_laws.specs.Reorders.{swapped, reordered}
use Rattle.fx_laws.proofs.Space.{AreVectors, combination-vector, scale-vector}
use Rattle.fx_laws.proofs.Shift.{all-points, points-sum}
use Rattle.fx_laws.proofs.Sums.{sum_by-ext}
use Rattle.fx_laws.proofs.Changes.{change-combination, scale-none}
use Rattle.fx_laws.proofs.Ranks.{zeros-plus, plus-zero}
use Rattle.fx_laws.proofs.Forms.{scale-one}
use Rattle.fx_laws.proofs.Raises.{sum_by-each}
use Rattle.fx_laws.proofs.Reorders.{length-swapped, swapped-combination, swapped-weight, points-swapped}
use Rattle.fx_laws.proofs.Reorders.{reordered-inside, move_back, reordered-append}
use Rattle.fx_laws.proofs.Scalings.{scaled-length, scaled-combination, times-weight, points-times}

module _ (q m : ℕ) (f : IsField q) where
  some : 0 < q
  some = omega arith

  abbrev pub total : (ℕ → List ℕ → ℕ) → List (List ℕ) → ℕ
  total g rows = sum_by (λ u. g (weight u) (combination q m u rows)) (points q (length rows))

  abbrev pub bit : ℕ → ℕ
  bit c = cond (nat_lt 0 c) 1 0

  -- what is left to sum over the other rows, where the first has the code c
  abbrev pub rest : (ℕ → List ℕ → ℕ) → List ℕ → ℕ → ℕ → List ℕ → ℕ
  rest g r c j v = g (bit c + j) (plus q (scale q c r) v)

  pub total-cons : (g : ℕ → List ℕ → ℕ) (r : List ℕ) (rows : List (List ℕ))
      → total g (r ∷ rows) ≡ sum_by (λ c. total (rest g r c) rows) (codes_of q)
  total-cons g r rows =
      points-sum q (length rows) (λ u. g (weight u) (combination q m u (r ∷ rows)))
      ∙ sum_by-ext _ _ (codes_of q) (λ c. sum_by-ext _ _ (points q (length rows))
      (λ u. cc (sum_by-cons (λ c. cond (nat_lt 0 c) 1 0) c u)))

  -- rows of which the sums give the same
  pub total-same : (g h : ℕ → List ℕ → ℕ) (xs ys : List (List ℕ)) → length ys ≡ length xs
      → ((u : List ℕ) → IsVector q (length xs) u
      → h (weight u) (combination q m u ys) ≡ g (weight u) (combination q m u xs))
      → total h ys ≡ total g xs
  total-same g h xs ys len same =
      cc (sum_by-each (λ u. h (weight u) (combination q m u ys)) (λ u. g (weight u) (combination q m u xs))
      (points q (length xs))
      (recursion_from_All _ _
      (all-points q _ some (λ u. h (weight u) (combination q m u ys) ≡ g (weight u) (combination q m u xs))
      same)))

  -- a change of the run indexes
  pub total-changed : (g : ℕ → List ℕ → ℕ) (a : List ℕ → List ℕ) → IsChange q m a → (xs : List (List ℕ))
      → AreVectors q m xs → total g (map a xs) ≡ total (λ j v. g j (a v)) xs
  total-changed g a h xs hx = total-same (λ j v. g j (a v)) g xs _ (length-map xs a)
      (λ u hu. ap (g (weight u)) (change-combination q m f a h u xs hx))

  -- multiples of rows
  pub total-scaled : (g : ℕ → List ℕ → ℕ) (cs : List ℕ) (xs : List (List ℕ)) → AreScalars q cs → length cs ≡ length xs
      → total g (scaled q cs xs) ≡ total g xs
  total-scaled g cs xs h e =
      let n = length xs in
      let at : List ℕ → ℕ = λ u. g (weight u) (combination q m u xs) in
      ap (λ k. sum_by (λ u. g (weight u) (combination q m u (scaled q cs xs))) (points q k)) (scaled-length q f cs xs e)
      ∙ sum_by-each (λ u. g (weight u) (combination q m u (scaled q cs xs))) (λ u. at (times q cs u)) (points q n)
      (recursion_from_All _ _ (all-points q n some
      (λ u. g (weight u) (combination q m u (scaled q cs xs)) ≡ at (times q cs u))
      (λ u hu. cc (times-weight q f cs u h (cc) hu.codes, scaled-combination q f m cs u xs e hu.len))))
      ∙ points-times q f n cs at h e

  -- another order
  pub total-swapped : (g : ℕ → List ℕ → ℕ) (k : ℕ) (xs : List (List ℕ)) → total g (swapped k xs) ≡ total g xs
  total-swapped g k xs =
      let n = length xs in
      let at : List ℕ → ℕ = λ u. g (weight u) (combination q m u xs) in
      ap (λ k'. sum_by (λ u. g (weight u) (combination q m u (swapped k xs))) (points q k')) (length-swapped k xs)
      ∙ sum_by-each (λ u. g (weight u) (combination q m u (swapped k xs))) (λ u. at (swapped k u)) (points q n)
      (recursion_from_All _ _ (all-points q n some
      (λ u. g (weight u) (combination q m u (swapped k xs)) ≡ at (swapped k u))
      (λ u hu. cc (swapped-weight q m f k u, swapped-combination q m f k u xs hu.len))))
      ∙ points-swapped q m f k n at

  pub total-reordered : (g : ℕ → List ℕ → ℕ) (ks : List ℕ) (xs : List (List ℕ)) → total g (reordered ks xs) ≡ total g xs
  total-reordered g [] xs = refl
  total-reordered g (k ∷ ks) xs = total-reordered g ks (swapped k xs) ∙ total-swapped g k xs

  turned : (xs ys : List (List ℕ)) → (ks : List ℕ) × (reordered ks (xs ++ ys) ≡ ys ++ xs)
  turned [] ys = ([], sym (append-nil ys))
  turned (x ∷ xs) ys =
      let r = turned xs ys in
      let b = move_back x ys xs in (
        map (λ k. suc k) r.0 ++ b.0,
        cc (reordered-append (map (λ k. suc k) r.0) b.0 (x ∷ (xs ++ ys)), reordered-inside x r.0 (xs ++ ys), r.1, b.1),
      )

  pub total-turned : (g : ℕ → List ℕ → ℕ) (xs ys : List (List ℕ)) → total g (xs ++ ys) ≡ total g (ys ++ xs)
  total-turned g xs ys = (let t = turned xs ys in cc (total-reordered g t.0 (xs ++ ys), t.1))

  -- lists of which all such sums are the same
  abbrev pub AreAlike : List (List ℕ) → List (List ℕ) → Type 0
  AreAlike xs ys = (g : ℕ → List ℕ → ℕ) → total g xs ≡ total g ys

  alike-behind : (us xs ys : List (List ℕ)) → AreAlike xs ys → AreAlike (us ++ xs) (us ++ ys)
  alike-behind [] xs ys h g = h g
  alike-behind (u ∷ us) xs ys h g =
      total-cons g u (us ++ xs)
      ∙ sum_by-ext _ _ (codes_of q) (λ c. alike-behind us xs ys h (rest g u c))
      ∙ sym (total-cons g u (us ++ ys))

  pub alike-both : (xs ys xs' ys' : List (List ℕ)) → AreAlike xs xs' → AreAlike ys ys'
      → AreAlike (xs ++ ys) (xs' ++ ys')
  alike-both xs ys xs' ys' h k g =
      cc (total-turned g xs ys, alike-behind ys xs xs' h g, total-turned g ys xs', alike-behind xs' ys ys' k g)

  -- more rows give no less
  pub codes-split : (h : ℕ → ℕ) → sum_by h (codes_of q) ≡ h 0 + sum_by h (range_with_len 1 (q - 1))
  codes-split h =
      ap (λ n. sum_by h (range_with_len 0 n)) (let e : q ≡ suc (q - 1) = omega arith in e)
      ∙ sum_by-cons h 0 (range_with_len 1 (q - 1))

  sum-le : (g h : ℕ → ℕ) (xs : List ℕ) → ((x : ℕ) → g x ≤ h x) → sum_by g xs ≤ sum_by h xs
  sum-le g h [] all = omega arith
  sum-le g h (x ∷ xs) all =
      omega (arith, sum_by-cons g x xs, sum_by-cons h x xs, all x, sum-le g h xs all)

  -- a row with the code 0
  pub none-first : (g : ℕ → List ℕ → ℕ) (r : List ℕ) (rows : List (List ℕ)) → IsVector q m r → AreVectors q m rows
      → total (rest g r 0) rows ≡ total g rows
  none-first g r rows hr h = total-same g (rest g r 0) rows rows refl
      (λ u hu. ap₂ (λ j v. g j v) (let e : 0 + weight u ≡ weight u = omega arith in e)
      (cc (scale-none q m f r hr, zeros-plus q m f (combination q m u rows) (combination-vector q m f u rows h))))

  pub total-grows : (g : ℕ → List ℕ → ℕ) (r : List ℕ) (rows : List (List ℕ)) → IsVector q m r → AreVectors q m rows
      → total g rows ≤ total g (r ∷ rows)
  total-grows g r rows hr h =
      let b = codes-split (λ c. total (rest g r c) rows) in
      omega (arith, total-cons g r rows, none-first g r rows hr h)

  -- a row makes no fewer words with one row more
  pub total-lifts : (g : ℕ → List ℕ → ℕ) (x y : List ℕ) (rows : List (List ℕ)) → IsVector q m x → IsVector q m y
      → AreVectors q m rows
      → total g (x ∷ rows) + total g (y ∷ rows) ≤ total g (x ∷ y ∷ rows) + total g rows
  total-lifts g x y rows hx hy h =
      let b = codes-split (λ c. total (rest g x c) rows) in
      let c = none-first g x rows hx h in
      let e = codes-split (λ c. total (rest g x c) (y ∷ rows)) in
      omega (
        arith,
        total-cons g x rows,
        total-cons g x (y ∷ rows),
        none-first g x (y ∷ rows) hx (hy, h),
        sum-le
            (λ c. total (rest g x c) rows) (λ c. total (rest g x c) (y ∷ rows)) (range_with_len 1 (q - 1))
            (λ c. total-grows (rest g x c) y rows hy h),
      )

  -- the word of no row is one of all
  total-zero : (h : ℕ → List ℕ → ℕ) (rows : List (List ℕ)) → AreVectors q m rows → h 0 (zeros m) ≤ total h rows
  total-zero h [] hr = (omega (arith, sum_by-cons (λ u. h (weight u) (combination q m u [])) [] []))
  total-zero h (r ∷ rows) hr =
      omega (arith, total-zero h rows hr.1, total-grows h r rows hr.0 hr.1)

  -- a row gives at least its own word
  pub total-adds : (g : ℕ → List ℕ → ℕ) (y : List ℕ) (rows : List (List ℕ)) → IsVector q m y → AreVectors q m rows
      → total g rows + g 1 y ≤ total g (y ∷ rows)
  total-adds g y rows hy h =
      let a = total-cons g y rows in
      let b = codes-split (λ c. total (rest g y c) rows) in
      let c = none-first g y rows hy h in
      let at : ℕ → ℕ = λ c. total (rest g y c) rows in
      let d : sum_by at (range_with_len 1 (q - 1)) ≡ at 1 + sum_by at (range_with_len 2 (q - 2)) =
      ap (λ n. sum_by at (range_with_len 1 n)) (let e : q - 1 ≡ suc (q - 2) = omega arith in e)
      ∙ sum_by-cons at 1 (range_with_len 2 (q - 2)) in
      let e : rest g y 1 0 (zeros m) ≡ g 1 y =
      cc (plus-zero q m f _ (scale-vector q m f 1 y hy), scale-one q m f y hy) in
      omega (arith, total-zero (rest g y 1) rows h)

  all-vectors : (xs ys : List (List ℕ)) → AreVectors q m xs → AreVectors q m ys → AreVectors q m (xs ++ ys)
  all-vectors [] ys hx hy = hy
  all-vectors (x ∷ xs) ys hx hy = (hx.0, all-vectors xs ys hx.1 hy)

  lifts-all : (g : ℕ → List ℕ → ℕ) (x : List ℕ) (ys rows : List (List ℕ)) → IsVector q m x → AreVectors q m ys
      → AreVectors q m rows
      → total g (x ∷ rows) + total g (ys ++ rows) ≤ total g (x ∷ (ys ++ rows)) + total g rows
  lifts-all g x [] rows hx hy h = omega arith
  lifts-all g x (y ∷ ys) rows hx hy h =
      omega (arith, lifts-all g x ys rows hx hy.1 h, total-lifts g x y _ hx hy.0 (all-vectors ys rows hy.1 h))

  -- what one more row adds
  abbrev pub added : (ℕ → List ℕ → ℕ) → List (List ℕ) → List ℕ → ℕ
  added g rows r = total g (r ∷ rows) - total g rows

  -- more rows give at least what each adds alone
  pub total-more : (g : ℕ → List ℕ → ℕ) (xs rows : List (List ℕ)) → AreVectors q m xs → AreVectors q m rows
      → total g rows + sum_by (added g rows) xs ≤ total g (xs ++ rows)
  total-more g [] rows hx h = omega arith
  total-more g (x ∷ xs) rows hx h =
      omega (
        arith,
        total-more g xs rows hx.1 h,
        lifts-all g x xs rows hx.0 hx.1 h,
        total-grows g x rows hx.0 h,
        sum_by-cons (added g rows) x xs,
      )

-- the counts of words are such sums
module _ (q m : ℕ) (f : IsField q) (test : List ℕ → Bool) (k : ℕ) where
  abbrev pub counted : ℕ → List ℕ → ℕ
  counted j v = cond (test v && eqb j k) 1 0

-- with a test that holds no more often no more is counted
pub one-less : (a b c : Bool) → (a ≡ true → b ≡ true) → cond {A = ℕ} (a && c) 1 0 ≤ cond {A = ℕ} (b && c) 1 0
one-less true b c h = (rw (h refl) (omega arith))
one-less false true true h = omega arith
one-less false true false h = omega arith
one-less false false c h = omega arith
