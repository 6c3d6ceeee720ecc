-- Sums over lists that are shuffled: how often anything is in them.
use Rattle.std.proofs.Common.{ℕ, ◌≡◌, ◌<◌, ◌+◌, ◌-◌, zero, suc, cond, eqb, List, [], ◌∷◌}
use Rattle.std.proofs.Common.{length, filter, swap, refl, ◌∙◌, ap, arith, All}
use Rattle.std.specs.List.{sum_by, range_with_len, AllByRecursion}
use Rattle.std.proofs.lemmas.List.Sums.{sum_by-cons}
use Rattle.std.proofs.lemmas.List.Sorted.{sum_by-IsPermutation, IsPermutation-swap}
use Rattle.std.proofs.lemmas.List.Elements.{recursion_from_All}
use Rattle.std.proofs.lemmas.List.Edits.{length-swap}
use Rattle.fx_laws.proofs.Sums.{sum_by-ext, sum_by_flat_map, sum_by_map, sum_by-swap, sum_by-pick}
use Rattle.fx_laws.proofs.Blocks.{sum_by-filter}
use Rattle.rand_pcg.specs.Lcg.{Lcg}
use Rattle.fx_base.proofs.Numbers.{eqb_comm}
use Rattle.fx_plan.specs.Draws.{drawn, exchanged, shuffled, each_shuffled, all_shuffled}
use Rattle.fx_runs.specs.Groups.{by_group}
use Rattle.fx_plan.specs.Plans.{shuffled_in_blocks}
use Rattle.fx_plan.proofs.Words.{drawn_low}

module _ {X : Type 0} (f : X → ℕ) where
  exchanged_total : (k : ℕ) (g : Lcg) (xs : List X) → k < length xs → sum_by f (exchanged g k xs).0 ≡ sum_by f xs
  exchanged_total zero g xs h = refl
  exchanged_total (suc k) g xs h =
      let j = (drawn g (k + 2)).0 in
      let low = drawn_low g (k + 2) (omega arith) in
      let next = swap xs (k + 1) j in
      exchanged_total k (drawn g (k + 2)).1 next (omega (arith, length-swap xs (k + 1) j))
      ∙ sum_by-IsPermutation f xs next (IsPermutation-swap xs next (k + 1) j (omega arith) (omega arith) refl)

  pub shuffled_total : (g : Lcg) (xs : List X) → sum_by f (shuffled g xs).0 ≡ sum_by f xs
  shuffled_total g [] = refl
  shuffled_total g (x ∷ xs) = exchanged_total (length (x ∷ xs) - 1) g (x ∷ xs) (omega arith)

  pub each_total : (lists : List (List X)) (g : Lcg)
      → sum_by (λ l. sum_by f l) (each_shuffled g lists).0 ≡ sum_by (λ l. sum_by f l) lists
  each_total [] g = refl
  each_total (xs ∷ lists) g =
      cc (
        sum_by-cons (sum_by f) (shuffled g xs).0 (each_shuffled (shuffled g xs).1 lists).0,
        shuffled_total g xs,
        each_total lists (shuffled g xs).1,
        sum_by-cons (sum_by f) xs lists,
      )

module _ (f : ℕ → ℕ) (block : ℕ → ℕ) (n : ℕ) where
  in_its_group : (x : ℕ) → block x < n → sum_by (λ z. cond (eqb (block x) z) (f x) 0) (range_with_len 0 n) ≡ f x
  in_its_group x low =
      sum_by-ext (λ z. cond (eqb (block x) z) (f x) 0) (λ z. cond (eqb z (block x)) (f x) 0) (range_with_len 0 n)
      (λ z. ap (λ b. cond b (f x) 0) (eqb_comm (block x) z))
      ∙ sum_by-pick (λ z. f x) (block x) 0 n (omega arith) (omega arith)

  all_in_groups : (xs : List ℕ) → AllByRecursion (λ x. block x < n) xs
      → sum_by (λ x. sum_by (λ z. cond (eqb (block x) z) (f x) 0) (range_with_len 0 n)) xs ≡ sum_by f xs
  all_in_groups [] h = refl
  all_in_groups (x ∷ xs) h =
      cc (
        sum_by-cons (λ x. sum_by (λ z. cond (eqb (block x) z) (f x) 0) (range_with_len 0 n)) x xs,
        in_its_group x h.0,
        all_in_groups xs h.1,
        sum_by-cons f x xs,
      )

  groups_total : (xs : List ℕ) → AllByRecursion (λ x. block x < n) xs
      → sum_by (λ l. sum_by f l) (by_group block n xs) ≡ sum_by f xs
  groups_total xs h =
      cc (
        sum_by_map (sum_by f) (λ z. filter (λ x. eqb (block x) z) xs) (range_with_len 0 n),
        sum_by-ext
            (λ z. sum_by f (filter (λ x. eqb (block x) z) xs))
            (λ z. sum_by (λ x. cond (eqb (block x) z) (f x) 0) xs) (range_with_len 0 n)
            (λ z. sum_by-filter f (λ x. eqb (block x) z) xs),
        sum_by-swap (λ z x. cond (eqb (block x) z) (f x) 0)
            (range_with_len 0 n) xs,
        all_in_groups xs h,
      )

  -- nothing is lost and nothing added where runs are shuffled in blocks
  pub order_total : (g : Lcg) (xs : List ℕ) → All (λ x. block x < n) xs
      → sum_by f (shuffled_in_blocks g block n xs).0 ≡ sum_by f xs
  order_total g xs h =
      let groups = by_group block n xs in
      cc (
        sum_by_flat_map f (λ group. group) (all_shuffled g groups).0,
        each_total f (shuffled g groups).0
            (shuffled g groups).1,
        shuffled_total (sum_by f) g groups,
        groups_total xs (recursion_from_All _ xs h),
      )
