-- What holds of each item of a list, of which runs and values are shuffled.
use Rattle.std.proofs.Common.{ℕ, ◌≡◌, ◌+◌, ◌-◌, ◌==◌, zero, suc, List, [], ◌∷◌, length, map, filter}
use Rattle.std.proofs.Common.{get_or, swap, refl, sym, subst, ◌∙◌, arith, inl, inr, All}
use Rattle.std.specs.List.{AllByRecursion, flat_map, range_with_len}
use Rattle.std.proofs.Math.ListN.{get_or-eq_default}
use Rattle.std.proofs.lemmas.Bool.{cases_lt}
use Rattle.std.proofs.lemmas.List.Elements.{All-set, All-append, All-filter, recursion_from_All}
use Rattle.std.proofs.lemmas.List.Elements.{All-from_recursion}
use Rattle.std.proofs.lemmas.List.Edits.{length-swap}
use Rattle.rand_pcg.specs.Lcg.{Lcg}
use Rattle.fx_plan.specs.Draws.{drawn, exchanged, shuffled, each_shuffled, all_shuffled}
use Rattle.fx_runs.specs.Groups.{by_group}
use Rattle.fx_plan.specs.Plans.{shuffled_in_blocks}

module _ {X : Type 0} (P : X → Type 0) where
  at_any : (d : X) (ys : List X) (i : ℕ) → All P (d ∷ ys) → P (get_or (d ∷ ys) i d)
  at_any d ys i h =
      elim (cases_lt i (length (d ∷ ys))) [
        | inl low ↦ h i d low
        | inr high ↦ subst P (sym (get_or-eq_default (d ∷ ys) d high)) (h 0 d (omega arith))
      ]

  pub swap_keeps : (xs : List X) (i j : ℕ) → All P xs → All P (swap xs i j)
  swap_keeps [] i j h = h
  swap_keeps (d ∷ ys) i j h =
      All-set P _ j _ (at_any d ys i h)
      (All-set P (d ∷ ys) i _ (at_any d ys j h) h)

  exchanged_keeps : (k : ℕ) (g : Lcg) (xs : List X) → All P xs → All P (exchanged g k xs).0
  exchanged_keeps zero g xs h = h
  exchanged_keeps (suc k) g xs h =
      exchanged_keeps k (drawn g (k + 2)).1 (swap xs (k + 1) (drawn g (k + 2)).0)
      (swap_keeps xs _ (drawn g (k + 2)).0 h)

  pub shuffled_keeps : (g : Lcg) (xs : List X) → All P xs → All P (shuffled g xs).0
  shuffled_keeps g xs h = exchanged_keeps (length xs - 1) g xs h

  pub flat_map_keeps : {Y : Type 0} (f : Y → List X) (ys : List Y) → AllByRecursion (λ y. All P (f y)) ys
      → All P (flat_map f ys)
  flat_map_keeps f [] h = λ k d low. absurd (omega arith)
  flat_map_keeps f (y ∷ ys) h = All-append P _ _ h.0 (flat_map_keeps f ys h.1)

-- what shuffling keeps of a list, it keeps of each of some lists
pub each_keeps : {X : Type 0} (Q : List X → Type 0) → ((g : Lcg) (xs : List X) → Q xs → Q (shuffled g xs).0)
    → (lists : List (List X)) (g : Lcg) → AllByRecursion Q lists → AllByRecursion Q (each_shuffled g lists).0
each_keeps Q kept [] g h = tt
each_keeps Q kept (xs ∷ lists) g h = (kept g xs h.0, each_keeps Q kept lists (shuffled g xs).1 h.1)

each_filter : (P : ℕ → Type 0) (block : ℕ → ℕ) (xs : List ℕ) (zs : List ℕ) → All P xs
    → AllByRecursion (All P) (map (λ z. filter (λ x. block x == z) xs) zs)
each_filter P block xs [] h = tt
each_filter P block xs (z ∷ zs) h = (All-filter (λ x. block x == z) P xs h, each_filter P block xs zs h)

-- each row of an order that is shuffled was in it
pub order_keeps : (P : ℕ → Type 0) (g : Lcg) (block : ℕ → ℕ) (n : ℕ) (xs : List ℕ) → All P xs
    → All P (shuffled_in_blocks g block n xs).0
order_keeps P g block n xs h =
    let groups = by_group block n xs in
    let all : All (All P) groups = All-from_recursion _ groups (each_filter P block xs (range_with_len 0 n) h) in
    let mixed =
    recursion_from_All _ (shuffled g groups).0 (shuffled_keeps (All P) g groups all) in
    flat_map_keeps P _ (all_shuffled g groups).0
    (each_keeps _ (λ g xs. shuffled_keeps P g xs) (shuffled g groups).0 (shuffled g groups).1 mixed)

length-exchanged : {X : Type 0} (k : ℕ) (g : Lcg) (xs : List X) → length (exchanged g k xs).0 ≡ length xs
length-exchanged zero g xs = refl
length-exchanged (suc k) g xs =
    length-exchanged k (drawn g (k + 2)).1 (swap xs (k + 1) (drawn g (k + 2)).0) ∙ length-swap xs (k + 1)
    (drawn g (k + 2)).0

-- lists keep their lengths where they are shuffled
pub lengths_shuffled : {X : Type 0} (g : Lcg) (lists : List (List X))
    → map length (each_shuffled g lists).0 ≡ map length lists
lengths_shuffled g [] = refl
lengths_shuffled g (xs ∷ rest) =
    cc (length-exchanged (length xs - 1) g xs, lengths_shuffled (shuffled g xs).1 rest)
