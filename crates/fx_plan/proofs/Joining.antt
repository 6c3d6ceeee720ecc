-- Lists that are shuffled, and their images.
use Rattle.std.proofs.Common.{ℕ, ◌≡◌, ◌+◌, ◌-◌, zero, suc, List, [], ◌∷◌, length, map, set, get_or, swap, refl, sym}
use Rattle.std.proofs.Common.{◌∙◌, ap}
use Rattle.std.specs.List.{flat_map}
use Rattle.std.proofs.lemmas.List.{map-set, length-map}
use Rattle.std.proofs.lemmas.List.Folds.{flat_map-map}
use Rattle.rand_pcg.specs.Lcg.{Lcg}
use Rattle.fx_plan.specs.Draws.{drawn, exchanged, shuffled, each_shuffled, all_shuffled}
use Rattle.fx_runs.specs.Groups.{by_group}
use Rattle.fx_plan.specs.Plans.{shuffled_in_blocks}

module _ {X Y : Type 0} (f : X → Y) where
  get_mapped : (xs : List X) (i : ℕ) (d : X) → get_or (map f xs) i (f d) ≡ f (get_or xs i d)
  get_mapped [] i d = refl
  get_mapped (x ∷ xs) zero d = refl
  get_mapped (x ∷ xs) (suc i) d = get_mapped xs i d

  swap_mapped : (xs : List X) (i j : ℕ) → swap (map f xs) i j ≡ map f (swap xs i j)
  swap_mapped [] i j = refl
  swap_mapped (d ∷ ys) i j =
      cc (
        get_mapped (d ∷ ys) j d,
        get_mapped (d ∷ ys) i d,
        map-set f (set (d ∷ ys) i (get_or (d ∷ ys) j d)) j
            (get_or (d ∷ ys) i d),
        map-set f (d ∷ ys) i (get_or (d ∷ ys) j d),
      )

  exchanged_mapped : (k : ℕ) (g : Lcg) (xs : List X)
      → exchanged g k (map f xs) ≡ (map f (exchanged g k xs).0, (exchanged g k xs).1)
  exchanged_mapped zero g xs = refl
  exchanged_mapped (suc k) g xs =
      cc (
        swap_mapped xs (k + 1) (drawn g (k + 2)).0,
        exchanged_mapped k (drawn g (k + 2)).1
            (swap xs (k + 1) (drawn g (k + 2)).0),
      )

  -- the images of items are shuffled as they are
  pub shuffled_mapped : (g : Lcg) (xs : List X) → shuffled g (map f xs) ≡ (map f (shuffled g xs).0, (shuffled g xs).1)
  shuffled_mapped g xs =
      cc (length-map xs f, exchanged_mapped (length xs - 1) g xs)

-- the images of lists are all shuffled as they are
pub all_mapped : {V X : Type 0} (f : V → List X) (g h i : Lcg) (first second third : List V)
    → (second, h) ≡ shuffled g first → (map f third, i) ≡ each_shuffled h (map f second)
    → (map f third, i) ≡ all_shuffled g (map f first)
all_mapped {V = V} {X = X} f g h i first second third e1 e2 =
    cc (shuffled_mapped f g first)

-- groups that are all shuffled are joined
pub joined_groups : {V : Type 0} (f : V → List ℕ) (g i : Lcg) (block : ℕ → ℕ) (n : ℕ) (xs : List ℕ)
    (first last : List V) (order : List ℕ)
    → map f first ≡ by_group block n xs → (map f last, i) ≡ all_shuffled g (map f first) → order ≡ flat_map f last
    → (order, i) ≡ shuffled_in_blocks g block n xs
joined_groups f g i block n xs first last order e1 e2 e3 =
    ap (λ l. (l, i)) (e3 ∙ sym (flat_map-map (λ l. l) f last))
    ∙ ap (λ p. (flat_map (λ l. l) p.0, p.1)) e2
    ∙ ap (λ l. (flat_map (λ l. l) (all_shuffled g l).0, (all_shuffled g l).1)) e1
