-- What tests of lists say: of every number below a bound, of every vector.
use Rattle.std.proofs.Common.{ℕ, ◌≡◌, ◌<◌, Bool, true, false, not, ◌||◌, List, [], ◌∷◌, refl, sym, subst, ◌∙◌, zero-add}
use Rattle.std.specs.Bool.{Decides}
use Rattle.std.specs.List.{list_all, list_any, range_with_len, All, AllByRecursion}
use Rattle.std.proofs.lemmas.Bool.{both_ways}
use Rattle.std.proofs.lemmas.Bool.Decides.{Decides-by_and}
use Rattle.std.proofs.lemmas.List.Elements.{All-get_or, All-from_get_or}
use Rattle.std.proofs.lemmas.List.FromFn.{length-range_with_len, get_or-range_with_len}
use Rattle.fx_designs.specs.Vectors.{IsVector}
use Rattle.fx_designs.specs.Runs.{points}
use Rattle.fx_laws.proofs.Shift.{all-points, points-each}

-- of each item
pub all_decides : {X : Type 0} (p : X → Bool) (P : X → Type 0) → ((x : X) → Decides (p x) (P x)) → (xs : List X)
    → Decides (list_all p xs) (All P xs)
all_decides p P each xs = Decides-by_and p P (list_all p) each refl (λ x xs. refl) xs

-- of each item, as true
pub all_true : {X : Type 0} (p : X → Bool) (xs : List X) → Decides (list_all p xs) (All (λ x. p x ≡ true) xs)
all_true p xs = all_decides p (λ x. p x ≡ true) (λ x. (λ e. e, λ e. e)) xs

-- of each number below n
pub range_decides : (p : ℕ → Bool) (n : ℕ) → Decides (list_all p (range_with_len 0 n)) ((k : ℕ) → k < n → p k ≡ true)
range_decides p n =
    let both = all_true p (range_with_len 0 n) in (
      λ e k h.
          rw (get_or-range_with_len 0 n k 0 h ∙ zero-add k) at (All-get_or (λ x. p x ≡ true) (range_with_len 0 n) k 0
          (subst (λ z. k < z) (sym (length-range_with_len 0 n)) h) (both.0 e)),
      λ each.
          both.1 (All-from_get_or (λ x. p x ≡ true) (range_with_len 0 n) 0 (λ i h.
          let low : i < n = rw (length-range_with_len 0 n) at h in
          rw (get_or-range_with_len 0 n i 0 low ∙ zero-add i) (each i low))),
    )

-- of each vector of length n
pub points_decides : (q n : ℕ) → 0 < q → (p : List ℕ → Bool)
    → Decides (list_all p (points q n)) ((u : List ℕ) → IsVector q n u → p u ≡ true)
points_decides q n some p =
    let both = all_true p (points q n) in (
      λ e u h. points-each q n some (λ u. p u ≡ true) (both.0 e) u h,
      λ each. both.1 (all-points q n some (λ u. p u ≡ true) each),
    )

-- a premise and a conclusion
pub implies_decides : (a b : Bool) → Decides (not a || b) (a ≡ true → b ≡ true)
implies_decides true b = (λ e h. e, λ e. e refl)
implies_decides false b = (λ e h. absurd (both_ways false refl h), λ e. refl)

-- tests that are passed together are the same
pub bool_same : (a b : Bool) → (a ≡ true → b ≡ true) → (b ≡ true → a ≡ true) → a ≡ b
bool_same true b to from = sym (to refl)
bool_same false true to from = from refl
bool_same false false to from = refl

-- some item of a list passes
pub some_item : {X : Type 0} (p : X → Bool) (P : X → Type 0) (xs : List X) → AllByRecursion P xs → list_any p xs ≡ true
    → (x : X) × P x × (p x ≡ true)
some_item p P [] all e = absurd (both_ways false refl e)
some_item {X} p P (x ∷ xs) all e =
    let go : (b : Bool) → p x ≡ b → (b || list_any p xs) ≡ true → (y : X) × P y × (p y ≡ true) =
    λ b. elim b as (λ b. p x ≡ b → (b || list_any p xs) ≡ true → (y : X) × P y × (p y ≡ true))
    [ true ↦ λ is t. (x, all.0, is) | false ↦ λ is t. some_item p P xs all.1 t ] in
    go (p x) refl e
