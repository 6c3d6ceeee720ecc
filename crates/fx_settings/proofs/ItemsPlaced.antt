-- A FACTORS statement is refused by a rule, at the place of one of its words.
use Rattle.std.proofs.Common.{ℕ, ◌+◌, Bool, true, false, ◌||◌, not, List, [], ◌∷◌, length, None, Some, refl}
use Rattle.std.specs.Prelude.{nat_lt, if◌then◌else◌}
use Rattle.std.specs.List.{AllByRecursion}
use Rattle.fx_language.specs.declared.symbol.Symbol.TheVariants.{Minus, Slash}
use Rattle.fx_language.specs.Symbols.{is}
use Rattle.fx_text.specs.Written.{Written}
use Rattle.fx_text.specs.Ranges.{range_end}
use Rattle.fx_settings.specs.Items.{Item, item_of, items_behind, with_item, is_regular, names_of}
use Rattle.fx_settings.specs.Factors.{are_known, added, all_added, names_of_factors}
use Rattle.fx_text.proofs.Placed as placed
use Rattle.fx_text.proofs.Placed.{IsPlaced, ArePlaced, Placed}

module _ (P : ℕ → ℕ → Type 0) where
  pub items : (s : List Written) → ArePlaced P s → AllByRecursion (λ (i : Item). IsPlaced P i.first) (items_behind s)
  items [] h = tt
  items (before ∷ []) h = tt
  items (before ∷ w ∷ rest) h = by_test (is Minus before.symbol || is Minus w.symbol) (items (w ∷ rest) h.1)
    where
      by_test : (b : Bool) → AllByRecursion (λ (i : Item). IsPlaced P i.first) (items_behind (w ∷ rest))
          → AllByRecursion (λ (i : Item). IsPlaced P i.first)
          (with_item (if b then None else Some (item_of w (range_end rest))) (items_behind (w ∷ rest)))
      by_test true later = later
      by_test false later = (h.1.0, later)

  one : (limit : ℕ) (names : List (List ℕ)) (i : Item) → IsPlaced P i.first → Placed P (added limit names i)
  one limit names i h =
      placed.both P (not (is_regular i)) _ _ (placed.written P 30 i.first refl h)
      (placed.both P (nat_lt limit (length names + length (names_of i))) _ _ (placed.written P 10 i.first refl h)
      (placed.both P (are_known (names_of i) names) _ _ (placed.written P 5 i.first refl h) tt))

  all : (limit : ℕ) (names : List (List ℕ)) (s : List Item) → AllByRecursion (λ (i : Item). IsPlaced P i.first) s
      → Placed P (all_added limit names s)
  all limit names [] h = tt
  all limit names (i ∷ s) h =
      placed.chain P (added limit names i) (λ more. all_added limit more s) (one limit names i h.0)
      (λ more. all limit more s h.1)

  pub factors : (limit : ℕ) (s : List Written) → ArePlaced P s → Placed P (names_of_factors limit s)
  factors limit s h = all limit [] _ (items _ (placed.before_it P Slash s h))
