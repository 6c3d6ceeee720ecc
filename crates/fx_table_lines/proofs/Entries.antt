-- Entries of a key, one part of its order after another.
use Rattle.std.proofs.Common.{ℕ, ◌≡◌, ◌<◌, ◌≤◌, ◌+◌, ◌∙◌, ◌∷◌, Bool, false, List, [], length, drop, get_or, refl, ap}
use Rattle.std.proofs.Common.{ap₂}
use Rattle.std.proofs.Common.{add-one, drop-cons}
use Rattle.std.proofs.lemmas.Bool.{cond-false}
use Rattle.std.proofs.Math.ListN.{drop_of_length-le}
use Rattle.fx_strata.specs.Designs as designs
use Rattle.fx_table_book.specs.declared.order.Part.{Part}
use Rattle.fx_table_book.specs.Tables.{part_of, parts_of}
use Rattle.fx_table_lines.specs.Figures.{entry_of}

none : (is : designs.Part → Bool) (order : designs.Order) → entry_of is order [] ≡ 0
none is [] = refl
none is (part ∷ order) = refl

module _ (is : designs.Part → Bool) (parts : List Part) (key : List ℕ) (i : ℕ) where
  pub at_end : length key ≤ i → entry_of is (parts_of (drop i parts)) (drop i key) ≡ 0
  at_end past =
      ap (entry_of is (parts_of (drop i parts))) (drop_of_length-le key past) ∙ none is (parts_of (drop i parts))

  pub passed : (d : Part) → i < length parts → i < length key → is (part_of (get_or parts i d)) ≡ false
      → entry_of is (parts_of (drop i parts)) (drop i key)
      ≡ entry_of is (parts_of (drop (i + 1) parts)) (drop (i + 1) key)
  passed d low within other =
      let next : drop i parts ≡ get_or parts i d ∷ drop (i + 1) parts = rw (add-one i) (drop-cons parts i d low) in
      let later : drop i key ≡ get_or key i 0 ∷ drop (i + 1) key = rw (add-one i) (drop-cons key i 0 within) in
      ap₂ (λ (ps : List Part) (a : List ℕ). entry_of is (parts_of ps) a) next later
      ∙ cond-false (is (part_of (get_or parts i d))) (get_or key i 0)
      (entry_of is (parts_of (drop (i + 1) parts)) (drop (i + 1) key)) other
