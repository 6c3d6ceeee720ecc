-- What a range tells of its two names.
use Rattle.std.proofs.Common.{◌≡◌, ℕ, ◌≤◌, true, List}
use Rattle.std.proofs.lemmas.Bool.{leb-true, and_parts}
use Rattle.fx_text.specs.Ranges.{digits_at_end, is_plain, is_range, number_at_end}

module _ (first last : List ℕ) (range : is_range first last ≡ true) where
  parts : (is_plain (digits_at_end first) ≡ true) × (is_plain (digits_at_end last) ≡ true)
      × (number_at_end first ≤ number_at_end last)
  parts =
      let a = and_parts _ _ range in
      let b = and_parts _ _ a.0 in
      let c = and_parts _ _ b.0 in
      let d = and_parts _ _ c.0 in
      (d.1, c.1, leb-true (number_at_end first) (number_at_end last) a.1)

  pub plain : (is_plain (digits_at_end first) ≡ true) × (is_plain (digits_at_end last) ≡ true)
  plain = (parts.0, parts.1)

  pub order : number_at_end first ≤ number_at_end last
  order = parts.2
