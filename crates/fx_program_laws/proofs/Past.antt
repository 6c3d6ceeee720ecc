-- What a line without a design claims of more factors.
use Rattle.std.proofs.Common.{ℕ, ◌≡◌, ◌≤◌, ◌+◌, Bool, true, false, suc, List, [], ◌∷◌, length, take, refl, arith}
use Rattle.std.specs.Prelude.{if◌then◌else◌, ◌||◌}
use Rattle.std.specs.List.{list_any}
use Rattle.fx_catalogue.specs.Catalogues.{up_to}
use Rattle.fx_designs.specs.Galois.{IsField}
use Rattle.fx_strata.proofs.Fewer.{fewer_factors}
use Rattle.fx_table_book.specs.Tables.{strata_of}
use Rattle.fx_table_lines.specs.declared.line.TableLine.{TableLine}
use Rattle.fx_table_lines.specs.declared.line.TableLine.TheVariants.{Least, Nothing, Open}
use Rattle.fx_program.specs.declared.table_words.AskedTable.{AskedTable}
use Rattle.fx_program.specs.Tables.{AllHold, IsLine, base_at, is_nothing, HasNone}

none_claimed : (asked : AskedTable) (n : ℕ) (line : TableLine) → IsLine asked n line → is_nothing line ≡ true
    → HasNone asked n
none_claimed asked n (Least rows rules key book) h e = cc e
none_claimed asked n (Nothing book) h e = h.holds.0.none
none_claimed asked n (Open entries rows) h e = cc e

module _ (asked : AskedTable) (f : IsField asked.q) (n : ℕ) where
  none_above : (k : ℕ) → k ≤ n → HasNone asked k → HasNone asked n
  none_above k low none blocks factors S =
      none blocks (take (asked.inside + k) factors)
      (fewer_factors (strata_of (base_at asked n)) f k blocks factors low S)

  abbrev listed : List TableLine → List TableLine
  listed lines = up_to is_nothing lines

  by_first : (line : TableLine) (lines : List TableLine) (k : ℕ) → IsLine asked k line
      → (list_any is_nothing (listed lines) ≡ true → k + 1 + length (listed lines) ≤ n + 1 → HasNone asked n)
      → (b : Bool) → is_nothing line ≡ b
      → (b || list_any is_nothing (if b then [] else listed lines)) ≡ true
      → k + suc (length (if b then [] else listed lines)) ≤ n + 1
      → HasNone asked n
  by_first line lines k h later true is some upto =
      none_above k (omega arith) (none_claimed asked k line h is)
  by_first line lines k h later false is some upto = later some (omega arith)

  pub none_past : (lines : List TableLine) (k : ℕ) → AllHold asked k lines
      → list_any is_nothing (listed lines) ≡ true
      → k + length (listed lines) ≤ n + 1
      → HasNone asked n
  none_past [] k h some upto = cc some
  none_past (line ∷ lines) k h some upto =
      by_first line lines k h.0 (none_past lines (k + 1) h.1) _ refl some upto
