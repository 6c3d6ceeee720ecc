-- Walks through the prefixes of canonical designs.
use Rattle.std.specs.Prelude.{ℕ, ◌≡◌, ◌<◌, ◌≤◌, ◌+◌, List, length, All}
use Rattle.fx_table_book.specs.declared.base.Base.{Base}
use Rattle.fx_table_book.specs.declared.book.Entry.{Entry}
use Rattle.fx_table_book.specs.declared.book.Entry.TheVariants.{Branch}
use Rattle.fx_table_book.specs.Tables.{IsSmall}
use Rattle.fx_table_check.specs.Prefixes.{PrefixView}
use Rattle.fx_table_lines.specs.declared.walk.Walked.{Walked}
use Rattle.fx_table_lines.specs.declared.walk.Walked.TheVariants.{Whole, Better, Open}

-- at most so many entries, which can be written in a book
abbrev pub AreMade : Base → ℕ → List Entry → Type 0
AreMade base most entries = All (IsSmall base) entries × (length entries ≤ most)

-- a branch leaves room for a row behind that of its own
abbrev pub HasRoom : PrefixView → Entry → Type 0
HasRoom prefix entry = (row : ℕ)
    → entry ≡ Branch row
    → length prefix.rows + 1 < prefix.base.w + prefix.base.n

abbrev pub IsWalked : Base → ℕ → Walked → Type 0
IsWalked base most (Whole entries) = AreMade base most entries
IsWalked base most (Better entries) = Unit {0}
IsWalked base most Open = Unit {0}
