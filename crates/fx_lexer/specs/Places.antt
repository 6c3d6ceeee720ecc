-- Lines and columns.
use Rattle.std.specs.Prelude.{◌≡◌, ℕ, ◌+◌, ◌==◌, not, List, ◌++◌, reverse, count_by, if◌then◌else◌}
use Rattle.std.specs.List.{prefix_len}
use Rattle.fx_lexer.specs.declared.place.Place.{Place}

-- the line of the place after these bytes: a line feed ends a line
abbrev pub line_after : List ℕ → ℕ
line_after bytes = 1 + count_by (λ b. b == 10) bytes

-- the column of that place: one more than the bytes after the last line feed
abbrev pub column_after : List ℕ → ℕ
column_after bytes = 1 + prefix_len (λ b. not (b == 10)) (reverse bytes)

-- the place of the byte that follows these bytes
abbrev pub place_after : List ℕ → Place
place_after bytes = record { line = line_after bytes; column = column_after bytes }

-- the place one byte further
abbrev pub next_place : Place → ℕ → Place
next_place place b =
    record {
      line = place.line + (if b == 10 then 1 else 0);
      column = (if b == 10 then 1 else place.column + 1);
    }

-- a place in a text: that of one of its bytes, or of its end
pub record IsPlaceIn (text : List ℕ) (line column : ℕ) : Type 0 where
  pub before : List ℕ
  pub after : List ℕ
  pub joined : text ≡ before ++ after
  pub line_is : line ≡ line_after before
  pub column_is : column ≡ column_after before
