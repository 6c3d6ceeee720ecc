-- The parts of a text that are rules. A part begins with a line whose first word is RULES, and ends before the next
-- line whose first word is PROC.
use Rattle.std.specs.Prelude.{ℕ, ◌≤◌, ◌+◌, ◌==◌, ◌&&◌, ◌||◌, not, nat_le, nat_lt, Bool, true, false, if◌then◌else◌}
use Rattle.std.specs.Prelude.{List, [], ◌∷◌, codes, drop, length, take, Option, Some, None}
use Rattle.std.specs.List.{prefix_len}
use Rattle.fx_lexer.specs.Bytes.{is_white, is_word_byte}
use Rattle.fx_text.specs.Names.{is_same_name}
use Rattle.fx_rules.specs.declared.parts.Part.{Part}

-- blank or tab
abbrev pub is_blank : ℕ → Bool
is_blank b = (b == 32) || (b == 9)

-- the text without its first bytes, as long as they pass
abbrev pub behind : (ℕ → Bool) → List ℕ → List ℕ
behind test text = drop (prefix_len test text) text

-- the first word of the line that begins here; blanks and tabs may stand before it
abbrev pub first_word : List ℕ → List ℕ
first_word line = let words = behind is_blank line in take (prefix_len is_word_byte words) words

-- what stands behind that word and white space
abbrev pub behind_first_word : List ℕ → List ℕ
behind_first_word line = behind is_white (behind is_word_byte (behind is_blank line))

abbrev pub begins_with_equals : List ℕ → Bool
begins_with_equals [] = false
begins_with_equals (b ∷ text) = b == 61

-- a line that begins a part
abbrev pub begins_rules : List ℕ → Bool
begins_rules line = is_same_name (first_word line) (codes "rules")

-- a line that begins a step; where `=` follows, PROC is a factor with a rule
abbrev pub begins_step : List ℕ → Bool
begins_step line = is_same_name (first_word line) (codes "proc") && not (begins_with_equals (behind_first_word line))

-- where lines begin in a text behind `at` bytes; `fresh`: one begins there
abbrev pub lines_from : Bool → ℕ → List ℕ → List ℕ
lines_from fresh at [] = []
lines_from true at (b ∷ text) = at ∷ lines_from (b == 10) (at + 1) text
lines_from false at (b ∷ text) = lines_from (b == 10) (at + 1) text

-- where the first word of the line stands that begins at i
abbrev pub word_at : List ℕ → ℕ → ℕ
word_at text i = i + prefix_len is_blank (drop i text)

abbrev pub part : ℕ → ℕ → ℕ → Part
part at end step = record { at = at; end = end; step = step }

-- the parts among the lines that begin at these places: outside of a part, or inside the one that begins at `at`
abbrev pub parts_among : List ℕ → Option ℕ → List ℕ → List Part
parts_among text None [] = []
parts_among text (Some at) [] = part at (length text) (length text) ∷ []
parts_among text None (i ∷ lines) =
    if begins_rules (drop i text) then parts_among text (Some (word_at text i)) lines else parts_among text None lines
parts_among text (Some at) (i ∷ lines) =
    if begins_step (drop i text) then part at i (word_at text i) ∷ parts_among text None lines
    else parts_among text (Some at) lines

-- the parts of a text
unfoldable pub parts_of : List ℕ → List Part
parts_of text = parts_among text None (lines_from true 0 text)

-- a part of a text of n bytes
pub record IsWithin (n : ℕ) (p : Part) : Type 0 where
  pub order : p.at ≤ p.end
  pub end : p.end ≤ n
  pub step : p.step ≤ n

-- a blank, but ends of lines stay
abbrev pub blank_of : ℕ → ℕ
blank_of b = if b == 10 then 10 else 32

-- a text behind i bytes, with blanks from `at` up to `end`
abbrev pub blanked_from : ℕ → ℕ → ℕ → List ℕ → List ℕ
blanked_from at end i [] = []
blanked_from at end i (b ∷ text) =
    (if nat_le at i && nat_lt i end then blank_of b else b) ∷ blanked_from at end (i + 1) text

-- a text with blanks in place of its parts
abbrev pub blanked : List ℕ → List Part → List ℕ
blanked text [] = text
blanked text (p ∷ parts) = blanked (blanked_from p.at p.end 0 text) parts
