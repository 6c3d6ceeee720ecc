-- The column of blocks: its name, and its values.
use Rattle.std.specs.Prelude.{ℕ, Bool, true, false, is_some, codes, List, [], ◌∷◌, Option, Some, None, Result}
use Rattle.std.specs.Prelude.{Ok, Err, if◌then◌else◌}
use Rattle.fx_language.specs.declared.code.TheConstants.{BLOCKNAME_WITHOUT_BLOCKS, REPEATED_NAME}
use Rattle.fx_text.specs.declared.refusal.Refusal.{Refusal}
use Rattle.fx_text.specs.Written.{Written}
use Rattle.fx_text.specs.Names.{place_of}
use Rattle.fx_text.specs.Refusals.{refusal_at}
use Rattle.fx_outputs.specs.Contexts.{Context}
use Rattle.fx_outputs.specs.declared.context.BlockCount.{BlockCount}
use Rattle.fx_outputs.specs.declared.context.BlockCount.TheVariants as blocks
use Rattle.fx_outputs.specs.Values.{values_if_any}

-- the step has blocks
abbrev pub has_blocks : BlockCount → Bool
has_blocks blocks.Without = false
has_blocks (blocks.Fixed count) = true
has_blocks blocks.Open = true

-- how many values the block column may have in the place of its numbers
abbrev pub values_wanted : BlockCount → Option ℕ
values_wanted blocks.Without = None
values_wanted (blocks.Fixed count) = Some count
values_wanted blocks.Open = None

-- E31 at the word BLOCKNAME, where a step without blocks has it
abbrev pub check_blockname : BlockCount → Option Written → Result (Unit {0}) Refusal
check_blockname count None = Ok tt
check_blockname count (Some word) = if has_blocks count then Ok tt else Err (refusal_at BLOCKNAME_WITHOUT_BLOCKS word)

-- no factor has this name, or E5 at w
abbrev pub check_free : List (List ℕ) → List ℕ → Written → Result (Unit {0}) Refusal
check_free factors name w = if is_some (place_of name factors) then Err (refusal_at REPEATED_NAME w) else Ok tt

-- The column's name is no factor's: BLOCKNAME's name, or else BLOCK. `output` is the word OUTPUT. A step without
-- blocks has no such column.
abbrev pub check_column : Context → Written → Option Written → Result (Unit {0}) Refusal
check_column context output (Some name) = check_free context.factors name.text name
check_column context output None =
    if has_blocks context.blocks then check_free context.factors (codes "BLOCK") output else Ok tt

-- BLOCKNAME's name, empty where there is none
abbrev pub name_or_empty : Option Written → List ℕ
name_or_empty None = []
name_or_empty (Some name) = name.text

-- the name of the column of blocks, BLOCK where the text has none
abbrev pub column_name : List ℕ → List ℕ
column_name [] = codes "BLOCK"
column_name (b ∷ name) = b ∷ name

-- The values of the column, which follow BLOCKNAME's name: none, or as many as there are blocks, whose number is to be
-- known.
abbrev pub block_values : BlockCount → List Written → Result (List (List ℕ)) Refusal
block_values count values = values_if_any (values_wanted count) values
