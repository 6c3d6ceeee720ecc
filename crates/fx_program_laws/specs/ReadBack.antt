-- What a listing prints of the rules of a design is read as this design.
use Rattle.std.specs.Prelude.{ℕ, ◌≡◌, ◌∷◌, [], List, false, codes, slice_range, None, Some, Ok}
use Rattle.fx_text.specs.Names.{place_of}
use Rattle.fx_vectors.specs.Matrix.{MatrixView}
use Rattle.fx_vectors.specs.Shape.{dimensions_of}
use Rattle.fx_alias.specs.Rules.{rules_section}
use Rattle.fx_statements.specs.Questions.{outcome_of}
use Rattle.fx_statements.specs.Steps.{Meaning}
use Rattle.fx_rules.specs.Parts.{blanked, parts_of}
use Rattle.fx_rules.specs.Reading.{matrix_of_rules}
use Rattle.fx_rules.specs.declared.parts.Part.{Part}
use Rattle.fx_program.specs.Files.{matrix_in}
use Rattle.fx_program.specs.Planning.{RuledView, is_searched, shape_given, step_starts}
use Rattle.fx_program.specs.Texts.{program_in}

-- A step that leaves nothing to a search but its rules: its runs are fixed, and its blocks, and no least pattern is
-- asked. None of its factors is called `none`, `run` or `0`, which have a meaning of their own in a listing.
pub record IsPlain (step : Meaning) : Type 0 where
  pub fixed : is_searched step.settings ≡ false
  pub no_none : place_of (codes "none") step.factors ≡ None
  pub no_run : place_of (codes "run") step.factors ≡ None
  pub no_zero : place_of (codes "0") step.factors ≡ None

-- the matrix that `run` lists for a step
abbrev pub IsListed : Meaning → MatrixView → Type 0
IsListed step matrix = matrix_in (outcome_of step).dimensions (outcome_of step).ending ≡ Some matrix

-- the section of its rules
abbrev pub listed_rules : Meaning → MatrixView → List ℕ
listed_rules step matrix = rules_section (dimensions_of matrix.shape) step.factors matrix.rows

-- what is listed of the rules of a plain step is read, as the rules of this step, as the same matrix
abbrev pub IsReadBack : Meaning → Type 0
IsReadBack step = IsPlain step → (matrix : MatrixView) → IsListed step matrix
    → matrix_of_rules (shape_given step) step.factors (listed_rules step matrix) ≡ Ok matrix

-- and so is what `plan` lists of the rules of such a step
abbrev pub IsGivenBack : RuledView → Type 0
IsGivenBack one = IsPlain one.step
    → matrix_of_rules (shape_given one.step) one.step.factors (listed_rules one.step one.matrix) ≡ Ok one.matrix

-- a text of one plain step, behind a part that is what `run` lists of the rules of the step's matrix
pub record IsBehindItsRules (text : List ℕ) (step : Meaning) (matrix : MatrixView) : Type 0 where
  pub part : Part
  pub one_part : parts_of text ≡ part ∷ []
  pub its_step : step_starts (blanked text (parts_of text)) ≡ part.step ∷ []
  pub program : program_in (blanked text (parts_of text)) ≡ Ok (step ∷ [])
  pub plain : IsPlain step
  pub listed : IsListed step matrix
  pub rules : slice_range text part.at part.end ≡ listed_rules step matrix
