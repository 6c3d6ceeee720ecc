-- A text behind its rules, as `run` lists them.
use Rattle.std.proofs.Common.{[], ◌∷◌, false, refl}
use Rattle.std.specs.Prelude.{codes}
use Rattle.std.specs.Fmt.{digits}
use Rattle.fx_designs.specs.Answers.{lists, designs, answer}
use Rattle.fx_designs.specs.Canonical.{is_canonical}
use Rattle.fx_designs.specs.Demands.{must_balance, is_allowed, is_estimated, is_met}
use Rattle.fx_designs.specs.Galois.{prime_of, degree_of, reduction_of, add, mul, neg, inv}
use Rattle.fx_designs.specs.Jobs.{best_before, carried, first_least}
use Rattle.fx_designs.specs.Nodes.{nodes}
use Rattle.fx_designs.specs.Problems.{AtResolution}
use Rattle.fx_designs.specs.Runs.{runs_of, is_constant, is_balanced, are_blocks_even, is_balanced_in_blocks}
use Rattle.fx_designs.specs.Runs.{is_constant_in_blocks}
use Rattle.fx_designs.specs.Spans.{in_span}
use Rattle.fx_lexer.specs.Lexing.{lexed}
use Rattle.fx_language.specs.Refusals.{refused}
use Rattle.fx_vectors.specs.Matrix.{MatrixView}
use Rattle.fx_settings.specs.declared.settings.Size.TheVariants.{Runs}
use Rattle.fx_settings.specs.declared.settings.Blocks.TheVariants.{Without}
use Rattle.fx_settings.specs.declared.settings.Criterion.TheVariants.{Resolution}
use Rattle.fx_statements.specs.declared.fold.Fold.TheVariants as fold
use Rattle.fx_statements.specs.Programs.{program_of}
use Rattle.fx_statements.specs.Questions.{conclusion_of}
use Rattle.fx_statements.specs.Steps.{Meaning}
use Rattle.fx_rules.specs.Parts.{parts_of}
use Rattle.fx_program.specs.Planning.{step_starts}
use Rattle.fx_program.specs.Texts.{program_in}
use Rattle.fx_program_laws.specs.ReadBack.{IsBehindItsRules}

three_factors : Meaning
three_factors = record {
  factors = codes "A" ∷ codes "B" ∷ codes "C" ∷ [];
  settings = record {
    q = 2;
    budget = 1000000;
    size = Runs 2;
    criterion = Resolution 3;
    least = false;
    blocks = Without;
  };
  requirement = AtResolution 3;
  examine = record { aliasing = false; blocked = false; design = false; aberration = false };
  fold = fold.Without;
  outputs = [];
}

four_runs : MatrixView
four_runs = record { shape = record { q = 2; m = 2; s = 3; t = 0 }; rows = 1 ∷ 2 ∷ 3 ∷ [] }

behind_its_rules :
    IsBehindItsRules
    (codes "rules\n  C = A*B\nproc factex;\nfactors A B C;\nsize design=4;\nmodel resolution=3;\n")
    three_factors four_runs
unfolding digits prime_of degree_of reduction_of add mul neg inv runs_of is_constant is_balanced in_span must_balance
    is_met is_allowed is_canonical lists designs answer nodes lexed refused program_of program_in is_constant_in_blocks
    first_least best_before carried conclusion_of are_blocks_even is_balanced_in_blocks is_estimated parts_of
    step_starts
    three_factors four_runs
behind_its_rules = record {
  part = record { at = 0; end = 16; step = 16 };
  one_part = refl;
  its_step = refl;
  program = refl;
  plain = record { fixed = refl; no_none = refl; no_run = refl; no_zero = refl };
  listed = refl;
  rules = refl;
}
