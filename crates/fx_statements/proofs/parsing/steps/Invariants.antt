use Rattle.std.proofs.Common.{◌≡◌, [], map, drop}
use Rattle.std.specs.List.{IsDistinct}
use Rattle.fx_text.specs.Names.{is_same_name}
use Rattle.fx_text.specs.Statements.{steps_of}
use Rattle.fx_outputs.specs.Earlier.{plan_names}
use Rattle.fx_statements.specs.Steps.{meaning_of}
use Rattle.fx_statements.specs.Programs.{out_names, steps_behind}
use Rattle.fx_statements.proofs.parsing.steps.Given as goal

abbrev pub invariant-loop-i : goal.invariant-loop-i
invariant-loop-i l = record {
  meaning : steps_behind [] [] (steps_of l.statements)
      ≡ steps_behind l.earlier (map meaning_of l.program) (steps_of (drop l.i l.statements));
  names : plan_names l.earlier ≡ out_names l.program;
  differ : IsDistinct is_same_name (plan_names l.earlier);
}
