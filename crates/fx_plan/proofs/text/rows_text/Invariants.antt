use Rattle.std.specs.List.{slice_range}
use Rattle.fx_plan.specs.Tables.{HasWritten, text_of}
use Rattle.fx_plan.proofs.text.rows_text.Given as goal

abbrev pub invariant-loop-i : goal.invariant-loop-i
invariant-loop-i l = HasWritten l.writer (text_of (slice_range l.plan.rows l.from l.i))
