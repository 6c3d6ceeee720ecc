-- A row of a table of reasons, without where its letters lie in memory.
use Rattle.std.specs.Prelude.{ℕ, List}
use Rattle.fx_program.specs.declared.refusal.Reason.{Reason}

-- a row of the table
abbrev pub reason_row : Reason → ℕ × List ℕ
reason_row reason = (reason.code, reason.text.now)
