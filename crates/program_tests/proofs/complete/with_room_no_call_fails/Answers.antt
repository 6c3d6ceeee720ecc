use Rattle.std.proofs.Common.{ℕ, ◌≡◌, ◌<◌, ◌≤◌, ◌+◌, List, [], length, ap, ◌∙◌, refl, subst, arith}
use Rattle.std.specs.Prelude.{codes}
use Rattle.std.specs.Fmt.{digits}
use Rattle.fx_base.specs.Acts.{files_of, pieces}
use Rattle.fx_base.specs.Memory.{room_of}
use Rattle.fx_program.specs.CommandLine.{bytes_of, settings_of}
use Rattle.fx_program.specs.Commands.{AreGiven}
use Rattle.fx_program.specs.Output.{Output, message}
use Rattle.program_tests.proofs.complete.with_room_no_call_fails.Goals as goal

-- without words one line is listed, and no file
one_line : (words : List (List ℕ)) (text : List ℕ) (output : Output) → words ≡ [] → AreGiven words text output
    → (length (pieces output.events) < 64) × (room_of (files_of output.events) + 64 ≤ 64)
unfolding settings_of digits
one_line words text output none given =
    let line : Output = message (codes "factex: C1 word 1\n") 3 in
    let long : length (pieces line.events) ≡ 18 = refl in
    let room : room_of (files_of line.events) ≡ 0 = refl in
    let is : AreGiven [] text output = subst (λ ws. AreGiven ws text output) none given in
    rw is (omega (arith, long), omega (arith, room))

pub status_with_room-status-requires-clause-listing : goal.status_with_room-status-requires-clause-listing
status_with_room-status-requires-clause-listing g c κs =
    λ output given.
    (one_line _ c.new.result output (ap bytes_of (c.as_slice.ensures.value ∙ c.new-words.ensures.items)) given).0

pub status_with_room-status-requires-clause-shelf : goal.status_with_room-status-requires-clause-shelf
status_with_room-status-requires-clause-shelf g c κs =
    λ output given.
    (one_line _ c.new.result output (ap bytes_of (c.as_slice.ensures.value ∙ c.new-words.ensures.items)) given).1
