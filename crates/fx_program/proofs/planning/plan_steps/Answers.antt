use Rattle.std.proofs.Common.{Ok, ap, ◌∙◌, sym, map}
use Rattle.fx_rules.specs.Parts.{blanked}
use Rattle.fx_statements.specs.Steps.{meaning_of}
use Rattle.fx_program.specs.Planning.{planned_output, step_starts}
use Rattle.fx_program.proofs.Endings.{ends_by, writes_by}
use Rattle.fx_program.proofs.Ruling.{by_fault, by_program}
use Rattle.fx_program.proofs.planning.plan_steps.Goals as goal

pub returns-in-Err-Fault : goal.returns-in-Err-Fault
returns-in-Err-Fault g c =
    let seed = c.args.session.now.seed in
    let found = rw c.in-Err-Fault.field-0-is at c.in-Err-Fault.ensures.fault in
    let blank = c.as_slice-2.ensures ∙ c.in_ok-program_text.ensures.blanked ∙ ap (blanked c.args.text.now) c.as_slice.ensures in
    record {
      whatever = λ source.
          ends_by
          (ap (planned_output seed)
          (by_fault c.args.text.now c.as_slice-2.result.now c.in_ok-parts.parts c.in-Err-Fault.fault c.in_ok-parts.ensures.parts
          blank found))
          ((c.refuse.ensures.output seed).whatever source _ c.requires.begun);
    }

pub returns-in-Ok-all_ruled : goal.returns-in-Ok-all_ruled
returns-in-Ok-all_ruled g c =
    let seed = c.args.session.now.seed in
    let blank = c.as_slice-2.ensures ∙ c.in_ok-program_text.ensures.blanked ∙ ap (blanked c.args.text.now) c.as_slice.ensures in
    let begin = c.in_ok-starts.ensures ∙ ap step_starts (c.as_slice-3.ensures ∙ sym c.as_slice-2.ensures) in
    let ok = rw (c.as_slice-4.ensures, c.as_slice-5.ensures, c.as_slice-6.ensures) at c.in-Ok-all_ruled.ensures.ok in
    writes_by
    (ap (planned_output seed)
    (by_program c.args.text.now c.as_slice-2.result.now c.in_ok-parts.parts c.in_ok-starts.starts
    (map meaning_of c.in-Ok.program) c.in_ok-parts.ensures.parts blank c.in-Ok.ensures.program begin ∙ ok)
    ∙ ap (λ steps. planned_output seed (Ok steps)) (sym c.as_slice-in-Ok-all_ruled.ensures))
    c.give_all.ensures

pub returns-in-Err-Fault-all_ruled : goal.returns-in-Err-Fault-all_ruled
returns-in-Err-Fault-all_ruled g c =
    let seed = c.args.session.now.seed in
    let blank = c.as_slice-2.ensures ∙ c.in_ok-program_text.ensures.blanked ∙ ap (blanked c.args.text.now) c.as_slice.ensures in
    let begin = c.in_ok-starts.ensures ∙ ap step_starts (c.as_slice-3.ensures ∙ sym c.as_slice-2.ensures) in
    let found = rw c.in-Err-Fault-all_ruled.field-0-is at c.in-Err-Fault-all_ruled.ensures.refused in
    let wrong = rw (c.as_slice-4.ensures, c.as_slice-5.ensures, c.as_slice-6.ensures) at found in
    record {
      whatever = λ source.
          ends_by
          (ap (planned_output seed)
          (by_program c.args.text.now c.as_slice-2.result.now c.in_ok-parts.parts c.in_ok-starts.starts
          (map meaning_of c.in-Ok.program) c.in_ok-parts.ensures.parts blank c.in-Ok.ensures.program begin ∙ wrong))
          ((c.refuse-in-Err-Fault-all_ruled.ensures.output seed).whatever source _ c.requires.begun);
    }
