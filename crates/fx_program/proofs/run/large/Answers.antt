use Rattle.std.proofs.Common.{◌≡◌, ◌++◌, length, map, Ok, ap, sym, refl, ◌∙◌, arith}
use Rattle.fx_statements.specs.Steps.{meaning_of}
use Rattle.fx_program.specs.Making.{made_text}
use Rattle.fx_program.specs.Texts.{program_in}
use Rattle.fx_program.specs.Output.{large_output}
use Rattle.fx_program.proofs.Endings.{lists_by, lists_none}
use Rattle.fx_program.proofs.Made.{made_text_short}
use Rattle.fx_program.proofs.run.large.Goals as goal

pub returns-in_err-make_text : goal.returns-in_err-make_text
returns-in_err-make_text g c = lists_none _ c.from_residual.result c.from_residual.ensures.1 _

pub read_program-requires : goal.read_program-requires
read_program-requires g c =
    let text : c.as_slice.result.now ≡ made_text c.args.n =
    c.as_slice.ensures ∙ c.in_ok-make_text.ensures.ok ∙ ap (λ l. l ++ made_text c.args.n) c.new-text.ensures in
    omega (arith, ap length text, made_text_short c.args.n, c.ranges.n)

pub returns-in-Ok : goal.returns-in-Ok
returns-in-Ok g c =
    let text : c.as_slice.result.now ≡ made_text c.args.n =
    c.as_slice.ensures ∙ c.in_ok-make_text.ensures.ok ∙ ap (λ l. l ++ made_text c.args.n) c.new-text.ensures in
    lists_by
    (ap large_output (ap program_in (sym text) ∙ c.in-Ok.ensures.program) ∙ ap
    (λ steps. large_output (Ok (map meaning_of steps))) (sym c.as_slice-in-Ok.ensures))
    c.sum_up.ensures

pub returns-in-Err-Fault : goal.returns-in-Err-Fault
returns-in-Err-Fault g c =
    let text : c.as_slice.result.now ≡ made_text c.args.n =
    c.as_slice.ensures ∙ c.in_ok-make_text.ensures.ok ∙ ap (λ l. l ++ made_text c.args.n) c.new-text.ensures in
    let found = rw c.in-Err-Fault.field-0-is at c.in-Err-Fault.ensures.fault in
    lists_by (ap large_output (ap program_in (sym text) ∙ found)) (c.refuse.ensures.output 0)

pub returns : goal.returns
returns g c = lists_none _ _ refl _
