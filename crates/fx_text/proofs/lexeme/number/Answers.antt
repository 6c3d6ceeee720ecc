use Rattle.std.proofs.Common.{ap, ◌∙◌}
use Rattle.std.specs.Result.{result_unwrap_or}
use Rattle.fx_text.proofs.Digits.{is_text, is_read}
use Rattle.fx_text.proofs.lexeme.number.Goals as goal

pub returns-in-Ok : goal.returns-in-Ok
returns-in-Ok c =
    let text = c.in-Ok.ensures.cases.0 in
    let reads = rw text at c.parse.ensures.value.0 in
    c.unwrap_or.ensures ∙ ap (λ r. result_unwrap_or r 0) (is_read c.args.digits.now c.parse.result reads c.requires)

pub returns-in-Err : goal.returns-in-Err
returns-in-Err c = absurd (c.in-Err.ensures.cases.0 (is_text c.args.digits.now c.requires))
