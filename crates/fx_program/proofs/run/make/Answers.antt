use Rattle.std.proofs.Common.{◌++◌, sym, ap, ◌∙◌}
use Rattle.fx_program.specs.Making.{made_text}
use Rattle.fx_program.specs.Output.{message}
use Rattle.fx_program.proofs.Endings.{lists_by, lists_none}
use Rattle.fx_program.proofs.run.make.Goals as goal

pub returns-in_err-make_text : goal.returns-in_err-make_text
returns-in_err-make_text g c = lists_none _ c.from_residual.result c.from_residual.ensures.1 _

pub returns : goal.returns
returns g c =
    lists_by
    (ap (λ l. message l 0)
    (sym (c.as_slice.ensures ∙ c.in_ok-make_text.ensures.ok ∙ ap (λ l. l ++ made_text c.args.n)
    c.new-text.ensures)))
    c.list.ensures.output
