use Rattle.std.proofs.Common.{◌++◌, ◌∙◌, ap, sym, arith}
use Rattle.std.proofs.lemmas.List.{drop_all}
use Rattle.std.proofs.lemmas.List.Elements.{All-from_recursion}
use Rattle.fx_rules.specs.Parts.{lines_from, parts_among, parts_of}
use Rattle.fx_rules.proofs.Within.{parts_within}
use Rattle.fx_rules.proofs.parts.parts_of.Goals as goal

pub loop-i-init : goal.loop-i-init
unfolding parts_of
loop-i-init c =
    cc c.new-parts.ensures

pub returns-clause-within : goal.returns-clause-within
returns-clause-within c =
    let text = c.args.text.now in
    let last =
    ap (λ l. c.loop-i.parts ++ parts_among text c.loop-i.begun (lines_from c.loop-i.fresh c.loop-i.i l))
    (sym (drop_all c.loop-i.i text (omega arith))) ∙ c.loop-i.invariant in
    let all = All-from_recursion _ _ (parts_within text) in
    rw (sym c.in_ok-close.ensures ∙ last) all
