use Rattle.std.proofs.Common.{◌++◌, ◌∙◌, List, ℕ, append_assoc, ap}
use Rattle.std.specs.Prelude.{codes}
use Rattle.fx_alias.specs.Patterns.{words_lines}
use Rattle.fx_components.specs.Lines.{or_none}
use Rattle.fx_alias.proofs.pattern.put_section.Goals as goal

pub returns : goal.returns
returns c =
    let lines : List ℕ → List ℕ = λ a. or_none (words_lines (codes "A") 1 a) in
    let e = ap (λ l. l ++ lines c.in_ok-pattern.pattern) c.in_ok-put.ensures.ok ∙ append_assoc c.args.out.now
    (codes "aberration\n") (lines c.in_ok-pattern.pattern)
    ∙ ap (λ a. c.args.out.now ++ (codes "aberration\n" ++ lines a)) c.in_ok-pattern.ensures in
    rw e at c.put_pattern.ensures
