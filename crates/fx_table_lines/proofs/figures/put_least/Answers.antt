use Rattle.std.proofs.Common.{ℕ, List, ◌++◌, ◌∙◌, ap₂, append_assoc}
use Rattle.std.specs.Prelude.{codes, decimal}
use Rattle.fx_table_lines.proofs.figures.put_least.Goals as goal

pub returns : goal.returns
returns c =
    c.in_ok-put_number.ensures.ok
    ∙ ap₂ (λ (l : List ℕ) (n : ℕ). l ++ decimal n) c.in_ok-put.ensures.ok c.from.ensures
    ∙ append_assoc c.args.out.now (codes " resolution ") (decimal c.args.k)
