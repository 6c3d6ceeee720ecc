use Rattle.std.proofs.Common.{ℕ, List, ◌≡◌, ◌^◌, ◌++◌, ◌∙◌, ap, ap₂, append_assoc}
use Rattle.std.specs.Prelude.{codes, decimal}
use Rattle.fx_table_lines.proofs.head.put_whole_plots.Goals as goal

regroup : (out a b c d : List ℕ) → (((out ++ a) ++ b) ++ c) ++ d ≡ out ++ (a ++ (b ++ (c ++ d)))
regroup out a b c d = simp append_assoc

pub returns : goal.returns
returns c =
    let plots : ℕ = c.args.base.q ^ c.args.base.h in
    c.in_ok-put_number-2.ensures.ok
    ∙ ap₂ (λ (l : List ℕ) (n : ℕ). l ++ decimal n)
    (c.in_ok-put-2.ensures.ok
    ∙ ap (λ (l : List ℕ). l ++ codes " inside ")
    (c.in_ok-put_number.ensures.ok
    ∙ ap₂ (λ (l : List ℕ) (n : ℕ). l ++ decimal n) c.in_ok-put.ensures.ok (c.from.ensures ∙ c.blocks-2.ensures.blocks)))
    c.from-2.ensures
    ∙ regroup c.args.out.now (codes " whole plots ") (decimal plots) (codes " inside ") (decimal c.args.base.w)
