use Rattle.std.proofs.Common.{◌≡◌, ℕ, List, ◌++◌, ap, ◌∙◌, append_assoc}
use Rattle.std.specs.Prelude.{codes, decimal}
use Rattle.fx_program.specs.Verdicts.{rejected_line}
use Rattle.fx_program.proofs.checking.put_rejected.Goals as goal

-- six pieces, one after another
six : (old a b c d e f : List ℕ)
    → (((((old ++ a) ++ b) ++ c) ++ d) ++ e) ++ f ≡ old ++ (a ++ (b ++ (c ++ (d ++ (e ++ f)))))
six old a b c d e f =
    append_assoc ((((old ++ a) ++ b) ++ c) ++ d) e f ∙ append_assoc (((old ++ a) ++ b) ++ c) d (e ++ f) ∙ append_assoc
    ((old ++ a) ++ b) c (d ++ (e ++ f))
    ∙ append_assoc (old ++ a) b (c ++ (d ++ (e ++ f))) ∙ append_assoc old a (b ++ (c ++ (d ++ (e ++ f))))

pub returns : goal.returns
returns c =
    let line : List ℕ = decimal c.args.line in
    let letter : List ℕ = c.args.letter.now in
    let code : List ℕ = decimal c.from.result in
    let end : List ℕ = codes "\n" in
    c.in_ok-put-4.ensures.ok
    ∙ ap (λ (l : List ℕ). l ++ end) c.in_ok-put_number-2.ensures.ok
    ∙ ap (λ (l : List ℕ). (l ++ code) ++ end) c.in_ok-put-3.ensures.ok
    ∙ ap (λ (l : List ℕ). ((l ++ letter) ++ code) ++ end) c.in_ok-put-2.ensures.ok
    ∙ ap (λ (l : List ℕ). (((l ++ codes " ") ++ letter) ++ code) ++ end) c.in_ok-put_number.ensures.ok
    ∙ ap (λ (l : List ℕ). ((((l ++ line) ++ codes " ") ++ letter) ++ code) ++ end) c.in_ok-put.ensures.ok
    ∙ six c.args.out.now (codes "rejected line ") line (codes " ") letter code end
    ∙ ap (λ (n : ℕ). c.args.out.now ++ rejected_line c.args.line letter n) c.from.ensures
