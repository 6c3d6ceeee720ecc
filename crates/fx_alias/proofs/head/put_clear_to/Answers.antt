use Rattle.std.proofs.Common.{◌≡◌, ◌++◌, ◌∙◌, refl, ap, append_assoc}
use Rattle.std.specs.Prelude.{codes, decimal}
use Rattle.fx_components.proofs.Products.{behind}
use Rattle.fx_alias.proofs.head.put_clear_to.Goals as goal

pub returns : goal.returns
returns c =
    let out = c.args.out.now in
    let words = codes "blocks clear to resolution " in
    let number = decimal c.args.r in
    let claim = c.args.claim.now in
    let end = codes "\n" in
    let second : c.put_number.new.out ≡ out ++ (words ++ number) =
    cc (
      c.in_ok-put_number.ensures.ok,
      c.from.ensures,
      behind out words c.put.new.out number (words ++ number)
          c.in_ok-put.ensures.ok refl,
    ) in
    let third =
    c.in_ok-put-2.ensures.ok
    ∙ behind out _ c.put_number.new.out claim _ second
    (append_assoc words number claim) in
    let all =
    behind out _ c.put-2.new.out end (words ++ (number ++ (claim ++ end))) third
    (append_assoc words (number ++ claim) end ∙ ap (λ l. words ++ l) (append_assoc number claim end)) in
    rw all at c.put-3.ensures.ok
