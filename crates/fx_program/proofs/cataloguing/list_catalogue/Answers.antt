use Rattle.std.proofs.Common.{ℕ, List, ◌++◌, ◌∙◌, sym, ap, arith}
use Rattle.fx_vectors.specs.declared.shape.Shape.{Shape}
use Rattle.fx_catalogue.specs.Listing.{head_text}
use Rattle.fx_program.proofs.CatalogueLines.{line_shape, of_catalogue}
use Rattle.fx_program.proofs.Endings.{writes_by, writes_none}
use Rattle.fx_program.proofs.cataloguing.list_catalogue.Goals as goal

pub put_head-requires : goal.put_head-requires
put_head-requires g c = rw c.shape.ensures
    (line_shape c.requires.numbers c.args.asked.upto c.requires.numbers.dependent (omega arith))

pub returns-in_err-put_head : goal.returns-in_err-put_head
returns-in_err-put_head g c = writes_none _ c.from_residual.result c.from_residual.ensures.1 _ _

pub list_lines-requires-clause-numbers : goal.list_lines-requires-clause-numbers
list_lines-requires-clause-numbers g c lifetimes live n from upto =
    record { numbers = c.requires.numbers; above = omega (arith, from); within = upto }

pub returns : goal.returns
returns g c =
    let asked = c.args.asked in
    let head =
    c.as_slice.ensures ∙ c.in_ok-put_head.ensures
    ∙ ap (λ (l : List ℕ). l ++ head_text c.shape.result.q c.shape.result.m) c.new-head.ensures
    ∙ ap (λ (s : Shape). head_text s.q s.m) c.shape.ensures in
    writes_by (sym (of_catalogue asked.q asked.m asked.upto asked.nodes _ head _ c.list_lines.ensures.given))
    c.list_lines.ensures.writes
