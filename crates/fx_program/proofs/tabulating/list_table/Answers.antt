use Rattle.std.proofs.Common.{ℕ, List, ◌++◌, ◌∙◌, sym, ap, arith}
use Rattle.fx_table_book.specs.declared.base.Base.{Base}
use Rattle.fx_table_lines.specs.Listing.{head_text}
use Rattle.fx_program.proofs.Endings.{writes_none}
use Rattle.fx_program.proofs.Tabulated.{of_table, open_output, open_table}
use Rattle.fx_program.proofs.tabulating.list_table.Goals as goal

pub returns-in_err-put_head : goal.returns-in_err-put_head
returns-in_err-put_head g c = record {
  output = open_output c.args.asked;
  given = open_table c.args.asked;
  writes = writes_none _ c.from_residual.result c.from_residual.ensures.1 _ _;
}

pub list_lines-requires-clause-numbers : goal.list_lines-requires-clause-numbers
list_lines-requires-clause-numbers g c lifetimes live n from upto =
    (c.requires.asked, (omega (arith, from, c.first_line.ensures), upto))

pub returns : goal.returns
returns g c =
    let asked = c.args.asked in
    let head = c.as_slice.ensures ∙ c.in_ok-put_head.ensures
    ∙ ap (λ (l : List ℕ). l ++ head_text c.base_at.result asked.order) c.new-head.ensures
    ∙ ap (λ (b : Base). head_text b asked.order) c.base_at.ensures.base in
    record {
      output = c.list_lines.ensures.output;
      given = of_table asked _ head _ (rw (sym c.first_line.ensures) c.list_lines.ensures.given);
      writes = c.list_lines.ensures.writes;
    }
