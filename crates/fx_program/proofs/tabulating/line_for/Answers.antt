use Rattle.std.proofs.Common.{subst}
use Rattle.fx_table_book.specs.declared.base.Base.{Base}
use Rattle.fx_table_lines.specs.Lines.{Holds}
use Rattle.fx_program.proofs.tabulating.line_for.Goals as goal

pub returns-then-branch : goal.returns-then-branch
returns-then-branch c = record {
  holds =
      subst (λ (b : Base). Holds b c.args.asked.order c.args.asked.entries c.opened.result) c.base_at-base.ensures.base
      (c.opened.ensures.holds c.base_at-base.result c.args.asked.order c.args.asked.entries c.in_ok-line.ensures);
  readable = c.opened.ensures.readable;
}
