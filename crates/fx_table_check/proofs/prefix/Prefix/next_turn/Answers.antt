use Rattle.std.proofs.Common.{ℕ, ◌≡◌, ◌<◌, ◌-◌, ◌^◌, [], List, length, take, slice_index}
use Rattle.std.proofs.Common.{sym, subst, ap, ◌∙◌, arith}
use Rattle.std.specs.List.{filter}
use Rattle.fx_designs.specs.Answers.{falling}
use Rattle.fx_strata.specs.Stages.{may_follow}
use Rattle.fx_table_check.specs.Prefixes.{PrefixView}
use Rattle.fx_table_book.specs.Tables.{strata_of}
use Rattle.fx_table_check.specs.Checking.{pending}
use Rattle.std.proofs.lemmas.List.{length-take}
use Rattle.fx_table_check.proofs.Turns.{popped-turns}
use Rattle.fx_table_check.proofs.prefix.Prefix.next_turn.Goals as goal

pub overflow_step-k : goal.overflow_step-k
overflow_step-k c = omega arith

pub loop-k-preserved : goal.loop-k-preserved
loop-k-preserved c =
    let x = strata_of c.args.self.now.base in
    let rows : List ℕ = c.loop-k.self.rows in
    let n : ℕ = length rows - 1 in
    let inv = c.loop-k.invariant in
    let short : length c.pop.new.self.rows ≡ length (take n rows) =
    ap (λ (v : PrefixView). length v.rows) c.pop.ensures in
    let t = length-take n rows in
    let none : filter (may_follow x rows) (falling c.loop-k.below) ≡ [] =
    cc (inv.base, c.in_default.ensures.next) in
    let low = subst (λ b. c.row-below.result < b.q ^ b.m) inv.base c.row-below.ensures.below in
    record {
      base = cc (c.pop.ensures, inv.base);
      count = omega arith;
      room = omega arith;
      below = omega arith;
      turns = inv.turns
          ∙ popped-turns x rows c.loop-k.below c.row-below.result n none (omega (arith, inv.count, c.if-k-eq0.false))
          (c.row-below.ensures.row
          ∙ ap (slice_index rows) (let e : c.loop-k.k - 1 - 1 ≡ n = omega arith in e))
          ∙ ap (λ v. pending x v.rows c.row-below.result) (sym c.pop.ensures);
    }
