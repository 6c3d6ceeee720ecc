use Rattle.std.proofs.Common.{◌≡◌, ◌-◌, suc, ◌∷◌, sym, ap, ◌∙◌, arith}
use Rattle.std.specs.Prelude.{min}
use Rattle.std.specs.List.{filter}
use Rattle.std.proofs.lemmas.Bool.{cond-true, cond-false}
use Rattle.fx_designs.specs.Answers.{falling}
use Rattle.fx_strata.specs.Stages.{may_follow, bound}
use Rattle.fx_table_book.specs.Tables.{strata_of}
use Rattle.fx_table_check.proofs.Greatest.{cut, none-above, below-bound}
use Rattle.fx_table_check.proofs.prefix.Prefix.next_later.Goals as goal

pub loop-row-init : goal.loop-row-init
loop-row-init c =
    let x = strata_of c.args.self.now.base in
    let rows = c.args.self.now.rows in
    let p = may_follow x rows in
    let least : c.min-row.result ≡ min c.args.below (bound x rows) =
    cc (c.min-row.ensures, c.bound.ensures.bound) in
    record {
      same = cc (cut p _ (none-above x rows c.requires.units) c.args.below);
      low = omega arith;
      bound = omega arith;
    }

pub returns-then-is_later-clause-next : goal.returns-then-is_later-clause-next
returns-then-is_later-clause-next c =
    let x = strata_of c.args.self.now.base in
    let p = may_follow x c.args.self.now.rows in
    let n = c.loop-row.row - 1 in
    sym c.loop-row.invariant.same
    ∙ ap (λ k. filter p (falling k)) (let e : c.loop-row.row ≡ suc n = omega arith in e)
    ∙ cond-true _ (n ∷ filter p (falling n)) (filter p (falling n))
    (below-bound x c.args.self.now.rows c.requires.units n (omega arith)
    ∙ sym c.is_later.ensures ∙ c.if-is_later.true)

pub loop-row-preserved : goal.loop-row-preserved
loop-row-preserved c =
    let x = strata_of c.args.self.now.base in
    let p = may_follow x c.args.self.now.rows in
    let n = c.loop-row.row - 1 in
    record {
      same = sym
          (ap (λ k. filter p (falling k)) (let e : c.loop-row.row ≡ suc n = omega arith in e)
          ∙ cond-false _ (n ∷ filter p (falling n)) (filter p (falling n))
          (below-bound x c.args.self.now.rows c.requires.units n (omega arith)
          ∙ sym c.is_later.ensures ∙ c.if-is_later.false))
          ∙ c.loop-row.invariant.same;
      low = omega arith;
      bound = omega arith;
    }
