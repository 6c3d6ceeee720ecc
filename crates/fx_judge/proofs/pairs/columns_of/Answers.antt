use Rattle.std.proofs.Common.{ℕ, ◌<◌, ◌∷◌, List, [], length, arith}
use Rattle.std.proofs.lemmas.List.{get_or_read, map-append, take_more}
use Rattle.std.proofs.lemmas.List.Elements.{All-push, All-same}
use Rattle.fx_judge.specs.declared.pairs.Column.{Column}
use Rattle.fx_judge.specs.Columns.{IsColumn}
use Rattle.fx_judge.proofs.pairs.columns_of.Goals as goal

pub loop-i-preserved : goal.loop-i-preserved
loop-i-preserved c =
    let columns = c.loop-i.columns in
    let column = c.in_ok-column_of.field-0 in
    let components = c.in_ok-components.components in
    let component : Column → List ℕ = λ v. v.component in
    let low : c.loop-i.i < length components = omega arith in
    let here = get_or_read components c.loop-i.i c.get.result.now low c.get.ensures [] in
    record {
      columns =
          All-same (IsColumn c.args.plan.now) c.push.new.self _ c.in_ok-push.ensures.ok
          (All-push (IsColumn c.args.plan.now) columns column c.loop-i.invariant.columns
          c.in_ok-column_of.ensures.column);
      components =
          cc (
            c.in_ok-push.ensures.ok,
            map-append component columns (column ∷ []),
            c.loop-i.invariant.components,
            c.in_ok-column_of.ensures.component,
            take_more components c.loop-i.i [] low,
          );
    }
