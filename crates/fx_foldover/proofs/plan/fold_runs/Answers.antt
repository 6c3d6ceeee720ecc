use Rattle.std.proofs.Common.{◌≡◌, ap, arith}
use Rattle.std.proofs.lemmas.List.{take_all}
use Rattle.fx_designs.specs.Vectors.{vectors_of}
use Rattle.fx_designs.specs.Runs.{runs_of}
use Rattle.fx_foldover.specs.Foldovers.{combined_plan}
use Rattle.fx_foldover.proofs.Exchanges.{exchanged_run-vector}
use Rattle.fx_foldover.proofs.plan.fold_runs.Goals as goal

pub push-requires : goal.push-requires
push-requires c =
    let s = c.loop-i.runs.shape in
    let same = c.loop-i.invariant.shape in
    let q : s.q ≡ 2 = cc c.requires.levels in
    rw c.exchanged_run-exchanged.ensures (exchanged_run-vector s.q _ c.args.fold.now c.row.result.now q
    (omega (arith, ap (λ z. z.s) same, ap (λ z. z.t) same)) c.row.ensures.vector)

pub returns-clause-rows : goal.returns-clause-rows
unfolding combined_plan
returns-clause-rows c =
    let m = c.args.matrix.now.shape.m in
    let first = c.in_ok-runs.runs.rows in
    let runs : first ≡ runs_of 2 m (vectors_of 2 m c.args.matrix.now.rows) =
    cc (c.in_ok-runs.ensures.rows, c.requires.levels) in
    cc (c.loop-i.invariant.rows, (take_all c.loop-i.i first (omega arith)))
