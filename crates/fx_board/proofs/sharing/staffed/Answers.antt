use Rattle.std.proofs.Common.{◌∷◌, [], length, length-append, sym, subst, ap, arith}
use Rattle.fx_board.specs.Sharing.{AreReady}
use Rattle.fx_board.proofs.Teams.{ready_more}
use Rattle.fx_board.proofs.sharing.staffed.Goals as goal

pub loop-i-init : goal.loop-i-init
loop-i-init g c = record {
  start = subst (AreReady (g.J.Jobs.is_ready c.args.jobs.now)) (sym c.from_vec-staff.ensures) c.requires.ready;
  count = sym c.len-i.ensures;
  most = omega (arith, ap length c.from_vec-staff.ensures);
}

pub loop-i-preserved : goal.loop-i-preserved
loop-i-preserved g c =
    let more = c.in_ok-push.ensures.ok in
    let i = c.loop-i.invariant in
    record {
      start = subst (AreReady (g.J.Jobs.is_ready c.args.jobs.now)) (sym more)
          (ready_more _ c.loop-i.staff c.in_ok-worker.worker i.start
          c.in_ok-worker.ensures);
      count = omega (arith, ap length more, length-append c.loop-i.staff (c.in_ok-worker.worker ∷ []));
      most = omega (arith, ap length more, length-append c.loop-i.staff (c.in_ok-worker.worker ∷ []));
    }

pub returns-clause-ready : goal.returns-clause-ready
returns-clause-ready g c =
    subst (AreReady (g.J.Jobs.is_ready c.args.jobs.now)) (sym c.into_vec.ensures) c.loop-i.invariant.start

pub returns-clause-wanted : goal.returns-clause-wanted
returns-clause-wanted g c = omega (arith, ap length c.into_vec.ensures)

pub returns-clause-most : goal.returns-clause-most
returns-clause-most g c = omega (arith, ap length c.into_vec.ensures)
