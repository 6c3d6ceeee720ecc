use Rattle.std.proofs.Common.{◌∙◌, arith}
use Rattle.fx_base.proofs.Steps.{read_more, read_whole, read_over, read_rest_more, read_rest_failed}
use Rattle.fx_base.proofs.reading.read_all.Goals as goal

pub returns-in_err-count-clause-rest : goal.returns-in_err-count-clause-rest
returns-in_err-count-clause-rest g c = read_rest_failed _ _ _ _ c.reads.invariant.read c.in_err-count.ensures.failed

pub returns-then-count-eq0-clause-answer : goal.returns-then-count-eq0-clause-answer
returns-then-count-eq0-clause-answer g c =
    read_whole _ _ _ _ _ _ _ c.reads.invariant.read c.in_ok-count.ensures.taken c.if-count-eq0.true
    (omega (arith, c.read.auto.to)) c.reads.invariant.small

pub returns-then-count-eq0-clause-rest : goal.returns-then-count-eq0-clause-rest
returns-then-count-eq0-clause-rest g c = read_rest_more _ _ _ _ _ _ c.reads.invariant.read c.in_ok-count.ensures.taken

pub returns-in_err-extend_from_slice-clause-rest :
    goal.returns-in_err-extend_from_slice-clause-rest
returns-in_err-extend_from_slice-clause-rest g c =
    read_rest_more _ _ _ _ _ _ c.reads.invariant.read c.in_ok-count.ensures.taken

pub returns-then-len-limit-clause-answer : goal.returns-then-len-limit-clause-answer
returns-then-len-limit-clause-answer g c =
    let read =
    read_more _ _ _ _ _ _ _ c.reads.invariant.read c.in_ok-count.ensures.taken c.in_ok-count.ensures.within
    c.in_ok-extend_from_slice.ensures.ok in
    read_over _ _ _ _ read (omega (arith, c.if-len-limit.true))

pub returns-then-len-limit-clause-rest : goal.returns-then-len-limit-clause-rest
returns-then-len-limit-clause-rest g c = read_rest_more _ _ _ _ _ _ c.reads.invariant.read c.in_ok-count.ensures.taken

pub reads-preserved : goal.reads-preserved
reads-preserved g c = record {
  read = read_more _ _ _ _ _ _ _ c.reads.invariant.read c.in_ok-count.ensures.taken c.in_ok-count.ensures.within
      c.in_ok-extend_from_slice.ensures.ok;
  same = c.in_ok-count.ensures.cause.unchanged ∙ c.reads.invariant.same;
  unchanged = c.in_ok-count.ensures.unchanged ∙ c.reads.invariant.unchanged;
  small = omega (arith, c.if-len-limit.false);
}
