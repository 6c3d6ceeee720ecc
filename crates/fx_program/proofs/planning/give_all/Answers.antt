use Rattle.std.proofs.Common.{◌≡◌, ◌+◌, ◌<◌, ◌∷◌, ◌++◌, drop, sym, ap, ap₂, subst, ◌∙◌}
use Rattle.std.proofs.Math.Numerals.{add-one}
use Rattle.std.proofs.Math.Seq.{drop-cons}
use Rattle.std.proofs.lemmas.List.{drop_all}
use Rattle.fx_statements.specs.Steps.{Meaning}
use Rattle.fx_program.specs.Planning.{RuledView}
use Rattle.fx_program.specs.Plans.{asked_by}
use Rattle.fx_program.proofs.Endings.{ends_by}
use Rattle.fx_program.proofs.Ruling.{given_is}
use Rattle.fx_program.proofs.SoFar.{all_given, no_source, one_more, stopped, worse_low}
use Rattle.fx_program.proofs.planning.give_all.Goals as goal

pub returns-in_err-ended : goal.returns-in_err-ended
returns-in_err-ended g c =
    let steps = c.args.steps.now in let i = c.loop-i.i in
    let next : drop i steps ≡ c.index-steps-i.result ∷ drop (i + 1) steps =
    rw (add-one i) (drop-cons steps i c.index-steps-i.result c.loop-i-test.true)
    ∙ ap (λ (s : RuledView). s ∷ drop (i + 1) steps) (sym c.index-steps-i.is) in
    let ended = c.ended_by.ensures in
    let same = given_is c.args.session.now.seed c.loop-i.plans c.index-steps-i.result (i + 1) c.ended_by.result.number _
    c.ended_by.result.outcome c.ended_by.result.origin ended.number ended.step ended.matrix ended.books ended.origin in
    record {
      whatever = λ source.
          stopped (c.loop-i.invariant.so_far source) next c.in_err-ended.field-0.0
          (ends_by same (c.in_err-ended.ensures.output.whatever source))
          c.from_residual.result c.from_residual.ensures.1;
    }

pub loop-i-preserved : goal.loop-i-preserved
loop-i-preserved g c =
    let steps = c.args.steps.now in let i = c.loop-i.i in
    let own = c.index-steps-i.result in
    let next : drop i steps ≡ own ∷ drop (i + 1) steps =
    rw (add-one i) (drop-cons steps i own c.loop-i-test.true)
    ∙ ap (λ (s : RuledView). s ∷ drop (i + 1) steps) (sym c.index-steps-i.is) in
    let ended = c.ended_by.ensures in
    let same = given_is c.args.session.now.seed c.loop-i.plans own (i + 1) c.ended_by.result.number _
    c.ended_by.result.outcome c.ended_by.result.origin ended.number ended.step ended.matrix ended.books ended.origin in
    let ends = c.in_ok-ended.ensures.output.whatever in
    let plans = c.in_ok-ended.ensures.plans
    ∙ ap₂ (λ (s : Meaning) (m : _). c.loop-i.plans ++ asked_by s m) ended.step ended.matrix in
    record {
      low =
          subst (λ s. s < 4) (sym c.worse-status.ensures)
          (worse_low c.loop-i.status c.in_ok-ended.ended c.loop-i.invariant.low (ends no_source).low);
      closed = (ends no_source).closed;
      so_far = λ source. one_more (c.loop-i.invariant.so_far source) next (ends_by same (ends source)) plans
          c.worse-status.ensures;
    }

pub returns : goal.returns
returns g c =
    let none = drop_all c.loop-i.i c.args.steps.now c.loop-i-test.false in
    record {
      whatever = λ source.
          all_given (c.loop-i.invariant.so_far source) none c.loop-i.invariant.low c.loop-i.invariant.closed;
    }
