use Rattle.std.proofs.Common.{◌≡◌, ◌+◌, ◌++◌, sym, ap, ◌∙◌, arith}
use Rattle.std.specs.Prelude.{decimal}
use Rattle.std.proofs.lemmas.Result.{err_from_is_err_and}
use Rattle.fx_text.specs.Names.{place_of}
use Rattle.fx_text.specs.Ranges.{stem}
use Rattle.fx_vectors.specs.Effects.{numbers_of}
use Rattle.fx_demands.proofs.Merging.{numbers-push}
use Rattle.fx_effects.specs.Factors.{main_of}
use Rattle.fx_effects.proofs.Numbers.{pushed}
use Rattle.fx_effects.proofs.Mains.{one_more, not_one, none_left}
use Rattle.fx_effects.proofs.range.mains.Goals as goal

pub returns-in_err-main_effect-clause-refused : goal.returns-in_err-main_effect-clause-refused
returns-in_err-main_effect-clause-refused c =
    let first = c.args.first.now in
    let s = stem first.text in
    let name : c.as_slice.result.now ≡ s ++ decimal (c.args.from + c.loop-i.i) =
    cc (c.as_slice.ensures, c.in_ok-name.ensures, c.stem.ensures, c.text.ensures) in
    let main =
    ap (λ n. main_of first (place_of n c.args.factors.now)) (sym name) ∙
    c.in_err-main_effect.ensures.refused in
    let none =
    c.loop-i.invariant.mains ∙ not_one first c.args.factors.now (numbers_of c.loop-i.mains) s c.args.from
    c.args.count c.loop-i.i c.loop-i-test.true c.in_err-main_effect.field-0.0 main in
    let p = err_from_is_err_and c.from_residual-in_err-main_effect.result c.from_residual-in_err-main_effect.ensures.1
    in
    rw (p.1, p.2) none

pub loop-i-preserved : goal.loop-i-preserved
loop-i-preserved c =
    let first = c.args.first.now in
    let s = stem first.text in
    let name : c.as_slice.result.now ≡ s ++ decimal (c.args.from + c.loop-i.i) =
    cc (c.as_slice.ensures, c.in_ok-name.ensures, c.stem.ensures, c.text.ensures) in
    let main =
    ap (λ n. main_of first (place_of n c.args.factors.now)) (sym name) ∙ c.in_ok-main_effect.ensures.ok
    in
    record {
      numbers = pushed c.loop-i.mains c.push.new.self c.in_ok-main_effect.field-0 c.loop-i.invariant.numbers
          (omega arith) c.in_ok-push.ensures.ok;
      mains = cc (
        c.loop-i.invariant.mains,
        one_more first c.args.factors.now (numbers_of c.loop-i.mains) s c.args.from
            c.args.count c.loop-i.i c.loop-i-test.true c.in_ok-main_effect.field-0.0 main,
        numbers-push c.loop-i.mains
            c.push.new.self c.in_ok-main_effect.field-0 c.in_ok-push.ensures.ok,
      );
    }

pub returns-clause-ok : goal.returns-clause-ok
returns-clause-ok c =
    c.loop-i.invariant.mains ∙ none_left c.args.first.now c.args.factors.now (numbers_of c.loop-i.mains)
    (stem c.args.first.now.text) c.args.from c.args.count c.loop-i.i c.loop-i-test.false
