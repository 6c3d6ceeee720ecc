use Rattle.std.proofs.Common.{◌≡◌, ◌+◌, ◌++◌, sym, ap, ◌∙◌}
use Rattle.std.specs.Prelude.{decimal}
use Rattle.std.proofs.lemmas.Result.{err_from_is_err_and}
use Rattle.fx_text.specs.Names.{place_of}
use Rattle.fx_text.specs.Ranges.{stem}
use Rattle.fx_statements.specs.Folds.{folded_at}
use Rattle.fx_statements.proofs.Folded.{one_more, not_one, none_left}
use Rattle.fx_statements.proofs.fold.fold_numbered.Goals as goal

pub returns-in_err-fold_name-clause-refused : goal.returns-in_err-fold_name-clause-refused
returns-in_err-fold_name-clause-refused c =
    let first = c.args.first.now in
    let s = stem first.text in
    let name : c.as_slice.result.now ≡ s ++ decimal (c.args.from + c.loop-i.i) =
    cc (c.as_slice.ensures, c.in_ok-name.ensures, c.stem.ensures, c.text.ensures) in
    let here =
    ap (λ n. folded_at first c.loop-i.codes (place_of n c.args.factors.now)) (sym name)
    ∙ c.in_err-fold_name.ensures.refused in
    let none =
    c.loop-i.invariant.1 ∙ not_one first c.args.factors.now c.loop-i.codes s c.args.from c.args.count c.loop-i.i
    c.loop-i-test.true c.in_err-fold_name.field-0.0 here in
    let p = err_from_is_err_and c.from_residual-in_err-fold_name.result c.from_residual-in_err-fold_name.ensures.1 in
    rw (p.1, p.2) none

pub loop-i-preserved : goal.loop-i-preserved
loop-i-preserved c =
    let first = c.args.first.now in
    let s = stem first.text in
    let name : c.as_slice.result.now ≡ s ++ decimal (c.args.from + c.loop-i.i) =
    cc (c.as_slice.ensures, c.in_ok-name.ensures, c.stem.ensures, c.text.ensures) in
    let here =
    ap (λ n. folded_at first c.loop-i.codes (place_of n c.args.factors.now)) (sym name)
    ∙ c.in_ok-fold_name.ensures.ok in (
      c.in_ok-fold_name.ensures.vector,
      c.loop-i.invariant.1 ∙ one_more first c.args.factors.now c.loop-i.codes s c.args.from c.args.count c.loop-i.i
          c.loop-i-test.true c.fold_name.new.codes here,
    )

pub returns-clause-folded : goal.returns-clause-folded
returns-clause-folded c =
    c.loop-i.invariant.1 ∙ none_left c.args.first.now c.args.factors.now c.loop-i.codes
    (stem c.args.first.now.text) c.args.from c.args.count c.loop-i.i c.loop-i-test.false
