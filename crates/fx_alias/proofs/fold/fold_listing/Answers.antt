use Rattle.std.proofs.Common.{◌∙◌, arith}
use Rattle.fx_alias.proofs.Folds.{unblocked}
use Rattle.fx_alias.proofs.fold.fold_listing.Goals as goal

pub put_fold-requires-clause-levels : goal.put_fold-requires-clause-levels
put_fold-requires-clause-levels c =
    c.requires.levels ∙ (c.args.step.now.fold_fits c.in-Factors.folded c.in-Factors.is).0

pub put_fold-requires-clause-no_blocks : goal.put_fold-requires-clause-no_blocks
put_fold-requires-clause-no_blocks c =
    c.requires.unblocked
    (unblocked c.args.step.now.settings.blocks (c.args.step.now.fold_fits c.in-Factors.folded c.in-Factors.is).1)

pub put_fold-requires-clause-complete : goal.put_fold-requires-clause-complete
put_fold-requires-clause-complete c =
    let none =
    c.requires.unblocked
    (unblocked c.args.step.now.settings.blocks (c.args.step.now.fold_fits c.in-Factors.folded c.in-Factors.is).1) in
    omega arith
