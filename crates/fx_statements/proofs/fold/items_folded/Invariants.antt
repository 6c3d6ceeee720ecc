use Rattle.std.proofs.Common.{◌≡◌, length, drop}
use Rattle.fx_designs.specs.Vectors.{IsVector, zeros}
use Rattle.fx_settings.specs.Items.{items_behind}
use Rattle.fx_statements.specs.Folds.{items_folded}
use Rattle.fx_statements.proofs.fold.items_folded.Given as goal

abbrev pub invariant-loop-i : goal.invariant-loop-i
invariant-loop-i l =
    IsVector 2 (length l.factors) l.codes
    × (items_folded l.factors (zeros (length l.factors)) (items_behind l.statement)
    ≡ items_folded l.factors l.codes (items_behind (drop l.i l.lexemes)))
