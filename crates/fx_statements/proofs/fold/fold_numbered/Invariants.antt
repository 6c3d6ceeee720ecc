use Rattle.std.proofs.Common.{◌≡◌, length, drop}
use Rattle.fx_text.specs.Ranges.{numbered, stem}
use Rattle.fx_designs.specs.Vectors.{IsVector}
use Rattle.fx_statements.specs.Folds.{names_folded}
use Rattle.fx_statements.proofs.fold.fold_numbered.Given as goal

abbrev pub invariant-loop-i : goal.invariant-loop-i
invariant-loop-i l =
    IsVector 2 (length l.fn.factors) l.codes
    × (names_folded l.first l.factors l.fn.codes (numbered (stem l.first.text) l.from l.count)
    ≡ names_folded l.first l.factors l.codes (drop l.i (numbered (stem l.first.text) l.from l.count)))
