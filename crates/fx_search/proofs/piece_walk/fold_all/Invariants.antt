use Rattle.std.proofs.Common.{◌≤◌, ◌+◌, ℕ, List, length}
use Rattle.std.specs.Vec.Iter.{into_iter_items}
use Rattle.fx_designs.specs.Nodes.{Mark}
use Rattle.fx_vectors.specs.declared.question.Question.{Question}
use Rattle.fx_search.specs.SearchPieces.{IsFolding}
use Rattle.fx_search.proofs.piece_walk.fold_all.Given as goal

abbrev pub invariant-loop-piece : goal.invariant-loop-piece
invariant-loop-piece l = record {
  fits : length l.marks ≤ l.limit;
  folding : (question : Question) (tail : List (List ℕ)) (marks : List Mark)
      → IsFolding question l.limit tail marks l.fn.pieces l.fn.ends l.fn.marks
      → IsFolding question l.limit tail marks (into_iter_items l.piece-iterator) (into_iter_items l.rest) l.marks
      × (length l.fn.marks + length l.fn.pieces ≤ length l.marks + length (into_iter_items l.piece-iterator));
}
