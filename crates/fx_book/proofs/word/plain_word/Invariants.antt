use Rattle.std.proofs.Common.{◌≡◌, ◌≤◌, ◌-◌, length}
use Rattle.fx_vectors.specs.Shape.{dimensions_of}
use Rattle.fx_book.specs.Parts.{parts_after}
use Rattle.fx_book.specs.Words.{by_entries, entries_of_parts}
use Rattle.fx_book.specs.Placing.{AreSound, placing_of}
use Rattle.fx_book.proofs.Placing.{rest_of}
use Rattle.fx_book.proofs.word.plain_word.Given as goal

abbrev pub invariant-loop-end : goal.invariant-loop-end
invariant-loop-end l = record {
  within : l.end ≤ length l.line;
  sound : AreSound (dimensions_of l.shape) (placing_of l.plain);
  so_far : by_entries (dimensions_of l.shape) (entries_of_parts (parts_after l.fn.end l.line))
      ≡ rest_of (dimensions_of l.shape) (placing_of l.plain) (entries_of_parts (parts_after l.end l.line));
}

abbrev pub decreases-loop-end : goal.decreases-loop-end
decreases-loop-end l = length l.line - l.end
