use Rattle.std.proofs.Common.{◌≡◌, ◌≤◌, ◌-◌, ◌^◌, length}
use Rattle.fx_book.specs.Parts.{parts_after, numbers_of_parts}
use Rattle.fx_book.proofs.Listed.{in_front}
use Rattle.fx_table_book.proofs.front.numbers_in.Given as goal

abbrev pub invariant-loop-end : goal.invariant-loop-end
invariant-loop-end l = record {
  within : l.end ≤ length l.line;
  so_far : numbers_of_parts 0 (2 ^ 128) (parts_after l.fn.end l.line)
      ≡ in_front l.numbers (numbers_of_parts 0 (2 ^ 128) (parts_after l.end l.line));
}

abbrev pub decreases-loop-end : goal.decreases-loop-end
decreases-loop-end l = length l.line - l.end
