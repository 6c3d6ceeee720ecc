use Rattle.std.proofs.Common.{◌≡◌, take, true}
use Rattle.std.specs.List.{list_all}
use Rattle.fx_table_book.specs.Texts.{is_count}
use Rattle.fx_table_book.proofs.front.are_counts.Given as goal

abbrev pub invariant-loop-a : goal.invariant-loop-a
invariant-loop-a l = list_all (is_count l.q) (take l.a-index l.key) ≡ true
