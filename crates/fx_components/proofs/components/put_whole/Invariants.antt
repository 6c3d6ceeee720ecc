use Rattle.std.proofs.Common.{◌≡◌, ◌++◌}
use Rattle.std.specs.Vec.Iter.{into_iter_items}
use Rattle.fx_designs.specs.Components.{normal_vectors}
use Rattle.fx_components.proofs.components.put_whole.Given as goal

abbrev pub invariant-loop-v : goal.invariant-loop-v
invariant-loop-v l = l.found ++ into_iter_items l.v-iterator ≡ l.fn.found ++ normal_vectors l.q l.chosen.items
