use Rattle.std.proofs.Common.{◌≡◌, [], drop}
use Rattle.fx_outputs.specs.Columns.{places_behind}
use Rattle.fx_outputs.proofs.derived.places.Given as goal

abbrev pub invariant-loop-name : goal.invariant-loop-name
invariant-loop-name l =
    places_behind l.context l.done [] l.names ≡ places_behind l.context l.done l.places (drop l.name-index l.names)
