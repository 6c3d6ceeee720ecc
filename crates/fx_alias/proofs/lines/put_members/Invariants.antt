use Rattle.std.proofs.Common.{◌≡◌, ◌++◌, true, drop, map}
use Rattle.fx_alias.specs.ClassNumbers.{at_places}
use Rattle.fx_alias.specs.Aliasing.{equated_products}
use Rattle.fx_alias.proofs.lines.put_members.Given as goal

abbrev pub invariant-loop-i : goal.invariant-loop-i
invariant-loop-i l =
    let names = map (λ n. n.now) l.names in
    l.out ++ equated_products names l.is_first (at_places l.components (drop l.i-index l.places))
    ≡ l.initial.out ++ equated_products names true (at_places l.components l.places)
