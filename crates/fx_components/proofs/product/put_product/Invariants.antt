use Rattle.std.proofs.Common.{◌≡◌, ◌++◌, map, drop}
use Rattle.fx_components.specs.Products.{remaining, terms, product}
use Rattle.fx_components.proofs.product.put_product.Given as goal

abbrev pub invariant-loop-i : goal.invariant-loop-i
invariant-loop-i l =
    let names = map (λ n. n.now) l.names in
    l.out ++ remaining l.is_first (terms (drop l.i names) (drop l.i l.u)) ≡ l.initial.out ++ product names l.u
