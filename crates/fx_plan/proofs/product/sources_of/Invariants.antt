use Rattle.std.proofs.Common.{◌≡◌, ◌%◌, ◌/◌, map, take}
use Rattle.fx_plan.specs.Products.{run_of}
use Rattle.fx_plan.proofs.product.sources_of.Given as goal

abbrev pub invariant-loop-r : goal.invariant-loop-r
invariant-loop-r l = record {
  runs : l.sources.runs.items ≡ map (run_of l.each l.n) (take l.r-index l.order);
  inner : l.sources.inner.items ≡ map (λ r. r % l.each) (take l.r-index l.order);
  outer : l.sources.outer.items ≡ map (λ r. r / l.each / l.n) (take l.r-index l.order);
}
