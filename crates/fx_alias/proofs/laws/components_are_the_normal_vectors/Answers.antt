use Rattle.std.proofs.lemmas.List.Elements.{recursion_from_All}
use Rattle.fx_alias.proofs.Exact.{exactly_once}
use Rattle.fx_components.proofs.Enumerating.{components-vectors}
use Rattle.fx_alias.proofs.Rising.{rising}
use Rattle.fx_alias.proofs.laws.components_are_the_normal_vectors.Goals as goal

pub returns-clause-once : goal.returns-clause-once
returns-clause-once c q s d u h = exactly_once q s d u h

pub returns-clause-vectors : goal.returns-clause-vectors
returns-clause-vectors c q s d some = recursion_from_All _ _ (components-vectors q s d some)

pub returns-clause-order : goal.returns-clause-order
returns-clause-order c q s d some = rising q some s d
