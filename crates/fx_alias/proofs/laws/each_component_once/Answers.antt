use Rattle.std.proofs.Common.{ℕ, ◌+◌, ◌∙◌, cond, List, ap₂}
use Rattle.std.specs.List.{sum_by}
use Rattle.fx_designs.specs.Vectors.{combination, vectors_of}
use Rattle.fx_laws.proofs.Tables.{is_order-field}
use Rattle.fx_alias.specs.Classes.{class_number}
use Rattle.fx_alias.proofs.Numbered.{constants_by_number, classes_numbered}
use Rattle.fx_alias.proofs.Once.{each_once}
use Rattle.fx_alias.proofs.laws.each_component_once.Goals as goal

pub returns : goal.returns
returns c q m rows components test known =
    let field = is_order-field q known in
    let f : List ℕ → ℕ = λ u. cond (test u) 1 0 in
    ap₂ (λ a b. sum_by f a + sum_by (sum_by f) b)
    (constants_by_number q field m rows components) (classes_numbered q field m rows components)
    ∙ each_once (λ u. class_number q (combination q m u (vectors_of q m rows))) components f
