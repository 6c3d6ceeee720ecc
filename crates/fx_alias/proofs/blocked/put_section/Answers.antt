use Rattle.std.proofs.Common.{◌≡◌, ◌++◌, ◌∙◌, List, ℕ, filter, map, ap₂, append_assoc}
use Rattle.std.specs.Prelude.{codes}
use Rattle.std.specs.List.{flat_map}
use Rattle.fx_runs.specs.Runs.{design_of}
use Rattle.fx_vectors.specs.Question.{requirement_of}
use Rattle.fx_alias.specs.Aliasing.{listed_components}
use Rattle.fx_alias.specs.Blocked.{component_line, is_blocked}
use Rattle.fx_components.specs.Lines.{or_none}
use Rattle.fx_alias.proofs.blocked.put_section.Goals as goal

pub returns : goal.returns
returns c =
    let names : map (λ n. n.now) c.as_slice.result.now ≡ c.args.step.now.factors =
    cc (c.as_slice.ensures.value, c.in_ok-names.ensures) in
    let lines : List (List ℕ) → List (List ℕ) → List ℕ =
    λ names components. or_none
    (flat_map (component_line names) (filter (is_blocked (design_of c.args.matrix.now)) components)) in
    let components : c.in_ok-components.components
    ≡ listed_components c.args.matrix.now.shape.q c.args.matrix.now.shape.s (requirement_of c.args.step.now.demands) =
    cc (c.in_ok-components.ensures.components, c.shape.ensures.shape) in
    let all =
    ap₂ (λ a b. a ++ b) c.in_ok-put.ensures.ok (ap₂ lines names components)
    ∙ append_assoc c.args.out.now (codes "blocked\n")
    (lines c.args.step.now.factors
    (listed_components c.args.matrix.now.shape.q c.args.matrix.now.shape.s (requirement_of c.args.step.now.demands))) in
    rw all at c.put_blocked.ensures
