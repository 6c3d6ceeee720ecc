-- The first design of least pattern is the answer.
use Rattle.std.proofs.Common.{ℕ, ◌≡◌, ◌<◌, ◌+◌, ◌&&◌, ◌||◌, not, Bool, true, List, Some, ◌∙◌, inl, inr}
use Rattle.std.proofs.lemmas.Bool.{and_parts, and_from, or_cases, or_right, both_ways, not-true, not_from_false}
use Rattle.fx_base.proofs.Lists.{find-filter}
use Rattle.fx_designs.specs.Problems.{Problem}
use Rattle.fx_designs.specs.Patterns.{pattern_of, is_less}
use Rattle.fx_designs.specs.Answers.{answer, designs, is_design, is_of_least_pattern, prefixes}
use Rattle.fx_laws.proofs.FirstDesign.{there}
use Rattle.fx_laws.proofs.Order.{first_found, lists-sorted}
use Rattle.fx_tree.specs.Laws.{IsFirstOfLeastPattern}
use Rattle.fx_tree.proofs.Firsts.{all-at, all-kept}

-- the first of least pattern is the answer
pub first-least-answer : (p : Problem) → p.least ≡ true → 0 < p.dimensions.s + p.dimensions.t → (rows : List ℕ)
    → IsFirstOfLeastPattern p rows → answer p ≡ Some rows
unfolding answer designs
first-least-answer p least some rows first =
    let E : List ℕ → Bool = λ rows. not p.least || is_of_least_pattern p rows in
    let D = is_design p in
    let is_least =
    or_right (not p.least) _
    (all-kept D (λ other. not (is_less (pattern_of p.dimensions other) (pattern_of p.dimensions rows))) (prefixes p)
    (λ other h. not_from_false _ (first.least other h))) in
    find-filter D E (prefixes p)
    ∙ first_found (λ x. D x && E x) _ rows (lists-sorted _ _) (there p some rows first.design)
    (and_from _ _ first.design is_least) (λ other passes earlier.
    let parts = and_parts _ _ passes in
    let of_least : is_of_least_pattern p other ≡ true =
    elim (or_cases _ _ parts.1) [ inl out ↦ absurd (both_ways _ (not-true _ out) least) | inr l ↦ l ] in
    let not_less =
    all-at D _ _ rows
    (there p some rows first.design) first.design of_least in
    both_ways _ (not-true _ not_less) (first.first other parts.0 earlier))
