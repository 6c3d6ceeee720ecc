use Rattle.std.proofs.Common.{ℕ, ◌≢◌, ◌≤◌, [], ◌∷◌, arith, lit≤}
use Rattle.std.proofs.lemmas.List.Elements.{All-from_recursion}
use Rattle.std.proofs.lemmas.List.Kept.{AllPairs-cons}
use Rattle.fx_derived.specs.Codes.{ArePlaces}
use Rattle.mathematics_tests.proofs.derived.levels_of_a_factor_and_its_multiple_are_not_balanced.Goals as goal

-- two places that differ
two_places : (a b : ℕ) → 1 ≤ a → a ≤ 3 → 1 ≤ b → b ≤ 3 → a ≢ b → ArePlaces 3 (a ∷ b ∷ [])
two_places a b la ha lb hb ab = record {
  from_1 = All-from_recursion (λ p. 1 ≤ p) (a ∷ b ∷ []) (la, (lb, tt));
  factors = All-from_recursion (λ p. p ≤ 3) (a ∷ b ∷ []) (ha, (hb, tt));
  different =
      AllPairs-cons (λ x y. x ≢ y) a (b ∷ []) (All-from_recursion (λ y. a ≢ y) (b ∷ []) (ab, tt))
      (λ i j d less low. absurd (omega arith));
}

pub are_balanced-word-requires-clause-places : goal.are_balanced-word-requires-clause-places
are_balanced-word-requires-clause-places g c =
    two_places 1 2 (lit≤ tt) (lit≤ tt) (lit≤ tt) (lit≤ tt) (λ e. absurd (omega arith))

pub are_balanced-none-requires-clause-places : goal.are_balanced-none-requires-clause-places
are_balanced-none-requires-clause-places g c =
    two_places 1 3 (lit≤ tt) (lit≤ tt) (lit≤ tt) (lit≤ tt) (λ e. absurd (omega arith))
