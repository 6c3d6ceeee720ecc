use Rattle.std.proofs.Common.{ℕ, ◌≢◌, ◌≤◌, [], ◌∷◌, arith, lit≤}
use Rattle.std.proofs.lemmas.List.Elements.{All-from_recursion}
use Rattle.std.proofs.lemmas.List.Kept.{AllPairs-cons}
use Rattle.fx_derived.specs.Codes.{ArePlaces}
use Rattle.mathematics_tests.proofs.derived.levels_are_balanced_where_no_defining_word_is_on_the_factors.Goals as goal

-- three places that differ
three_places : (a b c : ℕ) → 1 ≤ a → a ≤ 4 → 1 ≤ b → b ≤ 4 → 1 ≤ c → c ≤ 4 → a ≢ b → a ≢ c → b ≢ c
    → ArePlaces 4 (a ∷ b ∷ c ∷ [])
three_places a b c la ha lb hb lc hc ab ac bc = record {
  from_1 = All-from_recursion (λ p. 1 ≤ p) (a ∷ b ∷ c ∷ []) (la, (lb, (lc, tt)));
  factors = All-from_recursion (λ p. p ≤ 4) (a ∷ b ∷ c ∷ []) (ha, (hb, (hc, tt)));
  different =
      AllPairs-cons (λ x y. x ≢ y) a (b ∷ c ∷ []) (All-from_recursion (λ y. a ≢ y) (b ∷ c ∷ []) (ab, (ac, tt)))
      (AllPairs-cons (λ x y. x ≢ y) b (c ∷ []) (All-from_recursion (λ y. b ≢ y) (c ∷ []) (bc, tt))
      (λ i j d less low. absurd (omega arith)));
}

pub are_balanced-word-requires-clause-places : goal.are_balanced-word-requires-clause-places
are_balanced-word-requires-clause-places g c =
    three_places 1 2 3 (lit≤ tt) (lit≤ tt) (lit≤ tt) (lit≤ tt) (lit≤ tt) (lit≤ tt)
    (λ e. absurd (omega arith)) (λ e. absurd (omega arith)) (λ e. absurd (omega arith))

pub are_balanced-none-requires-clause-places : goal.are_balanced-none-requires-clause-places
are_balanced-none-requires-clause-places g c =
    three_places 4 2 1 (lit≤ tt) (lit≤ tt) (lit≤ tt) (lit≤ tt) (lit≤ tt) (lit≤ tt)
    (λ e. absurd (omega arith)) (λ e. absurd (omega arith)) (λ e. absurd (omega arith))
