-- What the claim on rules gives: one that is weakened does not.
use Rattle.std.specs.Prelude.{ℕ, ◌≡◌, List, [], ◌∷◌, ◌++◌, codes}
use Rattle.std.specs.Fmt.{digits}
use Rattle.fx_designs.specs.Problems.{Dimensions}
use Rattle.fx_alias.specs.Rules.{HasItsRule, block_names, rule_lines, subjects}

abbrev half : Dimensions
half = record { q = 2; m = 2; s = 3; t = 0 }

abbrev names : List (List ℕ)
names = codes "A" ∷ codes "B" ∷ codes "C" ∷ []

-- the line of the third factor is among the rules that are printed
third : (h : HasItsRule half names (1 ∷ 2 ∷ 3 ∷ []) 2)
    → rule_lines 2 2 [] (subjects names (block_names 0)) (1 ∷ 2 ∷ 3 ∷ [])
    ≡ h.before ++ (codes "  C = A*B\n" ++ h.after)
unfolding digits
third h = h.printed
