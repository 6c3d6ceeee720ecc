-- Lines of a listing.
use Rattle.std.proofs.Common.{ℕ, ◌≡◌, List, [], ◌∷◌, refl, true, false, Some, None}
use Rattle.std.specs.Prelude.{Bool, codes, replicate, ◌==◌, if◌then◌else◌}
use Rattle.std.specs.Fmt.{digits}
use Rattle.fx_designs.specs.Galois.{add, mul, neg, prime_of, degree_of, reduction_of}
use Rattle.fx_designs.specs.Vectors.{vectors_of}
use Rattle.fx_designs.specs.Runs.{is_constant, is_constant_in_blocks, runs_of}
use Rattle.fx_designs.specs.Aliases.{is_aliased}
use Rattle.fx_designs.specs.Components.{components}
use Rattle.fx_designs.specs.Problems.{Dimensions, AtResolution}
use Rattle.fx_designs.specs.Patterns.{constant_words, pattern_of}
use Rattle.fx_designs.specs.Outcomes.{Ending, Design, NoDesign, BudgetEnded}
use Rattle.fx_runs.specs.Runs.{RunsView, design_of}
use Rattle.fx_settings.specs.declared.settings.Size.{Size}
use Rattle.fx_settings.specs.declared.settings.Size.TheVariants.{Runs, Minimum}
use Rattle.fx_settings.specs.declared.settings.Criterion.{Criterion}
use Rattle.fx_settings.specs.declared.settings.Criterion.TheVariants.{Effects, Highest, Resolution}
use Rattle.fx_settings.specs.declared.settings.Blocks.{Blocks}
use Rattle.fx_settings.specs.declared.settings.Blocks.TheVariants.{Factors, Without}
use Rattle.fx_statements.specs.Questions.{Conclusion}
use Rattle.fx_statements.specs.declared.fold.Fold.TheVariants as fold
use Rattle.fx_statements.specs.Steps.{Meaning, examine_of}
use Rattle.fx_alias.specs.declared.marks.BlockMarks.TheVariants as marks
use Rattle.fx_alias.specs.Aliasing.{alias_section}
use Rattle.fx_alias.specs.Blocked.{blocked_section}
use Rattle.fx_alias.specs.BlockWords.{block_words_of}
use Rattle.fx_alias.specs.Given.{given_head}
use Rattle.fx_alias.specs.Sections.{matrix_of}
use Rattle.fx_alias.specs.Points.{design_section}
use Rattle.fx_alias.specs.Heads.{head_lines}
use Rattle.fx_components.specs.Products.{product}
use Rattle.fx_alias.specs.ComponentOrder.{is_before}
use Rattle.fx_alias.specs.Rules.{rule_line, rules_section}
use Rattle.fx_designs.specs.Canonical.{is_canonical}
use Rattle.fx_designs.specs.Spans.{in_span}
use Rattle.fx_tree.specs.Introduced.{introducing}
use Rattle.fx_alias.specs.Patterns.{pattern_lines}

abbrev size : ℕ → ℕ → ℕ → Dimensions
size q m s = record { q = q; m = m; s = s; t = 0 }

abbrev in_blocks : ℕ → ℕ → ℕ → ℕ → Dimensions
in_blocks q m s t = record { q = q; m = m; s = s; t = t }

-- a step of so many factors that asks for this
abbrev step_in : Blocks → ℕ → Size → Criterion → Bool → Meaning
step_in blocks s size kind least = record {
  factors = replicate s (codes "A");
  settings =
      record { q = 2; budget = 1000000; size = size; criterion = kind; least = least; blocks = blocks };
  requirement = AtResolution 3;
  examine = examine_of [];
  fold = fold.Without;
  outputs = [];
}

abbrev step_of : ℕ → Size → Criterion → Bool → Meaning
step_of s size kind least = step_in Without s size kind least

-- an outcome without a resolution that was reached
abbrev ended : Dimensions → Ending → Conclusion
ended d ending = record { dimensions = d; ending = ending; reached = 0 }

-- the step's number, the factors and their levels, how the search ended, and the resolution of its matrix
heads :
    (head_lines 12 (step_of 2 (Runs 2) (Resolution 3) false) (ended (size 3 2 2) (Design (1 ∷ 3 ∷ []) 100))
    ≡ codes "step 12\nfactors 2 levels 3\ndesign 9 runs\nno defining words\nnodes 100\n")
    × (head_lines 1 (step_of 3 (Runs 2) Highest true) (ended (size 2 2 3) (Design (1 ∷ 2 ∷ 3 ∷ []) 3))
    ≡ codes "step 1\nfactors 3 levels 2\ndesign 4 runs\nresolution 3 least aberration\nnodes 3\n")
    × (head_lines 1 (step_of 3 (Runs 2) (Resolution 3) false) (ended (size 2 2 3) (Design (1 ∷ 2 ∷ 3 ∷ []) 3))
    ≡ codes "step 1\nfactors 3 levels 2\ndesign 4 runs\nresolution 3\nnodes 3\n")
    × (head_lines 1 (step_of 3 (Runs 2) Effects false) (ended (size 2 2 3) (Design (1 ∷ 2 ∷ 3 ∷ []) 3))
    ≡ codes "step 1\nfactors 3 levels 2\ndesign 4 runs\nresolution 3\nnodes 3\n")
    × (head_lines 1 (step_of 2 (Runs 5) (Resolution 3) false) (ended (size 4 5 2) (NoDesign 7))
    ≡ codes "step 1\nfactors 2 levels 4\nno design in 1024 runs\nnodes 7\n")
    × (head_lines 100 (step_of 3 (Runs 1) (Resolution 3) true) (ended (size 9 1 3) (BudgetEnded None 5000000))
    ≡ codes "step 100\nfactors 3 levels 9\nbudget ended after 5000000 nodes\n")
    × (head_lines 1 (step_of 3 (Runs 2) (Resolution 3) true)
    (ended (size 2 2 3) (BudgetEnded (Some (1 ∷ 2 ∷ 3 ∷ [])) 2))
    ≡ codes "step 1\nfactors 3 levels 2\nbudget ended after 2 nodes\ndesign 4 runs not proved best\nresolution 3\n")
unfolding digits prime_of degree_of reduction_of add mul neg runs_of is_constant constant_words pattern_of
heads = (refl, refl, refl, refl, refl, refl, refl)

abbrev five_rows : List ℕ
five_rows = 1 ∷ 2 ∷ 4 ∷ 7 ∷ 6 ∷ []

-- the highest resolution, and the best that a budget leaves
heads_of_highest :
    (head_lines 1 (step_of 5 (Runs 3) Highest false) (ended (size 2 3 5) (Design five_rows 15))
    ≡ codes "step 1\nfactors 5 levels 2\ndesign 8 runs\nresolution 3 highest\nnodes 15\n")
    × (head_lines 1 (step_of 5 (Runs 3) Highest false) (ended (size 2 3 5) (BudgetEnded (Some five_rows) 14))
    ≡ codes "step 1\nfactors 5 levels 2\nbudget ended after 14 nodes\ndesign 8 runs not proved best\nresolution 3\n")
    × (head_lines 1 (step_of 1 (Runs 1) Highest false) (ended (size 2 1 1) (Design (1 ∷ []) 1))
    ≡ codes "step 1\nfactors 1 levels 2\ndesign 2 runs\nno defining words\nnodes 1\n")
unfolding digits prime_of degree_of reduction_of add mul neg runs_of is_constant constant_words pattern_of
heads_of_highest = (refl, refl, refl)

-- blocks are in the line of a design, and in that of a size that has none
heads_in_blocks :
    (head_lines 1 (step_of 3 (Runs 3) (Resolution 3) false) (ended (in_blocks 2 3 3 1) (Design (1 ∷ 2 ∷ 4 ∷ 7 ∷ []) 4))
    ≡ codes "step 1\nfactors 3 levels 2\ndesign 8 runs in 2 blocks\nno defining words\nnodes 4\n")
    × (head_lines 1 (step_of 3 (Runs 3) (Resolution 3) false)
    (ended (in_blocks 2 3 3 2) (Design (1 ∷ 2 ∷ 4 ∷ 6 ∷ 5 ∷ []) 111))
    ≡ codes "step 1\nfactors 3 levels 2\ndesign 8 runs in 4 blocks\nno defining words\nnodes 111\n")
    × (head_lines 1 (step_of 3 (Runs 3) (Resolution 3) false) (ended (in_blocks 2 3 3 3) (NoDesign 91))
    ≡ codes "step 1\nfactors 3 levels 2\nno design in 8 runs with 8 blocks\nnodes 91\n")
    × (head_lines 1 (step_of 3 (Runs 3) (Resolution 3) false)
    (ended (in_blocks 2 3 3 2) (BudgetEnded (Some (1 ∷ 2 ∷ 4 ∷ 6 ∷ 5 ∷ [])) 110))
    ≡ codes "step 1\nfactors 3 levels 2\nbudget ended after 110 nodes\ndesign 8 runs in 4 blocks not proved best\nno defining words\n")
unfolding digits prime_of degree_of reduction_of add mul neg runs_of is_constant constant_words pattern_of
heads_in_blocks = (refl, refl, refl, refl)

-- where the highest resolution is wanted in blocks, what they are clear to, and no claim in the line of the resolution
heads_of_highest_in_blocks :
    (head_lines 1 (step_in (Factors 1) 3 (Runs 3) Highest false)
    (record { dimensions = in_blocks 2 3 3 1; ending = Design (1 ∷ 2 ∷ 4 ∷ 7 ∷ []) 8; reached = 4 })
    ≡ codes "step 1\nfactors 3 levels 2\ndesign 8 runs in 2 blocks\nno defining words\nblocks clear to resolution 4 highest\nnodes 8\n")
    × (head_lines 1 (step_in (Factors 1) 3 (Runs 2) Highest false)
    (record { dimensions = in_blocks 2 2 3 1; ending = BudgetEnded (Some (1 ∷ 2 ∷ 3 ∷ 3 ∷ [])) 9; reached = 3 })
    ≡ codes "step 1\nfactors 3 levels 2\nbudget ended after 9 nodes\ndesign 4 runs in 2 blocks not proved best\nresolution 3\nblocks clear to resolution 3\n")
    × (head_lines 1 (step_in (Factors 1) 3 (Runs 2) Highest false)
    (record { dimensions = in_blocks 2 2 3 1; ending = BudgetEnded None 9; reached = 0 })
    ≡ codes "step 1\nfactors 3 levels 2\nbudget ended after 9 nodes\n")
    × (head_lines 1 (step_in (Factors 1) 3 (Runs 3) (Resolution 4) false)
    (record { dimensions = in_blocks 2 3 3 1; ending = Design (1 ∷ 2 ∷ 4 ∷ 7 ∷ []) 4; reached = 4 })
    ≡ codes "step 1\nfactors 3 levels 2\ndesign 8 runs in 2 blocks\nno defining words\nnodes 4\n")
unfolding digits prime_of degree_of reduction_of add mul neg runs_of is_constant constant_words pattern_of
heads_of_highest_in_blocks = (refl, refl, refl, refl)

-- of the least size: the design is of the first that has one; where none has, there is no word on blocks
heads_of_least_size :
    (head_lines 1 (step_of 6 Minimum (Resolution 4) false)
    (ended (size 2 4 6) (Design (1 ∷ 2 ∷ 4 ∷ 8 ∷ 14 ∷ 13 ∷ []) 31))
    ≡ codes "step 1\nfactors 6 levels 2\ndesign 16 runs\nresolution 4\nnodes 31\n")
    × (head_lines 1 (step_of 2 Minimum (Resolution 3) false) (ended (size 2 10 2) (NoDesign 50))
    ≡ codes "step 1\nfactors 2 levels 2\nno design in at most 1024 runs\nnodes 50\n")
    × (head_lines 1 (step_of 2 Minimum (Resolution 3) false) (ended (in_blocks 3 6 2 4) (NoDesign 50))
    ≡ codes "step 1\nfactors 2 levels 3\nno design in at most 729 runs\nnodes 50\n")
unfolding digits prime_of degree_of reduction_of add mul neg runs_of is_constant constant_words pattern_of
heads_of_least_size = (refl, refl, refl)

-- the words of each weight that has some
patterns :
    (pattern_lines (0 ∷ 0 ∷ 7 ∷ 7 ∷ 0 ∷ 0 ∷ 1 ∷ []) ≡ codes "aberration\n  A3 7\n  A4 7\n  A7 1\n")
    × (pattern_lines (0 ∷ 0 ∷ []) ≡ codes "aberration\n  none\n")
unfolding digits
patterns = (refl, refl)

-- names in the order of the factors, each with its coefficient unless that is 1
products :
    (product (codes "A" ∷ codes "Bc" ∷ codes "D" ∷ []) (1 ∷ 0 ∷ 8 ∷ []) ≡ codes "A*D^8")
    × (product (codes "A" ∷ codes "Bc" ∷ codes "D" ∷ []) (2 ∷ 3 ∷ 1 ∷ []) ≡ codes "A^2*Bc^3*D")
    × (product (codes "A" ∷ codes "Bc" ∷ codes "D" ∷ []) (0 ∷ 0 ∷ 0 ∷ []) ≡ codes "0")
unfolding digits
products = (refl, refl, refl)

-- coefficients and products of up to nine levels; a row that is zero; rows that all introduce a run index, and one
-- that introduces the second after a row that is zero
rules_of_rows :
    (rules_section (size 7 3 4) (codes "A" ∷ codes "B" ∷ codes "C" ∷ codes "D" ∷ []) (1 ∷ 7 ∷ 49 ∷ 69 ∷ [])
    ≡ codes "rules\n  D = A^6*B^2*C\n")
    × (rules_section (size 8 2 4) (codes "A" ∷ codes "B" ∷ codes "C" ∷ codes "D" ∷ []) (1 ∷ 8 ∷ 15 ∷ 12 ∷ [])
    ≡ codes "rules\n  C = A^7*B\n  D = A^4*B\n")
    × (rules_section (size 9 2 4) (codes "A" ∷ codes "B" ∷ codes "C" ∷ codes "D" ∷ []) (1 ∷ 9 ∷ 17 ∷ 9 ∷ [])
    ≡ codes "rules\n  C = A^8*B\n  D = B\n")
    × (rules_section (size 2 2 3) (codes "Speed" ∷ codes "Feed" ∷ codes "C" ∷ []) (1 ∷ 0 ∷ 2 ∷ [])
    ≡ codes "rules\n  Feed = 0\n")
    × (rules_section (size 2 2 2) (codes "A" ∷ codes "B" ∷ []) (1 ∷ 2 ∷ []) ≡ codes "rules\n  none\n")
    × (rules_section (size 2 2 4) (codes "A" ∷ codes "B" ∷ codes "C" ∷ codes "D" ∷ []) (1 ∷ 0 ∷ 2 ∷ 3 ∷ [])
    ≡ codes "rules\n  B = 0\n  D = A*C\n")
unfolding digits
rules_of_rows = (refl, refl, refl, refl, refl, refl)

-- Block factors come after the factors. One that introduces a run index is that run factor, and the products after it
-- have its name.
rules_of_blocks :
    (rules_section (in_blocks 2 3 3 1) (codes "A" ∷ codes "B" ∷ codes "C" ∷ []) (1 ∷ 2 ∷ 4 ∷ 7 ∷ [])
    ≡ codes "rules\n  [1] = A*B*C\n")
    × (rules_section (in_blocks 2 3 3 2) (codes "A" ∷ codes "B" ∷ codes "C" ∷ []) (1 ∷ 2 ∷ 4 ∷ 6 ∷ 5 ∷ [])
    ≡ codes "rules\n  [1] = B*C\n  [2] = A*C\n")
    × (rules_section (in_blocks 3 3 3 3) (codes "A" ∷ codes "B" ∷ codes "C" ∷ []) (1 ∷ 3 ∷ 4 ∷ 9 ∷ 15 ∷ 0 ∷ [])
    ≡ codes "rules\n  C = A*B\n  [1] = run factor 3\n  [2] = B^2*[1]\n  [3] = 0\n")
    × (rules_section (in_blocks 2 3 1 2) (codes "A" ∷ []) (1 ∷ 2 ∷ 4 ∷ [])
    ≡ codes "rules\n  [1] = run factor 2\n  [2] = run factor 3\n")
    × (rules_section (in_blocks 2 10 1 10) (codes "A" ∷ []) (1 ∷ 1 ∷ 1 ∷ 1 ∷ 1 ∷ 1 ∷ 1 ∷ 1 ∷ 1 ∷ 1 ∷ 2 ∷ [])
    ≡ codes "rules\n  [1] = A\n  [2] = A\n  [3] = A\n  [4] = A\n  [5] = A\n  [6] = A\n  [7] = A\n  [8] = A\n  [9] = A\n  [10] = run factor 2\n")
unfolding digits
rules_of_blocks = (refl, refl, refl, refl, refl)

abbrev three_names : List (List ℕ)
three_names = codes "A" ∷ codes "B" ∷ codes "C" ∷ []

-- C = A*B; A and C with the same levels; and C = A*B at three levels
aliases :
    (alias_section marks.Without three_names (design_of (matrix_of (size 2 2 3) (1 ∷ 2 ∷ 3 ∷ []))) (components 2 3 2)
    ≡ codes "aliasing\n  A = B*C\n  B = A*C\n  C = A*B\n")
    × (alias_section marks.Without three_names (design_of (matrix_of (size 2 2 3) (1 ∷ 2 ∷ 1 ∷ []))) (components 2 3 2)
    ≡ codes "aliasing\n  mean = A*C\n  A = C\n  B\n  A*B = B*C\n")
    × (alias_section marks.Without three_names (design_of (matrix_of (size 3 2 3) (1 ∷ 3 ∷ 4 ∷ []))) (components 3 3 2)
    ≡ codes "aliasing\n  A = B^2*C\n  B = A^2*C\n  C = A*B\n  A^2*B = A*C = B*C\n")
unfolding digits is_aliased is_constant runs_of add mul neg prime_of degree_of reduction_of
aliases = (refl, refl, refl)

abbrev two_factors : ℕ → RunsView
two_factors t =
    record {
      shape = record { q = 2; m = 2; s = 2; t = t };
      rows = runs_of 2 2 (vectors_of 2 2 (1 ∷ 2 ∷ (if t == 0 then [] else 3 ∷ [])));
    }

-- blocks are numbered from 1
points_of_runs :
    (design_section (codes "A" ∷ codes "B" ∷ []) (two_factors 0)
    ≡ codes "points A B\n  1 -1 -1\n  2 -1 1\n  3 1 -1\n  4 1 1\n")
    × (design_section (codes "A" ∷ codes "B" ∷ []) (two_factors 1)
    ≡ codes "points BLOCK A B\n  1 1 -1 -1\n  2 2 -1 1\n  3 2 1 -1\n  4 1 1 1\n")
unfolding digits runs_of add mul prime_of degree_of reduction_of
points_of_runs = (refl, refl)

-- A*B is that of the blocks; without blocks none is confounded
confounded :
    (blocked_section (codes "A" ∷ codes "B" ∷ []) (two_factors 1) (components 2 2 2) ≡ codes "blocked\n  A*B\n")
    × (blocked_section (codes "A" ∷ codes "B" ∷ []) (two_factors 0) (components 2 2 2) ≡ codes "blocked\n  none\n")
unfolding digits is_constant is_constant_in_blocks runs_of add mul neg prime_of degree_of reduction_of
confounded = (refl, refl)

-- with marks the class of A*B says so; there are none without blocks
marked_classes :
    (alias_section marks.With (codes "A" ∷ codes "B" ∷ []) (two_factors 1) (components 2 2 2)
    ≡ codes "aliasing\n  A\n  B\n  A*B = blocks\n")
    × (alias_section marks.Without (codes "A" ∷ codes "B" ∷ []) (two_factors 1) (components 2 2 2)
    ≡ codes "aliasing\n  A\n  B\n  A*B\n")
    × (alias_section marks.With (codes "A" ∷ codes "B" ∷ []) (two_factors 0) (components 2 2 2)
    ≡ codes "aliasing\n  A\n  B\n  A*B\n")
unfolding digits is_aliased is_constant is_constant_in_blocks runs_of add mul neg prime_of degree_of reduction_of
marked_classes = (refl, refl, refl)

-- C constant, so A and A*C are aliased; A*B confounded with blocks; a block factor with a run index of its own
given_heads :
    (given_head 1 (step_of 3 (Runs 2) (Resolution 3) false) (matrix_of (size 2 2 3) (1 ∷ 2 ∷ 0 ∷ [])) (Some false)
    ≡ codes "step 1\nfactors 3 levels 2\ndesign 4 runs given\nresolution 1\ndoes not meet the model\nclear 0 of 3 factors, 1 of 3 two-factor interactions\n")
    × (given_head 2 (step_in (Factors 1) 2 (Runs 2) (Resolution 3) false)
    (matrix_of (in_blocks 2 2 2 1) (1 ∷ 2 ∷ 3 ∷ [])) (Some true)
    ≡ codes "step 2\nfactors 2 levels 2\ndesign 4 runs in 2 blocks given\nno defining words\nmeets the model\nclear 2 of 2 factors, 0 of 1 two-factor interactions\nconfounded with blocks B2 1\n")
    × (given_head 1 (step_in (Factors 1) 2 (Runs 3) Highest false)
    (matrix_of (in_blocks 2 3 2 1) (1 ∷ 2 ∷ 4 ∷ [])) None
    ≡ codes "step 1\nfactors 2 levels 2\ndesign 8 runs in 2 blocks given\nno defining words\nclear 2 of 2 factors, 1 of 1 two-factor interactions\nconfounded with blocks none\n")
    × (given_head 1 (step_of 2 (Runs 2) Highest false) (matrix_of (size 3 2 2) (1 ∷ 3 ∷ [])) None
    ≡ codes "step 1\nfactors 2 levels 3\ndesign 9 runs given\nno defining words\nclear 2 of 2 factors, 2 of 2 two-factor components\n")
unfolding digits given_head block_words_of is_aliased is_constant is_constant_in_blocks constant_words pattern_of
    runs_of add mul neg prime_of degree_of reduction_of
given_heads = (refl, refl, refl, refl)

-- the fraction D = A*B*C of eight runs: canonical, with a rule for its last row alone, over the three names before it
a_rule :
    (is_canonical (size 2 3 4) (AtResolution 4) (1 ∷ 2 ∷ 4 ∷ 7 ∷ []) ≡ true)
    × (introducing 2 0 (1 ∷ 2 ∷ 4 ∷ 7 ∷ []) (codes "A" ∷ codes "B" ∷ codes "C" ∷ codes "D" ∷ [])
    ≡ codes "A" ∷ codes "B" ∷ codes "C" ∷ [])
    × (rule_line 2 3 (codes "A" ∷ codes "B" ∷ codes "C" ∷ []) (record { name = codes "D"; is_block = false }) 7
    ≡ codes "  D = A*B*C\n")
unfolding is_canonical in_span digits add degree_of mul prime_of reduction_of
a_rule = (refl, refl, refl)

-- with fewer factors; with a first factor of its own; with the same factors and the less number
an_order :
    (is_before 3 (0 ∷ 1 ∷ 0 ∷ []) (1 ∷ 1 ∷ 0 ∷ []) ≡ true) × (is_before 3 (1 ∷ 1 ∷ 0 ∷ []) (0 ∷ 1 ∷ 0 ∷ []) ≡ false)
    × (is_before 3 (1 ∷ 0 ∷ 1 ∷ []) (0 ∷ 1 ∷ 1 ∷ []) ≡ true) × (is_before 3 (0 ∷ 1 ∷ 1 ∷ []) (1 ∷ 0 ∷ 1 ∷ []) ≡ false)
    × (is_before 3 (1 ∷ 1 ∷ 0 ∷ []) (2 ∷ 1 ∷ 0 ∷ []) ≡ true) × (is_before 3 (1 ∷ 1 ∷ 0 ∷ []) (1 ∷ 1 ∷ 0 ∷ []) ≡ false)
an_order = (refl, refl, refl, refl, refl, refl)
