-- The listing of a plan that was made elsewhere.
use Rattle.std.specs.Prelude.{ℕ, ◌-◌, ◌==◌, if◌then◌else◌, Bool, true, false, List, [], ◌∷◌, ◌++◌, map, length}
use Rattle.std.specs.Prelude.{slice_index_or, count_by, codes, decimal, Option, Some, None}
use Rattle.std.specs.List.{flat_map}
use Rattle.fx_components.specs.Lines.{or_none}
use Rattle.fx_components.specs.Products.{product}
use Rattle.fx_judge.specs.declared.kinship.Kinship.{Kinship}
use Rattle.fx_judge.specs.declared.kinship.Kinship.TheVariants.{Aliased, Orthogonal, Partial}
use Rattle.fx_judge.specs.declared.rule.Rule.{Rule}
use Rattle.fx_judge.specs.Kinships.{kinship}
use Rattle.fx_judge.specs.Plans.{PlanView, plan_components}
use Rattle.fx_judge.specs.Rules.{regular_rules}

-- each two items of a list, in the order of the first and then of the second
abbrev pub pairs_in : {X : Type 0} → List X → List (X × X)
pairs_in [] = []
pairs_in (x ∷ xs) = map (λ y. (x, y)) xs ++ pairs_in xs

-- what the runs of a plan show of a pair of components
abbrev pub kinship_in : PlanView → List ℕ × List ℕ → Kinship
kinship_in plan pair = kinship plan.q plan.rows pair.0 pair.1

-- what they show of each two listed components
abbrev pub kinships : PlanView → List Kinship
kinships plan = map (kinship_in plan) (pairs_in (plan_components plan))

abbrev pub is_aliased_pair : Kinship → Bool
is_aliased_pair Aliased = true
is_aliased_pair Orthogonal = false
is_aliased_pair Partial = false

abbrev pub is_orthogonal_pair : Kinship → Bool
is_orthogonal_pair Aliased = false
is_orthogonal_pair Orthogonal = true
is_orthogonal_pair Partial = false

abbrev pub is_partial_pair : Kinship → Bool
is_partial_pair Aliased = false
is_partial_pair Orthogonal = false
is_partial_pair Partial = true

-- a line that has a number behind a word
abbrev pub number_line : List ℕ → ℕ → List ℕ
number_line word n = word ++ (decimal n ++ codes "\n")

-- how many pairs there are, and how many of each kind
abbrev pub count_lines : ℕ → ℕ → ℕ → ℕ → List ℕ
count_lines pairs aliased orthogonal partial =
    number_line (codes "pairs ") pairs
    ++ (number_line (codes "aliased ") aliased
    ++ (number_line (codes "orthogonal ") orthogonal ++ number_line (codes "partial ") partial))

-- those of these pairs
abbrev pub kinship_lines : List Kinship → List ℕ
kinship_lines kinds =
    count_lines (length kinds) (count_by is_aliased_pair kinds) (count_by is_orthogonal_pair kinds)
    (count_by is_partial_pair kinds)

-- the line of two components, with this between them
abbrev pub joined_line : List (List ℕ) → List ℕ → List ℕ → List ℕ → List ℕ
joined_line names between u v = codes "  " ++ (product names u ++ (between ++ (product names v ++ codes "\n")))

-- the line of two components that are aliased or partially aliased; orthogonal ones have none
abbrev pub pair_line : List (List ℕ) → Kinship → List ℕ → List ℕ → List ℕ
pair_line names Aliased u v = joined_line names (codes " = ") u v
pair_line names Orthogonal u v = []
pair_line names Partial u v = joined_line names (codes " ~ ") u v

-- the line of a pair
abbrev pub line_in : PlanView → List ℕ × List ℕ → List ℕ
line_in plan pair = pair_line plan.names (kinship_in plan pair) pair.0 pair.1

-- the lines of all pairs
abbrev pub pair_lines : PlanView → List ℕ
pair_lines plan = flat_map (line_in plan) (pairs_in (plan_components plan))

-- what is added to a product
abbrev pub constant_text : ℕ → List ℕ
constant_text c = if c == 0 then [] else codes " + " ++ decimal c

-- the line of a rule
abbrev pub plan_rule_line : List (List ℕ) → Rule → List ℕ
plan_rule_line names rule =
    codes "  " ++ (slice_index_or names (rule.factor - 1) []
    ++ (codes " = " ++ (product names rule.combination ++ (constant_text rule.constant ++ codes "\n"))))

-- whether a plan is regular, and its rules where it is
abbrev pub regular_lines : List (List ℕ) → Option (List Rule) → List ℕ
regular_lines names None = codes "not regular\n"
regular_lines names (Some found) = codes "regular\nrules\n" ++ or_none (flat_map (plan_rule_line names) found)

-- how many runs a plan has
abbrev pub runs_line : ℕ → List ℕ
runs_line runs = codes "plan " ++ (decimal runs ++ codes " rows\n")

-- how many factors and levels
abbrev pub plan_size_line : ℕ → ℕ → List ℕ
plan_size_line factors levels =
    codes "factors " ++ (decimal factors ++ (codes " levels " ++ (decimal levels ++ codes "\n")))

-- the listing: how large the plan is, its rules, how many pairs of each kind there are, and those that are not
-- orthogonal
abbrev pub plan_listing : PlanView → List ℕ
plan_listing plan =
    runs_line (length plan.rows) ++ (plan_size_line (length plan.names) plan.q
    ++ (regular_lines plan.names (regular_rules plan)
    ++ (kinship_lines (kinships plan) ++ (codes "not orthogonal\n" ++ or_none (pair_lines plan)))))
