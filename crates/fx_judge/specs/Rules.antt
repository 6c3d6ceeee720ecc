-- The rules of a plan: which factors follow from earlier ones on all rows, and how.
use Rattle.std.specs.Prelude.{ℕ, zero, suc, ◌≢◌, ◌≤◌, ◌<◌, slice_index_or, ◌+◌, ◌==◌, ◌&&◌, Bool, true, false, List, []}
use Rattle.std.specs.Prelude.{◌∷◌, ◌++◌, length, slice_index, Option, Some, None, find, is_some, not, option_to_list}
use Rattle.std.specs.Prelude.{option_map, if◌then◌else◌}
use Rattle.std.specs.List.{flat_map, list_all, range_with_len}
use Rattle.fx_designs.specs.Galois.{add, mul, neg}
use Rattle.fx_designs.specs.Vectors.{dot}
use Rattle.fx_designs.specs.Runs.{points}
use Rattle.fx_judge.specs.declared.rule.Rule.{Rule}
use Rattle.fx_judge.specs.Plans.{PlanView}
use Rattle.fx_judge.specs.Regular.{is_regular_plan, row_differences}

-- u is zero at each place that is not marked
abbrev pub is_over : List Bool → List ℕ → Bool
is_over marks [] = true
is_over [] (c ∷ u) = (c == 0) && is_over [] u
is_over (true ∷ marks) (c ∷ u) = is_over marks u
is_over (false ∷ marks) (c ∷ u) = (c == 0) && is_over marks u

-- on all differences d, u.d is the code of factor i, counted from 0
abbrev pub gives : ℕ → List (List ℕ) → ℕ → List ℕ → Bool
gives q differences i u = list_all (λ d. dot q u d == slice_index d i) differences

-- at difference k u.d is not the code of factor i
pub record IsException (q : ℕ) (differences : List (List ℕ)) (u : List ℕ) (i k : ℕ) : Type 0 where
  pub there : k < length differences
  pub apart : dot q u (slice_index_or differences k []) ≢ slice_index (slice_index_or differences k []) i

-- the combination of the marked factors, of s, that gives the code of factor i on all differences
unfoldable pub combination_for : ℕ → ℕ → List (List ℕ) → List Bool → ℕ → Option (List ℕ)
combination_for q s differences basic i = find (λ u. is_over basic u && gives q differences i u) (points q s)

-- of the first n factors those that are basic: no combination of earlier basic ones gives their codes
abbrev pub basic_among : ℕ → ℕ → List (List ℕ) → ℕ → List Bool
basic_among q s differences zero = []
basic_among q s differences (suc n) =
    basic_among q s differences n ++ not (is_some (combination_for q s differences (basic_among q s differences n) n))
    ∷ []

-- the first row
abbrev pub first_row : List (List ℕ) → List ℕ
first_row [] = []
first_row (x ∷ rows) = x

-- factor i, counted from 0, by a combination: the constant is what is left of its code on the first row
abbrev pub rule_by : ℕ → List ℕ → ℕ → List ℕ → Rule
rule_by q first i u =
    record { factor = i + 1; combination = u; constant = add q (slice_index first i) (mul q (neg q 1) (dot q u first)) }

-- the rule of factor i, where it is not basic
abbrev pub plan_rule : ℕ → ℕ → List (List ℕ) → ℕ → Option Rule
plan_rule q s rows i =
    option_map (rule_by q (first_row rows) i)
    (combination_for q s (row_differences q rows) (basic_among q s (row_differences q rows) i) i)

-- the rules of the factors that are not basic, in order
abbrev pub plan_rules : ℕ → ℕ → List (List ℕ) → List Rule
plan_rules q s rows = flat_map (λ i. option_to_list (plan_rule q s rows i)) (range_with_len 0 s)

-- the rules of a regular plan; a plan that is not regular has none
abbrev pub regular_rules : PlanView → Option (List Rule)
regular_rules plan =
    if is_regular_plan plan.q plan.rows then Some (plan_rules plan.q (length plan.names) plan.rows) else None

-- the rule of one of n factors, whose combination has a code for each of them
pub record IsRuleOver (n : ℕ) (rule : Rule) : Type 0 where
  pub first : 1 ≤ rule.factor
  pub last : rule.factor ≤ n
  pub combination : n ≤ length rule.combination
