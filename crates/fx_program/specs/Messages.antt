-- The line that tells where a text is refused, and why.
use Rattle.std.specs.Prelude.{◌≡◌, ℕ, ◌==◌, Bool, true, List, [], ◌∷◌, ◌++◌, if◌then◌else◌, codes, decimal}
use Rattle.std.specs.List.{list_any}
use Rattle.fx_lexer.specs.Places.{IsPlaceIn}
use Rattle.fx_lexer.specs.declared.place.Place.{Place}
use Rattle.fx_rules.specs.Problems.{code_of}
use Rattle.fx_rules.specs.declared.problem.Problem.{Problem}
use Rattle.fx_rules.specs.declared.problem.Problem.TheVariants as rules
use Rattle.fx_program.specs.declared.plan_fault.PlanFault.{PlanFault}
use Rattle.fx_program.specs.declared.plan_fault.PlanFault.TheVariants as fault
use Rattle.fx_program.specs.declared.text.TextFault.{TextFault}
use Rattle.fx_program.specs.declared.text.TextFault.TheVariants.{Lexical, Refused}

-- what the rules with the letter E say, by their numbers
abbrev pub reasons : List (ℕ × List ℕ)
reasons =
    (1, codes "statement is not known") ∷
    (2, codes "unexpected word or end") ∷
    (3, codes "option is not known") ∷
    (4, codes "factor is not known") ∷
    (5, codes "name is repeated") ∷
    (6, codes "number of levels is not 2, 3, 4, 5, 7, 8 or 9") ∷
    (7, codes "step has no FACTORS statement") ∷
    (8, codes "size is not a power of the number of levels") ∷
    (9, codes "more than 1024 runs") ∷
    (10, codes "too many factors") ∷
    (11, codes "resolution is not from 3 to 99") ∷
    (12, codes "MINABS with ESTIMATE") ∷
    (13, codes "MINABS with BLOCKS, or two maxima") ∷
    (14, codes "minimum size with a maximum or MINABS") ∷
    (15, codes "blocks are not a power of the number of levels") ∷
    (16, codes "more blocks than runs") ∷
    (17, codes "number of values differs from number of levels") ∷
    (18, codes "OUT name is repeated") ∷
    (19, codes "seed is too large") ∷
    (20, codes "replication is not from 1 to 200000") ∷
    (21, codes "more than 200000 rows") ∷
    (22, codes "more than 2000000 demands") ∷
    (23, codes "more than 100000 effects") ∷
    (24, codes "not kept in this profile") ∷
    (25, codes "text is over 1048576 bytes") ∷
    (26, codes "statement is repeated in the step") ∷
    (27, codes "statement after RUN") ∷
    (28, codes "option is repeated") ∷
    (29, codes "number is out of range") ∷
    (30, codes "range of names is not regular") ∷
    (31, codes "BLOCKNAME without BLOCKS") ∷
    (32, codes "more than 100 steps") ∷
    (33, codes "plan is not known") ∷
    (34, codes "column is repeated") ∷
    (35, codes "derived factor has too few or too many levels") ∷
    (36, codes "FOLDOVER needs two levels and no BLOCKS") ∷ []

-- what the lexical rules say
abbrev pub lexical_reasons : List (ℕ × List ℕ)
lexical_reasons =
    (1, codes "comment is not closed") ∷
    (2, codes "string is not closed") ∷
    (3, codes "character is not allowed") ∷
    (4, codes "number is too long") ∷
    (5, codes "name is too long") ∷ []

-- what is wrong with rules that stand before a step
abbrev pub problem_reason : Problem → List ℕ
problem_reason rules.Form = codes "rules are not of their form"
problem_reason rules.Unknown = codes "name is no factor and no block factor"
problem_reason rules.OutOfOrder = codes "rules are not in the order of the factors"
problem_reason rules.NotBefore = codes "factor has no run index before this product"
problem_reason rules.Repeated = codes "factor is twice in a product"
problem_reason rules.Power = codes "power is no code"
problem_reason rules.TooMany = codes "more factors without a rule than run indexes"
problem_reason rules.NotNext = codes "run factor is not the next"

-- what stands beside a number in a table
abbrev pub listed_at : List (ℕ × List ℕ) → ℕ → List ℕ
listed_at [] code = []
listed_at (row ∷ table) code = if row.0 == code then row.1 else listed_at table code

-- what the rule of this number says
abbrev pub reason_of : ℕ → List ℕ
reason_of code = listed_at reasons code

-- `factex: `, the rule by its letter and number, the place, and what the rule says
abbrev pub line_at : List ℕ → ℕ → ℕ → ℕ → List ℕ → List ℕ
line_at letter code line column reason =
    codes "factex: " ++ letter ++ decimal code ++ codes " " ++ decimal line ++ codes ":" ++ decimal column ++ codes " "
    ++ reason ++ codes "\n"

-- the line of a fault: a lexical rule has the letter L, every other the letter E
abbrev pub fault_line : TextFault → List ℕ
fault_line (Lexical fault) =
    line_at (codes "L") fault.kind fault.line fault.column (listed_at lexical_reasons fault.kind)
fault_line (Refused refusal) = line_at (codes "E") refusal.code refusal.line refusal.column (reason_of refusal.code)

-- the line of a rule with the letter P
abbrev pub plan_line : ℕ → Place → List ℕ → List ℕ
plan_line code place reason = line_at (codes "P") code place.line place.column reason

-- the line of a fault of a text with rules
abbrev pub plan_fault_line : PlanFault → List ℕ
plan_fault_line (fault.Program wrong) = fault_line wrong
plan_fault_line (fault.Apart place) = plan_line 9 place (codes "a step has no rules, or rules have no step")
plan_fault_line (fault.Searching place) = plan_line 10 place (codes "a minimum, a maximum or MINABS with rules")
plan_fault_line (fault.Rules problem place) = plan_line (code_of problem) place (problem_reason problem)

-- the table has a row for this number
abbrev pub has_row : List (ℕ × List ℕ) → ℕ → Bool
has_row table code = list_any (λ row. row.0 == code) table

-- a fault with a row in its table of messages, at a place in the text
abbrev pub HasItsMessage : List ℕ → TextFault → Type 0
HasItsMessage text (Lexical fault) =
    (has_row lexical_reasons fault.kind ≡ true) × IsPlaceIn text fault.line fault.column
HasItsMessage text (Refused refusal) =
    (has_row reasons refusal.code ≡ true) × IsPlaceIn text refusal.line refusal.column
