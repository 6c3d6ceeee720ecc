-- Small plans, worked: what is refused, what a text tells, which pairs are aliased, and which rules there are.
use Rattle.std.proofs.Common.{ℕ, ◌≡◌, List, [], ◌∷◌, refl, true, false, Some, None}
use Rattle.std.specs.Prelude.{◌++◌, codes}
use Rattle.std.specs.Fmt.{digits}
use Rattle.csv.specs.Machine.{next_record}
use Rattle.csv.specs.Reading.{records_from, strip_bom}
use Rattle.fx_designs.specs.Galois.{add, mul, neg, prime_of, degree_of, reduction_of}
use Rattle.fx_designs.specs.Runs.{is_constant}
use Rattle.fx_designs.specs.Aliases.{is_aliased}
use Rattle.fx_judge.specs.declared.fault.FaultKind.TheVariants.{NoRuns, InvalidNames, OtherLength, NoLevel}
use Rattle.fx_judge.specs.declared.kinship.Kinship.TheVariants.{Aliased, Orthogonal, Partial}
use Rattle.fx_judge.specs.Reading.{csv_records, first_fault, plan_in, plan_fault}
use Rattle.fx_judge.specs.Kinships.{are_orthogonal, kinship}
use Rattle.fx_judge.specs.Listing.{plan_listing}
use Rattle.fx_judge.specs.Plans.{PlanView}
use Rattle.fx_judge.specs.Regular.{are_closed, are_even, is_regular_plan}
use Rattle.fx_judge.specs.Rules.{combination_for, plan_rules}

abbrev half : List ℕ
half = codes "A,B,C\n-1,-1,-1\n-1,1,1\n1,-1,1\n1,1,-1\n"

abbrev half_rows : List (List ℕ)
half_rows = (0 ∷ 0 ∷ 0 ∷ []) ∷ (0 ∷ 1 ∷ 1 ∷ []) ∷ (1 ∷ 0 ∷ 1 ∷ []) ∷ (1 ∷ 1 ∷ 0 ∷ []) ∷ []

abbrev three_rows : List (List ℕ)
three_rows = (0 ∷ 0 ∷ []) ∷ (0 ∷ 1 ∷ []) ∷ (1 ∷ 0 ∷ []) ∷ []

-- what the texts tell
told :
    (first_fault 2 (csv_records half) ≡ None)
    × (plan_in 2 (csv_records half)
    ≡ record { q = 2; names = codes "A" ∷ codes "B" ∷ codes "C" ∷ []; rows = half_rows })
    × (first_fault 2 (csv_records (codes "A,B\n-1,2\n")) ≡ Some (plan_fault NoLevel 2))
    × (first_fault 2 (csv_records (codes "A,B\n-1,+1\n")) ≡ None)
    × (first_fault 4 (csv_records (codes "A,B\n0,+1\n")) ≡ Some (plan_fault NoLevel 2))
    × (first_fault 2 (csv_records []) ≡ Some (plan_fault NoRuns 1))
    × (first_fault 2 (csv_records (codes "A\n")) ≡ Some (plan_fault NoRuns 2))
    × (first_fault 2 (csv_records (codes "A,a\n")) ≡ Some (plan_fault InvalidNames 1))
    × (first_fault 2 (csv_records (codes "block,A\n7,1,1\n")) ≡ Some (plan_fault OtherLength 2))
    × (plan_in 3 (csv_records (codes "block,A\n7,1\n"))
    ≡ record { q = 3; names = codes "A" ∷ []; rows = (2 ∷ []) ∷ [] })
unfolding csv_records records_from next_record strip_bom digits
told = (refl, refl, refl, refl, refl, refl, refl, refl, refl, refl)

-- the half fraction: C follows from A and B, and is aliased with their product
half_fraction :
    (kinship 2 half_rows (0 ∷ 0 ∷ 1 ∷ []) (1 ∷ 1 ∷ 0 ∷ []) ≡ Aliased)
    × (kinship 2 half_rows (1 ∷ 0 ∷ 0 ∷ []) (0 ∷ 1 ∷ 0 ∷ []) ≡ Orthogonal)
    × (is_regular_plan 2 half_rows ≡ true)
    × (plan_rules 2 3 half_rows ≡ record { factor = 3; combination = 1 ∷ 1 ∷ 0 ∷ []; constant = 0 } ∷ [])
unfolding add mul neg prime_of degree_of reduction_of is_constant is_aliased are_orthogonal are_closed are_even
    combination_for
half_fraction = (refl, refl, refl, refl)

-- three of the four runs of two factors
three_runs :
    (kinship 2 three_rows (1 ∷ 0 ∷ []) (0 ∷ 1 ∷ []) ≡ Partial)
    × (is_regular_plan 2 three_rows ≡ false)
unfolding add mul neg prime_of degree_of reduction_of is_constant is_aliased are_orthogonal are_closed are_even
three_runs = (refl, refl)

-- a constant column, and one that is another with its levels exchanged
constants :
    (plan_rules 2 3 ((0 ∷ 1 ∷ 1 ∷ []) ∷ (1 ∷ 1 ∷ 0 ∷ []) ∷ [])
    ≡ record { factor = 2; combination = 0 ∷ 0 ∷ 0 ∷ []; constant = 1 }
    ∷ record { factor = 3; combination = 1 ∷ 0 ∷ 0 ∷ []; constant = 1 } ∷ [])
    × (is_regular_plan 2 ((0 ∷ 1 ∷ 1 ∷ []) ∷ (1 ∷ 1 ∷ 0 ∷ []) ∷ []) ≡ true)
unfolding add mul neg prime_of degree_of reduction_of are_closed are_even combination_for
constants = (refl, refl)

abbrev half_plan : PlanView
half_plan = record { q = 2; names = codes "A" ∷ codes "B" ∷ codes "C" ∷ []; rows = half_rows }

abbrev three_plan : PlanView
three_plan = record { q = 2; names = codes "A" ∷ codes "B" ∷ []; rows = three_rows }

-- the listings of both
listings :
    (plan_listing half_plan
    ≡ codes "plan 4 rows\nfactors 3 levels 2\nregular\nrules\n  C = A*B\npairs 15\naliased 3\northogonal 12\n"
    ++ codes "partial 0\nnot orthogonal\n  A = B*C\n  B = A*C\n  C = A*B\n")
    × (plan_listing three_plan
    ≡ codes "plan 3 rows\nfactors 2 levels 2\nnot regular\npairs 3\naliased 0\northogonal 0\n"
    ++ codes "partial 3\nnot orthogonal\n  A ~ B\n  A ~ A*B\n  B ~ A*B\n")
unfolding add mul neg prime_of degree_of reduction_of is_constant is_aliased are_orthogonal are_closed are_even
    combination_for digits
listings = (refl, refl)

abbrev doubled_rows : List (List ℕ)
doubled_rows = (0 ∷ 0 ∷ []) ∷ (1 ∷ 2 ∷ []) ∷ (2 ∷ 1 ∷ []) ∷ []

-- three levels, where B is 2 A: A is aliased with B and with 2 A + B, and orthogonal to A + B, which is constant
doubled :
    (kinship 3 doubled_rows (1 ∷ 0 ∷ []) (0 ∷ 1 ∷ []) ≡ Aliased)
    × (kinship 3 doubled_rows (1 ∷ 0 ∷ []) (2 ∷ 1 ∷ []) ≡ Aliased)
    × (kinship 3 doubled_rows (1 ∷ 0 ∷ []) (1 ∷ 1 ∷ []) ≡ Orthogonal)
    × (is_regular_plan 3 doubled_rows ≡ true)
unfolding add mul neg prime_of degree_of reduction_of is_constant is_aliased are_orthogonal are_closed are_even
doubled = (refl, refl, refl, refl)

-- A has one value twice as often as the other, and B each value as often with both
abbrev uneven_rows : List (List ℕ)
uneven_rows = (0 ∷ 0 ∷ []) ∷ (0 ∷ 0 ∷ []) ∷ (0 ∷ 1 ∷ []) ∷ (0 ∷ 1 ∷ []) ∷ (1 ∷ 0 ∷ []) ∷ (1 ∷ 1 ∷ []) ∷ []

-- orthogonal by what is expected of the counts, though these are not equal, and not regular, though all four runs come
uneven :
    (kinship 2 uneven_rows (1 ∷ 0 ∷ []) (0 ∷ 1 ∷ []) ≡ Orthogonal)
    × (kinship 2 uneven_rows (1 ∷ 0 ∷ []) (1 ∷ 1 ∷ []) ≡ Orthogonal)
    × (kinship 2 uneven_rows (0 ∷ 1 ∷ []) (1 ∷ 1 ∷ []) ≡ Partial)
    × (is_regular_plan 2 uneven_rows ≡ false)
unfolding add mul neg prime_of degree_of reduction_of is_constant is_aliased are_orthogonal are_closed are_even
uneven = (refl, refl, refl, refl)

-- each of two runs twice
repeated : is_regular_plan 2 ((0 ∷ 0 ∷ []) ∷ (0 ∷ 0 ∷ []) ∷ (1 ∷ 1 ∷ []) ∷ (1 ∷ 1 ∷ []) ∷ []) ≡ true
unfolding add mul neg prime_of degree_of reduction_of are_closed are_even
repeated = refl
