-- Texts of rules.
use Rattle.std.proofs.Common.{ℕ, ◌≡◌, List, [], ◌∷◌, refl}
use Rattle.std.specs.Prelude.{codes, Result, Ok, Err}
use Rattle.std.specs.Fmt.{digits}
use Rattle.fx_vectors.specs.declared.shape.Shape.{Shape}
use Rattle.fx_vectors.specs.Matrix.{MatrixView}
use Rattle.fx_rules.specs.declared.problem.Problem.TheVariants as problem
use Rattle.fx_rules.specs.declared.problem.RulesFault.{RulesFault}
use Rattle.fx_rules.specs.Parts.{blanked, part, parts_of}
use Rattle.fx_rules.specs.Reading.{matrix_of_rules}

abbrev shape : ℕ → ℕ → ℕ → ℕ → Shape
shape q m s t = record { q = q; m = m; s = s; t = t }

abbrev names : List (List ℕ)
names = codes "Pressure" ∷ codes "Temp" ∷ codes "Speed" ∷ codes "Feed" ∷ codes "Time" ∷ []

abbrev gives : Shape → List ℕ → Result MatrixView RulesFault
gives sh rows = Ok (record { shape = sh; rows = rows })

abbrev fault : problem.the_data → ℕ → Result MatrixView RulesFault
fault p at = Err (record { problem = p; at = at })

-- in two forms, by names and by numbers
listed : matrix_of_rules (shape 2 3 5 0) names (codes "rules\n  Feed = Pressure*Temp*Speed\n  Time = Pressure*Temp\n")
    ≡ gives (shape 2 3 5 0) (1 ∷ 2 ∷ 4 ∷ 7 ∷ 3 ∷ [])
unfolding matrix_of_rules digits
listed = refl

in_one_line : matrix_of_rules (shape 2 3 5 0) names (codes "RULES feed=X1*X2*X3 X5=X1*X2")
    ≡ gives (shape 2 3 5 0) (1 ∷ 2 ∷ 4 ∷ 7 ∷ 3 ∷ [])
unfolding matrix_of_rules digits
in_one_line = refl

-- powers, a constant factor, block factors
powers : matrix_of_rules (shape 3 2 4 1) (codes "A" ∷ codes "B" ∷ codes "C" ∷ codes "D" ∷ [])
    (codes "rules\n  C = A^2*B\n  D = 0\n  [1] = A*B\n")
    ≡ gives (shape 3 2 4 1) (1 ∷ 3 ∷ 5 ∷ 0 ∷ 4 ∷ [])
unfolding matrix_of_rules digits
powers = refl

run_factor : matrix_of_rules (shape 2 3 2 1) (codes "A" ∷ codes "B" ∷ [])
    (codes "rules\n  [1] = run factor 3\n") ≡ gives (shape 2 3 2 1) (1 ∷ 2 ∷ 4 ∷ [])
unfolding matrix_of_rules digits
run_factor = refl

none : matrix_of_rules (shape 2 2 2 0) (codes "A" ∷ codes "B" ∷ []) (codes "rules\n  none\n")
    ≡ gives (shape 2 2 2 0) (1 ∷ 2 ∷ [])
unfolding matrix_of_rules digits
none = refl

-- where signs and brackets part words, no white space is needed
close : matrix_of_rules (shape 2 4 3 2) (codes "A" ∷ codes "B" ∷ codes "C" ∷ []) (codes "rules[1]=A*B[2]=run factor 4")
    ≡ gives (shape 2 4 3 2) (1 ∷ 2 ∷ 4 ∷ 3 ∷ 8 ∷ [])
unfolding matrix_of_rules digits
close = refl

-- what is wrong first, and where
unknown : matrix_of_rules (shape 2 3 5 0) names (codes "rules Feed=Pressure*Heat") ≡ fault problem.Unknown 20
unfolding matrix_of_rules digits
unknown = refl

second_rule : matrix_of_rules (shape 2 3 5 0) names (codes "rules X4=X1*X2 X4=X1*X3") ≡ fault problem.OutOfOrder 15
unfolding matrix_of_rules digits
second_rule = refl

no_run_index : matrix_of_rules (shape 2 3 5 0) names (codes "rules X4=X1*X5") ≡ fault problem.NotBefore 12
unfolding matrix_of_rules digits
no_run_index = refl

too_many : matrix_of_rules (shape 2 3 5 0) names (codes "rules X5=X1*X2") ≡ fault problem.TooMany 6
unfolding matrix_of_rules digits
too_many = refl

open_bracket : matrix_of_rules (shape 2 3 5 0) names (codes "rules X4=X1*[1") ≡ fault problem.Form 12
unfolding matrix_of_rules digits
open_bracket = refl

no_bracket : matrix_of_rules (shape 2 3 5 0) names (codes "rules X4=X1*X2]") ≡ fault problem.Form 14
unfolding matrix_of_rules digits
no_bracket = refl

-- A part ends at PROC, but not at a rule of a factor of this name; behind it no part is open.
parts : parts_of (codes "rules\n  Proc = A*B\n RULES x\nproc factex;\nrules_\n\tRules none")
    ≡ part 0 28 28 ∷ part 49 59 59 ∷ []
unfolding parts_of
parts = refl

blanks : blanked (codes "rules\n A\nproc") (part 0 9 9 ∷ []) ≡ codes "     \n  \nproc"
blanks = refl
