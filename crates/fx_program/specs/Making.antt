-- The text of `make`: a program of many steps, to try the program on.
use Rattle.std.specs.Prelude.{ℕ, ◌≡◌, ◌+◌, ◌%◌, ◌==◌, if◌then◌else◌, List, ◌++◌, length, codes, decimal, Result, Ok}
use Rattle.std.specs.Prelude.{Err}
use Rattle.std.specs.List.{flat_map, range_with_len}
use Rattle.fx_statements.specs.Steps.{Meaning}
use Rattle.fx_program.specs.declared.text.TextFault.{TextFault}

-- the number of levels of the step of number k: 3 where k is a multiple of 3, else 2
abbrev pub made_levels : ℕ → ℕ
made_levels k = if k % 3 == 0 then 3 else 2

-- its number of factors, 5 to 10
abbrev pub made_factors : ℕ → ℕ
made_factors k = 5 + k % 6

-- its number of runs: 27 with three levels, and with two 16 where k is even, else 32
abbrev pub made_runs : ℕ → ℕ
made_runs k = if k % 3 == 0 then 27 else (if k % 2 == 0 then 16 else 32)

-- its factors
abbrev pub factors_line : ℕ → List ℕ
factors_line k =
    codes "factors X1-X" ++ (decimal (made_factors k) ++ (codes " / nlev=" ++ (decimal (made_levels k) ++ codes ";\n")))

-- its size
abbrev pub size_line : ℕ → List ℕ
size_line k = codes "size design=" ++ (decimal (made_runs k) ++ codes ";\n")

-- its model, with least aberration where k is a multiple of 4
abbrev pub model_line : ℕ → List ℕ
model_line k = if k % 4 == 0 then codes "model resolution=max / minabs;\n" else codes "model resolution=max;\n"

-- its five lines
abbrev pub step_text : ℕ → List ℕ
step_text k =
    codes "proc factex nodes=20000;\n" ++ (factors_line k ++ (size_line k ++ (model_line k ++ codes "run;\n")))

-- the text of the steps 1 to n
unfoldable pub made_text : ℕ → List ℕ
made_text n = flat_map step_text (range_with_len 1 n)

-- the text of a program has so many steps
abbrev pub HasSteps : ℕ → Result (List Meaning) TextFault → Type 0
HasSteps n (Ok steps) = length steps ≡ n
HasSteps n (Err fault) = ⊥
