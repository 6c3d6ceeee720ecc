-- The rules that construct a design.
use Rattle.std.specs.Prelude.{ℕ, ◌≡◌, ◌^◌, ◌+◌, ◌==◌, nat_le, if◌then◌else◌, Bool, true, false, List, [], ◌∷◌, ◌++◌}
use Rattle.std.specs.Prelude.{length, map, take, slice_index, slice_index_or, codes, decimal}
use Rattle.std.specs.List.{range_with_len}
use Rattle.fx_designs.specs.Galois.{digits}
use Rattle.fx_designs.specs.Vectors.{IsVector, dot, vectors_of}
use Rattle.fx_designs.specs.Runs.{levels_at}
use Rattle.fx_designs.specs.Problems.{Dimensions}
use Rattle.fx_tree.specs.Introduced.{introduced, introducing}
use Rattle.fx_components.specs.Lines.{or_none}
use Rattle.fx_components.specs.Products.{product}

-- whose rule a row is: that of the factor or of the block factor of this name
pub record Subject : Type 0 where
  pub name : List ℕ
  pub is_block : Bool

-- the name of a block factor, by its number from 1
abbrev pub block_name : ℕ → List ℕ
block_name j = codes "[" ++ (decimal j ++ codes "]")

-- the names of t block factors
abbrev pub block_names : ℕ → List (List ℕ)
block_names t = map block_name (range_with_len 1 t)

abbrev pub factor : List ℕ → Subject
factor name = record { name = name; is_block = false }

abbrev pub block_factor : List ℕ → Subject
block_factor name = record { name = name; is_block = true }

-- the subjects of the rows of a matrix: the factors, and then the block factors
abbrev pub subjects : List (List ℕ) → List (List ℕ) → List Subject
subjects factors blocks = map factor factors ++ map block_factor blocks

-- the left side of a rule
abbrev pub left_side : List ℕ → List ℕ
left_side name = codes "  " ++ (name ++ codes " = ")

-- the rule of this name: its row is a vector over the names that introduced the run indexes
abbrev pub rule_of : List (List ℕ) → List ℕ → List ℕ → List ℕ
rule_of introduced name u = left_side name ++ (product introduced u ++ codes "\n")

-- the rule of a block factor of this name that introduces the run index i
abbrev pub run_factor_line : List ℕ → ℕ → List ℕ
run_factor_line name i = left_side name ++ (codes "run factor " ++ (decimal i ++ codes "\n"))

-- the rule of a subject that introduces the run index i: a factor has none
abbrev pub introduction : Subject → ℕ → List ℕ
introduction subject i = if subject.is_block then run_factor_line subject.name i else []

-- the line of a subject's row, where these names introduced run indexes before
abbrev pub rule_line : ℕ → ℕ → List (List ℕ) → Subject → ℕ → List ℕ
rule_line q m introduced subject row =
    (if row == q ^ length introduced
    then introduction subject (length introduced + 1)
    else rule_of introduced subject.name (digits q m row))

-- The rules of these subjects by their rows, where these names introduced run indexes before. A row that is the next
-- unit vector introduces a run index; the others are combinations of those before.
abbrev pub rule_lines : ℕ → ℕ → List (List ℕ) → List Subject → List ℕ → List ℕ
rule_lines q m introduced [] rows = []
rule_lines q m introduced (subject ∷ later) [] = []
rule_lines q m introduced (subject ∷ later) (row ∷ rows) =
    (if row == q ^ length introduced
    then introduction subject (length introduced + 1) ++ rule_lines q m (introduced ++ subject.name ∷ []) later rows
    else rule_of introduced subject.name (digits q m row) ++ rule_lines q m introduced later rows)

-- the section of the rules of a design of these dimensions, by the names of its factors and its rows
abbrev pub rules_section : Dimensions → List (List ℕ) → List ℕ → List ℕ
rules_section d factors rows =
    codes "rules\n" ++ or_none (rule_lines d.q d.m [] (subjects factors (block_names d.t)) rows)

-- the names of the rows
abbrev pub row_names : Dimensions → List (List ℕ) → List (List ℕ)
row_names d factors = factors ++ block_names d.t

-- Row k, counted from 0, has its line among the rules. Where it introduces no run index, the line is a rule, and the
-- row's level is at every run the sum for which the rule's product stands: of the levels of the rows that it names,
-- each times its code.
pub record HasItsRule (d : Dimensions) (factors : List (List ℕ)) (rows : List ℕ) (k : ℕ) : Type 0 where
  pub before : List ℕ
  pub after : List ℕ
  pub printed : rule_lines d.q d.m [] (subjects factors (block_names d.t)) rows
      ≡ before
      ++ (rule_line d.q d.m (introducing d.q 0 (take k rows) (row_names d factors))
      (record { name = slice_index_or (row_names d factors) k []; is_block = nat_le d.s k }) (slice_index rows k)
      ++ after)
  pub level : (slice_index rows k == d.q ^ introduced d.q 0 (take k rows)) ≡ false
      → (p : List ℕ) → IsVector d.q d.m p
      → dot d.q (digits d.q d.m (slice_index rows k))
      (introducing d.q 0 (take k rows) (levels_at d.q (vectors_of d.q d.m rows) p))
      ≡ dot d.q (digits d.q d.m (slice_index rows k)) p
