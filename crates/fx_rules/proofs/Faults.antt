-- Where the first problem of a text stands.
use Rattle.std.proofs.Common.{ℕ, ◌≤◌, ◌+◌, List, [], ◌∷◌, ◌++◌, length, arith, inl, inr}
use Rattle.std.specs.Prelude.{Result, Ok, Err, IfErr}
use Rattle.std.proofs.lemmas.Bool.{cases_Bool}
use Rattle.fx_vectors.specs.declared.shape.Shape.{Shape}
use Rattle.fx_rules.specs.declared.problem.Problem.{Problem}
use Rattle.fx_rules.specs.declared.problem.RulesFault.{RulesFault}
use Rattle.fx_rules.specs.declared.reading.Reading.{Reading}
use Rattle.fx_rules.specs.declared.reading.Stage.TheVariants as stage
use Rattle.fx_rules.specs.Building.{Built, nothing_built}
use Rattle.fx_rules.specs.Reading.{at_stage, begun_by, ended_at, goes_on, matrix_in, matrix_of_rules}
use Rattle.fx_rules.specs.Reading.{on_read}
use Rattle.fx_rules.specs.Reading.{placed, read_on, signed, worded}

module _ (n : ℕ) where
  of_placed : {A : Type 0} (at : ℕ) (x : Result A Problem) → at ≤ n → IfErr (placed at x) (λ f. f.at ≤ n)
  of_placed at (Ok a) h = tt
  of_placed at (Err p) h = h

  in_turn : {A B : Type 0} (x : Result A RulesFault) (f : A → Result B RulesFault) → IfErr x (λ f. f.at ≤ n)
      → ((a : A) → IfErr (f a) (λ f. f.at ≤ n)) → IfErr (on_read x f) (λ f. f.at ≤ n)
  in_turn (Ok a) f h g = g a
  in_turn (Err e) f h g = h

  of_word : (factors : List (List ℕ)) (w : List ℕ) (at : ℕ) (r : Reading) → at ≤ n
      → IfErr (worded factors w at r) (λ f. f.at ≤ n)
  of_word factors [] at r h = tt
  of_word factors (c ∷ w) at r h =
      of_placed _ _ (omega arith)

  of_text : (factors : List (List ℕ)) (text w : List ℕ) (at : ℕ) (r : Reading) → at + length text ≤ n
      → IfErr (read_on factors w at text r) (λ f. f.at ≤ n)
  of_text factors [] w at r h =
      in_turn _ (λ last. placed at (ended_at last.stage last.building))
      (of_word factors w at r (omega arith))
      (λ last. of_placed at (ended_at last.stage last.building) (omega arith))
  of_text factors (b ∷ text) w at r h = elim (cases_Bool (goes_on w b)) [
    | inl is ↦ rw is (of_text factors text (w ++ b ∷ []) (at + 1) r (omega arith))
    | inr other ↦ rw other (in_turn _ _
        (in_turn _ (λ next. placed at (signed b next)) (of_word factors w at r (omega arith))
        (λ next. of_placed at (signed b next) (omega arith)))
        (λ next. of_text factors text (begun_by b) (at + 1) next (omega arith)))
  ]

  of_matrix : (x : Result Built RulesFault) → IfErr x (λ f. f.at ≤ n) → IfErr (matrix_in x) (λ f. f.at ≤ n)
  of_matrix (Ok b) h = tt
  of_matrix (Err e) h = h

-- it stands in the text, or at its end
pub fault_inside : (shape : Shape) (factors : List (List ℕ)) (text : List ℕ)
    → IfErr (matrix_of_rules shape factors text) (λ f. f.at ≤ length text)
unfolding matrix_of_rules
fault_inside shape factors text =
    let start = at_stage stage.Head (nothing_built shape) in
    of_matrix _ _
    (of_text (length text) factors text [] 0 start (omega arith))
