-- What a text of at most 1,048,576 bytes holds.
use Rattle.std.proofs.Common.{ℕ, ◌≡◌, ◌≤◌, List, length, None, Result, Ok, Err}
use Rattle.std.specs.Prelude.{IfOk, IfErr}
use Rattle.std.proofs.lemmas.Bool.{cond-false, le-ltb}
use Rattle.fx_judge.specs.declared.fault.PlanStop.{PlanStop}
use Rattle.fx_judge.specs.declared.fault.PlanStop.TheVariants.{Refused, NoMemory}
use Rattle.fx_judge.specs.Plans.{PlanView}
use Rattle.fx_judge.specs.Reading.{csv_records, first_fault, plan_in, plan_of_text, plan_unless}
use Rattle.fx_judge.specs.Steps.{Explains, IsFirst}

within : (q : ℕ) (text : List ℕ) → length text ≤ 1048576
    → plan_of_text q text ≡ plan_unless (first_fault q (csv_records text)) (plan_in q (csv_records text))
unfolding plan_of_text
within q text short = cond-false _ _ _ (le-ltb 1048576 _ short)

pub plan_told : {T : Type 0} (q : ℕ) (text : List ℕ) → length text ≤ 1048576 → (result : Result PlanView T)
    → IfOk result (λ plan. first_fault q (csv_records text) ≡ None)
    → IfOk result (λ plan. plan ≡ plan_in q (csv_records text))
    → IfOk result (λ plan. plan_of_text q text ≡ Ok plan)
plan_told q text short (Ok plan) none is = cc (within q text short)
plan_told q text short (Err stop) none is = tt

pub fault_told : {T : Type 0} (q : ℕ) (text : List ℕ) → length text ≤ 1048576 → (result : Result T PlanStop)
    → IfErr result (λ stop. IsFirst stop (first_fault q (csv_records text)))
    → IfErr result (λ stop. Explains stop (plan_of_text q text))
fault_told q text short (Ok plan) first = tt
fault_told q text short (Err (Refused found)) first =
    cc (within q text short)
fault_told q text short (Err NoMemory) first = tt
