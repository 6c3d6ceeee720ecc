-- Faults at one of the words.
use Rattle.std.proofs.Common.{ℕ, ◌≤◌, Bool, true, false, cond, arith}
use Rattle.std.specs.Prelude.{Option, Some, None, Result, IfErr}
use Rattle.fx_program.specs.declared.word_fault.WordFault.{WordFault}
use Rattle.fx_program.specs.declared.word_fault.WordFaultKind.{WordFaultKind}
use Rattle.fx_program.specs.CommandLine.{IsWordFault}
use Rattle.fx_program.specs.Words.{once, value_or_fault}

abbrev pub Within : {T : Type 0} → ℕ → Result T WordFault → Type 0
Within last result = IfErr result (IsWordFault last)

pub either : {T : Type 0} (last : ℕ) (b : Bool) (x y : Result T WordFault) → Within last x → Within last y
    → Within last (cond b x y)
either last true x y hx hy = hx
either last false x y hx hy = hy

module _ (last place : ℕ) (from : 1 ≤ place) (to : place ≤ last) where
  pub fault_here : {kind : WordFaultKind} → IsWordFault last (record { kind = kind; word = place })
  fault_here = record { word = (from, to) }

  pub value_within : {T : Type 0} (value : Option T) → Within last (value_or_fault place value)
  value_within None = fault_here
  value_within (Some n) = tt

  pub once_within : {T : Type 0} (earlier value : Option T) → Within last (once place earlier value)
  once_within (Some n) value = fault_here
  once_within None value = value_within value
