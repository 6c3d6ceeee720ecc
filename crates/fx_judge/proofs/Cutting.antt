-- The first 4,098 records tell the first fault, and where there is none they are all.
use Rattle.std.proofs.Common.{ℕ, zero, suc, ◌≡◌, ◌≤◌, ◌+◌, Bool, true, false, not, cond, eqb, List, [], ◌∷◌, length}
use Rattle.std.proofs.Common.{take, drop, Option, Some, None, refl, sym, ◌∙◌, arith, inl, inr}
use Rattle.std.specs.Prelude.{nat_lt, Result, Ok, Err, IfOk}
use Rattle.std.proofs.lemmas.Bool.{cases_eq, eq-eqb, ne_eqb, cond-true}
use Rattle.std.proofs.lemmas.List.{take_all}
use Rattle.fx_judge.specs.declared.fault.FaultKind.TheVariants.{NoRuns, InvalidNames, OtherLength, NoLevel}
use Rattle.fx_judge.specs.declared.fault.FaultKind.TheVariants.{TooManyComponents, TooManyRuns}
use Rattle.fx_judge.specs.declared.fault.PlanFault.{PlanFault}
use Rattle.fx_judge.specs.Plans.{component_total}
use Rattle.fx_judge.specs.Reading.{are_names, are_values, plan_fault, first_fault, factor_names, row_fault}
use Rattle.fx_judge.specs.Reading.{unread_columns}

-- what follows three tests that fail
none_through : (a b c : Bool) (x y z : PlanFault) (r : Option PlanFault)
    → cond a (Some x) (cond b (Some y) (cond c (Some z) r)) ≡ None → r ≡ None
none_through true b c x y z r e = cc e
none_through false true c x y z r e = cc e
none_through false false true x y z r e = cc e
none_through false false false x y z r e = e

module _ (q : ℕ) (head : List (List ℕ)) where
  cut : (k n : ℕ) (rows : List (List (List ℕ))) → n + k ≡ 4098
      → row_fault q head n (take (suc k) rows) ≡ row_fault q head n rows
  cut k n [] e = refl
  cut zero n (row ∷ rows) e =
      cc (cond-true _ (Some (plan_fault TooManyRuns n)) _ (eq-eqb n 4098 (omega arith)))
  cut (suc k) n (row ∷ rows) e =
      cc (cut k (n + 1) rows (omega arith))

  -- rows without a fault are at most 4,096
  pub none_short : (n : ℕ) (rows : List (List (List ℕ))) → n ≤ 4098 → row_fault q head n rows ≡ None
      → n + length rows ≤ 4098
  none_short n [] low e = omega arith
  none_short n (row ∷ rows) low e =
      elim (cases_eq n 4098) [
        | inl is ↦
            let no : ◌≡◌ {A = Option PlanFault} (Some (plan_fault TooManyRuns n)) None =
            sym (cond-true _ (Some (plan_fault TooManyRuns n)) _ (eq-eqb n 4098 is)) ∙ e in cc no
        | inr ne ↦
            let rest =
            none_through (eqb n 4098) (not (eqb (length row) (length head)))
            (not (are_values q (drop (unread_columns head) row))) (plan_fault TooManyRuns n) (plan_fault OtherLength n)
            (plan_fault NoLevel n) (row_fault q head (n + 1) rows) e in
            omega (arith, none_short (n + 1) rows (omega arith) rest)
      ]

same_end : (n : ℕ) (rows : List (List (List ℕ))) → eqb (length (take (suc n) rows)) 0 ≡ eqb (length rows) 0
same_end n [] = refl
same_end n (row ∷ rows) =
    cc (ne_eqb (length (row ∷ take n rows)) 0 (λ e. omega arith), ne_eqb (length (row ∷ rows)) 0 (λ e. omega arith))

cut_at : (q n : ℕ) (records : List (List (List ℕ))) → 2 + n ≡ 4098
    → first_fault q (take (suc (suc n)) records) ≡ first_fault q records
cut_at q n [] e = refl
cut_at q n (head ∷ rows) e =
    cc (same_end n rows, cut q head n 2 rows e)

pub first_cut : (q : ℕ) (records : List (List (List ℕ))) → first_fault q (take 4098 records) ≡ first_fault q records
first_cut q records = cut_at q 4096 records refl

pub whole_cut : (q n : ℕ) (records : List (List (List ℕ))) → 4098 ≤ n → first_fault q records ≡ None
    → take n records ≡ records
whole_cut q n [] long e = take_all n [] (omega arith)
whole_cut q n (head ∷ rows) long e =
    let rest =
    none_through (not (are_names (factor_names head))) (nat_lt 300 (component_total q (length (factor_names head))))
    (eqb (length rows) 0) (plan_fault InvalidNames 1) (plan_fault TooManyComponents 1) (plan_fault NoRuns 2)
    (row_fault q head 2 rows) e in
    take_all n (head ∷ rows) (omega (arith, none_short q head 2 rows (omega arith) rest))

-- two facts of a result together
pub both_ok : {T E : Type 0} (P Q S : T → Type 0) (r : Result T E) → IfOk r P → IfOk r Q → ((x : T) → P x → Q x → S x)
    → IfOk r S
both_ok P Q S (Ok x) p q f = f x p q
both_ok P Q S (Err e) p q f = tt
