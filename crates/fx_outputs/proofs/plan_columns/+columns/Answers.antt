use Rattle.std.proofs.Common.{◌≡◌, ◌≤◌, ◌<◌, ◌++◌, [], ℕ, List, length, take, get_or, Result, Ok, Err, OnOk, ap}
use Rattle.std.proofs.Common.{◌∙◌}
use Rattle.std.proofs.Common.{append_assoc, append-nil, arith}
use Rattle.std.specs.Prelude.{slice_index_or}
use Rattle.fx_outputs.specs.declared.earlier.EarlierPlan.{EarlierPlan}
use Rattle.fx_outputs.specs.declared.replication.Rep.{Rep}
use Rattle.fx_outputs.specs.declared.replication.Rep.TheVariants.{Plan}
use Rattle.fx_outputs.specs.Earlier.{file_columns, plan_columns, rep_columns}
use Rattle.fx_outputs.proofs.Histories.{built-at, built-past, built-take}
use Rattle.fx_outputs.proofs.plan_columns.+columns.Goals as goal

weaker : {A B : Type 0} (r : Result A B) (P Q : Type 0) → (P → Q) → OnOk r P → OnOk r Q
weaker (Ok a) P Q f h = f h
weaker (Err b) P Q f h = tt

-- a plan of too large a number has no columns
none_there : (plans : List EarlierPlan) (before number : ℕ) (rep : Rep) (names : List (List ℕ)) → rep ≡ Plan number
    → before ≤ length plans → before ≤ number
    → names ≡ names ++ rep_columns (file_columns (take before plans)) rep
none_there plans before number rep names is within high =
    cc (built-past plan_columns plans before number [] within high, append-nil names)

there : (plans : List EarlierPlan) (before number : ℕ) (rep : Rep) → rep ≡ Plan number → before ≤ length plans
    → number < before
    → slice_index_or (file_columns plans) number [] ≡ rep_columns (file_columns (take before plans)) rep
there plans before number rep is within low =
    cc (built-take plan_columns plans before number [] within low)

-- the columns of a plan's file are its own, and those of what it names
whole : (plans : List EarlierPlan) (number : ℕ) (plan : EarlierPlan) (names one two three own : List (List ℕ))
    → number < length plans → plan ≡ get_or plans number plan → own ≡ plan.own → one ≡ names ++ own
    → two ≡ one ++ rep_columns (file_columns (take number plans)) plan.pointrep
    → three ≡ two ++ rep_columns (file_columns (take number plans)) plan.designrep
    → three ≡ names ++ slice_index_or (file_columns plans) number []
whole plans number plan names one two three own low at is first second third =
    let point = rep_columns (file_columns (take number plans)) plan.pointrep in
    let design = rep_columns (file_columns (take number plans)) plan.designrep in
    let here : slice_index_or (file_columns plans) number [] ≡ plan.own ++ (point ++ design) =
    cc (built-at plan_columns plans number [] plan low) in
    cc (append_assoc (names ++ plan.own) point design, append_assoc names plan.own (point ++ design))

pub push_plan-returns : goal.push_plan-returns
push_plan-returns t c =
    weaker c.push_rep-2.result _ _
    (whole c.args.plans.now c.args.number c.index-plans-number.result c.args.names.now c.push_copies.new.names
    c.push_rep.new.names
    c.push_rep-2.new.names c.as_slice.result.now c.requires c.index-plans-number.is c.as_slice.ensures
    c.in_ok-push_copies.ensures c.in_ok-push_rep.ensures)
    c.push_rep-2.ensures

pub push_rep-returns-then-number-before : goal.push_rep-returns-then-number-before
push_rep-returns-then-number-before t c =
    none_there c.args.plans.now c.args.before c.in-Plan.number c.args.rep c.args.names.now c.in-Plan.is c.requires
    (let high = c.if-number-before.true in omega arith)

pub push_rep-returns-else-number-before : goal.push_rep-returns-else-number-before
push_rep-returns-else-number-before t c =
    weaker c.push_plan.result _ _
    (λ e. e ∙ ap (λ l. c.args.names.now ++ l)
    (there c.args.plans.now c.args.before c.in-Plan.number c.args.rep c.in-Plan.is c.requires
    (let low = c.if-number-before.false in omega arith)))
    c.push_plan.ensures
