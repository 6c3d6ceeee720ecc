use Rattle.std.proofs.Common.{rules, ◌≡◌, ◌<◌, ◌≤◌, ◌+◌, ◌∷◌, ◌++◌, [], List, ℕ, length, get_or, map, take, drop, ap}
use Rattle.std.proofs.Common.{sym, ◌∙◌, append-nil, take_all, Ok, Err, subst₂}
use Rattle.std.proofs.lemmas.List.{map_more}
use Rattle.fx_outputs.specs.declared.output.OutputSpec.{OutputSpec}
use Rattle.fx_program.specs.Files.{output_lines, plan_file}
use Rattle.fx_program.specs.Outside.{ShelvesFiles, shelf_view}
use Rattle.fx_program.specs.Plans.{AskedView, asked_as}
use Rattle.fx_program.proofs.Filing.{shelved_all, shelved_none}
use Rattle.fx_program.proofs.Planned.{in_parts, lines_more, one_shelved, plans_more, stopped_in_one}
use Rattle.fx_program.proofs.files.shelve_plans.Goals as goal

pub loop-output-init : goal.loop-output-init
loop-output-init g c = record {
  plans = sym (append-nil _);
  lines = sym (append-nil _);
  files = shelved_none _ c.requires.ended;
}

pub returns-in_err-shelve_plan-clause-files : goal.returns-in_err-shelve_plan-clause-files
returns-in_err-shelve_plan-clause-files g c =
    let seed = c.args.session.now.seed in
    let outputs = c.args.step.now.outputs in
    let ask : OutputSpec → AskedView = asked_as c.args.step.now.factors c.args.outcome.now.matrix in
    let i = c.loop-output.output-index in
    let item = c.output-item.result in
    let is : item ≡ get_or outputs i item = search rules in
    let more : i < length outputs = search rules in
    let before : List AskedView = map ask (take i outputs) in
    let rest : List AskedView = map ask (drop (i + 1) outputs) in
    let parts : map ask outputs ≡ before ++ ask item ∷ rest =
    in_parts ask outputs i item more ∙ ap (λ (x : OutputSpec). before ++ ask x ∷ rest) (sym is) in
    let shelf = shelf_view g.F.Shelf in
    let one =
    subst₂ (λ (plans : List AskedView) (asked : AskedView).
    ShelvesFiles {T = Unit {0}} (plan_file seed plans asked) (shelf c.loop-output.shelf) (shelf c.shelve_plan.new.shelf)
    (Err c.in_err-shelve_plan.field-0.0)) c.loop-output.invariant.plans c.asked_plan.ensures
    c.in_err-shelve_plan.ensures.files in
    rw parts
    (stopped_in_one (plan_file seed) c.args.plans.now before (ask item) rest c.in_err-shelve_plan.field-0.0
    c.loop-output.invariant.files one c.from_residual.result c.from_residual.ensures.1)

pub loop-output-preserved : goal.loop-output-preserved
loop-output-preserved g c =
    let seed = c.args.session.now.seed in
    let outputs = c.args.step.now.outputs in
    let ask : OutputSpec → AskedView = asked_as c.args.step.now.factors c.args.outcome.now.matrix in
    let i = c.loop-output.output-index in
    let item = c.output-item.result in
    let is : item ≡ get_or outputs i item = search rules in
    let more : i < length outputs = search rules in
    let before : List AskedView = map ask (take i outputs) in
    let next : map ask (take (i + 1) outputs) ≡ before ++ ask item ∷ [] =
    map_more ask outputs i item more ∙ ap (λ (x : OutputSpec). before ++ ask x ∷ []) (sym is) in
    let shelf = shelf_view g.F.Shelf in
    let one =
    subst₂ (λ (plans : List AskedView) (asked : AskedView).
    ShelvesFiles {T = Unit {0}} (plan_file seed plans asked) (shelf c.loop-output.shelf) (shelf c.shelve_plan.new.shelf)
    (Ok tt)) c.loop-output.invariant.plans c.asked_plan.ensures c.in_ok-shelve_plan.ensures.files in
    rw next (record {
      plans = plans_more c.args.plans.now before _ _ _ (ask item) c.loop-output.invariant.plans c.asked_plan.ensures
          c.in_ok-shelve_plan.ensures.plans;
      lines = lines_more seed c.args.plans.now before _ _ (ask item) c.args.lines.now _ _ c.loop-output.invariant.plans
          c.asked_plan.ensures c.loop-output.invariant.lines c.in_ok-shelve_plan.ensures.lines;
      files = one_shelved (plan_file seed) c.args.plans.now before (ask item) c.loop-output.invariant.files one;
    })

past : (xs : List OutputSpec) (ask : OutputSpec → AskedView) (i : ℕ) → length xs ≤ i → map ask (take i xs) ≡ map ask xs
past xs ask i high = ap (map ask) (take_all i xs high)

pub returns-clause-files : goal.returns-clause-files
returns-clause-files g c =
    let ask : OutputSpec → AskedView = asked_as c.args.step.now.factors c.args.outcome.now.matrix in
    let high : length c.args.step.now.outputs ≤ c.loop-output.output-index = search rules in
    let all = past c.args.step.now.outputs ask c.loop-output.output-index high in
    rw (sym all) (shelved_all _ c.loop-output.invariant.files)

pub returns-clause-plans : goal.returns-clause-plans
returns-clause-plans g c =
    let ask : OutputSpec → AskedView = asked_as c.args.step.now.factors c.args.outcome.now.matrix in
    let high : length c.args.step.now.outputs ≤ c.loop-output.output-index = search rules in
    c.loop-output.invariant.plans
    ∙ ap (λ (l : List AskedView). c.args.plans.now ++ l) (past c.args.step.now.outputs ask c.loop-output.output-index high)

pub returns-clause-lines : goal.returns-clause-lines
returns-clause-lines g c =
    let ask : OutputSpec → AskedView = asked_as c.args.step.now.factors c.args.outcome.now.matrix in
    let high : length c.args.step.now.outputs ≤ c.loop-output.output-index = search rules in
    c.loop-output.invariant.lines
    ∙ ap (λ (l : List AskedView). c.args.lines.now ++ output_lines c.args.session.now.seed c.args.plans.now l)
    (past c.args.step.now.outputs ask c.loop-output.output-index high)
