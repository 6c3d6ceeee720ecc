use Rattle.std.proofs.Common.{◌≡◌, ◌∙◌, ℕ, List, [], ◌∷◌, refl, sym, ap, ap₂, arith}
use Rattle.fx_runs.specs.Runs.{RunsView}
use Rattle.fx_vectors.specs.Matrix.{MatrixView}
use Rattle.fx_vectors.specs.declared.shape.Shape.{Shape}
use Rattle.fx_plan.specs.Products.{plain_plan}
use Rattle.fx_alias.proofs.Folds.{unblocked}
use Rattle.fx_program.specs.Files.{fold_name, fold_runs}
use Rattle.fx_program.proofs.Filing.{shelved_each, shelved_more, shelved_none, stopped_before, stopped_in}
use Rattle.fx_program.proofs.fold.shelve_runs.Goals as goal

-- the name and the content of the one file
abbrev name : ℕ → MatrixView → List ℕ
name number matrix = fold_name number

abbrev content : List (List ℕ) → List ℕ → MatrixView → List ℕ
content factors folded matrix = plain_plan factors (fold_runs matrix folded)

pub fold_runs-requires-clause-levels : goal.fold_runs-requires-clause-levels
fold_runs-requires-clause-levels g c =
    c.requires.design.levels ∙ (c.args.step.now.fold_fits c.args.folded.now c.requires.fold).0

pub fold_runs-requires-clause-no_blocks : goal.fold_runs-requires-clause-no_blocks
fold_runs-requires-clause-no_blocks g c =
    c.requires.design.unblocked
    (unblocked c.args.step.now.settings.blocks (c.args.step.now.fold_fits c.args.folded.now c.requires.fold).1)

pub fold_runs-requires-clause-complete : goal.fold_runs-requires-clause-complete
fold_runs-requires-clause-complete g c =
    let none =
    c.requires.design.unblocked
    (unblocked c.args.step.now.settings.blocks (c.args.step.now.fold_fits c.args.folded.now c.requires.fold).1) in
    omega (arith, c.requires.design.complete, none)

pub fold_runs-requires-clause-fold : goal.fold_runs-requires-clause-fold
fold_runs-requires-clause-fold g c =
    (c.args.step.now.fold_fits c.args.folded.now c.requires.fold).2 ∙ sym c.requires.design.factors

pub plain_plan-requires-clause-names : goal.plain_plan-requires-clause-names
plain_plan-requires-clause-names g c =
    sym c.requires.design.factors ∙ sym (ap (λ (z : Shape). z.s) c.in_ok-runs.ensures.shape)

pub plain_plan-requires-clause-no_blocks : goal.plain_plan-requires-clause-no_blocks
plain_plan-requires-clause-no_blocks g c =
    ap (λ (z : Shape). z.t) c.in_ok-runs.ensures.shape
    ∙ c.requires.design.unblocked
    (unblocked c.args.step.now.settings.blocks (c.args.step.now.fold_fits c.args.folded.now c.requires.fold).1)

pub returns-in_err-runs : goal.returns-in_err-runs
returns-in_err-runs g c =
    stopped_before (name c.args.number) (content c.args.step.now.factors c.args.folded.now)
    (c.args.matrix.now ∷ []) 0 (shelved_none _ c.requires.ended) c.from_residual.result c.from_residual.ensures.1

pub returns-in_err-content : goal.returns-in_err-content
returns-in_err-content g c =
    stopped_before (name c.args.number) (content c.args.step.now.factors c.args.folded.now)
    (c.args.matrix.now ∷ []) 0 (shelved_none _ c.requires.ended) c.from_residual-in_err-content.result
    c.from_residual-in_err-content.ensures.1

-- the runs, by their shape and their rows
view : (a b : RunsView) → a.shape ≡ b.shape → a.rows ≡ b.rows → a ≡ b
view a b shape rows =
    ap₂ (λ (s : Shape) (r : List (List ℕ)). record { shape = s; rows = r }) shape rows

pub returns-in_err-shelve : goal.returns-in_err-shelve
returns-in_err-shelve g c =
    let matrix = c.args.matrix.now in
    let named = c.as_slice.ensures.value ∙ c.fold_name-name.ensures in
    let runs : c.in_ok-runs.runs ≡ fold_runs matrix c.args.folded.now =
    view _ _ c.in_ok-runs.ensures.shape c.in_ok-runs.ensures.rows in
    let filled = c.as_slice-2.ensures ∙ c.in_ok-content.ensures ∙ ap (plain_plan c.args.step.now.factors) runs in
    stopped_in (name c.args.number) (content c.args.step.now.factors c.args.folded.now) (matrix ∷ []) 0 matrix refl
    _ _ named filled (omega arith) (shelved_none _ c.requires.ended) c.in_err-shelve.ensures.unchanged
    c.in_err-shelve.ensures.part c.in_err-shelve.ensures.cause.failed
    c.from_residual-in_err-shelve.result c.from_residual-in_err-shelve.ensures.1

pub returns : goal.returns
returns g c =
    let matrix = c.args.matrix.now in
    let named = c.as_slice.ensures.value ∙ c.fold_name-name.ensures in
    let runs : c.in_ok-runs.runs ≡ fold_runs matrix c.args.folded.now =
    view _ _ c.in_ok-runs.ensures.shape c.in_ok-runs.ensures.rows in
    let filled = c.as_slice-2.ensures ∙ c.in_ok-content.ensures ∙ ap (plain_plan c.args.step.now.factors) runs in
    shelved_each (name c.args.number) (content c.args.step.now.factors c.args.folded.now) (matrix ∷ []) 1 _
    (omega arith)
    (shelved_more (name c.args.number) (content c.args.step.now.factors c.args.folded.now) (matrix ∷ []) 0 matrix refl
    _ _ named filled (omega arith) (shelved_none _ c.requires.ended) c.in_ok-shelve.ensures.unchanged
    c.in_ok-shelve.ensures.done c.in_ok-shelve.ensures.state c.in_ok-shelve.ensures.cause.unchanged)
