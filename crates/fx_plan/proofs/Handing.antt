-- What a plan of a design of a step is handed.
use Rattle.std.proofs.Common.{◌≡◌, ◌^◌, ℕ, List, length, refl}
use Rattle.std.specs.Prelude.{Contains}
use Rattle.std.proofs.lemmas.List.Elements.{All-contains}
use Rattle.fx_settings.specs.declared.settings.Blocks.{Blocks}
use Rattle.fx_settings.specs.declared.settings.Blocks.TheVariants.{Without, Factors, PerBlock, Most}
use Rattle.fx_outputs.specs.declared.context.BlockCount.TheVariants as count
use Rattle.fx_outputs.specs.declared.output.OutputSpec.{OutputSpec}
use Rattle.fx_outputs.specs.Validity.{IsWithinLimits}
use Rattle.fx_runs.specs.Runs.{design_of}
use Rattle.fx_vectors.specs.Matrix.{MatrixView}
use Rattle.fx_statements.specs.declared.step.Step.{Step}
use Rattle.fx_statements.specs.Contexts.{block_count, context}
use Rattle.fx_plan.specs.Products.{CanBePlanned}
use Rattle.fx_plan.specs.Steps.{IsDesignOf}

-- values of the block column are as many as there are blocks
values_for_blocks : (q t : ℕ) (blocks : Blocks) (values : List (List ℕ)) → (blocks ≡ Without → t ≡ 0)
    → ((u : ℕ) → blocks ≡ Factors u → t ≡ u)
    → block_count q blocks ≡ count.Fixed (length values) → length values ≡ q ^ t
values_for_blocks q t Without values none own e = cc e
values_for_blocks q t (Factors u) values none own e =
    let many : q ^ u ≡ length values = cc e in cc (own u refl)
values_for_blocks q t (PerBlock k) values none own e = cc e
values_for_blocks q t Most values none own e = cc e

-- an output of a step can be planned for each of its designs
pub can_be_planned : (step : Step) (matrix : MatrixView) (output : OutputSpec) → IsDesignOf step matrix
    → Contains step.outputs output → CanBePlanned step.factors (design_of matrix) output
can_be_planned step matrix output design asked =
    let known =
    All-contains (IsWithinLimits (context step.factors step.settings)) step.outputs output step.outputs_within_limits
    asked in
    record {
      names = cc;
      recodes = λ k d low. cc ((known.recodes.each k d low).each_level, design.levels);
      derived = rw (design.levels, design.factors) known.derived;
      block_values =
          λ some. rw design.levels
          (values_for_blocks step.settings.q matrix.shape.t step.settings.blocks output.block_values design.unblocked
          design.block_factors (known.block_values some));
      few_blocks = design.few;
    }
