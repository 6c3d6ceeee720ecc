-- The plan, from what the calls for its parts return.
use Rattle.std.proofs.Common.{ℕ, ◌≡◌, ◌*◌, ◌^◌, Bool, List, length, ◌∙◌, ap}
use Rattle.std.specs.List.{range_with_len}
use Rattle.rand_pcg.specs.Lcg.{Lcg}
use Rattle.fx_outputs.specs.declared.shuffle.Shuffle.{Shuffle}
use Rattle.fx_plan.specs.Plans.{Arrangement, arranged, arrangement, shuffled_by, shuffled_in_blocks, shuffled_values}
use Rattle.fx_runs.specs.Runs.{RunsView}
use Rattle.fx_runs.specs.RunBlocks.{block_of}
use Rattle.fx_derived.specs.Tables.{TableView}
use Rattle.fx_outputs.specs.declared.output.OutputSpec.{OutputSpec}
use Rattle.fx_plan.specs.Columns.{column_values}
use Rattle.fx_plan.specs.Products.{planned, plan_of, run_of}

module _ (names : List (List ℕ)) (runs : RunsView) (output : OutputSpec) (inner outer : TableView) where
  abbrev block : ℕ → ℕ
  block r = block_of runs (run_of (length inner.rows) (length runs.rows) r)

  abbrev block_count : ℕ
  block_count = runs.shape.q ^ runs.shape.t

  abbrev table : Arrangement → TableView
  table a = planned names runs output inner outer a

  abbrev first_order : List ℕ
  first_order = range_with_len 0 (length runs.rows * length inner.rows * length outer.rows)

  abbrev first_values : List (List (List ℕ))
  first_values = column_values runs.shape.q runs.shape.s output.recodes output.derived

  -- what is arranged by some shuffle
  pub plan_by : (seed : ℕ) (order : List ℕ) (values : List (List (List ℕ))) (shuffle : Shuffle)
      → output.shuffle ≡ shuffle → order ≡ first_order → values ≡ first_values
      → table (arranged shuffle seed block block_count (arrangement order values))
      ≡ plan_of names runs output seed inner outer
  plan_by seed order values shuffle e1 e2 e3 =
      cc

  -- rows and values that are shuffled
  pub shuffled_parts : (g h : Lcg) (too : Bool) (before order : List ℕ) (values shuffled : List (List (List ℕ)))
      → (order, h) ≡ shuffled_in_blocks g block block_count before
      → shuffled ≡ shuffled_values too h values
      → table (arrangement order shuffled) ≡ table (shuffled_by g too block block_count (arrangement before values))
  shuffled_parts g h too before order values shuffled e1 e2 =
      ap (λ v. table (arrangement order v)) e2
      ∙ ap (λ p. table (arrangement p.0 (shuffled_values too p.1 values))) e1
