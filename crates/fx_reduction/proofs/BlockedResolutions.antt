-- Resolutions that no rule matrix meets with its blocks.
use Rattle.std.proofs.Common.{◌≡◌, ℕ, zero, suc, ◌+◌, ◌-◌, true, List, ◌++◌, arith}
use Rattle.std.proofs.lemmas.Bool.{both_ways, false_from_ne_true}
use Rattle.fx_designs.specs.Galois.{IsField}
use Rattle.fx_designs.specs.Runs.{runs_of}
use Rattle.fx_designs.specs.Problems.{Dimensions, AtResolution}
use Rattle.fx_designs.specs.Demands.{do_runs_meet}
use Rattle.fx_reduction.specs.BlockedResolutions.{NoneMeetsHigher}
use Rattle.fx_reduction.proofs.Effects.{lower-resolution}

module _ (d : Dimensions) (f : IsField d.q) where
  -- runs that meet a resolution meet each that is lower
  lower : (runs : List (List ℕ)) (r k : ℕ) → do_runs_meet d (AtResolution (r + k)) runs ≡ true
      → do_runs_meet d (AtResolution r) runs ≡ true
  lower runs r zero met =
      (let same : r + 0 ≡ r = omega arith in rw same at met)
  lower runs r (suc k) met =
      let next : r + suc k ≡ r + k + 1 = omega arith in
      lower runs r k
      (lower-resolution d f (r + k) runs (rw next at met))

  pub none-higher : NoneMeetsHigher d
  none-higher r k low none factors blocks matrix =
      let up : k ≡ r + (k - r) = omega (arith, low) in
      false_from_ne_true _
      (λ met. both_ways _ (none factors blocks matrix)
      (lower (runs_of d.q d.m (factors ++ blocks)) r (k - r)
      (rw up at met)))
