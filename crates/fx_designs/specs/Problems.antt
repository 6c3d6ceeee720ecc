-- What is asked of a design: its dimensions, what it is to separate, and whether its word-length pattern is to be
-- least.
use Rattle.std.specs.Prelude.{ℕ, Bool, List}

-- q levels; q^m runs; s factors; t block factors
pub record Dimensions : Type 0 where
  pub q : ℕ
  pub m : ℕ
  pub s : ℕ
  pub t : ℕ

-- A resolution, or the effects to be estimated and the others that are not negligible.
-- An effect, a set of factors, is the sum of 2^(i-1) over its factors i.
pub data Requirement : Type 0 where
  AtResolution : ℕ → Requirement
  ForEffects : List ℕ → List ℕ → Requirement

-- what a search is asked for: designs of these dimensions that meet the requirement, and whether of least pattern among
-- them
pub record Problem : Type 0 where
  pub dimensions : Dimensions
  pub requirement : Requirement
  pub least : Bool
