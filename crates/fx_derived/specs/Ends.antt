-- Lists of bytes that are one after another in one buffer.
use Rattle.std.specs.Prelude.{ℕ, ◌≡◌, List, length}
use Rattle.csv.specs.Records.{Rising, last_end}

-- the places where the lists end rise, and the last of them is the end of the buffer
pub record AreEnds (bytes ends : List ℕ) : Type 0 where
  pub rising : Rising 0 ends (length bytes)
  pub whole : last_end 0 ends ≡ length bytes
