-- Spans of vectors.
use Rattle.std.specs.Prelude.{ℕ, ◌≡◌, List, length}
use Rattle.fx_designs.specs.Vectors.{dot, zeros, combination, IsVector}
use Rattle.fx_designs.specs.Runs.{levels_at}

-- v is a combination of the rows
pub record InSpan (q m : ℕ) (rows : List (List ℕ)) (v : List ℕ) : Type 0 where
  pub by : List ℕ
  pub vector : IsVector q (length rows) by
  pub gives : combination q m by rows ≡ v

-- at the point p the rows are 0, and w is 1
pub record Separates (q m : ℕ) (rows : List (List ℕ)) (w p : List ℕ) : Type 0 where
  pub point : IsVector q m p
  pub none : levels_at q rows p ≡ zeros (length rows)
  pub one : dot q w p ≡ 1
