-- One byte further: its line and column.
use Rattle.std.proofs.Common.{ℕ, ◌+◌, ◌≤◌, not, List, length, take, reverse, arith}
use Rattle.std.specs.Prelude.{◌==◌}
use Rattle.std.proofs.lemmas.List.{length-take, length-reverse}
use Rattle.std.proofs.lemmas.List.Sums.{count_by-le-length, prefix_len-le-length}
use Rattle.fx_lexer.specs.Places.{line_after, column_after}

module _ (text : List ℕ) (i : ℕ) where
  pub line_small : i ≤ length text → line_after (take i text) ≤ i + 1
  line_small h = omega (arith, count_by-le-length (λ b. b == 10) (take i text), length-take i text)

  pub column_small : i ≤ length text → column_after (take i text) ≤ i + 1
  column_small h =
      omega (
        arith,
        prefix_len-le-length (λ b. not (b == 10)) (reverse (take i text)),
        length-reverse (take i text),
        length-take i text,
      )
