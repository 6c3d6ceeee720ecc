-- What it is that a vector is judged to be balanced.
use Rattle.std.proofs.Common.{ℕ, eqb, List}
use Rattle.std.specs.Bool.{Decides}
use Rattle.std.specs.List.{list_all, range_with_len}
use Rattle.std.proofs.lemmas.Bool.{eqb-true, eq-eqb}
use Rattle.fx_designs.specs.Runs.{is_balanced, count_of}
use Rattle.fx_laws.specs.Facts.{IsBalanced}
use Rattle.fx_laws.proofs.Tests.{range_decides}

pub balanced_decides : (q : ℕ) (u : List ℕ) (xs : List (List ℕ)) → Decides (is_balanced q u xs) (IsBalanced q u xs)
unfolding is_balanced
balanced_decides q u xs =
    let outer =
    range_decides (λ y. list_all (λ z. eqb (count_of q u y xs) (count_of q u z xs)) (range_with_len 0 q)) q in
    let inner = λ (y : ℕ). range_decides (λ z. eqb (count_of q u y xs) (count_of q u z xs)) q in (
      λ e. record { same = λ y z hy hz. eqb-true _ _ ((inner y).0 (outer.0 e y hy) z hz) },
      λ b. outer.1 (λ y hy. (inner y).1 (λ z hz. eq-eqb _ _ (b.same y z hy hz))),
    )
