-- Comparing rows, and finding unit vectors among them.
use Rattle.std.proofs.Common.{ℕ, ◌≡◌, ◌≤◌, ◌^◌, min, zero, suc, false, not, eqb, List, [], ◌∷◌}
use Rattle.std.proofs.Common.{length, drop, refl, ◌∙◌, ap, arith}
use Rattle.std.specs.List.{filter, list_any, range_with_len}
use Rattle.fx_base.proofs.Numbers.{eqb_comm}
use Rattle.fx_base.proofs.Lists.{list_any_agree, filter_agree_each, each-all}
use Rattle.fx_designs.specs.Problems.{Dimensions}
use Rattle.fx_designs.specs.Patterns.{is_less}
use Rattle.fx_designs.specs.Canonical.{is_unit}
use Rattle.fx_strata.specs.Canonical.{units}
use Rattle.fx_table_check.proofs.Moves.{any-map}

less-none : (xs : List ℕ) → is_less xs [] ≡ false
less-none [] = refl
less-none (x ∷ xs) = refl

-- behind the end of one of two lists nothing differs
pub less-ended : (xs ys : List ℕ) (i : ℕ) → min (length xs) (length ys) ≤ i → is_less (drop i xs) (drop i ys) ≡ false
less-ended [] ys zero h = refl
less-ended (x ∷ xs) [] zero h = refl
less-ended (x ∷ xs) (y ∷ ys) zero h = absurd (omega arith)
less-ended [] ys (suc i) h = refl
less-ended (x ∷ xs) [] (suc i) h = less-none _
less-ended (x ∷ xs) (y ∷ ys) (suc i) h = less-ended xs ys i (omega arith)

module _ (d : Dimensions) where
  pub unit-among : (r : ℕ) → list_any (λ u. eqb u r) (units d.q 0 d.m) ≡ is_unit d r
  unit-among r =
      any-map (λ u. eqb u r) (λ i. d.q ^ i) (range_with_len 0 d.m)
      ∙ list_any_agree (λ i. eqb (d.q ^ i) r) (λ i. eqb r (d.q ^ i)) (λ i. eqb_comm (d.q ^ i) r) (range_with_len 0 d.m)

  -- the rows that are none of the unit vectors
  pub no-units : (rows : List ℕ)
      → filter (λ r. not (list_any (λ u. eqb u r) (units d.q 0 d.m))) rows ≡ filter (λ r. not (is_unit d r)) rows
  no-units rows =
      filter_agree_each _ _ rows
      (each-all (λ r. not (list_any (λ u. eqb u r) (units d.q 0 d.m)) ≡ not (is_unit d r)) rows
      (λ r. ap not (unit-among r)))
