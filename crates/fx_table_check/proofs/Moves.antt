-- Tests of the images of rows.
use Rattle.std.proofs.Common.{ℕ, ◌≡◌, Bool, eqb, List, [], ◌∷◌, ◌++◌, map, refl}
use Rattle.std.specs.List.{list_any}
use Rattle.std.proofs.lemmas.List.{map-append}
use Rattle.fx_strata.specs.Changes.{moved}
use Rattle.fx_strata.specs.Designs.{Strata}
use Rattle.fx_strata.specs.Canonical.{units, dimensions_of}
use Rattle.fx_table_check.specs.declared.moved.Moved.{Moved}
use Rattle.fx_table_check.specs.Moves.{AreMoved}

pub any-map : (p : ℕ → Bool) (g : ℕ → ℕ) (xs : List ℕ) → list_any p (map g xs) ≡ list_any (λ r. p (g r)) xs
any-map p g [] = refl
any-map p g (x ∷ xs) = cc (any-map p g xs)

-- whether a vector is among them
pub among : (x : Strata) (change : List ℕ) (from len : ℕ) (rows : List ℕ) (images : Moved)
    → AreMoved x change from len rows images → (to : ℕ)
    → list_any (λ y. eqb y to) (images.units.items ++ images.rows.items)
    ≡ list_any (λ r. eqb (moved (dimensions_of x) change r) to) (units x.q from len ++ rows)
among x change from len rows images h to =
    cc (
      map-append (moved (dimensions_of x) change) (units x.q from len) rows,
      any-map (λ y. eqb y to)
          (moved (dimensions_of x) change) (units x.q from len ++ rows),
    )
