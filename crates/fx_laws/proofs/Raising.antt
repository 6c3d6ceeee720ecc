-- A vector added to a dependent factor row, in the words of spans.
use Rattle.std.proofs.Common.{ℕ, ◌≡◌, ◌≤◌, ◌+◌, List, [], ◌∷◌, length, inl, inr, ◌⊎◌}
use Rattle.std.specs.List.{AllByRecursion}
use Rattle.fx_designs.specs.Galois.{IsField}
use Rattle.fx_designs.specs.Vectors.{IsVector, zeros}
use Rattle.fx_designs.specs.Runs.{levels_at}
use Rattle.fx_laws.specs.Spans.{InSpan}
use Rattle.fx_designs.specs.Spans.{rank_of}
use Rattle.fx_laws.specs.Raises.{RaisesAt, IsBlind}
use Rattle.fx_laws.proofs.Space.{AreVectors}
use Rattle.fx_laws.proofs.Separation.{separate}
use Rattle.fx_laws.proofs.Raises.{ZeroAt, zero-combination, rank-raised}
use Rattle.fx_laws.proofs.Follows.{Follows, raise_follows}

module _ (q m : ℕ) (f : IsField q) where
  zero_at : (p : List ℕ) (rows : List (List ℕ)) → levels_at q rows p ≡ zeros (length rows) → ZeroAt q m f p rows
  zero_at p [] e = tt
  zero_at p (r ∷ rows) e = (cc, zero_at p rows (cc))

  spanned_zero : (p : List ℕ) (xs ys : List (List ℕ)) → ZeroAt q m f p xs → AllByRecursion (λ y. InSpan q m xs y) ys
      → ZeroAt q m f p ys
  spanned_zero p xs [] z h = tt
  spanned_zero p xs (y ∷ ys) z h =
      (cc (h.0.gives, zero-combination q m f p h.0.by xs z), spanned_zero p xs ys z h.1)

  -- w outside the span of the factor rows; it is a combination of the block rows, or these are in the span of the
  -- factor rows
  pub raise_law : (Forbidden : List ℕ → List ℕ → Type 0) (w : List ℕ) (xs zs ys : List (List ℕ)) → IsVector q m w
      → AreVectors q m xs → AreVectors q m ys → (InSpan q m xs w → ⊥) → RaisesAt q m w [] xs zs
      → AllByRecursion (λ y. InSpan q m xs y) ys ⊎ (InSpan q m ys w × IsBlind q (length xs) (length ys) Forbidden)
      → Follows q m Forbidden xs ys zs ys × (rank_of q m xs + 1 ≤ rank_of q m zs)
  raise_law Forbidden w xs zs ys hw hx hy out at case =
      elim (separate q m f xs w hx hw) [
        | inl i ↦ absurd (out i)
        | inr p ↦
            let z : ZeroAt q m f p.0 xs = zero_at p.0 xs p.1.none in (
              raise_follows q m f Forbidden w p.0 xs zs ys hw p.1.one z hx hy at
                  (elim case [ inl h ↦ inl (spanned_zero p.0 xs ys z h) | inr h ↦ inr h ]),
              rank-raised q m f w hw p.0 p.1.one [] xs zs at tt hx tt z,
            )
      ]
