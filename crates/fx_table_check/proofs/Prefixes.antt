-- What is kept of a prefix says how many words of each kind it has.
use Rattle.std.proofs.Common.{ℕ, ◌≡◌, ◌<◌, ◌≤◌, ◌+◌, ◌-◌, ◌*◌, ◌^◌, zero, suc, Bool, true, false, List, [], ◌∷◌, ◌++◌}
use Rattle.std.proofs.Common.{length, take}
use Rattle.std.proofs.Common.{slice_index, subst, ap, arith}
use Rattle.std.specs.List.{AllByRecursion}
use Rattle.std.proofs.lemmas.List.{length_push, take-append-le, take-map, length-take, length-map}
use Rattle.std.proofs.lemmas.List.{take-take}
use Rattle.std.proofs.Math.Nat.{pow-le-pow_right}
use Rattle.fx_designs.specs.Patterns.{pattern_of}
use Rattle.fx_base.proofs.Lists.{each-append}
use Rattle.fx_vectors.specs.declared.shape.Shape.{Shape}
use Rattle.fx_vectors.specs.Matrix.{MatrixView, IsMatrix}
use Rattle.fx_points.specs.Sums.{SumsView}
use Rattle.fx_strata.specs.Canonical.{dimensions_of, words}
use Rattle.fx_table_book.specs.declared.base.Base.{Base}
use Rattle.fx_table_check.specs.Counts.{coset, confounded_at}
use Rattle.fx_table_book.specs.Tables.{strata_of, shape_of, IsBase}
use Rattle.fx_table_check.specs.Prefixes.{PrefixView, IsPrefix}
use Rattle.fx_table_book.proofs.Bases.{field, some-levels}
use Rattle.fx_table_check.proofs.Counts.{words-false, words-true, words-most}

each-at : (P : ℕ → Type 0) (rows : List ℕ) → AllByRecursion P rows → (i : ℕ) → i < length rows → P (slice_index rows i)
each-at P [] h i low = absurd (omega arith)
each-at P (r ∷ rows) h zero low = h.0
each-at P (r ∷ rows) h (suc i) low = each-at P rows h.1 i (omega arith)

-- a row more, below q^m
pub record Extends (base : Base) (rows : List ℕ) (r i : ℕ) : Type 0 where
  pub valid : IsBase base
  pub low : AllByRecursion (λ r. r < base.q ^ base.m) rows
  pub below : r < base.q ^ base.m
  pub room : length rows < base.w + base.n
  pub at : i < base.w + base.n

-- what is known of a prefix and the row says this
pub extends : (base : Base) (v now : PrefixView) (r i : ℕ) → v ≡ now → base ≡ v.base → IsBase base
    → (tally read : MatrixView) → tally.rows ≡ v.rows → tally.shape ≡ shape_of base → read ≡ tally
    → IsMatrix read.shape read.rows → r < now.base.q ^ now.base.m → length now.rows < now.base.w + now.base.n
    → i < now.base.w + now.base.n
    → Extends base v.rows r i
extends base v now r i same own h tally read rows shape was m below room at =
    let matrix = rw was at m in
    let back : base ≡ now.base = cc in record {
      valid = h;
      low = rw rows at (rw shape at matrix.below);
      below = rw back below;
      room = rw back (rw (← (ap (λ z. z.rows) same)) at room);
      at = rw back at;
    }

module _ (base : Base) (rows : List ℕ) (r i : ℕ) (e : Extends base rows r i) where
  valid : IsBase base
  valid = e.valid

  all-low : AllByRecursion (λ r. r < base.q ^ base.m) (rows ++ r ∷ [])
  all-low = each-append _ rows _ e.low (e.below, tt)

  fits : length (rows ++ r ∷ []) ≤ base.w + base.n
  fits = omega (arith, length_push rows r)

  pub constant : words (strata_of base) (rows ++ r ∷ []) false (i + 1)
      ≡ (base.q - 1) * slice_index (pattern_of (dimensions_of (strata_of base)) (rows ++ r ∷ [])) i
  constant =
      words-false _ (field base valid) valid.inside _
      (each-at _ _ all-low) fits i e.at

  pub confounded : words (strata_of base) (rows ++ r ∷ []) true (i + 1)
      ≡ (base.q - 1)
      * (confounded_at (strata_of base) (rows ++ r ∷ []) i
      - confounded_at (strata_of base) (take base.w (rows ++ r ∷ [])) i)
  confounded =
      words-true _ (field base valid) valid.inside _
      (each-at _ _ all-low) fits i e.at

  pub confounded-late : base.w ≤ length rows → (noted : ℕ)
      → noted ≡ confounded_at (strata_of base) (take base.w rows) i
      → (base.q - 1) * (confounded_at (strata_of base) (rows ++ r ∷ []) i - noted)
      ≡ words (strata_of base) (rows ++ r ∷ []) true (i + 1)
  confounded-late late noted is =
      cc (take-append-le base.w rows (r ∷ []) late, confounded)

  pub most : (b : Bool) (k : ℕ) → words (strata_of base) (rows ++ r ∷ []) b k ≤ 2 ^ 120
  most b k =
      let few = words-most (strata_of base) (field base valid) valid.inside (rows ++ r ∷ []) b k in
      let more =
      pow-le-pow_right (some-levels base valid) fits in
      omega (arith, valid.few_words)

-- what is noted, where the prefix is the same
pub noted-of : (v u : PrefixView) → v ≡ u → (noted : List ℕ) (i : ℕ)
    → ((i : ℕ) → i < v.base.w + v.base.n → v.base.w ≤ length v.rows
    → slice_index noted i ≡ confounded_at (strata_of v.base) (take v.base.w v.rows) i)
    → i < u.base.w + u.base.n → u.base.w ≤ length u.rows
    → slice_index noted i ≡ confounded_at (strata_of u.base) (take u.base.w u.rows) i
noted-of v u same noted i known at late =
    subst (λ z. (i : ℕ) → i < z.base.w + z.base.n → z.base.w ≤ length z.rows
    → slice_index noted i ≡ confounded_at (strata_of z.base) (take z.base.w z.rows) i) same known i at late

-- one row less
pub popped : (base : Base) (rows modulo : MatrixView) (noted : List ℕ) (others : Shape) (sums : SumsView)
    → IsPrefix base rows modulo noted others sums
    → IsPrefix base (record rows { rows = take (length rows.rows - 1) rows.rows })
    (record modulo { rows = take (length modulo.rows - 1) modulo.rows }) noted others sums
popped base rows modulo noted others sums h =
    let k = length rows.rows - 1 in
    let len : length modulo.rows ≡ length rows.rows =
    cc (length-map rows.rows (coset (strata_of base))) in
    let short = length-take k rows.rows in record {
      valid = h.valid;
      shape = h.shape;
      coset_shape = h.coset_shape;
      others_shape = h.others_shape;
      sums_are = h.sums_are;
      cosets = cc (take-map (coset (strata_of base)) k rows.rows);
      few = omega arith;
      inside = λ i at late. cc (h.inside i at (omega arith), take-take base.w k rows.rows (omega arith));
    }
