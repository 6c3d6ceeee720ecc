-- The sums of block rules are the points that they span.
use Rattle.std.proofs.Common.{ℕ, ◌≡◌, ◌<◌, ◌≤◌, ◌+◌, ◌^◌, ◌==◌, ◌||◌, true, zero, suc, List, [], ◌∷◌, drop, take}
use Rattle.std.proofs.Common.{length, length-drop, refl, sym, ap, ◌∙◌, arith, inl, inr, eqb-true, eq-eqb}
use Rattle.std.proofs.lemmas.Bool.{or_cases, or_left, or_right, cases_eq}
use Rattle.std.proofs.lemmas.List.{drop-map, length-map}
use Rattle.fx_designs.specs.Galois.{IsField, digits, number}
use Rattle.fx_designs.specs.Vectors.{IsVector, combination, vectors_of}
use Rattle.fx_designs.specs.Spans.{in_span}
use Rattle.fx_laws.proofs.Codes.{digits-number, digits-vector, number-below}
use Rattle.fx_laws.proofs.Ranks.{in_span-holds, in_span-true, number-same}
use Rattle.fx_laws.proofs.Space.{combination-vector}
use Rattle.fx_laws.proofs.Tests.{bool_same}
use Rattle.fx_points.specs.Points.{PointsView, has}
use Rattle.fx_vectors.specs.Matrix.{MatrixView}
use Rattle.fx_runs.proofs.Confounding.{constant_in_span}
use Rattle.fx_vectors.proofs.Steps.{are_vectors}
use Rattle.fx_alias.specs.BlockSpans.{HasSums, IsBlockSpan, block_sum}

module _ (matrix : MatrixView) (f : IsField matrix.shape.q) (runs : matrix.shape.q ^ matrix.shape.m ≤ 1024) where
  abbrev q : ℕ
  q = matrix.shape.q

  abbrev m : ℕ
  m = matrix.shape.m

  abbrev blocks : List (List ℕ)
  blocks = vectors_of q m (drop matrix.shape.s matrix.rows)

  some : 0 < q
  some = omega arith

  sum-vector : (u : List ℕ) → IsVector q m (combination q m u blocks)
  sum-vector u = combination-vector q m f u blocks (are_vectors q m _ some)

  below : (place : ℕ) → block_sum matrix place < 1024
  below place = let fits =
      number-below q m _
      (sum-vector (digits q matrix.shape.t place)) in omega arith

  -- with the next sum
  pub next_sum : (k : ℕ) (old new : PointsView) → HasSums matrix old k
      → ((y : ℕ) → y < 1024 → has new y ≡ ((y == block_sum matrix k) || has old y)) → HasSums matrix new (k + 1)
  next_sum k old new sums is = record {
    only = λ n low has_n. elim (or_cases _ _ (sym (is n low) ∙ has_n)) [
      | inl same ↦ (let l : k < k + 1 = omega arith in (k, l, sym (eqb-true n _ same)))
      | inr there ↦ (let o = sums.only n low there in let l : o.0 < k + 1 = omega arith in (o.0, l, o.2))
    ];
    each = λ place low. elim (cases_eq place k) [
      | inl same ↦ is (block_sum matrix place) (below place) ∙ or_left _ _ (eq-eqb _ _ (ap (block_sum matrix) same))
      | inr other ↦
          is (block_sum matrix place) (below place) ∙ or_right _ _
          (sums.each place (let l : place < k = omega arith in l))
    ];
  }

  -- rules past the last code play no part
  front : (n : ℕ) (u : List ℕ) (rules : List (List ℕ)) → length u ≤ n
      → combination q m u (take n rules) ≡ combination q m u rules
  front n [] rules few = refl
  front zero (a ∷ u) rules few = absurd (omega arith)
  front (suc n) (a ∷ u) [] few = refl
  front (suc n) (a ∷ u) (r ∷ rules) few =
      cc (front n u rules (let l : length u ≤ n = omega arith in l))

  -- with all of them
  module _ (set : PointsView) (complete : length matrix.rows ≡ matrix.shape.s + matrix.shape.t)
      (sums : HasSums matrix set (q ^ matrix.shape.t)) where
    count : length blocks ≡ matrix.shape.t
    count = let l = length-map (drop matrix.shape.s matrix.rows) (digits q m) in let d =
        length-drop matrix.shape.s matrix.rows in omega arith

    to : (v : List ℕ) → IsVector q m v → has set (number q v) ≡ true → in_span q m blocks v ≡ true
    to v vector has_v =
        let low = number-below q m v vector in
        let o = sums.only (number q v) (omega arith) has_v in
        in_span-holds q m f blocks v (record {
          by = digits q matrix.shape.t o.0;
          vector = rw count (digits-vector q matrix.shape.t o.0 some);
          gives = number-same q m f _ v (sum-vector (digits q matrix.shape.t o.0)) vector o.2;
        })

    from : (v : List ℕ) → IsVector q m v → in_span q m blocks v ≡ true → has set (number q v) ≡ true
    from v vector spans =
        let s = in_span-true q m f blocks v (are_vectors q m _ some) vector spans in
        let by = rw count at s.vector in
        let is : block_sum matrix (number q s.by) ≡ number q v =
        cc (digits-number q matrix.shape.t s.by by) in
        rw is at (sums.each (number q s.by) (number-below q matrix.shape.t s.by by))

    spanned : (v : List ℕ) → IsVector q m v
        → has set (number q v) ≡ in_span q m (drop matrix.shape.s (vectors_of q m matrix.rows)) v
    spanned v vector =
        rw (drop-map (digits q m) matrix.shape.s matrix.rows) (bool_same _ _ (to v vector) (from v vector))

    pub all_sums : IsBlockSpan matrix set
    all_sums = record {
      decides = λ u vector.
          let rules = vectors_of q m matrix.rows in
          let both = constant_in_span q m matrix.shape.s matrix.shape.t f matrix.rows u complete vector in
          let same =
          front matrix.shape.s u rules (let l : length u ≤ matrix.shape.s = omega arith in l) in
          let is = spanned (combination q m u rules)
          (combination-vector q m f u rules (are_vectors q m matrix.rows some)) in
          bool_same _ _
          (λ e. is ∙ rw same at (both.0 e))
          (λ e. both.1 (rw (← same) at (sym is ∙ e)));
    }
