-- Over all runs: a zero sum is constant, every other vector is balanced.
use Rattle.std.proofs.Common.{ℕ, ◌≡◌, cond, eqb, List, sym, ◌∙◌, ap, arith, inl, inr, ◌⊎◌}
use Rattle.std.specs.List.{sum_by, count_by}
use Rattle.std.proofs.lemmas.List.Elements.{All-map, recursion_from_All, All-from_recursion}
use Rattle.fx_designs.specs.Galois.{add, neg, IsField}
use Rattle.fx_designs.specs.Vectors.{dot, plus, scale, zeros, combination, IsVector}
use Rattle.fx_designs.specs.Runs.{points, levels_at, runs_of}
use Rattle.fx_laws.specs.Facts.{IsConstant, IsBalanced}
use Rattle.fx_laws.proofs.Linear.{dot_code, dot_comm, dot-zeros, dot-levels}
use Rattle.fx_laws.proofs.Sums.{sum_by_map, sum_by-ext}
use Rattle.fx_laws.proofs.Shift.{shift, all-points, points-each}
use Rattle.fx_laws.proofs.Space.{AreVectors, zeros-vector, scale-vector, combination-vector}
use Rattle.fx_laws.proofs.Separation.{nonzero-point}
use Rattle.fx_laws.proofs.Blocks.{All-unmap, tested}
use Rattle.fx_laws.proofs.Changes.{dot-plus-right, dot-scale-right}

module _ (q m : ℕ) (f : IsField q) (rows : List (List ℕ)) (u : List ℕ) where
  pub zero_constant : combination q m u rows ≡ zeros m → IsConstant q u (runs_of q m rows)
  unfolding runs_of
  zero_constant e = (
    0,
    All-map (λ x. dot q u x ≡ 0) (λ p. levels_at q rows p) (points q m)
        (all-points q m (omega (arith, f.more_than_one)) (λ p. dot q u (levels_at q rows p) ≡ 0)
        (λ p h. cc (dot-levels q f m u rows p, e, dot-zeros q f m p))),
  )

  module _ (hr : AreVectors q m rows) (some : combination q m u rows ≡ zeros m → ⊥) where
    one_point : (p : List ℕ) × IsVector q m p × (dot q (combination q m u rows) p ≡ 1)
    one_point =
        elim (nonzero-point q m f (combination q m u rows) (combination-vector q m f u rows hr))
        [ inl z ↦ absurd (some z) | inr p ↦ p ]

    over_points : (y : ℕ)
        → count_by (λ x. eqb (dot q u x) y) (runs_of q m rows)
        ≡ sum_by (λ p. cond (eqb (dot q (combination q m u rows) p) y) 1 0) (points q m)
    unfolding runs_of
    over_points y =
        sum_by_map (λ x. cond (eqb (dot q u x) y) 1 0) (λ p. levels_at q rows p) (points q m)
        ∙ sum_by-ext _ _ (points q m) (λ p. cc (dot-levels q f m u rows p))

    pub other_balanced : IsBalanced q u (runs_of q m rows)
    other_balanced = record {
      same = λ y z hy hz.
          let w : List ℕ = combination q m u rows in
          let p0 : List ℕ = one_point.0 in
          let c : ℕ = add q y (neg q z) in
          let moves : (p : List ℕ) → dot q w (plus q p (scale q c p0)) ≡ add q (dot q w p) c =
          λ p. cc (
            dot-plus-right q f w p (scale q c p0),
            dot-scale-right q f c w p0,
            one_point.2,
            f.mul_one c (f.add_code y (neg q z)),
          ) in
          cc (
            over_points y,
            shift q m f (scale q c p0) (λ p. cond (eqb (dot q w p) y) 1 0)
                (scale-vector q m f c p0 one_point.1),
            sum_by-ext _ _ (points q m)
                (λ p. ap (λ d. cond (eqb d y) 1 0) (moves p)
                ∙ ap (λ b. cond b 1 0) (tested q f (dot q w p) y z (dot_code q f w p) hy hz)),
            over_points z,
          );
    }

  pub other_not_constant : AreVectors q m rows → (combination q m u rows ≡ zeros m → ⊥)
      → IsConstant q u (runs_of q m rows) → ⊥
  unfolding runs_of
  other_not_constant hr some h =
      let w : List ℕ = combination q m u rows in
      let p0 = one_point hr some in
      let each =
      points-each q m (omega (arith, f.more_than_one)) (λ p. dot q u (levels_at q rows p) ≡ h.0)
      (All-from_recursion _ (points q m)
      (All-unmap (λ x. dot q u x ≡ h.0) (λ p. levels_at q rows p) (points q m) (recursion_from_All _ _ h.1))) in
      let zero_is : 0 ≡ h.0 =
      cc (
        dot-levels q f m u rows (zeros m),
        dot_comm q f w (zeros m),
        dot-zeros q f m w,
        each (zeros m) (zeros-vector q m f),
      ) in
      let one_is : 1 ≡ h.0 = sym (dot-levels q f m u rows p0.0 ∙ p0.2) ∙ each p0.0 p0.1 in
      let bad : 0 ≡ 1 = zero_is ∙ sym one_is in
      omega arith

  pub zero_or_other : AreVectors q m rows → (combination q m u rows ≡ zeros m) ⊎ (combination q m u rows ≡ zeros m → ⊥)
  zero_or_other hr = elim (nonzero-point q m f (combination q m u rows) (combination-vector q m f u rows hr)) [
    | inl z ↦ inl z
    | inr p ↦ inr (λ z. (let bad : 0 ≡ 1 = sym (ap (λ v. dot q v p.0) z ∙ dot-zeros q f m p.0) ∙ p.2 in omega arith))
  ]

  pub constant_zero : AreVectors q m rows → IsConstant q u (runs_of q m rows) → combination q m u rows ≡ zeros m
  constant_zero hr h = elim (zero_or_other hr) [ inl z ↦ z | inr n ↦ absurd (other_not_constant hr n h) ]
