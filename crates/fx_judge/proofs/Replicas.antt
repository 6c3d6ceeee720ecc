-- The differences of a regular plan are the runs of a rule matrix, each equally often; so each vector is constant or
-- balanced over them.
use Rattle.std.proofs.Common.{ℕ, ◌≡◌, ◌<◌, ◌*◌, ◌⊎◌, Bool, true, false, cond, eqb, List, []}
use Rattle.std.proofs.Common.{◌∷◌, length, map, get_or, refl, sym, subst, ◌∙◌, arith, inl, inr, mul_comm}
use Rattle.std.proofs.Common.{zero-add}
use Rattle.std.specs.Prelude.{count_by}
use Rattle.std.specs.List.{All, range_with_len}
use Rattle.std.proofs.lemmas.Bool.{eq-eqb, eqb-true}
use Rattle.std.proofs.lemmas.List.{ext_get_or, get_or-map, length-map}
use Rattle.std.proofs.lemmas.List.FromFn.{get_or-range_with_len, length-range_with_len}
use Rattle.std.proofs.lemmas.List.Elements.{All-from_get_or, recursion_from_All}
use Rattle.fx_base.proofs.Ranges.{each-range}
use Rattle.fx_components.proofs.Enumerating.{mapped}
use Rattle.fx_designs.specs.Galois.{IsField, number}
use Rattle.fx_designs.specs.Vectors.{IsVector, combination, dot, same, zeros}
use Rattle.fx_designs.specs.Runs.{levels_at, points, runs_of}
use Rattle.fx_laws.specs.Changes.{unit}
use Rattle.fx_laws.specs.Facts.{IsBalanced, IsConstant}
use Rattle.fx_laws.proofs.Bridge.{other_balanced, zero_constant, zero_or_other}
use Rattle.fx_laws.proofs.Codes.{digits-number, number-below}
use Rattle.fx_laws.proofs.Constant.{constant_decides}
use Rattle.fx_laws.proofs.Linear.{dot_code, dot_comm, dot-levels, zero-add-code}
use Rattle.fx_laws.proofs.Shift.{all-points}
use Rattle.fx_laws.proofs.Space.{AreVectors, combination-vector}
use Rattle.fx_laws.proofs.Sums.{sum_by_map}
use Rattle.fx_laws.proofs.Tests.{bool_same}
use Rattle.fx_judge.specs.Bases.{AreEven, at, basic_key, column, rank}
use Rattle.fx_judge.proofs.Bases.{IsMade, IsStage, column_len, column_vector, dot_unit}
use Rattle.fx_judge.proofs.Even.{at_vector, count_agree, determined, item_vector, key_low, made_key, made_made}
use Rattle.fx_judge.proofs.Even.{made_vector, spread, wide}
use Rattle.fx_judge.proofs.Gathered.{gathered, sum_agree, sum_times}
use Rattle.fx_judge.proofs.Growing.{levels_unit, made_item}
use Rattle.fx_judge.proofs.Kinships.{counted_once}
use Rattle.fx_judge.proofs.Replicated.{constant_told}
use Rattle.fx_laws.proofs.Weights.{same-true, same-self}

-- a product with codes at marked places, and zeros between
dot_spread : (q : ℕ) → IsField q → (marks : List Bool) (v x : List ℕ) → length v ≡ length marks → length x ≡ rank marks
    → dot q v (spread marks x) ≡ dot q (at marks v) x
dot_spread q f [] [] x hv hx = refl
dot_spread q f [] (c ∷ v) x hv hx = absurd (omega arith)
dot_spread q f (m ∷ marks) [] x hv hx = absurd (omega arith)
dot_spread q f (true ∷ marks) (c ∷ v) [] hv hx = absurd (omega arith)
dot_spread q f (true ∷ marks) (c ∷ v) (b ∷ x) hv hx =
    cc (dot_spread q f marks v x (omega arith) (omega arith))
dot_spread q f (false ∷ marks) (c ∷ v) x hv hx =
    cc (
      f.mul_zero c,
      zero-add-code q f _ (dot_code q f v (spread marks x)),
      dot_spread q f marks v x (omega arith) hx,
    )

module _ (q : ℕ) (f : IsField q) (s : ℕ) (D rows : List (List ℕ)) (basic : List Bool) (hd : All (λ d. IsVector q s d) D)
    (stage : IsStage q s D rows basic s) (made_zeros : IsMade q D (zeros s)) (some : 0 < length D)
    (even : AreEven q basic D) where
  -- how often each combination comes
  abbrev pub often : ℕ
  often = count_by (λ d. eqb (basic_key q basic d) 0) D

  abbrev made : List ℕ → List ℕ
  made x = combination q s (spread basic x) rows

  -- the rules of all factors over the basic ones
  abbrev pub matrix : List (List ℕ)
  matrix = map (λ i. at basic (column i rows)) (range_with_len 0 s)

  at_item : (k : ℕ) → k < length D → IsVector q (rank basic) (at basic (get_or D k []))
  at_item k low =
      let d = get_or D k [] in
      at_vector q basic d
      (wide q f s D rows basic hd stage made_zeros some d
      (item_vector q f s D rows basic hd stage made_zeros some k low))

  item_made : (k : ℕ) → k < length D → get_or D k [] ≡ made (at basic (get_or D k []))
  item_made k low =
      let d = get_or D k [] in
      let vector = item_vector q f s D rows basic hd stage made_zeros some k low in
      let z = basic_key q basic d in
      cc (
        determined q f s D rows basic hd stage made_zeros some d _
            vector (made_vector q f s D rows basic hd stage made_zeros some z) (made_item q f D k low)
            (made_made q f s D rows basic hd stage made_zeros some z)
            (sym (made_key q f s D rows basic hd stage made_zeros some z
            (key_low q f s D rows basic hd stage made_zeros some d vector))),
        digits-number q _ _ (at_item k low),
      )

  as_often : (x : List ℕ) → IsVector q (rank basic) x → count_by (λ d. same (at basic d) x) D ≡ often
  as_often x h =
      count_agree (λ d. same (at basic d) x) (λ d. eqb (basic_key q basic d) (number q x)) D
      (All-from_get_or (λ d. same (at basic d) x ≡ eqb (basic_key q basic d) (number q x)) D [] (λ k low.
      let v = at basic (get_or D k []) in
      bool_same _ _
      (λ t. eq-eqb (number q v) (number q x) (cc (same-true v x t)))
      (λ t. subst (λ y. same v y ≡ true)
      (cc (digits-number q _ v (at_item k low), eqb-true _ _ t, digits-number q _ x h))
      (same-self v))))
      ∙ even.each (number q x) (number-below q _ x h)

  column_fits : (i : ℕ) → i < s → IsVector q (length basic) (column i rows)
  column_fits i low =
      rw stage.marks (column_vector q f s D rows basic s hd stage i low)

  pub matrix_vectors : AreVectors q (rank basic) matrix
  matrix_vectors =
      mapped _ _ (λ i. at basic (column i rows))
      (λ i low. at_vector q basic _ (column_fits i low)) _
      (each-range (λ i. i < s) 0 s (λ i low high. omega arith))

  levels_made : (x : List ℕ) → IsVector q (rank basic) x → levels_at q matrix x ≡ made x
  levels_made x h =
      ext_get_or 0 (levels_at q matrix x) (made x) (cc (long, vector.len)) (λ i short. entry i (omega (arith, long)))
    where
      rule : ℕ → List ℕ
      rule i = at basic (column i rows)

      many : length matrix ≡ s
      many = length-map (range_with_len 0 s) (λ i. at basic (column i rows)) ∙ length-range_with_len 0 s

      long : length (levels_at q matrix x) ≡ s
      long = length-map matrix (λ r. dot q r x) ∙ many

      vector : IsVector q s (made x)
      vector = combination-vector q s f _ rows
          (recursion_from_All _ rows stage.vectors)

      entry : (i : ℕ) → i < s → get_or (levels_at q matrix x) i 0 ≡ get_or (made x) i 0
      entry i low =
          cc (
            get_or-map (λ r. dot q r x) matrix i [] 0 (omega (arith, many)),
            get_or-map (λ i. at basic (column i rows)) (range_with_len 0 s) i 0 []
                (omega (arith, length-range_with_len 0 s)),
            get_or-range_with_len 0 s i 0 low,
            zero-add i,
            dot_spread q f basic _ x (column_len q f s D rows basic s hd stage i ∙ sym stage.marks) h.len,
            dot_comm q f (column i rows) (spread basic x),
            levels_unit q f s i rows stage.vectors low,
            dot-levels q f s (spread basic x) rows (unit s i),
            dot_unit q f s i _ vector low,
          )

  -- each test is passed so many times as often as by the runs
  pub replicated : (p : List ℕ → Bool) → count_by p D ≡ often * count_by p (runs_of q (rank basic) matrix)
  unfolding runs_of
  replicated p =
      let g : List ℕ → ℕ = λ x. cond (p (made x)) 1 0 in
      cc (
        sum_agree (λ d. cond (p d) 1 0) (λ d. g (at basic d)) D
            (All-from_get_or (λ d. cond (p d) 1 0 ≡ g (at basic d)) D []
            (λ k low. cc (item_made k low))),
        gathered q (rank basic) (at basic) g D
            (All-from_get_or (λ d. IsVector q (rank basic) (at basic d)) D [] at_item),
        sum_agree (λ x. g x * count_by (λ d. same (at basic d) x) D) (λ x. often * cond (p (levels_at q matrix x)) 1 0)
            _
            (all-points q (rank basic) (omega arith)
            (λ x. g x * count_by (λ d. same (at basic d) x) D ≡ often * cond (p (levels_at q matrix x)) 1 0)
            (λ x h. cc (levels_made x h, as_often x h, mul_comm (cond (p (levels_at q matrix x)) 1 0) often))),
        sum_times often (λ x. cond (p (levels_at q matrix x)) 1 0) (points q (rank basic)),
        sum_by_map (λ x. cond (p x) 1 0) (levels_at q matrix) (points q (rank basic)),
      )

  pub often_some : 0 < often
  often_some =
      let first = get_or D 0 [] in
      omega (
        arith,
        counted_once (λ d. eqb (basic_key q basic d) (basic_key q basic first)) D 0 [] some
            (eq-eqb _ _ refl),
        even.each (basic_key q basic first)
            (key_low q f s D rows basic hd stage made_zeros some first
            (item_vector q f s D rows basic hd stage made_zeros some 0 some)),
      )

  -- over the differences each vector is constant or balanced
  pub constant_or_balanced : (w : List ℕ) → IsConstant q w D ⊎ IsBalanced q w D
  constant_or_balanced w = elim (zero_or_other q _ f matrix w matrix_vectors) [
    | inl z ↦
        inl ((constant_decides q f w D).0
        (constant_told q often _ D often_some replicated w
        ∙ (constant_decides q f w (runs_of q (rank basic) matrix)).1 (zero_constant q _ f matrix w z)))
    | inr n ↦
        inr (record {
          same = λ y z hy hz.
              cc (
                replicated (λ x. eqb (dot q w x) y),
                (other_balanced q _ f matrix w matrix_vectors n).same y z hy hz,
                replicated (λ x. eqb (dot q w x) z),
              );
        })
  ]
