-- One factor of the pass over the factors of a plan, in the words of the code.
use Rattle.std.proofs.Common.{ℕ, ◌≡◌, ◌<◌, ◌+◌, List, [], length, get_or, Some, None, true, refl, ◌∙◌}
use Rattle.std.proofs.Common.{ap₂, arith}
use Rattle.std.specs.List.{All}
use Rattle.std.proofs.lemmas.List.Elements.{All-get_or, All-weaker}
use Rattle.fx_designs.specs.Galois.{IsField}
use Rattle.fx_designs.specs.Vectors.{IsVector, dot, zeros}
use Rattle.fx_judge.specs.Bases.{column, grown, new_direction, off_of}
use Rattle.fx_judge.specs.Rules.{IsException, basic_among, combination_for, gives}
use Rattle.fx_judge.proofs.Bases.{IsMade, IsStage, column_vector, found, missing}
use Rattle.fx_judge.proofs.Growing.{direction_is_vector, goes_on, grows, not_given, off_here}
use Rattle.fx_laws.proofs.Tables.{is_order-field}
use Rattle.fx_judge.specs.Plans.{IsPlan, PlanView}
use Rattle.fx_judge.specs.Regular.{row_differences}
use Rattle.fx_judge.proofs.Stepping.{turned, zeros_made}

-- the zeros are made of the differences of a plan
pub plan_zeros : (plan : PlanView) → IsPlan plan → (D : List (List ℕ)) → D ≡ row_differences plan.q plan.rows
    → IsMade plan.q D (zeros (length plan.names))
plan_zeros plan h D is =
    let some : 0 < length plan.rows = omega arith in
    rw is (zeros_made plan.q (is_order-field plan.q h.order) _ plan.rows some (h.each 0 [] some))

as_vector : (q k s : ℕ) (u v : List ℕ) → k ≡ q → u ≡ v → IsVector q s v → IsVector k (length u) u
as_vector q k s u v ek eu h = record {
  len = refl;
  codes = rw ek (rw eu h.codes);
}

module _ (q : ℕ) (f : IsField q) (s : ℕ) (D rows : List (List ℕ)) (i : ℕ) (hd : All (λ d. IsVector q s d) D)
    (stage : IsStage q s D rows (basic_among q s D i) i) (low : i < s) (z : IsMade q D (zeros s)) where
  pub column_fits : (F : ℕ) (u : List ℕ) → F ≡ q → u ≡ column i rows → IsVector F (length u) u
  column_fits F u eF eu =
      as_vector q F s u _ eF eu (column_vector q f s D rows _ i hd stage i low)

  pub column_long : (u : List ℕ) → u ≡ column i rows → length u ≡ s
  column_long u eu =
      cc ((column_vector q f s D rows _ i hd stage i low).len)

  module _ (F : ℕ) (u : List ℕ) (eF : F ≡ q) (eu : u ≡ column i rows) where
    given : gives F D i u ≡ true → gives q D i (column i rows) ≡ true
    given e = cc

    pub on_none : (next : List (List ℕ)) → gives F D i u ≡ true → next ≡ rows
        → IsStage q s D next (basic_among q s D (i + 1)) (i + 1)
    on_none next e is =
        rw is (turned q s D rows _ i (goes_on q f s D rows _ i hd stage low z (given e)))

    pub none_found : gives F D i u ≡ true → combination_for q s D (basic_among q s D i) i ≡ Some (column i rows)
    none_found e = found q f s D rows _ i hd stage low (given e)

    module _ (k : ℕ) (ex : IsException F D u i k) where
      apart : dot q (column i rows) (get_or D k []) ≡ get_or (get_or D k []) i 0 → ⊥
      apart e = ex.apart (ap₂ (λ F u. dot F u (get_or D k [])) eF eu ∙ e)

      pub some_none : combination_for q s D (basic_among q s D i) i ≡ None
      some_none =
          missing q f s D rows _ i hd stage low
          (not_given q f s D rows _ i hd stage low z k ex.there apart)

      module _ (G : ℕ) (d : List ℕ) (eG : G ≡ q) (ed : d ≡ get_or D k []) where
        pub d_long : length d ≡ s
        d_long = cc ((All-get_or (λ d. IsVector q s d) D k [] ex.there hd).len)

        off_is : off_of G (length d) rows d ≡ off_of q s rows (get_or D k [])
        off_is =
            cc d_long

        pub off_positive : 0 < get_or (off_of G (length d) rows d) i 0
        off_positive =
            let no = off_here q f s D rows _ i hd stage low z k ex.there apart in
            let not_zero : (get_or (off_of G (length d) rows d) i 0 ≡ 0 → ⊥) =
            λ e. no (cc off_is) in
            omega arith

        module _ (e : List ℕ) (ee : e ≡ new_direction G (length d) (off_of G (length d) rows d) i) where
          direction_is : e ≡ new_direction q s (off_of q s rows (get_or D k [])) i
          direction_is =
              cc (off_is, d_long)

          e_vector : IsVector q s (new_direction q s (off_of q s rows (get_or D k [])) i)
          e_vector = direction_is_vector q f s D rows _ i hd stage low z k ex.there apart

          pub direction_fits : (H : ℕ) → H ≡ q → IsVector H (length e) e
          direction_fits H eH = as_vector q H s e _ eH direction_is e_vector

          pub direction_long : length e ≡ s
          direction_long = cc (direction_is, e_vector.len)

          pub rows_fit : (H : ℕ) → H ≡ q → All (λ r. IsVector H (length e) r) rows
          rows_fit H eH = All-weaker _ (λ r. IsVector H (length e) r)
              (λ r h. rw direction_long (rw eH h)) rows stage.vectors

          pub on_some : (H : ℕ) (next : List (List ℕ)) → H ≡ q → next ≡ grown H rows e i
              → IsStage q s D next (basic_among q s D (i + 1)) (i + 1)
          on_some H next eH is =
              rw (is ∙ ap₂ (λ H e. grown H rows e i) eH direction_is)
              (turned q s D _ _ i (grows q f s D rows _ i hd stage low z k ex.there apart))
