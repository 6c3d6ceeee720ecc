-- A basis grows by the direction in which a difference is off what the other directions make of it.
use Rattle.std.proofs.Common.{ℕ, zero, suc, ◌≡◌, ◌<◌, Bool, true, false, eqb, List, [], ◌∷◌, ◌++◌, length, map}
use Rattle.std.proofs.Common.{get_or, get_or-set_same, get_or-set_other, refl, sym, subst, ◌∙◌, ap, arith}
use Rattle.std.proofs.Common.{inl, inr}
use Rattle.std.specs.List.{All, AllByRecursion}
use Rattle.std.proofs.Math.ListN.{length-set}
use Rattle.std.proofs.lemmas.Bool.{cases_Bool, cases_eq, cases_lt, both_ways, eqb-true}
use Rattle.std.proofs.lemmas.List.{length-map, length_push, get_or-map, get_or_past, get_or_push, get_or_append_left}
use Rattle.std.proofs.lemmas.List.{get_or-replicate, ext_get_or}
use Rattle.std.proofs.lemmas.List.Sums.{AllPass-from_list_all}
use Rattle.std.proofs.lemmas.List.Elements.{All-get_or, All-head, All-tail, All-set, All-map, All-weaker}
use Rattle.fx_designs.specs.Galois.{IsField, add, mul, neg, inv}
use Rattle.fx_designs.specs.Vectors.{IsVector, dot, plus, scale, zeros, combination}
use Rattle.fx_designs.specs.Runs.{levels_at}
use Rattle.fx_laws.specs.Changes.{unit}
use Rattle.fx_laws.proofs.Changes.{unit-vector}
use Rattle.fx_laws.proofs.Follows.{unit-unit}
use Rattle.fx_laws.proofs.Linear.{zero-add-code, dot_code, dot_comm, dot-plus, dot-scale, dot-levels}
use Rattle.fx_laws.proofs.Reorders.{plus-comm}
use Rattle.fx_laws.proofs.Space.{zeros-vector, plus-vector, scale-vector, combination-vector}
use Rattle.std.proofs.lemmas.List.Elements.{recursion_from_All}
use Rattle.fx_judge.specs.Rules.{gives}
use Rattle.fx_judge.proofs.Kinships.{less, back}
use Rattle.fx_judge.specs.Bases.{column, grown, new_direction, off_of, without_part}
use Rattle.fx_judge.proofs.Bases.{IsMade, IsStage, column_at, direction_vector, dot_unit, found, missing}

unit_other : (s j k : ℕ) → (j ≡ k → ⊥) → get_or (unit s j) k 0 ≡ 0
unit_other zero j k ne = refl
unit_other (suc s) zero zero ne = absurd (ne refl)
unit_other (suc s) zero (suc k) ne = zero_at s k
  where
    zero_at : (s k : ℕ) → get_or (zeros s) k 0 ≡ 0
    zero_at zero k = refl
    zero_at (suc s) zero = refl
    zero_at (suc s) (suc k) = zero_at s k
unit_other (suc s) (suc j) zero ne = refl
unit_other (suc s) (suc j) (suc k) ne = unit_other s j k (λ e. ne (cc e))

module _ (q : ℕ) (f : IsField q) where
  some_codes : 0 < q
  some_codes = omega arith

  neg_zero : neg q 0 ≡ 0
  neg_zero = cc (zero-add-code q f _ (f.neg_code 0), f.add_neg 0)

  pub made_sum : (D : List (List ℕ)) (u w : List ℕ) (c : ℕ) → c < q → IsMade q D u → IsMade q D w
      → IsMade q D (plus q u (scale q c w))
  made_sum D u w c h hu hw =
      record { passes = λ test closed all. closed.sums u w c h (hu.passes test closed all) (hw.passes test closed all) }

  pub made_item : (D : List (List ℕ)) (k : ℕ) → k < length D → IsMade q D (get_or D k [])
  made_item D k h = record { passes = λ test closed all. All-get_or (λ d. test d ≡ true) D k [] h all }

  pub made_combination : (s : ℕ) (D rows : List (List ℕ)) (u : List ℕ) → IsMade q D (zeros s)
      → AllByRecursion (λ c. c < q) u → All (λ r. IsMade q D r) rows → IsMade q D (combination q s u rows)
  made_combination s D rows [] z hu hr = z
  made_combination s D [] (a ∷ u) z hu hr = z
  made_combination s D (r ∷ rows) (a ∷ u) z hu hr =
      subst (IsMade q D) (plus-comm q f (combination q s u rows) (scale q a r))
      (made_sum D _ r a hu.0
      (made_combination s D rows u z hu.1 (All-tail (λ r. IsMade q D r) r rows hr))
      (All-head (λ r. IsMade q D r) r rows hr))

  entry : (s j c : ℕ) (r e : List ℕ) → IsVector q s r → IsVector q s e → j < s
      → get_or (plus q r (scale q c e)) j 0 ≡ add q (get_or r j 0) (mul q c (get_or e j 0))
  entry s j c r e hr he low =
      cc (
        dot_unit q f s j _ (plus-vector q s f r _ hr (scale-vector q s f c e he))
            low,
        dot-plus q f r (scale q c e) (unit s j),
        dot_unit q f s j r hr low,
        dot-scale q f c e (unit s j),
        dot_unit q f s j e he low,
      )

  zero_entry : (s j : ℕ) → j < s → get_or (zeros s) j 0 ≡ 0
  zero_entry s j low = get_or-replicate s j 0 0 low

  value_code : (s j : ℕ) (v : List ℕ) → IsVector q s v → j < s → get_or v j 0 < q
  value_code s j v h low = rw (dot_unit q f s j v h low) at (dot_code q f v (unit s j))

  pub levels_unit : (s j : ℕ) (rows : List (List ℕ)) → All (λ r. IsVector q s r) rows → j < s
      → levels_at q rows (unit s j) ≡ column j rows
  levels_unit s j [] h low = refl
  levels_unit s j (r ∷ rows) h low =
      cc (
        dot_unit q f s j r (All-head (λ r. IsVector q s r) r rows h) low,
        levels_unit s j rows (All-tail (λ r. IsVector q s r) r rows h) low,
      )

  module _ (s : ℕ) (D rows : List (List ℕ)) (basic : List Bool) (i : ℕ) (hd : All (λ d. IsVector q s d) D)
      (stage : IsStage q s D rows basic i) (low : i < s) (made_zeros : IsMade q D (zeros s)) where
    -- factor i follows from basic factors
    pub goes_on : gives q D i (column i rows) ≡ true → IsStage q s D rows (basic ++ false ∷ []) (suc i)
    goes_on e = record {
      count = stage.count;
      vectors = stage.vectors;
      made = stage.made;
      basics = cc (found q f s D rows basic i hd stage low e);
      marks = length_push basic false ∙ (let m = stage.marks in omega arith);
      rules = λ j h. elim (cases_lt j i) [
        | inl l ↦ stage.rules j l
        | inr g ↦ let is : i ≡ j = omega arith in
            rw is at (given e)
      ];
      units = λ j h t. elim (cases_lt j i) [
        | inl l ↦ stage.units j l (sym (get_or_append_left basic (false ∷ []) false j (omega arith)) ∙ t)
        | inr g ↦ absurd (both_ways _ (get_or_push basic false false j (omega arith)) t)
      ];
      zero = λ k h m. elim (cases_lt k i) [
        | inl l ↦ stage.zero k h (sym (get_or_append_left basic (false ∷ []) false k (omega arith)) ∙ m)
        | inr g ↦ stage.zero k h (get_or_past basic k false (omega arith))
      ];
    }
      where
        given : gives q D i (column i rows) ≡ true → All (λ d. dot q (column i rows) d ≡ get_or d i 0) D
        given e = All-weaker (λ d. eqb (dot q (column i rows) d) (get_or d i 0) ≡ true)
            (λ d. dot q (column i rows) d ≡ get_or d i 0)
            (λ d t. eqb-true _ _ t) D (AllPass-from_list_all _ D e)

    module _ (k : ℕ) (there : k < length D)
        (apart : dot q (column i rows) (get_or D k []) ≡ get_or (get_or D k []) i 0 → ⊥) where
      abbrev d : List ℕ
      d = get_or D k []

      abbrev off : List ℕ
      off = off_of q s rows d

      abbrev e : List ℕ
      e = new_direction q s off i

      d_vector : IsVector q s d
      d_vector = All-get_or (λ d. IsVector q s d) D k [] there hd

      comb_vector : IsVector q s (combination q s d rows)
      comb_vector = combination-vector q s f d rows (recursion_from_All _ rows stage.vectors)

      pub off_vector : IsVector q s off
      off_vector =
          plus-vector q s f d _ d_vector
          (scale-vector q s f (neg q 1) _ comb_vector)

      pub direction_is_vector : IsVector q s e
      direction_is_vector =
          plus-vector q s f _ _ (zeros-vector q s f)
          (scale-vector q s f (inv q (get_or off i 0)) off off_vector)

      off_at : (j : ℕ) → j < s → get_or off j 0 ≡ add q (get_or d j 0) (mul q (neg q 1) (dot q (column j rows) d))
      off_at j h =
          cc (
            entry s j (neg q 1) d _ d_vector comb_vector h,
            dot_unit q f s j _ comb_vector h,
            dot-levels q f s d rows (unit s j),
            levels_unit s j rows stage.vectors h,
            dot_comm q f d (column j rows),
          )

      off_before : (j : ℕ) → j < i → get_or off j 0 ≡ 0
      off_before j h =
          let hj : j < s = omega arith in
          cc (
            off_at j hj,
            All-get_or (λ d. dot q (column j rows) d ≡ get_or d j 0) D k [] there (stage.rules j h),
            less q f _ (value_code s j d d_vector hj),
          )

      pub off_here : get_or off i 0 ≡ 0 → ⊥
      off_here z =
          apart (sym
          (back q f _ _ 0 (value_code s i d d_vector low)
          (dot_code q f (column i rows) d) (sym (off_at i low) ∙ z)
          ∙ zero-add-code q f _ (dot_code q f (column i rows) d)))

      e_at : (j : ℕ) → j < s → get_or e j 0 ≡ mul q (inv q (get_or off i 0)) (get_or off j 0)
      e_at j h =
          cc (
            entry s j (inv q (get_or off i 0)) _ off (zeros-vector q s f) off_vector h,
            zero_entry s j h,
            zero-add-code q f _
                (f.mul_code (inv q (get_or off i 0)) (get_or off j 0)),
          )

      e_before : (j : ℕ) → j < i → get_or e j 0 ≡ 0
      e_before j h =
          cc (e_at j (omega arith), off_before j h, f.mul_zero (inv q (get_or off i 0)))

      e_here : get_or e i 0 ≡ 1
      e_here =
          let c = get_or off i 0 in
          let some : 0 < c = elim (cases_eq c 0) [ inl z ↦ absurd (off_here z) | inr n ↦ omega arith ] in
          cc (e_at i low, f.mul_comm (inv q c) c, f.mul_inv c some (value_code s i off off_vector low))

      made_off : IsMade q D off
      made_off =
          made_sum D d _ _ (f.neg_code 1) (made_item D k there)
          (made_combination s D rows d made_zeros d_vector.codes stage.made)

      made_e : IsMade q D e
      made_e = made_sum D _ off _ (f.inv_code (get_or off i 0)) made_zeros made_off

      mapped_at : (n : ℕ) → n < s → get_or (map (without_part q e i) rows) n [] ≡ without_part q e i (get_or rows n [])
      mapped_at n h = get_or-map _ rows n [] [] (omega arith)

      grown_at : (n : ℕ) → n < s → (n ≡ i → ⊥) → get_or (grown q rows e i) n [] ≡ without_part q e i (get_or rows n [])
      grown_at n h ne = get_or-set_other (map (without_part q e i) rows) i n e [] ne ∙ mapped_at n h

      mapped_len : length (map (without_part q e i) rows) ≡ s
      mapped_len = cc (length-map rows (without_part q e i))

      grown_len : length (grown q rows e i) ≡ s
      grown_len = length-set (map (without_part q e i) rows) i e ∙ mapped_len

      grown_here : get_or (grown q rows e i) i [] ≡ e
      grown_here = get_or-set_same (map (without_part q e i) rows) i e [] (omega (arith, mapped_len))

      without_at : (n j : ℕ) → n < s → j < s
          → get_or (without_part q e i (get_or rows n [])) j 0
          ≡ add q (get_or (get_or rows n []) j 0) (mul q (neg q (get_or (get_or rows n []) i 0)) (get_or e j 0))
      without_at n j hn hj =
          entry s j _ _ e
          (direction_vector q f s D rows basic i hd stage n hn) direction_is_vector hj

      column_at_grown : (j n : ℕ) → n < s
          → get_or (column j (grown q rows e i)) n 0 ≡ get_or (get_or (grown q rows e i) n []) j 0
      column_at_grown j n h = get_or-map (λ r. get_or r j 0) _ n [] 0 (omega (arith, grown_len))

      column_same : (j : ℕ) → j < i → column j (grown q rows e i) ≡ column j rows
      column_same j h = ext_get_or 0 (column j (grown q rows e i)) (column j rows)
          (cc (
            length-map (grown q rows e i) (λ r. get_or r j 0),
            grown_len,
            length-map rows (λ r. get_or r j 0),
            stage.count,
          ))
          (λ n short. at n (omega (arith, length-map (grown q rows e i) (λ r. get_or r j 0), grown_len)))
        where
          at : (n : ℕ) → n < s → get_or (column j (grown q rows e i)) n 0 ≡ get_or (column j rows) n 0
          at n hn = column_at_grown j n hn ∙ elim (cases_eq n i) [
            | inl is ↦
                ap (λ n. get_or (get_or (grown q rows e i) n []) j 0) is ∙ ap (λ r. get_or r j 0)
                grown_here ∙ e_before j h
                ∙ sym (column_at q f s D rows basic i hd stage j n hn ∙ ap (λ r. get_or r j 0)
                (stage.zero n hn (get_or_past basic n false (omega arith))) ∙ zero_entry s j
                (omega arith))
            | inr ne ↦
                ap (λ r. get_or r j 0) (grown_at n hn ne) ∙ without_at n j hn (omega arith)
                ∙ ap (λ x. add q (get_or (get_or rows n []) j 0)
                (mul q (neg q (get_or (get_or rows n []) i 0)) x)) (e_before j h)
                ∙ ap (add q (get_or (get_or rows n []) j 0)) (f.mul_zero (neg q (get_or (get_or rows n []) i 0)))
                ∙ f.add_zero (get_or (get_or rows n []) j 0)
                (value_code s j _ (direction_vector q f s D rows basic i hd stage n hn)
                (omega arith))
                ∙ sym (column_at q f s D rows basic i hd stage j n hn)
          ]

      column_new : column i (grown q rows e i) ≡ unit s i
      column_new = ext_get_or 0 (column i (grown q rows e i)) (unit s i)
          (cc (length-map (grown q rows e i) (λ r. get_or r i 0), grown_len, (unit-vector q s i f).len))
          (λ n short. at n (omega (arith, length-map (grown q rows e i) (λ r. get_or r i 0), grown_len)))
        where
          at : (n : ℕ) → n < s → get_or (column i (grown q rows e i)) n 0 ≡ get_or (unit s i) n 0
          at n hn = column_at_grown i n hn ∙ elim (cases_eq n i) [
            | inl is ↦
                ap (λ n. get_or (get_or (grown q rows e i) n []) i 0) is ∙ ap (λ r. get_or r i 0)
                grown_here ∙ e_here
                ∙ sym (ap (λ n. get_or (unit s i) n 0) is ∙ sym
                (dot_unit q f s i _ (unit-vector q s i f) low) ∙ unit-unit q s i f low)
            | inr ne ↦
                ap (λ r. get_or r i 0) (grown_at n hn ne) ∙ without_at n i hn low
                ∙ ap (λ x. add q (get_or (get_or rows n []) i 0)
                (mul q (neg q (get_or (get_or rows n []) i 0)) x)) e_here
                ∙ ap (add q (get_or (get_or rows n []) i 0))
                (f.mul_one (neg q (get_or (get_or rows n []) i 0)) (f.neg_code (get_or (get_or rows n []) i 0)))
                ∙ f.add_neg (get_or (get_or rows n []) i 0)
                ∙ sym (unit_other s i n (λ x. ne (sym x)))
          ]

      pub not_given : gives q D i (column i rows) ≡ false
      not_given = elim (cases_Bool (gives q D i (column i rows))) [
        | inl t ↦ absurd
            (apart (eqb-true _ _
            (All-get_or (λ d. eqb (dot q (column i rows) d) (get_or d i 0) ≡ true) D k [] there
            (AllPass-from_list_all _ D t))))
        | inr n ↦ n
      ]

      zero_stays : (n : ℕ) → n < s → get_or rows n [] ≡ zeros s → without_part q e i (get_or rows n []) ≡ zeros s
      zero_stays n hn z = ext_get_or 0 (without_part q e i (get_or rows n [])) (zeros s)
          (cc (
            (plus-vector q s f _ _
                (direction_vector q f s D rows basic i hd stage n hn)
                (scale-vector q s f (neg q (get_or (get_or rows n []) i 0)) e direction_is_vector)).len,
            (zeros-vector q s f).len,
          ))
          (λ j short. at j
          (omega (
            arith,
            (plus-vector q s f _ _
                (direction_vector q f s D rows basic i hd stage n hn)
                (scale-vector q s f (neg q (get_or (get_or rows n []) i 0)) e direction_is_vector)).len,
          )))
        where
          at : (j : ℕ) → j < s → get_or (without_part q e i (get_or rows n [])) j 0 ≡ get_or (zeros s) j 0
          at j hj =
              cc (
                without_at n j hn hj,
                zero_entry s j hj,
                zero_entry s i low,
                neg_zero,
                f.mul_comm 0 (get_or e j 0),
                f.mul_zero (get_or e j 0),
                f.add_zero 0 some_codes,
              )

      -- factor i is basic
      pub grows : IsStage q s D (grown q rows e i) (basic ++ true ∷ []) (suc i)
      grows = record {
        count = grown_len;
        vectors = All-set (λ r. IsVector q s r) _ i e direction_is_vector
            (All-map (λ r. IsVector q s r) (without_part q e i) rows
            (All-weaker _ (λ r. IsVector q s (without_part q e i r))
            (λ r h. plus-vector q s f r _ h
            (scale-vector q s f (neg q (get_or r i 0)) e direction_is_vector)) rows stage.vectors));
        made = All-set (λ r. IsMade q D r) _ i e made_e
            (All-map (λ r. IsMade q D r) (without_part q e i) rows
            (All-weaker _ (λ r. IsMade q D (without_part q e i r))
            (λ r h. made_sum D r e _ (f.neg_code (get_or r i 0)) h made_e) rows stage.made));
        basics = cc (missing q f s D rows basic i hd stage low not_given);
        marks = length_push basic true ∙ (let m = stage.marks in omega arith);
        rules = λ j h. elim (cases_lt j i) [
          | inl l ↦ rw (column_same j l) (stage.rules j l)
          | inr g ↦ let is : i ≡ j = omega arith in
              rw (← is) (rw column_new (All-weaker _ (λ d. dot q (unit s i) d ≡ get_or d i 0)
              (λ d h. dot_comm q f (unit s i) d ∙ dot_unit q f s i d h low) D hd))
        ];
        units = λ j h t. elim (cases_lt j i) [
          | inl l ↦ column_same j l ∙ stage.units j l
              (sym (get_or_append_left basic (true ∷ []) false j (omega arith)) ∙ t)
          | inr g ↦ let is : i ≡ j = omega arith in
              rw (← is) column_new
        ];
        zero = λ n h m. elim (cases_lt n i) [
          | inl l ↦ grown_at n h (λ x. absurd (omega arith)) ∙ zero_stays n h
              (stage.zero n h (sym (get_or_append_left basic (true ∷ []) false n (omega arith)) ∙ m))
          | inr g ↦ elim (cases_eq n i) [
            | inl is ↦ absurd (both_ways _ m (get_or_push basic true false n (omega arith)))
            | inr ne ↦
                grown_at n h ne ∙ zero_stays n h
                (stage.zero n h (get_or_past basic n false (omega arith)))
          ]
        ];
      }
