-- A basis of differences: for each factor a direction, which is zero where the factor is not basic. Its columns are the
-- rules.
use Rattle.std.proofs.Common.{ℕ, zero, suc, ◌≡◌, ◌<◌, ◌⊎◌, Bool, true, false, ◌&&◌, eqb, List, [], ◌∷◌, length}
use Rattle.std.proofs.Common.{get_or, Some, None, refl, sym, ◌∙◌, ap, arith, inl, inr}
use Rattle.std.specs.Prelude.{find}
use Rattle.std.specs.List.{All, list_any}
use Rattle.std.proofs.lemmas.Bool.{cases_Bool, cases_lt, eq-eqb, eqb-true, and_parts, and_from, false_from_ne_true}
use Rattle.std.proofs.lemmas.Bool.{both_ways, cond-true, cond-false}
use Rattle.std.proofs.lemmas.List.{length-map, get_or-map, get_or_past, get_or-replicate, ext_get_or}
use Rattle.std.proofs.lemmas.List.Sums.{AllPass-from_list_all}
use Rattle.std.proofs.lemmas.List.Folds.{list_any_at}
use Rattle.std.proofs.lemmas.List.Elements.{All-get_or, All-from_get_or, All-from_recursion, recursion_from_All}
use Rattle.std.proofs.lemmas.List.Elements.{All-head, All-tail}
use Rattle.fx_designs.specs.Galois.{IsField, add, mul}
use Rattle.fx_designs.specs.Vectors.{IsVector, dot, plus, scale, zeros}
use Rattle.fx_designs.specs.Runs.{points}
use Rattle.fx_laws.specs.Changes.{unit}
use Rattle.fx_laws.proofs.Changes.{unit-vector}
use Rattle.fx_laws.proofs.Linear.{zero-add-code, dot_code, dot_comm, dot-plus, dot-scale, dot-zeros}
use Rattle.fx_laws.proofs.Codes.{length-points, points-at}
use Rattle.fx_laws.proofs.Shift.{place, place-below, point_of-place, all-points}
use Rattle.fx_judge.specs.Bases.{column}
use Rattle.fx_judge.specs.Rules.{is_over, gives, combination_for, basic_among}

-- a test that sums and multiples of what passes it pass
pub record IsClosed (q : ℕ) (test : List ℕ → Bool) : Type 0 where
  pub sums : (u w : List ℕ) (c : ℕ) → c < q → test u ≡ true → test w ≡ true → test (plus q u (scale q c w)) ≡ true

-- v is made of the differences: it passes each such test that they pass
pub record IsMade (q : ℕ) (differences : List (List ℕ)) (v : List ℕ) : Type 0 where
  pub passes : (test : List ℕ → Bool) → IsClosed q test → All (λ d. test d ≡ true) differences → test v ≡ true

-- the directions after the first i factors, and which of these are basic
pub record IsStage (q s : ℕ) (differences rows : List (List ℕ)) (basic : List Bool) (i : ℕ) : Type 0 where
  pub count : length rows ≡ s
  pub vectors : All (λ r. IsVector q s r) rows
  pub made : All (λ r. IsMade q differences r) rows
  pub basics : basic ≡ basic_among q s differences i
  pub marks : length basic ≡ i
  pub rules : (j : ℕ) → j < i → All (λ d. dot q (column j rows) d ≡ get_or d j 0) differences
  pub units : (j : ℕ) → j < i → get_or basic j false ≡ true → column j rows ≡ unit s j
  pub zero : (k : ℕ) → k < s → get_or basic k false ≡ false → get_or rows k [] ≡ zeros s

find_one : {X : Type 0} (p : X → Bool) (xs : List X) (u : X) → list_any p xs ≡ true → All (λ v. p v ≡ true → v ≡ u) xs
    → find p xs ≡ Some u
find_one p [] u e each = cc e
find_one p (x ∷ xs) u e each =
    elim (cases_Bool (p x)) [
      | inl t ↦ cc (cond-true (p x) (Some x) (find p xs) t, All-head (λ v. p v ≡ true → v ≡ u) x xs each t)
      | inr n ↦ cond-false _ (Some x) (find p xs) n ∙ find_one p xs u
          (cc) (All-tail (λ v. p v ≡ true → v ≡ u) x xs each)
    ]

find_none : {X : Type 0} (p : X → Bool) (xs : List X) → All (λ v. p v ≡ false) xs → find p xs ≡ None
find_none p [] each = refl
find_none p (x ∷ xs) each =
    cond-false (p x) (Some x) (find p xs) (All-head (λ v. p v ≡ false) x xs each) ∙ find_none p xs
    (All-tail (λ v. p v ≡ false) x xs each)

-- what is over some marks is zero outside them
over_zero : (marks : List Bool) (v : List ℕ) (k : ℕ) → is_over marks v ≡ true → get_or marks k false ≡ false
    → get_or v k 0 ≡ 0
over_zero marks [] k e m = refl
over_zero [] (c ∷ v) zero e m = eqb-true c 0 (and_parts _ _ e).0
over_zero [] (c ∷ v) (suc k) e m = over_zero [] v k (and_parts _ _ e).1 refl
over_zero (true ∷ marks) (c ∷ v) zero e m = cc m
over_zero (true ∷ marks) (c ∷ v) (suc k) e m = over_zero marks v k e m
over_zero (false ∷ marks) (c ∷ v) zero e m = eqb-true c 0 (and_parts _ _ e).0
over_zero (false ∷ marks) (c ∷ v) (suc k) e m = over_zero marks v k (and_parts _ _ e).1 m

over_from : (marks : List Bool) (v : List ℕ)
    → ((k : ℕ) → k < length v → get_or marks k false ≡ false → get_or v k 0 ≡ 0) → is_over marks v ≡ true
over_from marks [] h = refl
over_from [] (c ∷ v) h =
    and_from _ _ (eq-eqb c 0 (h 0 (omega arith) refl)) (over_from [] v (λ k l m. h (suc k) (omega arith) refl))
over_from (true ∷ marks) (c ∷ v) h = over_from marks v (λ k l m. h (suc k) (omega arith) m)
over_from (false ∷ marks) (c ∷ v) h =
    and_from _ _ (eq-eqb c 0 (h 0 (omega arith) refl)) (over_from marks v (λ k l m. h (suc k) (omega arith) m))

module _ (q : ℕ) (f : IsField q) where
  pub dot_unit : (s k : ℕ) (v : List ℕ) → IsVector q s v → k < s → dot q v (unit s k) ≡ get_or v k 0
  dot_unit zero k v h low = absurd (omega arith)
  dot_unit (suc s) k [] h low = absurd (let e = h.len in omega arith)
  dot_unit (suc s) zero (a ∷ v) h low =
      rw (f.mul_one a h.codes.0, dot_comm q f v (zeros s), dot-zeros q f s v) (f.add_zero a h.codes.0)
  dot_unit (suc s) (suc k) (a ∷ v) h low =
      cc (
        f.mul_zero a,
        zero-add-code q f _ (dot_code q f v (unit s k)),
        dot_unit s k v (record { len = (let e = h.len in omega arith); codes = h.codes.1 }) (omega arith),
      )

  pub dot_sum : (a u w : List ℕ) (c : ℕ) → dot q a (plus q u (scale q c w)) ≡ add q (dot q a u) (mul q c (dot q a w))
  dot_sum a u w c =
      cc (
        dot_comm q f a (plus q u (scale q c w)),
        dot-plus q f u (scale q c w) a,
        dot-scale q f c w a,
        dot_comm q f u a,
        dot_comm q f w a,
      )

  -- whether two vectors have the same product
  pub same_closed : (a b : List ℕ) → IsClosed q (λ x. eqb (dot q a x) (dot q b x))
  same_closed a b = record {
    sums = λ u w c h p r. eq-eqb _ _
        (cc (dot_sum a u w c, eqb-true _ _ p, eqb-true _ _ r, dot_sum b u w c));
  }

  -- v.w is v.x where w and x agree wherever v is not zero
  pub dot_where : (v w x : List ℕ) → length w ≡ length x
      → ((j : ℕ) → j < length v → (get_or v j 0 ≡ 0) ⊎ (get_or w j 0 ≡ get_or x j 0)) → dot q v w ≡ dot q v x
  dot_where [] w x len h = refl
  dot_where (a ∷ v) [] [] len h = refl
  dot_where (a ∷ v) [] (y ∷ x) len h = absurd (omega arith)
  dot_where (a ∷ v) (b ∷ w) [] len h = absurd (omega arith)
  dot_where (a ∷ v) (b ∷ w) (y ∷ x) len h =
      let heads : mul q a b ≡ mul q a y = elim (h 0 (omega arith)) [
        | inl z ↦ cc (f.mul_comm 0 b, f.mul_zero b, f.mul_comm 0 y, f.mul_zero y)
        | inr e ↦ cc
      ] in
      cc (dot_where v w x (omega arith) (λ j l. h (suc j) (omega arith)))

  unit_turned : (s j k : ℕ) → j < s → k < s → get_or (unit s j) k 0 ≡ get_or (unit s k) j 0
  unit_turned s j k hj hk =
      cc (
        dot_unit s k _ (unit-vector q s j f) hk,
        dot_comm q f (unit s j) (unit s k),
        dot_unit s j
            _ (unit-vector q s k f) hj,
      )

  module _ (s : ℕ) (differences rows : List (List ℕ)) (basic : List Bool) (i : ℕ)
      (hd : All (λ d. IsVector q s d) differences) (stage : IsStage q s differences rows basic i) where
    -- the direction of factor k
    abbrev direction : ℕ → List ℕ
    direction k = get_or rows k []

    pub direction_vector : (k : ℕ) → k < s → IsVector q s (direction k)
    direction_vector k low = All-get_or (λ r. IsVector q s r) rows k [] (omega arith) stage.vectors

    pub column_at : (j k : ℕ) → k < s → get_or (column j rows) k 0 ≡ get_or (direction k) j 0
    column_at j k low = get_or-map (λ r. get_or r j 0) rows k [] 0 (omega arith)

    pub column_len : (j : ℕ) → length (column j rows) ≡ s
    column_len j = cc (length-map rows (λ r. get_or r j 0))

    code_at : (j k : ℕ) → j < s → k < s → get_or (direction k) j 0 < q
    code_at j k hj hk =
        let h = direction_vector k hk in
        All-get_or (λ c. c < q) _ j 0 (omega arith)
        (All-from_recursion _ _ h.codes)

    pub column_vector : (j : ℕ) → j < s → IsVector q s (column j rows)
    column_vector j hj = record {
      len = column_len j;
      codes = recursion_from_All (λ c. c < q) _ (All-from_get_or (λ c. c < q) (column j rows) 0
          (λ k low. let hk : k < s = omega (arith, column_len j) in
          rw (column_at j k hk) (code_at j k hj hk)));
    }

    -- a marked factor is one of the first i
    pub marked : (k : ℕ) → get_or basic k false ≡ true → k < i
    marked k e = elim (cases_lt k i) [
      | inl low ↦ low
      | inr past ↦ absurd (both_ways _ (get_or_past basic k false (omega arith)) e)
    ]

    pub off_basics : (j k : ℕ) → j < s → k < s → get_or basic k false ≡ false → get_or (column j rows) k 0 ≡ 0
    off_basics j k hj hk m =
        column_at j k hk ∙ ap (λ r. get_or r j 0) (stage.zero k hk m) ∙ get_or-replicate s j 0 0 hj

    pub column_over : (j : ℕ) → j < s → is_over basic (column j rows) ≡ true
    column_over j hj = over_from basic _ (λ k low m. off_basics j k hj (omega (arith, column_len j)) m)

    module _ (low : i < s) where
      -- no other combination of basic factors gives the code of factor i
      unique : (v : List ℕ) → IsVector q s v → is_over basic v ≡ true → gives q differences i v ≡ true
          → v ≡ column i rows
      unique v hv over given =
          ext_get_or 0 v (column i rows) (cc (column_len i)) (λ k short. at k (omega arith))
        where
          all_pass : All (λ d. eqb (dot q v d) (dot q (unit s i) d) ≡ true) differences
          all_pass = All-from_get_or (λ d. eqb (dot q v d) (dot q (unit s i) d) ≡ true) differences [] (λ n h.
              let d = get_or differences n [] in
              let is = eqb-true _ _
              (All-get_or (λ d. eqb (dot q v d) (get_or d i 0) ≡ true) differences n [] h
              (AllPass-from_list_all _ differences given)) in
              eq-eqb _ _
              (is ∙ sym (dot_unit s i d (All-get_or (λ d. IsVector q s d) differences n [] h hd) low) ∙ dot_comm q f d
              (unit s i)))

          on_direction : (k : ℕ) → k < s → dot q v (direction k) ≡ get_or (direction k) i 0
          on_direction k hk =
              eqb-true _ _
              ((All-get_or (λ r. IsMade q differences r) rows k [] (omega arith) stage.made).passes
              (λ x. eqb (dot q v x) (dot q (unit s i) x)) (same_closed v (unit s i)) all_pass)
              ∙ dot_comm q f (unit s i) (direction k) ∙ dot_unit s i _ (direction_vector k hk) low

          entry : (k : ℕ) → k < s → get_or basic k false ≡ true → dot q v (direction k) ≡ get_or v k 0
          entry k hk m =
              dot_where v _ _ ((direction_vector k hk).len ∙ sym (unit-vector q s k f).len)
              (λ j short. elim (cases_Bool (get_or basic j false)) [
                | inl t ↦
                    inr (cc (column_at j k hk, stage.units j (marked j t) t, unit_turned s j k (omega arith) hk))
                | inr n ↦ inl (over_zero basic v j over n)
              ])
              ∙ dot_unit s k v hv hk

          at : (k : ℕ) → k < s → get_or v k 0 ≡ get_or (column i rows) k 0
          at k hk = elim (cases_Bool (get_or basic k false)) [
            | inl t ↦ cc (entry k hk t, on_direction k hk, column_at i k hk)
            | inr n ↦ cc (over_zero basic v k over n, off_basics i k low hk n)
          ]

      abbrev test : List ℕ → Bool
      test u = is_over basic u && gives q differences i u

      -- column i is the combination, where there is one
      pub found : gives q differences i (column i rows) ≡ true
          → combination_for q s differences basic i ≡ Some (column i rows)
      unfolding combination_for
      found e =
          let u = column i rows in
          let hu = column_vector i low in
          let some : 0 < q = omega arith in
          let below = place-below q s u hu in
          let there : get_or (points q s) (place q u) [] ≡ u =
          points-at q s (place q u) some below ∙ point_of-place q s u hu in
          find_one test (points q s) u
          (list_any_at test (points q s) (place q u) [] (omega (arith, length-points q s))
          (rw there (and_from _ _ (column_over i low) e)))
          (all-points q s some (λ v. test v ≡ true → v ≡ u)
          (λ v hv t. let parts = and_parts _ _ t in
          unique v hv parts.0 parts.1))

      pub missing : gives q differences i (column i rows) ≡ false → combination_for q s differences basic i ≡ None
      unfolding combination_for
      missing e =
          find_none test _
          (all-points q s (omega arith) (λ v. test v ≡ false) (λ v hv. false_from_ne_true _ (λ t.
          let parts = and_parts _ _ t in
          both_ways _ e
          (rw (unique v hv parts.0 parts.1) at parts.1))))
