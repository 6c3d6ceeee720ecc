-- A plan is regular exactly where each combination of codes at the basic factors comes equally often.
use Rattle.std.proofs.Common.{ℕ, zero, suc, ◌≡◌, ◌<◌, ◌≤◌, ◌+◌, ◌^◌, Bool, true, false, cond, ◌&&◌, eqb, List, []}
use Rattle.std.proofs.Common.{◌∷◌, length, get_or, refl, sym, ◌∙◌, ap, arith, inl, inr}
use Rattle.std.specs.Prelude.{count_by}
use Rattle.std.specs.List.{All, AllByRecursion, list_all, list_any}
use Rattle.std.proofs.lemmas.Bool.{cases_Bool, eq-eqb, eqb-true, and_parts, and_from}
use Rattle.std.proofs.lemmas.List.{ext_get_or, get_or_read}
use Rattle.std.proofs.lemmas.List.Sums.{sum_by-cons, AllPass-from_list_all, list_all-from_AllPass}
use Rattle.std.proofs.lemmas.List.Folds.{list_any_at, Any-from_list_any}
use Rattle.std.proofs.lemmas.List.Elements.{All-get_or, All-from_get_or, All-head, All-tail, recursion_from_All}
use Rattle.fx_designs.specs.Galois.{IsField, digits, codes_of}
use Rattle.fx_designs.specs.Vectors.{IsVector, dot, plus, same, scale, zeros, combination}
use Rattle.fx_laws.specs.Changes.{unit}
use Rattle.fx_laws.proofs.Codes.{digits-number, number-digits, number-below, digits-vector}
use Rattle.fx_laws.proofs.Linear.{dot_comm, dot-levels}
use Rattle.fx_laws.proofs.Space.{plus-vector, scale-vector, combination-vector}
use Rattle.fx_laws.proofs.Tests.{bool_same, range_decides}
use Rattle.fx_judge.specs.Bases.{AreEven, at, column, basic_key, rank}
use Rattle.fx_judge.specs.Regular.{are_closed, are_even, is_one_of}
use Rattle.fx_judge.proofs.Kinships.{counted_once}
use Rattle.fx_judge.proofs.Pigeons.{enough}
use Rattle.fx_judge.proofs.Bases.{IsClosed, IsMade, IsStage, dot_unit, dot_where, same_closed, off_basics, marked}
use Rattle.fx_judge.proofs.Bases.{column_len}
use Rattle.fx_judge.proofs.Growing.{made_combination, made_item, made_sum, levels_unit}
use Rattle.fx_laws.proofs.Weights.{same-true, same-self}

-- codes at the marked places, and zeros between
abbrev pub spread : List Bool → List ℕ → List ℕ
spread [] t = []
spread (false ∷ marks) t = 0 ∷ spread marks t
spread (true ∷ marks) [] = 0 ∷ spread marks []
spread (true ∷ marks) (c ∷ t) = c ∷ spread marks t

shorter : (q n c : ℕ) (v : List ℕ) → IsVector q (suc n) (c ∷ v) → IsVector q n v
shorter q n c v h = record { len = (let e = h.len in omega arith); codes = h.codes.1 }

pub at_vector : (q : ℕ) (marks : List Bool) (v : List ℕ) → IsVector q (length marks) v
    → IsVector q (rank marks) (at marks v)
at_vector q [] v h = record { len = refl; codes = tt }
at_vector q (m ∷ marks) [] h = absurd (let e = h.len in omega arith)
at_vector q (true ∷ marks) (c ∷ v) h =
    let r = at_vector q marks v (shorter q _ c v h) in
    record { len = (let e = r.len in omega arith); codes = (h.codes.0, r.codes) }
at_vector q (false ∷ marks) (c ∷ v) h = at_vector q marks v (shorter q _ c v h)

pub spread_vector : (q : ℕ) (marks : List Bool) (t : List ℕ) → 0 < q → AllByRecursion (λ c. c < q) t
    → IsVector q (length marks) (spread marks t)
spread_vector q [] t some h = record { len = refl; codes = tt }
spread_vector q (false ∷ marks) t some h = let r = spread_vector q marks t some h in
    record { len = (let e = r.len in omega arith); codes = (some, r.codes) }
spread_vector q (true ∷ marks) [] some h = let r = spread_vector q marks [] some tt in
    record { len = (let e = r.len in omega arith); codes = (some, r.codes) }
spread_vector q (true ∷ marks) (c ∷ t) some h = let r = spread_vector q marks t some h.1 in
    record { len = (let e = r.len in omega arith); codes = (h.0, r.codes) }

pub at_spread : (marks : List Bool) (t : List ℕ) → length t ≡ rank marks → at marks (spread marks t) ≡ t
at_spread [] [] h = refl
at_spread [] (c ∷ t) h = absurd (omega arith)
at_spread (true ∷ marks) [] h = absurd (omega arith)
at_spread (true ∷ marks) (c ∷ t) h = cc (at_spread marks t (omega arith))
at_spread (false ∷ marks) t h = at_spread marks t h

at_same : (marks : List Bool) (v w : List ℕ) → length v ≡ length marks → length w ≡ length marks
    → ((k : ℕ) → get_or marks k false ≡ true → get_or v k 0 ≡ get_or w k 0) → at marks v ≡ at marks w
at_same [] v w hv hw h = refl
at_same (m ∷ marks) [] w hv hw h = absurd (omega arith)
at_same (m ∷ marks) (c ∷ v) [] hv hw h = absurd (omega arith)
at_same (true ∷ marks) (c ∷ v) (d ∷ w) hv hw h =
    cc (h 0 refl, at_same marks v w (omega arith) (omega arith) (λ k e. h (suc k) e))
at_same (false ∷ marks) (c ∷ v) (d ∷ w) hv hw h = at_same marks v w (omega arith) (omega arith) (λ k e. h (suc k) e)

at_apart : (marks : List Bool) (v w : List ℕ) → length v ≡ length marks → length w ≡ length marks
    → at marks v ≡ at marks w
    → (k : ℕ) → get_or marks k false ≡ true → get_or v k 0 ≡ get_or w k 0
at_apart [] v w hv hw e k m = cc m
at_apart (b ∷ marks) [] w hv hw e k m = absurd (omega arith)
at_apart (b ∷ marks) (c ∷ v) [] hv hw e k m = absurd (omega arith)
at_apart (true ∷ marks) (c ∷ v) (d ∷ w) hv hw e zero m = cc
at_apart (true ∷ marks) (c ∷ v) (d ∷ w) hv hw e (suc k) m =
    at_apart marks v w (omega arith) (omega arith) (cc) k m
at_apart (false ∷ marks) (c ∷ v) (d ∷ w) hv hw e zero m = cc m
at_apart (false ∷ marks) (c ∷ v) (d ∷ w) hv hw e (suc k) m = at_apart marks v w (omega arith) (omega arith) e k m

pub count_agree : (p r : List ℕ → Bool) (xs : List (List ℕ)) → All (λ x. p x ≡ r x) xs → count_by p xs ≡ count_by r xs
count_agree p r [] h = refl
count_agree p r (x ∷ xs) h =
    cc (
      sum_by-cons (λ x. cond (p x) 1 0) x xs,
      All-head (λ x. p x ≡ r x) x xs h,
      count_agree p r xs (All-tail (λ x. p x ≡ r x) x xs h),
      sum_by-cons (λ x. cond (r x) 1 0) x xs,
    )

pub counted_some : (p : List ℕ → Bool) (xs : List (List ℕ)) → 1 ≤ count_by p xs → list_any p xs ≡ true
counted_some p [] h = absurd (omega arith)
counted_some p (x ∷ xs) h = elim (cases_Bool (p x)) [
  | inl t ↦ cc
  | inr n ↦
      let rest : count_by p (x ∷ xs) ≡ count_by p xs =
      sum_by-cons (λ x. cond (p x) 1 0) x xs ∙ ap (λ b. cond b 1 0 + count_by p xs) n ∙ omega arith in
      cc (counted_some p xs (omega arith))
]

-- the place of a vector that is among others
place_in : (D : List (List ℕ)) (x : List ℕ) → is_one_of D x ≡ true → (k : ℕ) × (k < length D) × (get_or D k [] ≡ x)
place_in D x e =
    let any = Any-from_list_any _ D e in
    let is = same-true x any.1 any.4 in
    (any.0, any.2, cc (get_or_read D any.0 any.1 any.2 (cc) []))

in_place : (D : List (List ℕ)) (k : ℕ) (x : List ℕ) → k < length D → get_or D k [] ≡ x → is_one_of D x ≡ true
in_place D k x h e = list_any_at _ D k [] h (rw e (same-self x))

module _ (q : ℕ) (f : IsField q) (s : ℕ) (D rows : List (List ℕ)) (basic : List Bool) (hd : All (λ d. IsVector q s d) D)
    (stage : IsStage q s D rows basic s) (made_zeros : IsMade q D (zeros s)) (some : 0 < length D) where
  abbrev pub counted : ℕ → ℕ
  counted z = count_by (λ d. eqb (basic_key q basic d) z) D

  pub wide : (v : List ℕ) → IsVector q s v → IsVector q (length basic) v
  wide v h = rw stage.marks h

  pub item_vector : (k : ℕ) → k < length D → IsVector q s (get_or D k [])
  item_vector k h = All-get_or (λ d. IsVector q s d) D k [] h hd

  pub key_low : (v : List ℕ) → IsVector q s v → basic_key q basic v < q ^ rank basic
  key_low v h = number-below q _ _ (at_vector q basic v (wide v h))

  key_apart : (v w : List ℕ) → IsVector q s v → IsVector q s w → basic_key q basic v ≡ basic_key q basic w
      → at basic v ≡ at basic w
  key_apart v w hv hw e =
      cc (
        digits-number q _ _ (at_vector q basic v (wide v hv)),
        digits-number q _ _ (at_vector q basic w (wide w hw)),
      )

  -- what is made of the differences follows the rules
  follows : (x : List ℕ) → IsVector q s x → IsMade q D x → (j : ℕ) → j < s → dot q (column j rows) x ≡ get_or x j 0
  follows x hx m j hj =
      eqb-true _ _
      (m.passes (λ y. eqb (dot q (column j rows) y) (dot q (unit s j) y)) (same_closed q f (column j rows) (unit s j))
      (All-from_get_or (λ y. eqb (dot q (column j rows) y) (dot q (unit s j) y) ≡ true) D [] (λ k h.
      let d = get_or D k [] in
      eq-eqb _ _ (All-get_or (λ d. dot q (column j rows) d ≡ get_or d j 0) D k [] h (stage.rules j hj)
      ∙ sym (dot_unit q f s j d (item_vector k h) hj) ∙ dot_comm q f d (unit s j)))))
      ∙ dot_comm q f (unit s j) x ∙ dot_unit q f s j x hx hj

  -- and its codes at the basic factors determine it
  pub determined : (x y : List ℕ) → IsVector q s x → IsVector q s y → IsMade q D x → IsMade q D y
      → basic_key q basic x ≡ basic_key q basic y → x ≡ y
  determined x y hx hy mx my e = ext_get_or 0 x y (cc) (λ j short. entry j (omega arith))
    where
      entry : (j : ℕ) → j < s → get_or x j 0 ≡ get_or y j 0
      entry j hj =
          cc (
            follows x hx mx j hj,
            dot_where q f (column j rows) x y (cc)
                (λ k short. elim (cases_Bool (get_or basic k false)) [
                  | inl t ↦ inr (at_apart basic x y (wide x hx).len (wide y hy).len (key_apart x y hx hy e) k t)
                  | inr n ↦ inl
                      (off_basics q f s D rows basic s hd stage j k hj
                      (omega (arith, column_len q f s D rows basic s hd stage j)) n)
                ]),
            follows y hy my j hj,
          )

  -- the vector with these codes at the basic factors
  abbrev pub point : ℕ → List ℕ
  point z = spread basic (digits q (rank basic) z)

  abbrev pub made_of : ℕ → List ℕ
  made_of z = combination q s (point z) rows

  positive : 0 < q
  positive = omega arith

  point_vector : (z : ℕ) → IsVector q s (point z)
  point_vector z =
      rw stage.marks at (spread_vector q basic _ positive
      (digits-vector q (rank basic) z positive).codes)

  pub made_vector : (z : ℕ) → IsVector q s (made_of z)
  made_vector z = combination-vector q s f _ rows (recursion_from_All _ rows stage.vectors)

  pub made_made : (z : ℕ) → IsMade q D (made_of z)
  made_made z = made_combination q f s D rows _ made_zeros (point_vector z).codes stage.made

  pub made_key : (z : ℕ) → z < q ^ rank basic → basic_key q basic (made_of z) ≡ z
  made_key z low =
      cc (
        at_same basic _ _ (wide _ (made_vector z)).len
            (wide _ (point_vector z)).len
            (λ k t. let hk = marked q f s D rows basic s hd stage k
            t in sym (dot_unit q f s k _ (made_vector z) hk)
            ∙ sym (dot-levels q f s (point z) rows (unit s k))
            ∙ ap (dot q (point z)) (levels_unit q f s k rows stage.vectors hk ∙ stage.units k hk t)
            ∙ dot_unit q f s k _ (point_vector z) hk),
        at_spread basic _ (digits-vector q (rank basic) z positive).len,
        number-digits q _ z positive low,
      )

  -- as often as its key
  as_key : (x : List ℕ) → IsVector q s x → IsMade q D x → counted (basic_key q basic x) ≡ count_by (same x) D
  as_key x hx mx =
      count_agree (λ d. eqb (basic_key q basic d) (basic_key q basic x)) _ D
      (All-from_get_or (λ d. eqb (basic_key q basic d) (basic_key q basic x) ≡ same x d) D [] (λ k h.
      let d = get_or D k [] in
      bool_same _ _
      (λ t. rw (determined d x (item_vector k h) hx (made_item q f D k h) mx (eqb-true _ _ t)) (same-self x))
      (λ t. eq-eqb _ _ (ap (basic_key q basic) (sym (same-true x d t))))))

  closed_test : are_closed q D ≡ true → IsClosed q (is_one_of D)
  unfolding are_closed
  closed_test e = record {
    sums = λ u w c h tu tw.
        let a = place_in D u tu in
        let b = place_in D w tw in
        let inner : List ℕ → List ℕ → ℕ → Bool = λ u v c. is_one_of D (plus q u (scale q c v)) in
        let first =
        All-get_or (λ u. list_all (λ v. list_all (inner u v) (codes_of q)) D ≡ true) D a.0 [] a.1
        (AllPass-from_list_all _ D e) in
        let second =
        All-get_or (λ v. list_all (inner (get_or D a.0 []) v) (codes_of q) ≡ true) D b.0 [] b.1
        (AllPass-from_list_all _ D first) in
        let third = (range_decides (inner (get_or D a.0 []) (get_or D b.0 [])) q).0 second c h in
        rw b.2 at (rw a.2 at third);
  }

  all_among : All (λ d. is_one_of D d ≡ true) D
  all_among = All-from_get_or (λ d. is_one_of D d ≡ true) D [] (λ k h. in_place D k _ h refl)

  even_at : are_even D ≡ true → (k n : ℕ) → k < length D → n < length D
      → count_by (same (get_or D k [])) D ≡ count_by (same (get_or D n [])) D
  unfolding are_even
  even_at e k n hk hn =
      let first =
      All-get_or (λ u. list_all (λ v. eqb (count_by (same u) D) (count_by (same v) D)) D ≡ true) D k [] hk
      (AllPass-from_list_all _ D e) in
      eqb-true _ _
      (All-get_or (λ v. eqb (count_by (same (get_or D k [])) D) (count_by (same v) D) ≡ true) D n [] hn
      (AllPass-from_list_all _ D first))

  pub even_if_regular : (are_closed q D && are_even D) ≡ true → AreEven q basic D
  even_if_regular e = record { each = λ z low. cc (as_often z low, as_often 0 (omega arith)) }
    where
      as_often : (z : ℕ) → z < q ^ rank basic → counted z ≡ count_by (same (get_or D 0 [])) D
      as_often z low =
          let parts = and_parts _ _ e in
          let here = place_in D (made_of z) ((made_made z).passes (is_one_of D) (closed_test parts.0) all_among) in
          cc (
            made_key z low,
            as_key _ (made_vector z) (made_made z),
            here.2,
            even_at parts.1 here.0 0 here.1 some,
          )

  pub regular_if_even : AreEven q basic D → (are_closed q D && are_even D) ≡ true
  unfolding are_closed are_even
  regular_if_even h = and_from _ _
      (list_all-from_AllPass (λ u. list_all (λ v. list_all (λ c. is_one_of D (plus q u (scale q c v))) (codes_of q)) D)
      D
      (All-from_get_or (λ u. list_all (λ v. list_all (λ c. is_one_of D (plus q u (scale q c v))) (codes_of q)) D ≡ true)
      D [] (λ k hk.
      list_all-from_AllPass (λ v. list_all (λ c. is_one_of D (plus q (get_or D k []) (scale q c v))) (codes_of q)) D
      (All-from_get_or (λ v. list_all (λ c. is_one_of D (plus q (get_or D k []) (scale q c v))) (codes_of q) ≡ true) D
      [] (λ n hn.
      (range_decides (λ c. is_one_of D (plus q (get_or D k []) (scale q c (get_or D n [])))) q).1
      (λ c hc. sum_there k n c hk hn hc))))))
      (list_all-from_AllPass (λ u. list_all (λ v. eqb (count_by (same u) D) (count_by (same v) D)) D) D
      (All-from_get_or (λ u. list_all (λ v. eqb (count_by (same u) D) (count_by (same v) D)) D ≡ true) D [] (λ k hk.
      list_all-from_AllPass (λ v. eqb (count_by (same (get_or D k [])) D) (count_by (same v) D)) D
      (All-from_get_or (λ v. eqb (count_by (same (get_or D k [])) D) (count_by (same v) D) ≡ true) D [] (λ n hn.
      eq-eqb _ _
      (cc (
        as_key _ (item_vector k hk) (made_item q f D k hk),
        level k hk,
        level n hn,
        as_key _ (item_vector n hn) (made_item q f D n hn),
      )))))))
    where
      level : (k : ℕ) → (hk : k < length D) → counted (basic_key q basic (get_or D k [])) ≡ counted 0
      level k hk = h.each (basic_key q basic (get_or D k [])) (key_low _ (item_vector k hk))

      sum_there : (k n c : ℕ) → k < length D → n < length D → c < q
          → is_one_of D (plus q (get_or D k []) (scale q c (get_or D n []))) ≡ true
      sum_there k n c hk hn hc =
          let u = get_or D k [] in
          let v = get_or D n [] in
          let x = plus q u (scale q c v) in
          let hx =
          plus-vector q s f u _ (item_vector k hk) (scale-vector q s f c v (item_vector n hn)) in
          let mx = made_sum q f D u v c hc (made_item q f D k hk) (made_item q f D n hn) in
          let here =
          counted_once (λ d. eqb (basic_key q basic d) (basic_key q basic u)) D k [] hk (eq-eqb _ _ refl) in
          let there : 1 ≤ counted (basic_key q basic x) =
          omega (arith, level k hk, h.each (basic_key q basic x) (key_low x hx)) in
          let any = Any-from_list_any _ D
          (counted_some _ D there) in
          let read = get_or_read D any.0 any.1 any.2 (cc) [] in
          in_place D any.0 x any.2
          (determined _ x (item_vector any.0 any.2) hx (made_item q f D any.0 any.2) mx
          (cc (eqb-true _ _ any.4)))

  -- there are at least as many rows as combinations of codes
  pub combinations_fit : AreEven q basic D → q ^ rank basic ≤ length D
  combinations_fit h =
      let first = get_or D 0 [] in
      let here =
      counted_once (λ d. eqb (basic_key q basic d) (basic_key q basic first)) D 0 [] some (eq-eqb _ _ refl) in
      let level = h.each (basic_key q basic first) (key_low first (item_vector 0 some)) in
      enough (basic_key q basic) _ D
      (All-from_get_or (λ d. basic_key q basic d < q ^ rank basic) D []
      (λ k hk. key_low _ (item_vector k hk)))
      (λ z low. omega (arith, h.each z low))
