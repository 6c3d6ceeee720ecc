-- The rows of a stage that a prefix lacks.
use Rattle.std.proofs.Common.{ℕ, ◌≡◌, ◌<◌, ◌≤◌, ◌+◌, ◌-◌, ◌^◌, zero, suc, cond, eqb, List, [], ◌∷◌, ◌++◌, length}
use Rattle.std.proofs.Common.{slice_index, refl, subst, ◌∙◌, ap, arith, inl, inr, eq-eqb, append_assoc}
use Rattle.std.proofs.Common.{length-append}
use Rattle.std.specs.List.{filter, range_with_len}
use Rattle.std.proofs.Math.Seq.{get_or-append_seam}
use Rattle.std.proofs.lemmas.Bool.{cases_Bool, cases_eq, cond-true, cond-false, ne_eqb}
use Rattle.std.proofs.lemmas.List.{length-map}
use Rattle.std.proofs.lemmas.List.FromFn.{length-range_with_len}
use Rattle.fx_designs.specs.Problems.{Dimensions}
use Rattle.fx_designs.specs.Answers.{falling}
use Rattle.fx_designs.specs.Nodes.{last_row}
use Rattle.fx_strata.specs.Designs.{Strata}
use Rattle.fx_strata.specs.Canonical.{dimensions_of, units, is_later, AreLater, IsStage}
use Rattle.fx_strata.specs.Stages.{Stage, stage_after, bound, missing}

-- two ways to part a list
pub split : {X : Type 0} (xs ys us vs : List X) → xs ++ ys ≡ us ++ vs → length us ≤ length xs
    → (ms : List X) × (xs ≡ us ++ ms) × (vs ≡ ms ++ ys)
split xs ys [] vs e h = (xs, refl, cc)
split [] ys (u ∷ us) vs e h = absurd (omega arith)
split (x ∷ xs) ys (u ∷ us) vs e h =
    let head : x ≡ u = cc e in
    let r = split xs ys us vs (cc e) (omega arith) in
    (r.0, cc, r.2)

module _ (d : Dimensions) (from : ℕ) where
  -- behind some rows that fall come others below the last of them
  later-after : (b : ℕ) (us done xs : List ℕ) (r : ℕ) → AreLater d from b ((r ∷ done) ++ xs)
      → AreLater d from (last_row (us ++ r ∷ done)) xs
  later-after b us [] xs r h =
      let long : length (us ++ r ∷ []) - 1 ≡ length us + 0 = (omega (arith, length-append us (r ∷ []))) in
      rw (ap (slice_index (us ++ r ∷ [])) (let e : length us + 0 ≡ length us = omega arith in long ∙ e)
      ∙ get_or-append_seam us r [] 0) h.2
  later-after b us (r' ∷ done) xs r h =
      rw (append_assoc us (r ∷ []) (r' ∷ done)) at (later-after r (us ++ r ∷ []) done xs r' h.2)

  -- they are no more than all that may come
  pub fits : (n : ℕ) (xs : List ℕ) → AreLater d from n xs
      → length xs ≤ length (filter (λ r. is_later d from r) (falling n))
  fits zero [] h = omega arith
  fits zero (x ∷ xs) h = absurd (let e = h.1 in omega arith)
  fits (suc n) [] h = omega arith
  fits (suc n) (x ∷ xs) h =
      let rest = filter (is_later d from) (falling n) in
      elim (cases_eq x n) [
        | inl e ↦
            rw (cond-true _ (n ∷ rest) rest (rw e at h.0)) (omega (arith, fits n xs (rw e at h.2)))
        | inr ne ↦
            let low : x < n = (let e = h.1 in omega arith) in
            let less = fits n (x ∷ xs) (h.0, low, h.2) in
            elim (cases_Bool (is_later d from n)) [
              | inl t ↦ rw (cond-true _ (n ∷ rest) rest t) (omega arith)
              | inr o ↦ rw (cond-false _ (n ∷ rest) rest o) (omega arith)
            ]
      ]

-- the rows of its stage that a prefix lacks, and the rows behind
pub record Rest (x : Strata) (c s : List ℕ) : Type 0 where
  pub rows : List ℕ
  pub behind : List ℕ
  pub is : s ≡ rows ++ behind
  pub later : AreLater (dimensions_of x) (stage_after x c).first_unit (bound x c) rows
  pub len : length rows ≡ missing x c

module _ (x : Strata) where
  abbrev d : Dimensions
  d = dimensions_of x

  -- in one stage of a design
  pub in-stage : (st : Stage) (pre rows post c s : List ℕ) → length pre ≡ st.begin → c ++ s ≡ pre ++ (rows ++ post)
      → IsStage d st.first_unit st.units rows → st.begin + st.units ≤ length c → length c ≤ st.begin + length rows
      → (xs : List ℕ) × (behind : List ℕ) × (s ≡ xs ++ behind)
      × AreLater d st.first_unit
      (cond (eqb (length c) (st.begin + st.units)) (x.q ^ (st.first_unit + st.units)) (last_row c)) xs
      × (length xs ≡ st.begin + length rows - length c)
  in-stage st pre rows post c s at is stage there few =
      let us = pre ++ units x.q st.first_unit st.units in
      let many =
      length-map (range_with_len st.first_unit st.units) (λ i. x.q ^ i)
      ∙ length-range_with_len st.first_unit st.units in
      let lu : length us ≡ st.begin + st.units =
      (omega (arith, length-append pre (units x.q st.first_unit st.units))) in
      let whole : c ++ s ≡ us ++ (stage.others ++ post) =
      cc (
        stage.is,
        append_assoc (units x.q st.first_unit st.units) stage.others post,
        append_assoc pre (units x.q st.first_unit st.units) (stage.others ++ post),
      ) in
      let one = split c s us _ whole (omega arith) in
      let done = one.0 in
      let lr : length rows ≡ st.units + length stage.others =
      cc (stage.is, length-append (units x.q st.first_unit st.units) stage.others) in
      let lc : length c ≡ st.begin + st.units + length done =
      cc (one.1, length-append us done) in
      let two = split stage.others post done s one.2 (omega arith) in
      let xs = two.0 in
      let lo : length stage.others ≡ length done + length xs =
      cc (two.1, length-append done xs) in
      let falls : AreLater d st.first_unit (x.q ^ (st.first_unit + st.units)) (done ++ xs) =
      subst (AreLater d st.first_unit (x.q ^ (st.first_unit + st.units))) two.1 stage.later in (
        xs,
        post,
        two.2,
        below st us done xs c one.1 lc falls,
        omega arith,
      )
    where
      below : (st : Stage) (us done xs c : List ℕ) → c ≡ us ++ done → length c ≡ st.begin + st.units + length done
          → AreLater d st.first_unit (x.q ^ (st.first_unit + st.units)) (done ++ xs)
          → AreLater d st.first_unit
          (cond (eqb (length c) (st.begin + st.units)) (x.q ^ (st.first_unit + st.units)) (last_row c)) xs
      below st us [] xs c e lc falls =
          rw (cond-true _ (x.q ^ (st.first_unit + st.units)) (last_row c)
          (eq-eqb (length c) (st.begin + st.units) (omega arith))) falls
      below st us (r ∷ done) xs c e lc falls =
          rw (cond-false _ (x.q ^ (st.first_unit + st.units)) (last_row c)
          (ne_eqb (length c) (st.begin + st.units) (λ k. omega arith)))
          (rw e (later-after d st.first_unit _ us done xs r falls))
