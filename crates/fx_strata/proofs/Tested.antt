-- Rows that follow one another are those of a canonical design.
use Rattle.std.proofs.Common.{ℕ, ◌≡◌, ◌<◌, ◌≤◌, ◌+◌, ◌-◌, ◌^◌, zero, suc, Bool, true, false, cond, eqb, ◌&&◌, ◌||◌}
use Rattle.std.proofs.Common.{List, [], ◌∷◌, ◌++◌, length, take, drop, slice_index, refl, sym, subst, ◌∙◌, ap, ap₂}
use Rattle.std.proofs.Common.{arith, inl, inr, ◌⊎◌, eqb-true, eq-eqb, append_assoc, append-nil, length-append}
use Rattle.std.specs.Prelude.{nat_le, nat_lt}
use Rattle.std.specs.List.{range_with_len}
use Rattle.std.proofs.Math.Seq.{get_or-append_seam, take-append_seam, drop-append_seam}
use Rattle.std.proofs.lemmas.Bool.{cond-true, cond-false, and_parts, or_cases, ne_eqb, lt-ltb, le-ltb, ltb-true}
use Rattle.std.proofs.lemmas.Bool.{false_from_ne_true}
use Rattle.std.proofs.lemmas.Bool.Decides.{nat_tests}
use Rattle.std.proofs.lemmas.List.{length-map}
use Rattle.std.proofs.lemmas.List.FromFn.{length-range_with_len}
use Rattle.fx_designs.specs.Problems.{Dimensions}
use Rattle.fx_designs.specs.Nodes.{last_row}
use Rattle.fx_strata.specs.Designs.{Strata}
use Rattle.fx_strata.specs.Canonical.{dimensions_of, units, words, is_later, AreLater, IsStage, IsLaid, IsDesign}
use Rattle.fx_strata.specs.Stages.{Stage, stage_at, stage_after, has_units, bound, may_follow, do_follow, is_proper}
use Rattle.fx_strata.specs.Stages.{is_design}
use Rattle.fx_strata.specs.Laws.{DesignsAreTested}

-- unit vectors one more
units-more : (q from k : ℕ) → units q from k ++ q ^ (from + k) ∷ [] ≡ units q from (suc k)
units-more q from zero = ap (λ n. q ^ n ∷ []) (let e : from + 0 ≡ from = omega arith in e)
units-more q from (suc k) =
    ap (λ l. q ^ from ∷ l)
    (ap (λ n. units q (from + 1) k ++ q ^ n ∷ []) (let e : from + suc k ≡ from + 1 + k = omega arith in e)
    ∙ units-more q (from + 1) k)

length-units : (q from len : ℕ) → length (units q from len) ≡ len
length-units q from len = length-map (range_with_len from len) (λ i. q ^ i) ∙ length-range_with_len from len

module _ (x : Strata) where
  abbrev d : Dimensions
  d = dimensions_of x

  -- places before one are in a stage
  abbrev IsIn : Stage → ℕ → ℕ → Type 0
  IsIn st from to = (k : ℕ) → from ≤ k → k < to → stage_at x k ≡ st

  -- the unit vectors of a stage come first
  module _ (st : Stage) (pre : List ℕ) (begins : length pre ≡ st.begin) (to : ℕ)
      (inside : IsIn st st.begin to) (fits : st.begin + st.units ≤ to) where
    at-unit : (k : ℕ) (r : ℕ) → k < st.units → may_follow x (pre ++ units x.q st.first_unit k) r ≡ true
        → r ≡ x.q ^ (st.first_unit + k)
    at-unit k r low h =
        let done = pre ++ units x.q st.first_unit k in
        let long : length done ≡ st.begin + k =
        cc (length-append pre (units x.q st.first_unit k), length-units x.q st.first_unit k) in
        let here = inside (length done) (omega arith) (omega arith) in
        let early : has_units x done ≡ false =
        rw here (false_from_ne_true _ (λ t. let e : st.begin + st.units ≤ length done = grind (arith, nat_tests, t) in
        omega arith)) in
        eqb-true _ _ (sym (cond-false _
        (is_later d (stage_after x done).first_unit r && nat_lt r (bound x done))
        (eqb r (x.q ^ ((stage_after x done).first_unit + (length done - (stage_after x done).begin)))) early) ∙ h)
        ∙ ap (λ z. x.q ^ (z.first_unit + (length done - z.begin))) here
        ∙ ap (λ n. x.q ^ (st.first_unit + n)) (let e : length done - st.begin ≡ k = omega arith in e)

    units-first : (j k : ℕ) (rows : List ℕ) → k + j ≡ st.units → j ≤ length rows
        → do_follow x (pre ++ units x.q st.first_unit k) rows ≡ true
        → (behind : List ℕ) × (rows ≡ units x.q (st.first_unit + k) j ++ behind)
        × (do_follow x (pre ++ units x.q st.first_unit st.units) behind ≡ true)
    units-first zero k rows e long h = (
      rows,
      refl,
      rw (let e' : k ≡ st.units = omega arith in e') at h,
    )
    units-first (suc j) k [] e long h = absurd (omega arith)
    units-first (suc j) k (r ∷ rows) e long h =
        let done = pre ++ units x.q st.first_unit k in
        let p = and_parts _ _ h in
        let is = at-unit k r (omega arith) p.0 in
        let next : done ++ r ∷ [] ≡ pre ++ units x.q st.first_unit (suc k) =
        cc (append_assoc pre (units x.q st.first_unit k) (r ∷ []), units-more x.q st.first_unit k) in
        let more = units-first j (suc k) rows (omega arith) (omega arith)
        (rw next at p.1) in (
          more.0,
          ap₂ (λ a l. a ∷ l) is
              (more.1 ∙ ap (λ n. units x.q n j ++ more.0)
              (let e' : st.first_unit + suc k ≡ st.first_unit + k + 1 = omega arith in e')),
          more.2,
        )

    -- the others fall
    others-next : (j : ℕ) (done rows : List ℕ) → length done + j ≡ to → st.begin + st.units ≤ length done
        → j ≤ length rows → do_follow x done rows ≡ true
        → (front : List ℕ) × (behind : List ℕ) × (rows ≡ front ++ behind) × (length front ≡ j)
        × AreLater d st.first_unit
        (cond (eqb (length done) (st.begin + st.units)) (x.q ^ (st.first_unit + st.units)) (last_row done)) front
        × (do_follow x (done ++ front) behind ≡ true)
    others-next zero done rows e past long h =
        ([], rows, refl, refl, tt, rw (append-nil done) h)
    others-next (suc j) done [] e past long h = absurd (omega arith)
    others-next (suc j) done (r ∷ rows) e past long h =
        let p = and_parts (may_follow x done r) (do_follow x (done ++ r ∷ []) rows) h in
        let here = inside (length done) (omega arith) (omega arith) in
        let low =
        sym (cond-true _
        (is_later d (stage_after x done).first_unit r && nat_lt r (bound x done))
        (eqb r (x.q ^ ((stage_after x done).first_unit + (length done - (stage_after x done).begin))))
        (rw here (grind (arith, nat_tests, past)))) ∙ p.0 in
        let q = and_parts (is_later d (stage_after x done).first_unit r) (nat_lt r (bound x done)) low in
        let size = length-append done (r ∷ []) in
        let more = others-next j (done ++ r ∷ []) rows (omega arith) (omega arith) (omega arith) p.1 in
        let last : last_row (done ++ r ∷ []) ≡ r =
        ap (slice_index (done ++ r ∷ [])) (let e' : length (done ++ r ∷ []) - 1 ≡ length done + 0 = omega arith in
        e' ∙ (let e2 : length done + 0 ≡ length done = omega arith in e2))
        ∙ get_or-append_seam done r [] 0 in
        let next =
        cond-false (eqb (length (done ++ r ∷ [])) (st.begin + st.units)) (x.q ^ (st.first_unit + st.units))
        (last_row (done ++ r ∷ [])) (ne_eqb _ _ (λ k. omega arith)) ∙ last in (
          r ∷ more.0,
          more.1,
          cc more.2,
          (let e' = more.3 in omega arith),
          (
            rw here at q.0,
            rw here at (ltb-true r (bound x done) q.1),
            rw next at more.4,
          ),
          rw (append_assoc done (r ∷ []) more.0) at more.5,
        )

    -- so a stage is made
    stage-made : (rows : List ℕ) → to - st.begin ≤ length rows → do_follow x pre rows ≡ true
        → (front : List ℕ) × (behind : List ℕ) × (rows ≡ front ++ behind) × (length front ≡ to - st.begin)
        × IsStage d st.first_unit st.units front × (do_follow x (pre ++ front) behind ≡ true)
    stage-made rows long h =
        let us = units x.q st.first_unit st.units in
        let one = units-first st.units 0 rows (omega arith) (omega arith)
        (rw (append-nil pre) h) in
        let one_is : rows ≡ us ++ one.0 =
        one.1 ∙ ap (λ n. units x.q n st.units ++ one.0) (let e : st.first_unit + 0 ≡ st.first_unit = omega arith in e)
        in
        let lu = length-units x.q st.first_unit st.units in
        let lp : length (pre ++ us) ≡ st.begin + st.units =
        cc (length-append pre us, begins, lu) in
        let lr : length rows ≡ st.units + length one.0 =
        cc (length-append us one.0) in
        let two = others-next (to - (st.begin + st.units)) (pre ++ us) one.0 (omega arith) (omega arith) (omega arith)
        one.2 in (
          us ++ two.0,
          two.1,
          cc (two.2, append_assoc us two.0 two.1),
          (let e' = two.3 in omega (arith, length-append us two.0)),
          record {
            others = two.0;
            is = refl;
            later = rw (cond-true (eqb (length (pre ++ us)) (st.begin + st.units)) (x.q ^ (st.first_unit + st.units))
                (last_row (pre ++ us)) (eq-eqb _ _ lp)) at two.4;
          },
          rw (append_assoc pre us two.0) at two.5,
        )

  -- the stages one after the other
  module _ (rows : List ℕ) (h : is_design x rows ≡ true) where
    abbrev rest : Bool
    rest = do_follow x [] rows && (eqb (words x rows false 1) 0 && eqb (words x rows false 2) 0)

    h1 : (is_proper x ≡ true) × ((eqb (length rows) (x.w + x.n) && rest) ≡ true)
    h1 = and_parts _ _ h

    h2 : (eqb (length rows) (x.w + x.n) ≡ true) × (rest ≡ true)
    h2 = and_parts _ rest h1.1

    h3 : (do_follow x [] rows ≡ true) × ((eqb (words x rows false 1) 0 && eqb (words x rows false 2) 0) ≡ true)
    h3 = and_parts _ _ h2.1

    h4 : (eqb (words x rows false 1) 0 ≡ true) × (eqb (words x rows false 2) 0 ≡ true)
    h4 = and_parts _ _ h3.1

    p1 : (nat_le x.h x.m ≡ true) × ((nat_le x.m (x.h + x.n) && (eqb x.w 0 || nat_le x.h x.w)) ≡ true)
    p1 = and_parts _ _ h1.0

    p2 : (nat_le x.m (x.h + x.n) ≡ true) × ((eqb x.w 0 || nat_le x.h x.w) ≡ true)
    p2 = and_parts _ _ p1.1

    base : x.h ≤ x.m
    base = (let t = p1.0 in grind (arith, nat_tests, t))

    many : x.m ≤ x.h + x.n
    many = (let t = p2.0 in grind (arith, nat_tests, t))

    len : length rows ≡ x.w + x.n
    len = eqb-true _ _ h2.0

    abbrev one : Stage
    one = record { first_unit = 0; units = x.h; begin = 0; end = x.w }

    abbrev two : Stage
    two = record { first_unit = x.h; units = x.m - x.h; begin = x.w; end = x.w + x.n }

    -- behind the inside factors
    second : (first behind : List ℕ) → rows ≡ first ++ behind → length first ≡ x.w → do_follow x first behind ≡ true
        → (x.w ≡ 0) ⊎ IsStage d 0 x.h first → IsLaid x rows
    second first behind is lf follow stage =
        let lb : length rows ≡ x.w + length behind =
        cc (length-append first behind) in
        let made = stage-made two first lf (x.w + x.n)
        (λ k low high. cond-false _ one two (le-ltb k x.w low)) (omega (arith, base, many))
        behind (omega (arith, len)) follow in
        let none = empty made.1
        (let e : length behind
        ≡ length made.0 + length made.1 = cc (made.2, length-append made.0 made.1) in let e' = made.3 in omega (
          arith,
          len,
        )) in
        let whole : behind ≡ made.0 = cc (made.2, append-nil made.0) in
        let front : take x.w rows ≡ first =
        cc (rw lf at (take-append_seam first behind)) in
        let back : drop x.w rows ≡ behind =
        cc (rw lf at (drop-append_seam first behind)) in
        record {
          base = base;
          len = len;
          first = elim stage [ inl e ↦ inl e | inr s ↦ inr (subst (IsStage d 0 x.h) (sym front) s) ];
          second = subst (IsStage d x.h (x.m - x.h)) (sym (back ∙ whole)) made.4;
        }
      where
        empty : (zs : List ℕ) → length zs ≡ 0 → zs ≡ []
        empty [] e = refl
        empty (z ∷ zs) e = absurd (omega arith)

    laid : IsLaid x rows
    laid = elim (or_cases _ _ p2.1) [
      | inl t ↦
          let e = eqb-true x.w 0 t in
          second [] rows refl (cc) h3.0 (inl e)
      | inr t ↦
          let wide : x.h ≤ x.w = grind (arith, nat_tests, t) in
          let made = stage-made one [] refl x.w (λ k low high. cond-true _ one two (lt-ltb k x.w high))
          (omega arith) rows (omega (arith, len)) h3.0 in
          second made.0 made.1 made.2 (let e = made.3 in omega arith) made.5 (inr made.4)
    ]

    design : IsDesign x rows
    design = record { laid = laid; none_of_one = eqb-true _ _ h4.0; none_of_two = eqb-true _ _ h4.1 }

pub designs_are_tested : (x : Strata) → DesignsAreTested x
designs_are_tested x rows h = design x rows h
