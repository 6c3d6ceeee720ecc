-- The rows of a canonical design follow one another, and no prefix of one is without room.
use Rattle.std.proofs.Common.{ℕ, ◌≡◌, ◌<◌, ◌≤◌, ◌+◌, ◌-◌, ◌^◌, zero, suc, true, false, cond, eqb, ◌&&◌, List, [], ◌∷◌}
use Rattle.std.proofs.Common.{◌++◌, length, take, drop, refl, sym, subst, ◌∙◌, ap, arith, inl, inr, ◌⊎◌, eq-eqb}
use Rattle.std.proofs.Common.{append_assoc, append-nil, take-append-drop, length-append}
use Rattle.std.specs.Prelude.{nat_lt}
use Rattle.std.specs.List.{AllByRecursion}
use Rattle.std.proofs.Math.Nat.{pow-le-pow_right}
use Rattle.std.proofs.lemmas.Bool.{cases_Bool, cases_lt, cond-true, cond-false, and_parts, and_from, lt-ltb, le-ltb}
use Rattle.std.proofs.lemmas.Bool.{ltb-true}
use Rattle.std.proofs.lemmas.Bool.Decides.{nat_tests}
use Rattle.std.proofs.lemmas.List.{length-take}
use Rattle.fx_base.proofs.Lists.{each-append, each-weaker}
use Rattle.fx_designs.specs.Galois.{IsField}
use Rattle.fx_designs.specs.Problems.{Dimensions}
use Rattle.fx_designs.specs.Nodes.{last_row}
use Rattle.fx_strata.specs.Designs.{Strata}
use Rattle.fx_strata.specs.Canonical.{dimensions_of, units, is_later, AreLater, IsStage, IsLaid}
use Rattle.fx_strata.specs.Stages.{Stage, stage_after, has_units, bound, may_follow, missing, has_no_room}
use Rattle.fx_strata.proofs.Earlier.{stage-range}
use Rattle.fx_strata.proofs.Rests.{split, fits, Rest, in-stage}

-- what stands at a place of the unit vectors
unit-at : (q from len : ℕ) (ms tail s : List ℕ) (r : ℕ) → units q from len ++ tail ≡ ms ++ r ∷ s → length ms < len
    → r ≡ q ^ (from + length ms)
unit-at q from zero ms tail s r e h = absurd (omega arith)
unit-at q from (suc len) [] tail s r e h =
    let head : q ^ from ≡ r = cc e in
    sym head ∙ ap (λ z. q ^ z) (let e : from ≡ from + 0 = omega arith in e)
unit-at q from (suc len) (y ∷ ms) tail s r e h =
    let rest : units q (from + 1) len ++ tail ≡ ms ++ r ∷ s = cc e in
    unit-at q (from + 1) len ms tail s r rest (omega arith)
    ∙ ap (λ z. q ^ z) (let e : from + 1 + length ms ≡ from + suc (length ms) = omega arith in e)

module _ (x : Strata) (f : IsField x.q) (c s : List ℕ) (laid : IsLaid x (c ++ s)) where
  abbrev d : Dimensions
  d = dimensions_of x

  abbrev all : List ℕ
  all = c ++ s

  abbrev one : Stage
  one = record { first_unit = 0; units = x.h; begin = 0; end = x.w }

  abbrev two : Stage
  two = record { first_unit = x.h; units = x.m - x.h; begin = x.w; end = x.w + x.n }

  long : length c + length s ≡ x.w + x.n
  long = cc (length-append c s)

  front-length : length (take x.w all) ≡ x.w
  front-length = (let e' = laid.len in omega (arith, length-take x.w all))

  parts : take x.w all ++ drop x.w all ≡ all
  parts = take-append-drop x.w all

  back-length : length (drop x.w all) ≡ x.n
  back-length =
      let e : length (take x.w all) + length (drop x.w all) ≡ length all =
      cc (length-append (take x.w all) (drop x.w all), parts) in
      let e' = front-length in
      let e2 = laid.len in
      omega arith

  -- a stage in which the prefix ends
  record At (st : Stage) : Type 0 where
    pre : List ℕ
    rows : List ℕ
    post : List ℕ
    begins : length pre ≡ st.begin
    is : all ≡ pre ++ (rows ++ post)
    stage : IsStage d st.first_unit st.units rows
    ends : st.begin + length rows ≡ st.end
    past : st.begin ≤ length c
    few : length c ≤ st.end

  found : (stage_after x c ≡ one) × At one ⊎ (stage_after x c ≡ two) × At two
  found = elim (cases_lt (length c) x.w) [
    | inl low ↦ inl (
      cond-true _ one two (lt-ltb _ x.w low),
      record {
        pre = [];
        rows = take x.w all;
        post = drop x.w all;
        begins = refl;
        is = sym parts;
        stage = elim (laid.first) [ inl e ↦ absurd (omega arith) | inr st ↦ st ];
        ends = (let e = front-length in omega arith);
        past = omega arith;
        few = omega arith;
      },
    )
    | inr high ↦ inr (
      cond-false _ one two (le-ltb _ x.w high),
      record {
        pre = take x.w all;
        rows = drop x.w all;
        post = [];
        begins = front-length;
        is = cc (parts, append-nil (drop x.w all));
        stage = laid.second;
        ends = (let e = back-length in omega arith);
        past = high;
        few = (let e = long in omega arith);
      },
    )
  ]

  abbrev RestAt : Stage → Type 0
  RestAt st = (xs : List ℕ) × (behind : List ℕ) × (s ≡ xs ++ behind)
      × AreLater d st.first_unit
      (cond (eqb (length c) (st.begin + st.units)) (x.q ^ (st.first_unit + st.units)) (last_row c)) xs
      × (length xs ≡ st.end - length c)

  rest-at : (st : Stage) → At st → st.begin + st.units ≤ length c → RestAt st
  rest-at st h there =
      let r = in-stage x st h.pre h.rows h.post c s h.begins h.is h.stage there
      (let a = h.ends in let b = h.few in omega arith) in
      (r.0, r.1, r.2, r.3, cc (r.4, h.ends))

  there-at : (st : Stage) → stage_after x c ≡ st → has_units x c ≡ true → st.begin + st.units ≤ length c
  there-at st e h =
      let t =
      rw e at h in
      grind (arith, nat_tests, t)

  pub rest : has_units x c ≡ true → Rest x c s
  rest h =
      let r : RestAt (stage_after x c) = elim found [
        | inl p ↦ subst RestAt (sym p.0) (rest-at one p.1 (there-at one p.0 h))
        | inr p ↦ subst RestAt (sym p.0) (rest-at two p.1 (there-at two p.0 h))
      ] in
      record { rows = r.0; behind = r.1; is = r.2; later = r.3; len = r.4 }

  pub no_room : has_no_room x c ≡ true → ⊥
  no_room h =
      let p = and_parts _ _ h in
      let r = rest p.0 in
      let few = ltb-true _ _ p.1 in
      let e = r.len in
      omega (arith, fits d (stage_after x c).first_unit _ r.rows r.later)

  -- all rows are below q^m
  pub low : AllByRecursion (λ r. r < x.q ^ x.m) all
  low =
      let base = laid.base in
      let some : 0 < x.q = omega arith in
      let under : (from len : ℕ) (rows : List ℕ) → from + len ≤ x.m → IsStage d from len rows
      → AllByRecursion (λ r. r < x.q ^ x.m) rows =
      λ from len rows room st. each-weaker _ (λ r. r < x.q ^ x.m) rows
      (λ r k. (let l = k.high in omega (arith, pow-le-pow_right some room)))
      (stage-range d f from len rows st) in
      subst (AllByRecursion (λ r. r < x.q ^ x.m)) parts
      (each-append _ (take x.w all) _
      (elim (laid.first) [
        | inl e ↦ rw e tt
        | inr st ↦ under 0 x.h (take x.w all) (omega arith) st
      ])
      (under x.h (x.m - x.h) (drop x.w all) (omega arith) laid.second))

-- the next row of a design can follow
module _ (x : Strata) (f : IsField x.q) (c s : List ℕ) (r : ℕ) (laid : IsLaid x (c ++ r ∷ s)) where
  at-unit : (st : Stage) → At x f c (r ∷ s) laid st → length c < st.begin + st.units
      → r ≡ x.q ^ (st.first_unit + (length c - st.begin))
  at-unit st h early =
      let past = h.past in
      let begins = h.begins in
      let one = split c _ h.pre _ h.is (omega arith) in
      let lc : length c ≡ length h.pre + length one.0 =
      cc (one.1, length-append h.pre one.0) in
      let e : units x.q st.first_unit st.units ++ (h.stage.others ++ h.post) ≡ one.0 ++ r ∷ s =
      cc (append_assoc (units x.q st.first_unit st.units) h.stage.others h.post, h.stage.is, one.2) in
      unit-at x.q st.first_unit st.units one.0 _ s r e (omega arith)
      ∙ ap (λ z. x.q ^ (st.first_unit + z)) (let e : length one.0 ≡ length c - st.begin = omega arith in e)

  early-at : (st : Stage) → stage_after x c ≡ st → has_units x c ≡ false → length c < st.begin + st.units
  early-at st e h =
      let t =
      rw e at h in
      grind (arith, nat_tests, t)

  some-missing : (st : Stage) → stage_after x c ≡ st → At x f c (r ∷ s) laid st → length c < x.w + x.n
      → (st.end ≡ x.w → length c < x.w) → (st.end ≡ x.w) ⊎ (st.end ≡ x.w + x.n) → 0 < missing x c
  some-missing st e h short less which =
      let at : missing x c ≡ st.end - length c = cc in
      elim which [
        | inl k ↦ (omega (arith, less k))
        | inr k ↦ omega arith
      ]

  short : length c < x.w + x.n
  short = (let e' = laid.len in omega (arith, length-append c (r ∷ s)))

  first-later : (xs behind : List ℕ) (from b : ℕ) → r ∷ s ≡ xs ++ behind → 0 < length xs
      → AreLater (dimensions_of x) from b xs → (is_later (dimensions_of x) from r && nat_lt r b) ≡ true
  first-later [] behind from b e some l = absurd (omega arith)
  first-later (y ∷ xs) behind from b e some l =
      let same : r ≡ y = cc e in
      and_from _ _ (rw same l.0)
      (lt-ltb r b (rw same l.1))

  pub follows : may_follow x c r ≡ true
  follows = elim (cases_Bool (has_units x c)) [
    | inl t ↦
        let p = rest x f c (r ∷ s) laid t in
        let many : 0 < missing x c = elim (found x f c (r ∷ s) laid) [
          | inl q ↦ some-missing _ q.0 q.1 short (λ e. elim (cases_lt (length c) x.w) [
            | inl l ↦ l
            | inr high ↦
                absurd (let e' = le-ltb _ x.w high in
                let b : x.w ≡ 0 = (sym (ap (λ z. z.begin) (sym q.0
                ∙ cond-false _ (one x f c (r ∷ s) laid) (two x f c (r ∷ s) laid) e'))) in
                let sh = short in
                omega (
                  arith,
                  ap (λ z. z.end) (sym q.0
                      ∙ cond-false _ (one x f c (r ∷ s) laid) (two x f c (r ∷ s) laid) e'),
                ))
          ]) (inl refl)
          | inr q ↦ some-missing _ q.0 q.1 short (λ e. (let sh = short in omega arith))
              (inr refl)
        ] in
        let e = p.len in
        cond-true _
        (is_later (dimensions_of x) (stage_after x c).first_unit r && nat_lt r (bound x c))
        (eqb r (x.q ^ ((stage_after x c).first_unit + (length c - (stage_after x c).begin)))) t
        ∙ first-later p.rows p.behind (stage_after x c).first_unit _ p.is (omega arith) p.later
    | inr o ↦
        cond-false _
        (is_later (dimensions_of x) (stage_after x c).first_unit r && nat_lt r (bound x c))
        (eqb r (x.q ^ ((stage_after x c).first_unit + (length c - (stage_after x c).begin)))) o
        ∙ elim (found x f c (r ∷ s) laid) [
          | inl q ↦ rw q.0 (eq-eqb _ _ (at-unit _ q.1 (early-at _ q.0 o)))
          | inr q ↦ rw q.0 (eq-eqb _ _ (at-unit _ q.1 (early-at _ q.0 o)))
        ]
  ]
