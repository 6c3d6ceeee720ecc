-- Rows over a base, and how their rank is raised without more words.
use Rattle.std.proofs.Common.{ℕ, ◌≡◌, ◌<◌, ◌≤◌, ◌+◌, ◌-◌, zero, suc, Bool, true, false, cond, eqb, ◌&&◌, List}
use Rattle.std.proofs.Common.{[], ◌∷◌, ◌++◌, map, length, refl, sym, subst, ◌∙◌, ap, arith, inl, inr, ◌⊎◌}
use Rattle.std.proofs.Common.{eqb-true}
use Rattle.std.proofs.Common.{eq-eqb, append_assoc, append-nil, le_trans}
use Rattle.std.specs.List.{AllByRecursion}
use Rattle.std.proofs.lemmas.Bool.{cases_lt, and_parts, false_from_ne_true, or_cases, or_left, or_right, lt-ltb}
use Rattle.std.proofs.lemmas.Bool.{ltb-true}
use Rattle.std.proofs.lemmas.List.{length-map, map-append}
use Rattle.std.proofs.lemmas.List.Elements.{recursion_from_All}
use Rattle.fx_base.proofs.Lists.{each-append, each-append_parts}
use Rattle.fx_designs.specs.Galois.{add, mul, neg, number, IsField}
use Rattle.fx_designs.specs.Vectors.{IsVector, dot, weight, is_zero, combination}
use Rattle.fx_designs.specs.Spans.{in_span, rank_of, rank_after}
use Rattle.fx_laws.specs.Changes.{IsChange, unit, IsShort, IsFormedTo}
use Rattle.fx_laws.specs.Raises.{RaisesAt, RaisedBy}
use Rattle.fx_laws.proofs.Linear.{zero-mul, zero-add-code, dot_code, dot-plus, dot-zeros}
use Rattle.fx_laws.proofs.Changes.{add-over, to_form, unit-vector, change-zeros}
use Rattle.fx_laws.proofs.Space.{ext, AreVectors, combination-vector, plus-vector}
use Rattle.fx_laws.proofs.Shift.{all-points}
use Rattle.fx_laws.proofs.Tests.{bool_same}
use Rattle.fx_laws.proofs.Ranks.{Spans, spans-none, spans-old, spans-new, in_span-true, map-vectors, rank-formed}
use Rattle.fx_laws.proofs.Ranks.{rank-change, in_span-change, number-same}
use Rattle.fx_laws.proofs.Raises.{ZeroAt, zero-combination, raised-sum, raised-length, raised-vectors, raised_by}
use Rattle.fx_laws.proofs.Raises.{rank-raised, sum_by-le}
use Rattle.fx_laws.proofs.Follows.{formed-append, formed-short, formed-up, short-unit, unit-unit, raise_some, short-le}
use Rattle.fx_laws.proofs.Weights.{zeros_from_weight, weight-zeros}
use Rattle.fx_reduction.proofs.Cancelling.{add-negated}
use Rattle.fx_laws.proofs.Falling.{formed-room}
use Rattle.fx_strata.specs.Designs.{Strata, is_effect}
use Rattle.fx_strata.specs.Words.{words_in}
use Rattle.fx_strata.specs.Sums.{effects_at, is_in_base, is_unclear_sum, unclear_sums}
use Rattle.fx_strata.proofs.Totals.{one-less, total-same, total-changed, counted}
use Rattle.fx_strata.proofs.Unclear.{effects-changed}

-- formed rows span all that is short
pub spans-formed : (q m k n : ℕ) (f : IsField q) (bs rows : List (List ℕ)) → AreVectors q m rows → Spans q m k bs
    → IsFormedTo m k rows n → Spans q m n (bs ++ rows)
spans-formed q m k n f bs [] hr h formed =
    rw formed at (subst (Spans q m k) (sym (append-nil bs)) h)
spans-formed q m k n f bs (r ∷ rows) hr h formed = elim formed [
  | inl s ↦ subst (Spans q m n) (append_assoc bs (r ∷ []) rows)
      (spans-formed q m k n f (bs ++ r ∷ []) rows hr.1 (spans-old q m f k bs r hr.0 h s.0) s.1)
  | inr s ↦ subst (Spans q m n) (append_assoc bs (r ∷ []) rows)
      (spans-formed q m (suc k) n f (bs ++ r ∷ []) rows hr.1
      (rw s.1 (spans-new q m f k bs s.0 h)) s.2)
]

-- the rows of a base, of the inside factors, and of the outside factors
pub record Rows (x : Strata) (bs xs ys : List (List ℕ)) : Type 0 where
  pub bases : AreVectors x.q x.m bs
  pub firsts : AreVectors x.q x.m xs
  pub others : AreVectors x.q x.m ys
  pub same : (x.w ≡ 0) ⊎ (bs ≡ xs)
  pub first_count : length xs ≡ x.w
  pub other_count : length ys ≡ x.n
  pub height : rank_of x.q x.m bs ≡ x.h
  pub outside : AllByRecursion (λ r. in_span x.q x.m bs r ≡ false) ys

-- their words
abbrev pub counts : Strata → List (List ℕ) → List (List ℕ) → List (List ℕ) → Bool → ℕ → ℕ
counts x bs xs ys false k = words_in x.q x.m is_zero (xs ++ ys) k
counts x bs xs ys true k =
    words_in x.q x.m (is_in_base x bs) (xs ++ ys) k - words_in x.q x.m (is_in_base x bs) xs k

module _ (x : Strata) (f : IsField x.q) where
  -- a change of the run indexes keeps all this
  module _ (a : List ℕ → List ℕ) (change : IsChange x.q x.m a) where
    zero-same : (v : List ℕ) → IsVector x.q x.m v → is_zero (a v) ≡ is_zero v
    zero-same v hv = bool_same _ _
        (λ e. ap is_zero (change.zero_alone v hv
        (zeros_from_weight _ x.m (let h = change.vector v hv in h.len) (eqb-true _ 0 e)))
        ∙ eq-eqb _ 0 (weight-zeros x.m))
        (λ e. cc (
          zeros_from_weight v x.m hv.len (eqb-true _ 0 e),
          change-zeros x.q x.m f a change,
          eq-eqb _ 0 (weight-zeros x.m),
        ))

    words-changed : (T S : List ℕ → Bool) → ((v : List ℕ) → IsVector x.q x.m v → T (a v) ≡ S v) → (zs : List (List ℕ))
        → AreVectors x.q x.m zs → (k : ℕ) → words_in x.q x.m T (map a zs) k ≡ words_in x.q x.m S zs k
    unfolding words_in
    words-changed T S same zs hz k =
        total-changed x.q x.m f (counted x.q x.m f T k) a change zs hz
        ∙ total-same x.q x.m f (counted x.q x.m f S k) (λ j v. counted x.q x.m f T k j (a v)) zs zs refl
        (λ u hu. cc (same (combination x.q x.m u zs) (combination-vector x.q x.m f u zs hz)))

    module _ (bs xs ys : List (List ℕ)) (rows : Rows x bs xs ys) where
      confounded-same : (v : List ℕ) → IsVector x.q x.m v → is_in_base x (map a bs) (a v) ≡ is_in_base x bs v
      confounded-same v hv =
          cc (zero-same v hv, in_span-change x.q x.m f a change bs v rows.bases hv)

      all : AreVectors x.q x.m (xs ++ ys)
      all = each-append _ xs ys rows.firsts rows.others

      counts-changed : (b : Bool) (k : ℕ) → counts x (map a bs) (map a xs) (map a ys) b k ≡ counts x bs xs ys b k
      counts-changed false k =
          cc (map-append a xs ys, words-changed is_zero is_zero zero-same _ all k)
      counts-changed true k = cc (
        map-append a xs ys,
        words-changed (is_in_base x (map a bs)) (is_in_base x bs) confounded-same _ all k,
        words-changed (is_in_base x (map a bs)) (is_in_base x bs) confounded-same xs rows.firsts k,
      )

      unclear-changed : unclear_sums x (map a bs) (map a xs ++ map a ys) ≡ unclear_sums x bs (xs ++ ys)
      unclear-changed =
          cc (
            map-append a xs ys,
            words-changed (is_unclear_sum x (map a bs) (map a (xs ++ ys))) (is_unclear_sum x bs (xs ++ ys))
                (λ v hv. cc (
                  in_span-change x.q x.m f a change bs v rows.bases hv,
                  effects-changed x.q x.m f a change v hv _
                      all,
                )) _ all 2,
          )

      outside-changed : (vs : List (List ℕ)) → AreVectors x.q x.m vs
          → AllByRecursion (λ r. in_span x.q x.m bs r ≡ false) vs
          → AllByRecursion (λ r. in_span x.q x.m (map a bs) r ≡ false) (map a vs)
      outside-changed [] hv h = tt
      outside-changed (v ∷ vs) hv h =
          (cc (in_span-change x.q x.m f a change bs v rows.bases hv.0), outside-changed vs hv.1 h.1)

      rows-changed : Rows x (map a bs) (map a xs) (map a ys)
      rows-changed = record {
        bases = map-vectors x.q x.m f a change bs rows.bases;
        firsts = map-vectors x.q x.m f a change xs rows.firsts;
        others = map-vectors x.q x.m f a change ys rows.others;
        same = elim (rows.same) [ inl e ↦ inl e | inr e ↦ inr (ap (map a) e) ];
        first_count = cc (length-map xs a);
        other_count = cc (length-map ys a);
        height = cc (rank-change x.q x.m f a change [] bs tt rows.bases);
        outside = outside-changed ys rows.others rows.outside;
      }

  -- v, which is 1 at a point where the rows are 0, added to an outside factor's row that is spanned by rows before it
  module _ (v p : List ℕ) (hv : IsVector x.q x.m v) (one : dot x.q v p ≡ 1) (bs xs ys zs : List (List ℕ))
      (rows : Rows x bs xs ys) (zb : ZeroAt x.q x.m f p bs) (zx : ZeroAt x.q x.m f p (xs ++ ys))
      (at : RaisesAt x.q x.m v bs ys zs) where
    by : RaisedBy x.q v ys zs
    by = raised_by x.q x.m f v bs ys zs at

    front : (us : List (List ℕ)) → RaisedBy x.q v (us ++ ys) (us ++ zs)
    front [] = by
    front (u ∷ us) = inl (refl, front us)

    all-rows : AreVectors x.q x.m (xs ++ ys)
    all-rows = each-append _ xs ys rows.firsts rows.others

    -- a sum that is 0 at the point was the same before
    old-sum : (u : List ℕ) → IsVector x.q (length (xs ++ ys)) u
        → dot x.q (combination x.q x.m u (xs ++ zs)) p ≡ 0
        → combination x.q x.m u (xs ++ zs) ≡ combination x.q x.m u (xs ++ ys)
    old-sum u hu none =
        let old = combination x.q x.m u (xs ++ ys) in
        let sum = raised-sum x.q x.m f v _ _ u (front xs) hu in
        let zero_c : sum.0 ≡ 0 =
        cc (zero-combination x.q x.m f p u _ zx, f.mul_one sum.0 sum.1, zero-add-code x.q f sum.0 sum.1, sum.2 p) in
        ext x.q x.m f (combination x.q x.m u (xs ++ zs)) old
        (combination-vector x.q x.m f u _
        (raised-vectors x.q x.m f v hv _ _ (front xs) all-rows))
        (combination-vector x.q x.m f u _ all-rows)
        (λ p'. cc (sum.2 p', zero-mul x.q f (dot x.q v p'), f.add_zero (dot x.q old p') (dot_code x.q f old p')))

    new-rows : AreVectors x.q x.m (xs ++ zs)
    new-rows = raised-vectors x.q x.m f v hv _ _ (front xs) all-rows

    abbrev old-of : List ℕ → List ℕ
    old-of u = combination x.q x.m u (xs ++ ys)

    abbrev new-of : List ℕ → List ℕ
    new-of u = combination x.q x.m u (xs ++ zs)

    -- sums that are the same were the same
    same-before : (u w : List ℕ) → IsVector x.q (length (xs ++ ys)) u → IsVector x.q (length (xs ++ ys)) w
        → new-of w ≡ new-of u → old-of w ≡ old-of u
    same-before u w hu hw same =
        let su = raised-sum x.q x.m f v _ _ u (front xs) hu in
        let sw = raised-sum x.q x.m f v _ _ w (front xs) hw in
        let factor : (t : List ℕ) (c : ℕ) → c < x.q
        → dot x.q (new-of t) p ≡ add x.q (dot x.q (old-of t) p) (mul x.q c (dot x.q v p)) → dot x.q (new-of t) p ≡ c =
        λ t c low is. cc (zero-combination x.q x.m f p t _ zx, f.mul_one c low, zero-add-code x.q f c low) in
        let cs : sw.0 ≡ su.0 =
        cc (factor w sw.0 sw.1 (sw.2 p), factor u su.0 su.1 (su.2 p)) in
        ext x.q x.m f _ _ (combination-vector x.q x.m f w _ all-rows)
        (combination-vector x.q x.m f u _ all-rows)
        (λ p'.
        let a = dot x.q (old-of w) p' in
        let b = dot x.q (old-of u) p' in
        let k = mul x.q su.0 (dot x.q v p') in
        let both : add x.q a k ≡ add x.q b k =
        cc (sw.2 p', su.2 p') in
        let back : (c : ℕ) → c < x.q → add x.q k (add x.q (add x.q c k) (mul x.q (neg x.q 1) k)) ≡ add x.q c k =
        λ c low. add-over x.q f k _ (f.mul_code su.0 (dot x.q v p')) (f.add_code c k) in
        let alone : (c : ℕ) → c < x.q → add x.q (add x.q c k) (mul x.q (neg x.q 1) k) ≡ c =
        λ c low. cc (
          f.add_assoc c k (mul x.q (neg x.q 1) k),
          add-negated x.q f k (f.mul_code su.0 (dot x.q v p')),
          f.add_zero c low,
        ) in
        cc (alone a (dot_code x.q f (old-of w) p'), alone b (dot_code x.q f (old-of u) p')))

    effects-fewer : (u : List ℕ) → IsVector x.q (length (xs ++ ys)) u
        → effects_at x.q x.m (xs ++ zs) (new-of u) ≤ effects_at x.q x.m (xs ++ ys) (old-of u)
    unfolding effects_at
    effects-fewer u hu =
        let n = length (xs ++ ys) in
        let new : List ℕ → ℕ =
        λ w. cond (eqb (number x.q (new-of w)) (number x.q (new-of u)) && is_effect (weight w)) 1 0 in
        let old : List ℕ → ℕ =
        λ w. cond (eqb (number x.q (old-of w)) (number x.q (old-of u)) && is_effect (weight w)) 1 0 in
        rw (raised-length x.q x.m f v _ _ (front xs))
        (sum_by-le new old _ (recursion_from_All _ _
        (all-points x.q n (omega arith) (λ w. new w ≤ old w) (λ w hw.
        one-less _
        _ _
        (λ e. eq-eqb _ _ (ap (number x.q) (same-before u w hu hw
        (number-same x.q x.m f _ _ (combination-vector x.q x.m f w _ new-rows)
        (combination-vector x.q x.m f u _ new-rows) (eqb-true _ _ e)))))))))

    fewer-by : (T S : List ℕ → Bool)
        → ((u : List ℕ) → IsVector x.q (length (xs ++ ys)) u → T (new-of u) ≡ true → S (old-of u) ≡ true) → (k : ℕ)
        → words_in x.q x.m T (xs ++ zs) k ≤ words_in x.q x.m S (xs ++ ys) k
    unfolding words_in
    fewer-by T S less k =
        let n = length (xs ++ ys) in
        let new : List ℕ → ℕ = λ u. cond (T (new-of u) && eqb (weight u) k) 1 0 in
        let old : List ℕ → ℕ = λ u. cond (S (old-of u) && eqb (weight u) k) 1 0 in
        rw (raised-length x.q x.m f v _ _ (front xs))
        (sum_by-le new old _ (recursion_from_All _ _
        (all-points x.q n (omega arith) (λ u. new u ≤ old u) (λ u hu.
        one-less _ _ _ (less u hu)))))

    fewer : (T : List ℕ → Bool) → ((u : List ℕ) → IsVector x.q x.m u → T u ≡ true → dot x.q u p ≡ 0) → (k : ℕ)
        → words_in x.q x.m T (xs ++ zs) k ≤ words_in x.q x.m T (xs ++ ys) k
    unfolding words_in
    fewer T none k =
        let n = length (xs ++ ys) in
        let new : List ℕ → ℕ = λ u. cond (T (combination x.q x.m u (xs ++ zs)) && eqb (weight u) k) 1 0 in
        let old : List ℕ → ℕ = λ u. cond (T (combination x.q x.m u (xs ++ ys)) && eqb (weight u) k) 1 0 in
        rw (raised-length x.q x.m f v _ _ (front xs))
        (sum_by-le new old _ (recursion_from_All _ _
        (all-points x.q n (omega arith) (λ u. new u ≤ old u) (λ u hu.
        one-less _ _ _
        (λ t. rw (old-sum u hu (none (combination x.q x.m u (xs ++ zs))
        (combination-vector x.q x.m f u _
        (raised-vectors x.q x.m f v hv _ _ (front xs) all-rows)) t)) at t)))))

    spanned-none : (u : List ℕ) → IsVector x.q x.m u → in_span x.q x.m bs u ≡ true → dot x.q u p ≡ 0
    spanned-none u hu t =
        let s = in_span-true x.q x.m f bs u rows.bases hu t in
        cc (s.gives, zero-combination x.q x.m f p s.by bs zb)

    counts-fewer : (b : Bool) (k : ℕ) → counts x bs xs zs b k ≤ counts x bs xs ys b k
    counts-fewer false k = fewer is_zero
        (λ u hu t. cc (zeros_from_weight u x.m hu.len (eqb-true _ 0 t), dot-zeros x.q f x.m p)) k
    counts-fewer true k =
        omega (
          arith,
          fewer (is_in_base x bs)
              (λ u hu t. spanned-none u hu (and_parts _ _ t).1) k,
        )

    unclear-fewer : unclear_sums x bs (xs ++ zs) ≤ unclear_sums x bs (xs ++ ys)
    unclear-fewer = fewer-by _ _
        (λ u hu t. elim (or_cases _
        _ t) [
          | inl i ↦
              let is = old-sum u hu (spanned-none _
              (combination-vector x.q x.m f u _ new-rows) i) in
              or_left _ _ (rw is at i)
          | inr l ↦
              let more = ltb-true _ _ l in
              let few = effects-fewer u hu in
              let old : 1 < effects_at x.q x.m (xs ++ ys) (old-of u) = omega arith in
              or_right _ _ (lt-ltb _ _ old)
        ]) 2

    outside-raised : (cs us ws : List (List ℕ)) → RaisesAt x.q x.m v cs us ws → AreVectors x.q x.m us
        → ZeroAt x.q x.m f p us → AllByRecursion (λ r. in_span x.q x.m bs r ≡ false) us
        → AllByRecursion (λ r. in_span x.q x.m bs r ≡ false) ws
    outside-raised cs [] ws h hu z out = absurd h
    outside-raised cs (u ∷ us) [] h hu z out = absurd h
    outside-raised cs (u ∷ us) (w ∷ ws) h hu z out = elim h [
      | inl s ↦ (
        rw s.0 at out.0,
        outside-raised (cs ++ u ∷ []) us ws s.1 hu.1 z.1 out.1,
      )
      | inr s ↦ (
        false_from_ne_true _ (λ t.
            let hw : IsVector x.q x.m w = subst (IsVector x.q x.m) (sym s.1) (plus-vector x.q x.m f u v hu.0 hv) in
            let at_w : dot x.q w p ≡ 1 =
            ap (λ z. dot x.q z p) s.1 ∙ dot-plus x.q f u v p
            ∙ (rw (z.0, one) (zero-add-code x.q f 1 f.more_than_one)) in
            omega (arith, spanned-none w hw t)),
        subst (AllByRecursion (λ r. in_span x.q x.m bs r ≡ false)) s.2 out.1,
      )
    ]

    rows-raised : Rows x bs xs zs
    rows-raised = record {
      bases = rows.bases;
      firsts = rows.firsts;
      others = raised-vectors x.q x.m f v hv ys zs by rows.others;
      same = rows.same;
      first_count = rows.first_count;
      other_count = cc (raised-length x.q x.m f v ys zs by);
      height = rows.height;
      outside = outside-raised bs ys zs at rows.others
          (each-append_parts _ xs ys zx).1 rows.outside;
    }

  -- rows of full rank with no more words
  pub record Full (bs xs ys : List (List ℕ)) : Type 0 where
    pub bases : List (List ℕ)
    pub firsts : List (List ℕ)
    pub others : List (List ℕ)
    pub rows : Rows x bases firsts others
    pub rank : rank_after x.q x.m bases others + x.h ≡ x.m
    pub fewer : (b : Bool) (k : ℕ) → counts x bases firsts others b k ≤ counts x bs xs ys b k
    pub clearer : unclear_sums x bases (firsts ++ others) ≤ unclear_sums x bs (xs ++ ys)

  zero-short : (j : ℕ) (vs : List (List ℕ)) → AreVectors x.q x.m vs → AllByRecursion (λ r. IsShort j r) vs
      → ZeroAt x.q x.m f (unit x.m j) vs
  zero-short j [] hv h = tt
  zero-short j (v ∷ vs) hv h = (short-unit x.q x.m j f v hv.0 h.0, zero-short j vs hv.1 h.1)

  shorter : (k j : ℕ) (vs : List (List ℕ)) → k ≤ j → AllByRecursion (λ r. IsShort k r) vs
      → AllByRecursion (λ r. IsShort j r) vs
  shorter k j [] le h = tt
  shorter k j (v ∷ vs) le h = (short-le k j v le h.0, shorter k j vs le h.1)

  empty : (zs : List (List ℕ)) → length zs ≡ 0 → zs ≡ []
  empty [] e = refl
  empty (z ∷ zs) e = absurd (omega arith)

  -- rows of greater rank
  record Step (bs xs ys : List (List ℕ)) : Type 0 where
    bases : List (List ℕ)
    firsts : List (List ℕ)
    others : List (List ℕ)
    rows : Rows x bases firsts others
    less : rank_after x.q x.m bs ys + x.h < x.m
    rise : rank_after x.q x.m bs ys + 1 ≤ rank_after x.q x.m bases others
    fewer : (b : Bool) (k : ℕ) → counts x bases firsts others b k ≤ counts x bs xs ys b k
    clearer : unclear_sums x bases (firsts ++ others) ≤ unclear_sums x bs (xs ++ ys)

  step : (bs xs ys : List (List ℕ)) → Rows x bs xs ys → x.m ≤ x.h + x.n
      → (rank_after x.q x.m bs ys + x.h ≡ x.m) ⊎ Step bs xs ys
  step bs xs ys rows many =
      let hall = each-append _ bs ys rows.bases rows.others in
      let made = to_form x.q x.m f _ hall in
      let b1 = map made.0 bs in
      let x1 = map made.0 xs in
      let y1 = map made.0 ys in
      let rows1 = rows-changed made.0 made.1.change bs xs ys rows in
      let split = formed-append x.m 0 made.1.rank b1 y1
      (rw (map-append made.0 bs ys) at made.1.formed) in
      let low =
      rank-formed x.q x.m f 0 split.0 [] b1 rows1.bases (spans-none x.q x.m f) split.1 in
      let height = rows1.height in
      let base : split.0 ≡ x.h = omega arith in
      let spans =
      spans-formed x.q x.m 0 split.0 f [] b1 rows1.bases (spans-none x.q x.m f) split.1 in
      let high =
      rank-formed x.q x.m f split.0 made.1.rank b1 y1 rows1.others spans split.2 in
      let kept =
      rank-change x.q x.m f made.0 made.1.change bs ys rows.bases rows.others in
      let j = made.1.rank in
      let most = formed-room x.m 0 j _ made.1.formed (omega arith) in
      elim (cases_lt j x.m) [
        | inr full ↦ inl (omega arith)
        | inl less ↦
            let p = unit x.m j in
            let hp = unit-vector x.q x.m j f in
            let zb =
            zero-short j b1 rows1.bases
            (shorter split.0 j b1 (formed-up x.m split.0 j y1 split.2) (formed-short x.m 0 split.0 b1 split.1)) in
            let zy =
            zero-short j y1 rows1.others (formed-short x.m split.0 j y1 split.2) in
            let zx : ZeroAt x.q x.m f p x1 = elim (rows1.same) [
              | inl e ↦ subst (ZeroAt x.q x.m f p) (sym (empty x1 (cc))) tt
              | inr e ↦ subst (ZeroAt x.q x.m f p) e zb
            ] in
            let count = rows1.other_count in
            let next = raise_some x.q x.m f p b1 y1 rows1.bases rows1.others (omega arith) in
            let one = unit-unit x.q x.m j f less in
            let zxy = each-append _ x1 y1 zx zy in
            let rise =
            rank-raised x.q x.m f p hp p one b1 y1 next.0 next.1 rows1.bases rows1.others zb zy in
            inr (record {
              bases = b1;
              firsts = x1;
              others = next.0;
              rows = rows-raised p p hp one b1 x1 y1 next.0 rows1 zb zxy next.1;
              less = omega arith;
              rise = omega arith;
              fewer = λ b k. le_trans (counts-fewer p p hp one b1 x1 y1 next.0 rows1 zb zxy next.1 b k)
                  (omega (arith, counts-changed made.0 made.1.change bs xs ys rows b k));
              clearer =
                  (omega (
                    arith,
                    unclear-changed made.0 made.1.change bs xs ys rows,
                    unclear-fewer p p hp one b1 x1 y1
                        next.0 rows1 zb zxy next.1,
                  ));
            })
      ]

  pub raised : (n : ℕ) (bs xs ys : List (List ℕ)) → Rows x bs xs ys → x.m ≤ x.h + x.n
      → x.m ≤ rank_after x.q x.m bs ys + x.h + n → Full bs xs ys
  raised zero bs xs ys rows many near = elim (step bs xs ys rows many) [
    | inl e ↦ record {
      bases = bs;
      firsts = xs;
      others = ys;
      rows = rows;
      rank = e;
      fewer = λ b k. omega arith;
      clearer = omega arith;
    }
    | inr s ↦ absurd (let l = s.less in omega arith)
  ]
  raised (suc n) bs xs ys rows many near = elim (step bs xs ys rows many) [
    | inl e ↦ record {
      bases = bs;
      firsts = xs;
      others = ys;
      rows = rows;
      rank = e;
      fewer = λ b k. omega arith;
      clearer = omega arith;
    }
    | inr s ↦
        let rise = s.rise in
        let r = raised n s.bases s.firsts s.others s.rows many (omega arith) in
        record {
          bases = r.bases;
          firsts = r.firsts;
          others = r.others;
          rows = r.rows;
          rank = r.rank;
          fewer = λ b k. le_trans (r.fewer b k) (s.fewer b k);
          clearer = le_trans r.clearer s.clearer;
        }
  ]
