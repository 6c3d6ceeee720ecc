-- Isomorphic designs have one key.
use Rattle.std.proofs.Common.{ℕ, ◌≡◌, ◌<◌, ◌≤◌, zero, suc, Bool, true, false, cond, eqb}
use Rattle.std.proofs.Common.{List, [], ◌∷◌, ◌++◌, map, length, take, refl, sym, subst, ◌∙◌, ap, arith, inl, inr}
use Rattle.std.specs.Prelude.{All}
use Rattle.std.proofs.lemmas.Bool.{cases_Bool, cond-true, cond-false, ne_eqb}
use Rattle.std.proofs.lemmas.List.{length-map}
use Rattle.std.proofs.lemmas.List.Elements.{recursion_from_All, All-from_recursion}
use Rattle.fx_base.proofs.Lists.{each-append, each-take}
use Rattle.fx_designs.specs.Galois.{inv, IsField}
use Rattle.fx_designs.specs.Vectors.{IsVector, scale, is_zero, combination}
use Rattle.fx_designs.specs.Spans.{in_span, rank_of, rank_after}
use Rattle.fx_laws.specs.Changes.{IsChange}
use Rattle.fx_laws.specs.Scalings.{AreScalars, scaled, times}
use Rattle.fx_laws.proofs.Space.{AreVectors, scale-vector, combination-vector}
use Rattle.fx_laws.proofs.Tests.{bool_same}
use Rattle.fx_laws.proofs.Ranks.{in_span-true, in_span-holds, map-vectors, in_span-change, rank-change}
use Rattle.fx_laws.proofs.Forms.{inv-positive, scale-one}
use Rattle.fx_laws.proofs.Scalings.{scale-scale, scaled-combination, scaled-length, scaled-vectors, times-vector}
use Rattle.fx_strata.specs.Designs.{Strata, Order, Words, Unclear, base_of, words_of, unclear_of}
use Rattle.fx_strata.specs.Designs.{IsStratified, IsLeast, NoneLess}
use Rattle.fx_strata.specs.Words.{words_in}
use Rattle.fx_strata.specs.Sums.{is_in_base, sums_of, is_unclear_sum}
use Rattle.fx_strata.specs.Laws.{IsAlike, IsomorphicAreAlike, AlikeHaveOneKey, IsomorphicAreLeast}
use Rattle.fx_strata.proofs.Totals.{total, total-same, total-changed, total-scaled, counted}
use Rattle.fx_strata.proofs.Runs.{words-are-sums}
use Rattle.fx_strata.proofs.Unclear.{unclear-are-sums, zero-changed}
use Rattle.fx_strata.proofs.Alike.{same_clear}
use Rattle.fx_words.proofs.Alike.{scaled_sum}

pub take-changed : (a : List ℕ → List ℕ) (w : ℕ) (rows : List (List ℕ)) → take w (map a rows) ≡ map a (take w rows)
take-changed a zero rows = refl
take-changed a (suc w) [] = refl
take-changed a (suc w) (r ∷ rows) = cc (take-changed a w rows)

pub take-scaled : (q w : ℕ) (cs : List ℕ) (rows : List (List ℕ))
    → take w (scaled q cs rows) ≡ scaled q (take w cs) (take w rows)
take-scaled q zero cs rows = refl
take-scaled q (suc w) [] rows = refl
take-scaled q (suc w) (c ∷ cs) [] = refl
take-scaled q (suc w) (c ∷ cs) (r ∷ rows) = cc (take-scaled q w cs rows)

pub take-as-many : (w : ℕ) (cs : List ℕ) (rows : List (List ℕ)) → length cs ≡ length rows
    → length (take w cs) ≡ length (take w rows)
take-as-many zero cs rows e = refl
take-as-many (suc w) [] [] e = refl
take-as-many (suc w) [] (r ∷ rows) e = absurd (omega arith)
take-as-many (suc w) (c ∷ cs) [] e = absurd (omega arith)
take-as-many (suc w) (c ∷ cs) (r ∷ rows) e = cc (take-as-many w cs rows (omega arith))

scaled-push : (q : ℕ) (cs : List ℕ) (bs : List (List ℕ)) (d : ℕ) (r : List ℕ) → length cs ≡ length bs
    → scaled q cs bs ++ scale q d r ∷ [] ≡ scaled q (cs ++ d ∷ []) (bs ++ r ∷ [])
scaled-push q [] [] d r e = refl
scaled-push q [] (b ∷ bs) d r e = absurd (omega arith)
scaled-push q (c ∷ cs) [] d r e = absurd (omega arith)
scaled-push q (c ∷ cs) (b ∷ bs) d r e = cc (scaled-push q cs bs d r (omega arith))

length-push : (cs : List ℕ) (bs : List (List ℕ)) (d : ℕ) (r : List ℕ) → length cs ≡ length bs
    → length (cs ++ d ∷ []) ≡ length (bs ++ r ∷ [])
length-push [] [] d r e = refl
length-push [] (b ∷ bs) d r e = absurd (omega arith)
length-push (c ∷ cs) [] d r e = absurd (omega arith)
length-push (c ∷ cs) (b ∷ bs) d r e = cc (length-push cs bs d r (omega arith))

-- spans of multiples
module _ (q m : ℕ) (f : IsField q) where
  unscaled : (d : ℕ) (r : List ℕ) → 0 < d → d < q → IsVector q m r → scale q (inv q d) (scale q d r) ≡ r
  unscaled d r some low hr =
      cc (scale-scale q f (inv q d) d r, f.mul_inv d some low, scale-one q m f r hr)

  all-unscaled : (cs : List ℕ) (rows : List (List ℕ)) → AreScalars q cs → AreVectors q m rows
      → length cs ≡ length rows → scaled q (map (inv q) cs) (scaled q cs rows) ≡ rows
  all-unscaled [] [] h hr e = refl
  all-unscaled [] (r ∷ rows) h hr e = absurd (omega arith)
  all-unscaled (c ∷ cs) [] h hr e = absurd (omega arith)
  all-unscaled (c ∷ cs) (r ∷ rows) h hr e =
      cc (unscaled c r h.0.0 h.0.1 hr.0, all-unscaled cs rows h.1 hr.1 (omega arith))

  span-from : (cs : List ℕ) (bs : List (List ℕ)) (d : ℕ) (r : List ℕ) → length cs ≡ length bs → 0 < d → d < q
      → AreVectors q m bs → IsVector q m r → in_span q m (scaled q cs bs) (scale q d r) ≡ true
      → in_span q m bs r ≡ true
  span-from cs bs d r e some low hb hr t =
      let s =
      in_span-true q m f _ _ (scaled-vectors q f m cs bs hb)
      (scale-vector q m f d r hr) t in
      let hu =
      rw (scaled-length q f cs bs e) at s.vector in
      let u = times q cs s.by in
      in_span-holds q m f bs r (record {
        by = scale q (inv q d) u;
        vector = scale-vector q _ f _ u (times-vector q f _ cs s.by e hu);
        gives = cc (
          scaled_sum q m f (inv q d) u bs hb,
          scaled-combination q f m cs s.by bs e hu.len,
          s.gives,
          unscaled d r some low hr,
        );
      })

  span-multiples : (cs : List ℕ) (bs : List (List ℕ)) (d : ℕ) (r : List ℕ) → AreScalars q cs → length cs ≡ length bs
      → 0 < d → d < q → AreVectors q m bs → IsVector q m r
      → in_span q m (scaled q cs bs) (scale q d r) ≡ in_span q m bs r
  span-multiples cs bs d r h e some low hb hr =
      bool_same _ _ (span-from cs bs d r e some low hb hr)
      (λ t. span-from _ _ _ _
      (length-map cs (inv q) ∙ e ∙ sym (scaled-length q f cs bs e)) (inv-positive q f d some low) (f.inv_code d)
      (scaled-vectors q f m cs bs hb) (scale-vector q m f d r hr)
      (cc (all-unscaled cs bs h hb e, unscaled d r some low hr)))

  rank-multiples : (cs ds : List ℕ) (bs rows : List (List ℕ)) → AreScalars q cs → AreScalars q ds
      → length cs ≡ length bs → length ds ≡ length rows → AreVectors q m bs → AreVectors q m rows
      → rank_after q m (scaled q cs bs) (scaled q ds rows) ≡ rank_after q m bs rows
  rank-multiples cs [] bs [] h h' e e' hb hr = refl
  rank-multiples cs [] bs (r ∷ rows) h h' e e' hb hr = absurd (omega arith)
  rank-multiples cs (d ∷ ds) bs [] h h' e e' hb hr = absurd (omega arith)
  rank-multiples cs (d ∷ ds) bs (r ∷ rows) h h' e e' hb hr =
      cc (
        span-multiples cs bs d r h e h'.0.0 h'.0.1 hb hr.0,
        scaled-push q cs bs d r e,
        rank-multiples (cs ++ d ∷ []) ds (bs ++ r ∷ []) rows
            (each-append _ cs _ h (h'.0, tt)) h'.1 (length-push cs bs d r e) (omega arith)
            (each-append _ bs _ hb (hr.0, tt)) hr.1,
      )

module _ (x : Strata) (f : IsField x.q) where
  -- rows of which all sums are those of others behind a
  module _ (a : List ℕ → List ℕ) where
    abbrev AreBehind : List (List ℕ) → List (List ℕ) → Type 0
    AreBehind zs' zs =
        (g : ℕ → List ℕ → ℕ) → total x.q x.m f g zs' ≡ total x.q x.m f (λ j v. g j (a v)) zs

    words-same : (zs' zs : List (List ℕ)) → AreVectors x.q x.m zs → AreBehind zs' zs → (T S : List ℕ → Bool)
        → ((v : List ℕ) → IsVector x.q x.m v → T (a v) ≡ S v) → (k : ℕ)
        → words_in x.q x.m T zs' k ≡ words_in x.q x.m S zs k
    unfolding words_in
    words-same zs' zs hz all T S same k =
        all (counted x.q x.m f T k)
        ∙ total-same x.q x.m f (counted x.q x.m f S k) (λ j v. counted x.q x.m f T k j (a v)) zs zs refl
        (λ u hu. cc (same (combination x.q x.m u zs) (combination-vector x.q x.m f u zs hz)))

    sums-same : (base' base factors' factors : List (List ℕ)) → AreVectors x.q x.m factors → AreBehind factors' factors
        → AreBehind (take x.w factors') (take x.w factors)
        → ((v : List ℕ) → IsVector x.q x.m v → is_zero (a v) ≡ is_zero v)
        → ((v : List ℕ) → IsVector x.q x.m v → in_span x.q x.m base' (a v) ≡ in_span x.q x.m base v)
        → (b : Bool) (k : ℕ) → sums_of x base' factors' b k ≡ sums_of x base factors b k
    sums-same base' base factors' factors hf all front null inside false k =
        words-same factors' factors hf all is_zero is_zero null k
    sums-same base' base factors' factors hf all front null inside true k =
        let same : (v : List ℕ) → IsVector x.q x.m v → is_in_base x base' (a v) ≡ is_in_base x base v =
        λ v hv. cc (null v hv, inside v hv) in
        cc (
          words-same factors' factors hf all (is_in_base x base') (is_in_base x base) same k,
          words-same _ _ (each-take _ x.w factors hf) front
              (is_in_base x base') (is_in_base x base) same k,
        )

  module _ (blocks factors : List (List ℕ)) (D : IsStratified x blocks factors) where
    abbrev base : List (List ℕ)
    base = base_of x blocks factors

    hb : AreVectors x.q x.m blocks
    hb = recursion_from_All _ blocks D.block_rows

    hf : AreVectors x.q x.m factors
    hf = recursion_from_All _ factors D.factor_rows

    enough : x.w ≤ length factors
    enough = (let e = D.factor_count in omega arith)

    -- where figures are the same
    alike : (blocks' factors' : List (List ℕ)) → AreVectors x.q x.m blocks' → AreVectors x.q x.m factors'
        → length factors' ≡ length factors
        → rank_of x.q x.m (base_of x blocks' factors') ≡ rank_of x.q x.m base
        → ((b : Bool) (k : ℕ)
        → words_of x (base_of x blocks' factors') factors' b k ≡ words_of x base factors b k)
        → unclear_of x (base_of x blocks' factors') factors' ≡ unclear_of x base factors
        → IsAlike x blocks factors blocks' factors'
    alike blocks' factors' hb' hf' count rank words unclear = record {
      design = record {
        factor_count = cc;
        block_rows = All-from_recursion _ blocks' hb';
        factor_rows = All-from_recursion _ factors' hf';
        base = cc;
        none_of_one = cc (words false 1);
        none_of_two = cc (words false 2);
        none_confounded = cc (words true 1);
      };
      words = words;
      unclear = unclear;
    }

    base-vectors : AreVectors x.q x.m base
    base-vectors = elim (cases_Bool (eqb x.w 0)) [
      | inl t ↦ subst (AreVectors x.q x.m) (sym (cond-true _ blocks (take x.w factors) t)) hb
      | inr o ↦ subst (AreVectors x.q x.m) (sym (cond-false _ blocks (take x.w factors) o))
          (each-take _ x.w factors hf)
    ]

    -- a change of the run indexes
    module _ (a : List ℕ → List ℕ) (change : IsChange x.q x.m a) where
      base-changed : base_of x (map a blocks) (map a factors) ≡ map a base
      base-changed = elim (cases_Bool (eqb x.w 0)) [
        | inl t ↦ cc (
          cond-true _ (map a blocks) (take x.w (map a factors)) t,
          cond-true _ blocks (take x.w factors) t,
        )
        | inr o ↦ cc (
          cond-false _ (map a blocks) (take x.w (map a factors)) o,
          take-changed a x.w factors,
          cond-false _ blocks (take x.w factors) o,
        )
      ]

      changed-words : (b : Bool) (k : ℕ) → words_of x (map a base) (map a factors) b k ≡ words_of x base factors b k
      changed-words b k =
          cc (
            words-are-sums x f _ _ (map-vectors x.q x.m f a change base base-vectors)
                (map-vectors x.q x.m f a change factors hf) (let e = length-map factors a in omega (arith, enough)) b k,
            sums-same a (map a base) base _ factors hf
                (λ g. total-changed x.q x.m f g a change factors hf)
                (λ g. cc (
                  take-changed a x.w factors,
                  total-changed x.q x.m f g a change _ (each-take _ x.w factors hf),
                ))
                (λ v hv. zero-changed x.q x.m f a change v hv)
                (λ v hv. in_span-change x.q x.m f a change base v base-vectors hv) b k,
            words-are-sums x f base factors
                base-vectors hf enough b k,
          )

      by-change : IsAlike x blocks factors (map a blocks) (map a factors)
      by-change =
          alike _ _ (map-vectors x.q x.m f a change blocks hb)
          (map-vectors x.q x.m f a change factors hf) (length-map factors a)
          (cc (base-changed, rank-change x.q x.m f a change [] base tt base-vectors))
          (λ b k. cc (base-changed, changed-words b k))
          (ap (λ z. unclear_of x z (map a factors)) base-changed
          ∙ (let s = same_clear x f base factors (All-from_recursion _ base base-vectors)
          D.factor_rows in s.change a change))

    -- multiples of the rows
    module _ (bs cs : List ℕ) (h : AreScalars x.q bs) (h' : AreScalars x.q cs) (e : length bs ≡ length blocks)
        (e' : length cs ≡ length factors) where
      -- the codes for the base
      abbrev codes : List ℕ
      codes = cond (eqb x.w 0) bs (take x.w cs)

      base-scaled : base_of x (scaled x.q bs blocks) (scaled x.q cs factors) ≡ scaled x.q codes base
      base-scaled = elim (cases_Bool (eqb x.w 0)) [
        | inl t ↦ cc (
          cond-true _ (scaled x.q bs blocks) (take x.w (scaled x.q cs factors)) t,
          cond-true _ bs (take x.w cs) t,
          cond-true _ blocks (take x.w factors) t,
        )
        | inr o ↦ cc (
          cond-false _ (scaled x.q bs blocks) (take x.w (scaled x.q cs factors)) o,
          take-scaled x.q x.w cs factors,
          cond-false _ bs (take x.w cs) o,
          cond-false _ blocks (take x.w factors) o,
        )
      ]

      -- they are as many, and none is 0
      codes-good : AreScalars x.q codes × (length codes ≡ length base)
      codes-good = elim (cases_Bool (eqb x.w 0)) [
        | inl t ↦ (
          subst (AreScalars x.q) (sym (cond-true _ bs (take x.w cs) t)) h,
          cc (cond-true _ bs (take x.w cs) t, cond-true _ blocks (take x.w factors) t),
        )
        | inr o ↦ (
          subst (AreScalars x.q) (sym (cond-false _ bs (take x.w cs) o))
              (each-take _ x.w cs h'),
          cc (
            cond-false _ bs (take x.w cs) o,
            take-as-many x.w cs factors e',
            cond-false _ blocks (take x.w factors) o,
          ),
        )
      ]

      base' : List (List ℕ)
      base' = scaled x.q codes base

      factors' : List (List ℕ)
      factors' = scaled x.q cs factors

      hs : AreVectors x.q x.m base'
      unfolding base'
      hs = scaled-vectors x.q f x.m codes base base-vectors

      hg : AreVectors x.q x.m factors'
      unfolding factors'
      hg = scaled-vectors x.q f x.m cs factors hf

      inside : (v : List ℕ) → IsVector x.q x.m v → in_span x.q x.m base' v ≡ in_span x.q x.m base v
      unfolding base'
      inside v hv =
          cc (
            scale-one x.q x.m f v hv,
            span-multiples x.q x.m f codes base 1 v codes-good.0 codes-good.1 (omega arith) f.more_than_one base-vectors
                hv,
          )

      scaled-words : (b : Bool) (k : ℕ) → words_of x base' factors' b k ≡ words_of x base factors b k
      unfolding factors'
      scaled-words b k =
          cc (
            words-are-sums x f base' factors' hs hg
                (let s = scaled-length x.q f cs factors e' in omega (arith, enough)) b k,
            sums-same (λ v. v) base' base
                factors' factors hf (λ g. total-scaled x.q x.m f g cs factors h' e')
                (λ g. cc (
                  take-scaled x.q x.w cs factors,
                  total-scaled x.q x.m f g _ _ (each-take _ x.w cs h')
                      (take-as-many x.w cs factors e'),
                ))
                (λ v hv. refl) inside b k,
            words-are-sums x f base factors base-vectors hf enough b k,
          )

      scaled-clear : unclear_of x base' factors' ≡ unclear_of x base factors
      unfolding factors'
      scaled-clear =
          unclear-are-sums x f base' factors' hs hg
          ∙ words-same (λ v. v) factors' factors' hg (λ g. refl) (is_unclear_sum x base' factors')
          (is_unclear_sum x base factors')
          (λ v hv. cc (inside v hv)) 2
          ∙ sym (unclear-are-sums x f base factors' base-vectors hg)
          ∙ (let s = same_clear x f base factors (All-from_recursion _ base base-vectors)
          D.factor_rows in s.multiples cs h' e')

      by-multiples : IsAlike x blocks factors (scaled x.q bs blocks) (scaled x.q cs factors)
      unfolding base' factors'
      by-multiples =
          alike _ _ (scaled-vectors x.q f x.m bs blocks hb) hg
          (scaled-length x.q f cs factors e')
          (cc (
            base-scaled,
            rank-multiples x.q x.m f [] codes [] base tt codes-good.0 refl codes-good.1 tt
                base-vectors,
          ))
          (λ b k. cc (base-scaled, scaled-words b k))
          (cc (base-scaled, scaled-clear))

    -- with inside factors block rows say nothing
    by-others : 0 < x.w → (others : List (List ℕ)) → All (λ r. IsVector x.q x.m r) others
        → IsAlike x blocks factors others factors
    by-others some others ho =
        let no = ne_eqb x.w 0 (λ e. omega arith) in
        alike others factors (recursion_from_All _ others ho) hf refl
        (cc (cond-false _ others (take x.w factors) no
        ∙ sym (cond-false _ blocks (take x.w factors) no))) (λ b k. cc)
        (cc)

pub isomorphic_are_alike : (x : Strata) → IsField x.q → IsomorphicAreAlike x
isomorphic_are_alike x f blocks factors D = record {
  change = by-change x f blocks factors D;
  multiples = by-multiples x f blocks factors D;
  others = by-others x f blocks factors D;
}

pub alike_have_one_key : (x : Strata) (order : Order) → AlikeHaveOneKey x order
alike_have_one_key x [] blocks factors others rows A = refl
alike_have_one_key x (Words b k ∷ order) blocks factors others rows A =
    cc (A.words b k, alike_have_one_key x order blocks factors others rows A)
alike_have_one_key x (Unclear ∷ order) blocks factors others rows A =
    cc (alike_have_one_key x order blocks factors others rows A)

pub alike_are_alike : (x : Strata) (blocks factors bs fs others rows : List (List ℕ)) → IsAlike x blocks factors bs fs
    → IsAlike x bs fs others rows → IsAlike x blocks factors others rows
alike_are_alike x blocks factors bs fs others rows A B = record {
  design = B.design;
  words = λ b k. B.words b k ∙ A.words b k;
  unclear = cc;
}

pub alike_are_least : (x : Strata) (order : Order) (blocks factors others rows : List (List ℕ))
    → IsLeast x order blocks factors → IsAlike x blocks factors others rows → IsLeast x order others rows
alike_are_least x order blocks factors others rows L A = record {
  design = A.design;
  least = subst (NoneLess x order) (sym (alike_have_one_key x order blocks factors others rows A)) L.least;
}

pub isomorphic_are_least : (x : Strata) (order : Order) → IsField x.q → IsomorphicAreLeast x order
isomorphic_are_least x order f blocks factors L =
    let s = isomorphic_are_alike x f blocks factors L.design in
    record {
      change = λ a change. alike_are_least x order blocks factors _ _ L (s.change a change);
      multiples = λ bs cs h h' e e'. alike_are_least x order blocks factors _ _ L (s.multiples bs cs h h' e e');
      others = λ some others ho. alike_are_least x order blocks factors _ _ L (s.others some others ho);
    }
