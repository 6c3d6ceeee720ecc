-- Every design with a base has a canonical one with as many words of each kind.
use Rattle.std.proofs.Common.{ℕ, ◌≡◌, ◌<◌, ◌≤◌, ◌+◌, ◌^◌, suc, Bool, true, false, List, [], ◌∷◌, ◌++◌, map}
use Rattle.std.proofs.Common.{take, drop, refl, sym, subst, ◌∙◌, ap, arith, inl, inr, ◌⊎◌, eq-eqb, length-drop}
use Rattle.std.proofs.Common.{take-append-drop, not, eqb-true}
use Rattle.std.specs.List.{AllByRecursion, sum_by}
use Rattle.std.proofs.lemmas.Bool.{cases_eq, cond-true, cond-false, ne_eqb, false_from_ne_true, and_from}
use Rattle.std.proofs.lemmas.List.{length-take, map-append}
use Rattle.std.proofs.lemmas.List.Elements.{recursion_from_All}
use Rattle.std.proofs.Math.Seq.{take-append_seam}
use Rattle.fx_base.proofs.Lists.{each-append, each-take, each-drop}
use Rattle.fx_designs.specs.Galois.{IsField, number}
use Rattle.fx_designs.specs.Vectors.{IsVector, is_zero, zeros}
use Rattle.fx_designs.specs.Spans.{in_span, rank_after}
use Rattle.fx_laws.specs.Changes.{IsChange, IsShort, IsFormedTo}
use Rattle.fx_laws.proofs.Space.{AreVectors}
use Rattle.fx_laws.proofs.Tests.{bool_same}
use Rattle.fx_laws.proofs.Changes.{to_form, MakesForm}
use Rattle.fx_laws.proofs.Ranks.{Spans, spans-none, spans-short, in_span-true, in_span-holds, map-vectors, rank-formed}
use Rattle.fx_laws.proofs.Ranks.{rank-change, in_span-change}
use Rattle.fx_laws.proofs.Forms.{formed-scaled}
use Rattle.fx_laws.proofs.Follows.{formed-append, formed-short}
use Rattle.fx_laws.proofs.Prefixes.{number-unit}
use Rattle.fx_laws.proofs.Weights.{zeros_from_weight}
use Rattle.fx_strata.proofs.Lists.{IsMember}
use Rattle.fx_laws.proofs.Falling.{free-nonzero}
use Rattle.fx_strata.specs.Designs.{words_of, unclear_of, Strata, base_of, IsStratified}
use Rattle.fx_strata.specs.Words.{words_in}
use Rattle.fx_strata.specs.Sums.{is_in_base, sums_of, unclear_sums}
use Rattle.fx_strata.specs.Canonical.{base, words, unclear, IsDesign}
use Rattle.fx_strata.specs.Images.{first_in_order, second_in_order}
use Rattle.fx_strata.specs.Laws.{IsNoWorse, CanonicalForEvery, HasFactors}
use Rattle.fx_strata.proofs.Totals.{added, total-more, total-turned, total-adds, counted}
use Rattle.fx_strata.proofs.Free.{IsFree, each-none, word-free, free-back}
use Rattle.fx_strata.proofs.Moved.{nums, in-base, base-in, in-order-design, words-kept, unclear-kept}
use Rattle.fx_strata.proofs.Runs.{words-are-sums}
use Rattle.fx_strata.proofs.Unclear.{unclear-are-sums}
use Rattle.fx_strata.proofs.Raised.{Rows, Full, counts, spans-formed, raised}

-- the unit vectors are among formed rows
formed-member : (q m k n : ℕ) (rows : List (List ℕ)) → IsFormedTo m k rows n → (i : ℕ) → k ≤ i → i < n
    → IsMember (q ^ i) (map (number q) rows)
formed-member q m k n [] h i low high = absurd (omega arith)
formed-member q m k n (r ∷ rows) h i low high = elim h [
  | inl s ↦ inr (formed-member q m k n rows s.1 i low high)
  | inr s ↦ elim (cases_eq i k) [
    | inl e ↦ inl (cc (s.1, number-unit q m k s.0))
    | inr ne ↦ inr (formed-member q m (suc k) n rows s.2 i (omega arith) high)
  ]
]

-- of rows of full rank
module _ (x : Strata) (f : IsField x.q) (bs xs ys : List (List ℕ)) (rows : Rows x bs xs ys)
    (rank : rank_after x.q x.m bs ys + x.h ≡ x.m) (free : IsFree x.q x.m f (xs ++ ys)) where
  module _ (a : List ℕ → List ℕ) (made : MakesForm x.q x.m 0 (bs ++ ys) (λ v. v) a) where
    change : IsChange x.q x.m a
    change = made.change

    split : (j : ℕ) × IsFormedTo x.m 0 (map a bs) j × IsFormedTo x.m j (map a ys) made.rank
    split = formed-append x.m 0 made.rank _ _
        (rw (map-append a bs ys) at made.formed)

    hab : AreVectors x.q x.m (map a bs)
    hab = map-vectors x.q x.m f a change bs rows.bases

    height : split.0 ≡ x.h
    height =
        let e2 = rows.height in
        omega (
          arith,
          rank-formed x.q x.m f 0 split.0 [] _ hab (spans-none x.q x.m f) split.1,
          rank-change x.q x.m f a
              change [] bs tt rows.bases,
        )

    formed-low : IsFormedTo x.m 0 (map a bs) x.h
    formed-low = subst (IsFormedTo x.m 0 (map a bs)) height split.1

    spans : Spans x.q x.m x.h (map a bs)
    spans = spans-formed x.q x.m 0 x.h f [] _ hab (spans-none x.q x.m f) formed-low

    formed-part : IsFormedTo x.m x.h (map a ys) made.rank
    formed-part = rw height at split.2

    whole : made.rank ≡ x.m
    whole =
        omega (
          arith,
          rank-formed x.q x.m f x.h made.rank _ _ (map-vectors x.q x.m f a change ys rows.others) spans
              formed-part,
          rank-change x.q x.m f a change bs ys rows.bases rows.others,
        )

    room : x.h ≤ x.m
    room = omega arith

    formed-high : IsFormedTo x.m x.h (map a ys) x.m
    formed-high = rw whole at formed-part

    keeps : (v : List ℕ) → IsVector x.q x.m v → in_span x.q x.m (base x) (a v) ≡ in_span x.q x.m bs v
    keeps v hv =
        let hav = change.vector v hv in
        bool_same (in_span x.q x.m (base x) (a v)) (in_span x.q x.m (map a bs) (a v))
        (λ e. in_span-holds x.q x.m f _ _ (spans.all (a v) hav (in-base x f room _ hav e)))
        (λ e. base-in x f room _ hav
        (spans-short x.q x.m f x.h _ _ spans (in_span-true x.q x.m f _ _ hab hav e)))
        ∙ in_span-change x.q x.m f a change bs v rows.bases hv

    spanned : (vs : List (List ℕ)) → AreVectors x.q x.m vs → AllByRecursion (λ r. IsShort x.h r) (map a vs)
        → AllByRecursion (λ v. in_span x.q x.m bs v ≡ true) vs
    spanned [] hv h = tt
    spanned (v ∷ vs) hv h = (
      cc (keeps v hv.0, base-in x f room _ (change.vector v hv.0) h.0),
      spanned vs hv.1 h.1,
    )

    inside : (x.w ≡ 0) ⊎ (AllByRecursion (λ v. in_span x.q x.m bs v ≡ true) xs
        × ((i : ℕ) → i < x.h → IsMember (x.q ^ i) (nums x f room a change xs)))
    inside = elim (rows.same) [
      | inl e ↦ inl e
      | inr is ↦
          let formed = rw is at formed-low in
          inr (
            spanned xs rows.firsts (formed-short x.m 0 x.h _ formed),
            λ i high. formed-member x.q x.m 0 x.h _
                (formed-scaled x.q x.m f 0 x.h _ formed) i (omega arith) high,
          )
    ]

    come : (i : ℕ) → x.h ≤ i → i < x.m → IsMember (x.q ^ i) (nums x f room a change ys)
    come i low high = formed-member x.q x.m x.h x.m _
        (formed-scaled x.q x.m f x.h x.m _ formed-high) i low high

    abbrev result : List ℕ
    result = first_in_order x (nums x f room a change xs) ++ second_in_order x (nums x f room a change ys)

    design : IsDesign x result
    design = in-order-design x f room a change bs keeps xs ys rows.first_count rows.other_count rows.firsts rows.others
        free inside rows.outside come

    as-counts : (b : Bool) (k : ℕ) → sums_of x bs (xs ++ ys) b k ≡ counts x bs xs ys b k
    as-counts false k = refl
    as-counts true k = cc (rw rows.first_count at (take-append_seam xs ys))

    result-words : (b : Bool) (k : ℕ) → words x result b k ≡ counts x bs xs ys b k
    result-words b k = words-kept x f room a change bs keeps xs ys rows.first_count rows.other_count rows.firsts
        rows.others free inside rows.outside come b k ∙ as-counts b k

    result-unclear : unclear x result ≡ unclear_sums x bs (xs ++ ys)
    result-unclear = unclear-kept x f room a change bs keeps xs ys rows.first_count rows.other_count rows.firsts
        rows.others free inside rows.outside come

module _ (x : Strata) (f : IsField x.q) (many : HasFactors x) (blocks factors : List (List ℕ))
    (st : IsStratified x blocks factors) where
  abbrev xs : List (List ℕ)
  xs = take x.w factors

  abbrev ys : List (List ℕ)
  ys = drop x.w factors

  abbrev bs : List (List ℕ)
  bs = base_of x blocks factors

  hf : AreVectors x.q x.m factors
  hf = recursion_from_All _ factors st.factor_rows

  hx : AreVectors x.q x.m xs
  hx = each-take _ x.w factors hf

  hb : AreVectors x.q x.m bs
  hb = elim (cases_eq x.w 0) [
    | inl e ↦ subst (AreVectors x.q x.m) (sym (cond-true _ blocks xs (eq-eqb x.w 0 e)))
        (recursion_from_All _ blocks st.block_rows)
    | inr ne ↦ subst (AreVectors x.q x.m) (sym (cond-false _ blocks xs (ne_eqb x.w 0 ne))) hx
  ]

  given-sums : (b : Bool) (k : ℕ) → counts x bs xs ys b k ≡ sums_of x bs factors b k
  given-sums false k = cc (take-append-drop x.w factors)
  given-sums true k = cc (take-append-drop x.w factors)

  given-counts : (b : Bool) (k : ℕ) → counts x bs xs ys b k ≡ words_of x bs factors b k
  given-counts b k =
      cc (given-sums b k, words-are-sums x f bs factors hb hf (let e = st.factor_count in omega arith) b k)

  hy : AreVectors x.q x.m ys
  hy = each-drop _ x.w factors hf

  given-free : IsFree x.q x.m f (xs ++ ys)
  unfolding words_in
  given-free = record { one = cc (given-counts false 1); two = cc (given-counts false 2) }

  -- no outside factor's row is in the base
  abbrev g : ℕ → List ℕ → ℕ
  g = counted x.q x.m f (is_in_base x bs) 1

  none-added : sum_by (added x.q x.m f g xs) ys ≡ 0
  unfolding words_in
  none-added =
      omega (
        arith,
        total-more x.q x.m f g ys xs hy hx,
        total-turned x.q x.m f g xs ys,
        given-counts true 1 ∙
            st.none_confounded,
      )

  out : (vs : List (List ℕ)) → AreVectors x.q x.m vs → AllByRecursion (λ v. added x.q x.m f g xs v ≡ 0) vs
      → AllByRecursion (λ v. v ≡ zeros x.m → ⊥) vs → AllByRecursion (λ v. in_span x.q x.m bs v ≡ false) vs
  out [] hv none some = tt
  out (v ∷ vs) hv none some = (
    false_from_ne_true _ (λ t.
        let one : g 1 v ≡ 1 =
        cc (and_from _ _
        (ap not (false_from_ne_true (is_zero v)
        (λ z. (some.0 (zeros_from_weight v x.m hv.0.len (eqb-true _ 0 z)))))) t) in
        let zero = none.0 in
        omega (arith, total-adds x.q x.m f g v xs hv.0 hx)),
    out vs hv.1 none.1 some.1,
  )

  rows : Rows x bs xs ys
  rows = record {
    bases = hb;
    firsts = hx;
    others = hy;
    same = elim (cases_eq x.w 0) [
      | inl e ↦ inl e
      | inr ne ↦ inr (cond-false _ blocks xs (ne_eqb x.w 0 ne))
    ];
    first_count = (let e' = st.factor_count in omega (arith, length-take x.w factors));
    other_count = (let e' = st.factor_count in omega (arith, length-drop x.w factors));
    height = st.base;
    outside = out ys hy (each-none _ ys none-added)
        (free-nonzero x.q x.m f ys hy (word-free x.q x.m f ys (free-back x.q x.m f xs ys hx hy given-free)));
  }

  given-unclear : unclear_sums x bs (xs ++ ys) ≡ unclear_of x bs factors
  given-unclear = cc (take-append-drop x.w factors, unclear-are-sums x f bs factors hb hf)

  full : Full x f bs xs ys
  full = raised x f x.m bs xs ys rows many (omega arith)

  free : IsFree x.q x.m f (full.firsts ++ full.others)
  unfolding words_in
  free = record {
    one = (let c = st.none_of_one in omega (arith, full.fewer false 1, given-counts false 1));
    two = (let c = st.none_of_two in omega (arith, full.fewer false 2, given-counts false 2));
  }

  pub no_worse : (rows : List ℕ) × IsNoWorse x blocks factors rows
  no_worse =
      let made = to_form x.q x.m f _
      (each-append _ full.bases full.others full.rows.bases full.rows.others) in (
        result x f full.bases full.firsts full.others full.rows full.rank free made.0 made.1,
        record {
          design = design x f full.bases full.firsts full.others full.rows full.rank free made.0 made.1;
          words = λ b k.
              (omega (
                arith,
                result-words x f full.bases full.firsts full.others full.rows full.rank free made.0 made.1
                    b k,
                full.fewer b k,
                given-counts b k,
              ));
          unclear =
              (let c = full.clearer in
              let d = given-unclear in
              omega (
                arith,
                result-unclear x f full.bases full.firsts full.others full.rows full.rank free made.0
                    made.1,
              ));
        },
      )

pub canonical_for_every : (x : Strata) (f : IsField x.q) → CanonicalForEvery x
canonical_for_every x f blocks factors many st = no_worse x f many blocks factors st
