-- The tables of the first vectors, as rows come and go.
use Rattle.std.proofs.Common.{ℕ, ◌≡◌, ◌≢◌, ◌<◌, ◌≤◌, ◌+◌, ◌-◌, ◌*◌, ◌^◌, zero, suc, cond, eqb, List, [], ◌∷◌}
use Rattle.std.proofs.Common.{◌++◌, take, length, length-append, length-take, mul-le-mul_right, slice_index}
use Rattle.std.proofs.Common.{slice_index_or, refl, sym, subst, ap, ◌∙◌, arith, inl, inr}
use Rattle.std.proofs.lemmas.Bool.{cases_eq, cases_lt, eq-eqb, ne_eqb}
use Rattle.std.proofs.lemmas.List.{get_or_append_left}
use Rattle.fx_base.proofs.Numbers.{add_one-mul}
use Rattle.fx_designs.specs.Galois.{IsField}
use Rattle.fx_laws.proofs.Codes.{digits-vector, number-digits}
use Rattle.fx_laws.proofs.Changes.{scale-none}
use Rattle.fx_laws.proofs.Ranks.{plus-zero}
use Rattle.fx_demands.specs.declared.forbidden_list.ForbiddenVector.{ForbiddenVector}
use Rattle.fx_demands.specs.EffectVectors.{last_factor, sorting_class}
use Rattle.fx_demands.proofs.Completing.{weight-length}
use Rattle.fx_barred.specs.Reach.{with_row}
use Rattle.fx_barred.specs.FirstWords.{sum_to, vector_at, HasSum, IsFirst, AreFirst, AreWords, AreFirstWords}
use Rattle.fx_barred.specs.Reached.{ReachedView}
use Rattle.fx_barred.proofs.Tables.{all-but-last}
use Rattle.fx_vectors.specs.declared.shape.TheConstants.{MOST_FACTORS}

-- no times a row
pub with-none : (q m : ℕ) (f : IsField q) (rows : List ℕ) (j x : ℕ) → x < q ^ m → with_row q m rows j x 0 ≡ x
with-none q m f rows j x low =
    let some : 0 < q = omega arith in
    cc (
      scale-none q m f _ (digits-vector q m (slice_index rows j) some),
      plus-zero q m f _ (digits-vector q m x some),
      number-digits q m x some low,
    )

-- a later row changes nothing of a sum
pub sum-before : (q m : ℕ) (rows : List ℕ) (x : ℕ) (v : List ℕ) (i : ℕ) → i ≤ length rows
    → sum_to q m (rows ++ x ∷ []) v i ≡ sum_to q m rows v i
sum-before q m rows x v zero low = refl
sum-before q m rows x v (suc j) low =
    cc (get_or_append_left rows (x ∷ []) 0 j (omega arith), sum-before q m rows x v j (omega arith))

-- a vector of a list
pub vector-at : (words : List ForbiddenVector) (k : ℕ) (d : ForbiddenVector) → k < length words
    → vector_at words k ≡ (slice_index_or words k d).vector
vector-at [] k d low = absurd (omega arith)
vector-at (w ∷ words) zero d low = refl
vector-at (w ∷ words) (suc k) d low = vector-at words k d (omega arith)

module _ (q m : ℕ) (rows : List ℕ) (words : List ForbiddenVector) (i : ℕ) where
  -- the same sums
  module _ (other : List ℕ) (same : (v : List ℕ) → sum_to q m other v i ≡ sum_to q m rows v i) where
    to-other : (y k : ℕ) → HasSum q m rows words i y k → HasSum q m other words i y k
    to-other y k h = record { there = h.there; last = h.last; sum = cc (same (vector_at words k)) }

    from-other : (y k : ℕ) → HasSum q m other words i y k → HasSum q m rows words i y k
    from-other y k h = record { there = h.there; last = h.last; sum = cc (same (vector_at words k)) }

    pub first-same : (bound first : ℕ) (tables : List ℕ) → AreFirst q m rows words i bound first tables
        → AreFirst q m other words i bound first tables
    first-same bound first tables h =
        record {
          none = λ y low z. record { none = λ k kb t. (h.none y low z).none k kb (from-other y k t) };
          some = λ y k low e.
              (let is = h.some y k low e in
              record {
                here = to-other y k is.here;
                none_before = λ j less t. is.none_before j less (from-other y j t);
              });
        }

  -- other tables from some place on
  pub first-kept : (bound first : ℕ) (tables other : List ℕ)
      → ((y : ℕ) → y < q ^ m → slice_index other (first + y) ≡ slice_index tables (first + y))
      → AreFirst q m rows words i bound first tables → AreFirst q m rows words i bound first other
  first-kept bound first tables other same h =
      record {
        none = λ y low z. h.none y low (sym (same y low) ∙ z);
        some = λ y k low e. h.some y k low (sym (same y low) ∙ e);
      }

  -- at the start
  pub first-start : (bound first : ℕ) (tables : List ℕ) → ((y : ℕ) → y < q ^ m → slice_index tables (first + y) ≡ 0)
      → ((k : ℕ) → k < bound → k < length words → last_factor (vector_at words k) ≡ i + 1 → ⊥)
      → AreFirst q m rows words i bound first tables
  first-start bound first tables clear before =
      record {
        none = λ y low z. record { none = λ k kb t. before k kb t.there t.last };
        some = λ y k low e. (let z = clear y low in absurd (omega arith));
      }

  -- one vector more
  pub first-more : (b first y0 : ℕ) (tables other : List ℕ) → HasSum q m rows words i y0 b → y0 < q ^ m
      → ((j : ℕ) → j ≢ first + y0 → slice_index other j ≡ slice_index tables j)
      → slice_index other (first + y0)
      ≡ cond (eqb (slice_index tables (first + y0)) 0) (b + 1) (slice_index tables (first + y0))
      → AreFirst q m rows words i b first tables → AreFirst q m rows words i (b + 1) first other
  first-more b first y0 tables other has low0 others here h =
      let old = slice_index tables (first + y0) in
      record {
        none = λ y low z.
            elim (cases_eq y y0) [
              | inl at ↦
                  let now : slice_index other (first + y0) ≡ 0 =
                  cc in
                  elim (cases_eq old 0) [
                    | inl none ↦ let made = here ∙ ap (λ t. cond t (b + 1) old) (eq-eqb old 0 none) in
                        absurd (omega arith)
                    | inr some ↦ let made = here ∙ ap (λ t. cond t (b + 1) old) (ne_eqb old 0 some) in
                        absurd (some (sym made ∙ now))
                  ]
              | inr apart ↦
                  let same = others (first + y) (λ e. apart (omega arith)) in
                  let before = h.none y low (sym same ∙ z) in
                  record {
                    none = λ k kb t. elim (cases_eq k b) [
                      | inl last ↦
                          apart (sym t.sum ∙ ap (λ k. sum_to q m rows (vector_at words k) i) last ∙ has.sum)
                      | inr less ↦ before.none k (omega arith) t
                    ];
                  }
            ];
        some = λ y k low e.
            elim (cases_eq y y0) [
              | inl at ↦
                  let now : slice_index other (first + y0) ≡ suc k =
                  cc in
                  rw at (elim (cases_eq old 0) [
                    | inl none ↦
                        let made = here ∙ ap (λ t. cond t (b + 1) old) (eq-eqb old 0 none) in
                        let same : b ≡ k = omega arith in
                        subst (λ k. IsFirst q m rows words i y0 k) same
                        (record { here = has; none_before = (h.none y0 low0 none).none })
                    | inr some ↦
                        let made = here ∙ ap (λ t. cond t (b + 1) old) (ne_eqb old 0 some) in
                        h.some y0 k low0 (sym made ∙ now)
                  ])
              | inr apart ↦ let same = others (first + y) (λ e. apart (omega arith)) in h.some y k low (sym same ∙ e)
            ];
      }

  -- at the end
  pub first-end : (b first : ℕ) (tables : List ℕ)
      → ((k : ℕ) → b ≤ k → k < length words → last_factor (vector_at words k) ≡ i + 1 → ⊥)
      → AreFirst q m rows words i b first tables → AreFirst q m rows words i (length words) first tables
  first-end b first tables after h =
      record {
        none = λ y low z.
            (let before = h.none y low z in
            record {
              none = λ k kb t. elim (cases_lt k b)
                  [ inl less ↦ before.none k less t | inr le ↦ after k le t.there t.last ];
            });
        some = h.some;
      }

  -- once each sum has its vector
  pub first-full : (b first : ℕ) (tables : List ℕ) → ((y : ℕ) → y < q ^ m → slice_index tables (first + y) ≢ 0)
      → AreFirst q m rows words i b first tables → AreFirst q m rows words i (length words) first tables
  first-full b first tables full h = record { none = λ y low z. absurd (full y low z); some = h.some }

-- what a class says of the last factor
pub last-of-class : (q s : ℕ) (words : List ForbiddenVector) (k : ℕ) (d : ForbiddenVector) → AreWords q s words
    → s ≤ MOST_FACTORS
    → k < length words
    → (64 * last_factor (vector_at words k) ≤ (slice_index_or words k d).class)
    × ((slice_index_or words k d).class < 64 * last_factor (vector_at words k) + 64)
last-of-class q s words k d h small low =
    let is = h.each k d low in
    let at = vector-at words k d low in
    let class =
    is.1 ∙ ap sorting_class (sym at) in
    let len = ap length at ∙ is.0.len in
    let few = weight-length (vector_at words k) in
    (omega arith, omega arith)

-- with one row less
pub words_pop : (reached : ReachedView) (words : List ForbiddenVector) (tables : List ℕ) → 0 < length reached.rows
    → AreFirstWords reached words tables
    → AreFirstWords (record reached { rows = take (length reached.rows - 1) reached.rows }) words tables
words_pop reached words tables some h =
    let n = length reached.rows - 1 in
    let front = take n reached.rows in
    let last = slice_index reached.rows n in
    let whole = all-but-last reached.rows some in
    let len = length-take n reached.rows in
    record {
      words_are = h.words_are;
      tables_len = h.tables_len;
      first = λ i few low.
          (let same : (v : List ℕ)
          → sum_to reached.q reached.m front v i ≡ sum_to reached.q reached.m reached.rows v i = λ v.
          cc (sum-before reached.q reached.m front last v i few) in
          first-same reached.q reached.m reached.rows words i front same _ _
          tables (h.first i (omega arith) low));
    }

-- with one row more, whose table is made where another row may come
pub words_push : (reached : ReachedView) (x : ℕ) (words : List ForbiddenVector) (tables other : List ℕ)
    → AreFirstWords reached words tables
    → length other ≡ length tables
    → ((k : ℕ) → k < (length reached.rows + 1) * reached.q ^ reached.m → slice_index other k ≡ slice_index tables k)
    → (length reached.rows + 1 < reached.room
    → AreFirst reached.q reached.m (reached.rows ++ x ∷ []) words (length reached.rows + 1) (length words)
    ((length reached.rows + 1) * reached.q ^ reached.m) other)
    → AreFirstWords (record reached { rows = reached.rows ++ x ∷ [] }) words other
words_push reached x words tables other h len kept new =
    let n = length reached.rows in
    let size = reached.q ^ reached.m in
    let long = length-append reached.rows (x ∷ []) in
    record {
      words_are = h.words_are;
      tables_len = cc;
      first = λ i few low.
          elim (cases_eq i (n + 1)) [
            | inl last ↦
                rw last (new (omega arith))
            | inr before ↦
                let less : i ≤ n = omega arith in
                first-same reached.q reached.m reached.rows words i _
                (λ v. sum-before reached.q reached.m reached.rows x v i less) _ _ other
                (first-kept reached.q reached.m reached.rows words i _ _ tables other
                (λ y y_low. kept (i * size + y) (below i y n size less y_low)) (h.first i less low))
          ];
    }
  where
    below : (i y n size : ℕ) → i ≤ n → y < size → i * size + y < (n + 1) * size
    below i y n size le low = let wide = mul-le-mul_right size le in let next =
        add_one-mul n size in omega arith

-- with no rows
pub words_start : (reached : ReachedView) (words : List ForbiddenVector) (tables : List ℕ) → reached.rows ≡ []
    → AreWords reached.q reached.room words → length tables ≡ reached.room * reached.q ^ reached.m
    → AreFirst reached.q reached.m reached.rows words (length reached.rows) (length words)
    (length reached.rows * reached.q ^ reached.m) tables → AreFirstWords reached words tables
words_start reached words tables none are len first =
    let zero_rows = ap length none in
    record {
      words_are = are;
      tables_len = len;
      first = λ i few low.
          (let same : length reached.rows ≡ i = omega arith in
          rw same at first);
    }
