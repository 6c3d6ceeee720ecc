-- Places that stand for all vectors, whatever the first rows are.
use Rattle.std.proofs.Common.{ℕ, ◌≡◌, ◌<◌, ◌≤◌, ◌+◌, ◌-◌, ◌^◌, zero, suc, List, [], ◌∷◌, ◌++◌, length, length-append}
use Rattle.std.proofs.Common.{replicate, slice_index, slice_index_or, slice_set, refl, sym, ap, ◌∙◌, arith, inl}
use Rattle.std.proofs.Common.{inr}
use Rattle.std.proofs.lemmas.Bool.{cases_eq, cases_lt}
use Rattle.std.proofs.lemmas.List.{get_or_append_left, get_or-replicate, length-replicate, length-set, get_or-set_other}
use Rattle.std.proofs.lemmas.Grind.{get_or-set_at}
use Rattle.std.proofs.Math.Seq.{get_or-append_seam}
use Rattle.fx_designs.specs.Galois.{digits, IsField}
use Rattle.fx_designs.specs.Vectors.{plus, scale, IsVector}
use Rattle.fx_laws.proofs.Codes.{digits-vector, digits-number, number-zeros, number-below}
use Rattle.fx_laws.proofs.Forms.{scale-one}
use Rattle.fx_laws.proofs.Ranks.{plus-assoc}
use Rattle.fx_laws.proofs.Reorders.{plus-comm}
use Rattle.fx_laws.proofs.Space.{scale-vector, plus-vector, zeros-vector}
use Rattle.fx_demands.specs.declared.forbidden_list.ForbiddenVector.{ForbiddenVector}
use Rattle.fx_points.specs.Sums.{sum_of}
use Rattle.fx_points.proofs.Additions.{minus_of, back_and_there}
use Rattle.fx_barred.specs.declared.kept.Kept.{Kept}
use Rattle.fx_barred.specs.FirstWords.{sum_to, vector_at}
use Rattle.fx_barred.specs.Places.{HasLast, StandFor, IsRange, place_at, place_count}
use Rattle.fx_barred.specs.Keeping.{StandBefore, IsListedBefore, IsStoodByOne}
use Rattle.fx_barred.specs.Keeping.{IsAddedBefore, IsKept, AreKept}

module _ (q m : ℕ) (f : IsField q) where
  some : 0 < q
  some = omega arith

  abbrev vec : ℕ → List ℕ
  vec x = digits q m x

  vec-vector : (x : ℕ) → IsVector q m (vec x)
  vec-vector x = digits-vector q m x some

  sum-vector : (c x y : ℕ) → IsVector q m (plus q (vec x) (scale q c (vec y)))
  sum-vector c x y =
      plus-vector q m f _ _ (vec-vector x) (scale-vector q m f c _ (vec-vector y))

  sum-digits : (c x y : ℕ) → vec (sum_of q c m x y) ≡ plus q (vec x) (scale q c (vec y))
  sum-digits c x y = digits-number q m _ (sum-vector c x y)

  -- what is added first may be added last
  added_last : (c x z r : ℕ) → sum_of q c m (sum_of q 1 m x z) r ≡ sum_of q 1 m (sum_of q c m x r) z
  added_last c x z r =
      let one = scale q 1 (vec z) in
      let row = scale q c (vec r) in
      cc (
        sum-digits 1 x z,
        plus-assoc q f (vec x) one row,
        plus-comm q f one row,
        plus-assoc q f (vec x) row one,
        sum-digits c x r,
      )

  -- the difference of two points
  difference : ℕ → ℕ → ℕ
  difference a b = sum_of q 1 m b (minus_of q m f a)

  difference-is : (a b : ℕ) → b < q ^ m → sum_of q 1 m a (difference a b) ≡ b
  unfolding difference
  difference-is a b low =
      let z = sum_of q 1 m b (minus_of q m f a) in
      let one = λ (x : ℕ). scale-one q m f _ (vec-vector x) in
      cc (one z, plus-comm q f (vec a) (vec z), one a, back_and_there q m f b a low)

  -- a sum is a point
  sum-low : (rows v : List ℕ) (i : ℕ) → sum_to q m rows v i < q ^ m
  sum-low rows v zero =
      rw (number-zeros q m) at (number-below q m _ (zeros-vector q m f))
  sum-low rows v (suc j) =
      number-below q m _ (sum-vector (slice_index v j) (sum_to q m rows v j) (slice_index rows j))

  -- the same codes have the same sum
  sum-same : (rows u v : List ℕ) (d : ℕ) → ((x : ℕ) → x < d → slice_index u x ≡ slice_index v x)
      → sum_to q m rows u d ≡ sum_to q m rows v d
  sum-same rows u v zero same = refl
  sum-same rows u v (suc j) same =
      cc (sum-same rows u v j (λ x low. same x (omega arith)), same j (omega arith))

  module _ (rows other : List ℕ) (i d : ℕ) (stay : (x : ℕ) → d ≤ x → x < i → slice_index other x ≡ slice_index rows x)
    where
      -- over the rows that stay the difference of two sums stays
      moved-next : (v : List ℕ) (z e : ℕ) → d ≤ e → e < i
          → sum_to q m other v e ≡ sum_of q 1 m (sum_to q m rows v e) z
          → sum_to q m other v (suc e) ≡ sum_of q 1 m (sum_to q m rows v (suc e)) z
      moved-next v z e le less h =
          let c = slice_index v e in
          let s = sum_to q m rows v e in
          cc (stay e le less, added_last c s z (slice_index rows e))

      moved : (v : List ℕ) (z n : ℕ) → d + n ≤ i
          → sum_to q m other v d ≡ sum_of q 1 m (sum_to q m rows v d) z
          → sum_to q m other v (d + n) ≡ sum_of q 1 m (sum_to q m rows v (d + n)) z
      moved v z zero low h =
          let at : d ≡ d + zero = omega arith in
          rw at at h
      moved v z (suc n) low h =
          let at : suc (d + n) ≡ d + suc n = omega arith in
          let before : d + n ≤ i = omega arith in
          rw (← at) (moved-next v z (d + n) (omega arith) (omega arith) (moved v z n before h))

      moved-all : (v : List ℕ) (z : ℕ) → d ≤ i
          → sum_to q m other v d ≡ sum_of q 1 m (sum_to q m rows v d) z
          → sum_to q m other v i ≡ sum_of q 1 m (sum_to q m rows v i) z
      moved-all v z low h =
          let at : d + (i - d) ≡ i = omega arith in
          let fits : d + (i - d) ≤ i = omega arith in
          rw at at (moved v z (i - d) fits h)

      -- so vectors with the same codes before them and the same sum have the same sum again
      sum-moved : (u v : List ℕ) → d ≤ i → ((x : ℕ) → x < d → slice_index u x ≡ slice_index v x)
          → sum_to q m rows u i ≡ sum_to q m rows v i → sum_to q m other u i ≡ sum_to q m other v i
      sum-moved u v low same sum =
          let z = difference (sum_to q m rows u d) (sum_to q m other u d) in
          let at_u =
          sym (difference-is (sum_to q m rows u d) _ (sum-low other u d)) in
          let at_v =
          sym (sum-same other u v d same) ∙ at_u ∙ ap (λ s. sum_of q 1 m s z) (sum-same rows u v d same) in
          cc (moved-all u z low at_u, moved-all v z low at_v)

      -- and the places stand for all again
      stand-moved : (words : List ForbiddenVector) (depth : ℕ) (at : ℕ → ℕ) (count : ℕ) → d ≤ i → d ≤ depth
          → StandBefore q m rows words i depth at count → StandFor q m other words i i at count
      stand-moved words depth at count low le h =
          record {
            each = h.each;
            rising = h.rising;
            all = λ k has.
                (let s = h.all k has in
                record {
                  index = s.index;
                  low = s.low;
                  before = s.before;
                  alike =
                      record {
                        sum =
                            sum-moved (vector_at words (at s.index)) (vector_at words k) low
                            (λ x less. s.alike.codes x (omega arith)) s.alike.sum;
                        codes = λ x le less. absurd (omega arith);
                      };
                });
          }

      pub stands-kept : (words : List ForbiddenVector) (depth start end : ℕ) (list : List ℕ) → 0 < length list
          → d ≤ i → d ≤ depth
          → StandBefore q m rows words i depth (slice_index list) (length list)
          → StandFor q m other words i i (place_at list start) (place_count list start end)
      stands-kept words depth start end [] some low le h = absurd (omega arith)
      stands-kept words depth start end (p ∷ list) some low le h =
          stand-moved words depth _ _ low le h

module _ (q m : ℕ) (rows : List ℕ) (words : List ForbiddenVector) (i d start : ℕ) where
  -- no vector
  pub before-start : IsListedBefore q m rows words i d start start []
  before-start =
      record {
        each = λ x low. absurd (omega arith);
        rising = λ x y less low. absurd (omega arith);
        below = λ x low. absurd (omega arith);
        all = λ p le less. absurd (omega arith);
      }

  -- one that is stood for
  pub before-skip : (k : ℕ) (list : List ℕ) → IsStoodByOne q m rows words i d list k
      → IsListedBefore q m rows words i d start k list → IsListedBefore q m rows words i d start (k + 1) list
  before-skip k list one h =
      record {
        each = h.each;
        rising = h.rising;
        below = λ x low. (let b = h.below x low in omega arith);
        all = λ p le less.
            elim (cases_lt p k) [
              | inl before ↦ h.all p le before
              | inr late ↦
                  let same : k ≡ p = omega arith in
                  rw (← same) (record {
                    index = one.0;
                    low = one.1;
                    before = (let b = h.below one.0 one.1 in omega arith);
                    alike = one.2;
                  })
            ];
      }

  -- one that is added
  pub before-add : (k : ℕ) (list : List ℕ) → HasLast words i k
      → IsListedBefore q m rows words i d start k list
      → IsListedBefore q m rows words i d start (k + 1) (list ++ k ∷ [])
  before-add k list has h =
      record {
        each = λ x low.
            elim (cases_lt x (length list)) [
              | inl less ↦ rw (front x less) (h.each x less)
              | inr le ↦ rw (back x (end x low le)) has
            ];
        rising = λ x y less low.
            elim (cases_lt y (length list)) [
              | inl inside ↦
                  let before : x < length list = omega arith in
                  let r = h.rising x y less inside in
                  let at_x = front x before in
                  let at_y = front y inside in
                  omega arith
              | inr le ↦
                  let before : x < length list = (let e = end y low le in omega arith) in
                  let b = h.below x before in
                  let at_x = front x before in
                  let at_y = back y (end y low le) in
                  omega arith
            ];
        below = λ x low.
            elim (cases_lt x (length list)) [
              | inl less ↦ let b = h.below x less in let at_x = front x less in omega arith
              | inr le ↦ let at_x = back x (end x low le) in omega arith
            ];
        all = λ p le less.
            elim (cases_lt p k) [
              | inl before ↦
                  let s = h.all p le before in
                  let same = front s.index s.low in
                  record {
                    index = s.index;
                    low = (let l = s.low in let z = size in omega arith);
                    before = (let b = s.before in omega arith);
                    alike =
                        rw same s.alike;
                  }
              | inr late ↦
                  let is : p ≡ k = omega arith in
                  let here = back (length list) refl in
                  record {
                    index = length list;
                    low = (let z = size in omega arith);
                    before = omega arith;
                    alike =
                        record {
                          sum = cc;
                          codes = λ x _. cc;
                        };
                  }
            ];
      }
    where
      size : length (list ++ k ∷ []) ≡ (length list) + 1
      size = length-append list (k ∷ [])

      front : (x : ℕ) → x < (length list) → slice_index (list ++ k ∷ []) x ≡ slice_index list x
      front x low = get_or_append_left list (k ∷ []) 0 x low

      end : (x : ℕ) → x < length (list ++ k ∷ []) → (length list) ≤ x → x ≡ (length list)
      end x low le = let s = size in omega arith

      back : (x : ℕ) → x ≡ (length list) → slice_index (list ++ k ∷ []) x ≡ k
      back x e = cc (get_or-append_seam list k [] 0)

  -- one vector more
  pub before-next : (k : ℕ) (list longer : List ℕ) → HasLast words i k
      → IsAddedBefore q m rows words i d k list longer → IsListedBefore q m rows words i d start k list
      → IsListedBefore q m rows words i d start (k + 1) longer
  before-next k list longer has added h =
      elim added [
        | inl known ↦
            rw known.same (before-skip k list known.one h)
        | inr new ↦
            rw new (before-add k list has h)
      ]

  -- all vectors
  pub before-end : (end : ℕ) (list : List ℕ) → IsRange words i start end
      → IsListedBefore q m rows words i d start end list
      → StandBefore q m rows words i d (slice_index list) (length list)
  before-end end list range h =
      record {
        each = h.each;
        rising = h.rising;
        all = λ k has. (let w = range.within k has in h.all k w.0 w.1);
      }

-- nothing is kept at first
pub kept-start : (q m room : ℕ) (words : List ForbiddenVector) (kept : List Kept) (count : ℕ) → count ≡ room
    → kept ≡ replicate count (record { rows = []; depth = 0; list = [] }) → AreKept q m room words kept
kept-start q m room words kept count is none =
    let empty : Kept = record { rows = []; depth = 0; list = [] } in
    let len = ap length none ∙ length-replicate count empty in
    record {
      len = cc;
      each = λ i d low.
          rw (ap (λ l. slice_index_or l i d) none ∙ get_or-replicate count i empty d (omega arith))
          (λ some. absurd (omega arith));
    }

-- others for so many rows
pub kept-set : (q m room : ℕ) (words : List ForbiddenVector) (kept : List Kept) (n : ℕ) (made : Kept)
    → AreKept q m room words kept → n < room → IsKept q m words n made
    → AreKept q m room words (slice_set kept n made)
kept-set q m room words kept n made h low is =
    let size = length-set kept n made in
    record {
      len = cc;
      each = λ i d less.
          elim (cases_eq i n) [
            | inl same ↦
                rw (get_or-set_at kept n i made d same (let len = h.len in omega arith)) (rw (← same) at is)
            | inr apart ↦
                rw (get_or-set_other kept n i made d apart) (h.each i d (let s = size in omega arith))
          ];
    }
