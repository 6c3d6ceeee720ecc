-- Under effects, over the factor rows: which rows are barred, and the closing word of a barred row.
use Rattle.std.proofs.Common.{ℕ, ◌≡◌, ◌<◌, ◌≤◌, ◌+◌, ◌-◌, ◌*◌, ◌^◌, ◌⊎◌, zero, suc, true, false, cond, eqb}
use Rattle.std.proofs.Common.{List, [], ◌∷◌, ◌++◌, map, take, drop, length, get_or, slice_index, slice_index_or, Some}
use Rattle.std.proofs.Common.{length-append, length-take, take-append-drop, drop-cons, refl, sym, ◌∙◌, ap, arith}
use Rattle.std.proofs.Common.{inl, inr}
use Rattle.std.specs.Prelude.{unwrap_or}
use Rattle.std.specs.List.{AllByRecursion}
use Rattle.std.proofs.lemmas.Bool.{cases_eq, cases_lt, eq-eqb, ne_eqb, eqb-true}
use Rattle.std.proofs.lemmas.List.{take_more, take_all, length-map, map-append, take_at, drop_at, get_or_default}
use Rattle.std.proofs.lemmas.List.{get_or_append_left}
use Rattle.fx_designs.specs.Galois.{number, digits, neg, IsField}
use Rattle.fx_designs.specs.Vectors.{IsVector, weight, zeros, plus, scale, combination, vectors_of, is_normal}
use Rattle.fx_designs.specs.Problems.{Dimensions, Requirement}
use Rattle.fx_designs.specs.Demands.{is_forbidden_word, is_allowed, must_balance}
use Rattle.fx_designs.specs.Closing.{closing_word}
use Rattle.fx_laws.proofs.Codes.{number-zeros, digits-vector, number-digits, number-below}
use Rattle.fx_laws.proofs.Forms.{scale-one}
use Rattle.fx_laws.proofs.Ranks.{zeros-plus, plus-zero, combination-append, append-vector, number-same}
use Rattle.fx_laws.proofs.Space.{zeros-vector, plus-vector, scale-vector, combination-vector}
use Rattle.fx_laws.proofs.Weights.{weight-zeros, zeros_from_weight}
use Rattle.fx_vectors.proofs.Steps.{are_vectors, drop-vector}
use Rattle.fx_vectors.proofs.Supports.{bit}
use Rattle.fx_vectors.specs.Question.{CanBeAsked}
use Rattle.fx_demands.specs.declared.forbidden_list.ForbiddenVector.{ForbiddenVector}
use Rattle.fx_demands.specs.EffectVectors.{last_factor, IsForbiddenVector, AreAllForbidden}
use Rattle.fx_demands.specs.Completions.{IsClosing}
use Rattle.fx_demands.proofs.Completing.{weight-append}
use Rattle.fx_demands.proofs.Closings.{last-top, later-zeros}
use Rattle.fx_demands.proofs.Choice.{word_is, not_allowed, allowed, last-padded, number-padded}
use Rattle.fx_demands.proofs.Lasts.{last-at, last-zero}
use Rattle.fx_demands.proofs.Supports.{take-vector}
use Rattle.fx_points.specs.Sums.{sum_of}
use Rattle.fx_points.proofs.Additions.{digits-zero, sum-digits, minus_of, there_and_back, back_and_there}
use Rattle.fx_points.proofs.Halves.{power-some}
use Rattle.fx_barred.specs.FirstWords.{sum_to, vector_at, HasSum, HasNone, IsFirst}
use Rattle.fx_barred.proofs.Firsts.{vector-at}
use Rattle.fx_barred.proofs.Longer.{not_before}

code-zero : (a : ℕ) → bit a ≡ 0 → a ≡ 0
code-zero a e =
    elim (cases_eq a 0) [
      | inl none ↦ none
      | inr some ↦ let one : bit a ≡ 1 = rw (ne_eqb a 0 some) refl in absurd (omega arith)
    ]

-- what a last factor says of the codes
pub last-is : (v : List ℕ) (i : ℕ) → last_factor v ≡ i + 1
    → (weight (drop (i + 1) v) ≡ 0) × (get_or v i 0 ≡ 0 → ⊥) × (i < length v)
last-is [] i e = absurd (omega arith)
last-is (a ∷ v) i e =
    elim (cases_eq (last_factor v) 0) [
      | inl none ↦
          let here : cond (eqb a 0) 0 1 ≡ i + 1 =
          cc (eq-eqb _ 0 none) in
          elim (cases_eq a 0) [
            | inl zero_code ↦ let bad : 0 ≡ i + 1 = cc (eq-eqb a 0 zero_code) in
                absurd (omega arith)
            | inr some ↦
                let one : 1 ≡ i + 1 = cc (ne_eqb a 0 some) in
                let at : i ≡ 0 = omega arith in
                rw at (last-none v none, some, omega arith)
          ]
      | inr some ↦
          let here : suc (last_factor v) ≡ i + 1 =
          cc (ne_eqb (last_factor v) 0 some) in
          let j = i - 1 in
          let up : i ≡ suc j = omega arith in
          let rest = last-is v j (omega arith) in
          let plus_one : suc j + 1 ≡ suc (j + 1) = omega arith in
          rw up (ap (λ p. weight (drop p (a ∷ v))) plus_one ∙ rest.0, rest.1, omega arith)
    ]
  where
    last-none : (v : List ℕ) → last_factor v ≡ 0 → weight v ≡ 0
    last-none [] e = refl
    last-none (a ∷ v) e =
        elim (cases_eq (last_factor v) 0) [
          | inl none ↦
              let here : bit a ≡ 0 =
              cc (eq-eqb _ 0 none) in
              cc (code-zero a here, last-none v none)
          | inr some ↦ let here : suc (last_factor v) ≡ 0 =
              cc (ne_eqb (last_factor v) 0 some) in absurd (omega arith)
        ]

module _ (q m : ℕ) (f : IsField q) where
  some-q : 0 < q
  some-q = omega arith

  -- a sum over the first rows, as a vector
  pub sum-is : (rows w : List ℕ) (i : ℕ) → i ≤ length rows → i ≤ length w
      → digits q m (sum_to q m rows w i) ≡ combination q m (take i w) (vectors_of q m (take i rows))
  sum-is rows w zero hr hw = digits-zero q m f
  sum-is rows w (suc j) hr hw =
      let c = get_or w j 0 in
      let r = get_or rows j 0 in
      let up : j + 1 ≡ suc j = omega arith in
      let front = take j w in
      let vs = vectors_of q m (take j rows) in
      let codes = ap (λ n. take n w) (sym up) ∙ take_more w j 0 hw in
      let parts : vectors_of q m (take (suc j) rows) ≡ vs ++ digits q m r ∷ [] =
      cc (
        take_more rows j 0 hr,
        map-append
            (digits q m) (take j rows) (r ∷ []),
      ) in
      let row =
      scale-vector q m f c _ (digits-vector q m r some-q) in
      let len : length front ≡ length vs =
      omega (arith, length-take j w, length-map (take j rows) (digits q m), length-take j rows) in
      let last =
      plus-zero q m f _ row in
      cc (
        sum-digits q m f c (sum_to q m rows w j) r,
        sum-is rows w j (omega arith) (omega arith),
        combination-append q
            m f front (c ∷ []) vs (digits q m r ∷ []) len (digits-vector q m r some-q, tt),
      )

  pub sum-below : (rows w : List ℕ) (i : ℕ) → sum_to q m rows w i < q ^ m
  sum-below rows w zero = power-some q m some-q
  sum-below rows w (suc j) =
      number-below q m _
      (plus-vector q m f _
      _ (digits-vector q m (sum_to q m rows w j) some-q)
      (scale-vector q m f (slice_index w j) _
      (digits-vector q m (slice_index rows j) some-q)))

  zero-first : (y : ℕ) → y < q ^ m → sum_of q 1 m 0 y ≡ y
  zero-first y low =
      let v = digits-vector q m y some-q in
      cc (digits-zero q m f, scale-one q m f _ v, zeros-plus q m f _ v, number-digits q m y some-q low)

  minus-below : (y : ℕ) → minus_of q m f y < q ^ m
  minus-below y =
      number-below q m _
      (plus-vector q m f _ _ (digits-vector q m 0 some-q)
      (scale-vector q m f (neg q 1) _ (digits-vector q m y some-q)))

  -- a sum is zero where one point is minus the other
  pub to-minus : (s x : ℕ) → s < q ^ m → x < q ^ m → sum_of q 1 m s x ≡ 0 → s ≡ minus_of q m f x
  to-minus s x s-low low e =
      cc (
        there_and_back q m f s x s-low,
        zero-first
            _ (minus-below x),
      )

  pub from-minus : (s x : ℕ) → x < q ^ m → s ≡ minus_of q m f x → sum_of q 1 m s x ≡ 0
  from-minus s x low e =
      cc (zero-first _ (minus-below x), back_and_there q m f 0 x (power-some q m some-q))

-- a vector whose last factor comes after the rows, over these and one more
module _ (d : Dimensions) (f : IsField d.q) (rows : List ℕ) (x : ℕ) (x-below : x < d.q ^ d.m) (w : List ℕ)
    (vector : IsVector d.q (d.s + d.t) w) (one : get_or w (length rows) 0 ≡ 1)
    (after : weight (drop (length rows + 1) w) ≡ 0) (short : length rows < d.s + d.t) where
  abbrev k : ℕ
  k = length rows

  abbrev s : ℕ
  s = sum_to d.q d.m rows w k

  total : combination d.q d.m w (vectors_of d.q d.m (rows ++ x ∷ []))
      ≡ plus d.q (digits d.q d.m s) (scale d.q 1 (digits d.q d.m x))
  total =
      let q = d.q in
      let m = d.m in
      let some : 0 < q = omega arith in
      let front = take k w in
      let vs = vectors_of q m rows in
      let v = digits q m x in
      let hv = digits-vector q m x some in
      let low : k < length w = omega arith in
      let up : suc k ≡ k + 1 = omega arith in
      let rest = drop (suc k) w in
      let tail : drop k w ≡ 1 ∷ rest = cc (drop-cons w k 0 low) in
      let whole : w ≡ front ++ 1 ∷ rest = cc (take-append-drop k w) in
      let len : length front ≡ length vs = omega (arith, length-take k w, length-map rows (digits q m)) in
      let none = nothing q m rest in
      let last : combination q m (1 ∷ rest) (v ∷ []) ≡ scale q 1 v =
      cc (plus-zero q m f _ (scale-vector q m f 1 v hv)) in
      let all = take_all k rows (omega arith) in
      let first : digits q m s ≡ combination q m front vs =
      cc (sum-is q m f rows w k (omega arith) (omega arith)) in
      cc (map-append (digits q m) rows (x ∷ []), combination-append q m f front (1 ∷ rest) vs (v ∷ []) len (hv, tt))
    where
      nothing : (q m : ℕ) (u : List ℕ) → combination q m u [] ≡ zeros m
      nothing q m [] = refl
      nothing q m (a ∷ u) = refl

  pub zero-to : combination d.q d.m w (vectors_of d.q d.m (rows ++ x ∷ [])) ≡ zeros d.m → s ≡ minus_of d.q d.m f x
  zero-to e =
      to-minus d.q d.m f s x (sum-below d.q d.m f rows w k) x-below
      (ap (number d.q) (sym total ∙ e) ∙ number-zeros d.q d.m)

  pub zero-from : s ≡ minus_of d.q d.m f x → combination d.q d.m w (vectors_of d.q d.m (rows ++ x ∷ [])) ≡ zeros d.m
  zero-from e =
      let some : 0 < d.q = omega arith in
      number-same d.q d.m f _ _ (combination-vector d.q d.m f w _ (are_vectors d.q d.m (rows ++ x ∷ []) some))
      (zeros-vector d.q d.m f)
      (ap (number d.q) total ∙ from-minus d.q d.m f s x x-below e ∙ sym (number-zeros d.q d.m))

-- codes that come after the first rows change nothing of a sum over these
pub sum-front : (q m : ℕ) (rows v w : List ℕ) (i : ℕ) → i ≤ length v → sum_to q m rows (v ++ w) i ≡ sum_to q m rows v i
sum-front q m rows v w zero low = refl
sum-front q m rows v w (suc j) low =
    cc (get_or_append_left v w 0 j (omega arith), sum-front q m rows v w j (omega arith))

factor-padded : (v : List ℕ) (t : ℕ) → last_factor (v ++ zeros t) ≡ last_factor v
factor-padded [] t = last-zero (zeros t) (weight-zeros t)
factor-padded (a ∷ v) t = rw (factor-padded v t) refl

module _ (d : Dimensions) (f : IsField d.q) (wanted : Requirement) (words : List ForbiddenVector)
    (all : AreAllForbidden d wanted words) (rows : List ℕ) (below : AllByRecursion (λ x. x < d.q ^ d.m) rows)
    (part : length rows < d.s)
    (allowed-so-far : is_allowed d wanted rows ≡ true) (x : ℕ) (x-below : x < d.q ^ d.m) where
  abbrev n : ℕ
  n = d.s + d.t

  abbrev r : ℕ
  r = length rows

  abbrev longer : List ℕ
  longer = rows ++ x ∷ []

  abbrev goal-sum : ℕ
  goal-sum = minus_of d.q d.m f x

  abbrev any : ForbiddenVector
  any = record { vector = []; class = 0; number = 0 }

  whole-part : length rows < d.s + d.t
  whole-part = omega arith

  longer-length : length longer ≡ r + 1
  longer-length = length-append rows (x ∷ [])

  longer-fits : length longer ≤ n
  longer-fits = omega (arith, longer-length)

  -- with zeros for the block factors a word is forbidden where its factor part has to be balanced
  forbidden-is : (w : List ℕ) (j : ℕ) → drop d.s w ≡ zeros j
      → is_forbidden_word d wanted w ≡ must_balance d wanted (take d.s w)
  forbidden-is w j block =
      let none = eq-eqb _ 0 (ap weight block ∙ weight-zeros j) in
      cc

  given : (k : ℕ) → k < length words → IsForbiddenVector d wanted (slice_index_or words k any)
  given k low = all.each k any low

  -- a vector of the list, as a word
  abbrev word : ℕ → List ℕ
  word k = vector_at words k ++ zeros d.t

  listed-vector : (k : ℕ) → k < length words → IsVector d.q d.s (vector_at words k)
  listed-vector k low =
      rw (vector-at words k any low) (given k low).vector

  word-vector : (k : ℕ) → k < length words → IsVector d.q n (word k)
  word-vector k low =
      append-vector d.q d.s d.t _ _ (listed-vector k low) (zeros-vector d.q d.t f)

  word-normal : (k : ℕ) → k < length words → is_normal (word k) ≡ true
  word-normal k low =
      cc (last-padded d.t (vector_at words k), vector-at words k any low, (given k low).normal)

  word-weight : (k : ℕ) → weight (word k) ≡ weight (vector_at words k)
  word-weight k = let parts = weight-append (vector_at words k) (zeros d.t) in let none = weight-zeros d.t in
      omega arith

  ends : (k : ℕ) → HasSum d.q d.m rows words r goal-sum k
      → (drop (r + 1) (word k) ≡ zeros (n - (r + 1))) × (get_or (word k) r 0 ≡ 1)
  ends k h =
      let vector = word-vector k h.there in
      let last = last-is (word k) r (cc (factor-padded (vector_at words k) d.t)) in
      let rest =
      zeros_from_weight _ _ (drop-vector d.q n _ (r + 1) vector).len last.0 in
      let up : suc r ≡ r + 1 = omega arith in
      let tail : drop r (word k) ≡ get_or (word k) r 0 ∷ zeros (n - (r + 1)) =
      cc (drop-cons (word k) r 0 last.2) in
      let normal = eqb-true _ 1 (word-normal k h.there) in
      (rest, cc (last-top r (word k) _ (n - (r + 1)) tail last.1))

  closes : (k : ℕ) → HasSum d.q d.m rows words r goal-sum k → IsClosing d wanted longer (word k)
  closes k h =
      let vector = word-vector k h.there in
      let e = ends k h in
      let at = vector-at words k any h.there in
      let len = (listed-vector k h.there).len in
      record {
        vector = vector;
        on_rows = rw longer-length e.0;
        normal = word-normal k h.there;
        hit = record {
          zero_sum =
              zero-from d f rows x x-below (word k) vector e.1 (ap weight e.0 ∙ weight-zeros (n - (r + 1))) whole-part
              (sum-front d.q d.m rows (vector_at words k) (zeros d.t) r (omega arith) ∙ h.sum);
          forbidden =
              cc (
                forbidden-is (word k) d.t (drop_at (vector_at words k) (zeros d.t) d.s len),
                take_at
                    (vector_at words k) (zeros d.t) d.s len,
                (given k h.there).forbidden,
              );
        };
      }

  -- and each closing word is found
  found : (other : List ℕ) → IsClosing d wanted longer other
      → (k : ℕ) × HasSum d.q d.m rows words r goal-sum k × (word k ≡ other)
  found other c =
      let after =
      rw longer-length at c.on_rows in
      let low : r < length other = omega arith in
      let up : suc r ≡ r + 1 = omega arith in
      let tail : drop r other ≡ get_or other r 0 ∷ zeros (n - (r + 1)) =
      cc (drop-cons other r 0 low)
      in
      let more : zeros (n - r) ≡ 0 ∷ zeros (n - (r + 1)) = let e : n - r ≡ suc (n - (r + 1)) = omega arith in
      cc in
      let some : get_or other r 0 ≡ 0 → ⊥ =
      λ z. not_before d f wanted rows below whole-part allowed-so-far x x-below other c
      (cc) in
      let light = ap weight after ∙ weight-zeros (n - (r + 1)) in
      let last = last-at other r low some light in
      let one =
      sym (last-top r other _ (n - (r + 1)) tail some) ∙ eqb-true _ 1 c.normal
      in
      let block = later-zeros n (r + 1) d.s other (omega arith) after in
      let rest : n - d.s ≡ d.t = omega arith in
      let v = take d.s other in
      let whole : v ++ zeros d.t ≡ other =
      cc (take-append-drop d.s other)
      in
      let vector = take-vector d.q n d.s d.t other c.vector refl in
      let normal : is_normal v ≡ true =
      cc (last-padded d.t v) in
      let listed = all.all v vector normal (sym (forbidden-is other (n - d.s) block) ∙ c.hit.forbidden) in
      let k = listed.0 in
      let len =
      length-map words (λ w. w.vector) in
      let there : k < length words = omega arith in
      let at =
      get_or_default (map (λ w. w.vector) words) k [] v listed.1 ∙ listed.2 in
      let is : word k ≡ other = cc in
      let sum =
      zero-to d f rows x x-below other c.vector one light whole-part c.hit.zero_sum in
      let front : sum_to d.q d.m rows v r ≡ goal-sum =
      cc (sum-front d.q d.m rows v (zeros d.t) r (omega arith)) in (
        k,
        record {
          there = there;
          last = cc (factor-padded v d.t);
          sum = cc;
        },
        is,
      )

  pub open_row : CanBeAsked d wanted → HasNone d.q d.m rows words r goal-sum (length words)
      → is_allowed d wanted longer ≡ true
  open_row asked none =
      allowed d f wanted longer longer-fits asked (λ other c. (let w = found other c in none.none w.0 w.1.there w.1))

  module _ (k : ℕ) (first : IsFirst d.q d.m rows words r goal-sum k) where
    closing : IsClosing d wanted longer (word k)
    closing = closes k first.here

    class-at : (j : ℕ) → HasSum d.q d.m rows words r goal-sum j
        → (slice_index_or words j any).class ≡ 64 * (r + 1) + weight (word j)
    class-at j h =
        cc ((given j h.there).class, vector-at words j any h.there, word-weight j)

    number-at : (j : ℕ) → j < length words → (slice_index_or words j any).number ≡ number d.q (word j)
    number-at j low =
        cc ((given j low).number, vector-at words j any low, number-padded d.q d.t (vector_at words j))

    -- no closing word is preferred to the first
    best : (other : List ℕ) → IsClosing d wanted longer other
        → (weight (word k) < weight other)
        ⊎ ((weight (word k) ≡ weight other) × (number d.q other ≤ number d.q (word k)))
    best other c =
        let w = found other c in
        let j = w.0 in
        let e = ap weight w.2 in
        let here = class-at k first.here in
        let there = class-at j w.1 in
        elim (cases_lt j k) [
          | inl less ↦ absurd (first.none_before j less w.1)
          | inr le ↦ elim (all.in_order k j any le w.1.there) [
            | inl lighter ↦ inl (omega arith)
            | inr same ↦
                let mine = number-at k first.here.there in
                let others = number-at j w.1.there in
                let value : number d.q (word j) ≡ number d.q other = cc in
                let after = same.1 in
                let equal = same.0 in
                inr (omega arith, omega arith)
          ]
        ]

    pub barred_row : is_allowed d wanted longer ≡ false
    barred_row = not_allowed d f wanted longer longer-fits _ closing

    barring_word : closing_word d wanted longer ≡ Some (word k)
    barring_word =
        word_is d f wanted longer longer-fits _
        (record {
          closing = closing;
          weighs = refl;
          greatest = λ other c weighs. elim (best other c) [ inl less ↦ absurd (omega arith) | inr same ↦ same.1 ];
        })
        (record { each = λ other c. elim (best other c) [ inl less ↦ omega arith | inr same ↦ omega arith ] })

    pub barring_number : (e : ForbiddenVector)
        → number d.q (unwrap_or (closing_word d wanted longer) []) ≡ (slice_index_or words k e).number
    barring_number e =
        cc (barring_word, number-at k first.here.there, get_or_default words k any e first.here.there)
