-- Over the block rows: which rows are barred, and the closing word of a barred row.
use Rattle.std.proofs.Common.{ℕ, ◌≡◌, ◌<◌, ◌≤◌, ◌+◌, ◌-◌, ◌*◌, ◌^◌, ◌⊎◌, zero, suc, true, false, ◌||◌, List}
use Rattle.std.proofs.Common.{[], ◌∷◌, ◌++◌, take, drop, length, get_or, Some, take-append-drop, drop-cons}
use Rattle.std.proofs.Common.{refl, sym, ◌∙◌, ap, arith, inl, inr}
use Rattle.std.specs.Prelude.{unwrap_or}
use Rattle.std.specs.List.{AllByRecursion}
use Rattle.std.proofs.lemmas.Bool.{eq-eqb, ne_eqb, eqb-true}
use Rattle.std.proofs.lemmas.List.{take_at, drop_at, take-append-le}
use Rattle.fx_designs.specs.Galois.{number, IsField}
use Rattle.fx_designs.specs.Vectors.{IsVector, weight, zeros, is_zero, vectors_of, combination}
use Rattle.fx_designs.specs.Problems.{Dimensions, Requirement}
use Rattle.fx_designs.specs.Demands.{is_forbidden_word, is_allowed, is_estimated}
use Rattle.fx_designs.specs.Closing.{closing_word}
use Rattle.fx_laws.proofs.Codes.{number-zeros}
use Rattle.fx_laws.proofs.Ranks.{append-vector}
use Rattle.fx_laws.proofs.Space.{zeros-vector}
use Rattle.fx_laws.proofs.Weights.{weight-zeros}
use Rattle.fx_vectors.specs.Question.{CanBeAsked}
use Rattle.fx_demands.specs.Completions.{IsClosing}
use Rattle.fx_demands.proofs.Completing.{weight-cons, weight-append, weight-split, number-split}
use Rattle.fx_demands.proofs.Closings.{last-top}
use Rattle.fx_demands.proofs.Choice.{word_is, not_allowed, allowed}
use Rattle.fx_demands.proofs.Supports.{take-vector}
use Rattle.fx_points.specs.Sums.{sum_of}
use Rattle.fx_barred.specs.FirstWords.{sum_to}
use Rattle.fx_barred.specs.declared.best_words.Best.{Best}
use Rattle.fx_barred.specs.BestWords.{BringsToZero, IsBestWord}
use Rattle.fx_barred.proofs.EffectBars.{sum-front, sum-below, to-minus, from-minus, zero-to, zero-from}
use Rattle.fx_barred.proofs.Longer.{not_before, length-longer, fits-longer}

module _ (d : Dimensions) (f : IsField d.q) (wanted : Requirement) (rows : List ℕ)
    (below : AllByRecursion (λ x. x < d.q ^ d.m) rows) (blocks : d.s ≤ length rows) (part : length rows < d.s + d.t)
    (x : ℕ) (x-below : x < d.q ^ d.m) where
  abbrev n : ℕ
  n = d.s + d.t

  abbrev k : ℕ
  k = length rows

  abbrev longer : List ℕ
  longer = rows ++ x ∷ []

  -- the code 1 for the new row, and zeros after it
  abbrev pub rest : List ℕ
  rest = 1 ∷ zeros (n - (k + 1))

  light-rest : weight rest ≡ 1
  light-rest = let one = weight-cons 1 (zeros (n - (k + 1))) in let none = weight-zeros (n - (k + 1)) in omega arith

  rest-vector : IsVector d.q (n - k) rest
  rest-vector =
      let z = zeros-vector d.q (n - (k + 1)) f in
      record { len = omega arith; codes = (f.more_than_one, z.codes) }

  drop-zeros-after : (w v : List ℕ) (i : ℕ) → drop i w ≡ 1 ∷ v → (get_or w i 0 ≡ 1) × (drop (i + 1) w ≡ v)
  drop-zeros-after [] v zero e = absurd (cc)
  drop-zeros-after [] v (suc i) e = absurd (cc)
  drop-zeros-after (a ∷ w) v zero e = (cc, cc)
  drop-zeros-after (a ∷ w) v (suc i) e = let up : suc i + 1 ≡ suc (i + 1) = omega arith in let r =
      drop-zeros-after w v i e in (r.0, rw up r.1)

  -- a vector over the rows with these
  module _ (u : List ℕ) (len : length u ≡ k) where
    pub front-is : take k (u ++ rest) ≡ u
    front-is = take_at u rest k len

    pub rest-is : drop k (u ++ rest) ≡ rest
    rest-is = drop_at u rest k len

    pub weight-more : weight (u ++ rest) ≡ weight u + 1
    weight-more = let parts = weight-append u rest in omega (arith, light-rest)

    pub number-more : number d.q (u ++ rest) ≡ number d.q u + d.q ^ k
    number-more =
        let parts = number-split d.q k (u ++ rest) in
        let one : number d.q rest ≡ 1 = ap (λ j. 1 + d.q * j) (number-zeros d.q (n - (k + 1))) ∙ omega arith in
        parts ∙ ap (λ l. number d.q l + d.q ^ k * number d.q (drop k (u ++ rest))) front-is ∙ ap
        (λ l. number d.q u + d.q ^ k * number d.q l) rest-is
        ∙ ap (λ j. number d.q u + d.q ^ k * j) one ∙ omega arith

    -- it is forbidden where it is zero or one to be estimated on the factors
    pub forbidden-is : is_forbidden_word d wanted (u ++ rest)
        ≡ (is_zero (take d.s u) || is_estimated wanted (take d.s u))
    forbidden-is =
        let w = u ++ rest in
        let factors = take-append-le d.s u rest (omega arith) in
        let all = weight-split d.s w in
        let mine = weight-split d.s u in
        let same = ap weight factors in
        let some : weight (drop d.s w) ≡ 0 → ⊥ = λ z. omega (arith, weight-more) in
        let block = ne_eqb _ 0 some in
        cc

    pub whole-vector : IsVector d.q k u → IsVector d.q n (u ++ rest)
    whole-vector h = let all : k + (n - k) ≡ n = omega arith in
        rw all at (append-vector d.q k _ u rest h rest-vector)

    ends : (get_or (u ++ rest) k 0 ≡ 1) × (drop (k + 1) (u ++ rest) ≡ zeros (n - (k + 1)))
    ends = drop-zeros-after (u ++ rest) _ k rest-is

    light-after : weight (drop (k + 1) (u ++ rest)) ≡ 0
    light-after = cc (ends.1, weight-zeros (n - (k + 1)))

    sum-same : sum_to d.q d.m rows (u ++ rest) k ≡ sum_to d.q d.m rows u k
    sum-same = sum-front d.q d.m rows u rest k (omega arith)

    pub zero-sum : IsVector d.q k u → sum_of d.q 1 d.m (sum_to d.q d.m rows u k) x ≡ 0
        → combination d.q d.m (u ++ rest) (vectors_of d.q d.m longer) ≡ zeros d.m
    zero-sum h e =
        zero-from d f rows x x-below _ (whole-vector h) ends.0 light-after part
        (sum-same ∙ to-minus d.q d.m f _ x (sum-below d.q d.m f rows u k) x-below e)

    pub sum-zero : IsVector d.q k u → combination d.q d.m (u ++ rest) (vectors_of d.q d.m longer) ≡ zeros d.m
        → sum_of d.q 1 d.m (sum_to d.q d.m rows u k) x ≡ 0
    sum-zero h e =
        from-minus d.q d.m f _ x x-below
        (sym sum-same ∙ zero-to d f rows x x-below _ (whole-vector h) ends.0 light-after part e)

    pub closes : BringsToZero d wanted rows x u → IsClosing d wanted longer (u ++ rest)
    closes h =
        let long = length-longer d f rows below part x x-below in
        let one : ◌≡◌ {A = ℕ} 1 0 → ⊥ = λ z. omega arith in
        record {
          vector = whole-vector h.vector;
          on_rows = rw long ends.1;
          normal = eq-eqb _ 1 (last-top k (u ++ rest) 1 (n - (k + 1)) rest-is one);
          hit = record { zero_sum = zero-sum h.vector h.sum; forbidden = cc forbidden-is };
        }

  -- a whole word is such a vector where it ends so
  pub split : (w : List ℕ) → IsVector d.q n w → drop k w ≡ rest → (IsVector d.q k (take k w)) × (take k w ++ rest ≡ w)
  split w h e = (
    take-vector d.q n k (n - k) w h (omega arith),
    cc (take-append-drop k w),
  )

  pub brings : (w : List ℕ) → IsVector d.q n w → drop k w ≡ rest → is_forbidden_word d wanted w ≡ true
      → combination d.q d.m w (vectors_of d.q d.m longer) ≡ zeros d.m → BringsToZero d wanted rows x (take k w)
  brings w h e forbidden zero_sum =
      let parts = split w h e in
      let len = parts.0.len in
      record {
        vector = parts.0;
        factors = cc (forbidden-is (take k w) len);
        sum = sum-zero (take k w) len parts.0
            (ap (λ l. combination d.q d.m l (vectors_of d.q d.m longer)) parts.1 ∙ zero_sum);
      }

  module _ (allowed-so-far : is_allowed d wanted rows ≡ true) where
    -- each closing word ends so
    found : (other : List ℕ) → IsClosing d wanted longer other
        → BringsToZero d wanted rows x (take k other) × (take k other ++ rest ≡ other)
    found other c =
        let long = length-longer d f rows below part x x-below in
        let after =
        rw long at c.on_rows in
        let low : k < length other = omega arith in
        let up : suc k ≡ k + 1 = omega arith in
        let tail : drop k other ≡ get_or other k 0 ∷ zeros (n - (k + 1)) =
        cc (drop-cons other k 0 low) in
        let more : zeros (n - k) ≡ 0 ∷ zeros (n - (k + 1)) = let e : n - k ≡ suc (n - (k + 1)) = omega arith in
        cc in
        let some : get_or other k 0 ≡ 0 → ⊥ =
        λ z. not_before d f wanted rows below part allowed-so-far x x-below other c
        (cc) in
        let one =
        sym (last-top k other _ (n - (k + 1)) tail some) ∙ eqb-true _ 1 c.normal
        in
        let is : drop k other ≡ rest = cc in
        (brings other c.vector is c.hit.forbidden c.hit.zero_sum, (split other c.vector is).1)

    pub open_row : CanBeAsked d wanted → ((u : List ℕ) → BringsToZero d wanted rows x u → ⊥)
        → is_allowed d wanted longer ≡ true
    open_row asked none =
        allowed d f wanted longer (fits-longer d f rows below part x x-below) asked
        (λ other c. none (take k other) (found other c).0)

    module _ (b : Best) (h : IsBestWord (BringsToZero d wanted rows x) d.q b) where
      abbrev word : List ℕ
      word = h.word ++ rest

      closing : IsClosing d wanted longer word
      closing = closes h.word h.holds.vector.len h.holds

      pub barred_row : is_allowed d wanted longer ≡ false
      barred_row = not_allowed d f wanted longer (fits-longer d f rows below part x x-below) word closing

      best : (other : List ℕ) → IsClosing d wanted longer other
          → (weight word < weight other) ⊎ ((weight word ≡ weight other) × (number d.q other ≤ number d.q word))
      best other c =
          let v = found other c in
          let u = take k other in
          let mine = weight-more h.word h.holds.vector.len in
          let theirs = weight-more u v.0.vector.len in
          let my_number = number-more h.word h.holds.vector.len in
          let their_number = number-more u v.0.vector.len in
          let w = ap weight v.1 in
          let m = ap (number d.q) v.1 in
          elim (h.none_better u v.0) [
            | inl less ↦ inl (omega arith)
            | inr same ↦ inr (omega arith, omega arith)
          ]

      barring_word : closing_word d wanted longer ≡ Some word
      barring_word =
          word_is d f wanted longer (fits-longer d f rows below part x x-below) word
          (record {
            closing = closing;
            weighs = refl;
            greatest = λ other c weighs. elim (best other c) [ inl less ↦ absurd (omega arith) | inr same ↦ same.1 ];
          })
          (record {
            each = λ other c. elim (best other c) [ inl less ↦ omega arith | inr same ↦ omega arith ];
          })

      pub barring_number : number d.q (unwrap_or (closing_word d wanted longer) []) ≡ d.q ^ k + b.number
      barring_number =
          let more = number-more h.word h.holds.vector.len in
          ap (λ o. number d.q (unwrap_or o [])) barring_word ∙ more ∙ omega arith
