-- What the rows of a canonical prefix span: the vectors whose number is below q to their rank.
use Rattle.std.proofs.Common.{ℕ, ◌≡◌, ◌<◌, ◌≤◌, ◌+◌, ◌*◌, ◌^◌, zero, suc, ltb, List, [], ◌∷◌, ◌++◌, length, take, refl}
use Rattle.std.proofs.Common.{sym, subst, ◌∙◌, arith, inl, inr, take-suc}
use Rattle.std.specs.List.{AllByRecursion}
use Rattle.std.proofs.lemmas.Bool.{cases_lt, cases_Bool, lt-ltb, le-ltb}
use Rattle.std.proofs.Math.Nat.{pow-zero, pow-succ', mul-le-mul_left, one-le-pow, lt_of_mul-lt-mul_left}
use Rattle.fx_designs.specs.Galois.{IsField, number, digits}
use Rattle.fx_laws.proofs.Codes.{number-zeros, digits-number}
use Rattle.fx_laws.proofs.Changes.{unit-vector, zeros-short}
use Rattle.fx_designs.specs.Vectors.{zeros, IsVector}
use Rattle.fx_designs.specs.Spans.{in_span, rank_of}
use Rattle.fx_laws.specs.Changes.{unit, IsShort}
use Rattle.fx_laws.specs.Canonical.{IsCanonical, row}
use Rattle.fx_laws.proofs.Space.{AreVectors}
use Rattle.fx_laws.proofs.Ranks.{Spans, spans-none, spans-old, spans-new, spans-short, in_span-true, in_span-holds}
use Rattle.fx_laws.proofs.Ranks.{in_span-none}
use Rattle.fx_laws.proofs.Forms.{rank-snoc}

-- a unit vector past the end is 0
pub unit-past : (m k : ℕ) → m ≤ k → unit m k ≡ zeros m
unit-past zero k h = refl
unit-past (suc m) zero h = absurd (omega arith)
unit-past (suc m) (suc k) h = cc (unit-past m k (omega arith))

each-row : (P : List ℕ → Type 0) (rows : List (List ℕ)) (k : ℕ) → k < length rows → AllByRecursion P rows
    → P (row rows k)
each-row P [] k h all = absurd (omega arith)
each-row P (r ∷ rows) zero h all = all.0
each-row P (r ∷ rows) (suc k) h all = each-row P rows k (omega arith) all.1

module _ (q m s : ℕ) (f : IsField q) (rows : List (List ℕ)) (hr : AreVectors q m rows)
    (can : IsCanonical q m s rows) where
  -- the rows before k span the vectors that are short at their rank
  pub canonical-spans : (k : ℕ) → k ≤ length rows → Spans q m (rank_of q m (take k rows)) (take k rows)
  canonical-spans zero h = spans-none q m f
  canonical-spans (suc k) h =
      let bs : List (List ℕ) = take k rows in
      let r : List ℕ = row rows k in
      let n : ℕ = rank_of q m bs in
      let before : Spans q m n bs = canonical-spans k (omega arith) in
      let hv : IsVector q m r = each-row (λ r. IsVector q m r) rows k (omega arith) hr in
      let next : take (suc k) rows ≡ bs ++ r ∷ [] = take-suc rows k [] (omega arith) in
      let up = rank-snoc q m f [] bs r in
      rw next (elim (cases_Bool (in_span q m bs r)) [
        | inl old ↦
            let same : rank_of q m (bs ++ r ∷ []) ≡ n = up ∙ (rw old (omega arith)) in
            subst (λ z. Spans q m z (bs ++ r ∷ [])) (sym same)
            (spans-old q m f n bs r hv before
            (spans-short q m f n bs r before (in_span-true q m f bs r before.vectors hv old)))
        | inr new ↦
            let more : rank_of q m (bs ++ r ∷ []) ≡ suc n = up ∙ (rw new (omega arith)) in
            let is : r ≡ unit m n = can.new_is_unit k (omega arith) new in
            let room : n < m = elim (cases_lt n m) [
              | inl low ↦ low
              | inr past ↦
                  let zero_is : r ≡ zeros m = is ∙ unit-past m n past in
                  let there =
                  in_span-holds q m f bs r (before.all r hv (subst (IsShort n) (sym zero_is) (zeros-short m n))) in
                  absurd (cc)
            ] in
            subst (λ z. Spans q m z (bs ++ r ∷ [])) (sym more)
            (subst (λ z. Spans q m (suc n) (bs ++ z ∷ [])) (sym is) (spans-new q m f n bs room before))
      ])

-- short is to have a small number
pub short-number : (q m k : ℕ) (f : IsField q) (v : List ℕ) → IsVector q m v → IsShort k v → number q v < q ^ k
short-number q m zero f [] h s = rw (pow-zero q) (omega arith)
short-number q zero zero f (a ∷ v) h s = absurd (let e = h.len in omega arith)
short-number q (suc m) zero f (a ∷ v) h s =
    let rest = short-number q m zero f v (record { len = (let e = h.len in omega arith); codes = h.codes.1 }) s.1 in
    let none : number q v ≡ 0 = (let e = pow-zero q in omega arith) in
    rw (pow-zero q, s.0, none) (omega arith)
short-number q m (suc k) f [] h s = one-le-pow (suc k) q (omega (arith, f.more_than_one))
short-number q zero (suc k) f (a ∷ v) h s = absurd (let e = h.len in omega arith)
short-number q (suc m) (suc k) f (a ∷ v) h s =
    let rest = short-number q m k f v (record { len = (let e = h.len in omega arith); codes = h.codes.1 }) s in
    let wide = mul-le-mul_left {m = number q v + 1} {n = q ^ k} q (omega arith) in
    rw (pow-succ' q k) (omega (arith, h.codes.0))

pub number-short : (q m k : ℕ) (f : IsField q) (v : List ℕ) → IsVector q m v → number q v < q ^ k → IsShort k v
number-short q m zero f [] h s = tt
number-short q zero zero f (a ∷ v) h s = absurd (let e = h.len in omega arith)
number-short q (suc m) zero f (a ∷ v) h s =
    let e = pow-zero q in
    let big = f.more_than_one in
    let none : a + q * number q v ≡ 0 = omega arith in
    let first : a ≡ 0 = omega arith in
    let product : q * number q v ≡ 0 = omega arith in
    let below : number q v < 1 = lt_of_mul-lt-mul_left q (omega arith) in
    let rest : number q v ≡ 0 = omega arith in (
      first,
      number-short q m zero f v (record { len = (let e = h.len in omega arith); codes = h.codes.1 })
          (rw (e, rest) (omega arith)),
    )
number-short q m (suc k) f [] h s = tt
number-short q zero (suc k) f (a ∷ v) h s = absurd (let e = h.len in omega arith)
number-short q (suc m) (suc k) f (a ∷ v) h s =
    let s' : a + q * number q v < q * q ^ k = rw (pow-succ' q k) at s in
    let below : number q v < q ^ k = lt_of_mul-lt-mul_left q (omega arith) in
    number-short q m k f v (record { len = (let e = h.len in omega arith); codes = h.codes.1 }) below

-- in a canonical prefix a row is in the span of the rows before k exactly where its number is below q to their rank
pub canonical-in_span : (q m s : ℕ) (f : IsField q) (rows : List (List ℕ)) → AreVectors q m rows
    → IsCanonical q m s rows → (k : ℕ) → k ≤ length rows → (v : List ℕ) → IsVector q m v
    → in_span q m (take k rows) v ≡ ltb (number q v) (q ^ rank_of q m (take k rows))
canonical-in_span q m s f rows hr can k h v hv =
    let sp = canonical-spans q m s f rows hr can k h in
    let n : ℕ = rank_of q m (take k rows) in
    elim (cases_lt (number q v) (q ^ n)) [
      | inl low ↦
          in_span-holds q m f (take k rows) v (sp.all v hv (number-short q m n f v hv low)) ∙ sym (lt-ltb _ _ low)
      | inr high ↦
          in_span-none q m f (take k rows) v sp.vectors hv
          (λ i. (let low = short-number q m n f v hv (spans-short q m f n (take k rows) v sp i) in omega arith)) ∙ sym
          (le-ltb _ _ high)
    ]

-- unit vectors by their numbers
pub number-unit : (q m k : ℕ) → k < m → number q (unit m k) ≡ q ^ k
number-unit q zero k h = absurd (omega arith)
number-unit q (suc m) zero h = rw (number-zeros q m, pow-zero q) (omega arith)
number-unit q (suc m) (suc k) h = rw (number-unit q m k (omega arith), pow-succ' q k) (omega arith)

pub digits-unit : (q m k : ℕ) (f : IsField q) → k < m → digits q m (q ^ k) ≡ unit m k
digits-unit q m k f h = cc (number-unit q m k h, digits-number q m (unit m k) (unit-vector q m k f))
