-- The nonzero entries of a word, and the vector that has them.
use Rattle.std.proofs.Common.{◌≡◌, ℕ, zero, suc, ◌+◌, ◌-◌, ◌*◌, ◌^◌, ◌<◌, ◌≤◌, inl, inr, Bool, true, false, ◌&&◌, cond}
use Rattle.std.proofs.Common.{eqb, ltb, leb, List, [], ◌∷◌, drop, length, Option, Some, None, Result, Ok, Err, refl}
use Rattle.std.proofs.Common.{sym, ap, ◌∙◌, arith, subst, eq-eqb, ne_eqb, lt-ltb, le-leb, zero-add}
use Rattle.std.specs.List.{AllByRecursion}
use Rattle.std.proofs.Math.Nat.{pow-suc, pow-zero, mul-pos, one-le-pow, mul_comm, mul_assoc, mul-add, mul-zero, mul-one}
use Rattle.std.proofs.Math.Nat.{one-mul, mul-le-mul_left, pow-le-pow_right}
use Rattle.std.proofs.lemmas.Bool.{cond-true, cond-false, cases_Bool, cases_eq, and_parts, and_from, and_left}
use Rattle.std.proofs.lemmas.Bool.{and_right, ltb-true, leb-true}
use Rattle.fx_designs.specs.Galois.{number}
use Rattle.fx_designs.specs.Problems.{Dimensions}
use Rattle.fx_designs.specs.Vectors.{IsVector, weight}
use Rattle.fx_laws.proofs.Codes.{digits-number, number-digits, number-below}
use Rattle.fx_vectors.proofs.Limits.{order-bounds, words_fit}
use Rattle.fx_vectors.specs.Shape.{IsShape, dimensions_of}
use Rattle.fx_vectors.specs.declared.shape.Shape.{Shape}
use Rattle.fx_laws.proofs.Weights.{weight-none, weight-some}
use Rattle.fx_book.specs.declared.fault.FaultKind.{FaultKind}
use Rattle.fx_book.specs.declared.fault.FaultKind.TheVariants.{Form, Range}
use Rattle.fx_book.specs.declared.word.Placing.{Placing}
use Rattle.fx_book.specs.Words.{vector_of, entries_from, number_with, with_entry, is_entry_after, are_entries_after}
use Rattle.fx_book.specs.Words.{by_entries, is_short}
use Rattle.fx_book.specs.Placing.{placed}

-- no more entries are not zero in the last part of a vector
pub weight-drop : (i : ℕ) (v : List ℕ) → weight (drop i v) ≤ weight v
weight-drop zero v = omega arith
weight-drop (suc i) [] = omega arith
weight-drop (suc i) (a ∷ v) =
    let rest = weight-drop i v in
    elim (cases_eq a 0) [
      | inl none ↦ omega (arith, weight-none v, ap (λ x. weight (x ∷ v)) none)
      | inr some ↦ omega (arith, weight-some a v (omega arith))
    ]

-- a code that is not zero has an entry
pub entry-some : (place a : ℕ) (v : List ℕ) → 0 < a
    → entries_from place (a ∷ v) ≡ (place, a) ∷ entries_from (place + 1) v
entry-some place a v some = cond-false _ _ _ (ne_eqb a 0 (λ e. omega arith))

-- the number of a vector from its entries
pub number-entries : (q i : ℕ) (v : List ℕ) → number_with q (entries_from (i + 1) v) ≡ q ^ i * number q v
number-entries q i [] = sym (mul-zero (q ^ i))
number-entries q i (a ∷ v) =
    let n = number q v in
    let next : i + 1 ≡ suc i = omega arith in
    let power : q ^ (i + 1) ≡ q ^ i * q = cc (pow-suc q i) in
    let rest : number_with q (entries_from (i + 1 + 1) v) ≡ q ^ i * (q * n) =
    cc (number-entries q (i + 1) v, mul_assoc (q ^ i) q n) in
    let place : i + 1 - 1 ≡ i = omega arith in
    elim (cases_eq a 0) [
      | inl none ↦
          cc (zero-add (q * n))
      | inr some ↦
          cc (entry-some (i + 1) a v (omega arith), mul_comm a (q ^ i), mul-add (q ^ i) a (q * n))
    ]

module _ (d : Dimensions) where
  pub entry_bounds : (last : ℕ) (e : ℕ × ℕ) → is_entry_after d last e ≡ true
      → (last < e.0) × (e.0 ≤ d.s + d.t) × (0 < e.1) × (e.1 < d.q)
  entry_bounds last e h =
      let a = and_parts _ _ h in
      let b = and_parts _ _ a.1 in
      let c = and_parts _ _ b.1 in
      (ltb-true _ _ a.0, leb-true _ _ b.0, ltb-true _ _ c.0, ltb-true _ _ c.1)

  pub is_entry : (last : ℕ) (e : ℕ × ℕ) → last < e.0 → e.0 ≤ d.s + d.t → 0 < e.1 → e.1 < d.q
      → is_entry_after d last e ≡ true
  is_entry last e low high some code =
      and_from _ _ (lt-ltb _ _ low) (and_from _ _ (le-leb _ _ high) (and_from _ _ (lt-ltb _ _ some) (lt-ltb _ _ code)))

  one_more : (last room : ℕ) (e : ℕ × ℕ) (entries : List (ℕ × ℕ)) → 0 < room → is_entry_after d last e ≡ true
      → are_entries_after d e.0 (room - 1) entries ≡ true
      → are_entries_after d last room (e ∷ entries) ≡ true
  one_more last zero e entries some own rest = absurd (omega arith)
  one_more last (suc k) e entries some own rest =
      let less : suc k - 1 ≡ k = omega arith in
      and_from _ _ own (rw less at rest)

  -- the entries of a vector over the rows after a place
  pub entries_fit : (last i room : ℕ) (v : List ℕ) → last ≤ i → i + length v ≤ d.s + d.t
      → AllByRecursion (λ c. c < d.q) v → weight v ≤ room
      → are_entries_after d last room (entries_from (i + 1) v) ≡ true
  entries_fit last i room [] low long codes light = refl
  entries_fit last i room (a ∷ v) low long codes light =
      elim (cases_eq a 0) [
        | inl none ↦
            cc (entries_fit last (i + 1) room v (omega arith) (omega arith) codes.1
            (omega (arith, weight-none v, ap (λ x. weight (x ∷ v)) none)))
        | inr some ↦
            let w = weight-some a v (omega arith) in
            cc (
              entry-some (i + 1) a v (omega arith),
              one_more last room (i + 1, a) _ (omega arith)
                  (is_entry last (i + 1, a) (omega arith) (omega arith) (omega arith) codes.0)
                  (entries_fit (i + 1) (i + 1) (room - 1) v (omega arith) (omega arith) codes.1 (omega arith)),
            )
      ]

  -- the vector over so many rows from a place on that has these entries
  abbrev spread : ℕ → ℕ → List (ℕ × ℕ) → List ℕ
  spread place zero entries = []
  spread place (suc n) [] = 0 ∷ spread (place + 1) n []
  spread place (suc n) (e ∷ entries) =
      cond (eqb e.0 place) (e.1 ∷ spread (place + 1) n entries) (0 ∷ spread (place + 1) n (e ∷ entries))

  record IsSpread (last room n : ℕ) (entries : List (ℕ × ℕ)) (v : List ℕ) : Type 0 where
    vector : IsVector d.q n v
    back : entries_from (last + 1) v ≡ entries
    light : weight v ≤ room

  module _ (some_codes : 0 < d.q) where
    zero_before : (last room n : ℕ) (entries : List (ℕ × ℕ)) (v : List ℕ) → IsSpread (last + 1) room n entries v
        → IsSpread last room (suc n) entries (0 ∷ v)
    zero_before last room n entries v h = record {
      vector = record { len = (let e = h.vector.len in omega arith); codes = (some_codes, h.vector.codes) };
      back = h.back;
      light = omega (arith, weight-none v);
    }

    code_before : (last room n : ℕ) (e : ℕ × ℕ) (entries : List (ℕ × ℕ)) (v : List ℕ) → e.0 ≡ last + 1 → 0 < e.1
        → e.1 < d.q → IsSpread (last + 1) room n entries v
        → IsSpread last (suc room) (suc n) (e ∷ entries) (e.1 ∷ v)
    code_before last room n e entries v here some code h = record {
      vector = record { len = (let z = h.vector.len in omega arith); codes = (code, h.vector.codes) };
      back = entry-some (last + 1) e.1 v some ∙ ap (λ l. (last + 1, e.1) ∷ l) h.back ∙ ap (λ x. (x, e.1) ∷ entries)
          (sym here);
      light = omega (arith, weight-some e.1 v some);
    }

    spread_is : (last room n : ℕ) (entries : List (ℕ × ℕ)) → last + n ≡ d.s + d.t
        → are_entries_after d last room entries ≡ true
        → IsSpread last room n entries (spread (last + 1) n entries)
    spread_is last room zero [] all h =
        record { vector = record { len = refl; codes = tt }; back = refl; light = omega arith }
    spread_is last zero zero (e ∷ entries) all h = cc h
    spread_is last (suc room) zero (e ∷ entries) all h = let b = entry_bounds last e (and_parts _ _ h).0 in
        absurd (omega arith)
    spread_is last room (suc n) [] all h =
        zero_before last room n [] _ (spread_is (last + 1) room n [] (omega arith) refl)
    spread_is last zero (suc n) (e ∷ entries) all h = cc h
    spread_is last (suc room) (suc n) (e ∷ entries) all h =
        let p = and_parts _ _ h in
        let b = entry_bounds last e p.0 in
        let with_code : List ℕ = e.1 ∷ spread (last + 1 + 1) n entries in
        let with_zero : List ℕ = 0 ∷ spread (last + 1 + 1) n (e ∷ entries) in
        elim (cases_eq e.0 (last + 1)) [
          | inl here ↦
              subst (IsSpread last (suc room) (suc n) (e ∷ entries))
              (sym (cond-true (eqb e.0 (last + 1)) with_code with_zero (eq-eqb _ _ here)))
              (code_before last room n e entries _ here b.2 b.3
              (spread_is (last + 1) room n entries (omega arith)
              (rw here at p.1)))
          | inr later ↦
              subst (IsSpread last (suc room) (suc n) (e ∷ entries))
              (sym (cond-false (eqb e.0 (last + 1)) with_code with_zero (ne_eqb _ _ later)))
              (zero_before last _ n _ _
              (spread_is (last + 1) (suc room) n (e ∷ entries) (omega arith)
              (and_from _ _ (is_entry (last + 1) e (omega arith) b.1 b.2 b.3) p.1)))
        ]

    -- what the number of entries stands for
    pub record HasEntries (entries : List (ℕ × ℕ)) (word : ℕ) : Type 0 where
      pub back : entries_from 1 (vector_of d word) ≡ entries
      pub short : is_short d word ≡ true
      pub below : word < d.q ^ (d.s + d.t)

    pub has_entries : (entries : List (ℕ × ℕ)) → are_entries_after d 0 8 entries ≡ true
        → HasEntries entries (number_with d.q entries)
    has_entries entries h =
        let n = d.s + d.t in
        let v = spread (0 + 1) n entries in
        let s = spread_is 0 8 n entries (omega arith) h in
        let is : number_with d.q entries ≡ number d.q v =
        cc (
          number-entries d.q 0 v,
          pow-zero d.q,
          one-mul
              (number d.q v),
        ) in
        let vector : vector_of d (number_with d.q entries) ≡ v =
        cc (digits-number d.q n v s.vector) in
        record {
          back = cc;
          short = ap (λ x. leb (weight x) 8) vector ∙ le-leb _ _ s.light;
          below = rw is (number-below d.q n v s.vector);
        }

    pub some_entries : (last room : ℕ) (e : ℕ × ℕ) (entries : List (ℕ × ℕ))
        → are_entries_after d last room (e ∷ entries) ≡ true → 0 < number_with d.q (e ∷ entries)
    some_entries last zero e entries h = cc h
    some_entries last (suc room) e entries h =
        let b = entry_bounds last e (and_parts _ _ h).0 in
        let first = mul-pos b.2 (one-le-pow (e.0 - 1) d.q some_codes) in
        omega arith

    -- a word that is short, from its entries
    pub from_entries : (word : ℕ) → word < d.q ^ (d.s + d.t)
        → number_with d.q (entries_from 1 (vector_of d word)) ≡ word
    from_entries word below =
        let v = vector_of d word in
        cc (
          number-entries d.q 0 v,
          pow-zero d.q,
          one-mul (number d.q v),
          number-digits d.q
              _ word some_codes below,
        )

  -- the number of the entries so far has digits on the rows up to the last
  pub placed_below : (last number : ℕ) (e : ℕ × ℕ) → 0 < d.q → number < d.q ^ last → is_entry_after d last e ≡ true
      → number + e.1 * d.q ^ (e.0 - 1) < d.q ^ e.0
  placed_below last number e some below h =
      let b = entry_bounds last e h in
      let p = d.q ^ (e.0 - 1) in
      let low : last ≤ e.0 - 1 = omega arith in
      let less = pow-le-pow_right some low in
      let wide = mul-le-mul_left {m = e.1 + 1} {n = d.q} p (omega arith) in
      let next : e.0 ≡ suc (e.0 - 1) = omega arith in
      let power : d.q ^ e.0 ≡ p * d.q = cc (pow-suc d.q (e.0 - 1)) in
      omega (arith, mul-add p e.1 1, mul_comm p e.1, mul-one p)

  -- what is read of the entries that come, after those so far
  abbrev pub rest_of : Placing → Option (List (ℕ × ℕ)) → Result ℕ FaultKind
  rest_of placing None = Err Form
  rest_of placing (Some entries) =
      cond (placing.fits && are_entries_after d placing.last placing.room entries)
      (Ok (placing.number + number_with d.q entries)) (Err Range)

  pub at_first : (o : Option (List (ℕ × ℕ)))
      → by_entries d o ≡ rest_of (record { last = 0; room = 8; number = 0; fits = true }) o
  at_first None = refl
  at_first (Some entries) =
      cc (zero-add (number_with d.q entries))

  -- one entry more
  pub next_entry : (placing : Placing) (e : ℕ × ℕ) (o : Option (List (ℕ × ℕ)))
      → rest_of placing (with_entry (Some e) o) ≡ rest_of (placed d placing e) o
  next_entry placing e None = refl
  next_entry placing e (Some entries) = by_state placing.last placing.room placing.number placing.fits
    where
      own : ℕ → ℕ
      own number = number + e.1 * d.q ^ (e.0 - 1)

      by_state : (last room number : ℕ) (fits : Bool)
          → rest_of (record { last = last; room = room; number = number; fits = fits }) (Some (e ∷ entries))
          ≡ rest_of (placed d (record { last = last; room = room; number = number; fits = fits }) e) (Some entries)
      by_state last room number false = refl
      by_state last zero number true = refl
      by_state last (suc k) number true =
          elim (cases_Bool (is_entry_after d last e)) [
            | inl is ↦
                let less : suc k - 1 ≡ k = omega arith in
                ap (λ b. cond (b && are_entries_after d e.0 k entries)
                (Ok (number + (e.1 * d.q ^ (e.0 - 1) + number_with d.q entries))) (Err Range)) is
                ∙ ap (λ n. cond (are_entries_after d e.0 k entries) (Ok n) (Err Range)) (omega arith)
                ∙ sym (ap (λ p. rest_of p (Some entries)) (cond-true (ltb 0 (suc k) && is_entry_after d last e)
                (record { last = e.0; room = suc k - 1; number = number + e.1 * d.q ^ (e.0 - 1); fits = true })
                (record { last = last; room = suc k; number = number; fits = false })
                (and_from _ _ (lt-ltb 0 (suc k) (omega arith)) is))
                ∙ ap (λ x. cond (are_entries_after d e.0 x entries)
                (Ok (number + e.1 * d.q ^ (e.0 - 1) + number_with d.q entries)) (Err Range)) less)
            | inr out ↦
                cond-false (is_entry_after d last e && are_entries_after d e.0 k entries) _ _ (and_left _ _ out)
                ∙ sym (ap (λ p. rest_of p (Some entries)) (cond-false (ltb 0 (suc k) && is_entry_after d last e)
                (record { last = e.0; room = suc k - 1; number = number + e.1 * d.q ^ (e.0 - 1); fits = true })
                (record { last = last; room = suc k; number = number; fits = false }) (and_right _ _ out)))
          ]

  -- what was read when no entry is left
  pub at_last : (placing : Placing) → rest_of placing (Some []) ≡ cond placing.fits (Ok placing.number) (Err Range)
  at_last placing = by_fits placing.fits
    where
      by_fits : (fits : Bool)
          → cond (fits && true) (Ok (placing.number + 0)) (Err Range) ≡ cond fits (Ok placing.number) (Err Range)
      by_fits true = ap Ok (omega arith)
      by_fits false = refl

-- the number of a vector with one entry more is within the limits
pub entry_fits : (shape : Shape) → IsShape shape → (last number : ℕ) (e : ℕ × ℕ) → number < shape.q ^ last
    → is_entry_after (dimensions_of shape) last e ≡ true
    → (number + e.1 * shape.q ^ (e.0 - 1) < shape.q ^ e.0) × (shape.q ^ e.0 < 2 ^ 127)
entry_fits shape h last number e below is =
    let d = dimensions_of shape in
    let b = entry_bounds d last e is in
    (placed_below d last number e (omega (arith, (order-bounds shape.q h.order).0)) below is, words_fit shape h e.0 b.1)
