-- Vectors that are supported on some places, and the codes at these.
use Rattle.std.proofs.Common.{ℕ, ◌≡◌, ◌≢◌, ◌<◌, ◌≤◌, ◌+◌, ◌-◌, zero, suc, ◌⊎◌, inl, inr, List, [], ◌∷◌, length}
use Rattle.std.proofs.Common.{set, get_or, length-set, refl, sym, ◌∙◌, ap}
use Rattle.std.proofs.Common.{arith}
use Rattle.std.specs.List.{AllByRecursion}
use Rattle.std.proofs.lemmas.Bool.{cases_eq}
use Rattle.std.proofs.lemmas.List.{get_or-set_same}
use Rattle.fx_designs.specs.Galois.{add, mul, IsField}
use Rattle.fx_designs.specs.Vectors.{IsVector, dot, zeros}
use Rattle.fx_laws.proofs.Linear.{dot_code, dot-nil, zero-add-code, zero-mul}
use Rattle.fx_base.specs.Members.{Has}
use Rattle.fx_derived.specs.Codes.{codes_at}

-- places from 1 that differ
abbrev pub Apart : List ℕ → Type 0
Apart [] = Unit {0}
Apart (p ∷ places) = (1 ≤ p) × AllByRecursion (λ r. (1 ≤ r) × (r ≢ p)) places × Apart places

-- zero at every other place
abbrev pub Supported : List ℕ → List ℕ → Type 0
Supported places w = (i : ℕ) → (get_or w i 0 ≡ 0) ⊎ Has (i + 1) places

-- an entry that is set to 0
set_zero : (w : List ℕ) (i : ℕ) → get_or (set w i 0) i 0 ≡ 0
set_zero [] i = refl
set_zero (a ∷ w) zero = refl
set_zero (a ∷ w) (suc i) = set_zero w i

set_else : (w : List ℕ) (i k c : ℕ) → k ≢ i → get_or (set w i c) k 0 ≡ get_or w k 0
set_else [] i k c ne = refl
set_else (a ∷ w) zero zero c ne = absurd (ne refl)
set_else (a ∷ w) zero (suc k) c ne = refl
set_else (a ∷ w) (suc i) zero c ne = refl
set_else (a ∷ w) (suc i) (suc k) c ne = set_else w i k c (λ e. ne (ap suc e))

-- the codes at other places stay
kept : (w places : List ℕ) (p c : ℕ) → 1 ≤ p → AllByRecursion (λ r. (1 ≤ r) × (r ≢ p)) places
    → codes_at places (set w (p - 1) c) ≡ codes_at places w
kept w [] p c h each = refl
kept w (r ∷ places) p c h each =
    cc (set_else w (p - 1) (r - 1) c (λ e. each.0.1 (let k = each.0.0 in omega arith)), kept w places p c h each.1)

module _ (q : ℕ) (f : IsField q) where
  some : 0 < q
  some = omega arith

  none-dot : (w x : List ℕ) → ((i : ℕ) → get_or w i 0 ≡ 0) → dot q w x ≡ 0
  none-dot [] x h = refl
  none-dot (a ∷ w) [] h = refl
  none-dot (a ∷ w) (b ∷ x) h =
      cc ((h 0), zero-mul q f b, (none-dot w x (λ i. h (suc i))), zero-add-code q f 0 some)

  -- one entry apart
  dot-apart : (w x : List ℕ) (i : ℕ) → dot q w x ≡ add q (mul q (get_or w i 0) (get_or x i 0)) (dot q (set w i 0) x)
  dot-apart [] x i = cc (zero-mul q f (get_or x i 0), zero-add-code q f 0 some)
  dot-apart (a ∷ w) [] i =
      cc (f.mul_zero (get_or (a ∷ w) i 0), dot-nil q (set (a ∷ w) i 0), zero-add-code q f 0 some)
  dot-apart (a ∷ w) (b ∷ x) zero =
      cc (zero-mul q f b, zero-add-code q f _ (dot_code q f w x))
  dot-apart (a ∷ w) (b ∷ x) (suc i) =
      let t = mul q (get_or w i 0) (get_or x i 0) in
      let d = dot q (set w i 0) x in
      cc (
        dot-apart w x i,
        f.add_assoc (mul q a b) t d,
        f.add_comm (mul q a b) t,
        f.add_assoc t
            (mul q a b) d,
      )

  -- the places tell all of a vector that is supported on them
  pub dot-at : (places w x : List ℕ) → Apart places → Supported places w
      → dot q (codes_at places w) (codes_at places x) ≡ dot q w x
  dot-at [] w x apart on = sym (none-dot w x (λ i. elim (on i) [ inl z ↦ z | inr bad ↦ absurd bad ]))
  dot-at (p ∷ places) w x apart on =
      let less = set w (p - 1) 0 in
      let left : Supported places less = λ i. elim (cases_eq i (p - 1)) [
        | inl e ↦ inl (ap (λ k. get_or less k 0) e ∙ set_zero w (p - 1))
        | inr ne ↦ elim (on i) [
          | inl z ↦ inl (set_else w _ i 0 ne ∙ z)
          | inr here ↦ elim here [
            | inl e ↦ absurd (ne (omega arith))
            | inr there ↦ inr there
          ]
        ]
      ] in
      cc (
        kept w places p 0 apart.0 apart.1,
        dot-at places less x
            apart.2 left,
        dot-apart w x (p - 1),
      )

-- some codes put at places
abbrev pub put_at : List ℕ → List ℕ → List ℕ → List ℕ
put_at [] codes v = v
put_at (p ∷ places) [] v = v
put_at (p ∷ places) (c ∷ codes) v = set (put_at places codes v) (p - 1) c

set-codes : (q : ℕ) (v : List ℕ) (i c : ℕ) → c < q → AllByRecursion (λ x. x < q) v
    → AllByRecursion (λ x. x < q) (set v i c)
set-codes q [] i c low h = tt
set-codes q (a ∷ v) zero c low h = (low, h.1)
set-codes q (a ∷ v) (suc i) c low h = (h.0, set-codes q v i c low h.1)

pub length-put : (places codes v : List ℕ) → length (put_at places codes v) ≡ length v
length-put [] codes v = refl
length-put (p ∷ places) [] v = refl
length-put (p ∷ places) (c ∷ codes) v = length-set (put_at places codes v) (p - 1) c ∙ length-put places codes v

put-codes : (q : ℕ) (places codes v : List ℕ) → AllByRecursion (λ x. x < q) codes → AllByRecursion (λ x. x < q) v
    → AllByRecursion (λ x. x < q) (put_at places codes v)
put-codes q [] codes v hc hv = hv
put-codes q (p ∷ places) [] v hc hv = hv
put-codes q (p ∷ places) (c ∷ codes) v hc hv =
    set-codes q _ _ c hc.0 (put-codes q places codes v hc.1 hv)

pub put-vector : (q n : ℕ) (places codes v : List ℕ) → AllByRecursion (λ x. x < q) codes → IsVector q n v
    → IsVector q n (put_at places codes v)
put-vector q n places codes v hc hv =
    record { len = cc (length-put places codes v); codes = put-codes q places codes v hc hv.codes }

-- they are at their places
pub put_back : (places codes v : List ℕ) → Apart places → AllByRecursion (λ p. p ≤ length v) places
    → length codes ≡ length places → codes_at places (put_at places codes v) ≡ codes
put_back [] [] v apart fits long = refl
put_back [] (c ∷ codes) v apart fits long = absurd (omega arith)
put_back (p ∷ places) [] v apart fits long = absurd (omega arith)
put_back (p ∷ places) (c ∷ codes) v apart fits long =
    let before = put_at places codes v in
    let room : p - 1 < length before =
    (let a = apart.0 in let b = fits.0 in omega (arith, length-put places codes v)) in
    cc (
      get_or-set_same before (p - 1) c 0 room,
      kept before places p c apart.0 apart.1,
      put_back places codes v apart.2
          fits.1 (omega arith),
    )

zero_entry : (n i : ℕ) → get_or (zeros n) i 0 ≡ 0
zero_entry zero i = refl
zero_entry (suc n) zero = refl
zero_entry (suc n) (suc i) = zero_entry n i

-- and nowhere else
pub put_on : (places codes : List ℕ) (n : ℕ) → Apart places → Supported places (put_at places codes (zeros n))
put_on [] codes n apart i = inl (zero_entry n i)
put_on (p ∷ places) [] n apart i = inl (zero_entry n i)
put_on (p ∷ places) (c ∷ codes) n apart i =
    elim (cases_eq i (p - 1)) [
      | inl e ↦ inr (inl (let k = apart.0 in omega arith))
      | inr ne ↦ elim (put_on places codes n apart.2 i) [
        | inl z ↦ inl (set_else (put_at places codes (zeros n)) _ i c ne ∙ z)
        | inr there ↦ inr (inr there)
      ]
    ]

pub zeros_at : (places : List ℕ) (n : ℕ) → codes_at places (zeros n) ≡ zeros (length places)
zeros_at [] n = refl
zeros_at (p ∷ places) n = cc (zero_entry n (p - 1), zeros_at places n)

-- a vector that is zero on its places is zero
pub zero_on : (places w : List ℕ) → Supported places w → codes_at places w ≡ zeros (length places) → (i : ℕ)
    → get_or w i 0 ≡ 0
zero_on places w on none i =
    elim (on i) [
      | inl z ↦ z
      | inr there ↦ at_place places there none
    ]
  where
    at_place : (rest : List ℕ) → Has (i + 1) rest → codes_at rest w ≡ zeros (length rest) → get_or w i 0 ≡ 0
    at_place [] bad e = absurd bad
    at_place (p ∷ rest) here e =
        elim here [
          | inl is ↦
              let first : get_or w (p - 1) 0 ≡ 0 = cc in
              let k : i ≡ p - 1 = omega arith in
              cc
          | inr there ↦ at_place rest there (cc)
        ]

pub same_zeros : (n : ℕ) (w : List ℕ) → length w ≡ n → ((i : ℕ) → get_or w i 0 ≡ 0) → w ≡ zeros n
same_zeros zero [] long h = refl
same_zeros zero (a ∷ w) long h = absurd (omega arith)
same_zeros (suc n) [] long h = absurd (omega arith)
same_zeros (suc n) (a ∷ w) long h =
    cc (h 0, same_zeros n w (omega arith) (λ i. h (suc i)))
