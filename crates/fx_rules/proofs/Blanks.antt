-- Blanks in a text.
use Rattle.std.proofs.Common.{ℕ, ◌≡◌, ◌<◌, ◌≤◌, ◌⊎◌, ◌+◌, ◌-◌, suc, Bool, true, false, List, [], ◌∷◌, length, get_or}
use Rattle.std.proofs.Common.{set, min}
use Rattle.std.proofs.Common.{refl, sym, arith, inl, inr}
use Rattle.std.specs.Prelude.{◌&&◌, nat_le, nat_lt}
use Rattle.std.proofs.lemmas.Bool.{cases_lt, le-leb, le-ltb, lt-leb, lt-ltb}
use Rattle.fx_rules.specs.Parts.{blank_of, blanked_from}

abbrev pub is_inside : ℕ → ℕ → ℕ → Bool
is_inside at end k = nat_le at k && nat_lt k end

left_false : (a b : Bool) → a ≡ false → (a && b) ≡ false
left_false a b h = rw h

right_false : (a b : Bool) → b ≡ false → (a && b) ≡ false
right_false true b h = h
right_false false b h = refl

-- two ends that part no byte
same_inside : (at e f k : ℕ) → (at ≤ k → k < e → k < f) → (at ≤ k → k < f → k < e) → is_inside at e k ≡ is_inside at f k
same_inside at e f k h g = elim (cases_lt k at) [
  | inl low ↦
      let a = lt-leb at k low in
      cc (left_false _ (nat_lt k e) a, left_false _ (nat_lt k f) a)
  | inr high ↦ elim (cases_lt k e) [
    | inl less ↦
        cc ((lt-ltb k e less), (lt-ltb k f (h high less)))
    | inr more ↦
        elim (cases_lt k f) [
          | inl less ↦ let wrong = g high less in absurd (omega arith)
          | inr too ↦ cc ((le-ltb k e more), (le-ltb k f too))
        ]
  ]
]

pub same_blanks : (at e f i : ℕ) (text : List ℕ)
    → ((k : ℕ) → k < i + length text → at ≤ k → k < e → k < f)
    → ((k : ℕ) → k < i + length text → at ≤ k → k < f → k < e)
    → blanked_from at e i text ≡ blanked_from at f i text
same_blanks at e f i [] h g = refl
same_blanks at e f i (b ∷ text) h g =
    let low : i < i + length (b ∷ text) = omega arith in
    let rest = same_blanks at e f (i + 1) text (λ k l. h k (omega arith)) (λ k l. g k (omega arith)) in
    rw (same_inside at e f i (h i low) (g i low), rest)

-- where no byte is between
none_blanked : (at e i : ℕ) (text : List ℕ) → e ≤ at ⊎ e ≤ i → blanked_from at e i text ≡ text
none_blanked at e i [] h = refl
none_blanked at e i (b ∷ text) h =
    let out : is_inside at e i ≡ false = elim h [
      | inl low ↦ elim (cases_lt i at) [
        | inl less ↦ left_false _ _ (lt-leb at i less)
        | inr more ↦ right_false _ _ (le-ltb i e (omega arith))
      ]
      | inr low ↦ right_false _ _ (le-ltb i e low)
    ] in
    let rest = none_blanked at e (i + 1) text (elim h [ inl low ↦ inl low | inr low ↦ inr (omega arith) ]) in
    rw (out, rest)

pub from_start : (at : ℕ) (text : List ℕ) → text ≡ blanked_from at at 0 text
from_start at text = sym (none_blanked at at 0 text (inl (omega arith)))

-- one blank more
pub one_more : (at j i : ℕ) (text : List ℕ) → at ≤ j → i ≤ j → j < i + length text
    → set (blanked_from at j i text) (j - i) (blank_of (get_or (blanked_from at j i text) (j - i) 0))
    ≡ blanked_from at (j + 1) i text
one_more at j i [] low behind inside = absurd (omega arith)
one_more at j i (b ∷ text) low behind inside = elim (cases_lt i j) [
  | inl less ↦
      let k = j - (i + 1) in
      let next : j - i ≡ suc k = omega arith in
      let same =
      same_inside at (j + 1) j i (λ l m. less) (λ l m. omega arith) in
      rw (next, same) (cc (one_more at j (i + 1) text low (omega arith) (omega arith)))
  | inr high ↦
      let same : j ≡ i = omega arith in
      let zero_is : j - i ≡ 0 = omega arith in
      let out = right_false (nat_le at i) _ (le-ltb i j high) in
      let above = le-leb at i (omega arith) in
      let less = lt-ltb i (j + 1) (omega arith) in
      let rest = none_blanked at j (i + 1) text (inr (omega arith)) in
      let more = none_blanked at (j + 1) (i + 1) text (inr (omega arith)) in
      rw (zero_is, out, above, less, rest, more)
]

-- at the end of the loop
pub whole_part : (at end i : ℕ) (text : List ℕ) → at ≤ i → (i ≤ end ⊎ i ≡ at) → end ≤ i
    → blanked_from at i 0 text ≡ blanked_from at end 0 text
whole_part at end i text low h high = same_blanks at i end 0 text
    (λ k l m less. elim h
    [ inl a ↦ omega arith | inr e ↦ absurd (omega arith) ])
    (λ k l m less. omega arith)

pub in_text : (at end least : ℕ) (text : List ℕ) → least ≡ min end (length text)
    → blanked_from at least 0 text ≡ blanked_from at end 0 text
in_text at end least text e = same_blanks at least end 0 text
    (λ k l m less. omega arith)
    (λ k l m less. omega arith)

pub length-blanked_from : (at end i : ℕ) (text : List ℕ) → length (blanked_from at end i text) ≡ length text
length-blanked_from at end i [] = refl
length-blanked_from at end i (b ∷ text) = let rest = length-blanked_from at end (i + 1) text in omega arith

-- the byte at j in the loop
pub next_byte : (at j b : ℕ) (text bytes : List ℕ) → at ≤ j → j < length text → bytes ≡ blanked_from at j 0 text
    → b ≡ blank_of (get_or bytes j 0) → set bytes j b ≡ blanked_from at (j + 1) 0 text
next_byte at j b text bytes low inside e f =
    let zero_off : j - 0 ≡ j = omega arith in
    let step =
    rw zero_off at (one_more at j 0 text low (omega arith) (omega arith)) in
    rw (f, e) step
