-- How the reader moves over a piece of a text, whatever follows it.
use Rattle.std.proofs.Common.{ℕ, ◌≡◌, ◌+◌, Bool, true, false, List, [], ◌∷◌, ◌++◌, refl, ap, ◌∙◌, append_assoc}
use Rattle.std.proofs.Common.{append-nil, rules, inl, inr}
use Rattle.std.specs.Prelude.{Ok, ◌&&◌, ◌||◌, ◌==◌}
use Rattle.std.proofs.lemmas.Bool.{cases_Bool}
use Rattle.fx_lexer.specs.Bytes.{begins_word, is_digit, is_word_byte}
use Rattle.fx_rules.specs.declared.reading.Reading.{Reading}
use Rattle.fx_rules.specs.Reading.{goes_on, is_formed, is_name_byte, is_open, read_on, signed, worded_at}

-- with this open word the reader comes over this text to that open word
abbrev pub Moves : List (List ℕ) → List ℕ → Reading → List ℕ → List ℕ → Reading → Type 0
Moves factors word r text word' r' = (rest : List ℕ) (at : ℕ)
    → (to : ℕ) × (read_on factors word at (text ++ rest) r ≡ read_on factors word' to rest r')

left_true : (a b : Bool) → (a && b) ≡ true → a ≡ true
left_true true b h = refl
left_true false b h = h

right_true : (a b : Bool) → (a && b) ≡ true → b ≡ true
right_true true b h = h
right_true false b h = absurd (search rules)

left_false : (a b : Bool) → (a || b) ≡ false → a ≡ false
left_false true b h = absurd (search (rules, h))
left_false false b h = refl

right_false : (a b : Bool) → (a || b) ≡ false → b ≡ false
right_false true b h = absurd (search (rules, h))
right_false false b h = h

and_false : (a : Bool) → (a && false) ≡ false
and_false true = refl
and_false false = refl

-- whether these bytes go on with a word, one after the other
abbrev pub goes_all : List ℕ → List ℕ → Bool
goes_all word [] = true
goes_all word (b ∷ w) = goes_on word b && goes_all (word ++ b ∷ []) w

-- whether they are one word
abbrev pub is_one : List ℕ → Bool
is_one [] = false
is_one (b ∷ w) = is_name_byte b && goes_all (b ∷ []) w

-- no other byte goes on with a word
no_more : (c : ℕ) (w : List ℕ) (b : ℕ) → is_name_byte b ≡ false → goes_on (c ∷ w) b ≡ false
no_more c w b out =
    let letter : is_word_byte b ≡ false = left_false _ _ out in
    let digit : is_digit b ≡ false = right_false (begins_word b) (is_digit b) letter in
    let close : (b == 93) ≡ false = right_false (b == 91) (b == 93) (right_false (is_word_byte b) _ out) in
    elim (cases_Bool (c == 91)) [
      | inl is ↦ rw (is, digit, close) (and_false (is_open (c ∷ w)))
      | inr other ↦
          let none : (is_word_byte c && is_word_byte b) ≡ false =
          cc (and_false (is_word_byte c)) in
          rw other none
    ]

module _ (factors : List (List ℕ)) where
  pub stays : (word : List ℕ) (r : Reading) → Moves factors word r [] word r
  stays word r rest at = (at, refl)

  pub moves_on : (word word' word'' : List ℕ) (r r' r'' : Reading) (text more : List ℕ)
      → Moves factors word r text word' r' → Moves factors word' r' more word'' r''
      → Moves factors word r (text ++ more) word'' r''
  moves_on word word' word'' r r' r'' text more a b rest at =
      let first = a (more ++ rest) at in
      let second = b rest first.0 in (
        second.0,
        cc (append_assoc text more rest),
      )

  -- over bytes that go on with a word
  more_letters : (w word : List ℕ) (r : Reading) → goes_all word w ≡ true → Moves factors word r w (word ++ w) r
  more_letters [] word r h rest at = (at, cc (append-nil word))
  more_letters (b ∷ w) word r h rest at =
      let is : goes_on word b ≡ true = left_true _ _ h in
      let next = more_letters w (word ++ b ∷ []) r (right_true _ _ h) rest (at + 1) in
      let step : read_on factors word at (b ∷ (w ++ rest)) r
      ≡ read_on factors (word ++ b ∷ []) (at + 1) (w ++ rest) r = rw is in (
        next.0,
        step ∙ (next.1 ∙ ap (λ z. read_on factors z next.0 rest r) (append_assoc word (b ∷ []) w)),
      )

  -- over a word
  pub letters : (w : List ℕ) (r : Reading) → is_one w ≡ true → Moves factors [] r w w r
  letters [] r h rest at = absurd (search (rules, h))
  letters (b ∷ w) r h rest at =
      let is : is_name_byte b ≡ true = left_true _ _ h in
      let next = more_letters w (b ∷ []) r (right_true _ _ h) rest (at + 1) in
      let step : read_on factors [] at (b ∷ (w ++ rest)) r ≡ read_on factors (b ∷ []) (at + 1) (w ++ rest) r =
      rw is in
      (next.0, step ∙ next.1)

  -- over a byte that ends a word
  pub closes : (c b : ℕ) (w : List ℕ) (r between after : Reading) → is_name_byte b ≡ false → is_formed (c ∷ w) ≡ true
      → worded_at r.stage factors (c ∷ w) r.building ≡ Ok between → signed b between ≡ Ok after
      → Moves factors (c ∷ w) r (b ∷ []) [] after
  closes c b w r between after out formed e f rest at =
      let stop = no_more c w b out in (at + 1, rw (stop, formed, e, f, out))

  -- over a byte where no word is open
  pub passes : (b : ℕ) (r after : Reading) → is_name_byte b ≡ false → signed b r ≡ Ok after
      → Moves factors [] r (b ∷ []) [] after
  passes b r after out f rest at = (at + 1, rw (f, out))
