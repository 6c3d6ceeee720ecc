-- Where the parts of a text stand in it.
use Rattle.std.proofs.Common.{ℕ, ◌≡◌, ◌<◌, ◌≤◌, ◌+◌, zero, suc, Bool, true, false, List, [], ◌∷◌, length, drop, get_or}
use Rattle.std.proofs.Common.{sym, subst, arith, rules, inl, inr, drop-cons, length-drop}
use Rattle.std.specs.Prelude.{Option, Some, None, ◌==◌}
use Rattle.std.specs.List.{prefix_len, AllByRecursion}
use Rattle.std.proofs.lemmas.Bool.{cases_Bool, eqb-true}
use Rattle.std.proofs.lemmas.List.{drop_all}
use Rattle.std.proofs.lemmas.List.Sums.{prefix_len-le-length}
use Rattle.fx_rules.specs.Parts.{IsWithin, begins_rules, begins_step, is_blank, lines_from, parts_among, parts_of}
use Rattle.fx_rules.specs.Parts.{word_at}

abbrev NotBefore : ℕ → List ℕ → Type 0
NotBefore n lines = AllByRecursion (λ i. n ≤ i) lines

-- lines of a text, each behind the blanks in front of the one before
abbrev Rising : List ℕ → List ℕ → Type 0
Rising text [] = Unit {0}
Rising text (i ∷ lines) =
    (i ≤ length text) × (word_at text i ≤ length text) × NotBefore (word_at text i) lines × Rising text lines

-- where a part begins that is not yet ended
abbrev IsBegun : List ℕ → Option ℕ → List ℕ → Type 0
IsBegun text None lines = Unit {0}
IsBegun text (Some at) lines = (at ≤ length text) × NotBefore at lines

among : (text : List ℕ) (begun : Option ℕ) (lines : List ℕ) → Rising text lines → IsBegun text begun lines
    → AllByRecursion (IsWithin (length text)) (parts_among text begun lines)
among text None [] r b = tt
among text (Some at) [] r b = (record { order = b.0; end = omega arith; step = omega arith }, tt)
among text None (i ∷ lines) r b = elim (cases_Bool (begins_rules (drop i text))) [
  | inl is ↦ rw is (among text (Some (word_at text i)) lines r.3 (r.1, r.2))
  | inr other ↦ rw other (among text None lines r.3 tt)
]
among text (Some at) (i ∷ lines) r b = elim (cases_Bool (begins_step (drop i text))) [
  | inl is ↦ rw is (record { order = b.1.0; end = r.0; step = r.1 }, among text None lines r.3 tt)
  | inr other ↦ rw other (among text (Some at) lines r.3 (b.0, b.1.1))
]

later : (n m : ℕ) (lines : List ℕ) → n ≤ m → NotBefore m lines → NotBefore n lines
later n m [] low h = tt
later n m (i ∷ lines) low h = (omega arith, later n m lines low h.1)

-- lines stand where they are looked for
from_here : (fresh : Bool) (k : ℕ) (text : List ℕ) → NotBefore k (lines_from fresh k text)
from_here fresh k [] = tt
from_here true k (b ∷ text) = (omega arith, later k (k + 1) _ (omega arith) (from_here (b == 10) (k + 1) text))
from_here false k (b ∷ text) = later k (k + 1) _ (omega arith) (from_here (b == 10) (k + 1) text)

-- no line begins in blanks
behind_blanks : (k : ℕ) (text : List ℕ) → NotBefore (k + prefix_len is_blank text) (lines_from false k text)
behind_blanks k [] = tt
behind_blanks k (b ∷ text) = elim (cases_Bool (is_blank b)) [
  | inl white ↦
      let inner = no_feed b white in
      let more = later (k + (1 + prefix_len is_blank text)) (k + 1 + prefix_len is_blank text) _ (omega arith)
      (behind_blanks (k + 1) text) in
      rw (white, inner) more
  | inr other ↦ rw other (later _ (k + 1) _ (omega arith) (from_here (b == 10) (k + 1) text))
]
  where
    no_feed : (b : ℕ) → is_blank b ≡ true → (b == 10) ≡ false
    no_feed b white = elim (cases_Bool (b == 10)) [
      | inl is ↦
          let wrong = rw (eqb-true b 10 is) at white in
          absurd (search (rules, wrong))
      | inr other ↦ other
    ]

-- the lines of a text
lines_rise : (text : List ℕ) (n k : ℕ) (fresh : Bool) → k + n ≡ length text
    → Rising text (lines_from fresh k (drop k text))
lines_rise text zero k fresh long =
    let none = drop_all k text (omega arith) in
    rw none tt
lines_rise text (suc n) k fresh long =
    let low : k < length text = omega arith in
    let split = drop-cons text k 0 low in
    let b : ℕ = get_or text k 0 in
    let rest = drop (suc k) text in
    let more : Rising text (lines_from (b == 10) (k + 1) rest) =
    (let e : suc k ≡ k + 1 = omega arith in
    subst (λ j. Rising text (lines_from (b == 10) (k + 1) (drop j text))) (sym e)
    (lines_rise text n (k + 1) (b == 10) (omega arith))) in
    let fits : word_at text k ≤ length text =
    (let a = prefix_len-le-length is_blank (drop k text) in let l = length-drop k text in omega arith) in
    let apart : NotBefore (word_at text k) (lines_from (b == 10) (k + 1) rest) =
    rw split (behind_blanks k (b ∷ rest)) in
    subst (λ t. Rising text (lines_from fresh k t)) (sym split)
    (elim (cases_Bool fresh) [
      | inl is ↦ rw is (omega (arith, low), fits, apart, more)
      | inr other ↦ rw other more
    ])

-- each part is within its text
pub parts_within : (text : List ℕ) → AllByRecursion (IsWithin (length text)) (parts_of text)
unfolding parts_of
parts_within text = among text None _ (lines_rise text (length text) 0 true (omega arith)) tt
