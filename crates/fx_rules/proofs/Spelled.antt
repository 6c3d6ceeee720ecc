-- Steps of the loop over the bytes of a text of rules.
use Rattle.std.proofs.Common.{ℕ, ◌≡◌, ◌<◌, ◌≤◌, ◌+◌, ◌-◌, suc, true, false, List, [], ◌∷◌, ◌++◌, length, take}
use Rattle.std.proofs.Common.{drop}
use Rattle.std.proofs.Common.{get_or, sym, ap, ◌∙◌, arith, inl, inr, drop-cons, take-suc, length-drop}
use Rattle.std.proofs.lemmas.List.{get_or-drop}
use Rattle.std.specs.Prelude.{Result, Ok, if◌then◌else◌}
use Rattle.std.proofs.lemmas.Bool.{cases_Bool}
use Rattle.fx_rules.specs.declared.problem.RulesFault.{RulesFault}
use Rattle.fx_rules.specs.declared.reading.Reading.{Reading}
use Rattle.fx_rules.specs.Building.{Built}
use Rattle.fx_rules.specs.Reading.{begun_by, goes_on, is_name_byte, read_on, stepped}

-- of this text the bytes before i are read, those from `from` on are of a word, and all that is read is `whole`
abbrev pub IsRead : List (List ℕ) → List ℕ → Result Built RulesFault → Reading → ℕ → ℕ → Type 0
IsRead factors text whole r from i =
    (from ≤ i) × (read_on factors (take (i - from) (drop from text)) i (drop i text) r ≡ whole)

module _ (factors : List (List ℕ)) (text : List ℕ) (whole : Result Built RulesFault) where
  pub word_goes_on : (r : Reading) (from i : ℕ) → i < length text
      → goes_on (take (i - from) (drop from text)) (get_or text i 0) ≡ true
      → IsRead factors text whole r from i → IsRead factors text whole r from (i + 1)
  word_goes_on r from i low is h =
      let b = get_or text i 0 in
      let word = take (i - from) (drop from text) in
      let same : get_or (drop from text) (i - from) 0 ≡ b =
      get_or-drop from text (i - from) 0 ∙ ap (λ k. get_or text k 0) (omega arith) in
      let more =
      take-suc (drop from text) (i - from) 0 (omega (arith, length-drop from text)) ∙ ap (λ c. word ++ c ∷ []) same in
      let count : i + 1 - from ≡ suc (i - from) = omega arith in
      let next : i + 1 ≡ suc i = omega arith in
      let step : read_on factors word i (b ∷ drop (suc i) text) r
      ≡ read_on factors (word ++ b ∷ []) (i + 1) (drop (suc i) text) r = rw is in (
        omega arith,
        cc (drop-cons text i 0 low),
      )

  -- the word that the byte at i begins
  begun_at : (to i : ℕ) → i < length text → to ≡ (if is_name_byte (get_or text i 0) then i else i + 1)
      → (to ≤ i + 1) × (take (i + 1 - to) (drop to text) ≡ begun_by (get_or text i 0))
  begun_at to i low e = elim (cases_Bool (is_name_byte (get_or text i 0))) [
    | inl is ↦
        let here : to ≡ i = cc in
        let one : i + 1 - i ≡ 1 = omega arith in
        rw here (
          omega arith,
          ap (λ k. take k (drop i text)) one ∙
              (ap (take 1) (drop-cons text i 0 low) ∙ rw is),
        )
    | inr other ↦
        let here : to ≡ i + 1 = cc in
        let none : i + 1 - (i + 1) ≡ 0 = omega arith in
        rw here (omega arith, ap (λ k. take k (drop (i + 1) text)) none ∙ rw other)
  ]

  pub word_ends : (r next : Reading) (from to i : ℕ) → i < length text
      → goes_on (take (i - from) (drop from text)) (get_or text i 0) ≡ false
      → Ok next ≡ stepped factors (take (i - from) (drop from text)) i (get_or text i 0) r
      → to ≡ (if is_name_byte (get_or text i 0) then i else i + 1)
      → IsRead factors text whole r from i → IsRead factors text whole next to (i + 1)
  word_ends r next from to i low is e begins h =
      let b = get_or text i 0 in
      let word = take (i - from) (drop from text) in
      let more : i + 1 ≡ suc i = omega arith in
      let back = sym e in
      let begun = begun_at to i low begins in
      let step : read_on factors word i (b ∷ drop (suc i) text) r
      ≡ read_on factors (begun_by b) (i + 1) (drop (suc i) text) next = rw (is, back) in (
        begun.0,
        cc (drop-cons text i 0 low),
      )
