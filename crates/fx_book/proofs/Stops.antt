-- Parts of a line that are cut where they are seen to end, and the entries that they are.
use Rattle.std.proofs.Common.{◌≡◌, ℕ, zero, suc, ◌+◌, ◌-◌, ◌*◌, ◌<◌, ◌≤◌, true, false, eqb, List, [], ◌∷◌, ◌++◌, length}
use Rattle.std.proofs.Common.{take}
use Rattle.std.proofs.Common.{drop, get_or, Some, refl, sym, ap, ap₂, ◌∙◌, arith, inl, inr, append-nil, drop-cons}
use Rattle.std.proofs.Common.{add-one}
use Rattle.std.proofs.Common.{drop_of_length-le, le-leb, min, ne_eqb, not}
use Rattle.std.specs.Char.{digit_value}
use Rattle.std.specs.Str.Parse.{digits_value}
use Rattle.std.proofs.lemmas.Bool.{and_from, cases_lt, cond-false, cond-true, not_from_false, or_left, or_right}
use Rattle.std.proofs.lemmas.Int.Digits.{digits_value_more}
use Rattle.fx_book.specs.Parts.{is_digit, is_number, number_of, parts_after, split}
use Rattle.fx_book.specs.Words.{entries_of_parts, entry_from, with_entry}
use Rattle.fx_book.proofs.Back.{Without, split_last, split_line}
use Rattle.fx_book.proofs.Listed.{at_line_end}
use Rattle.fx_book.proofs.Numbers.{digit_is}

-- the bytes before a place, none of which is the stop
pub without_take : (stop : ℕ) (xs : List ℕ) (n : ℕ)
    → ((k : ℕ) → k < n → k < length xs → eqb (get_or xs k 0) stop ≡ false)
    → Without stop (take n xs)
without_take stop xs zero h = tt
without_take stop [] (suc n) h = tt
without_take stop (x ∷ xs) (suc n) h =
    (h 0 (omega arith) (omega arith), without_take stop xs n (λ k low inside. h (suc k) (omega arith) (omega arith)))

-- a part that ends at a blank, or at the end of the line
part_is : (line part : List ℕ) (at end : ℕ) → drop at line ≡ part ++ drop end line → Without 32 part
    → end ≤ length line → (end < length line → get_or line end 0 ≡ 32)
    → split 32 (drop at line) ≡ part ∷ parts_after end line
part_is line part at end is own within stop =
    elim (cases_lt end (length line)) [
      | inl more ↦
          ap (split 32)
          (is ∙ ap (λ l. part ++ l)
          (drop-cons line end 0 more ∙ ap (λ b. b ∷ drop (suc end) line) (stop more)))
          ∙ split_line 32 part (drop (suc end) line) own
          ∙ ap (λ n. part ∷ split 32 (drop n line)) (sym (add-one end))
          ∙ ap (λ ps. part ∷ ps)
          (sym (cond-false _ _ _ (ne_eqb end (length line) (λ e. omega arith))))
      | inr past ↦
          cc (drop_of_length-le line past, append-nil part, split_last 32 part own, at_line_end line end within past)
    ]

-- an entry between two stops
sides : (place code : List ℕ) (x y : ℕ) → Without 58 place → Without 58 code → number_of place ≡ Some x
    → number_of code ≡ Some y
    → entry_from (split 58 (place ++ 58 ∷ code)) ≡ Some (x, y)
sides place code x y own other px py =
    cc (split_line 58 place code own, split_last 58 code other)

no_colon : (n : ℕ) → n ≤ 9 → eqb (48 + n) 58 ≡ false
no_colon n few = ne_eqb _ 58 (λ e. omega arith)

no_blank : (n : ℕ) → n ≤ 9 → eqb (48 + n) 32 ≡ false
no_blank n few = ne_eqb _ 32 (λ e. omega arith)

digit : (n : ℕ) → n ≤ 9 → is_digit (48 + n) ≡ true
digit n few = and_from _ _ (le-leb 48 (48 + n) (omega arith)) (le-leb (48 + n) 57 (omega arith))

value : (n : ℕ) → n ≤ 9 → digit_value (48 + n) ≡ n
value n few = digit_is (48 + n) (omega arith) (omega arith) ∙ (let e : 48 + n - 48 ≡ n = omega arith in e)

numbered : (digits : List ℕ) (n : ℕ) → is_number digits ≡ true → digits_value 10 digits ≡ n → n < 100
    → number_of digits ≡ Some n
numbered digits n own is few =
    cond-true _ _ _ own
    ∙ ap (λ v. Some (min v 340282366920938463463374607431768211455)) is
    ∙ ap Some (let e : min n 340282366920938463463374607431768211455 ≡ n = omega arith in e)

first_value : (b n : ℕ) (bs : List ℕ) → digit_value b ≡ n → digits_value 10 (take 1 (b ∷ bs)) ≡ n
first_value b n bs is =
    digits_value_more 10 (b ∷ bs) 0 (omega arith) ∙ (let e : 0 * 10 + digit_value b ≡ n = omega arith in e)

one_digit : (n : ℕ) → n ≤ 9 → number_of ((48 + n) ∷ []) ≡ Some n
one_digit n few =
    numbered ((48 + n) ∷ []) n
    (and_from _ _ (and_from _ _ (digit n few) refl) (and_from _ _ refl (or_right (not (eqb (48 + n) 48)) true refl)))
    (first_value (48 + n) n [] (value n few)) (omega arith)

two_digits : (m n : ℕ) → 0 < m → m ≤ 9 → n ≤ 9 → number_of ((48 + m) ∷ (48 + n) ∷ []) ≡ Some (m * 10 + n)
two_digits m n some few low =
    let digits : List ℕ = (48 + m) ∷ (48 + n) ∷ [] in
    numbered digits _
    (and_from _ _ (and_from _ _ (digit m few) (and_from _ _ (digit n low) refl))
    (and_from _ _ refl (or_left _ false (not_from_false _ (ne_eqb (48 + m) 48 (λ e. omega arith))))))
    (digits_value_more 10 digits 1 (omega arith)
    ∙ ap₂ (λ (x y : ℕ). x * 10 + y) (first_value (48 + m) m ((48 + n) ∷ []) (value m few)) (value n low))
    (omega arith)

-- the first byte of what is left of a line
first_is : (line : List ℕ) (at next b : ℕ) → next ≡ at + 1 → at < length line → get_or line at 0 ≡ b
    → drop at line ≡ b ∷ drop next line
first_is line at next b then more is =
    cc (drop-cons line at 0 more, add-one at)

-- an entry that begins after `end`, and ends where it is seen to
entry_after : (line place code : List ℕ) (end next x y : ℕ) → end < length line
    → drop (end + 1) line ≡ (place ++ 58 ∷ code) ++ drop next line → Without 32 (place ++ 58 ∷ code)
    → next ≤ length line → (next < length line → get_or line next 0 ≡ 32)
    → entry_from (split 58 (place ++ 58 ∷ code)) ≡ Some (x, y)
    → entries_of_parts (parts_after end line) ≡ with_entry (Some (x, y)) (entries_of_parts (parts_after next line))
entry_after line place code end next x y more is own within stop entry =
    ap entries_of_parts
    (cond-false _ _ _ (ne_eqb end (length line) (λ e. omega arith))
    ∙ part_is line _ _ next is own within stop)
    ∙ ap (λ o. with_entry o (entries_of_parts (parts_after next line))) entry

-- a digit, a colon and a digit
pub short_entry : (line : List ℕ) (end x y : ℕ) → end < length line
    → (end + 1 < length line) × (get_or line (end + 1) 0 ≡ 48 + x) × (x ≤ 9) → get_or line (end + 1 + 1) 0 ≡ 58
    → (end + 1 + 2 < length line) × (get_or line (end + 1 + 2) 0 ≡ 48 + y) × (y ≤ 9)
    → (end + 1 + 2 + 1 < length line → get_or line (end + 1 + 2 + 1) 0 ≡ 32)
    → entries_of_parts (parts_after end line)
    ≡ with_entry (Some (x, y)) (entries_of_parts (parts_after (end + 1 + 3) line))
short_entry line end x y more first colon last stop =
    let place : List ℕ = (48 + x) ∷ [] in
    let code : List ℕ = (48 + y) ∷ [] in
    let is : drop (end + 1) line ≡ (place ++ 58 ∷ code) ++ drop (end + 1 + 3) line =
    cc (
      first_is line _ (end + 1 + 1) _ refl first.0 first.1,
      first_is line (end + 1 + 1) (end + 1 + 2) 58 (omega arith)
          (omega arith) colon,
      first_is line (end + 1 + 2) (end + 1 + 3) _ (omega arith) last.0 last.1,
    ) in
    let there : end + 1 + 2 + 1 ≡ end + 1 + 3 = omega arith in
    entry_after line place code end _ x y more is
    (no_blank x first.2, (refl, (no_blank y last.2, tt))) (omega arith)
    (rw there at stop)
    (sides place code x y (no_colon x first.2, tt) (no_colon y last.2, tt) (one_digit x first.2)
    (one_digit y last.2))

-- two digits, a colon and a digit
pub longer_entry : (line : List ℕ) (end x y z : ℕ) → end < length line → 0 < x
    → (end + 1 < length line) × (get_or line (end + 1) 0 ≡ 48 + x) × (x ≤ 9)
    → (end + 1 + 1 < length line) × (get_or line (end + 1 + 1) 0 ≡ 48 + y) × (y ≤ 9)
    → get_or line (end + 1 + 2) 0 ≡ 58
    → (end + 1 + 3 < length line) × (get_or line (end + 1 + 3) 0 ≡ 48 + z) × (z ≤ 9)
    → (end + 1 + 3 + 1 < length line → get_or line (end + 1 + 3 + 1) 0 ≡ 32)
    → entries_of_parts (parts_after end line)
    ≡ with_entry (Some (x * 10 + y, z)) (entries_of_parts (parts_after (end + 1 + 4) line))
longer_entry line end x y z more some first second colon last stop =
    let place : List ℕ = (48 + x) ∷ (48 + y) ∷ [] in
    let code : List ℕ = (48 + z) ∷ [] in
    let is : drop (end + 1) line ≡ (place ++ 58 ∷ code) ++ drop (end + 1 + 4) line =
    cc (
      first_is line _ (end + 1 + 1) _ refl first.0 first.1,
      first_is line (end + 1 + 1) (end + 1 + 2) _ (omega arith)
          second.0 second.1,
      first_is line (end + 1 + 2) (end + 1 + 3) 58 (omega arith) (omega arith) colon,
      first_is line
          (end + 1 + 3) (end + 1 + 4) _ (omega arith) last.0 last.1,
    ) in
    let there : end + 1 + 3 + 1 ≡ end + 1 + 4 = omega arith in
    entry_after line place code end _ _ z more is
    (no_blank x first.2, (no_blank y second.2, (refl, (no_blank z last.2, tt)))) (omega arith)
    (rw there at stop)
    (sides place code _ z (no_colon x first.2, (no_colon y second.2, tt)) (no_colon z last.2, tt)
    (two_digits x y some first.2 second.2) (one_digit z last.2))
