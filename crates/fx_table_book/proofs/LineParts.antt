-- The parts of a line: its letter, its row and its numbers.
use Rattle.std.proofs.Common.{◌≡◌, ℕ, ◌+◌, ◌-◌, ◌<◌, ◌≤◌, ◌^◌, Bool, true, false, cond, ◌&&◌, leb, ltb, List, [], ◌∷◌}
use Rattle.std.proofs.Common.{◌++◌, length, take, drop}
use Rattle.std.proofs.Common.{Option, Some, None, All, refl, ap, arith, eqb, ne_eqb, lt-ltb, length-append}
use Rattle.std.proofs.Math.Nat.{sub-zero}
use Rattle.std.proofs.lemmas.Bool.{cond-false, and_from}
use Rattle.std.proofs.lemmas.List.Elements.{recursion_from_All}
use Rattle.std.specs.List.{list_all, AllByRecursion}
use Rattle.fx_book.specs.Parts.{split, parts_of, parts_after, number_of, numbers_of_parts, with_number}
use Rattle.fx_book.proofs.Listed.{in_front}
use Rattle.fx_book.proofs.Splits.{next_part, some_parts}
use Rattle.fx_table_book.specs.Texts.{counted}

-- the first part, and those after it
pub first_part : (line : List ℕ) (word : ℕ) → word ≤ length line → (word ≡ length line → split 32 line ≡ line ∷ [])
    → (word < length line → split 32 line ≡ take (word - 0) line ∷ split 32 (drop (word + 1) line))
    → parts_of line ≡ take word line ∷ parts_after word line
first_part line word within last more =
    cc (next_part 32 line 0 word within last more, sub-zero word)

-- there are parts before the end of a line
some_after : (line : List ℕ) (end : ℕ) → end < length line → 0 < length (parts_after end line)
some_after line end more =
    subst_length (cond-false _ _ _ (ne_eqb end (length line) (λ e. omega arith)))
    (some_parts 32 (drop (end + 1) line))
  where
    subst_length : {xs ys : List (List ℕ)} → xs ≡ ys → 0 < length ys → 0 < length xs
    subst_length e h = omega (arith, ap length e)

over : (count : ℕ) (own : List ℕ) → length own ≡ count → (o : Option ℕ) (rest : Option (List ℕ))
    → counted count (in_front own (with_number 0 (2 ^ 128) o rest)) ≡ None
over count own is None rest = refl
over count own is (Some n) None = refl
over count own is (Some n) (Some more) = own_case (leb 0 n && ltb n (2 ^ 128))
  where
    own_case : (b : Bool) → counted count (in_front own (cond b (Some (n ∷ more)) None)) ≡ None
    own_case true =
        cond-false (eqb (length (own ++ n ∷ more)) count) _ _
        (ne_eqb _ _ (λ e. omega (arith, e, is, length-append own (n ∷ more))))
    own_case false = refl

too_many : (count : ℕ) (own : List ℕ) (parts : List (List ℕ)) → length own ≡ count → 0 < length parts
    → counted count (in_front own (numbers_of_parts 0 (2 ^ 128) parts)) ≡ None
too_many count own [] is some = absurd (omega arith)
too_many count own (part ∷ parts) is some = over count own is (number_of part) (numbers_of_parts 0 (2 ^ 128) parts)

-- a part more than there are to be
pub one_too_many : (count : ℕ) (own : List ℕ) (line : List ℕ) (end : ℕ) → length own ≡ count → end < length line
    → counted count (in_front own (numbers_of_parts 0 (2 ^ 128) (parts_after end line))) ≡ None
one_too_many count own line end is more = too_many count own _ is (some_after line end more)

-- numbers below a bound
pub all_below : (limit : ℕ) (numbers : List ℕ) → All (λ a. a < limit) numbers
    → list_all (λ a. ltb a limit) numbers ≡ true
all_below limit numbers h = own numbers (recursion_from_All _ numbers h)
  where
    own : (numbers : List ℕ) → AllByRecursion (λ a. a < limit) numbers → list_all (λ a. ltb a limit) numbers ≡ true
    own [] h = refl
    own (a ∷ numbers) h = and_from _ _ (lt-ltb a limit h.0) (own numbers h.1)
