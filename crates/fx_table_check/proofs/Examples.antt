-- Verdicts on books of a small table: a good one, and what is wrong with others.
use Rattle.std.proofs.Common.{◌≡◌, ℕ, List, [], ◌∷◌, Option, Some, None, refl}
use Rattle.fx_designs.specs.Galois.{add, mul, neg, inv, prime_of, degree_of, reduction_of}
use Rattle.fx_designs.specs.Spans.{in_span}
use Rattle.fx_words.specs.Spreads.{spread}
use Rattle.fx_strata.specs.Designs.{Strata}
use Rattle.fx_strata.specs.Orders.{factors_first}
use Rattle.fx_strata.specs.Words.{words_in}
use Rattle.fx_strata.specs.Sums.{effects_at}
use Rattle.fx_strata.specs.Books.{Entry, Branch, Worse, Image, NoRoom, Floor}
use Rattle.fx_table_check.specs.declared.reason.Reason.TheVariants.{NoTurn, Ended, OtherRow, Whole, LowKey}
use Rattle.fx_table_check.specs.declared.reason.Reason.TheVariants.{NoEarlierImage, HasRoom, LowFloor}
use Rattle.fx_table_check.specs.declared.reason.Verdict.{Verdict}
use Rattle.fx_table_check.specs.declared.reason.Verdict.TheVariants.{Accepted, Rejected}
use Rattle.fx_table_check.specs.Checking.{first_flaw, flaw_of, verdict_of}
use Rattle.fx_table_check.specs.Counts.{coset}
use Rattle.fx_table_check.specs.Least.{least_of}

-- four factors in 8 runs, in two blocks
abbrev blocks : Strata
blocks = record { q = 2; m = 3; h = 1; w = 0; n = 4 }

-- the verdict on a book with this key to beat
abbrev verdict : Option (List ℕ) → List Entry → Verdict
verdict beat entries =
    verdict_of (flaw_of (record { strata = blocks; order = factors_first blocks; beat = beat }) entries)

abbrev least : Option (List ℕ)
least = Some (0 ∷ 1 ∷ 2 ∷ 0 ∷ 0 ∷ [])

-- each reason at a place of its own
verdicts :
    (verdict least (Branch 2 ∷ Branch 4 ∷ Floor 7 ∷ Worse 6 ∷ Floor 5 ∷ NoRoom 3 ∷ []) ≡ Accepted)
    × (verdict least (Branch 2 ∷ Branch 4 ∷ Floor 7 ∷ Worse 6 ∷ Floor 5 ∷ NoRoom 3 ∷ NoRoom 3 ∷ []) ≡ Rejected 6 NoTurn)
    × (verdict least (Branch 2 ∷ Branch 4 ∷ Floor 7 ∷ Worse 6 ∷ Floor 5 ∷ []) ≡ Rejected 5 Ended)
    × (verdict least [] ≡ Rejected 0 Ended)
    × (verdict least (Branch 2 ∷ Branch 3 ∷ []) ≡ Rejected 1 OtherRow)
    × (verdict least (Branch 2 ∷ Branch 4 ∷ Branch 7 ∷ Branch 6 ∷ []) ≡ Rejected 3 Whole)
    × (verdict least (Branch 2 ∷ Branch 4 ∷ Worse 7 ∷ []) ≡ Rejected 2 LowKey)
    × (verdict least (Branch 2 ∷ Branch 4 ∷ Image 7 (1 ∷ 2 ∷ 4 ∷ []) ∷ []) ≡ Rejected 2 NoEarlierImage)
    × (verdict least (Branch 2 ∷ Branch 4 ∷ NoRoom 7 ∷ []) ≡ Rejected 2 HasRoom)
    × (verdict least (Floor 2 ∷ []) ≡ Rejected 0 LowFloor)
unfolding first_flaw prime_of degree_of reduction_of add mul neg inv words_in effects_at spread in_span
verdicts = (refl, refl, refl, refl, refl, refl, refl, refl, refl, refl)

-- nothing is left out for a key or a floor where no key is to beat
no_key :
    (verdict None (Branch 2 ∷ Branch 4 ∷ Floor 7 ∷ []) ≡ Rejected 2 LowFloor)
    × (verdict None (Branch 2 ∷ Branch 4 ∷ Branch 7 ∷ Worse 6 ∷ []) ≡ Rejected 3 LowKey)
unfolding first_flaw prime_of degree_of reduction_of add mul neg inv words_in effects_at spread in_span
no_key = (refl, refl)

cosets : (coset blocks 7 ≡ 6) × (coset blocks 4 ≡ 4) × (coset (record { q = 3; m = 3; h = 2; w = 3; n = 2 }) 17 ≡ 9)
cosets = (refl, refl, refl)

least_numbers :
    (least_of 2 (3 ∷ 1 ∷ 2 ∷ 1 ∷ []) ≡ 1 ∷ 1 ∷ [])
    × (least_of 5 (3 ∷ 1 ∷ []) ≡ 1 ∷ 3 ∷ [])
    × (least_of 0 (3 ∷ []) ≡ [])
least_numbers = (refl, refl, refl)
