-- The numbers of a book are small.
use Rattle.std.proofs.Common.{◌≡◌, ℕ, ◌-◌, ◌*◌, ◌^◌, ◌<◌, ◌≤◌, List, [], ◌∷◌, length, All, arith}
use Rattle.std.specs.List.{AllByRecursion}
use Rattle.std.proofs.lemmas.List.Elements.{recursion_from_All, All-from_recursion}
use Rattle.std.proofs.Math.Nat.{mul-le-mul_right}
use Rattle.fx_strata.specs.Books as books
use Rattle.fx_table_book.specs.declared.base.Base.{Base}
use Rattle.fx_table_book.specs.declared.book.Entry.{Entry}
use Rattle.fx_table_book.specs.declared.book.Entry.TheVariants.{Branch, Worse, Image, NoRoom, Floor}
use Rattle.fx_table_book.specs.Tables.{IsSmall, entries_of}

-- the numbers of an entry are below q^m
abbrev pub IsLow : Base → books.Entry → Type 0
IsLow base (books.Branch row) = row < base.q ^ base.m
IsLow base (books.Worse row) = row < base.q ^ base.m
IsLow base (books.Image row change) =
    (row < base.q ^ base.m) × (length change ≡ base.m) × All (λ a. a < base.q ^ base.m) change
IsLow base (books.NoRoom row) = row < base.q ^ base.m
IsLow base (books.Floor row) = row < base.q ^ base.m

pub low_entries : (base : Base) (entries : List Entry) → All (IsSmall base) entries
    → AllByRecursion (IsLow base) (entries_of entries)
low_entries base entries h = own entries (recursion_from_All _ entries h)
  where
    own : (entries : List Entry) → AllByRecursion (IsSmall base) entries
        → AllByRecursion (IsLow base) (entries_of entries)
    own [] h = tt
    own (Branch row ∷ entries) h = (h.0, own entries h.1)
    own (Worse row ∷ entries) h = (h.0, own entries h.1)
    own (Image row change ∷ entries) h = (h.0, own entries h.1)
    own (NoRoom row ∷ entries) h = (h.0, own entries h.1)
    own (Floor row ∷ entries) h = (h.0, own entries h.1)

pub small_entries : (base : Base) (entries : List Entry) → AllByRecursion (IsLow base) (entries_of entries)
    → All (IsSmall base) entries
small_entries base entries h = All-from_recursion _ entries (own entries h)
  where
    own : (entries : List Entry) → AllByRecursion (IsLow base) (entries_of entries)
        → AllByRecursion (IsSmall base) entries
    own [] h = tt
    own (Branch row ∷ entries) h = (h.0, own entries h.1)
    own (Worse row ∷ entries) h = (h.0, own entries h.1)
    own (Image row change ∷ entries) h = (h.0, own entries h.1)
    own (NoRoom row ∷ entries) h = (h.0, own entries h.1)
    own (Floor row ∷ entries) h = (h.0, own entries h.1)

-- below a bound
pub all_under : (low high : ℕ) → low ≤ high → (numbers : List ℕ) → AllByRecursion (λ a. a < low) numbers
    → AllByRecursion (λ a. a < high) numbers
all_under low high h [] each = tt
all_under low high h (a ∷ numbers) each = (omega arith, all_under low high h numbers each.1)

pub from_zero : (limit : ℕ) (numbers : List ℕ) → AllByRecursion (λ a. a < limit) numbers
    → AllByRecursion (λ a. (0 ≤ a) × (a < limit)) numbers
from_zero limit [] h = tt
from_zero limit (a ∷ numbers) h = ((omega arith, h.0), from_zero limit numbers h.1)

-- the entries of a key are below 2^127
pub key_low : (q : ℕ) → 2 ≤ q → (key : List ℕ) → AllByRecursion (λ a. (q - 1) * a < 2 ^ 127) key
    → AllByRecursion (λ a. a < 2 ^ 127) key
key_low q some [] h = tt
key_low q some (a ∷ key) h =
    let one : 1 ≤ q - 1 = omega arith in
    let more = mul-le-mul_right a one in
    (omega arith, key_low q some key h.1)
