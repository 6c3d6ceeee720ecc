-- A book of a table that `check` accepts proves its claim, since what is read as one has a base within the limits.
use Rattle.std.proofs.Common.{ℕ, ◌≡◌, Bool, true, false, List, [], ◌∷◌, Option, Some, None, Result, Ok, Err, refl}
use Rattle.std.proofs.Common.{arith}
use Rattle.std.proofs.Common.{cond, length}
use Rattle.std.specs.Prelude.{◌&&◌, codes, nat_lt}
use Rattle.std.specs.Str.{bytes_eq}
use Rattle.fx_book.specs.declared.fault.BookFault.{BookFault}
use Rattle.fx_book.specs.declared.fault.FaultKind.{FaultKind}
use Rattle.fx_book.specs.declared.fault.FaultKind.TheVariants.{Form, Range, Title, TooLong}
use Rattle.fx_book.specs.Faults.{fault}
use Rattle.fx_book.specs.Parts.{lines_of, parts_of}
use Rattle.fx_strata.specs.Books as books
use Rattle.fx_table_book.specs.declared.base.Base.{Base}
use Rattle.fx_table_book.specs.declared.order.Order.{Order}
use Rattle.fx_table_book.specs.declared.order.Order.TheVariants.{FactorsFirst}
use Rattle.fx_table_book.specs.Tables.{order_of, strata_of}
use Rattle.fx_table_book.specs.Texts as texts
use Rattle.fx_table_book.specs.Texts.{Contents, book_of, is_base}
use Rattle.fx_table_book.proofs.Shapes.{base_is}
use Rattle.fx_table_check.specs.Checking.{Flaw, flaw_of, verdict_of}
use Rattle.fx_table_check.specs.declared.reason.Verdict.TheVariants.{Accepted}
use Rattle.fx_table_check.proofs.Good.{proved}
use Rattle.fx_program.specs.Claims.{IsProvedTable}
use Rattle.fx_program.specs.TableVerdicts.{claim_in, table_verdict, verdict_status}

abbrev HasBase : Result Contents BookFault → Type 0
HasBase (Ok x) = is_base x.base ≡ true
HasBase (Err fault) = Unit {0}

abbrev IsWithin : Result Base FaultKind → Type 0
IsWithin (Ok base) = is_base base ≡ true
IsWithin (Err kind) = Unit {0}

either : {T : Type 0} (P : T → Type 0) (b : Bool) (x y : T) → P x → P y → P (cond b x y)
either P true x y hx hy = hx
either P false x y hx hy = hy

-- a base that was tested
tested : (base : Base) (a b : Bool) → is_base base ≡ b → IsWithin (cond (a && b) (Ok base) (Err Range))
tested base true true e = e
tested base true false e = tt
tested base false b e = tt

base_within : (numbers : Option (List ℕ)) → IsWithin (texts.base_from numbers)
base_within None = tt
base_within (Some numbers) = tested (texts.base_by numbers) true (is_base (texts.base_by numbers)) refl

of_base : (parts : List (List ℕ)) → IsWithin (texts.base_of parts)
of_base [] = tt
of_base (word ∷ parts) =
    either IsWithin (bytes_eq word (codes "base")) (texts.base_from (texts.some_numbers 5 parts)) (Err Form)
    (base_within (texts.some_numbers 5 parts)) tt

size_within : (numbers : Option (List ℕ)) → IsWithin (texts.size_from numbers)
size_within None = tt
size_within (Some numbers) = tested (texts.unblocked numbers) _ (is_base (texts.unblocked numbers)) refl

of_size : (parts : List (List ℕ)) → IsWithin (texts.size_of parts)
of_size [] = tt
of_size (word ∷ parts) =
    either IsWithin (bytes_eq word (codes "size")) (texts.size_from (texts.some_numbers 4 parts)) (Err Form)
    (size_within (texts.some_numbers 4 parts)) tt

module _ (base : Base) (is : is_base base ≡ true) where
  entries_kept : (order : Order) (key : Option (List ℕ)) (read : Result (List books.Entry) BookFault)
      → HasBase (texts.with_entries base order key read)
  entries_kept order key (Ok entries) = is
  entries_kept order key (Err fault) = tt

  key_kept : (order : Order) (lines : List (List ℕ)) (key : Result (Option (List ℕ)) FaultKind)
      → HasBase (texts.with_key base order lines key)
  key_kept order lines (Ok key) = entries_kept order key (texts.entries base 5 lines)
  key_kept order lines (Err kind) = tt

  from_key_kept : (order : Order) (lines : List (List ℕ)) → HasBase (texts.from_key base order lines)
  from_key_kept order [] = tt
  from_key_kept order (line ∷ []) = tt
  from_key_kept order (line ∷ next ∷ lines) =
      key_kept order (next ∷ lines) (texts.key_of base.q (length (order_of order (strata_of base))) line)

  order_kept : (lines : List (List ℕ)) (order : Result Order FaultKind) → HasBase (texts.with_order base lines order)
  order_kept lines (Ok order) = from_key_kept order lines
  order_kept lines (Err kind) = tt

  pattern_kept : (lines : List (List ℕ)) → HasBase (texts.from_pattern base lines)
  pattern_kept [] = tt
  pattern_kept (line ∷ []) = tt
  pattern_kept (line ∷ next ∷ lines) =
      key_kept FactorsFirst (next ∷ lines)
      (texts.pattern_of base.q (length (order_of FactorsFirst (strata_of base))) line)

  demands_kept : (lines : List (List ℕ)) → HasBase (texts.from_demands base lines)
  demands_kept [] = tt
  demands_kept (line ∷ []) = tt
  demands_kept (line ∷ next ∷ lines) =
      either HasBase (bytes_eq line (codes "resolution 3")) (texts.from_pattern base (next ∷ lines))
      (Err (fault Range 3))
      (pattern_kept (next ∷ lines)) tt

base_kept : (lines : List (List ℕ)) (base : Result Base FaultKind) → IsWithin base
    → HasBase (texts.with_base lines base)
base_kept [] (Ok base) h = tt
base_kept (line ∷ []) (Ok base) h = tt
base_kept (line ∷ next ∷ lines) (Ok base) h = order_kept base h (next ∷ lines) (texts.order_from (parts_of line))
base_kept lines (Err kind) h = tt

size_kept : (lines : List (List ℕ)) (base : Result Base FaultKind) → IsWithin base
    → HasBase (texts.with_size lines base)
size_kept lines (Ok base) h = demands_kept base h lines
size_kept lines (Err kind) h = tt

from_base_kept : (lines : List (List ℕ)) → HasBase (texts.from_base lines)
from_base_kept [] = tt
from_base_kept (line ∷ []) = tt
from_base_kept (line ∷ next ∷ lines) =
    base_kept (next ∷ lines) (texts.base_of (parts_of line)) (of_base (parts_of line))

from_size_kept : (lines : List (List ℕ)) → HasBase (texts.from_size lines)
from_size_kept [] = tt
from_size_kept (line ∷ []) = tt
from_size_kept (line ∷ next ∷ lines) =
    size_kept (next ∷ lines) (texts.size_of (parts_of line)) (of_size (parts_of line))

titled : (lines : List (List ℕ)) → HasBase (texts.from_title lines)
titled [] = tt
titled (line ∷ []) = tt
titled (line ∷ next ∷ rest) =
    either HasBase (bytes_eq line (codes "factex-table 2")) (texts.from_base (next ∷ rest))
    (cond (bytes_eq line (codes "factex-table 1")) (texts.from_size (next ∷ rest)) (Err (fault Title 1)))
    (from_base_kept (next ∷ rest))
    (either HasBase (bytes_eq line (codes "factex-table 1")) (texts.from_size (next ∷ rest)) (Err (fault Title 1))
    (from_size_kept (next ∷ rest)) tt)

read_base : (text : List ℕ) → HasBase (book_of text)
unfolding book_of
read_base text =
    either HasBase (nat_lt 33554432 (length text)) (Err (fault TooLong 1)) (texts.from_title (lines_of text)) tt
    (titled (lines_of text))

accepted_is : (found : Option Flaw) → verdict_status (verdict_of found) ≡ 0 → verdict_of found ≡ Accepted
accepted_is None accepted = refl
accepted_is (Some flaw) accepted = absurd (omega (arith, accepted))

by_read : (text : List ℕ) (read : Result Contents BookFault) → book_of text ≡ read → HasBase read
    → (table_verdict read).status ≡ 0
    → IsProvedTable text
by_read text (Ok x) is base accepted =
    let tested = base_is x.base base in
    record {
      book = x;
      read = is;
      claim =
          proved x.base tested.base (claim_in x) refl x.entries
          (accepted_is (flaw_of (claim_in x) x.entries) accepted) tested.proper.factors;
    }
by_read text (Err fault) is base accepted = absurd (omega (arith, accepted))

pub proved_table : (text : List ℕ) → (table_verdict (book_of text)).status ≡ 0 → IsProvedTable text
proved_table text accepted = by_read text (book_of text) refl (read_base text) accepted
