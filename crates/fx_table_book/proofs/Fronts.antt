-- What is made of the first lines of a book, one at a time.
use Rattle.std.proofs.Common.{◌≡◌, ℕ, ◌<◌, List, ◌∷◌, length, Option, Result, Ok, Err, cond}
use Rattle.std.specs.Prelude.{codes}
use Rattle.std.specs.Str.{bytes_eq}
use Rattle.fx_book.specs.declared.fault.BookFault.{BookFault}
use Rattle.fx_book.specs.declared.fault.BookStop.{BookStop}
use Rattle.fx_book.specs.declared.fault.BookStop.TheVariants.{Fault, NoMemory}
use Rattle.fx_book.specs.declared.fault.FaultKind.{FaultKind}
use Rattle.fx_book.specs.declared.fault.FaultKind.TheVariants.{Title, Range, Unfinished}
use Rattle.fx_book.specs.Faults.{fault}
use Rattle.fx_book.specs.Parts.{parts_of}
use Rattle.fx_book.specs.Reading.{IsReading}
use Rattle.fx_book.proofs.Lines.{line_more}
use Rattle.fx_strata.specs.Books as books
use Rattle.fx_table_book.specs.declared.base.Base.{Base}
use Rattle.fx_table_book.specs.declared.order.Order.{Order}
use Rattle.fx_table_book.specs.declared.order.Order.TheVariants.{FactorsFirst}
use Rattle.fx_table_book.specs.Tables.{strata_of, order_of}
use Rattle.fx_table_book.specs.Texts.{by_title, from_size, with_size, size_of, from_demands, from_pattern, pattern_of}
use Rattle.fx_table_book.specs.Texts.{IsBookReading, IsEntriesReading, at_line, from_title, from_base, with_base}
use Rattle.fx_table_book.specs.Texts.{base_of}
use Rattle.fx_table_book.specs.Texts.{from_order, with_order, order_from, from_key, with_key, key_of, with_entries}

module _ (line : List ℕ) (rest all : List (List ℕ)) (is : all ≡ line ∷ rest) (some : 0 < length rest) where
  pub title_line : from_title all ≡ by_title line rest
  title_line = cc (line_more (Err (fault Title 1)) by_title line rest some)

  pub base_line : from_base all ≡ with_base rest (base_of (parts_of line))
  base_line =
      cc (line_more (Err (fault Unfinished 2)) (λ line rest. with_base rest (base_of (parts_of line))) line rest some)

  pub order_line : (base : Base) → from_order base all ≡ with_order base rest (order_from (parts_of line))
  order_line base =
      cc (line_more (Err (fault Unfinished 3)) (λ line rest. with_order base rest (order_from (parts_of line))) line
      rest
      some)

  pub key_line : (base : Base) (order : Order) (count : ℕ)
      → count ≡ length (order_of order (strata_of base))
      → from_key base order all ≡ with_key base order rest (key_of base.q count line)
  key_line base order count many =
      cc (line_more (Err (fault Unfinished 4))
      (λ line rest. with_key base order rest (key_of base.q (length (order_of order (strata_of base))) line)) line rest
      some)

  pub size_line : from_size all ≡ with_size rest (size_of (parts_of line))
  size_line =
      cc (line_more (Err (fault Unfinished 2)) (λ line rest. with_size rest (size_of (parts_of line))) line rest some)

  pub demands_line : (base : Base) → from_demands base all
      ≡ cond (bytes_eq line (codes "resolution 3")) (from_pattern base rest) (Err (fault Range 3))
  demands_line base =
      cc (line_more (Err (fault Unfinished 3))
      (λ line rest. cond (bytes_eq line (codes "resolution 3")) (from_pattern base rest) (Err (fault Range 3))) line
      rest some)

  pub pattern_line : (base : Base) (count : ℕ) → count ≡ length (order_of FactorsFirst (strata_of base))
      → from_pattern base all ≡ with_key base FactorsFirst rest (pattern_of base.q count line)
  pattern_line base count many =
      cc (line_more (Err (fault Unfinished 4))
      (λ line rest.
      with_key base FactorsFirst rest (pattern_of base.q (length (order_of FactorsFirst (strata_of base))) line))
      line rest some)

  pub key_fault : (base : Base) (order : Order) (read : Result (Option (List ℕ)) FaultKind) (e : BookStop)
      → IsReading (at_line 4 read) (Err e)
      → IsBookReading (with_key base order rest read) (Err e)
  key_fault base order read NoMemory h = tt
  key_fault base order (Err kind) (Fault stop) h = let e : fault kind 4 ≡ stop = cc h in cc
  key_fault base order (Ok key) (Fault stop) h = cc h

pub entries_fault : (base : Base) (order : Order) (key : Option (List ℕ)) (read : Result (List books.Entry) BookFault)
    (e : BookStop)
    → IsEntriesReading read (Err e)
    → IsBookReading (with_entries base order key read) (Err e)
entries_fault base order key read NoMemory h = tt
entries_fault base order key (Err own) (Fault stop) h = let e : own ≡ stop = cc h in cc
entries_fault base order key (Ok entries) (Fault stop) h = cc h

-- the key that was read
pub key_taken : (read : Result (Option (List ℕ)) FaultKind) (key : Option (List ℕ))
    → IsReading (at_line 4 read) (Ok key)
    → read ≡ Ok key
key_taken (Err kind) key h = cc h
key_taken (Ok own) key h = let e : own ≡ key = cc h in cc
