-- The lines of the entries of a book, one at a time.
use Rattle.std.proofs.Common.{◌≡◌, ℕ, ◌+◌, ◌<◌, true, false, cond, List, [], ◌∷◌, ◌++◌, length, Result, Ok, Err}
use Rattle.std.proofs.Common.{refl, ◌∙◌, arith, append_assoc}
use Rattle.std.proofs.lemmas.Bool.{cond-true, cond-false}
use Rattle.std.proofs.lemmas.List.{map-append}
use Rattle.std.specs.Prelude.{codes}
use Rattle.std.specs.Str.{bytes_eq}
use Rattle.fx_book.specs.declared.fault.BookFault.{BookFault}
use Rattle.fx_book.specs.declared.fault.FaultKind.TheVariants.{Trailing}
use Rattle.fx_book.specs.Faults.{fault}
use Rattle.fx_book.specs.Parts.{split}
use Rattle.fx_book.specs.Reading.{is_nothing}
use Rattle.fx_strata.specs.Books as books
use Rattle.fx_table_book.specs.declared.base.Base.{Base}
use Rattle.fx_table_book.specs.declared.book.Entry.{Entry}
use Rattle.fx_table_book.specs.Tables.{entries_of}
use Rattle.fx_table_book.specs.Tables as tables
use Rattle.fx_table_book.specs.Texts.{after_entry, entries, entry_of, entry_text, entries_text, read_as}

-- these entries before those that are read
abbrev pub onto : List books.Entry → Result (List books.Entry) BookFault → Result (List books.Entry) BookFault
onto own (Ok more) = Ok (own ++ more)
onto own (Err stop) = Err stop

module _ (base : Base) (n : ℕ) (line : List ℕ) where
  step : (rest : List (List ℕ)) → 0 < length rest
      → entries base n (line ∷ rest)
      ≡ cond (bytes_eq line (codes "END")) (cond (is_nothing rest) (Ok []) (Err (fault Trailing (n + 1))))
      (after_entry n (entry_of base (split 32 line)) (entries base (n + 1) rest))
  step [] h = absurd (omega arith)
  step (next ∷ lines) h = refl

  pub end_followed : (rest : List (List ℕ)) → 0 < length rest → bytes_eq line (codes "END") ≡ true
      → is_nothing rest ≡ false → entries base n (line ∷ rest) ≡ Err (fault Trailing (n + 1))
  end_followed rest h e more =
      step rest h ∙ cond-true _ _ _ e ∙ cond-false _ _ _ more

  pub at_entry : (rest : List (List ℕ)) → 0 < length rest → bytes_eq line (codes "END") ≡ false
      → entries base n (line ∷ rest)
      ≡ after_entry n (entry_of base (split 32 line)) (entries base (n + 1) rest)
  at_entry rest h e = step rest h ∙ cond-false _ _ _ e

pub onto_after : (own : List Entry) (n : ℕ) (entry : Entry) (read : Result (List books.Entry) BookFault)
    → onto (entries_of own) (after_entry n (read_as (Ok entry)) read) ≡ onto (entries_of (own ++ entry ∷ [])) read
onto_after own n entry (Ok more) =
    cc (append_assoc (entries_of own) (tables.entry_of entry ∷ []) more, map-append tables.entry_of own (entry ∷ []))
onto_after own n entry (Err stop) = refl

-- entries after others
pub entries-append : (own more : List Entry)
    → entries_text (entries_of (own ++ more)) ≡ entries_text (entries_of own) ++ entries_text (entries_of more)
entries-append [] more = refl
entries-append (entry ∷ own) more =
    cc (
      entries-append own more,
      append_assoc (entry_text (tables.entry_of entry)) (entries_text (entries_of own))
          (entries_text (entries_of more)),
    )
