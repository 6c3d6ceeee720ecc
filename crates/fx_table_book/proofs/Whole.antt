-- What is read as a book can be checked, and is what is written of it, or what the first version had of it.
use Rattle.std.proofs.Common.{◌≡◌, ℕ, ◌≤◌, ◌⊎◌, inl, inr, cond, ltb, List, ◌∷◌, ◌++◌, length, Ok, Err, sym, ap, ◌∙◌}
use Rattle.std.proofs.Common.{arith}
use Rattle.std.proofs.Common.{length-append, append_assoc, []}
use Rattle.std.specs.Prelude.{codes}
use Rattle.std.specs.Str.{bytes_eq}
use Rattle.std.proofs.lemmas.Bool.{cond-true, cond-false, cases_Bool, ltb-false}
use Rattle.std.proofs.lemmas.List.{length-map}
use Rattle.fx_book.specs.declared.fault.FaultKind.TheVariants as kind
use Rattle.fx_book.specs.Faults.{fault}
use Rattle.fx_book.specs.Parts.{split}
use Rattle.fx_book.specs.Writing.{line_text}
use Rattle.fx_book.proofs.Accepted.{line_taken}
use Rattle.fx_book.proofs.Texts.{joined, joined_more, join_split, same_bytes}
use Rattle.fx_strata.specs.Books as books
use Rattle.fx_table_book.specs.declared.book.TableBook.{TableBook}
use Rattle.fx_table_book.specs.Tables.{IsBook, entries_of}
use Rattle.fx_table_book.specs.Tables as tables
use Rattle.fx_table_book.specs.Texts.{contents, base_text, order_text, key_text, pattern_text, entries_text, book_text}
use Rattle.fx_table_book.specs.Texts.{first_text, IsFirst, by_title, from_base, from_size, book_of}
use Rattle.fx_table_book.proofs.Accepted.{base_said, entries_long}
use Rattle.fx_table_book.proofs.FirstAccepted.{size_said}
use Rattle.fx_table_book.proofs.Small.{small_entries}

-- a text that is read
pub record IsAccepted (text : List ℕ) (book : TableBook) : Type 0 where
  pub valid : IsBook book
  pub written : (text ≡ book_text book) ⊎ (IsFirst (contents book) × (text ≡ first_text (contents book)))

module _ (text : List ℕ) (book : TableBook) (low : length text ≤ 33554432) where
  abbrev own : List books.Entry
  own = entries_of book.entries

  abbrev body : List ℕ
  body = entries_text own ++ codes "END\n"

  -- a text has more bytes than entries
  few : (front : List ℕ) → text ≡ front ++ body → length book.entries ≤ 268435456
  few front is =
      omega (
        arith,
        ap length is,
        length-append front body,
        length-append (entries_text own) (codes "END\n"),
        entries_long own,
        length-map book.entries tables.entry_of,
      )

  second : (rest : List (List ℕ)) → text ≡ codes "factex-table 2\n" ++ joined 10 rest
      → from_base rest ≡ Ok (contents book)
      → IsAccepted text book
  second rest is h =
      let said = base_said rest _ h in
      let written : text ≡ book_text book = cc in
      let base = base_text book.base in
      let order = order_text book.order in
      let key = key_text book.key in
      record {
        valid = record {
          base = said.tested.base;
          proper = said.tested.proper;
          key = said.key;
          entries = small_entries book.base book.entries said.entries;
          few_entries = few (codes "factex-table 2\n" ++ (base ++ (order ++ key))) (written ∙ grouped base order key);
        };
        written = inl written;
      }
    where
      grouped : (base order key : List ℕ)
          → codes "factex-table 2\n" ++ (base ++ (order ++ (key ++ body)))
          ≡ (codes "factex-table 2\n" ++ (base ++ (order ++ key))) ++ body
      grouped base order key =
          cc (append_assoc base (order ++ key) body, append_assoc order key body)

  first : (rest : List (List ℕ)) → text ≡ codes "factex-table 1\n" ++ joined 10 rest
      → from_size rest ≡ Ok (contents book)
      → IsAccepted text book
  first rest is h =
      let said = size_said rest _ h in
      let written : text ≡ first_text (contents book) = cc in
      let size = line_text (codes "size") (book.base.q ∷ book.base.m ∷ book.base.n ∷ 0 ∷ []) in
      let demands = codes "resolution 3\n" in
      let pattern = pattern_text book.key in
      record {
        valid = record {
          base = said.tested.base;
          proper = said.tested.proper;
          key = said.key;
          entries = small_entries book.base book.entries said.entries;
          few_entries =
              few (codes "factex-table 1\n" ++ (size ++ (demands ++ pattern)))
              (written ∙ grouped size demands pattern);
        };
        written = inr (said.first, written);
      }
    where
      grouped : (size demands pattern : List ℕ)
          → codes "factex-table 1\n" ++ (size ++ (demands ++ (pattern ++ body)))
          ≡ (codes "factex-table 1\n" ++ (size ++ (demands ++ pattern))) ++ body
      grouped size demands pattern =
          cc (append_assoc size (demands ++ pattern) body, append_assoc demands pattern body)

  titled : (line : List ℕ) (rest : List (List ℕ)) → text ≡ line ++ 10 ∷ joined 10 rest
      → by_title line rest ≡ Ok (contents book)
      → IsAccepted text book
  titled line rest is h =
      elim (cases_Bool (bytes_eq line (codes "factex-table 2"))) [
        | inl title ↦
            second rest
            (cc (same_bytes line _ title))
            (sym (cond-true _ _ _ title) ∙ h)
        | inr other ↦ earlier (sym (cond-false _ _ _ other) ∙ h)
      ]
    where
      earlier : cond (bytes_eq line (codes "factex-table 1")) (from_size rest) (Err (fault kind.Title 1))
          ≡ Ok (contents book)
          → IsAccepted text book
      earlier h =
          elim (cases_Bool (bytes_eq line (codes "factex-table 1"))) [
            | inl title ↦
                first rest
                (cc (same_bytes line _ title))
                (sym (cond-true _ _ _ title) ∙ h)
            | inr none ↦
                let z = sym (cond-false _ _ _ none) ∙ h in cc z
          ]

pub book_accepted : (text : List ℕ) (book : TableBook) → book_of text ≡ Ok (contents book) → IsAccepted text book
unfolding book_of
book_accepted text book h =
    elim (cases_Bool (ltb 33554432 (length text))) [
      | inl long ↦ let z = sym (cond-true _ _ _ long) ∙ h in cc z
      | inr fits ↦
          let k = line_taken (fault kind.Title 1) by_title (split 10 text) _ (sym (cond-false _ _ _ fits) ∙ h) in
          let own : text ≡ k.0 ++ 10 ∷ joined 10 k.1 =
          sym (join_split 10 text) ∙ ap (joined 10) k.2 ∙ joined_more 10 k.0 k.1 k.3 in
          titled text book (ltb-false _ _ fits) k.0 k.1 own k.4
    ]
