-- A book that was written is read.
use Rattle.std.proofs.Common.{◌≡◌, ℕ, ◌+◌, ◌-◌, ◌*◌, ◌^◌, ◌<◌, ◌≤◌, ◌&&◌, true, false, ltb, eqb, List, [], ◌∷◌, ◌++◌}
use Rattle.std.proofs.Common.{map}
use Rattle.std.proofs.Common.{length, All, Option, Some, None, Ok, refl, sym, ap, ◌∙◌, arith, append_assoc}
use Rattle.std.proofs.Common.{eq-eqb, ne_eqb, lt-ltb, le-ltb}
use Rattle.std.specs.Prelude.{codes, decimal}
use Rattle.std.specs.List.{list_all, AllByRecursion}
use Rattle.std.specs.Str.{bytes_eq}
use Rattle.std.specs.Str.Parse.{AllDigits}
use Rattle.std.proofs.lemmas.Bool.{cond-true, cond-false, and_from, and_left}
use Rattle.std.proofs.lemmas.Fmt.{decimal_is_IsNumeral_wide}
use Rattle.std.proofs.lemmas.Str.Parse.{digit_from_value}
use Rattle.std.proofs.lemmas.List.Elements.{recursion_from_All}
use Rattle.fx_vectors.proofs.Limits.{order-bounds}
use Rattle.fx_book.specs.Parts.{split}
use Rattle.fx_book.specs.Writing.{spaced}
use Rattle.fx_book.proofs.Splits.{some_parts}
use Rattle.fx_book.proofs.Accepted.{ended}
use Rattle.fx_book.proofs.Back.{Without, split_line, number_back}
use Rattle.fx_book.proofs.Books.{spaced_parts, numbers_back}
use Rattle.fx_book.proofs.Books as numbers
use Rattle.fx_strata.specs.Books as books
use Rattle.fx_table_book.specs.declared.base.Base.{Base}
use Rattle.fx_table_book.specs.declared.order.Order.{Order}
use Rattle.fx_table_book.specs.declared.order.Order.TheVariants.{FactorsFirst, ChengWuFirst, ChengWuSecond}
use Rattle.fx_table_book.specs.declared.order.Order.TheVariants.{SitterChenFeder, MostClear}
use Rattle.fx_table_book.specs.declared.book.TableBook.{TableBook}
use Rattle.fx_table_book.specs.Tables.{IsBase, IsProper, IsKey, IsBook, entries_of, order_in}
use Rattle.fx_table_book.specs.Texts.{base_text, order_text, name_of, key_text, entry_text, entries_text, book_text}
use Rattle.fx_table_book.specs.Texts.{base_of, base_from, counted, some_numbers, order_from, is_count}
use Rattle.fx_table_book.specs.Texts.{key_within, key_from, key_of, row_within, row_of, image_from, image_of, entry_of}
use Rattle.fx_table_book.specs.Texts.{after_entry, entries, with_entries, with_key, with_order, with_base}
use Rattle.fx_table_book.specs.Texts.{book_of, contents}
use Rattle.fx_table_book.proofs.Fronts.{title_line, base_line, order_line, key_line}
use Rattle.fx_table_book.proofs.LineParts.{all_below}
use Rattle.fx_table_book.proofs.Lines.{at_entry}
use Rattle.fx_table_book.proofs.Shapes.{base_passes, base_little}
use Rattle.fx_table_book.proofs.Small.{IsLow, low_entries, all_under, from_zero, key_low}

-- no number begins like `none`
pub no_none : (ds rest : List ℕ) → 0 < length ds → AllDigits 10 ds → bytes_eq (ds ++ rest) (codes "none") ≡ false
no_none [] rest some each = absurd (omega arith)
no_none (c ∷ cs) rest some each = let e = digit_from_value c each.0 in
    and_left _ _ (ne_eqb c 110 (λ z. omega arith))

module _ (base : Base) (h : IsBase base) where
  runs : base.q ^ base.m ≤ 1024
  runs = h.shaped.runs

  -- a line without its end
  abbrev line_of : books.Entry → List ℕ
  line_of (books.Branch row) = codes "O" ++ spaced (row ∷ [])
  line_of (books.Worse row) = codes "P" ++ spaced (row ∷ [])
  line_of (books.Image row change) = codes "I" ++ spaced (row ∷ change)
  line_of (books.NoRoom row) = codes "R" ++ spaced (row ∷ [])
  line_of (books.Floor row) = codes "F" ++ spaced (row ∷ [])

  text_line : (entry : books.Entry) (rest : List ℕ) → entry_text entry ++ rest ≡ line_of entry ++ 10 ∷ rest
  text_line (books.Branch row) rest = sym (ended (codes "O") (row ∷ []) rest)
  text_line (books.Worse row) rest = sym (ended (codes "P") (row ∷ []) rest)
  text_line (books.Image row change) rest = sym (ended (codes "I") (row ∷ change) rest)
  text_line (books.NoRoom row) rest = sym (ended (codes "R") (row ∷ []) rest)
  text_line (books.Floor row) rest = sym (ended (codes "F") (row ∷ []) rest)

  no_end : (entry : books.Entry) → bytes_eq (line_of entry) (codes "END") ≡ false
  no_end (books.Branch row) = refl
  no_end (books.Worse row) = refl
  no_end (books.Image row change) = refl
  no_end (books.NoRoom row) = refl
  no_end (books.Floor row) = refl

  wide : (row : ℕ) → row < base.q ^ base.m → AllByRecursion (λ a. a < 2 ^ 128) (row ∷ [])
  wide row low = (let few = runs in omega arith, tt)

  few_numbers : (numbers : List ℕ) → All (λ a. a < base.q ^ base.m) numbers
      → AllByRecursion (λ a. a < 2 ^ 128) numbers
  few_numbers numbers each =
      all_under _ _ (let few = runs in omega arith) numbers
      (recursion_from_All _ numbers each)

  one_line : (entry : books.Entry) → IsLow base entry → Without 10 (line_of entry)
  one_line (books.Branch row) low = (refl, numbers.one_line (row ∷ []) (wide row low))
  one_line (books.Worse row) low = (refl, numbers.one_line (row ∷ []) (wide row low))
  one_line (books.Image row change) low =
      (refl, numbers.one_line (row ∷ change) ((wide row low.0).0, few_numbers change low.2))
  one_line (books.NoRoom row) low = (refl, numbers.one_line (row ∷ []) (wide row low))
  one_line (books.Floor row) low = (refl, numbers.one_line (row ∷ []) (wide row low))

  row_back : (row : ℕ) → row < base.q ^ base.m → row_of (base.q ^ base.m) (decimal row ∷ []) ≡ Ok row
  row_back row low =
      ap (row_within (base.q ^ base.m)) (number_back row (wide row low).0)
      ∙ cond-true (ltb row (base.q ^ base.m)) _ _ (lt-ltb _ _ low)

  image_back : (row : ℕ) (change : List ℕ) → IsLow base (books.Image row change)
      → image_of base (map decimal (row ∷ change)) ≡ Ok (books.Image row change)
  image_back row change low =
      ap (λ r. image_from (base.q ^ base.m) r (some_numbers base.m (map decimal change)))
      (number_back row (wide row low.0).0)
      ∙ ap (λ ns. image_from (base.q ^ base.m) (Some row) (counted base.m ns))
      (numbers_back 0 (2 ^ 128) change (omega arith) (from_zero _ change (few_numbers change low.2)))
      ∙ ap (image_from (base.q ^ base.m) (Some row)) (cond-true (eqb (length change) base.m) _ _ (eq-eqb _ _ low.1))
      ∙ cond-true (ltb row (base.q ^ base.m) && list_all (λ a. ltb a (base.q ^ base.m)) change) _ _
      (and_from _ _ (lt-ltb _ _ low.0) (all_below _ change low.2))

  entry_back : (entry : books.Entry) → IsLow base entry → entry_of base (split 32 (line_of entry)) ≡ Ok entry
  entry_back (books.Branch row) low =
      cc (spaced_parts row [] (wide row low), row_back row low)
  entry_back (books.Worse row) low =
      cc (spaced_parts row [] (wide row low), row_back row low)
  entry_back (books.Image row change) low =
      cc (spaced_parts row change ((wide row low.0).0, few_numbers change low.2), image_back row change low)
  entry_back (books.NoRoom row) low =
      cc (spaced_parts row [] (wide row low), row_back row low)
  entry_back (books.Floor row) low =
      cc (spaced_parts row [] (wide row low), row_back row low)

  pub entries_back : (own : List books.Entry) (n : ℕ) → AllByRecursion (IsLow base) own
      → entries base n (split 10 (entries_text own ++ codes "END\n")) ≡ Ok own
  entries_back [] n each = refl
  entries_back (entry ∷ own) n each =
      let rest : List ℕ = entries_text own ++ codes "END\n" in
      let text : entries_text (entry ∷ own) ++ codes "END\n" ≡ line_of entry ++ 10 ∷ rest =
      append_assoc (entry_text entry) (entries_text own) (codes "END\n") ∙ text_line entry rest in
      ap (λ l. entries base n (split 10 l)) text
      ∙ ap (entries base n) (split_line 10 (line_of entry) rest (one_line entry each.0))
      ∙ at_entry base n (line_of entry) (split 10 rest) (some_parts 10 rest) (no_end entry)
      ∙ ap (λ r. after_entry n r (entries base (n + 1) (split 10 rest))) (entry_back entry each.0)
      ∙ ap (after_entry n (Ok entry)) (entries_back own (n + 1) each.1)

  abbrev numbers_of : List ℕ
  numbers_of = base.q ∷ base.m ∷ base.h ∷ base.w ∷ base.n ∷ []

  wide_base : AllByRecursion (λ a. a < 2 ^ 128) numbers_of
  wide_base =
      let l = base_little base h in (
        omega arith,
        (
          omega arith,
          (
            omega arith,
            (
              omega arith,
              (omega arith, tt),
            ),
          ),
        ),
      )

  pub base_back : IsProper base → base_of (split 32 (codes "base" ++ spaced numbers_of)) ≡ Ok base
  base_back proper =
      ap (λ ps. base_of (codes "base" ∷ ps))
      (spaced_parts base.q (base.m ∷ base.h ∷ base.w ∷ base.n ∷ []) wide_base)
      ∙ ap (λ ns. base_from (counted 5 ns))
      (numbers_back 0 (2 ^ 128) numbers_of (omega arith) (from_zero _ numbers_of wide_base))
      ∙ ap base_from (cond-true _ (Some numbers_of) None (eq-eqb (length numbers_of) 5 refl))
      ∙ cond-true _ _ _ (base_passes base h proper)

  pub base_plain : Without 10 (codes "base" ++ spaced numbers_of)
  base_plain = (refl, (refl, (refl, (refl, numbers.one_line numbers_of wide_base))))

  -- the entries of a key pass
  pub counts : (key : List ℕ) → AllByRecursion (λ a. (base.q - 1) * a < 2 ^ 127) key
      → list_all (is_count base.q) key ≡ true
  counts [] each = refl
  counts (a ∷ key) each = and_from _ _ (lt-ltb _ _ each.0) (counts key each.1)

  pub wide_key : (key : List ℕ) → AllByRecursion (λ a. (base.q - 1) * a < 2 ^ 127) key
      → AllByRecursion (λ a. a < 2 ^ 128) key
  wide_key key each =
      all_under (2 ^ 127) _ (omega arith) key
      (key_low base.q (order-bounds base.q h.shaped.order).0 key each)

  key_numbers : (count : ℕ) (key : List ℕ) → length key ≡ count
      → AllByRecursion (λ a. (base.q - 1) * a < 2 ^ 127) key
      → key_within base.q (some_numbers count (map decimal key)) ≡ Ok (Some key)
  key_numbers count key many each =
      ap (λ ns. key_within base.q (counted count ns))
      (numbers_back 0 (2 ^ 128) key (omega arith) (from_zero _ key (wide_key key each)))
      ∙ ap (key_within base.q) (cond-true (eqb (length key) count) (Some key) None (eq-eqb _ _ many))
      ∙ cond-true _ _ _ (counts key each)

  -- the line of a key without its end
  abbrev pub key_line_of : Option (List ℕ) → List ℕ
  key_line_of None = codes "key none"
  key_line_of (Some key) = codes "key" ++ spaced key

  pub key_back : (count : ℕ) (key : Option (List ℕ)) → IsKey base.q count key
      → key_of base.q count (key_line_of key) ≡ Ok key
  key_back count None valid = refl
  key_back count (Some []) valid = key_numbers count [] valid.0 tt
  key_back count (Some (a ∷ key)) valid =
      let each = recursion_from_All (λ a. (base.q - 1) * a < 2 ^ 127) (a ∷ key) valid.1 in
      let w = wide_key (a ∷ key) each in
      let numeral = (decimal_is_IsNumeral_wide a (omega (arith, w.0))).0 in
      cond-false _ _ _
      (no_none _ (spaced key) numeral.0 numeral.1)
      ∙ ap (λ ps. key_from base.q count (codes "key" ∷ ps)) (spaced_parts a key w)
      ∙ key_numbers count _ valid.0 each

  pub key_plain : (count : ℕ) (key : Option (List ℕ)) → IsKey base.q count key → Without 10 (key_line_of key)
  key_plain count None valid = (refl, (refl, (refl, (refl, (refl, (refl, (refl, (refl, tt))))))))
  key_plain count (Some key) valid = (
    refl,
    (
      refl,
      (
        refl,
        numbers.one_line key
            (wide_key key (recursion_from_All _ key valid.1)),
      ),
    ),
  )

  key_ended : (key : Option (List ℕ)) (rest : List ℕ) → key_text key ++ rest ≡ key_line_of key ++ 10 ∷ rest
  key_ended None rest = refl
  key_ended (Some key) rest = sym (ended (codes "key") key rest)

order_back : (order : Order) → order_from (split 32 (codes "order " ++ name_of order)) ≡ Ok order
order_back FactorsFirst = refl
order_back ChengWuFirst = refl
order_back ChengWuSecond = refl
order_back SitterChenFeder = refl
order_back MostClear = refl

order_split : (order : Order) (rest : List ℕ)
    → split 10 (order_text order ++ rest) ≡ (codes "order " ++ name_of order) ∷ split 10 rest
order_split FactorsFirst rest = refl
order_split ChengWuFirst rest = refl
order_split ChengWuSecond rest = refl
order_split SitterChenFeder rest = refl
order_split MostClear rest = refl

pub book_back : (book : TableBook) → IsBook book → length (book_text book) ≤ 33554432
    → book_of (book_text book) ≡ Ok (contents book)
unfolding book_of
book_back book valid short =
    let own = entries_of book.entries in
    let end = entries_text own ++ codes "END\n" in
    let after_order = key_text book.key ++ end in
    let after_base = order_text book.order ++ after_order in
    let after = base_text book.base ++ after_base in
    let base_words = codes "base" ++ spaced (numbers_of book.base valid.base) in
    let count = length (order_in book) in
    let key_words = key_line_of book.base valid.base book.key in
    let base_split : split 10 after ≡ base_words ∷ split 10 after_base =
    cc (
      ended (codes "base") (numbers_of book.base valid.base) after_base,
      split_line 10 base_words after_base
          (base_plain book.base valid.base),
    ) in
    let key_split : split 10 after_order ≡ key_words ∷ split 10 end =
    cc (
      key_ended book.base valid.base book.key end,
      split_line 10 key_words end
          (key_plain book.base valid.base count book.key valid.key),
    ) in
    cond-false (ltb 33554432 (length (book_text book))) _ _ (le-ltb _ _ short)
    ∙ title_line (codes "factex-table 2") _ (split 10 (book_text book)) refl (some_parts 10 after)
    ∙ base_line base_words _ _ base_split (some_parts 10 after_base)
    ∙ ap (with_base (split 10 after_base)) (base_back book.base valid.base valid.proper)
    ∙ order_line (codes "order " ++ name_of book.order) _ _ (order_split book.order after_order)
    (some_parts 10 after_order) book.base
    ∙ ap (with_order book.base (split 10 after_order)) (order_back book.order)
    ∙ key_line key_words _ _ key_split (some_parts 10 end) book.base book.order count refl
    ∙ ap (with_key book.base book.order (split 10 end)) (key_back book.base valid.base count book.key valid.key)
    ∙ ap (with_entries book.base book.order book.key)
    (entries_back book.base valid.base own 5 (low_entries book.base book.entries valid.entries))
