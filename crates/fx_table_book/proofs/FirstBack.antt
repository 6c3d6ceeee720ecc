-- A book without blocks is read from a text of the first version.
use Rattle.std.proofs.Common.{◌≡◌, ℕ, ◌+◌, ◌-◌, ◌*◌, ◌^◌, ◌<◌, ◌≤◌, ltb, List, [], ◌∷◌, ◌++◌}
use Rattle.std.proofs.Common.{length}
use Rattle.std.proofs.Common.{Option, Some, None, Ok, refl, sym, ap, ap₂, ◌∙◌, arith, eq-eqb, le-ltb}
use Rattle.std.specs.Prelude.{codes}
use Rattle.std.specs.List.{AllByRecursion}
use Rattle.std.proofs.lemmas.Bool.{cond-true, cond-false}
use Rattle.std.proofs.lemmas.Fmt.{decimal_is_IsNumeral_wide}
use Rattle.std.proofs.lemmas.List.Elements.{recursion_from_All}
use Rattle.fx_book.specs.Parts.{split}
use Rattle.fx_book.specs.Writing.{spaced, line_text}
use Rattle.fx_book.proofs.Splits.{some_parts}
use Rattle.fx_book.proofs.Accepted.{ended}
use Rattle.fx_book.proofs.Back.{Without, split_line}
use Rattle.fx_book.proofs.Books.{spaced_parts, numbers_back}
use Rattle.fx_book.proofs.Books as numbers
use Rattle.fx_strata.specs.Books as books
use Rattle.fx_table_book.specs.declared.base.Base.{Base}
use Rattle.fx_table_book.specs.declared.order.Order.TheVariants.{FactorsFirst}
use Rattle.fx_table_book.specs.declared.book.TableBook.{TableBook}
use Rattle.fx_table_book.specs.Tables.{IsBase, IsProper, IsKey, IsBook, strata_of, order_of, entries_of}
use Rattle.fx_table_book.specs.Texts.{contents, pattern_text, first_text, IsFirst, entries_text, is_base}
use Rattle.fx_table_book.specs.Texts.{counted, unblocked, size_from, size_of, pattern_within}
use Rattle.fx_table_book.specs.Texts.{pattern_from, pattern_of, with_entries, with_key, with_size}
use Rattle.fx_table_book.specs.Texts.{book_of}
use Rattle.fx_table_book.proofs.Back.{no_none, entries_back, counts, wide_key}
use Rattle.fx_table_book.proofs.Fronts.{title_line, size_line, demands_line, pattern_line}
use Rattle.fx_table_book.proofs.Shapes.{base_passes, base_little}
use Rattle.fx_table_book.proofs.Small.{low_entries, from_zero}

module _ (base : Base) (h : IsBase base) where
  abbrev numbers_of : List ℕ
  numbers_of = base.q ∷ base.m ∷ base.n ∷ 0 ∷ []

  wide_size : AllByRecursion (λ a. a < 2 ^ 128) numbers_of
  wide_size =
      let l = base_little base h in
      (omega arith, (omega arith, (omega arith, (omega arith, tt))))

  same : base.h ≡ 0 → base.w ≡ 0 → unblocked numbers_of ≡ base
  same no_blocks no_plots =
      ap₂ (λ h w. record { q = base.q; m = base.m; h = h; w = w; n = base.n }) (sym no_blocks) (sym no_plots)

  size_back : IsProper base → base.h ≡ 0 → base.w ≡ 0
      → size_of (split 32 (codes "size" ++ spaced numbers_of)) ≡ Ok base
  size_back proper no_blocks no_plots =
      let is = same no_blocks no_plots in
      ap (λ ps. size_of (codes "size" ∷ ps)) (spaced_parts base.q (base.m ∷ base.n ∷ 0 ∷ []) wide_size)
      ∙ ap (λ ns. size_from (counted 4 ns))
      (numbers_back 0 (2 ^ 128) numbers_of (omega arith) (from_zero _ numbers_of wide_size))
      ∙ ap size_from (cond-true _ (Some numbers_of) None (eq-eqb (length numbers_of) 4 refl))
      ∙ cond-true _ _ _ (ap is_base is ∙ base_passes base h proper)
      ∙ ap Ok is

  size_plain : Without 10 (codes "size" ++ spaced numbers_of)
  size_plain = (refl, (refl, (refl, (refl, numbers.one_line numbers_of wide_size))))

  -- the line of a pattern without its end
  abbrev pattern_line_of : Option (List ℕ) → List ℕ
  pattern_line_of None = codes "pattern none"
  pattern_line_of (Some key) = codes "pattern" ++ spaced (0 ∷ 0 ∷ key)

  wide_pattern : (count : ℕ) (key : List ℕ) → IsKey base.q count (Some key)
      → AllByRecursion (λ a. a < 2 ^ 128) (0 ∷ 0 ∷ key)
  wide_pattern count key valid = (
    omega arith,
    (
      omega arith,
      wide_key base h key
          (recursion_from_All _ key valid.1),
    ),
  )

  pattern_back : (count : ℕ) (key : Option (List ℕ)) → IsKey base.q count key
      → pattern_of base.q count (pattern_line_of key) ≡ Ok key
  pattern_back count None valid = refl
  pattern_back count (Some key) valid =
      let pattern : List ℕ = 0 ∷ 0 ∷ key in
      let w = wide_pattern count key valid in
      let each = recursion_from_All (λ a. (base.q - 1) * a < 2 ^ 127) key valid.1 in
      let numeral = (decimal_is_IsNumeral_wide 0 (omega arith)).0 in
      cond-false _ _ _
      (no_none _ (spaced (0 ∷ key)) numeral.0 numeral.1)
      ∙ ap (λ ps. pattern_from base.q count (codes "pattern" ∷ ps)) (spaced_parts 0 (0 ∷ key) w)
      ∙ ap (λ ns. pattern_within base.q (counted (count + 2) ns))
      (numbers_back 0 (2 ^ 128) pattern (omega arith) (from_zero _ pattern w))
      ∙ ap (pattern_within base.q)
      (cond-true _ (Some pattern) None (eq-eqb _ _ (omega arith)))
      ∙ cond-true _ _ _ (counts base h key each)

  pattern_plain : (count : ℕ) (key : Option (List ℕ)) → IsKey base.q count key → Without 10 (pattern_line_of key)
  pattern_plain count None valid =
      (refl, (refl, (refl, (refl, (refl, (refl, (refl, (refl, (refl, (refl, (refl, (refl, tt))))))))))))
  pattern_plain count (Some key) valid = (
    refl,
    (
      refl,
      (
        refl,
        (
          refl,
          (
            refl,
            (
              refl,
              (
                refl,
                numbers.one_line (0 ∷ 0 ∷ key) (wide_pattern count key valid),
              ),
            ),
          ),
        ),
      ),
    ),
  )

  pattern_ended : (key : Option (List ℕ)) (rest : List ℕ)
      → pattern_text key ++ rest ≡ pattern_line_of key ++ 10 ∷ rest
  pattern_ended None rest = refl
  pattern_ended (Some key) rest = sym (ended (codes "pattern") (0 ∷ 0 ∷ key) rest)

pub first_back : (book : TableBook) → IsBook book → IsFirst (contents book)
    → length (first_text (contents book)) ≤ 33554432
    → book_of (first_text (contents book)) ≡ Ok (contents book)
unfolding book_of
first_back book valid first short =
    let own = entries_of book.entries in
    let end = entries_text own ++ codes "END\n" in
    let after_demands = pattern_text book.key ++ end in
    let after_size = codes "resolution 3\n" ++ after_demands in
    let after = line_text (codes "size") (numbers_of book.base valid.base) ++ after_size in
    let size_words = codes "size" ++ spaced (numbers_of book.base valid.base) in
    let count = length (order_of FactorsFirst (strata_of book.base)) in
    let valid_key =
    rw first.order at valid.key in
    let pattern_words = pattern_line_of book.base valid.base book.key in
    let size_split : split 10 after ≡ size_words ∷ split 10 after_size =
    cc (
      ended (codes "size") (numbers_of book.base valid.base) after_size,
      split_line 10 size_words after_size
          (size_plain book.base valid.base),
    ) in
    let pattern_split : split 10 after_demands ≡ pattern_words ∷ split 10 end =
    cc (
      pattern_ended book.base valid.base book.key end,
      split_line 10 pattern_words end
          (pattern_plain book.base valid.base count book.key valid_key),
    ) in
    cond-false (ltb 33554432 (length (first_text (contents book)))) _ _ (le-ltb _ _ short)
    ∙ title_line (codes "factex-table 1") _ (split 10 (first_text (contents book))) refl
    (some_parts 10 after)
    ∙ size_line size_words _ _ size_split (some_parts 10 after_size)
    ∙ ap (with_size (split 10 after_size))
    (size_back book.base valid.base valid.proper first.no_blocks first.no_whole_plots)
    ∙ demands_line (codes "resolution 3") _ (split 10 after_size) refl
    (some_parts 10 after_demands) book.base
    ∙ pattern_line pattern_words _ _ pattern_split (some_parts 10 end) book.base count
    refl
    ∙ ap (with_key book.base FactorsFirst (split 10 end)) (pattern_back book.base valid.base count book.key valid_key)
    ∙ ap (with_entries book.base FactorsFirst book.key)
    (entries_back book.base valid.base own 5 (low_entries book.base book.entries valid.entries))
    ∙ ap (λ o. Ok (record { base = book.base; order = o; key = book.key; entries = own })) (sym first.order)
