-- A whole book that was written is read.
use Rattle.std.proofs.Common.{◌≡◌, ℕ, ◌^◌, ◌<◌, ◌≤◌, Bool, true, false, inl, inr, ltb, leb, le-leb, List}
use Rattle.std.proofs.Common.{[], ◌∷◌, ◌++◌, length, Option, Some, None, Ok, Err, refl, ap, ◌∙◌, arith}
use Rattle.std.proofs.Common.{append_assoc, eq-eqb, le-ltb}
use Rattle.std.specs.Prelude.{codes}
use Rattle.std.specs.Option.{is_some}
use Rattle.std.proofs.lemmas.Bool.{cond-true, cond-false, cases_Bool, cases_lt, both_ways, and_from}
use Rattle.std.proofs.lemmas.List.Elements.{recursion_from_All}
use Rattle.fx_vectors.specs.Shape.{IsShape, dimensions_of}
use Rattle.fx_vectors.specs.Effects.{numbers_of}
use Rattle.fx_vectors.specs.Question.{CanBeAsked, requirement_of}
use Rattle.fx_vectors.specs.declared.shape.Shape.{Shape}
use Rattle.fx_vectors.specs.declared.book.Book.{Book}
use Rattle.fx_vectors.specs.declared.book.Head.{Head}
use Rattle.fx_vectors.specs.declared.question.Demands.{Demands}
use Rattle.fx_vectors.specs.declared.question.Demands.TheVariants.{Resolution, Effects}
use Rattle.fx_vectors.proofs.Limits.{order-bounds, words_fit, rows_fit}
use Rattle.fx_vectors.specs.declared.shape.TheConstants.{MOST_FACTORS, MOST_FACTORS_OF_MANY_LEVELS}
use Rattle.fx_book.specs.declared.fault.FaultKind.TheVariants as kind
use Rattle.fx_book.specs.Faults.{fault}
use Rattle.fx_book.specs.Parts.{split}
use Rattle.fx_book.specs.Entries.{entries_text}
use Rattle.fx_book.specs.Reading.{entries}
use Rattle.fx_book.specs.Demands.{demands_of}
use Rattle.fx_book.specs.Heads.{book_of, from_title, with_version, with_head, head_of, from_demands, from_beat}
use Rattle.fx_book.specs.Heads.{with_shape}
use Rattle.fx_book.specs.Heads.{with_demands, with_beat, with_marks, shape_of, beat_of, may_be_beaten}
use Rattle.fx_book.specs.declared.version.Version.{Version}
use Rattle.fx_book.specs.declared.version.Version.TheVariants.{First, Second}
use Rattle.fx_book.specs.Versions.{title_of, version_of, most_factors_in}
use Rattle.fx_book.specs.Writing.{spaced, shape_text, demands_text, beat_text, text_in, book_text}
use Rattle.fx_book.specs.Valid.{AreFew, IsBeat, IsValidHead, IsValidBook}
use Rattle.fx_book.proofs.Splits.{some_parts}
use Rattle.fx_book.proofs.Lines.{line_more}
use Rattle.fx_book.proofs.Back.{Without, split_line, without-append, entries_back}
use Rattle.fx_book.proofs.Books.{one_line, wide_shape, shape_back, resolution_back, effects_back, each_number, small}
use Rattle.fx_book.proofs.Books.{pattern_back, wider}

plain_title : (version : Version) → Without 10 (title_of version)
plain_title First =
    (refl, (refl, (refl, (refl, (refl, (refl, (refl, (refl, (refl, (refl, (refl, (refl, (refl, tt)))))))))))))
plain_title Second =
    (refl, (refl, (refl, (refl, (refl, (refl, (refl, (refl, (refl, (refl, (refl, (refl, (refl, tt)))))))))))))

own_title : (version : Version) → version_of (title_of version) ≡ Some version
own_title First = refl
own_title Second = refl

least_is : (s : ℕ) (least : Bool) (beat : Option (List ℕ)) → IsBeat s least beat → is_some beat ≡ least
least_is s least None h = cc
least_is s least (Some pattern) h = cc

-- the lines that say what a book is about, with this text after them
module _ (version : Version) (head : Head) (valid : IsValidHead head)
    (few_factors : head.question.shape.s ≤ most_factors_in version head.question.shape.q) (after_beat : List ℕ) where
  abbrev shape : Shape
  shape = head.question.shape

  abbrev asked : Demands
  asked = head.question.demands

  abbrev beat : Option (List ℕ)
  beat = head.beat

  -- the text after the line of the demands and of the shape
  abbrev after_demands : List ℕ
  after_demands = beat_text beat ++ after_beat

  abbrev after_shape : List ℕ
  after_shape = demands_text asked ++ after_demands

  may : head.question.least ≡ true → may_be_beaten shape asked ≡ true
  may least = let h = valid.question.least least in and_from _ _ (eq-eqb _ _ h.1) h.0

  -- the line of the pattern, and what follows it
  beat_cut : (beat : Option (List ℕ)) (rest : List ℕ) → IsBeat shape.s head.question.least beat
      → (line : List ℕ) × (split 10 (beat_text beat ++ rest) ≡ line ∷ split 10 rest)
      × (beat_of shape.s (may_be_beaten shape asked) line ≡ Some beat)
  beat_cut None rest h = (codes "pattern none", refl, refl)
  beat_cut (Some pattern) rest h =
      let each = recursion_from_All _ pattern h.2 in
      let line = codes "pattern" ++ spaced pattern in
      let own : Without 10 line =
      (refl, (refl, (refl, (refl, (refl, (refl, (refl, one_line pattern (wider pattern each)))))))) in (
        line,
        cc (
          append_assoc (spaced pattern) (10 ∷ []) rest,
          split_line 10 line
              rest own,
        ),
        cc (
          may h.0,
          pattern_back shape.s pattern valid.question.shaped.some_factors h.1
              each,
        ),
      )

  -- the line of the demands, and what follows it
  demands_cut : (asked : Demands) (rest : List ℕ) → CanBeAsked (dimensions_of shape) (requirement_of asked)
      → AreFew asked
      → (line : List ℕ) × (split 10 (demands_text asked ++ rest) ≡ line ∷ split 10 rest)
      × (demands_of shape (split 32 line) ≡ Some asked)
  demands_cut (Resolution r) rest h few =
      let line = codes "resolution" ++ spaced (r ∷ []) in
      let small : r < 2 ^ 128 = omega arith in
      let own : Without 10 line =
      (refl, (refl, (refl, (refl, (refl, (refl, (refl, (refl, (refl, (refl, one_line (r ∷ []) (small, tt)))))))))))
      in (
        line,
        cc (
          append_assoc (spaced (r ∷ [])) (10 ∷ []) rest,
          split_line 10
              line rest own,
        ),
        resolution_back shape r h.0 h.1,
      )
  demands_cut (Effects estimate others) rest h few =
      let ns = numbers_of estimate in
      let ms = numbers_of others in
      let short = valid.question.shaped.factors in
      let line = codes "effects" ++ (spaced ns ++ (codes " /" ++ spaced ms)) in
      let own : Without 10 line = (
        refl,
        (
          refl,
          (
            refl,
            (
              refl,
              (
                refl,
                (
                  refl,
                  (
                    refl,
                    without-append 10 _ _
                        (one_line ns (small shape.s ns short (each_number shape.s ns h.estimated)))
                        (refl, (refl, one_line ms (small shape.s ms short (each_number shape.s ms h.others)))),
                  ),
                ),
              ),
            ),
          ),
        ),
      ) in
      let text : (spaced ns ++ (codes " /" ++ (spaced ms ++ codes "\n"))) ++ rest
      ≡ (spaced ns ++ (codes " /" ++ spaced ms)) ++ 10 ∷ rest =
      cc (
        append_assoc (spaced ns) (codes " /" ++ (spaced ms ++ codes "\n")) rest,
        append_assoc (spaced ms) (10 ∷ [])
            rest,
        append_assoc (spaced ns) (codes " /" ++ spaced ms) (10 ∷ rest),
      ) in (
        line,
        cc (split_line 10 line rest own),
        effects_back shape estimate others short h few.0 few.1,
      )

  from_beat_back : from_beat shape asked (split 10 after_demands) ≡ Ok (head, split 10 after_beat)
  from_beat_back =
      let cut = beat_cut beat after_beat valid.beat in
      ap (from_beat shape asked) cut.1
      ∙ line_more (Err (fault kind.Pattern 4))
      (λ line rest. with_beat shape asked rest (beat_of shape.s (may_be_beaten shape asked) line)) cut.0
      _ (some_parts 10 after_beat)
      ∙ ap (with_beat shape asked (split 10 after_beat)) cut.2
      ∙ ap (λ least. Ok (
        record { question = record { shape = shape; demands = asked; least = least }; beat = beat },
        split 10 after_beat,
      ))
      (least_is shape.s head.question.least beat valid.beat)

  from_demands_back : from_demands shape (split 10 after_shape) ≡ from_beat shape asked (split 10 after_demands)
  from_demands_back =
      let cut = demands_cut asked after_demands valid.question.asked valid.few_effects in
      cc (line_more (Err (fault kind.Demands 3))
      (λ line rest. with_demands shape rest (demands_of shape (split 32 line))) cut.0 _
      (some_parts 10 after_demands))

  -- a head that was written is read
  pub head_back : head_of version (split 10 (shape_text shape ++ after_shape)) ≡ Ok (head, split 10 after_beat)
  head_back =
      let numbers : List ℕ = shape.q ∷ shape.m ∷ shape.s ∷ shape.t ∷ [] in
      let line = codes "size" ++ spaced numbers in
      let own : Without 10 line =
      (refl, (refl, (refl, (refl, one_line numbers (wide_shape version shape valid.question.shaped few_factors)))))
      in
      ap (head_of version)
      (ap (λ l. split 10 (codes "size" ++ l)) (append_assoc (spaced numbers) (10 ∷ []) after_shape) ∙ split_line 10
      line after_shape own)
      ∙ line_more (Err (fault kind.Size 2)) (λ line rest. with_shape rest (shape_of version (split 32 line)))
      line _ (some_parts 10 after_shape)
      ∙ ap (with_shape (split 10 after_shape)) (shape_back version shape valid.question.shaped few_factors)
      ∙ from_demands_back ∙ from_beat_back

module _ (version : Version) (book : Book) (valid : IsValidBook book)
    (few_factors : book.head.question.shape.s ≤ most_factors_in version book.head.question.shape.q) where
  abbrev own : Shape
  own = book.head.question.shape

  -- the text after the line of the pattern and of the title
  abbrev entries_and_end : List ℕ
  entries_and_end = entries_text version (dimensions_of own) book.marks ++ codes "END\n"

  abbrev after_title : List ℕ
  after_title =
      shape_text own ++ (demands_text book.head.question.demands ++ (beat_text book.head.beat ++ entries_and_end))

  marks_back : entries version (dimensions_of own) (is_some book.head.beat) 5 (split 10 entries_and_end)
      ≡ Ok book.marks
  marks_back =
      entries_back version (dimensions_of own) _
      (omega (arith, (order-bounds own.q valid.question.shaped.order).0))
      (omega (arith, (order-bounds own.q valid.question.shaped.order).1))
      (omega (arith, rows_fit own valid.question.shaped)) valid.question.shaped.runs
      (words_fit own valid.question.shaped _ (omega arith))
      book.marks 5 (recursion_from_All _ book.marks valid.marks)

  pub written_back : length (text_in version book) ≤ 268435456 → book_of (text_in version book) ≡ Ok book
  unfolding book_of
  written_back few =
      let valid_head : IsValidHead book.head =
      record { question = valid.question; few_effects = valid.few_effects; beat = valid.beat } in
      cond-false (ltb 268435456 (length (text_in version book))) _ _ (le-ltb _ _ few)
      ∙ ap from_title (split_line 10 _ after_title (plain_title version))
      ∙ line_more (Err (fault kind.Title 1)) (λ line rest. with_version rest (version_of line)) (title_of version)
      _ (some_parts 10 after_title)
      ∙ ap (with_version (split 10 after_title)) (own_title version)
      ∙ ap (with_head version) (head_back version book.head valid_head few_factors entries_and_end)
      ∙ ap (with_marks book.head) marks_back

-- a valid shape is within the limits of the second version
pub second_fits : (shape : Shape) → IsShape shape → shape.s ≤ most_factors_in Second shape.q
second_fits shape h =
    elim (cases_Bool (leb shape.q 3)) [
      | inl few ↦
          rw (cond-true _ MOST_FACTORS MOST_FACTORS_OF_MANY_LEVELS few) h.factors
      | inr many ↦
          rw (cond-false _ MOST_FACTORS MOST_FACTORS_OF_MANY_LEVELS many) (h.factors_of_many_levels (over shape.q many))
    ]
  where
    over : (q : ℕ) → leb q 3 ≡ false → 3 < q
    over q h = elim (cases_lt 3 q) [ inl more ↦ more | inr few ↦ absurd (both_ways _ h (le-leb q 3 few)) ]

-- what is written of a valid book is read
pub book_back : (book : Book) → IsValidBook book → length (book_text book) ≤ 268435456
    → book_of (book_text book) ≡ Ok book
book_back book valid few =
    written_back Second book valid (second_fits book.head.question.shape valid.question.shaped) few
