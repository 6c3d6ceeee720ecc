-- What was written is read.
use Rattle.std.proofs.Common.{◌≡◌, ◌≢◌, ℕ, zero, suc, ◌+◌, ◌/◌, ◌%◌, ◌^◌, ◌<◌, ◌≤◌, inl, inr, Bool, true, false, not}
use Rattle.std.proofs.Common.{◌||◌, eqb, ltb, List, [], ◌∷◌, ◌++◌, map, take, length, get_or, min, append-nil}
use Rattle.std.proofs.Common.{subst, Some, Ok, refl, sym, ap, ◌∙◌, arith, append_assoc, eq-eqb, ne_eqb, lt-ltb, le-leb}
use Rattle.std.specs.Prelude.{codes, decimal}
use Rattle.std.specs.List.{list_all, AllByRecursion}
use Rattle.std.specs.Fmt.{digits, digits_onto, digit_glyph}
use Rattle.std.specs.Str.{bytes_eq}
use Rattle.std.specs.Str.Parse.{AllDigits}
use Rattle.std.proofs.Math.Nat.{pow-suc}
use Rattle.std.proofs.lemmas.Bool.{cond-true, cond-false, cases_eq, cases_Bool, and_from, and_left, and_parts, or_left}
use Rattle.std.proofs.lemmas.Bool.{or_right, not_from_false, leb-true}
use Rattle.std.proofs.lemmas.Fmt.{decimal_is_IsNumeral_wide, decimal_digit}
use Rattle.std.proofs.lemmas.Str.Parse.{digit_from_value}
use Rattle.fx_designs.specs.Problems.{Dimensions}
use Rattle.fx_designs.specs.Nodes as nodes
use Rattle.fx_vectors.specs.Marks.{meaning_of}
use Rattle.fx_vectors.specs.declared.mark.Mark.{Mark}
use Rattle.fx_vectors.specs.declared.mark.Mark.TheVariants.{Branch, Word, Worse}
use Rattle.fx_book.specs.Parts.{split, is_digit, is_number, number_of}
use Rattle.fx_book.specs.Entries.{entry_of, word_entry, with_word, entry_text, entries_text}
use Rattle.fx_book.specs.Words.{vector_of, entries_from, number_with, is_short, entry_part, word_parts, after_blanks}
use Rattle.fx_book.specs.Words.{entries_of_parts, are_entries_after, by_entries}
use Rattle.fx_book.specs.Words.{by_number, is_word_number, is_long_word, word_written}
use Rattle.fx_book.specs.declared.version.Version.{Version}
use Rattle.fx_book.specs.declared.version.Version.TheVariants.{First, Second}
use Rattle.fx_book.specs.Reading.{entries}
use Rattle.fx_book.specs.Valid.{IsEntry}
use Rattle.fx_book.proofs.Splits.{some_parts}
use Rattle.fx_book.proofs.Lines.{at_entry, with_parts}
use Rattle.fx_book.proofs.Placing.{entry_bounds, entries_fit, from_entries}
use Rattle.fx_laws.proofs.Codes.{digits-vector}

-- no byte is the stop
abbrev pub Without : ℕ → List ℕ → Type 0
Without stop bytes = AllByRecursion (λ b. eqb b stop ≡ false) bytes

pub split_line : (stop : ℕ) (line rest : List ℕ) → Without stop line
    → split stop (line ++ stop ∷ rest) ≡ line ∷ split stop rest
split_line stop [] rest h = cond-true _ _ _ (eq-eqb stop stop refl)
split_line stop (b ∷ line) rest h = rw (h.0, split_line stop line rest h.1)

pub split_last : (stop : ℕ) (line : List ℕ) → Without stop line → split stop line ≡ line ∷ []
split_last stop [] h = refl
split_last stop (b ∷ line) h = rw (h.0, split_last stop line h.1)

pub without-append : (stop : ℕ) (xs ys : List ℕ) → Without stop xs → Without stop ys → Without stop (xs ++ ys)
without-append stop [] ys h k = k
without-append stop (x ∷ xs) ys h k = (h.0, without-append stop xs ys h.1 k)

pub digits_without : (stop : ℕ) → stop < 48 → (ds : List ℕ) → AllDigits 10 ds → Without stop ds
digits_without stop low [] h = tt
digits_without stop low (c ∷ cs) h = let e = digit_from_value c h.0 in
    (ne_eqb c stop (λ z. omega arith), digits_without stop low cs h.1)

digits_pass : (ds : List ℕ) → AllDigits 10 ds → list_all is_digit ds ≡ true
digits_pass [] h = refl
digits_pass (c ∷ cs) h = let e = digit_from_value c h.0 in
    and_from _ _ (and_from _ _ (le-leb 48 c e.0) (le-leb c 57 e.1)) (digits_pass cs h.1)

lead : (k n : ℕ) (acc : List ℕ) → 0 < n → n < 10 ^ k → get_or (digits_onto k 10 false n acc) 0 0 ≢ 48
lead zero n acc some low = absurd (omega arith)
lead (suc k) n acc some low =
    elim (cases_eq (n / 10) 0) [
      | inl last ↦
          let own : digits_onto (suc k) 10 false n acc ≡ digit_glyph false (n % 10) ∷ acc =
          cond-true _ _ _ (eq-eqb _ _ last) in
          let glyph : digit_glyph false (n % 10) ≡ 48 + n % 10 =
          cond-true (ltb (n % 10) 10) _ _ (lt-ltb _ _ (omega arith)) in
          λ e. let z : 48 + n % 10 ≡ 48 = cc in omega arith
      | inr more ↦
          let own : digits_onto (suc k) 10 false n acc
          ≡ digits_onto k 10 false (n / 10) (digit_glyph false (n % 10) ∷ acc) =
          cond-false _ _ _ (ne_eqb _ _ more) in
          let wide = pow-suc 10 k in
          λ e. lead k (n / 10) (digit_glyph false (n % 10) ∷ acc) (omega arith) (omega arith)
          (ap (λ l. get_or l 0 0) (sym own) ∙ e)
    ]

leads : (n : ℕ) → 0 < n → n < 10 ^ 64 → get_or (decimal n) 0 0 ≢ 48
unfolding digits
leads n some low = lead 64 n [] some low

pub number_back : (n : ℕ) → n < 2 ^ 128 → number_of (decimal n) ≡ Some n
number_back n low =
    let h = decimal_is_IsNumeral_wide n (omega arith) in
    cond-true (is_number (decimal n)) _ _
    (and_from _ _ (digits_pass _ h.0.1) (and_from _ _ (lt-ltb 0 _ h.0.0) (one n low)))
    ∙ ap Some (ap (λ v. min v 340282366920938463463374607431768211455) h.1 ∙ cap n low)
  where
    cap : (n : ℕ) → n < 2 ^ 128 → min n 340282366920938463463374607431768211455 ≡ n
    cap n low = omega arith

    one : (n : ℕ) → n < 2 ^ 128 → (not (eqb (get_or (decimal n) 0 0) 48) || eqb (length (decimal n)) 1) ≡ true
    one n low = elim (cases_eq n 0) [
      | inl z ↦ or_right _ _
          (ap (λ i. eqb (length (decimal i)) 1) z ∙ ap (λ l. eqb (length l) 1) (decimal_digit 0 (omega arith)))
      | inr some ↦ or_left _ _ (not_from_false _ (ne_eqb _ _ (leads n (omega arith) (omega arith))))
    ]

-- the mark of the code
abbrev pub as_mark : nodes.Mark → Mark
as_mark (nodes.Branch row) = Branch row
as_mark (nodes.Word row word) = Word row word
as_mark (nodes.Worse row) = Worse row

pub same-mark : (m : nodes.Mark) → meaning_of (as_mark m) ≡ m
same-mark (nodes.Branch row) = refl
same-mark (nodes.Word row word) = refl
same-mark (nodes.Worse row) = refl

-- a line without its end
abbrev pub line_of : Version → Dimensions → nodes.Mark → List ℕ
line_of version d (nodes.Branch row) = 79 ∷ 32 ∷ decimal row
line_of version d (nodes.Word row word) = 87 ∷ 32 ∷ (decimal row ++ after_blanks (word_parts version d word))
line_of version d (nodes.Worse row) = 80 ∷ 32 ∷ decimal row

pub text_line : (version : Version) (d : Dimensions) (m : nodes.Mark) (rest : List ℕ)
    → entry_text version d m ++ rest ≡ line_of version d m ++ 10 ∷ rest
text_line version d (nodes.Branch row) rest = cc (append_assoc (decimal row) (10 ∷ []) rest)
text_line version d (nodes.Word row word) rest =
    let parts = after_blanks (word_parts version d word) in
    cc (
      append_assoc (decimal row) (parts ++ 10 ∷ []) rest,
      append_assoc parts (10 ∷ []) rest,
      append_assoc
          (decimal row) parts (10 ∷ rest),
    )
text_line version d (nodes.Worse row) rest = cc (append_assoc (decimal row) (10 ∷ []) rest)

pub no_end : (version : Version) (d : Dimensions) (m : nodes.Mark)
    → bytes_eq (line_of version d m) (codes "END") ≡ false
no_end version d (nodes.Branch row) = refl
no_end version d (nodes.Word row word) = refl
no_end version d (nodes.Worse row) = refl

pub plain : (n : ℕ) → n < 2 ^ 128 → AllDigits 10 (decimal n)
plain n low = (decimal_is_IsNumeral_wide n (omega arith)).0.1

-- no part has the stop
abbrev pub EachWithout : ℕ → List (List ℕ) → Type 0
EachWithout stop parts = AllByRecursion (Without stop) parts

-- the parts after blanks
pub split_blanks : (x : List ℕ) (parts : List (List ℕ)) → Without 32 x → EachWithout 32 parts
    → split 32 (x ++ after_blanks parts) ≡ x ∷ parts
split_blanks x [] h k = cc (append-nil x, split_last 32 x h)
split_blanks x (part ∷ parts) h k =
    cc (split_line 32 x (part ++ after_blanks parts) h, split_blanks part parts k.0 k.1)

blanks_without : (parts : List (List ℕ)) → EachWithout 10 parts → Without 10 (after_blanks parts)
blanks_without [] h = tt
blanks_without (part ∷ parts) h = (refl, without-append 10 part _ h.0 (blanks_without parts h.1))

-- the entries of a word that were written are read
entry_parts_back : (entries : List (ℕ × ℕ)) → AllByRecursion (λ (e : ℕ × ℕ). (e.0 < 2 ^ 128) × (e.1 < 2 ^ 128)) entries
    → entries_of_parts (map entry_part entries) ≡ Some entries
entry_parts_back [] h = refl
entry_parts_back (e ∷ entries) h =
    let cut : split 58 (entry_part e) ≡ decimal e.0 ∷ decimal e.1 ∷ [] =
    cc (
      split_line 58 _ (decimal e.1) (digits_without_colon _ (plain e.0 h.0.0)),
      split_last 58 _
          (digits_without_colon _ (plain e.1 h.0.1)),
    ) in
    cc (number_back e.0 h.0.0, number_back e.1 h.0.1, entry_parts_back entries h.1)
  where
    digits_without_colon : (ds : List ℕ) → AllDigits 10 ds → Without 58 ds
    digits_without_colon [] h = tt
    digits_without_colon (c ∷ cs) h = let e = digit_from_value c h.0 in
        (ne_eqb c 58 (λ z. omega arith), digits_without_colon cs h.1)

-- the part of an entry has neither a blank nor an end of line
entry_part_without : (stop : ℕ) → stop < 48 → (e : ℕ × ℕ) → e.0 < 2 ^ 128 → e.1 < 2 ^ 128 → Without stop (entry_part e)
entry_part_without stop low e p c =
    without-append stop _ _ (digits_without stop low _ (plain e.0 p))
    (ne_eqb 58 stop (λ z. omega arith), digits_without stop low _ (plain e.1 c))

entry_parts_without : (stop : ℕ) → stop < 48 → (entries : List (ℕ × ℕ))
    → AllByRecursion (λ (e : ℕ × ℕ). (e.0 < 2 ^ 128) × (e.1 < 2 ^ 128)) entries
    → EachWithout stop (map entry_part entries)
entry_parts_without stop low [] h = tt
entry_parts_without stop low (e ∷ entries) h =
    (entry_part_without stop low e h.0.0 h.0.1, entry_parts_without stop low entries h.1)

-- no part of digits begins with `#`
no_number : (ds rest : List ℕ) → 0 < length ds → AllDigits 10 ds → bytes_eq (take 1 (ds ++ rest)) (codes "#") ≡ false
no_number [] rest some h = absurd (omega arith)
no_number (c ∷ cs) rest some h = let e = digit_from_value c h.0 in
    and_left _ _ (ne_eqb c 35 (λ z. omega arith))

module _ (d : Dimensions) (order : 0 < d.q) (small : d.q < 2 ^ 127) (rows : d.s + d.t < 2 ^ 127)
    (words : d.q ^ (d.s + d.t) < 2 ^ 127) where
  -- the entries of a word are small numbers
  small_entries : (last room : ℕ) (entries : List (ℕ × ℕ)) → are_entries_after d last room entries ≡ true
      → AllByRecursion (λ (e : ℕ × ℕ). (e.0 < 2 ^ 128) × (e.1 < 2 ^ 128)) entries
  small_entries last room [] h = tt
  small_entries last zero (e ∷ entries) h = cc h
  small_entries last (suc room) (e ∷ entries) h =
      let p = and_parts _ _ h in
      let b = entry_bounds d last e p.0 in
      ((omega arith, omega arith), small_entries e.0 room entries p.1)

  abbrev own_entries : ℕ → List (ℕ × ℕ)
  own_entries word = entries_from 1 (vector_of d word)

  own_fit : (word : ℕ) → is_short d word ≡ true → are_entries_after d 0 8 (own_entries word) ≡ true
  own_fit word short =
      let v = digits-vector d.q (d.s + d.t) word order in
      entries_fit d 0 0 8 (vector_of d word) (omega arith) (omega arith) v.codes (leb-true _ _ short)

  -- a word of some entries, of which the first is not a number after `#`
  by_parts : (entries : List (ℕ × ℕ)) → 0 < length entries
      → AllByRecursion (λ (e : ℕ × ℕ). (e.0 < 2 ^ 128) × (e.1 < 2 ^ 128)) entries
      → word_written Second d (map entry_part entries) ≡ by_entries d (entries_of_parts (map entry_part entries))
  by_parts [] some h = absurd (omega arith)
  by_parts (e ∷ []) some h =
      let numeral = (decimal_is_IsNumeral_wide e.0 (omega arith)).0 in
      cond-false _ _ _
      (no_number _ (58 ∷ decimal e.1) numeral.0 numeral.1)
  by_parts (e ∷ f ∷ entries) some h = refl

  -- a word that was written is read
  pub word_back : (version : Version) (word : ℕ) → 0 < word → word < d.q ^ (d.s + d.t)
      → word_written version d (word_parts version d word) ≡ Ok word
  word_back First word some low =
      ap (by_number (is_word_number d)) (number_back word (omega arith)) ∙ cond-true (is_word_number d word) _ _
      (and_from _ _ (lt-ltb _ _ some) (lt-ltb _ _ low))
  word_back Second word some low =
      let entries = own_entries word in
      elim (cases_Bool (is_short d word)) [
        | inl short ↦
            let fit = own_fit word short in
            let each = small_entries 0 8 entries fit in
            let is = from_entries d order word low in
            ap (word_written Second d)
            (cond-true _ (map entry_part entries) ((35 ∷ decimal word) ∷ []) short)
            ∙ by_parts entries (some_of entries (omega arith)) each
            ∙ ap (by_entries d) (entry_parts_back entries each)
            ∙ cond-true _ _ _ fit ∙ ap Ok is
        | inr long ↦
            ap (word_written Second d)
            (cond-false _ (map entry_part entries) ((35 ∷ decimal word) ∷ []) long)
            ∙ ap (by_number (is_long_word d)) (number_back word (omega arith))
            ∙ cond-true (is_long_word d word) _ _
            (and_from _ _ (and_from _ _ (lt-ltb _ _ some) (lt-ltb _ _ low)) (not_from_false _ long))
      ]
    where
      some_of : (entries : List (ℕ × ℕ)) → 0 < number_with d.q entries → 0 < length entries
      some_of [] h = absurd (omega arith)
      some_of (e ∷ entries) h = omega arith

  pub word_parts_without : (stop : ℕ) → stop < 35 → (version : Version) (word : ℕ) → word < d.q ^ (d.s + d.t)
      → EachWithout stop (word_parts version d word)
  word_parts_without stop low First word below =
      (digits_without stop (omega arith) _ (plain word (omega arith)), tt)
  word_parts_without stop low Second word below =
      let entries = own_entries word in
      let numbered : List (List ℕ) = (35 ∷ decimal word) ∷ [] in
      elim (cases_Bool (is_short d word)) [
        | inl short ↦
            subst (EachWithout stop) (sym (cond-true _ (map entry_part entries) numbered short))
            (entry_parts_without stop (omega arith) entries (small_entries 0 8 entries (own_fit word short)))
        | inr long ↦
            subst (EachWithout stop) (sym (cond-false _ (map entry_part entries) numbered long)) (
              (
                ne_eqb 35 stop (λ z. omega arith),
                digits_without stop (omega arith) _
                    (plain word (omega arith)),
              ),
              tt,
            )
      ]

  pub some_word_parts : (version : Version) (word : ℕ) → 0 < word → word < d.q ^ (d.s + d.t)
      → 0 < length (word_parts version d word)
  some_word_parts version word some low = by_length _ (word_back version word some low)
    where
      by_length : (parts : List (List ℕ)) → word_written version d parts ≡ Ok word → 0 < length parts
      by_length [] h = cc h
      by_length (part ∷ parts) h = omega arith

module _ (version : Version) (d : Dimensions) (beaten : Bool) (order : 0 < d.q) (small : d.q < 2 ^ 127)
    (rows : d.s + d.t < 2 ^ 127) (runs : d.q ^ d.m ≤ 1024) (words : d.q ^ (d.s + d.t) < 2 ^ 127) where
  pub one_line : (m : nodes.Mark) → IsEntry d beaten m → Without 10 (line_of version d m)
  one_line (nodes.Branch row) h =
      (refl, (refl, digits_without 10 (omega arith) _ (plain row (omega arith))))
  one_line (nodes.Word row word) h = (
    refl,
    (
      refl,
      without-append 10 _ _
          (digits_without 10 (omega arith) _ (plain row (omega arith)))
          (blanks_without _
          (word_parts_without d order small rows words 10 (omega arith) version word h.2)),
    ),
  )
  one_line (nodes.Worse row) h =
      (refl, (refl, digits_without 10 (omega arith) _ (plain row (omega arith))))

  pub entry_back : (m : nodes.Mark) → IsEntry d beaten m
      → entry_of version d beaten (split 32 (line_of version d m)) ≡ Ok (as_mark m)
  entry_back (nodes.Branch row) h =
      let parts : split 32 (line_of version d (nodes.Branch row)) ≡ (79 ∷ []) ∷ decimal row ∷ [] =
      cc (split_last 32 _ (digits_without 32 (omega arith) _ (plain row (omega arith)))) in
      ap (entry_of version d beaten) parts ∙
      (rw (number_back row (omega arith)) (cond-true _ _ _ (lt-ltb _ _ h)))
  entry_back (nodes.Word row word) h =
      let own = word_parts version d word in
      let parts : split 32 (line_of version d (nodes.Word row word)) ≡ (87 ∷ []) ∷ decimal row ∷ own =
      cc (split_blanks _ own (digits_without 32 (omega arith) _ (plain row (omega arith)))
      (word_parts_without d order small rows words 32 (omega arith) version word h.2)) in
      ap (entry_of version d beaten) parts
      ∙ with_parts version d beaten (87 ∷ []) (decimal row) own
      (some_word_parts d order small rows words version word h.1 h.2)
      ∙ ap (λ o. word_entry d (87 ∷ []) o (word_written version d own)) (number_back row (omega arith))
      ∙ ap (with_word d row) (word_back d order small rows words version word h.1 h.2)
      ∙ cond-true (ltb row (d.q ^ d.m)) _ _ (lt-ltb _ _ h.0)
  entry_back (nodes.Worse row) h =
      let parts : split 32 (line_of version d (nodes.Worse row)) ≡ (80 ∷ []) ∷ decimal row ∷ [] =
      cc (split_last 32 _ (digits_without 32 (omega arith) _ (plain row (omega arith))))
      in
      ap (entry_of version d beaten) parts ∙
      (rw (number_back row (omega arith), h.1) (cond-true _ _ _ (lt-ltb _ _ h.0)))

  pub entries_back : (marks : List nodes.Mark) (n : ℕ) → AllByRecursion (IsEntry d beaten) marks
      → entries version d beaten n (split 10 (entries_text version d marks ++ codes "END\n")) ≡ Ok marks
  entries_back [] n h = refl
  entries_back (m ∷ marks) n h =
      let rest = entries_text version d marks ++ codes "END\n" in
      let text =
      append_assoc (entry_text version d m) (entries_text version d marks) (codes "END\n") ∙ text_line version d m
      rest in
      cc (
        text,
        split_line 10 (line_of version d m) rest (one_line m h.0),
        at_entry version d beaten n
            (line_of version d m) (split 10 rest) (some_parts 10 rest) (no_end version d m),
        entry_back m h.0,
        entries_back marks (n + 1) h.1,
        same-mark m,
      )
