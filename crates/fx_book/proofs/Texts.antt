-- What is read as a book is what is written of it.
use Rattle.std.proofs.Common.{◌≡◌, ℕ, ◌+◌, ◌^◌, ◌<◌, ◌≤◌, inl, inr, Bool, true, ◌&&◌, cond, eqb, ltb, List, [], ◌∷◌}
use Rattle.std.proofs.Common.{◌++◌, map, length, Option, Some, None, Result, Ok, Err, refl, sym, ap, ◌∙◌, arith}
use Rattle.std.proofs.Common.{append_assoc, append-nil, subst, take, drop, zero, suc}
use Rattle.std.specs.Prelude.{codes, decimal}
use Rattle.std.specs.Str.{bytes_eq}
use Rattle.std.proofs.lemmas.Bool.{cond-true, cond-false, cases_Bool, and_parts, eqb-true, ltb-true, not-true}
use Rattle.std.proofs.lemmas.Slice.Eq.{bytes_eq-Decides}
use Rattle.fx_designs.specs.Problems.{Dimensions}
use Rattle.fx_designs.specs.Nodes as nodes
use Rattle.fx_vectors.specs.Marks.{meaning_of}
use Rattle.fx_vectors.specs.declared.mark.Mark.{Mark}
use Rattle.fx_vectors.specs.declared.mark.Mark.TheVariants.{Branch, Word, Worse}
use Rattle.fx_book.specs.declared.fault.FaultKind.{FaultKind}
use Rattle.fx_book.specs.declared.fault.FaultKind.TheVariants.{Form, Range}
use Rattle.fx_book.specs.declared.fault.BookFault.{BookFault}
use Rattle.fx_book.specs.Parts.{split, put_first, number_of}
use Rattle.fx_book.specs.declared.version.Version.{Version}
use Rattle.fx_book.specs.declared.version.Version.TheVariants.{First, Second}
use Rattle.fx_book.specs.Words.{vector_of, entries_from, number_with, is_short, entry_part, word_parts, after_blanks}
use Rattle.fx_book.specs.Words.{both, entry_from, with_entry, entries_of_parts, are_entries_after, by_entries}
use Rattle.fx_book.specs.Words.{by_number, is_word_number, is_long_word, word_written}
use Rattle.fx_book.proofs.Placing.{entry_bounds, has_entries, some_entries}
use Rattle.fx_book.specs.Entries.{entry_of, short_entry, word_entry, with_word, ranged, entry_text, entries_text}
use Rattle.fx_book.specs.Reading.{entries, after_entry, is_nothing}
use Rattle.fx_book.specs.Writing.{spaced}
use Rattle.fx_book.proofs.Splits.{some_parts}
use Rattle.fx_book.proofs.Numerals.{part_is}

-- parts with a separator between two of them
abbrev pub joined : ℕ → List (List ℕ) → List ℕ
joined stop [] = []
joined stop (part ∷ []) = part
joined stop (part ∷ next ∷ parts) = part ++ stop ∷ joined stop (next ∷ parts)

pub joined_more : (stop : ℕ) (part : List ℕ) (parts : List (List ℕ)) → 0 < length parts
    → joined stop (part ∷ parts) ≡ part ++ stop ∷ joined stop parts
joined_more stop part [] h = absurd (omega arith)
joined_more stop part (next ∷ parts) h = refl

joined_put : (stop b : ℕ) (parts : List (List ℕ)) → joined stop (put_first b parts) ≡ b ∷ joined stop parts
joined_put stop b [] = refl
joined_put stop b (part ∷ []) = refl
joined_put stop b (part ∷ next ∷ parts) = refl

-- what was split is joined again
pub join_split : (stop : ℕ) (text : List ℕ) → joined stop (split stop text) ≡ text
join_split stop [] = refl
join_split stop (b ∷ bytes) =
    elim (cases_Bool (eqb b stop)) [
      | inl is ↦
          cc (
            cond-true _ ([] ∷ split stop bytes) (put_first b (split stop bytes)) is,
            joined_more stop [] _
                (some_parts stop bytes),
            join_split stop bytes,
            eqb-true b stop is,
          )
      | inr other ↦
          cc (
            cond-false _ ([] ∷ split stop bytes) (put_first b (split stop bytes)) other,
            joined_put stop b
                (split stop bytes),
            join_split stop bytes,
          )
    ]

-- a text of these parts
pub text_of : (stop : ℕ) (text : List ℕ) (parts : List (List ℕ)) → split stop text ≡ parts → text ≡ joined stop parts
text_of stop text parts e = cc (join_split stop text)

pub joined_spaced : (word : List ℕ) (ns : List ℕ) → joined 32 (word ∷ map decimal ns) ≡ word ++ spaced ns
joined_spaced word [] = sym (append-nil word)
joined_spaced word (n ∷ ns) = cc (joined_spaced (decimal n) ns)

pub joined_lists : (word : List ℕ) (ns ms : List ℕ)
    → joined 32 (word ∷ (map decimal ns ++ codes "/" ∷ map decimal ms))
    ≡ word ++ (spaced ns ++ (codes " /" ++ spaced ms))
joined_lists word [] ms = cc (joined_spaced (codes "/") ms)
joined_lists word (n ∷ ns) ms =
    cc (joined_lists (decimal n) ns ms, append_assoc (decimal n) (spaced ns) (codes " /" ++ spaced ms))

pub same_bytes : (xs ys : List ℕ) → bytes_eq xs ys ≡ true → xs ≡ ys
same_bytes xs ys h = (bytes_eq-Decides xs ys).0 h

pub joined_blanks : (x : List ℕ) (parts : List (List ℕ)) → joined 32 (x ∷ parts) ≡ x ++ after_blanks parts
joined_blanks x [] = sym (append-nil x)
joined_blanks x (part ∷ parts) = cc (joined_blanks part parts)

-- the parts of an entry of a word
entry_is_parts : (parts : List (List ℕ)) (e : ℕ × ℕ) → entry_from parts ≡ Some e → e.0 < 2 ^ 127 → e.1 < 2 ^ 127
    → parts ≡ decimal e.0 ∷ decimal e.1 ∷ []
entry_is_parts [] e h p c = cc h
entry_is_parts (place ∷ []) e h p c = cc h
entry_is_parts (place ∷ code ∷ []) e h p c =
    let k = taken _ _ h in
    cc (part_is place e.0 k.0 p, part_is code e.1 k.1 c)
  where
    taken : (o w : Option ℕ) → both o w ≡ Some e → (o ≡ Some e.0) × (w ≡ Some e.1)
    taken None w h = cc h
    taken (Some i) None h = cc h
    taken (Some i) (Some c) h = let z : (i, c) ≡ e = cc h in
        (cc, cc)
entry_is_parts (place ∷ code ∷ other ∷ others) e h p c = cc h

entry_taken : (o : Option (ℕ × ℕ)) (rest : Option (List (ℕ × ℕ))) (entries : List (ℕ × ℕ))
    → with_entry o rest ≡ Some entries
    → (e : ℕ × ℕ) × (more : List (ℕ × ℕ)) × (o ≡ Some e) × (rest ≡ Some more) × (e ∷ more ≡ entries)
entry_taken None rest entries h = cc h
entry_taken (Some e) None entries h = cc h
entry_taken (Some e) (Some more) entries h = (e, more, refl, refl, cc h)

number_taken : (within : ℕ → Bool) (o : Option ℕ) (word : ℕ) → by_number within o ≡ Ok word
    → (o ≡ Some word) × (within word ≡ true)
number_taken within None word h = cc h
number_taken within (Some n) word h =
    elim (cases_Bool (within n)) [
      | inl in' ↦
          let z = sym (cond-true _ (Ok n) (Err Range) in') ∙ h in
          let e : n ≡ word = cc z in
          (cc, rw e at in')
      | inr out ↦ let z = sym (cond-false _ (Ok n) (Err Range) out) ∙ h in cc z
    ]

after_mark : (part : List ℕ) → bytes_eq (take 1 part) (codes "#") ≡ true → part ≡ 35 ∷ drop 1 part
after_mark [] h = cc h
after_mark (b ∷ part) h = let e : b ∷ [] ≡ 35 ∷ [] = same_bytes (b ∷ []) (codes "#") h in ap (λ x. x ∷ part) (cc e)

module _ (d : Dimensions) (order : 0 < d.q) (small : d.q < 2 ^ 127) (rows : d.s + d.t < 2 ^ 127)
    (words : d.q ^ (d.s + d.t) < 2 ^ 127) where
  entry_parts_are : (last room : ℕ) (parts : List (List ℕ)) (entries : List (ℕ × ℕ))
      → entries_of_parts parts ≡ Some entries → are_entries_after d last room entries ≡ true
      → parts ≡ map entry_part entries
  entry_parts_are last room [] entries h fit = let e : [] ≡ entries = cc h in cc
  entry_parts_are last room (part ∷ parts) entries h fit =
      let k = entry_taken _ _ entries h in
      cc (own room k.0 k.1 k.2 (rw k.4 fit)
      (λ after left others. entry_parts_are after left parts k.1 k.3 others))
    where
      own : (room : ℕ) (e : ℕ × ℕ) (more : List (ℕ × ℕ)) → entry_from (split 58 part) ≡ Some e
          → are_entries_after d last room (e ∷ more) ≡ true
          → ((after left : ℕ) → are_entries_after d after left more ≡ true → parts ≡ map entry_part more)
          → part ∷ parts ≡ map entry_part (e ∷ more)
      own zero e more is h rest = cc h
      own (suc k) e more is h rest =
          let p = and_parts _ _ h in
          let b = entry_bounds d last e p.0 in
          let here =
          text_of 58 part _
          (entry_is_parts _ e is (omega arith) (omega arith)) in
          cc (rest e.0 k p.1)

  -- what is read as a word
  pub record IsWritten (version : Version) (parts : List (List ℕ)) (word : ℕ) : Type 0 where
    pub parts_are : parts ≡ word_parts version d word
    pub some : 0 < word
    pub below : word < d.q ^ (d.s + d.t)

  pub by_entries_written : (parts : List (List ℕ)) (o : Option (List (ℕ × ℕ))) (word : ℕ) → 0 < length parts
      → entries_of_parts parts ≡ o → by_entries d o ≡ Ok word → IsWritten Second parts word
  by_entries_written parts None word some is h = cc h
  by_entries_written parts (Some entries) word some is h =
      elim (cases_Bool (are_entries_after d 0 8 entries)) [
        | inr out ↦ let z =
            sym (cond-false (are_entries_after d 0 8 entries) (Ok (number_with d.q entries)) (Err Range) out) ∙ h in
            cc z
        | inl fit ↦
            let z =
            sym (cond-true (are_entries_after d 0 8 entries) (Ok (number_with d.q entries)) (Err Range) fit) ∙ h in
            let e : number_with d.q entries ≡ word = cc z in
            subst (IsWritten Second parts) e (own entries is fit)
      ]
    where
      own : (entries : List (ℕ × ℕ)) → entries_of_parts parts ≡ Some entries → are_entries_after d 0 8 entries ≡ true
          → IsWritten Second parts (number_with d.q entries)
      own [] is fit = absurd (none_of parts some is)
        where
          none_of : (parts : List (List ℕ)) → 0 < length parts → entries_of_parts parts ≡ Some [] → ⊥
          none_of [] some is = omega arith
          none_of (part ∷ parts) some is = let k =
              entry_taken (entry_from (split 58 part)) (entries_of_parts parts) [] is in cc k.4
      own (e ∷ more) is fit =
          let n : ℕ = number_with d.q (e ∷ more) in
          let has = has_entries d order (e ∷ more) fit in
          record {
            parts_are =
                entry_parts_are 0 8 parts (e ∷ more) is fit ∙ ap (map entry_part) (sym has.back)
                ∙ sym (cond-true (is_short d n) (map entry_part (entries_from 1 (vector_of d n)))
                ((35 ∷ decimal n) ∷ []) has.short);
            some = some_entries d order 0 8 e more fit;
            below = has.below;
          }

  word_bounds : (word : ℕ) → is_word_number d word ≡ true → (0 < word) × (word < d.q ^ (d.s + d.t))
  word_bounds word h = let p = and_parts _ _ h in (ltb-true _ _ p.0, ltb-true _ _ p.1)

  pub written_word : (version : Version) (parts : List (List ℕ)) (word : ℕ) → word_written version d parts ≡ Ok word
      → IsWritten version parts word
  written_word First [] word h = cc h
  written_word Second [] word h = cc h
  written_word First (part ∷ []) word h =
      let k = number_taken _ _ word h in
      let b = word_bounds word k.1 in
      record { parts_are = cc (part_is part word k.0 (omega arith)); some = b.0; below = b.1 }
  written_word First (part ∷ other ∷ others) word h = cc h
  written_word Second (part ∷ []) word h =
      elim (cases_Bool (bytes_eq (take 1 part) (codes "#"))) [
        | inl is ↦
            let h' = sym
            (cond-true _ (by_number (is_long_word d) (number_of (drop 1 part)))
            (by_entries d (entries_of_parts (part ∷ []))) is) ∙ h in
            let k = number_taken _ _ word h' in
            let p = and_parts _ _ k.1 in
            let b = word_bounds word p.0 in
            let here : part ≡ 35 ∷ decimal word =
            after_mark part is ∙ ap (λ l. 35 ∷ l) (part_is (drop 1 part) word k.0 (omega (arith, b.1))) in
            record {
              parts_are =
                  cc (cond-false (is_short d word) (map entry_part (entries_from 1 (vector_of d word)))
                  ((35 ∷ decimal word) ∷ []) (not-true _ p.1));
              some = b.0;
              below = b.1;
            }
        | inr other ↦
            by_entries_written _ _ word (omega arith) refl
            (sym (cond-false _ (by_number (is_long_word d) (number_of (drop 1 part)))
            (by_entries d (entries_of_parts (part ∷ []))) other) ∙ h)
      ]
  written_word Second (part ∷ other ∷ others) word h =
      by_entries_written _ _ word (omega arith) refl h

module _ (version : Version) (d : Dimensions) (beaten : Bool) (order : 0 < d.q) (small : d.q < 2 ^ 127)
    (rows : d.s + d.t < 2 ^ 127) (runs : d.q ^ d.m ≤ 1024) (words : d.q ^ (d.s + d.t) < 2 ^ 127) where
  ranged_ok : (row : ℕ) (own mark : Mark) → ranged d row own ≡ Ok mark → (row < 2 ^ 127) × (own ≡ mark)
  ranged_ok row own mark h =
      elim (cases_Bool (ltb row (d.q ^ d.m))) [
        | inl low ↦
            let z = sym (cond-true _ (Ok own) (Err Range) low) ∙ h in
            let e : own ≡ mark = cc z in
            let l : row < d.q ^ d.m = ltb-true _ _ low in
            (omega arith, e)
        | inr out ↦ let z = sym (cond-false _ (Ok own) (Err Range) out) ∙ h in
            cc z
      ]

  -- the parts of an entry
  abbrev pub parts_for : nodes.Mark → List (List ℕ)
  parts_for (nodes.Branch row) = codes "O" ∷ decimal row ∷ []
  parts_for (nodes.Word row word) = codes "W" ∷ decimal row ∷ word_parts version d word
  parts_for (nodes.Worse row) = codes "P" ∷ decimal row ∷ []

  short_is : (letter part : List ℕ) (o : Option ℕ) (mark : Mark) → number_of part ≡ o
      → short_entry d beaten letter o ≡ Ok mark → letter ∷ part ∷ [] ≡ parts_for (meaning_of mark)
  short_is letter part None mark is h = cc h
  short_is letter part (Some row) mark is h =
      elim (cases_Bool (bytes_eq letter (codes "O"))) [
        | inl o ↦
            let r = ranged_ok row (Branch row) mark (sym (cond-true _ _ _ o) ∙ h) in
            cc (same_bytes letter _ o, part_is part row is r.0)
        | inr other ↦
            let h' = sym
            (cond-false _ (ranged d row (Branch row))
            (cond (bytes_eq letter (codes "P") && beaten) (ranged d row (Worse row)) (Err Form)) other) ∙ h in
            elim (cases_Bool (bytes_eq letter (codes "P") && beaten)) [
              | inl p ↦
                  let r = ranged_ok row (Worse row) mark
                  (sym (cond-true _ _ _ p) ∙ h') in
                  cc (same_bytes letter (codes "P") (and_parts _ _ p).0, part_is part row is r.0)
              | inr out ↦ let z =
                  sym (cond-false _ (ranged d row (Worse row)) (Err Form) out) ∙
                  h' in cc z
            ]
      ]

  word_is : (letter part : List ℕ) (parts : List (List ℕ)) (o : Option ℕ) (r : Result ℕ FaultKind) (mark : Mark)
      → number_of part ≡ o → word_written version d parts ≡ r
      → word_entry d letter o r ≡ Ok mark → letter ∷ part ∷ parts ≡ parts_for (meaning_of mark)
  word_is letter part parts None r mark is was h = cc h
  word_is letter part parts (Some row) r mark is was h =
      elim (cases_Bool (bytes_eq letter (codes "W"))) [
        | inr out ↦ let z =
            sym (cond-false _ (with_word d row r) (Err Form) out) ∙ h in cc z
        | inl w ↦ own r was w (cc (cond-true _ (with_word d row r) (Err Form) w))
      ]
    where
      own : (r : Result ℕ FaultKind) → word_written version d parts ≡ r → bytes_eq letter (codes "W") ≡ true
          → with_word d row r ≡ Ok mark → letter ∷ part ∷ parts ≡ parts_for (meaning_of mark)
      own (Err kind) was w h = cc h
      own (Ok word) was w h =
          let r = ranged_ok row _ mark h in
          let written = written_word d order small rows words version parts word was in
          cc (same_bytes letter _ w, part_is part row is r.0)

  pub entry_is : (parts : List (List ℕ)) (mark : Mark) → entry_of version d beaten parts ≡ Ok mark
      → parts ≡ parts_for (meaning_of mark)
  entry_is [] mark h = cc h
  entry_is (letter ∷ []) mark h = cc h
  entry_is (letter ∷ row ∷ []) mark h = short_is letter row _ mark refl h
  entry_is (letter ∷ row ∷ part ∷ parts) mark h =
      word_is letter row _ _ _ mark refl refl h

  pub line_for : (mark : nodes.Mark) (rest : List ℕ)
      → joined 32 (parts_for mark) ++ 10 ∷ rest ≡ entry_text version d mark ++ rest
  line_for (nodes.Branch row) rest = cc (append_assoc (decimal row) (10 ∷ []) rest)
  line_for (nodes.Word row word) rest =
      let parts = after_blanks (word_parts version d word) in
      cc (
        joined_blanks (decimal row) (word_parts version d word),
        append_assoc (decimal row)
            parts (10 ∷ rest),
        append_assoc (decimal row) (parts ++ 10 ∷ []) rest,
        append_assoc parts (10 ∷ []) rest,
      )
  line_for (nodes.Worse row) rest = cc (append_assoc (decimal row) (10 ∷ []) rest)

  taken : (n : ℕ) (r : Result Mark FaultKind) (rest : Result (List nodes.Mark) BookFault) (marks : List nodes.Mark)
      → after_entry n r rest ≡ Ok marks
      → (mark : Mark) × (more : List nodes.Mark) × (r ≡ Ok mark) × (rest ≡ Ok more) × (marks ≡ meaning_of mark ∷ more)
  taken n (Err kind) rest marks h = cc h
  taken n (Ok mark) (Err stop) marks h = cc h
  taken n (Ok mark) (Ok more) marks h = let e : meaning_of mark ∷ more ≡ marks = cc h in (mark, more, refl, refl, cc)

  pub last_line : (next : List ℕ) (lines : List (List ℕ)) → is_nothing (next ∷ lines) ≡ true
      → joined 10 (next ∷ lines) ≡ []
  last_line [] [] h = refl
  last_line (b ∷ next) [] h = let z = eqb-true _ 0 h in absurd (omega arith)
  last_line next (line ∷ lines) h = cc h

  pub entries_are : (n : ℕ) (lines : List (List ℕ)) (marks : List nodes.Mark)
      → entries version d beaten n lines ≡ Ok marks → joined 10 lines ≡ entries_text version d marks ++ codes "END\n"
  entries_are n [] marks h = cc h
  entries_are n (line ∷ []) marks h = cc h
  entries_are n (line ∷ next ∷ lines) marks h =
      elim (cases_Bool (bytes_eq line (codes "END"))) [
        | inl end ↦
            let h' = sym (cond-true (bytes_eq line (codes "END")) _ _ end) ∙ h in
            elim (cases_Bool (is_nothing (next ∷ lines))) [
              | inl none ↦
                  let z : Ok [] ≡ Ok marks = sym (cond-true (is_nothing (next ∷ lines)) _ _ none) ∙ h' in
                  let e : [] ≡ marks = cc z in
                  cc (same_bytes line (codes "END") end, last_line next lines none)
              | inr more ↦ let z = sym (cond-false (is_nothing (next ∷ lines)) _ _ more) ∙ h' in cc z
            ]
        | inr other ↦
            let k = taken n (entry_of version d beaten (split 32 line))
            (entries version d beaten (n + 1) (next ∷ lines)) marks
            (sym (cond-false (bytes_eq line (codes "END")) _ _ other) ∙ h) in
            let own : line ≡ joined 32 (parts_for (meaning_of k.0)) =
            text_of 32 line (parts_for (meaning_of k.0)) (entry_is (split 32 line) k.0 k.2) in
            let rest = entries_are (n + 1) (next ∷ lines) k.1 k.3 in
            ap (λ l. line ++ 10 ∷ l) rest ∙ ap (λ l. l ++ 10 ∷ (entries_text version d k.1 ++ codes "END\n")) own ∙
            line_for (meaning_of k.0) (entries_text version d k.1 ++ codes "END\n")
            ∙ sym (append_assoc (entry_text version d (meaning_of k.0)) (entries_text version d k.1) (codes "END\n"))
            ∙ ap (λ ms. entries_text version d ms ++ codes "END\n") (sym k.4)
      ]
