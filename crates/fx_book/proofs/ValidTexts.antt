-- What is read as a book is a valid book.
use Rattle.std.proofs.Common.{◌≡◌, ℕ, ◌+◌, ◌^◌, ◌<◌, ◌≤◌, inl, inr, Bool, true, ◌&&◌, cond, eqb, ltb, leb, List}
use Rattle.std.proofs.Common.{[], ◌∷◌, ◌++◌, length, Option, Some, None, Result, Ok, Err, refl, sym, ◌∙◌}
use Rattle.std.proofs.Common.{arith, subst, length-append}
use Rattle.std.specs.Prelude.{codes}
use Rattle.std.specs.List.{AllByRecursion}
use Rattle.std.specs.Option.{is_some}
use Rattle.std.specs.Str.{bytes_eq}
use Rattle.std.proofs.lemmas.Bool.{cond-true, cond-false, cases_Bool, and_parts, eqb-true, ltb-true, leb-true}
use Rattle.std.proofs.lemmas.Bool.{ltb-false}
use Rattle.std.proofs.lemmas.List.Elements.{All-from_recursion}
use Rattle.fx_designs.specs.Problems.{Dimensions}
use Rattle.fx_designs.specs.Nodes as nodes
use Rattle.fx_vectors.specs.Shape.{IsShape, dimensions_of}
use Rattle.fx_vectors.specs.Effects.{numbers_of}
use Rattle.fx_vectors.specs.Marks.{meaning_of}
use Rattle.fx_vectors.specs.declared.mark.Mark.{Mark}
use Rattle.fx_vectors.specs.declared.mark.Mark.TheVariants.{Branch, Word, Worse}
use Rattle.fx_vectors.specs.Question.{is_resolution, requirement_of}
use Rattle.fx_vectors.specs.declared.shape.Shape.{Shape}
use Rattle.fx_vectors.specs.declared.effect.Effect.{Effect}
use Rattle.fx_vectors.specs.declared.book.Book.{Book}
use Rattle.fx_vectors.specs.declared.book.Head.{Head}
use Rattle.fx_vectors.specs.declared.question.Demands.{Demands}
use Rattle.fx_vectors.specs.declared.question.Demands.TheVariants.{Resolution, Effects}
use Rattle.fx_vectors.proofs.Limits.{words_fit}
use Rattle.fx_book.specs.declared.demands.EffectLists.{EffectLists}
use Rattle.fx_book.specs.declared.fault.FaultKind.{FaultKind}
use Rattle.fx_book.specs.declared.fault.FaultKind.TheVariants.{Form, Range}
use Rattle.fx_book.specs.declared.fault.FaultKind.TheVariants as kind
use Rattle.fx_book.specs.declared.fault.BookFault.{BookFault}
use Rattle.fx_book.specs.declared.version.Version.{Version}
use Rattle.fx_book.specs.Faults.{fault}
use Rattle.fx_book.specs.Versions.{title_of, version_of}
use Rattle.fx_book.specs.Parts.{split, number_of, with_number, numbers_of_parts}
use Rattle.fx_book.specs.Words.{word_written}
use Rattle.fx_book.specs.Entries.{ranged, short_entry, with_word, word_entry, entry_of, entry_text, entries_text}
use Rattle.fx_book.specs.Reading.{entries, after_entry, is_nothing}
use Rattle.fx_book.specs.Demands.{demands_of, resolution_demands, resolution_within, numbered_effects, as_effects}
use Rattle.fx_book.specs.Demands.{after_stroke}
use Rattle.fx_book.specs.Demands.{with_effect, lists_of, may_be_asked, asked_for}
use Rattle.fx_book.specs.Heads.{book_of, with_version, head_of, with_shape, with_demands}
use Rattle.fx_book.specs.Heads.{from_beat, with_beat, shape_of, may_be_beaten, whole_pattern, beat_from}
use Rattle.fx_book.specs.Heads.{beat_of}
use Rattle.fx_book.specs.Writing.{text_in, shape_text, demands_text, beat_text}
use Rattle.fx_book.specs.Valid.{IsEntry, IsBeat, AreDemands, IsValidHead, IsValidBook}
use Rattle.fx_book.proofs.Askable.{askable}
use Rattle.fx_book.proofs.Texts.{written_word}
use Rattle.fx_book.proofs.Accepted.{line_taken, version_taken, size_taken, demands_taken, beat_taken, head_taken}
use Rattle.fx_book.proofs.Accepted.{shape_is, head_text_is, read_is_written, stroke_taken}

module _ (version : Version) (d : Dimensions) (beaten : Bool) (order : 0 < d.q) (small : d.q < 2 ^ 127)
    (rows : d.s + d.t < 2 ^ 127) (words : d.q ^ (d.s + d.t) < 2 ^ 127) where
  in_range : (row : ℕ) (own mark : Mark) → ranged d row own ≡ Ok mark → (row < d.q ^ d.m) × (own ≡ mark)
  in_range row own mark h =
      elim (cases_Bool (ltb row (d.q ^ d.m))) [
        | inl low ↦
            let z = sym (cond-true _ (Ok own) (Err Range) low) ∙ h in
            (ltb-true _ _ low, cc z)
        | inr out ↦ let z = sym (cond-false _ (Ok own) (Err Range) out) ∙ h in
            cc z
      ]

  short_valid : (letter : List ℕ) (o : Option ℕ) (mark : Mark) → short_entry d beaten letter o ≡ Ok mark
      → IsEntry d beaten (meaning_of mark)
  short_valid letter None mark h = cc h
  short_valid letter (Some row) mark h =
      elim (cases_Bool (bytes_eq letter (codes "O"))) [
        | inl o ↦
            let r = in_range row (Branch row) mark (sym (cond-true _ _ _ o) ∙ h) in
            rw (← r.1) r.0
        | inr other ↦
            let h' = sym
            (cond-false _ (ranged d row (Branch row))
            (cond (bytes_eq letter (codes "P") && beaten) (ranged d row (Worse row)) (Err Form)) other) ∙ h in
            elim (cases_Bool (bytes_eq letter (codes "P") && beaten)) [
              | inl p ↦
                  let r = in_range row (Worse row) mark
                  (sym (cond-true _ _ _ p) ∙ h') in
                  rw (← r.1) (r.0, (and_parts _ _ p).1)
              | inr out ↦ let z =
                  sym (cond-false _ (ranged d row (Worse row)) (Err Form) out) ∙
                  h' in cc z
            ]
      ]

  word_valid : (letter : List ℕ) (o : Option ℕ) (r : Result ℕ FaultKind) (mark : Mark) (parts : List (List ℕ))
      → word_written version d parts ≡ r → word_entry d letter o r ≡ Ok mark → IsEntry d beaten (meaning_of mark)
  word_valid letter None r mark parts was h = cc h
  word_valid letter (Some row) r mark parts was h =
      elim (cases_Bool (bytes_eq letter (codes "W"))) [
        | inr out ↦ let z =
            sym (cond-false _ (with_word d row r) (Err Form) out) ∙ h in cc z
        | inl w ↦ own r was (cc (cond-true _ (with_word d row r) (Err Form) w))
      ]
    where
      own : (r : Result ℕ FaultKind) → word_written version d parts ≡ r → with_word d row r ≡ Ok mark
          → IsEntry d beaten (meaning_of mark)
      own (Err kind) was h = cc h
      own (Ok word) was h =
          let r = in_range row _ mark h in
          let written = written_word d order small rows words version parts word was in
          rw (← r.1) (r.0, written.some, written.below)

  pub entry_valid : (parts : List (List ℕ)) (mark : Mark) → entry_of version d beaten parts ≡ Ok mark
      → IsEntry d beaten (meaning_of mark)
  entry_valid [] mark h = cc h
  entry_valid (letter ∷ []) mark h = cc h
  entry_valid (letter ∷ row ∷ []) mark h = short_valid letter _ mark h
  entry_valid (letter ∷ row ∷ part ∷ parts) mark h =
      word_valid letter _ _ mark (part ∷ parts) refl h

  entry_first : (n : ℕ) (r : Result Mark FaultKind) (rest : Result (List nodes.Mark) BookFault)
      (marks : List nodes.Mark) → after_entry n r rest ≡ Ok marks
      → (mark : Mark) × (more : List nodes.Mark) × (r ≡ Ok mark) × (rest ≡ Ok more) × (meaning_of mark ∷ more ≡ marks)
  entry_first n (Err kind) rest marks h = cc h
  entry_first n (Ok mark) (Err stop) marks h = cc h
  entry_first n (Ok mark) (Ok more) marks h = (mark, more, refl, refl, cc h)

  entries_valid : (n : ℕ) (lines : List (List ℕ)) (marks : List nodes.Mark)
      → entries version d beaten n lines ≡ Ok marks → AllByRecursion (IsEntry d beaten) marks
  entries_valid n [] marks h = cc h
  entries_valid n (line ∷ []) marks h = cc h
  entries_valid n (line ∷ next ∷ lines) marks h =
      elim (cases_Bool (bytes_eq line (codes "END"))) [
        | inl end ↦
            let h' = sym (cond-true _ _ _ end) ∙ h in
            elim (cases_Bool (is_nothing (next ∷ lines))) [
              | inl none ↦
                  let z : Ok [] ≡ Ok marks = sym (cond-true _ _ _ none) ∙ h' in
                  let e : [] ≡ marks = cc z in
                  subst (AllByRecursion (IsEntry d beaten)) e tt
              | inr more ↦ let z = sym (cond-false _ _ _ more) ∙ h' in cc z
            ]
        | inr other ↦
            let k = entry_first n (entry_of version d beaten (split 32 line))
            (entries version d beaten (n + 1) (next ∷ lines)) marks
            (sym (cond-false _ _ _ other) ∙ h) in
            subst (AllByRecursion (IsEntry d beaten)) k.4
            (entry_valid (split 32 line) k.0 k.2, entries_valid (n + 1) (next ∷ lines) k.1 k.3)
      ]

-- a line for each entry
entries_long : (version : Version) (d : Dimensions) (marks : List nodes.Mark)
    → length marks ≤ length (entries_text version d marks)
entries_long version d [] = omega arith
entries_long version d (nodes.Branch row ∷ marks) =
    omega (
      arith,
      entries_long version d marks,
      length-append (entry_text version d (nodes.Branch row))
          (entries_text version d marks),
    )
entries_long version d (nodes.Word row word ∷ marks) =
    omega (
      arith,
      entries_long version d marks,
      length-append (entry_text version d (nodes.Word row word))
          (entries_text version d marks),
    )
entries_long version d (nodes.Worse row ∷ marks) =
    omega (
      arith,
      entries_long version d marks,
      length-append (entry_text version d (nodes.Worse row))
          (entries_text version d marks),
    )

-- the numbers of parts are within their bounds
numbers_within : (least limit : ℕ) (parts : List (List ℕ)) (numbers : List ℕ)
    → numbers_of_parts least limit parts ≡ Some numbers → AllByRecursion (λ n. (least ≤ n) × (n < limit)) numbers
numbers_within least limit [] numbers h = let e : [] ≡ numbers = cc h in
    subst (AllByRecursion (λ n. (least ≤ n) × (n < limit))) e tt
numbers_within least limit (part ∷ parts) numbers h =
    let k = taken _ _ numbers h in
    subst (AllByRecursion (λ n. (least ≤ n) × (n < limit))) k.4 (k.3, numbers_within least limit parts k.1 k.2)
  where
    taken : (o : Option ℕ) (rest : Option (List ℕ)) (numbers : List ℕ) → with_number least limit o rest ≡ Some numbers
        → (n : ℕ) × (ns : List ℕ) × (rest ≡ Some ns) × ((least ≤ n) × (n < limit)) × (n ∷ ns ≡ numbers)
    taken None rest numbers h = cc h
    taken (Some n) None numbers h = cc h
    taken (Some n) (Some ns) numbers h =
        elim (cases_Bool (leb least n && ltb n limit)) [
          | inl in' ↦
              let e : Some (n ∷ ns) ≡ Some numbers = sym (cond-true _ _ None in') ∙ h in
              let p = and_parts _ _ in' in
              (n, ns, refl, (leb-true _ _ p.0, ltb-true _ _ p.1), cc e)
          | inr out ↦ let z =
              sym (cond-false _ (Some (n ∷ ns)) None out) ∙ h in cc z
        ]

module _ (shape : Shape) where
  resolution_asked : (o : Option ℕ) (asked : Demands) → resolution_within o ≡ Some asked → AreDemands shape asked
  resolution_asked None asked h = cc h
  resolution_asked (Some r) asked h =
      elim (cases_Bool (leb 3 r && leb r 99)) [
        | inl in' ↦
            let z : Some (Resolution r) ≡ Some asked = sym (cond-true _ _ None in') ∙ h in
            let e : Resolution r ≡ asked = cc z in
            let p = and_parts _ _ in' in
            rw (← e) ((leb-true _ _ p.0, leb-true _ _ p.1), tt)
        | inr out ↦ let z =
            sym (cond-false _ (Some (Resolution r)) None out) ∙ h in cc z
      ]

  resolution_valid : (parts : List (List ℕ)) (asked : Demands) → resolution_demands parts ≡ Some asked
      → AreDemands shape asked
  resolution_valid [] asked h = cc h
  resolution_valid (part ∷ []) asked h = resolution_asked (number_of part) asked h
  resolution_valid (part ∷ other ∷ others) asked h = cc h

  abbrev IsWithin : ℕ → Effect → Type 0
  IsWithin limit e = (0 < e.0) × (e.0 < limit)

  effects_within : (limit : ℕ) (ns : List ℕ) → AllByRecursion (λ n. (1 ≤ n) × (n < limit)) ns
      → AllByRecursion (IsWithin limit) (numbered_effects ns)
  effects_within limit [] h = tt
  effects_within limit (n ∷ ns) h = ((omega arith, h.0.1), effects_within limit ns h.1)

  record AreWithin (limit : ℕ) (lists : EffectLists) : Type 0 where
    estimate : AllByRecursion (IsWithin limit) lists.estimate
    others : AllByRecursion (IsWithin limit) lists.nonnegligible

  first_effect : (limit : ℕ) (o : Option ℕ) (r : Option EffectLists) (lists : EffectLists)
      → with_effect limit o r ≡ Some lists → ((more : EffectLists) → r ≡ Some more → AreWithin limit more)
      → AreWithin limit lists
  first_effect limit None r lists h rest = cc h
  first_effect limit (Some n) None lists h rest = cc h
  first_effect limit (Some n) (Some more) lists h rest =
      let own : EffectLists =
      record { estimate = record { 0 = n } ∷ more.estimate; nonnegligible = more.nonnegligible } in
      elim (cases_Bool (leb 1 n && ltb n limit)) [
        | inl in' ↦
            let z = sym (cond-true _ (Some own) None in') ∙ h in
            let e : own ≡ lists = cc z in
            let p = and_parts _ _ in' in
            let one : 1 ≤ n = leb-true _ _ p.0 in
            let w = rest more refl in
            subst (AreWithin limit) e
            (record { estimate = ((omega arith, ltb-true _ _ p.1), w.estimate); others = w.others })
        | inr out ↦ let z = sym (cond-false _ (Some own) None out) ∙ h in
            cc z
      ]

  lists_within : (limit : ℕ) (parts : List (List ℕ)) (lists : EffectLists) → lists_of limit parts ≡ Some lists
      → AreWithin limit lists
  lists_within limit [] lists h = cc h
  lists_within limit (part ∷ parts) lists h =
      elim (cases_Bool (bytes_eq part (codes "/"))) [
        | inl is ↦
            let k = stroke_taken (numbers_of_parts 1 limit parts) lists
            (sym (cond-true _ _ _ is) ∙ h) in
            subst (AreWithin limit) k.2
            (record { estimate = tt; others = effects_within limit k.0 (numbers_within 1 limit parts k.0 k.1) })
        | inr other ↦
            first_effect limit (number_of part) _ lists
            (sym (cond-false _ (after_stroke (as_effects (numbers_of_parts 1 limit parts))) _
            other) ∙ h) (lists_within limit parts)
      ]

  effects_valid : (o : Option EffectLists) (asked : Demands)
      → ((lists : EffectLists) → o ≡ Some lists → AreWithin (2 ^ shape.s) lists) → asked_for shape.q o ≡ Some asked
      → AreDemands shape asked
  effects_valid None asked within h = cc h
  effects_valid (Some lists) asked within h =
      let w = within lists refl in
      elim (cases_Bool (may_be_asked shape.q (numbers_of lists.estimate) (numbers_of lists.nonnegligible))) [
        | inl may ↦
            let z : Some (Effects lists.estimate lists.nonnegligible) ≡ Some asked =
            sym (cond-true _ _
            None may) ∙ h in
            let e : Effects lists.estimate lists.nonnegligible ≡ asked = cc z in
            let a = askable shape.q shape.s lists.estimate lists.nonnegligible
            (All-from_recursion _ lists.estimate w.estimate)
            (All-from_recursion _ lists.nonnegligible w.others) may in
            rw (← e) (a.0, (a.1, a.2))
        | inr out ↦
            let z =
            sym (cond-false _
            (Some (Effects lists.estimate lists.nonnegligible)) None out) ∙ h in cc z
      ]

  demands_valid : (parts : List (List ℕ)) (asked : Demands) → demands_of shape parts ≡ Some asked
      → AreDemands shape asked
  demands_valid [] asked h = cc h
  demands_valid (word ∷ parts) asked h =
      let effects = asked_for shape.q (lists_of (2 ^ shape.s) parts) in
      elim (cases_Bool (bytes_eq word (codes "resolution"))) [
        | inl is ↦
            resolution_valid parts asked
            (cc (cond-true _ (resolution_demands parts)
            (cond (bytes_eq word (codes "effects")) effects None) is))
        | inr other ↦
            let h' = sym
            (cond-false _ (resolution_demands parts)
            (cond (bytes_eq word (codes "effects")) effects None) other) ∙ h in
            elim (cases_Bool (bytes_eq word (codes "effects"))) [
              | inl is ↦
                  effects_valid _ asked (lists_within (2 ^ shape.s) parts)
                  (sym (cond-true _ effects None is) ∙ h')
              | inr out ↦ let z =
                  sym (cond-false _ effects None out) ∙ h' in cc z
            ]
      ]

-- the pattern of line 4
record IsBeatOf (s : ℕ) (allowed : Bool) (beat : Option (List ℕ)) : Type 0 where
  pattern : IsBeat s (is_some beat) beat
  may : is_some beat ≡ true → allowed ≡ true

whole_valid : (s : ℕ) (o : Option (List ℕ)) (beat : Option (List ℕ)) → whole_pattern s o ≡ Some beat
    → ((pattern : List ℕ) → o ≡ Some pattern → AllByRecursion (λ a. a < 2 ^ 127) pattern) → IsBeatOf s true beat
whole_valid s None beat h each = cc h
whole_valid s (Some pattern) beat h each =
    elim (cases_Bool (eqb (length pattern) s)) [
      | inl long ↦
          let z =
          sym (cond-true _ (Some (Some pattern)) None long) ∙ h in
          let e : Some pattern ≡ beat = cc z in
          subst (IsBeatOf s true) e (record {
            pattern = (refl, eqb-true _ _ long, All-from_recursion _ pattern (each pattern refl));
            may = λ some. refl;
          })
      | inr out ↦ let z =
          sym (cond-false _ (Some (Some pattern)) None out) ∙ h in cc z
    ]

from_zero : (ns : List ℕ) → AllByRecursion (λ n. (0 ≤ n) × (n < 2 ^ 127)) ns → AllByRecursion (λ a. a < 2 ^ 127) ns
from_zero [] h = tt
from_zero (n ∷ ns) h = (h.0.1, from_zero ns h.1)

pattern_valid : (s : ℕ) (allowed : Bool) (parts : List (List ℕ)) (beat : Option (List ℕ))
    → beat_from s allowed parts ≡ Some beat → IsBeatOf s allowed beat
pattern_valid s allowed [] beat h = cc h
pattern_valid s allowed (word ∷ parts) beat h =
    elim (cases_Bool (bytes_eq word (codes "pattern") && allowed)) [
      | inl is ↦
          let own = whole_valid s (numbers_of_parts 0 (2 ^ 127) parts) beat
          (sym (cond-true _ _ None is) ∙ h)
          (λ pattern e. from_zero pattern (numbers_within 0 _ parts pattern e)) in
          record { pattern = own.pattern; may = λ some. (and_parts _ _ is).1 }
      | inr out ↦ let z =
          sym (cond-false _
          (whole_pattern s (numbers_of_parts 0 (2 ^ 127) parts)) None out) ∙ h in cc z
    ]

beat_valid : (s : ℕ) (allowed : Bool) (line : List ℕ) (beat : Option (List ℕ)) → beat_of s allowed line ≡ Some beat
    → IsBeatOf s allowed beat
beat_valid s allowed line beat h =
    elim (cases_Bool (bytes_eq line (codes "pattern none"))) [
      | inl none ↦
          let z =
          sym (cond-true _ (Some None) (beat_from s allowed (split 32 line))
          none) ∙ h in
          let e : None ≡ beat = cc z in
          subst (IsBeatOf s allowed) e (record { pattern = refl; may = λ some. cc some })
      | inr other ↦
          pattern_valid s allowed (split 32 line) beat
          (sym (cond-false _ (Some None) (beat_from s allowed (split 32 line))
          other)
          ∙ h)
    ]

-- a head that is read is valid
module _ (head : Head) (after : List (List ℕ)) where
  from_beat_valid : (shape : Shape) → IsShape shape → (asked : Demands) → AreDemands shape asked
      → (lines : List (List ℕ)) → from_beat shape asked lines ≡ Ok (head, after) → IsValidHead head
  from_beat_valid shape shaped asked may lines e =
      let k = line_taken _
      (λ line rest. with_beat shape asked rest (beat_of shape.s (may_be_beaten shape asked) line)) lines
      (head, after) e in
      let b = beat_taken head after shape asked k.1 _ k.4 in
      let beat = beat_valid shape.s _ k.0 b.0 b.1 in
      let least : is_some b.0 ≡ true → (is_resolution (requirement_of asked) ≡ true) × (shape.t ≡ 0) =
      λ some. (let p = and_parts _ _ (beat.may some) in (p.1, eqb-true _ _ p.0)) in
      subst IsValidHead b.2 (record {
        question = record { shaped = shaped; asked = may.0; least = least };
        few_effects = may.1;
        beat = beat.pattern;
      })

  pub head_valid : (version : Version) (lines : List (List ℕ)) → head_of version lines ≡ Ok (head, after)
      → IsValidHead head
  head_valid version lines e =
      let k = line_taken (fault kind.Size 2) (λ line rest. with_shape rest (shape_of version (split 32 line)))
      lines (head, after) e in
      let s = size_taken head after k.1 _ k.4 in
      let l = (shape_is version s.0 (split 32 k.0) s.1).0 in
      let j = line_taken _
      (λ line rest. with_demands s.0 rest (demands_of s.0 (split 32 line))) k.1 (head, after) s.2 in
      let a = demands_taken head after s.0 j.1 _ j.4 in
      from_beat_valid s.0 l.shaped a.0 (demands_valid s.0 (split 32 j.0) a.0 a.1) j.1 a.2

few_entries : (version : Version) (book : Book) (text : List ℕ) → text ≡ text_in version book → length text ≤ 268435456
    → length book.marks ≤ 268435456
few_entries version book text is few =
    let shape = shape_text book.head.question.shape in
    let demands = demands_text book.head.question.demands in
    let beat = beat_text book.head.beat in
    let entries = entries_text version (dimensions_of book.head.question.shape) book.marks in
    let last = codes "END\n" in
    let a = rw is at few in
    let b = length-append (title_of version) (codes "\n" ++ (shape ++ (demands ++ (beat ++ (entries ++ last))))) in
    let c = length-append shape (demands ++ (beat ++ (entries ++ last))) in
    let d = length-append demands (beat ++ (entries ++ last)) in
    let e = length-append beat (entries ++ last) in
    let f = length-append entries last in
    omega (arith, entries_long version (dimensions_of book.head.question.shape) book.marks)

pub read_is_valid : (text : List ℕ) (book : Book) → book_of text ≡ Ok book → IsValidBook book
unfolding book_of
read_is_valid text book h =
    elim (cases_Bool (ltb 268435456 (length text))) [
      | inl long ↦ let z = sym (cond-true _ _ _ long) ∙ h in cc z
      | inr short ↦
          let k = line_taken (fault kind.Title 1) (λ line rest. with_version rest (version_of line)) (split 10 text)
          book (sym (cond-false (ltb 268435456 (length text)) _ _ short) ∙ h) in
          let v = version_taken k.1 (version_of k.0) book k.4 in
          let w = read_is_written text book h in
          let a = head_taken v.0 (head_of v.0 k.1) book v.2 in
          let head = head_valid book.head a.0 v.0 k.1 a.1 in
          let l = (head_text_is book.head a.0 v.0 k.1 a.1).0 in
          let shape = book.head.question.shape in
          let marks =
          entries_valid v.0 (dimensions_of shape) (is_some book.head.beat) (omega (arith, l.order))
          (omega arith) (omega arith)
          (words_fit shape l.shaped _ (omega arith)) 5 a.0 book.marks a.2 in
          record {
            question = head.question;
            few_effects = head.few_effects;
            beat = head.beat;
            marks = All-from_recursion _ book.marks marks;
            few_marks = few_entries w.0 book text w.1 (ltb-false _ _ short);
          }
    ]
