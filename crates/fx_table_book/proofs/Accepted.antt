-- What is read as a book can be checked, and is what is written of it.
use Rattle.std.proofs.Common.{◌≡◌, ℕ, ◌+◌, ◌-◌, ◌*◌, ◌^◌, ◌<◌, ◌≤◌, inl, inr, Bool, true, ◌&&◌, cond, eqb, ltb, leb}
use Rattle.std.proofs.Common.{List}
use Rattle.std.proofs.Common.{[], ◌∷◌, ◌++◌, map, length, Option, Some, None, Result, Ok, Err, refl, sym, ap, ◌∙◌}
use Rattle.std.proofs.Common.{arith}
use Rattle.std.proofs.Common.{subst, length-append, append_assoc}
use Rattle.std.specs.Prelude.{codes, decimal}
use Rattle.std.specs.List.{list_all, AllByRecursion}
use Rattle.std.specs.Str.{bytes_eq}
use Rattle.std.proofs.lemmas.Bool.{cond-true, cond-false, cases_Bool, and_parts, eqb-true, ltb-true}
use Rattle.std.proofs.lemmas.List.Elements.{All-from_recursion}
use Rattle.fx_vectors.proofs.Limits.{order-bounds}
use Rattle.fx_book.specs.declared.fault.FaultKind.{FaultKind}
use Rattle.fx_book.specs.declared.fault.FaultKind.TheVariants.{Form, Range}
use Rattle.fx_book.specs.declared.fault.FaultKind.TheVariants as kind
use Rattle.fx_book.specs.declared.fault.BookFault.{BookFault}
use Rattle.fx_book.specs.Parts.{split, number_of, with_number, numbers_of_parts}
use Rattle.fx_book.specs.Reading.{is_nothing}
use Rattle.fx_book.specs.Writing.{line_text}
use Rattle.fx_book.proofs.Accepted.{ended, line_taken}
use Rattle.fx_book.proofs.Numerals.{part_is}
use Rattle.fx_book.proofs.Texts.{joined, joined_more, joined_spaced, join_split, same_bytes}
use Rattle.fx_strata.specs.Books as books
use Rattle.fx_table_book.specs.declared.base.Base.{Base}
use Rattle.fx_table_book.specs.declared.order.Order.{Order}
use Rattle.fx_table_book.specs.declared.order.Order.TheVariants.{FactorsFirst, ChengWuFirst, ChengWuSecond}
use Rattle.fx_table_book.specs.declared.order.Order.TheVariants.{SitterChenFeder, MostClear}
use Rattle.fx_table_book.specs.Tables.{IsBase, IsKey, strata_of, order_of}
use Rattle.fx_table_book.specs.Texts.{Contents, base_text, order_text, name_of, key_text, entry_text}
use Rattle.fx_table_book.specs.Texts.{entries_text, is_base, base_by, base_of, base_from, counted}
use Rattle.fx_table_book.specs.Texts.{some_numbers}
use Rattle.fx_table_book.specs.Texts.{order_by, order_from, is_count, key_within, key_from, key_of, row_within, row_of}
use Rattle.fx_table_book.specs.Texts.{of_row, image_from, image_of, entry_of, after_entry, entries, with_entries}
use Rattle.fx_table_book.specs.Texts.{with_key}
use Rattle.fx_table_book.specs.Texts.{from_key, with_order, from_order, with_base, from_base}
use Rattle.fx_table_book.proofs.Shapes.{IsTested, base_is, base_little}
use Rattle.fx_table_book.proofs.Small.{IsLow, all_under, key_low}

-- what one of two ways gives
pub from_cond : {T : Type 0} (b : Bool) (x : T) (kind : FaultKind) (y : T)
    → cond b (Ok x) (Err kind) ≡ Ok y → (b ≡ true) × (x ≡ y)
from_cond b x kind y h =
    elim (cases_Bool b) [
      | inl is ↦ (let z = sym (cond-true b (Ok x) (Err kind) is) ∙ h in (is, cc z))
      | inr out ↦ let z = sym (cond-false b (Ok x) (Err kind) out) ∙ h in cc z
    ]

pub from_cond_read : {T : Type 0} (b : Bool) (x : Result T FaultKind) (kind : FaultKind) (y : T)
    → cond b x (Err kind) ≡ Ok y → (b ≡ true) × (x ≡ Ok y)
from_cond_read b x kind y h =
    elim (cases_Bool b) [
      | inl is ↦ (is, cc (cond-true b x (Err kind) is))
      | inr out ↦ let z = sym (cond-false b x (Err kind) out) ∙ h in cc z
    ]

-- numbers that were read, which are small
pub numbers_are : (parts : List (List ℕ)) (numbers : List ℕ) → numbers_of_parts 0 (2 ^ 128) parts ≡ Some numbers
    → AllByRecursion (λ a. a < 2 ^ 127) numbers → parts ≡ map decimal numbers
numbers_are [] numbers h small = let e : [] ≡ numbers = cc h in cc e
numbers_are (part ∷ parts) numbers h small =
    let k = taken (number_of part) (numbers_of_parts 0 (2 ^ 128) parts) numbers h in
    let each = subst (AllByRecursion (λ a. a < 2 ^ 127)) (sym k.4) small in
    ap (λ p. p ∷ parts) (part_is part k.0 k.2 each.0)
    ∙ ap (λ ps. decimal k.0 ∷ ps) (numbers_are parts k.1 k.3 each.1)
    ∙ ap (map decimal) k.4
  where
    taken : (o : Option ℕ) (rest : Option (List ℕ)) (numbers : List ℕ)
        → with_number 0 (2 ^ 128) o rest ≡ Some numbers
        → (n : ℕ) × (ns : List ℕ) × (o ≡ Some n) × (rest ≡ Some ns) × (n ∷ ns ≡ numbers)
    taken None rest numbers h = cc h
    taken (Some n) None numbers h = cc h
    taken (Some n) (Some ns) numbers h =
        elim (cases_Bool (leb 0 n && ltb n (2 ^ 128))) [
          | inl in' ↦
              let e : Some (n ∷ ns) ≡ Some numbers = sym (cond-true _ _ None in') ∙ h in
              (n, ns, refl, refl, cc e)
          | inr out ↦ let z =
              sym (cond-false _ (Some (n ∷ ns)) None out) ∙ h in cc z
        ]

pub counted_taken : (count : ℕ) (o : Option (List ℕ)) (numbers : List ℕ) → counted count o ≡ Some numbers
    → (o ≡ Some numbers) × (length numbers ≡ count)
counted_taken count None numbers h = cc h
counted_taken count (Some own) numbers h =
    elim (cases_Bool (eqb (length own) count)) [
      | inl many ↦
          let z = sym (cond-true _ (Some own) None many) ∙ h in
          let e : own ≡ numbers = cc z in
          (cc, rw (← e) (eqb-true _ _ many))
      | inr out ↦ let z =
          sym (cond-false _ (Some own) None out) ∙ h in cc z
    ]

-- the line of a word and numbers
pub line_is : (word : List ℕ) (ns rest : List ℕ)
    → joined 32 (word ∷ map decimal ns) ++ 10 ∷ rest ≡ line_text word ns ++ rest
line_is word ns rest = cc (joined_spaced word ns, ended word ns rest)

-- five numbers are those of a base
five : (numbers : List ℕ) → length numbers ≡ 5
    → numbers
    ≡ (base_by numbers).q ∷ (base_by numbers).m ∷ (base_by numbers).h ∷ (base_by numbers).w ∷ (base_by numbers).n ∷ []
five [] h = absurd (omega arith)
five (a ∷ []) h = absurd (omega arith)
five (a ∷ b ∷ []) h = absurd (omega arith)
five (a ∷ b ∷ c ∷ []) h = absurd (omega arith)
five (a ∷ b ∷ c ∷ d ∷ []) h = absurd (omega arith)
five (a ∷ b ∷ c ∷ d ∷ e ∷ []) h = refl
five (a ∷ b ∷ c ∷ d ∷ e ∷ f ∷ numbers) h = absurd (omega arith)

abbrev numbers_in : Base → List ℕ
numbers_in base = base.q ∷ base.m ∷ base.h ∷ base.w ∷ base.n ∷ []

little : (base : Base) → IsBase base → AllByRecursion (λ a. a < 2 ^ 127) (numbers_in base)
little base h =
    let l = base_little base h in (
      omega arith,
      (
        omega arith,
        (
          omega arith,
          (
            omega arith,
            (omega arith, tt),
          ),
        ),
      ),
    )

-- a base that was read
record BaseLine (parts : List (List ℕ)) (x : Base) : Type 0 where
  tested : IsTested x
  is : parts ≡ codes "base" ∷ map decimal (numbers_in x)

base_taken : (parts : List (List ℕ)) (base : Base) → base_of parts ≡ Ok base → BaseLine parts base
base_taken [] base h = cc h
base_taken (word ∷ parts) base h =
    let w = from_cond_read _ _ Form base h in
    let k = own _ w.1 in
    let t = base_is base k.2 in
    let counts = counted_taken 5 _ k.0 k.1 in
    let are = five k.0 counts.1 ∙ ap numbers_in k.3 in
    let small = subst (AllByRecursion (λ a. a < 2 ^ 127)) (sym are) (little base t.base) in
    record {
      tested = t;
      is =
          cc (same_bytes word _ w.0, numbers_are parts k.0 counts.0 small);
    }
  where
    own : (o : Option (List ℕ)) → base_from o ≡ Ok base
        → (numbers : List ℕ) × (o ≡ Some numbers) × (is_base base ≡ true) × (base_by numbers ≡ base)
    own None h = cc h
    own (Some numbers) h =
        let c = from_cond _ _ Range base h in
        (numbers, refl, rw (← c.1) c.0, c.1)

-- what one of two ways gives, and what follows from each
pub either : {T W : Type 0} (b : Bool) (own rest : Result T FaultKind) (x : T) → cond b own rest ≡ Ok x
    → (b ≡ true → own ≡ Ok x → W) → (rest ≡ Ok x → W) → W
either b own rest x h here there =
    elim (cases_Bool b) [
      | inl is ↦ here is (sym (cond-true b own rest is) ∙ h)
      | inr out ↦ there (sym (cond-false b own rest out) ∙ h)
    ]

-- a name that was read
name_taken : (name : List ℕ) (order : Order) → order_by name ≡ Ok order → name ≡ name_of order
name_taken name order h =
    either _ _ after_first order h (named (codes "FF") FactorsFirst refl)
    (λ h. either _ _ after_second order h
    (named (codes "W1") ChengWuFirst refl)
    (λ h. either _ _ after_third order h
    (named (codes "W2") ChengWuSecond refl)
    (λ h. either _ _ after_fourth order h
    (named (codes "SCF") SitterChenFeder refl)
    (λ h. either _ _ _ order h
    (named (codes "CLEAR") MostClear refl) (λ h. cc h)))))
  where
    after_fourth : Result Order FaultKind
    after_fourth = cond (bytes_eq name (codes "CLEAR")) (Ok MostClear) (Err Range)

    after_third : Result Order FaultKind
    after_third = cond (bytes_eq name (codes "SCF")) (Ok SitterChenFeder) after_fourth

    after_second : Result Order FaultKind
    after_second = cond (bytes_eq name (codes "W2")) (Ok ChengWuSecond) after_third

    after_first : Result Order FaultKind
    after_first = cond (bytes_eq name (codes "W1")) (Ok ChengWuFirst) after_second

    named : (word : List ℕ) (own : Order) → name_of own ≡ word → bytes_eq name word ≡ true
        → ◌≡◌ {A = Result Order FaultKind} (Ok own) (Ok order) → name ≡ name_of order
    named word own e is same = let z : own ≡ order = cc same in cc (same_bytes name word is)

order_taken : (parts : List (List ℕ)) (order : Order) → order_from parts ≡ Ok order
    → parts ≡ codes "order" ∷ name_of order ∷ []
order_taken [] order h = cc h
order_taken (word ∷ []) order h = cc h
order_taken (word ∷ name ∷ []) order h =
    let w = from_cond_read _ _ Form order h in
    cc (same_bytes word _ w.0, name_taken name order w.1)
order_taken (word ∷ name ∷ other ∷ others) order h = cc h

order_line_is : (order : Order) (rest : List ℕ)
    → joined 32 (codes "order" ∷ name_of order ∷ []) ++ 10 ∷ rest ≡ order_text order ++ rest
order_line_is FactorsFirst rest = refl
order_line_is ChengWuFirst rest = refl
order_line_is ChengWuSecond rest = refl
order_line_is SitterChenFeder rest = refl
order_line_is MostClear rest = refl

pub each_count : (q : ℕ) (key : List ℕ) → list_all (is_count q) key ≡ true
    → AllByRecursion (λ a. (q - 1) * a < 2 ^ 127) key
each_count q [] h = tt
each_count q (a ∷ key) h =
    let p = and_parts _ _ h in (ltb-true _ _ p.0, each_count q key p.1)

-- a key that was read
record KeyLine (q count : ℕ) (line : List ℕ) (key : Option (List ℕ)) : Type 0 where
  valid : IsKey q count key
  text : (rest : List ℕ) → line ++ 10 ∷ rest ≡ key_text key ++ rest

key_taken : (q count : ℕ) → 2 ≤ q → (line : List ℕ) (key : Option (List ℕ)) → key_of q count line ≡ Ok key
    → KeyLine q count line key
key_taken q count two line key h =
    either _ _ _ key h
    (λ is same. let e : None ≡ key = cc same in subst (KeyLine q count line) e (record {
      valid = tt;
      text = λ rest. cc (same_bytes line (codes "key none") is);
    }))
    (from_parts (split 32 line) refl)
  where
    own : (word : List ℕ) (parts : List (List ℕ)) (o : Option (List ℕ)) → split 32 line ≡ word ∷ parts
        → word ≡ codes "key" → some_numbers count parts ≡ o → key_within q o ≡ Ok key → KeyLine q count line key
    own word parts None is w was h = cc h
    own word parts (Some numbers) is w was h =
        let c = from_cond _ _ Range key h in
        let counts = counted_taken count _ numbers was in
        let each = each_count q numbers c.0 in
        subst (KeyLine q count line) c.1 (record {
          valid = (counts.1, All-from_recursion _ numbers each);
          text = λ rest.
              cc (
                join_split 32 line,
                (numbers_are parts numbers counts.0 (key_low q two numbers each)),
                line_is
                    (codes "key") numbers rest,
              );
        })

    from_parts : (parts : List (List ℕ)) → split 32 line ≡ parts → key_from q count parts ≡ Ok key
        → KeyLine q count line key
    from_parts [] is h = cc h
    from_parts (word ∷ parts) is h =
        let w = from_cond_read _ _ Form key h in
        own word parts _ is (same_bytes word _ w.0) refl w.1

-- a row that was read
row_taken : (runs : ℕ) (parts : List (List ℕ)) (row : ℕ) → runs ≤ 1024 → row_of runs parts ≡ Ok row
    → (row < runs) × (parts ≡ decimal row ∷ [])
row_taken runs [] row few h = cc h
row_taken runs (part ∷ []) row few h = own _ refl h
  where
    own : (o : Option ℕ) → number_of part ≡ o → row_within runs o ≡ Ok row
        → (row < runs) × (part ∷ [] ≡ decimal row ∷ [])
    own None is h = cc h
    own (Some n) is h =
        let c = from_cond _ n Range row h in
        let below = ltb-true n runs c.0 in
        rw (← c.1) (below, ap (λ p. p ∷ []) (part_is part n is (omega (arith, below))))
row_taken runs (part ∷ other ∷ others) row few h = cc h

below : (limit : ℕ) (numbers : List ℕ) → list_all (λ a. ltb a limit) numbers ≡ true
    → AllByRecursion (λ a. a < limit) numbers
below limit [] h = tt
below limit (a ∷ numbers) h =
    let p = and_parts _ _ h in (ltb-true a limit p.0, below limit numbers p.1)

module _ (base : Base) (valid : IsBase base) where
  abbrev runs : ℕ
  runs = base.q ^ base.m

  -- an entry of low numbers, of which these are the parts
  record IsWritten (parts : List (List ℕ)) (entry : books.Entry) : Type 0 where
    low : IsLow base entry
    text : (rest : List ℕ) → joined 32 parts ++ 10 ∷ rest ≡ entry_text entry ++ rest

  image_taken : (o : Option ℕ) (c : Option (List ℕ)) (entry : books.Entry) → image_from runs o c ≡ Ok entry
      → (row : ℕ) × (change : List ℕ) × (o ≡ Some row) × (c ≡ Some change) × (row < runs)
      × AllByRecursion (λ a. a < runs) change × (books.Image row change ≡ entry)
  image_taken None c entry h = cc h
  image_taken (Some row) None entry h = cc h
  image_taken (Some row) (Some change) entry h =
      let c = from_cond _ _ Range entry h in
      let p = and_parts _ _ c.0 in
      (row, change, refl, refl, ltb-true row runs p.0, below runs change p.1, c.1)

  image_written : (letter : List ℕ) (parts : List (List ℕ)) (entry : books.Entry)
      → letter ≡ codes "I" → image_of base parts ≡ Ok entry → IsWritten (letter ∷ parts) entry
  image_written letter [] entry is h = cc h
  image_written letter (part ∷ parts) entry is h =
      let k = image_taken _ _ entry h in
      let counts = counted_taken base.m _ k.1 k.3 in
      let own : letter ∷ part ∷ parts ≡ codes "I" ∷ map decimal (k.0 ∷ k.1) =
      cc (part_is part k.0 k.2 (omega arith), (numbers_are parts k.1 counts.0 (all_under runs _ (omega arith) k.1 k.5)))
      in
      subst (IsWritten (letter ∷ part ∷ parts)) k.6 (record {
        low = (k.4, counts.1, All-from_recursion _ k.1 k.5);
        text = λ rest. cc (line_is (codes "I") (k.0 ∷ k.1) rest);
      })

  of_row_taken : (make : ℕ → books.Entry) (r : Result ℕ FaultKind) (entry : books.Entry)
      → of_row make r ≡ Ok entry → (row : ℕ) × (r ≡ Ok row) × (make row ≡ entry)
  of_row_taken make (Err kind) entry h = cc h
  of_row_taken make (Ok row) entry h = (row, refl, cc h)

  row_written : (make : ℕ → books.Entry) (word letter : List ℕ) (parts : List (List ℕ)) (entry : books.Entry)
      → ((row : ℕ) → row < runs → IsLow base (make row))
      → ((row : ℕ) → entry_text (make row) ≡ line_text word (row ∷ []))
      → bytes_eq letter word ≡ true → of_row make (row_of runs parts) ≡ Ok entry → IsWritten (letter ∷ parts) entry
  row_written make word letter parts entry low line is h =
      let k = of_row_taken make _ entry h in
      let row = row_taken runs parts k.0 valid.shaped.runs k.1 in
      subst (IsWritten (letter ∷ parts)) k.2 (record {
        low = low k.0 row.0;
        text = λ rest.
            cc (same_bytes letter word is, line_is word (k.0 ∷ []) rest, line k.0);
      })

  entry_written : (parts : List (List ℕ)) (entry : books.Entry) → entry_of base parts ≡ Ok entry
      → IsWritten parts entry
  entry_written [] entry h = cc h
  entry_written (letter ∷ parts) entry h =
      either _ _ after_branch entry h
      (row_written books.Branch (codes "O") letter parts entry (λ row low. low) (λ row. refl))
      (λ h. either _ _ after_worse entry h
      (row_written books.Worse (codes "P") letter parts entry (λ row low. low) (λ row. refl))
      (λ h. either _ _ after_image entry h
      (λ is h. image_written letter parts entry (same_bytes letter _ is) h)
      (λ h. either _ _ after_room entry h
      (row_written books.NoRoom (codes "R") letter parts entry (λ row low. low) (λ row. refl))
      (λ h. either _ _ after_floor entry h
      (row_written books.Floor (codes "F") letter parts entry (λ row low. low) (λ row. refl))
      (λ h. either (bytes_eq letter (codes "W")) (Err Range) (Err Form) entry h (λ is h. cc h) (λ h. cc h))))))
    where
      after_floor : Result books.Entry FaultKind
      after_floor = cond (bytes_eq letter (codes "W")) (Err Range) (Err Form)

      after_room : Result books.Entry FaultKind
      after_room = cond (bytes_eq letter (codes "F")) (of_row books.Floor (row_of runs parts)) after_floor

      after_image : Result books.Entry FaultKind
      after_image = cond (bytes_eq letter (codes "R")) (of_row books.NoRoom (row_of runs parts)) after_room

      after_worse : Result books.Entry FaultKind
      after_worse = cond (bytes_eq letter (codes "I")) (image_of base parts) after_image

      after_branch : Result books.Entry FaultKind
      after_branch = cond (bytes_eq letter (codes "P")) (of_row books.Worse (row_of runs parts)) after_worse

  entry_first : (n : ℕ) (r : Result books.Entry FaultKind) (rest : Result (List books.Entry) BookFault)
      (own : List books.Entry) → after_entry n r rest ≡ Ok own
      → (entry : books.Entry) × (more : List books.Entry) × (r ≡ Ok entry) × (rest ≡ Ok more)
      × (entry ∷ more ≡ own)
  entry_first n (Err kind) rest own h = cc h
  entry_first n (Ok entry) (Err stop) own h = cc h
  entry_first n (Ok entry) (Ok more) own h = (entry, more, refl, refl, cc h)

  no_line : (next : List ℕ) (lines : List (List ℕ)) → is_nothing (next ∷ lines) ≡ true → joined 10 (next ∷ lines) ≡ []
  no_line [] [] h = refl
  no_line (b ∷ next) [] h = absurd (omega (arith, eqb-true _ 0 h))
  no_line next (line ∷ lines) h = cc h

  -- entries of low numbers, of which these are the lines
  pub record AreWritten (lines : List (List ℕ)) (own : List books.Entry) : Type 0 where
    pub each : AllByRecursion (IsLow base) own
    pub text : joined 10 lines ≡ entries_text own ++ codes "END\n"

  pub entries_written : (n : ℕ) (lines : List (List ℕ)) (own : List books.Entry) → entries base n lines ≡ Ok own
      → AreWritten lines own
  entries_written n [] own h = cc h
  entries_written n (line ∷ []) own h = cc h
  entries_written n (line ∷ next ∷ lines) own h =
      elim (cases_Bool (bytes_eq line (codes "END"))) [
        | inl end ↦
            let h' = sym (cond-true _ _ _ end) ∙ h in
            elim (cases_Bool (is_nothing (next ∷ lines))) [
              | inl none ↦
                  let z : Ok [] ≡ Ok own = sym (cond-true _ _ _ none) ∙ h' in
                  let e : [] ≡ own = cc z in
                  let text : joined 10 (line ∷ next ∷ lines) ≡ codes "END\n" =
                  cc (same_bytes line _ end, no_line next lines none) in
                  subst (AreWritten (line ∷ next ∷ lines)) e (record { each = tt; text = text })
              | inr more ↦ let z = sym (cond-false _ _ _ more) ∙ h' in cc z
            ]
        | inr other ↦
            let k = entry_first n (entry_of base (split 32 line)) (entries base (n + 1) (next ∷ lines)) own
            (sym (cond-false _ _ _ other) ∙ h) in
            let here = entry_written (split 32 line) k.0 k.2 in
            let rest = entries_written (n + 1) (next ∷ lines) k.1 k.3 in
            let tail = entries_text k.1 ++ codes "END\n" in
            subst (AreWritten (line ∷ next ∷ lines)) k.4 (record {
              each = (here.low, rest.each);
              text =
                  ap (λ l. line ++ 10 ∷ l) rest.text ∙ ap (λ l. l ++ 10 ∷ tail) (sym (join_split 32 line))
                  ∙ here.text tail ∙ sym (append_assoc (entry_text k.0) (entries_text k.1) (codes "END\n"));
            })
      ]

-- a line for each entry
pub entries_long : (own : List books.Entry) → length own ≤ length (entries_text own)
entries_long [] = omega arith
entries_long (entry ∷ own) =
    omega (arith, entries_long own, some entry, length-append (entry_text entry) (entries_text own))
  where
    some : (entry : books.Entry) → 0 < length (entry_text entry)
    some (books.Branch row) = omega arith
    some (books.Worse row) = omega arith
    some (books.Image row change) = omega arith
    some (books.NoRoom row) = omega arith
    some (books.Floor row) = omega arith

-- what a book says, of which these are the lines from the fifth on
pub entries_taken : (base : Base) (order : Order) (key : Option (List ℕ)) (r : Result (List books.Entry) BookFault)
    (x : Contents) → with_entries base order key r ≡ Ok x
    → (es : List books.Entry) × (r ≡ Ok es)
    × (record { base = base; order = order; key = key; entries = es } ≡ x)
entries_taken base order key (Err stop) x h = cc h
entries_taken base order key (Ok es) x h = (es, refl, cc h)

-- what was read of a text
pub record IsSaid (said : List ℕ) (x : Contents) : Type 0 where
  pub tested : IsTested x.base
  pub key : IsKey x.base.q (length (order_of x.order (strata_of x.base))) x.key
  pub entries : AllByRecursion (IsLow x.base) x.entries
  pub text : said ≡ base_text x.base
      ++ (order_text x.order ++ (key_text x.key ++ (entries_text x.entries ++ codes "END\n")))

with_base_taken : (lines : List (List ℕ)) (r : Result Base FaultKind) (x : Contents) → with_base lines r ≡ Ok x
    → (base : Base) × (r ≡ Ok base) × (from_order base lines ≡ Ok x)
with_base_taken lines (Err kind) x h = cc h
with_base_taken lines (Ok base) x h = (base, refl, h)

with_order_taken : (base : Base) (lines : List (List ℕ)) (r : Result Order FaultKind) (x : Contents)
    → with_order base lines r ≡ Ok x
    → (order : Order) × (r ≡ Ok order) × (from_key base order lines ≡ Ok x)
with_order_taken base lines (Err kind) x h = cc h
with_order_taken base lines (Ok order) x h = (order, refl, h)

pub with_key_taken : (base : Base) (order : Order) (lines : List (List ℕ)) (r : Result (Option (List ℕ)) FaultKind)
    (x : Contents) → with_key base order lines r ≡ Ok x
    → (key : Option (List ℕ)) × (r ≡ Ok key) × (with_entries base order key (entries base 5 lines) ≡ Ok x)
with_key_taken base order lines (Err kind) x h = cc h
with_key_taken base order lines (Ok key) x h = (key, refl, h)

-- what is read from line 2 on
pub base_said : (lines : List (List ℕ)) (x : Contents) → from_base lines ≡ Ok x → IsSaid (joined 10 lines) x
base_said lines x h =
    let l2 = line_taken _ (λ line rest. with_base rest (base_of (split 32 line))) lines x h in
    let b = with_base_taken l2.1 _ x l2.4 in
    let base = b.0 in
    let own = base_taken (split 32 l2.0) base b.1 in
    let l3 = line_taken _
    (λ line rest. with_order base rest (order_from (split 32 line))) l2.1 x b.2 in
    let o = with_order_taken base l3.1 _ x l3.4 in
    let order = o.0 in
    let count = length (order_of order (strata_of base)) in
    let l4 = line_taken _
    (λ line rest. with_key base order rest (key_of base.q count line)) l3.1 x o.2 in
    let k = with_key_taken base order l4.1 _ x l4.4 in
    let key = key_taken base.q count (order-bounds base.q own.tested.base.shaped.order).0 l4.0 k.0 k.1 in
    let e = entries_taken base order k.0 _ x k.2 in
    let read = entries_written base own.tested.base 5 l4.1 e.0 e.1 in
    let end = entries_text e.0 ++ codes "END\n" in
    let after_key : joined 10 l3.1 ≡ key_text k.0 ++ end =
    ap (joined 10) l4.2 ∙ joined_more 10 l4.0 l4.1 l4.3 ∙ key.text (joined 10 l4.1)
    ∙ ap (λ t. key_text k.0 ++ t) read.text in
    let after_order : joined 10 l2.1 ≡ order_text order ++ (key_text k.0 ++ end) =
    ap (joined 10) l3.2 ∙ joined_more 10 l3.0 l3.1 l3.3
    ∙ ap (λ l. l ++ 10 ∷ joined 10 l3.1)
    (sym (join_split 32 l3.0) ∙ ap (joined 32) (order_taken (split 32 l3.0) order o.1))
    ∙ order_line_is order (joined 10 l3.1)
    ∙ ap (λ t. order_text order ++ t) after_key in
    let whole : joined 10 lines ≡ base_text base ++ (order_text order ++ (key_text k.0 ++ end)) =
    ap (joined 10) l2.2 ∙ joined_more 10 l2.0 l2.1 l2.3
    ∙ ap (λ l. l ++ 10 ∷ joined 10 l2.1) (sym (join_split 32 l2.0) ∙ ap (joined 32) own.is)
    ∙ line_is (codes "base") (numbers_in base) (joined 10 l2.1)
    ∙ ap (λ t. base_text base ++ t) after_order in
    subst (IsSaid (joined 10 lines)) e.2 (record {
      tested = own.tested;
      key = key.valid;
      entries = read.each;
      text = whole;
    })
