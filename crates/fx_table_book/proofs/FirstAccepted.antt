-- What is read of a text of the first version is what it has in that version.
use Rattle.std.proofs.Common.{◌≡◌, ℕ, ◌+◌, ◌^◌, ◌<◌, ◌≤◌, inl, inr, true, cond, List, []}
use Rattle.std.proofs.Common.{◌∷◌, ◌++◌}
use Rattle.std.proofs.Common.{map, length, Option, Some, None, Result, Ok, Err, refl, sym, ap, ◌∙◌, arith, subst}
use Rattle.std.proofs.Common.{get_or}
use Rattle.std.specs.Prelude.{codes, decimal, drop}
use Rattle.std.specs.List.{AllByRecursion}
use Rattle.std.specs.Str.{bytes_eq}
use Rattle.std.proofs.lemmas.Bool.{cond-true, cond-false, cases_Bool, and_parts, eqb-true}
use Rattle.std.proofs.lemmas.List.Elements.{All-from_recursion}
use Rattle.fx_vectors.proofs.Limits.{order-bounds}
use Rattle.fx_book.specs.declared.fault.FaultKind.{FaultKind}
use Rattle.fx_book.specs.declared.fault.FaultKind.TheVariants.{Form, Range}
use Rattle.fx_book.specs.declared.fault.FaultKind.TheVariants as kind
use Rattle.fx_book.specs.Faults.{fault}
use Rattle.fx_book.specs.Parts.{split, numbers_of_parts}
use Rattle.fx_book.specs.Writing.{line_text}
use Rattle.fx_book.proofs.Accepted.{line_taken}
use Rattle.fx_book.proofs.Texts.{joined, joined_more, join_split, same_bytes}
use Rattle.fx_table_book.specs.declared.base.Base.{Base}
use Rattle.fx_table_book.specs.declared.order.Order.TheVariants.{FactorsFirst}
use Rattle.fx_table_book.specs.Tables.{IsBase, IsKey, strata_of, order_of}
use Rattle.fx_table_book.specs.Texts.{Contents, IsFirst, pattern_text, entries_text, is_base, some_numbers, unblocked}
use Rattle.fx_table_book.specs.Texts.{size_from, size_of, pattern_within, pattern_from}
use Rattle.fx_table_book.specs.Texts.{pattern_of}
use Rattle.fx_table_book.specs.Texts.{entries, with_key, with_size, from_pattern, from_demands, from_size}
use Rattle.fx_table_book.proofs.Shapes.{IsTested, base_is, base_little}
use Rattle.fx_table_book.proofs.Small.{IsLow, key_low}
use Rattle.fx_table_book.proofs.Accepted.{from_cond, from_cond_read, either, numbers_are, counted_taken, line_is}
use Rattle.fx_table_book.proofs.Accepted.{each_count, with_key_taken, entries_taken, entries_written}

four : (numbers : List ℕ) → length numbers ≡ 4
    → numbers
    ≡ (unblocked numbers).q ∷ (unblocked numbers).m ∷ (unblocked numbers).n ∷ get_or numbers 3 0 ∷ []
four [] h = absurd (omega arith)
four (a ∷ []) h = absurd (omega arith)
four (a ∷ b ∷ []) h = absurd (omega arith)
four (a ∷ b ∷ c ∷ []) h = absurd (omega arith)
four (a ∷ b ∷ c ∷ d ∷ []) h = refl
four (a ∷ b ∷ c ∷ d ∷ e ∷ numbers) h = absurd (omega arith)

abbrev numbers_in : Base → List ℕ
numbers_in base = base.q ∷ base.m ∷ base.n ∷ 0 ∷ []

little : (base : Base) → IsBase base → AllByRecursion (λ a. a < 2 ^ 127) (numbers_in base)
little base h =
    let l = base_little base h in
    (omega arith, (omega arith, (omega arith, (omega arith, tt))))

-- the base of a shape that was read
record SizeLine (parts : List (List ℕ)) (x : Base) : Type 0 where
  tested : IsTested x
  no_blocks : x.h ≡ 0
  no_whole_plots : x.w ≡ 0
  is : parts ≡ codes "size" ∷ map decimal (numbers_in x)

size_taken : (parts : List (List ℕ)) (base : Base) → size_of parts ≡ Ok base → SizeLine parts base
size_taken [] base h = cc h
size_taken (word ∷ parts) base h =
    let w = from_cond_read (bytes_eq word (codes "size")) (size_from (some_numbers 4 parts)) Form base h in
    let k = own (some_numbers 4 parts) w.1 in
    let t = base_is base k.3 in
    let counts = counted_taken 4 (numbers_of_parts 0 (2 ^ 128) parts) k.0 k.1 in
    let are : k.0 ≡ numbers_in base =
    cc (four k.0 counts.1) in
    let small = subst (AllByRecursion (λ a. a < 2 ^ 127)) (sym are) (little base t.base) in
    record {
      tested = t;
      no_blocks = cc k.4;
      no_whole_plots = cc;
      is =
          cc (same_bytes word _ w.0, numbers_are parts k.0 counts.0 small);
    }
  where
    own : (o : Option (List ℕ)) → size_from o ≡ Ok base
        → (numbers : List ℕ) × (o ≡ Some numbers) × (get_or numbers 3 0 ≡ 0) × (is_base base ≡ true)
        × (unblocked numbers ≡ base)
    own None h = cc h
    own (Some numbers) h =
        let c = from_cond _ _ Range base h
        in
        let p = and_parts _ _ c.0 in
        (numbers, refl, eqb-true _ 0 p.0, rw (← c.1) p.1, c.1)

-- a pattern that was read
record PatternLine (q count : ℕ) (line : List ℕ) (key : Option (List ℕ)) : Type 0 where
  valid : IsKey q count key
  text : (rest : List ℕ) → line ++ 10 ∷ rest ≡ pattern_text key ++ rest

-- a pattern of so many entries more than two, of which the first two are zero
behind_two : (count : ℕ) (pattern : List ℕ) → length pattern ≡ count + 2 → get_or pattern 0 0 ≡ 0
    → get_or pattern 1 0 ≡ 0 → (pattern ≡ 0 ∷ 0 ∷ drop 2 pattern) × (length (drop 2 pattern) ≡ count)
behind_two count [] many a b = absurd (omega arith)
behind_two count (x ∷ []) many a b = absurd (omega arith)
behind_two count (x ∷ y ∷ key) many a b =
    (cc, omega arith)

pattern_taken : (q count : ℕ) → 2 ≤ q → (line : List ℕ) (key : Option (List ℕ)) → pattern_of q count line ≡ Ok key
    → PatternLine q count line key
pattern_taken q count two line key h =
    either _ _ _ key h
    (λ is same. let e : None ≡ key = cc same in subst (PatternLine q count line) e (record {
      valid = tt;
      text = λ rest. cc (same_bytes line (codes "pattern none") is);
    }))
    (from_parts (split 32 line) refl)
  where
    own : (word : List ℕ) (parts : List (List ℕ)) (o : Option (List ℕ)) → split 32 line ≡ word ∷ parts
        → word ≡ codes "pattern" → some_numbers (count + 2) parts ≡ o → pattern_within q o ≡ Ok key
        → PatternLine q count line key
    own word parts None is w was h = cc h
    own word parts (Some pattern) is w was h =
        let own_key = drop 2 pattern in
        let z = from_cond_read _
        _ Range key h in
        let zeros = and_parts _ _ z.0 in
        let c = from_cond _ _ Range key z.1 in
        let counts = counted_taken (count + 2) (numbers_of_parts 0 (2 ^ 128) parts) pattern was in
        let begins = behind_two count pattern counts.1 (eqb-true (get_or pattern 0 0) 0 zeros.0)
        (eqb-true (get_or pattern 1 0) 0 zeros.1) in
        let each = each_count q own_key c.0 in
        let small : AllByRecursion (λ a. a < 2 ^ 127) (0 ∷ 0 ∷ own_key) =
        (omega arith, (omega arith, key_low q two own_key each)) in
        let are = numbers_are parts pattern counts.0
        (subst (AllByRecursion (λ a. a < 2 ^ 127)) (sym begins.0) small) ∙ ap (map decimal) begins.0 in
        subst (PatternLine q count line) c.1 (record {
          valid = (begins.1, All-from_recursion _ own_key each);
          text = λ rest.
              cc (join_split 32 line, line_is (codes "pattern") (0 ∷ 0 ∷ own_key) rest);
        })

    from_parts : (parts : List (List ℕ)) → split 32 line ≡ parts → pattern_from q count parts ≡ Ok key
        → PatternLine q count line key
    from_parts [] is h = cc h
    from_parts (word ∷ parts) is h =
        let w = from_cond_read _
        _ Form key h in
        own word parts _ is (same_bytes word _ w.0) refl w.1

with_size_taken : (lines : List (List ℕ)) (r : Result Base FaultKind) (x : Contents) → with_size lines r ≡ Ok x
    → (base : Base) × (r ≡ Ok base) × (from_demands base lines ≡ Ok x)
with_size_taken lines (Err kind) x h = cc h
with_size_taken lines (Ok base) x h = (base, refl, h)

demands_taken : (base : Base) (line : List ℕ) (rest : List (List ℕ)) (x : Contents)
    → cond (bytes_eq line (codes "resolution 3")) (from_pattern base rest) (Err (fault kind.Range 3)) ≡ Ok x
    → (line ≡ codes "resolution 3") × (from_pattern base rest ≡ Ok x)
demands_taken base line rest x h =
    elim (cases_Bool (bytes_eq line (codes "resolution 3"))) [
      | inl is ↦ (
        same_bytes line _ is,
        sym (cond-true _ (from_pattern base rest) _ is) ∙ h,
      )
      | inr out ↦ let z = sym (cond-false _ _ _ out) ∙ h in cc z
    ]

-- what was read of a text of the first version
pub record IsSaidFirst (said : List ℕ) (x : Contents) : Type 0 where
  pub tested : IsTested x.base
  pub first : IsFirst x
  pub key : IsKey x.base.q (length (order_of x.order (strata_of x.base))) x.key
  pub entries : AllByRecursion (IsLow x.base) x.entries
  pub text : said ≡ line_text (codes "size") (x.base.q ∷ x.base.m ∷ x.base.n ∷ 0 ∷ [])
      ++ (codes "resolution 3\n" ++ (pattern_text x.key ++ (entries_text x.entries ++ codes "END\n")))

-- what is read from line 2 on
pub size_said : (lines : List (List ℕ)) (x : Contents) → from_size lines ≡ Ok x → IsSaidFirst (joined 10 lines) x
size_said lines x h =
    let l2 = line_taken _ (λ line rest. with_size rest (size_of (split 32 line))) lines x h in
    let b = with_size_taken l2.1 _ x l2.4 in
    let base = b.0 in
    let own = size_taken (split 32 l2.0) base b.1 in
    let l3 = line_taken _
    (λ line rest. cond (bytes_eq line (codes "resolution 3")) (from_pattern base rest) (Err (fault kind.Range 3)))
    l2.1 x b.2 in
    let d = demands_taken base l3.0 l3.1 x l3.4 in
    let count = length (order_of FactorsFirst (strata_of base)) in
    let l4 = line_taken _
    (λ line rest. with_key base FactorsFirst rest (pattern_of base.q count line)) l3.1 x d.1 in
    let k = with_key_taken base FactorsFirst l4.1 _ x l4.4 in
    let key = pattern_taken base.q count (order-bounds base.q own.tested.base.shaped.order).0 l4.0 k.0 k.1 in
    let e = entries_taken base FactorsFirst k.0 _ x k.2 in
    let read = entries_written base own.tested.base 5 l4.1 e.0 e.1 in
    let end = entries_text e.0 ++ codes "END\n" in
    let after_demands : joined 10 l3.1 ≡ pattern_text k.0 ++ end =
    ap (joined 10) l4.2 ∙ joined_more 10 l4.0 l4.1 l4.3 ∙ key.text (joined 10 l4.1)
    ∙ ap (λ t. pattern_text k.0 ++ t) read.text in
    let after_size : joined 10 l2.1 ≡ codes "resolution 3\n" ++ (pattern_text k.0 ++ end) =
    ap (joined 10) l3.2 ∙ joined_more 10 l3.0 l3.1 l3.3
    ∙ ap (λ l. l ++ 10 ∷ joined 10 l3.1) d.0
    ∙ ap (λ t. codes "resolution 3\n" ++ t) after_demands in
    let whole : joined 10 lines
    ≡ line_text (codes "size") (numbers_in base) ++ (codes "resolution 3\n" ++ (pattern_text k.0 ++ end)) =
    ap (joined 10) l2.2 ∙ joined_more 10 l2.0 l2.1 l2.3
    ∙ ap (λ l. l ++ 10 ∷ joined 10 l2.1) (sym (join_split 32 l2.0) ∙ ap (joined 32) own.is)
    ∙ line_is (codes "size") (numbers_in base) (joined 10 l2.1)
    ∙ ap (λ t. line_text (codes "size") (numbers_in base) ++ t) after_size in
    subst (IsSaidFirst (joined 10 lines)) e.2 (record {
      tested = own.tested;
      first = record { no_blocks = own.no_blocks; no_whole_plots = own.no_whole_plots; order = refl };
      key = key.valid;
      entries = read.each;
      text = whole;
    })
