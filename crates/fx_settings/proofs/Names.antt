-- The names of factors are names.
use Rattle.std.proofs.Common.{◌≡◌, ℕ, zero, suc, ◌+◌, ◌^◌, ◌<◌, ◌≤◌, true, not, List, [], ◌∷◌, ◌++◌, length, map}
use Rattle.std.proofs.Common.{Option, Some, None, Ok, refl, ap₂, subst, take, ◌∙◌, arith}
use Rattle.std.specs.Prelude.{All, decimal, ◌&&◌, nat_lt, nat_le}
use Rattle.std.specs.List.{AllByRecursion, flat_map, list_all}
use Rattle.std.proofs.Math.Bool.{or-true}
use Rattle.std.proofs.lemmas.Bool.{and_parts, le-leb, leb-true, not-false}
use Rattle.std.proofs.lemmas.List.{length-append, length-map, length-take-le, take-append-drop}
use Rattle.std.proofs.lemmas.List.Elements.{All-from_recursion}
use Rattle.std.proofs.lemmas.Slice.Eq.{bytes_eq-Decides}
use Rattle.std.specs.Char.{to_ascii_lowercase}
use Rattle.std.proofs.lemmas.Fmt.{decimal_is_IsNumeral_wide, length-decimal-le_wide}
use Rattle.std.proofs.lemmas.Str.Parse.{digit_from_value, digits_value_short}
use Rattle.std.proofs.lemmas.List.Folds.{list_all-append}
use Rattle.std.specs.Str.Parse.{AllDigits}
use Rattle.fx_base.proofs.Lists.{each-append, each-append_parts}
use Rattle.fx_lexer.specs.Bytes.{begins_word, is_digit, is_word_byte}
use Rattle.fx_language.specs.Grammar as grammar
use Rattle.fx_text.specs.Names.{IsName}
use Rattle.fx_text.specs.Ranges.{digits_at_end, is_numeral, is_plain, is_range, number_at_end, numbered, stem, stem_len}
use Rattle.fx_text.specs.Sentences.{HasNames, IsStatement}
use Rattle.fx_text.specs.Written.{Written}
use Rattle.fx_text.proofs.Digits.{digits}
use Rattle.fx_text.proofs.RangeParts.{order, plain}
use Rattle.fx_text.proofs.Chains.{unless_ok, bind_ok}
use Rattle.fx_settings.specs.Items.{Item, is_regular, is_regular_from, names_from, names_of}
use Rattle.fx_settings.specs.Factors.{added, all_added, are_known, names_of_factors}
use Rattle.fx_settings.specs.ItemReadings.{AreItems, IsWrittenAs}
use Rattle.fx_settings.proofs.ItemReadings.{items_law}

-- names, or those of a range, whose last name is one
abbrev HasItemNames : Written → Option Written → Type 0
HasItemNames first None = IsName first.text
HasItemNames first (Some last) = IsName first.text × IsName last.text

each_item : (written : List (List Written)) (items : List Item) → AreItems written items
    → HasNames (flat_map (λ (part : List Written). part) written)
    → AllByRecursion (λ (i : Item). HasItemNames i.first i.last) items
each_item [] [] h names = tt
each_item [] (i ∷ items) h names = absurd h
each_item (p ∷ written) [] h names = absurd h
each_item (p ∷ written) (i ∷ items) h names = by_last i.last h.0.2 (each_item written items h.1)
  where
    rest : List Written
    rest = flat_map (λ (part : List Written). part) written

    by_last : (last : Option Written) → IsWrittenAs p i.first last
        → (HasNames rest → AllByRecursion (λ (i : Item). HasItemNames i.first i.last) items)
        → HasItemNames i.first last × AllByRecursion (λ (i : Item). HasItemNames i.first i.last) items
    by_last None e later =
        let here = rw e at names in
        (here.0 h.0.1, later here.1)
    by_last (Some last) (minus, hm, hl, e) later =
        let here =
        rw e at names in
        ((here.0 h.0.1, here.1.1.0 hl), later here.1.1.1)

-- a number up to that of the last name has no more digits than it
no_longer : (first last : List ℕ) (n : ℕ) → is_range first last ≡ true → n ≤ number_at_end last
    → length (decimal n) ≤ length (digits_at_end last)
no_longer first last n regular upto =
    let short =
    and_parts _
    _ (and_parts _ _ (plain first last regular).1).0 in
    let some = and_parts _ _ short.0 in
    let k = length (digits_at_end last) in
    let positive = leb-true 1 k some.1 in
    let value : number_at_end last < 10 ^ k = digits_value_short digits (digits_at_end last) k some.0 (omega arith) in
    let small = digits_value_short digits _ 38 some.0 (leb-true k 38 short.1) in
    length-decimal-le_wide k n (omega (arith, positive)) (omega (arith, upto, value)) (omega (arith, upto, small))

-- the stems of a range are as long as one another, and not empty
same_stems : (first last : List ℕ) → is_range first last ≡ true → length (stem first) ≡ length (stem last)
same_stems first last regular =
    let most = and_parts _ _ regular in
    let same = (and_parts _ _ most.0).1 in
    let folded = (bytes_eq-Decides (map to_ascii_lowercase (stem first)) (map to_ascii_lowercase (stem last))).0 same in
    cc (
      length-map (stem first) to_ascii_lowercase,
      length-map (stem last)
          to_ascii_lowercase,
    )

some_stem : (first last : List ℕ) → is_range first last ≡ true → 1 ≤ length (stem first)
some_stem first last regular =
    let most = and_parts _ _ regular in
    let same = and_parts _ _ most.0 in
    let plain_last = and_parts _ (is_plain (digits_at_end last)) same.0 in
    let plain_first = and_parts (nat_le 1 (stem_len first)) (is_plain (digits_at_end first)) plain_last.0 in
    let some = leb-true 1 (stem_len first) plain_first.0 in
    let inside : stem_len first ≤ length first = omega arith in
    let long = length-take-le (stem_len first) first inside in
    omega (arith, some, long)

whole_name : (name : List ℕ) → length (stem name) + length (digits_at_end name) ≡ length name
whole_name name =
    cc (length-append (stem name) (digits_at_end name), take-append-drop (stem_len name) name)

-- digits are bytes of a word
word_digits : (ds : List ℕ) → AllDigits 10 ds → list_all is_word_byte ds ≡ true
word_digits [] h = refl
word_digits (c ∷ ds) h =
    let range = digit_from_value c h.0 in
    let digit : is_digit c ≡ true = rw (le-leb 48 c range.0, le-leb c 57 range.1) in
    let here : is_word_byte c ≡ true = cc (or-true (begins_word c)) in
    rw (here, word_digits ds h.1)

-- and so are the first bytes of a name
word_front : (n : ℕ) (name : List ℕ) → list_all is_word_byte name ≡ true → list_all is_word_byte (take n name) ≡ true
word_front zero name h = refl
word_front (suc n) [] h = refl
word_front (suc n) (c ∷ name) h =
    let both = and_parts (is_word_byte c) (list_all is_word_byte name) h in
    rw (both.0, word_front n name both.1) refl

-- the number at the end of a name has at most 38 digits
small_number : (first last : List ℕ) → is_range first last ≡ true → number_at_end last < 10 ^ 38
small_number first last regular =
    let whole = (plain first last regular).1 in
    let numeral = (and_parts (is_numeral (digits_at_end last)) _ whole).0 in
    let short =
    and_parts _
    (nat_le (length (digits_at_end last)) 38) numeral in
    let some = and_parts (list_all is_digit (digits_at_end last)) (nat_le 1 (length (digits_at_end last))) short.0 in
    digits_value_short digits (digits_at_end last) 38 some.0 (leb-true (length (digits_at_end last)) 38 short.1)

-- the names of a range, each with a number from `from` on
in_range : (first last : List ℕ) → is_range first last ≡ true → IsName first → IsName last → (from count : ℕ)
    → from + count ≤ number_at_end last + 1 → AllByRecursion IsName (numbered (stem first) from count)
in_range first last regular begun is from zero upto = tt
in_range first last regular begun is from (suc count) upto =
    let digits = no_longer first last from regular (omega arith) in
    let small = small_number first last regular in
    let numeral = (decimal_is_IsNumeral_wide from (omega (arith, small, upto))).0.1 in
    let long = length-append (stem first) (decimal from) in
    let name : IsName (stem first ++ decimal from) = (
      omega (arith, some_stem first last regular),
      omega (arith, same_stems first last regular, whole_name last),
      list_all-append is_word_byte (stem first) (decimal from)
          ∙ ap₂ (λ a b. a && b) (word_front (stem_len first) first begun.2) (word_digits (decimal from) numeral),
    ) in
    (name, in_range first last regular begun is (from + 1) count (omega (arith, upto)))

of_item : (first : Written) (last : Option Written) → is_regular_from first last ≡ true → HasItemNames first last
    → AllByRecursion IsName (names_from first last)
of_item first None regular is = (is, tt)
of_item first (Some last) regular is =
    let ends = order first.text last.text regular in
    in_range first.text last.text regular is.0 is.1 _
    _ (omega arith)

all_names : (limit : ℕ) (items : List Item) (names all : List (List ℕ))
    → AllByRecursion (λ (i : Item). HasItemNames i.first i.last) items → AllByRecursion IsName names
    → all_added limit names items ≡ Ok all → AllByRecursion IsName all
all_names limit [] names all is h e = let same : names ≡ all = cc e in subst (AllByRecursion IsName) same h
all_names limit (item ∷ items) names all is h e =
    let one = bind_ok (added limit names item) (λ more. all_added limit more items) all e in
    let regular = unless_ok (not (is_regular item)) _ one.0 _ one.1 in
    let few = unless_ok (nat_lt limit (length names + length (names_of item))) _ one.0 _ regular.1 in
    let new = unless_ok (are_known (names_of item) names) _ one.0 _ few.1 in
    let same : names ++ names_of item ≡ one.0 = cc new.1 in
    all_names limit items one.0 all is.1
    (subst (AllByRecursion IsName) same
    (each-append IsName names _ h (of_item item.first item.last (not-false _ regular.0) is.0))) one.2

pub factor_names : (limit : ℕ) (s : List Written) (names : List (List ℕ)) → IsStatement grammar.factors s → HasNames s
    → names_of_factors limit s ≡ Ok names → All IsName names
factor_names limit s names by_grammar are e =
    let r = items_law s by_grammar in
    let written = subst HasNames r.statement are in
    let items =
    each_item r.written _ r.items
    ((each-append_parts _ (flat_map (λ (part : List Written). part) r.written) r.options written.1).0) in
    All-from_recursion IsName names (all_names limit _ [] names items tt e)
