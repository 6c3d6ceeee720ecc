-- The names of a step's factors differ from one another.
use Rattle.std.proofs.Common.{◌≡◌, ℕ, ◌+◌, ◌-◌, ◌^◌, ◌<◌, true, false, not, List, [], ◌∷◌, ◌++◌, length, Option, Some}
use Rattle.std.proofs.Common.{None, Ok, subst, arith}
use Rattle.std.specs.Prelude.{nat_lt}
use Rattle.std.specs.List.{AllByRecursion, IsDistinct}
use Rattle.std.specs.Str.Parse.{digits_value}
use Rattle.std.proofs.lemmas.Bool.{leb-true, not-false, and_parts, or_parts}
use Rattle.fx_text.specs.Written.{Written}
use Rattle.fx_text.specs.Names.{is_same_name}
use Rattle.fx_text.proofs.Digits.{is_below}
use Rattle.fx_text.proofs.Distinct.{IsNew, joined_differ, none_differ, not_found}
use Rattle.fx_text.specs.Ranges.{is_range, is_plain, numbered, stem, digits_at_end, number_at_end}
use Rattle.fx_settings.specs.Items.{Item, is_regular, is_regular_from, names_of, names_from, items_of}
use Rattle.fx_settings.specs.Factors.{are_known, added, all_added, names_of_factors}
use Rattle.fx_text.proofs.RangeParts.{plain, order}
use Rattle.fx_text.proofs.Chains.{unless_ok, bind_ok}
use Rattle.fx_settings.proofs.NumbersDiffer.{numbered_differ}

are_new : (names new : List (List ℕ)) → are_known new names ≡ false → AllByRecursion (IsNew names) new
are_new names [] e = tt
are_new names (name ∷ new) e =
    let parts = or_parts _ _ e in
    (not_found names name parts.0, are_new names new parts.1)

plain_is_below : (digits : List ℕ) → is_plain digits ≡ true → digits_value 10 digits < 10 ^ 38
plain_is_below digits e =
    let plain = and_parts _ _ e in
    let short = and_parts _ _ plain.0 in
    let some = and_parts _ _ short.0 in
    is_below digits (some.0, leb-true 1 _ some.1, leb-true _ 38 short.1)

range_differs : (first last : List ℕ) → is_range first last ≡ true
    → IsDistinct is_same_name
    (numbered (stem first) (number_at_end first) (number_at_end last + 1 - number_at_end first))
range_differs first last regular =
    let small = plain_is_below (digits_at_end last) (plain first last regular).1 in
    numbered_differ (stem first) (number_at_end first) (number_at_end last + 1 - number_at_end first)
    (omega (arith, order first last regular, small))

item_differs : (first : Written) (last : Option Written) → is_regular_from first last ≡ true
    → IsDistinct is_same_name (names_from first last)
unfolding IsDistinct
item_differs first None regular = (tt, tt)
item_differs first (Some last) regular = range_differs first.text last.text regular

added_differ : (limit : ℕ) (names : List (List ℕ)) (item : Item) (more : List (List ℕ)) → IsDistinct is_same_name names
    → added limit names item ≡ Ok more → IsDistinct is_same_name more
added_differ limit names item more h e =
    let regular = unless_ok (not (is_regular item)) _ more _ e in
    let few = unless_ok (nat_lt limit (length names + length (names_of item))) _ more _ regular.1 in
    let new = unless_ok (are_known (names_of item) names) _ more _ few.1 in
    let same : names ++ names_of item ≡ more = cc new.1 in
    subst (IsDistinct is_same_name) same
    (joined_differ names _ h (item_differs item.first item.last (not-false _ regular.0)) (are_new names _ new.0))

all_differ : (limit : ℕ) (items : List Item) (names all : List (List ℕ)) → IsDistinct is_same_name names
    → all_added limit names items ≡ Ok all → IsDistinct is_same_name all
all_differ limit [] names all h e = let same : names ≡ all = cc e in subst (IsDistinct is_same_name) same h
all_differ limit (item ∷ items) names all h e =
    let one = bind_ok _ _ all e in
    all_differ limit items one.0 all (added_differ limit names item one.0 h one.1) one.2

pub factors_differ : (limit : ℕ) (statement : List Written) (names : List (List ℕ))
    → names_of_factors limit statement ≡ Ok names → IsDistinct is_same_name names
factors_differ limit statement names e = all_differ limit (items_of statement) [] names none_differ e
