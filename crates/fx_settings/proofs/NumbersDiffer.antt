-- A stem with different numbers makes different names.
use Rattle.std.proofs.Common.{◌≡◌, ℕ, zero, suc, ◌+◌, ◌^◌, ◌<◌, ◌≤◌, false, List, [], ◌∷◌, ◌++◌, map, refl, sym}
use Rattle.std.proofs.Common.{◌∙◌, inl, inr, arith}
use Rattle.std.specs.Prelude.{decimal}
use Rattle.std.specs.Char.{to_ascii_lowercase}
use Rattle.std.specs.List.{AllByRecursion, IsDistinct}
use Rattle.std.specs.Str.Parse.{AllDigits}
use Rattle.std.proofs.lemmas.Bool.{cases_Bool}
use Rattle.std.proofs.lemmas.Fmt.{decimal_is_IsNumeral_wide}
use Rattle.std.proofs.lemmas.List.{append_cancel_left, map-append}
use Rattle.std.proofs.lemmas.Slice.Eq.{bytes_eq-Decides}
use Rattle.std.proofs.lemmas.Str.Ascii.{lowercase_is}
use Rattle.std.proofs.lemmas.Str.Parse.{digit_from_value}
use Rattle.fx_text.specs.Names.{is_same_name}
use Rattle.fx_text.specs.Ranges.{numbered}

-- digits have no case
no_case : (ds : List ℕ) → AllDigits 10 ds → map to_ascii_lowercase ds ≡ ds
no_case [] all = refl
no_case (c ∷ cs) all =
    cc ((lowercase_is c).1 (omega (arith, (digit_from_value c all.0).1)), no_case cs all.1)

-- one stem with two numbers makes two names
differ : (stem : List ℕ) (m n : ℕ) → m < n → n < 10 ^ 64 → is_same_name (stem ++ decimal m) (stem ++ decimal n) ≡ false
differ stem m n less small = elim (cases_Bool (is_same_name (stem ++ decimal m) (stem ++ decimal n))) [
  | inl same ↦
      let folded =
      (bytes_eq-Decides (map to_ascii_lowercase (stem ++ decimal m)) (map to_ascii_lowercase (stem ++ decimal n))).0
      same in
      let at_m = decimal_is_IsNumeral_wide m (omega arith) in
      let at_n = decimal_is_IsNumeral_wide n small in
      let behind : map to_ascii_lowercase (decimal m) ≡ map to_ascii_lowercase (decimal n) =
      append_cancel_left (map to_ascii_lowercase stem) _ _
      (cc (map-append to_ascii_lowercase stem (decimal m), map-append to_ascii_lowercase stem (decimal n)))
      in
      let digits = sym (no_case _ at_m.0.1) ∙ behind ∙ no_case _ at_n.0.1 in
      let equal : m ≡ n = cc in
      absurd (omega arith)
  | inr other ↦ other
]

differ_from_later : (stem : List ℕ) (m from count : ℕ) → m < from → from + count ≤ 10 ^ 64
    → AllByRecursion (λ name. is_same_name (stem ++ decimal m) name ≡ false) (numbered stem from count)
differ_from_later stem m from zero less small = tt
differ_from_later stem m from (suc count) less small = (
  differ stem m from less (omega arith),
  differ_from_later stem m (from + 1) count (omega (arith, less))
      (omega arith),
)

pub numbered_differ : (stem : List ℕ) (from count : ℕ) → from + count ≤ 10 ^ 64
    → IsDistinct is_same_name (numbered stem from count)
unfolding IsDistinct
numbered_differ stem from zero small = tt
numbered_differ stem from (suc count) small = (
  differ_from_later stem from _ count (omega arith) (omega arith),
  numbered_differ stem (from + 1)
      count (omega arith),
)
