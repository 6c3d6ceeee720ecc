-- What is read from digits.
use Rattle.std.proofs.Common.{◌≡◌, ℕ, zero, suc, ◌^◌, ◌<◌, true, List, [], ◌∷◌, Ok, Result, refl, arith}
use Rattle.std.specs.List.{list_all}
use Rattle.std.specs.Str.{IsAscii, IsUtf8}
use Rattle.std.specs.Str.Parse.{digits_value, ParsesUnsigned}
use Rattle.std.proofs.lemmas.Str.{IsUtf8-from_ascii}
use Rattle.std.proofs.lemmas.Str.Parse.{IsDigitsTest, IsNumeralModel, numerals_by_value, digits_value_short}
use Rattle.std.proofs.lemmas.Str.Parse.{parse_gives}
use Rattle.std.proofs.lemmas.Bool.{leb-true, le-leb, and_from, and_parts}
use Rattle.fx_lexer.specs.Bytes.{is_digit}
use Rattle.fx_text.specs.Numbers.{IsNumber}

abbrev AreDigits : List ℕ → Type 0
AreDigits bytes = list_all is_digit bytes ≡ true

tells : IsDigitsTest AreDigits
tells = record {
  empty = refl;
  parts = λ c cs all.
      let both = and_parts (is_digit c) (list_all is_digit cs) all in
      let ends = and_parts _ _ both.0 in
      ((leb-true 48 c ends.0, leb-true c 57 ends.1), both.1);
  more = λ c cs digit all. and_from _ _ (and_from _ _ (le-leb 48 c digit.0) (le-leb c 57 digit.1)) all;
}

pub digits : IsNumeralModel AreDigits (digits_value 10)
digits = numerals_by_value AreDigits tells

are_ascii : (bytes : List ℕ) → AreDigits bytes → IsAscii bytes
are_ascii [] all i = omega arith
are_ascii (b ∷ bytes) all zero = let ends = (tells.parts b bytes all).0 in omega (arith, ends.1)
are_ascii (b ∷ bytes) all (suc i) = are_ascii bytes (tells.parts b bytes all).1 i

pub is_text : (bytes : List ℕ) → IsNumber bytes → IsUtf8 bytes
is_text bytes h = IsUtf8-from_ascii bytes (are_ascii bytes h.0)

fits : (n : ℕ) → n < 10 ^ 38 → n < 2 ^ 128
fits n h = omega (arith, h)

pub is_below : (bytes : List ℕ) → IsNumber bytes → digits_value 10 bytes < 10 ^ 38
is_below bytes h = digits_value_short digits bytes 38 h.0 h.2

pub is_read : {E : Type 0} (bytes : List ℕ) (r : Result ℕ E) → ParsesUnsigned 128 10 bytes r → IsNumber bytes
    → r ≡ Ok (digits_value 10 bytes)
is_read bytes r reads h = parse_gives digits 128 bytes r reads h.0 h.1 (fits (digits_value 10 bytes) (is_below bytes h))
