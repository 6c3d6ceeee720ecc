-- One byte further in a comment or a quoted text.
use Rattle.std.proofs.Common.{◌≡◌, ℕ, suc, ◌+◌, ◌<◌, Bool, false, List, length, get_or, drop, Option, Some, None, refl}
use Rattle.std.proofs.Common.{ap, arith}
use Rattle.std.specs.Option.{option_map}
use Rattle.std.proofs.Math.Seq.{drop-cons}
use Rattle.std.proofs.Math.Numerals.{add-one}
use Rattle.fx_lexer.specs.Extents.{ends_comment, ends_quoted, closing_len, quoted_len, opens_pair}

-- a length counted from i on
abbrev pub further : ℕ → Option ℕ → Option ℕ
further i found = option_map (λ n. i + n) found

further_suc : (i : ℕ) (found : Option ℕ) → further i (option_map suc found) ≡ further (i + 1) found
further_suc i None = refl
further_suc i (Some n) = ap (λ x. Some x) (omega arith)

module _ (bytes : List ℕ) (i : ℕ) (inside : i < length bytes) where
  pub closed_later : ends_comment (drop i bytes) ≡ false
      → further i (closing_len (drop i bytes)) ≡ further (i + 1) (closing_len (drop (i + 1) bytes))
  closed_later e =
      let here = rw (drop-cons bytes i 0 inside) at e in
      let later = rw add-one at (further_suc i (closing_len (drop (suc i) bytes))) in
      rw (drop-cons bytes i 0 inside, here, add-one) later

  pub quoted_later : (q : ℕ) (in_pair : Bool) → ends_quoted q in_pair (drop i bytes) ≡ false
      → further i (quoted_len q in_pair (drop i bytes))
      ≡ further (i + 1) (quoted_len q (opens_pair q in_pair (get_or bytes i 0)) (drop (i + 1) bytes))
  quoted_later q in_pair e =
      let here = rw (drop-cons bytes i 0 inside) at e in
      let later =
      rw add-one at (further_suc i (quoted_len q (opens_pair q in_pair (get_or bytes i 0)) (drop (suc i) bytes))) in
      rw (drop-cons bytes i 0 inside, here, add-one) later
