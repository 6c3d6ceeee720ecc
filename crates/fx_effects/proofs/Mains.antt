-- The main effects of a range, one by one, and the numbers of its names.
use Rattle.std.proofs.Common.{◌≡◌, ℕ, ◌^◌, ◌+◌, ◌<◌, ◌≤◌, true, List, [], ◌∷◌, ◌++◌, drop, Result, Ok, Err}
use Rattle.std.specs.Prelude.{decimal}
use Rattle.std.proofs.lemmas.Bool.{leb-true, and_parts}
use Rattle.std.proofs.lemmas.List.{drop_all}
use Rattle.std.proofs.lemmas.List.FromFn.{length-map-range_with_len}
use Rattle.fx_text.specs.declared.refusal.Refusal.{Refusal}
use Rattle.fx_text.specs.Written.{Written}
use Rattle.fx_text.specs.Names.{place_of}
use Rattle.fx_text.specs.Refusals.{◌>>=◌}
use Rattle.fx_text.proofs.Digits.{is_below}
use Rattle.fx_text.specs.Ranges.{digits_at_end, is_plain, is_range, names_between, number_at_end, numbered}
use Rattle.fx_text.proofs.Numbered.{from_here}
use Rattle.fx_effects.specs.Factors.{main_of, mains_from}
use Rattle.fx_effects.specs.Expressions.{range_at, expression}

module _ (w : Written) (factors : List (List ℕ)) (mains : List ℕ) (stem : List ℕ) (from count i : ℕ) where
  abbrev left : ℕ → List (List ℕ)
  left k = drop k (numbered stem from count)

  abbrev rest : ℕ → Result (List ℕ) Refusal
  rest e = mains_from w factors (mains ++ e ∷ []) (left (i + 1))

  next : i < count
      → mains_from w factors mains (left i) ≡ main_of w (place_of (stem ++ decimal (from + i)) factors) >>= rest
  next h = cc (from_here stem from count i h)

  pub one_more : i < count → (e : ℕ) → main_of w (place_of (stem ++ decimal (from + i)) factors) ≡ Ok e
      → mains_from w factors mains (left i) ≡ rest e
  one_more h e is = cc (next h)

  pub not_one : i < count → (refusal : Refusal)
      → main_of w (place_of (stem ++ decimal (from + i)) factors) ≡ Err refusal
      → mains_from w factors mains (left i) ≡ Err refusal
  not_one h refusal is = cc (next h)

  pub none_left : count ≤ i → mains_from w factors mains (left i) ≡ Ok mains
  none_left h = cc (drop_all i (numbered stem from count) (rw length-map-range_with_len h))

pub whole : (factors : List (List ℕ)) (first last : Written) (mains : List ℕ) → is_range first.text last.text ≡ true
    → mains_from first factors [] (names_between first.text last.text) ≡ Ok mains
    → range_at factors first last ≡ Ok (expression mains 1)
whole factors first last mains range is = rw (range, is)

-- a number at the end of a name has at most 38 digits
pub number_is_short : (name : List ℕ) → is_plain (digits_at_end name) ≡ true → number_at_end name < 10 ^ 38
number_is_short name plain =
    let a = and_parts _ _ plain in
    let b = and_parts _ _ a.0 in
    let c = and_parts _ _ b.0 in
    is_below (digits_at_end name)
    (c.0, leb-true 1 _ c.1, leb-true _ 38 b.1)
