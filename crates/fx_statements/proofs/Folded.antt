-- The factors that the items of FOLDOVER fold, name by name.
use Rattle.std.proofs.Common.{◌≡◌, ℕ, zero, suc, ◌+◌, ◌-◌, ◌<◌, ◌≤◌, true, List, ◌∷◌, ◌++◌, drop, replicate, Result}
use Rattle.std.proofs.Common.{Some}
use Rattle.std.proofs.Common.{Ok, Err, refl, arith}
use Rattle.std.specs.Prelude.{decimal, slice_set}
use Rattle.std.proofs.Math.Numerals.{add-one}
use Rattle.std.proofs.lemmas.List.{drop_all}
use Rattle.std.proofs.lemmas.List.FromFn.{length-map-range_with_len}
use Rattle.fx_designs.specs.Vectors.{zeros}
use Rattle.fx_text.specs.declared.refusal.Refusal.{Refusal}
use Rattle.fx_text.specs.Written.{Written}
use Rattle.fx_text.specs.Names.{place_of}
use Rattle.fx_text.specs.Refusals.{◌>>=◌}
use Rattle.fx_text.specs.Ranges.{is_range, names_between, number_at_end, numbered, stem}
use Rattle.fx_text.proofs.Numbered.{from_here}
use Rattle.fx_settings.specs.Items.{item_of}
use Rattle.fx_statements.specs.Folds.{folded_at, names_folded, item_folded}

module _ (w : Written) (factors : List (List ℕ)) (codes : List ℕ) (base : List ℕ) (from count i : ℕ) where
  abbrev left : ℕ → List (List ℕ)
  left k = drop k (numbered base from count)

  abbrev rest : List ℕ → Result (List ℕ) Refusal
  rest more = names_folded w factors more (left (i + 1))

  next : i < count
      → names_folded w factors codes (left i)
      ≡ folded_at w codes (place_of (base ++ decimal (from + i)) factors) >>= rest
  next h = cc (from_here base from count i h)

  pub one_more : i < count → (more : List ℕ)
      → folded_at w codes (place_of (base ++ decimal (from + i)) factors) ≡ Ok more
      → names_folded w factors codes (left i) ≡ rest more
  one_more h more is = cc (next h)

  pub not_one : i < count → (refusal : Refusal)
      → folded_at w codes (place_of (base ++ decimal (from + i)) factors) ≡ Err refusal
      → names_folded w factors codes (left i) ≡ Err refusal
  not_one h refusal is = cc (next h)

  pub none_left : count ≤ i → names_folded w factors codes (left i) ≡ Ok codes
  none_left h = cc (drop_all i (numbered base from count) (rw length-map-range_with_len h))

-- a range that is regular, by its names
pub range_folded : (factors : List (List ℕ)) (codes : List ℕ) (first last : Written)
    → is_range first.text last.text ≡ true
    → item_folded factors codes (item_of first (Some last))
    ≡ names_folded first factors codes (names_between first.text last.text)
range_folded factors codes first last range = rw range

-- and by its stem and numbers
pub all_named : (factors : List (List ℕ)) (codes : List ℕ) (first last : Written)
    → is_range first.text last.text ≡ true
    → (from count : ℕ) → from ≡ number_at_end first.text
    → count ≡ number_at_end last.text + 1 - number_at_end first.text
    → item_folded factors codes (item_of first (Some last))
    ≡ names_folded first factors codes (numbered (stem first.text) from count)
all_named factors codes first last range from count low many =
    cc (range_folded factors codes first last range)

-- one more of all factors is folded
one_more_code : (i rest : ℕ)
    → slice_set (replicate i 1 ++ zeros (suc rest)) i 1 ≡ replicate i 1 ++ 1 ∷ zeros rest
one_more_code zero rest = refl
one_more_code (suc i) rest = cc (one_more_code i rest)

pub one_folded : (i n : ℕ) → i < n
    → slice_set (replicate i 1 ++ zeros (n - i)) i 1 ≡ replicate (i + 1) 1 ++ zeros (n - (i + 1))
one_folded i n h =
    let left : n - i ≡ suc (n - (i + 1)) = omega arith in
    cc (one_more_code i (n - (i + 1)), joined i (zeros (n - (i + 1))))
  where
    joined : (i : ℕ) (rest : List ℕ) → replicate i 1 ++ 1 ∷ rest ≡ replicate (i + 1) 1 ++ rest
    joined i rest = cc (both i rest, add-one i)
      where
        both : (i : ℕ) (rest : List ℕ) → replicate i 1 ++ 1 ∷ rest ≡ replicate (suc i) 1 ++ rest
        both zero rest = refl
        both (suc i) rest = cc (both i rest)
