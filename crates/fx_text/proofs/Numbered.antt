-- The names of a range, one by one.
use Rattle.std.proofs.Common.{◌≡◌, ℕ, suc, ◌+◌, ◌<◌, ◌≤◌, List, [], ◌∷◌, ◌++◌, length, take, drop, get_or, refl, ap}
use Rattle.std.proofs.Common.{◌∙◌}
use Rattle.std.specs.Prelude.{decimal}
use Rattle.std.proofs.Math.Seq.{drop-cons, take-suc}
use Rattle.std.proofs.lemmas.List.{take_all, drop_all}
use Rattle.std.proofs.Math.Numerals.{add-one}
use Rattle.std.proofs.lemmas.List.FromFn.{length-map-range_with_len, get_or-map-range_with_len}
use Rattle.fx_text.specs.Ranges.{numbered}

module _ (stem : List ℕ) (from count i : ℕ) (h : i < count) where
  abbrev all : List (List ℕ)
  all = numbered stem from count

  inside : i < length all
  inside = rw length-map-range_with_len h

  name_is : get_or all i [] ≡ stem ++ decimal (from + i)
  name_is = get_or-map-range_with_len (λ n. stem ++ decimal n) from count i (from + i) [] h refl

  pub one_more : take (i + 1) all ≡ take i all ++ (stem ++ decimal (from + i)) ∷ []
  one_more = rw (add-one, take-suc all i [] inside, name_is) refl

  pub from_here : drop i all ≡ (stem ++ decimal (from + i)) ∷ drop (i + 1) all
  from_here = rw (add-one i) (drop-cons all i [] inside ∙ ap (λ name. name ∷ drop (suc i) all) name_is)

module _ (stem : List ℕ) (from count i : ℕ) (h : count ≤ i) where
  over : length (numbered stem from count) ≤ i
  over = rw length-map-range_with_len h

  pub all_taken : take i (numbered stem from count) ≡ numbered stem from count
  all_taken = take_all i (numbered stem from count) over

  pub none_after : drop i (numbered stem from count) ≡ []
  none_after = drop_all i (numbered stem from count) over
