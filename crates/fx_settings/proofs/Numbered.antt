-- Whether a name of a range is known, from one name on.
use Rattle.std.proofs.Common.{◌≡◌, ℕ, ◌+◌, ◌<◌, ◌≤◌, true, false, List, ◌++◌, length, take, drop}
use Rattle.std.specs.Prelude.{decimal, is_some}
use Rattle.std.proofs.Math.Seq.{take-append_seam}
use Rattle.fx_text.specs.Names.{place_of}
use Rattle.fx_text.specs.Ranges.{numbered}
use Rattle.fx_text.proofs.Numbered.{from_here, none_after}
use Rattle.fx_settings.specs.Factors.{are_known}

module _ (stem : List ℕ) (from count i : ℕ) (h : i < count) where
  abbrev all : List (List ℕ)
  all = numbered stem from count

  pub known_here : (names : List (List ℕ)) → is_some (place_of (stem ++ decimal (from + i)) names) ≡ true
      → are_known (drop i all) names ≡ true
  known_here names e =
      cc (from_here stem from count i h)

  pub not_here : (names : List (List ℕ)) → is_some (place_of (stem ++ decimal (from + i)) names) ≡ false
      → are_known (drop i all) names ≡ are_known (drop (i + 1) all) names
  not_here names e =
      cc (from_here stem from count i h)

pub none_left : (stem : List ℕ) (from count i : ℕ) → count ≤ i → (names : List (List ℕ))
    → are_known (drop i (numbered stem from count)) names ≡ false
none_left stem from count i h names = cc (none_after stem from count i h)

-- what stands in front
pub behind : (old new : List (List ℕ)) → take (length old) (old ++ new) ≡ old
behind old new = take-append_seam old new
