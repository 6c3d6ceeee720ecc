-- Pieces that are cut out of one buffer.
use Rattle.std.proofs.Common.{ℕ, ◌≡◌, ◌<◌, ◌≤◌, ◌-◌, List, [], ◌∷◌, ◌++◌, length, take, drop, get_or, refl}
use Rattle.std.proofs.Common.{arith}
use Rattle.std.proofs.lemmas.List.{length-append}
use Rattle.std.proofs.Math.Seq.{drop-append_seam}
use Rattle.csv.specs.Records.{Rising, cut_from, last_end, prev}
use Rattle.csv.proofs.RecordFacts.{cut-end, cut-more, field-cut, field-get, last-append, rising-end, rising-more}
use Rattle.fx_derived.specs.Ends.{AreEnds}

-- no pieces
pub none : cut_from 0 [] [] ≡ []
unfolding cut_from
none = refl

pub are_none : AreEnds [] []
unfolding Rising last_end
are_none = record { rising = omega arith; whole = refl }

module _ (bytes ends piece : List ℕ) (h : AreEnds bytes ends) where
  longer : length bytes ≤ length (bytes ++ piece)
  longer = omega (arith, length-append bytes piece)

  grown : Rising 0 ends (length (bytes ++ piece))
  grown = rising-more 0 ends _ _ h.rising longer

  -- one more piece
  pub more : cut_from 0 (ends ++ length (bytes ++ piece) ∷ []) (bytes ++ piece) ≡ cut_from 0 ends bytes ++ piece ∷ []
  more =
      cc (cut-end 0 ends _ grown, cut-more 0 ends bytes piece h.rising, drop-append_seam bytes piece)

  pub are_more : AreEnds (bytes ++ piece) (ends ++ length (bytes ++ piece) ∷ [])
  are_more = record {
    rising = rising-end 0 ends _ grown;
    whole = last-append 0 ends _;
  }

-- the piece at a place
pub piece_at : (bytes ends : List ℕ) (n : ℕ) → n < length ends
    → get_or (cut_from 0 ends bytes) n [] ≡ take (get_or ends n 0 - prev 0 ends n) (drop (prev 0 ends n) bytes)
piece_at bytes ends n low = field-get _ n _ (field-cut 0 ends bytes n low)
