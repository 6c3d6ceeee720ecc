use Rattle.std.proofs.Common.{◌≡◌, ◌∙◌, ◌<◌, ◌+◌, ◌++◌, ◌∷◌, [], ℕ, List, length, map, take, take_all, get_or}
use Rattle.std.specs.Char.{to_ascii_lowercase}
use Rattle.std.proofs.lemmas.List.{take_more, map-append}
use Rattle.fx_outputs.proofs.earlier.folded.Goals as goal

-- one byte more in lowercase
one_more : (f : ℕ → ℕ) (xs done : List ℕ) (i x : ℕ) → i < length xs → done ≡ map f (take i xs) → x ≡ f (get_or xs i 0)
    → done ++ x ∷ [] ≡ map f (take (i + 1) xs)
one_more f xs done i x within so_far is = rw (so_far, is, take_more xs i 0 within, map-append)

pub loop-byte-preserved : goal.loop-byte-preserved
loop-byte-preserved c =
    c.in-Ok.ensures.items ∙ one_more to_ascii_lowercase c.args.name.now c.loop-byte.folded.items c.loop-byte.byte-index
    _ c.loop-byte-test.true c.loop-byte.invariant (cc)

pub returns : goal.returns
returns c =
    cc (c.loop-byte.invariant, take_all c.loop-byte.byte-index c.args.name.now c.loop-byte-test.false)
