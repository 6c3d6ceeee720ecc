use Rattle.std.proofs.Common.{Bool, true, false, ◌<◌, ◌-◌, length}
use Rattle.std.proofs.Common.{arith}
use mathlib.Core.Bool.{not}
use Rattle.std.specs.Bool.{OnTrue, OnFalse}
use Rattle.fx_barred.proofs.Firsts.{vector-at}
use Rattle.fx_barred.proofs.next_vectors.is_new.Goals as goal

pub agree-requires-clause-first : goal.agree-requires-clause-first
agree-requires-clause-first c =
    let words = c.args.words.now in
    let low : c.args.known - 1 < length words = omega arith in
    rw (vector-at words _ c.index-words-known.result low) at (c.requires.vectors (c.args.known - 1) low)

pub agree-requires-clause-second : goal.agree-requires-clause-second
agree-requires-clause-second c =
    let words = c.args.words.now in
    rw (vector-at words c.args.k c.index-words-k.result c.requires.there) at
    (c.requires.vectors c.args.k c.requires.there)

from-agree : (b : Bool) (P Q : Type 0) → OnTrue b P → (P → Q) → OnFalse (not b) Q
from-agree true P Q h f = f h
from-agree false P Q h f = tt

pub returns : goal.returns
returns c =
    let words = c.args.words.now in
    let low : c.args.known - 1 < length words = omega arith in
    from-agree c.agree.result _ _ c.agree.ensures
    (λ same.
    record {
      place = c.args.known - 1;
      one_more = omega arith;
      codes = λ x le less.
          cc (
            vector-at words _ c.index-words-known.result low,
            same x le less,
            vector-at words c.args.k
                c.index-words-k.result c.requires.there,
          );
    })
