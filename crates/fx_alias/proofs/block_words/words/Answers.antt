use Rattle.std.proofs.Common.{◌≡◌, ◌∙◌, arith}
use Rattle.fx_alias.proofs.BlockEntries.{words_more, words_whole}
use Rattle.fx_alias.proofs.block_words.words.Goals as goal

pub loop-i-preserved : goal.loop-i-preserved
loop-i-preserved c =
    let matrix = c.args.matrix.now in
    let s : c.from-i-end.result ≡ matrix.shape.s =
    cc (c.from-i-end.ensures, c.shape.ensures.shape) in
    record {
      words = cc (
        c.in_ok-push.ensures.ok,
        c.loop-i.invariant.words,
        c.words_at.ensures.words,
        words_more matrix c.loop-i.i
            (omega arith),
      );
      same = c.words_at.ensures.same ∙ c.loop-i.invariant.same;
    }

pub returns : goal.returns
returns c =
    let s : c.from-i-end.result ≡ c.args.matrix.now.shape.s =
    cc (c.from-i-end.ensures, c.shape.ensures.shape) in
    c.loop-i.invariant.words ∙ words_whole c.args.matrix.now c.loop-i.i (omega arith)
