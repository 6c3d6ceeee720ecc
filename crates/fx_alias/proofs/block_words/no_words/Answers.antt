use Rattle.std.proofs.Common.{◌≡◌, ◌<◌, ◌∙◌, arith}
use Rattle.fx_laws.proofs.Tables.{is_order-field}
use Rattle.fx_alias.proofs.BlockEntries.{no_entry, words_more, words_whole}
use Rattle.fx_alias.proofs.block_words.no_words.Goals as goal

pub loop-i-preserved : goal.loop-i-preserved
loop-i-preserved c =
    let matrix = c.args.matrix.now in
    let i = c.loop-i._i in
    let s : c.shape-i-end.result.s ≡ matrix.shape.s = cc c.shape-i-end.ensures.shape in
    let low : i < matrix.shape.s = omega arith in
    cc (
      c.in_ok-push.ensures.ok,
      c.loop-i.invariant,
      no_entry matrix
          (is_order-field matrix.shape.q c.shape-i-end.ensures.valid.shaped.order) c.requires.complete c.requires.none i
          low,
      words_more matrix i low,
    )

pub returns : goal.returns
returns c =
    let s : c.shape-i-end.result.s ≡ c.args.matrix.now.shape.s =
    cc c.shape-i-end.ensures.shape in
    c.loop-i.invariant ∙ words_whole c.args.matrix.now c.loop-i._i (omega arith)
