use Rattle.std.proofs.Common.{◌≤◌, ◌+◌, length, sym, refl, ap, ◌∙◌, arith}
use Rattle.std.proofs.lemmas.List.{take_rest, length-drop}
use Rattle.fx_lexer.specs.Lexing.{in_front}
use Rattle.fx_lexer.proofs.NextItem.{item_read, in_front_twice, all_read}
use Rattle.fx_lexer.proofs.Spans.{each_of_text, in_order_of_text}
use Rattle.fx_lexer.proofs.lexing.lex.Goals as goal

pub loop-at-preserved : goal.loop-at-preserved
loop-at-preserved c =
    let text = c.args.text.now in
    let at = c.loop-at.at in
    let it = c.in-Ok.item in
    let is = rw (take_rest text at) at (sym c.in-Ok.ensures.value) in
    let inside = rw (take_rest text at, length-drop) at c.in-Ok.ensures.bound.1 in
    let fits : at + it.length ≤ length text = omega arith in (
      fits,
      c.place_at-place.ensures,
      c.loop-at.invariant.2
          ∙ ap (λ r. in_front c.loop-at.tokens r) (item_read text c.loop-at.start at it is c.in-Ok.ensures.bound.0 fits)
          ∙ in_front_twice c.loop-at.tokens _ _
          ∙ rw (c.in_ok-keep-in-Ok.ensures, c.loop-at.invariant.1, c.starts_after-start.ensures) refl,
    )

pub returns-clause-each : goal.returns-clause-each
returns-clause-each c =
    let text = c.args.text.now in
    let e = all_read text c.loop-at.start c.loop-at.at c.loop-at.tokens c.loop-at-test.false c.loop-at.invariant.2 in
    rw e at (each_of_text text)

pub returns-clause-order : goal.returns-clause-order
returns-clause-order c =
    let text = c.args.text.now in
    let e = all_read text c.loop-at.start c.loop-at.at c.loop-at.tokens c.loop-at-test.false c.loop-at.invariant.2 in
    rw e at (in_order_of_text text)
