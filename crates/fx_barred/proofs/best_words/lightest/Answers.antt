use Rattle.std.proofs.Common.{◌≡◌, ◌<◌, ◌^◌, ◌∙◌, ℕ, length, sym, arith}
use Rattle.std.specs.Prelude.{◌-◌, ◌/◌}
use Rattle.fx_designs.specs.Problems.{Dimensions}
use Rattle.fx_laws.proofs.Tables.{is_order-field}
use Rattle.fx_barred.specs.Reach.{reaches, greatest_word}
use Rattle.fx_barred.proofs.LightWords.{none-light, best-light}
use Rattle.fx_barred.proofs.best_words.lightest.Goals as goal

pub returns-then-reaches-clause-within : goal.returns-then-reaches-clause-within
returns-then-reaches-clause-within c =
    (omega arith, c.word-number.ensures.fits)

size-is : (d : Dimensions) (q m : ℕ) → d.q ≡ q → d.m ≡ m → d.q ^ d.m ≡ q ^ m
size-is d q m eq em = cc

pub returns-then-reaches-clause-best : goal.returns-then-reaches-clause-best
returns-then-reaches-clause-best c d r eq em all some half =
    let q = c.args.reached.now.q in
    let m = c.args.reached.now.m in
    let rows = c.args.reached.now.rows in
    let f =
    is_order-field d.q (rw (← eq) at c.q-known.ensures.known) in
    let size = size-is d q m eq em in
    let reach : (l : ℕ) → reaches d.q d.m rows (length rows) l c.args.x ≡ reaches q m rows (length rows) l c.args.x =
    λ l. cc in
    let word : greatest_word d.q d.m rows (length rows) c.loop-weight.weight c.args.x ≡ c.word-number.result =
    cc c.word-number.ensures.word in
    let low : c.args.x < d.q ^ d.m = omega arith in
    let below =
    rw (← size) at c.len-points.ensures.points in
    let met = reach c.loop-weight.weight ∙ sym c.reaches.ensures ∙ c.if-reaches.true in
    let best =
    best-light d f r rows below all some c.args.x low c.loop-weight.weight
    (omega arith) met (λ l less. reach l ∙ c.loop-weight.invariant l less) in
    rw word at best

pub returns-clause-best : goal.returns-clause-best
returns-clause-best c d r eq em all some half =
    let q = c.args.reached.now.q in
    let m = c.args.reached.now.m in
    let rows = c.args.reached.now.rows in
    let f =
    is_order-field d.q (rw (← eq) at c.q-known.ensures.known) in
    let size = size-is d q m eq em in
    let low : c.args.x < d.q ^ d.m = omega arith in
    let below =
    rw (← size) at c.len-points.ensures.points in
    let h = (r - 1) / 2 in
    let reach : reaches d.q d.m rows (length rows) h c.args.x ≡ reaches q m rows (length rows) h c.args.x =
    cc in
    none-light d f r rows below all some c.args.x low
    (cc (c.loop-weight.invariant h (omega arith)))
