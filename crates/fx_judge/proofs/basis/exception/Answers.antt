use Rattle.std.proofs.Common.{ℕ, ◌≡◌, ◌<◌, [], ◌∙◌, List, Bool, eqb, length, get_or, sym, ap, arith, rules}
use Rattle.std.proofs.lemmas.Bool.{and_from, eq-eqb}
use Rattle.std.proofs.lemmas.List.{take_all, get_or_read}
use Rattle.std.proofs.lemmas.List.Folds.{list_all_more}
use Rattle.fx_designs.specs.Vectors.{dot}
use Rattle.fx_judge.proofs.basis.exception.Goals as goal

pub returns-then-dot-code : goal.returns-then-dot-code
returns-then-dot-code c =
    let D = c.args.differences.now in
    let low : c.loop-k.k < length D = omega arith in
    let row =
    get_or_read D c.loop-k.k c.get-d.result.now low c.get-d.ensures [] in
    record {
      there = low;
      apart = λ e. c.if-dot-code.true
          (c.dot.ensures.product ∙ ap (dot c.args.field c.args.u.now) row ∙ e ∙ sym
          (ap (λ d. get_or d c.args.i 0) row) ∙ sym c.code.ensures);
    }

pub loop-k-preserved : goal.loop-k-preserved
loop-k-preserved c =
    let D = c.args.differences.now in
    let p : List ℕ → Bool = λ d. eqb (dot c.args.field c.args.u.now d) (get_or d c.args.i 0) in
    let low : c.loop-k.k < length D = omega arith in
    let row =
    get_or_read D c.loop-k.k c.get-d.result.now low c.get-d.ensures [] in
    let same : c.dot.result ≡ c.code.result = search rules in
    list_all_more p D c.loop-k.k [] low
    ∙ and_from _ (p (get_or D c.loop-k.k [])) c.loop-k.invariant
    (eq-eqb _ _
    (cc (c.dot.ensures.product, c.code.ensures)))

pub returns : goal.returns
returns c =
    cc (take_all c.loop-k.k c.args.differences.now (omega arith), c.loop-k.invariant)
