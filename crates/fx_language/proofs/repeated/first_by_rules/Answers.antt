use Rattle.std.proofs.Common.{◌+◌, ◌∙◌, sym, arith, get_or, take, drop, reverse}
use Rattle.std.proofs.lemmas.List.{take_rest}
use Rattle.fx_language.specs.declared.symbol.Symbol.TheVariants.{Proc}
use Rattle.fx_language.proofs.Pass.{past_here, rule_is, repeated_here, repeated_later}
use Rattle.fx_language.proofs.repeated.first_by_rules.Goals as goal

pub returns-in-Some : goal.returns-in-Some
returns-in-Some c =
    let symbols = c.args.symbols.now in
    let follows = rw (take_rest symbols (c.loop-i.i + 1)) at c.begins_with-factex_follows.ensures in
    let rule = rw (c.loop-i.invariant.0, follows) at (sym c.in-Some.ensures) in
    cc (
      c.loop-i.invariant.1,
      repeated_here symbols c.loop-i.i (omega arith) c.in-Some.code
          (cc (rule_is (reverse (take c.loop-i.i symbols)) (drop (c.loop-i.i + 1) symbols) (get_or symbols c.loop-i.i Proc))),
    )

pub loop-i-preserved : goal.loop-i-preserved
loop-i-preserved c =
    let symbols = c.args.symbols.now in
    let follows = rw (take_rest symbols (c.loop-i.i + 1)) at c.begins_with-factex_follows.ensures in
    let rule = rw (c.loop-i.invariant.0, follows) at (sym c.in_default.ensures) in (
      cc (c.after-past.ensures.value, c.loop-i.invariant.0, past_here symbols c.loop-i.i (omega arith)),
      c.loop-i.invariant.1
          ∙ repeated_later symbols c.loop-i.i (omega arith)
          (cc (rule_is (reverse (take c.loop-i.i symbols)) (drop (c.loop-i.i + 1) symbols)
          (get_or symbols c.loop-i.i Proc))),
      omega arith,
    )
