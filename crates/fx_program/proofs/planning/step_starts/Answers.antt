use Rattle.std.proofs.Common.{ℕ, ◌≡◌, ◌<◌, ◌≤◌, ◌+◌, ◌∷◌, ◌++◌, Bool, true, List, [], length, drop, append-nil, arith, ap, ap₂, sym, ◌∙◌}
use Rattle.std.specs.Prelude.{if◌then◌else◌}
use Rattle.std.proofs.Math.Numerals.{add-one}
use Rattle.std.proofs.Math.Seq.{drop-cons}
use Rattle.std.proofs.lemmas.List.{drop_all}
use Rattle.fx_lexer.specs.declared.token.Token.{Token}
use Rattle.fx_language.specs.declared.symbol.Symbol.{Symbol}
use Rattle.fx_program.specs.Planning.{procs_behind, procs_by, step_starts}
use Rattle.fx_program.proofs.Ruling.{count_symbols, one_token}
use Rattle.fx_program.proofs.planning.step_starts.Goals as goal

pub returns-in-Err-Fault : goal.returns-in-Err-Fault
unfolding step_starts
returns-in-Err-Fault c =
    let found = rw c.in-Err-Fault.field-0-is at c.in-Err-Fault.ensures.fault in
    c.new-starts.ensures ∙ ap (procs_by c.args.text.now) (sym found)

pub loop-i-preserved : goal.loop-i-preserved
loop-i-preserved c =
    let tokens = c.in-Ok.tokens in let symbols = c.in_ok-symbols.symbols in let i = c.loop-i.i in
    let low : i < length tokens = omega (arith, c.loop-i-test.true, c.len-i-end.ensures) in
    let few : i < length symbols =
    omega (arith, low, ap length c.in_ok-symbols.ensures, count_symbols c.args.text.now tokens) in
    let token : drop i tokens ≡ c.get.result ∷ drop (i + 1) tokens =
    rw (add-one i) (drop-cons tokens i c.get.result low)
    ∙ ap (λ (t : Token). t ∷ drop (i + 1) tokens) (sym c.get.ensures) in
    let symbol : drop i symbols ≡ c.get-symbol.result ∷ drop (i + 1) symbols =
    rw (add-one i) (drop-cons symbols i c.get-symbol.result few)
    ∙ ap (λ (s : Symbol). s ∷ drop (i + 1) symbols) (sym c.get-symbol.ensures) in
    ap₂ (λ (l : List ℕ) (b : Bool). l ++ procs_behind b (drop (i + 1) tokens) (drop (i + 1) symbols))
    (c.in_ok-push_where.ensures
    ∙ ap (λ (b : Bool). c.loop-i.starts ++ (if b then c.get.result.from ∷ [] else [])) c.begins_step.ensures)
    c.ends_statement-fresh.ensures
    ∙ one_token c.loop-i.fresh c.loop-i.starts tokens symbols i c.get.result c.get-symbol.result token symbol
    ∙ c.loop-i.invariant

pub returns : goal.returns
unfolding step_starts
returns c =
    let tokens = c.in-Ok.tokens in let symbols = c.in_ok-symbols.symbols in let i = c.loop-i.i in
    let high : length tokens ≤ i = omega (arith, c.loop-i-test.false, c.len-i-end.ensures) in
    sym (append-nil c.loop-i.starts)
    ∙ ap (λ (ts : List Token). c.loop-i.starts ++ procs_behind c.loop-i.fresh ts (drop i symbols))
    (sym (drop_all i tokens high))
    ∙ c.loop-i.invariant ∙ ap (procs_behind true tokens) c.in_ok-symbols.ensures
    ∙ ap (procs_by c.args.text.now) (sym c.in-Ok.ensures.tokens)
