use Rattle.std.proofs.Common.{◌≡◌, ◌∙◌, ◌-◌, ◌++◌, ◌∷◌, [], ℕ, false, List, length, take, drop, get_or, sym, ap}
use Rattle.std.specs.Prelude.{◌==◌}
use Rattle.std.proofs.lemmas.List.{drop_all, take_rest, append-nil}
use Rattle.fx_outputs.specs.Values.{inside, unquoted}
use Rattle.fx_outputs.proofs.value.inside.Goals as goal

-- a text that is not empty begins with its quote
some_text : (text : List ℕ) → false ≡ (length text == 0)
    → inside text ≡ unquoted (get_or text 0 0) false (take (length text - 1) (drop 1 text))
some_text [] none = absurd (let e = none in cc)
some_text (quote ∷ rest) none = cc (take_rest (quote ∷ rest) 1)

pub loop-b-init : goal.loop-b-init
loop-b-init c = rw c.new-bytes.ensures (some_text c.args.text.now c.if-is_empty.ensures)

pub returns : goal.returns
returns c =
    let text = c.args.text.now in
    sym (c.loop-b.invariant
    ∙ ap (λ rest. c.loop-b.bytes ++ unquoted (get_or text 0 0) c.loop-b.met rest)
    (drop_all c.loop-b.b-index _ c.loop-b-test.false)
    ∙ append-nil c.loop-b.bytes)
