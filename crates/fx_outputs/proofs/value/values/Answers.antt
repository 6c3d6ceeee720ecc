use Rattle.std.proofs.Common.{◌≡◌, ◌∙◌, ◌<◌, ◌+◌, ◌++◌, ◌∷◌, [], ℕ, Bool, true, false, List, length, drop}
use Rattle.std.proofs.Common.{drop-cons, get_or, append_assoc, add-one, sym, ap}
use Rattle.std.proofs.lemmas.List.{drop_all, append-nil}
use Rattle.fx_language.specs.declared.symbol.Symbol.TheVariants.{Close, Minus}
use Rattle.fx_language.specs.Symbols.{is}
use Rattle.fx_text.specs.Written.{Written}
use Rattle.fx_outputs.specs.Values.{value_of, values_from}
use Rattle.fx_outputs.proofs.value.values.Goals as goal
use Rattle.fx_outputs.proofs.value.values.Goals.{then-is-2, else-is-2+in_ok-value+in_ok-push}

-- the values from the lexeme at index i on
module _ (signed : Bool) (items : List Written) (i : ℕ) (w : Written) (within : i < length items)
    (at : w ≡ get_or items i w) where
  here : drop i items ≡ w ∷ drop (i + 1) items
  here = rw add-one (cc (drop-cons items i w within))

  closed : is Close w.symbol ≡ true → values_from signed (drop i items) ≡ []
  closed end = rw (here, end)

  sign : is Close w.symbol ≡ false → is Minus w.symbol ≡ true
      → values_from signed (drop i items) ≡ values_from true (drop (i + 1) items)
  sign more minus = rw (here, more, minus)

  one_more : is Close w.symbol ≡ false → is Minus w.symbol ≡ false
      → values_from signed (drop i items) ≡ value_of signed w ∷ values_from false (drop (i + 1) items)
  one_more more plain = rw (here, more, plain)

pub loop-w-init : goal.loop-w-init
loop-w-init c = rw c.new-values.ensures (cc (c.lexemes-w-items.ensures, c.from.ensures))

pub returns-then-is : goal.returns-then-is
returns-then-is c =
    cc (
      c.loop-w.invariant,
      closed c.loop-w.signed c.lexemes-w-items.result.now c.loop-w.w-index c.w-item.result
          c.loop-w-test.true
          c.w-item.is (sym c.if-is.ensures),
      append-nil c.loop-w.values,
    )

pub loop-w-preserved : goal.loop-w-preserved
loop-w-preserved c =
    elim c.if-is-2.branch [
      | then-is-2 w ↦
          rw (w.values-is, w.signed-is)
          (cc (
            c.loop-w.invariant,
            sign c.loop-w.signed c.lexemes-w-items.result.now c.loop-w.w-index c.w-item.result
                c.loop-w-test.true
                c.w-item.is (sym c.if-is.ensures) (cc c.is-in-loop-w.ensures),
          ))
      | else-is-2+in_ok-value+in_ok-push w ↦
          rw (w.values-is, w.in_ok-push.ensures.ok, w.signed-is, w.in_ok-value.ensures, append_assoc)
          (cc (
            c.loop-w.invariant,
            one_more c.loop-w.signed c.lexemes-w-items.result.now c.loop-w.w-index
                c.w-item.result c.loop-w-test.true
                c.w-item.is (sym c.if-is.ensures) (cc c.is-in-loop-w.ensures),
          ))
    ]

pub returns : goal.returns
returns c =
    let values = c.loop-w.values in
    sym (c.loop-w.invariant
    ∙ ap (λ rest. values ++ values_from c.loop-w.signed rest)
    (drop_all c.loop-w.w-index c.lexemes-w-items.result.now c.loop-w-test.false)
    ∙ append-nil values)
