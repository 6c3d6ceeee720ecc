use Rattle.std.proofs.Common.{◌≡◌, ◌+◌, ◌++◌, ◌∷◌, [], take, true, false, Err, sym, ap, ap₂, ◌∙◌}
use Rattle.std.specs.Prelude.{decimal, is_some}
use Rattle.std.proofs.lemmas.List.{append_assoc}
use Rattle.fx_text.specs.Names.{place_of}
use Rattle.fx_text.specs.Ranges.{stem}
use Rattle.fx_settings.specs.Factors.{known_at}
use Rattle.fx_text.proofs.Numbered.{one_more, all_taken}
use Rattle.fx_settings.proofs.Numbered.{known_here, not_here, none_left, behind}
use Rattle.fx_settings.proofs.factors.add_numbered.Goals as goal

pub returns-then-is_some-clause-known : goal.returns-then-is_some-clause-known
returns-then-is_some-clause-known c =
    let old = c.args.names.now in
    let s = stem c.args.first.now.text in
    let name : c.as_slice.result.now ≡ s ++ decimal (c.args.from + c.loop-i.i) =
    cc (c.as_slice.ensures, c.in_ok-name.ensures, c.stem.ensures, c.text.ensures) in
    let front : take c.len-known.result c.as_slice-in-loop-i.result.now ≡ old =
    ap₂ take c.loop-i.invariant.0 (c.as_slice-in-loop-i.ensures ∙ c.loop-i.invariant.1) ∙ behind old _ in
    let found : is_some (place_of (s ++ decimal (c.args.from + c.loop-i.i)) old) ≡ true =
    cc (c.place_of.ensures.place, c.if-is_some.ensures) in
    ap (known_at c.args.first.now)
    (c.loop-i.invariant.2 ∙ known_here s c.args.from c.args.count c.loop-i.i c.loop-i-test.true old found)
    ∙ ap Err (sym c.refused.ensures)

pub loop-i-preserved : goal.loop-i-preserved
loop-i-preserved c =
    let old = c.args.names.now in
    let s = stem c.args.first.now.text in
    let text : c.in_ok-name.name ≡ s ++ decimal (c.args.from + c.loop-i.i) =
    cc (c.in_ok-name.ensures, c.stem.ensures, c.text.ensures)
    in
    let name = c.as_slice.ensures ∙ text in
    let front : take c.len-known.result c.as_slice-in-loop-i.result.now ≡ old =
    ap₂ take c.loop-i.invariant.0 (c.as_slice-in-loop-i.ensures ∙ c.loop-i.invariant.1) ∙ behind old _ in
    let new : is_some (place_of (s ++ decimal (c.args.from + c.loop-i.i)) old) ≡ false =
    cc (c.place_of.ensures.place, c.if-is_some.ensures) in (
      c.loop-i.invariant.0,
      c.in_ok-push.ensures.ok
          ∙ ap₂ (λ l n. l ++ n ∷ []) c.loop-i.invariant.1 text
          ∙ append_assoc old _ _
          ∙ ap (λ l. old ++ l) (sym (one_more s c.args.from c.args.count c.loop-i.i c.loop-i-test.true)),
      c.loop-i.invariant.2 ∙ not_here s c.args.from c.args.count c.loop-i.i c.loop-i-test.true old new,
    )

pub returns-clause-added : goal.returns-clause-added
returns-clause-added c =
    cc (
      c.loop-i.invariant.1,
      all_taken (stem c.args.first.now.text) c.args.from c.args.count c.loop-i.i
          c.loop-i-test.false,
    )

pub returns-clause-new : goal.returns-clause-new
returns-clause-new c =
    c.loop-i.invariant.2 ∙ none_left (stem c.args.first.now.text) c.args.from c.args.count c.loop-i.i
    c.loop-i-test.false c.args.names.now
