use Rattle.std.proofs.Common.{◌≡◌, ◌+◌, ◌∷◌, List, [], Ok, Option, length, length-append, map, drop, slice_index, ap, subst, sym, ◌∙◌}
use Rattle.std.specs.Prelude.{IfSome}
use Rattle.fx_rules.specs.Parts.{IsWithin}
use Rattle.fx_rules.specs.declared.parts.Part.{Part}
use Rattle.fx_statements.specs.Steps.{meaning_of}
use Rattle.fx_program.specs.Planning.{RuledView, all_ruled, ruled, ruled_in}
use Rattle.fx_program.proofs.Ruling.{found_within, one_ruled}
use Rattle.fx_program.proofs.SoFar.{next_step}
use Rattle.fx_program.proofs.planning.all_ruled.Goals as goal

pub ruled_step-requires-clause-within : goal.ruled_step-requires-clause-within
ruled_step-requires-clause-within c =
    subst (λ (o : Option Part). IfSome o (IsWithin (length c.args.text.now))) (sym c.part_before.ensures)
    (found_within (length c.args.text.now) c.args.parts.now c.start_at-start.result c.requires.within)

pub loop-i-preserved : goal.loop-i-preserved
loop-i-preserved c =
    let text = c.args.text.now in let parts = c.args.parts.now in let starts = c.args.starts.now in
    let steps = c.args.steps.now in let i = c.loop-i.i in
    let step = meaning_of c.index-steps-i.result in
    let later = map meaning_of (drop (i + 1) steps) in
    let one = c.in_ok-ruled_step.field-0 in
    let next : map meaning_of (drop i steps) ≡ step ∷ later =
    next_step meaning_of steps i c.index-steps-i.result c.loop-i-test.true
    ∙ ap (λ s. meaning_of s ∷ later) (sym c.index-steps-i.is) in
    let is : ruled text parts (slice_index starts i) step ≡ Ok one =
    ap (λ n. ruled text parts n step) (sym c.start_at-start.ensures)
    ∙ ap (ruled_in text c.start_at-start.result step) (sym c.part_before.ensures) ∙ c.in_ok-ruled_step.ensures.ok in (
      ap length c.in_ok-push.ensures.ok ∙ length-append c.loop-i.all (one ∷ []) ∙ ap (λ n. n + 1) c.loop-i.invariant.0,
      ap (λ (done : List RuledView). all_ruled text parts starts done later) c.in_ok-push.ensures.ok
          ∙ sym (one_ruled text parts starts c.loop-i.all one step later i c.loop-i.invariant.0 is)
          ∙ ap (all_ruled text parts starts c.loop-i.all) (sym next) ∙ c.loop-i.invariant.1,
    )
