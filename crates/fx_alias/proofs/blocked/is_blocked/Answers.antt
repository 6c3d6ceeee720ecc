use Rattle.std.proofs.Common.{◌≡◌, ◌∙◌, ◌&&◌, Bool, false, sym, ap}
use Rattle.std.specs.Prelude.{not}
use Rattle.std.proofs.lemmas.Bool.{ne_eqb}
use Rattle.fx_points.specs.Points.{has}
use Rattle.fx_alias.proofs.blocked.is_blocked.Goals as goal

not_constant : (constant blocked : Bool) → constant ≡ false → (not constant && blocked) ≡ blocked
not_constant constant blocked is = cc

pub returns-then-class_number-ne0 : goal.returns-then-class_number-ne0
returns-then-class_number-ne0 c =
    c.contains.ensures
    ∙ (ap (has c.args.span.now) c.factor_sum.ensures.sum
    ∙ (sym (c.requires.span.decides c.args.u.now c.requires.vector)
    ∙ sym (not_constant _ _
    (c.class_number.ensures.constant ∙ ne_eqb c.class_number.result 0 c.if-class_number-ne0.true))))
