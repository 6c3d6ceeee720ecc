-- Where one sort of symbols may stand next, such a symbol leaves the next place, and any other one no text.
use Rattle.std.proofs.Common.{◌≡◌, Bool, true, false, cond, Some, None, refl}
use Rattle.std.specs.Prelude.{if◌then◌else◌}
use Rattle.fx_language.specs.Shapes.{Never, Empty, or_else, ◌▸◌}
use Rattle.fx_language.specs.declared.state.State.{State}
use Rattle.fx_language.specs.Continuations.{shape_at, shape_left}

pub one : (b : Bool) (next : State) → cond b Empty Never ▸ shape_at next ≡ shape_left (if b then Some next else None)
one true next = refl
one false next = refl

-- where others have a code of their own
pub one_or_fault : (b : Bool) (next : State)
    → or_else (cond b Empty Never) Never ▸ shape_at next ≡ shape_left (if b then Some next else None)
one_or_fault true next = refl
one_or_fault false next = refl

pub one_or_faults : (b : Bool) (next : State)
    → or_else (or_else (cond b Empty Never) Never) Never ▸ shape_at next ≡ shape_left (if b then Some next else None)
one_or_faults true next = refl
one_or_faults false next = refl
