use Rattle.std.proofs.Common.{◌≡◌, ◌≤◌, ◌+◌, ℕ, [], ◌∙◌, replicate, slice_index, arith}
use Rattle.std.proofs.lemmas.List.{get_or-replicate}
use Rattle.fx_words.specs.Tables.{AreOf}
use Rattle.fx_words.proofs.tally.Tally.new.Goals as goal
use Rattle.fx_words.specs.declared.tally.TheConstants.{WEIGHTS}

pub invariant_of-result : goal.invariant_of-result
invariant_of-result c =
    let s = c.args.shape in
    let made = replicate WEIGHTS (c.from.result + 1) in
    let full : (k : ℕ) → k ≤ s.s → slice_index made k ≡ s.s + 1 =
    λ k hk. cc (get_or-replicate WEIGHTS k (c.from.result + 1) 0 (omega arith), c.from.ensures)
    in
    let classes : AreOf s c.in_ok-classes.classes =
    record { levels = c.in_ok-classes.ensures.levels ∙ c.field.ensures; indexes = c.in_ok-classes.ensures.indexes }
    in
    let shape : c.new.result.shape ≡ s = cc c.new.ensures in
    let rows : c.new.result.rows ≡ [] = cc c.new.ensures in
    record {
      classes = rw shape classes;
      counts = rw rows (rw (← shape) at (c.in_ok-counts.ensures made (omega arith) full));
    }
