use Rattle.std.proofs.Common.{◌≡◌, ◌≤◌, length, drop}
use Rattle.fx_settings.specs.Items.{items_behind}
use Rattle.fx_settings.specs.Factors.{all_added, names_of_factors}
use Rattle.fx_settings.proofs.factors.factors_of.Given as goal

abbrev pub invariant-loop-i : goal.invariant-loop-i
invariant-loop-i l =
    (length l.names ≤ l.limit)
    × (names_of_factors l.limit l.statement ≡ all_added l.limit l.names (items_behind (drop l.i l.lexemes)))
