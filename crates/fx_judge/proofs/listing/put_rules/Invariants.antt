use Rattle.std.proofs.Common.{◌≡◌, ◌++◌, map, take}
use Rattle.std.specs.List.{flat_map}
use Rattle.fx_judge.specs.Listing.{plan_rule_line}
use Rattle.fx_judge.proofs.listing.put_rules.Given as goal

abbrev pub invariant-loop-rule : goal.invariant-loop-rule
invariant-loop-rule l =
    l.out
    ≡ l.initial.out ++ flat_map (plan_rule_line (map (λ n. n.now) l.names)) (take l.rule-index l.rules)
