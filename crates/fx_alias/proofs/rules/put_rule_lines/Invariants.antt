use Rattle.std.proofs.Common.{◌≡◌, ◌≤◌, [], ◌++◌, map, length, drop}
use Rattle.fx_alias.specs.Rules.{rule_lines, subjects}
use Rattle.fx_alias.proofs.rules.put_rule_lines.Given as goal

abbrev pub invariant-loop-k : goal.invariant-loop-k
invariant-loop-k l =
    let q = l.matrix.shape.q in
    let m = l.matrix.shape.m in
    let all = subjects l.factors l.blocks in
    record {
      lines : l.out ++ rule_lines q m (map (λ n. n.now) l.introduced.items) (drop l.k all) (drop l.k l.matrix.rows)
          ≡ l.initial.out ++ rule_lines q m [] all l.matrix.rows;
      few : length l.introduced.items ≤ m;
    }
