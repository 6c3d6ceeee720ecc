use Rattle.std.proofs.Common.{rules, length, map, ap, arith}
use Rattle.fx_alias.specs.Blocked.{component_line}
use Rattle.fx_alias.proofs.Members.{next_kept}
use Rattle.fx_alias.proofs.blocked.put_lines.Goals as goal

pub loop-u-preserved : goal.loop-u-preserved
loop-u-preserved c =
    next_kept (component_line (map (λ n. n.now) c.args.names.now)) _
    c.args.components.now c.loop-u.u-index c.u-item.result
    c.args.out.now c.loop-u.out c.put_where_blocked.new.out
    (omega (arith, ap length c.as_slice-u-items.ensures)) (search rules) c.loop-u.invariant
    c.in_ok-put_where_blocked.ensures
