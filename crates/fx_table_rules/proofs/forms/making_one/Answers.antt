use Rattle.std.proofs.Common.{◌≤◌, ◌^◌, arith}
use Rattle.std.proofs.Math.Nat.{one-le-pow}
use Rattle.fx_laws.proofs.Tables.{is_order-field}
use Rattle.fx_table_rules.proofs.forms.making_one.Goals as goal

pub returns-then-code-eq0 : goal.returns-then-code-eq0
returns-then-code-eq0 c =
    let f = is_order-field c.args.shape.q c.requires.order in
    let one : 1 ≤ c.args.shape.q ^ c.args.shape.m =
    one-le-pow c.args.shape.m c.args.shape.q (omega (arith, f.more_than_one)) in
    omega arith
