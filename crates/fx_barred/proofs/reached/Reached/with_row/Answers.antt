use Rattle.std.proofs.Common.{◌≡◌, ◌<◌, ◌+◌, ◌*◌, ◌∙◌, slice_index, sym, ap}
use Rattle.std.proofs.Common.{arith}
use Rattle.std.proofs.lemmas.List.{get_or_default}
use Rattle.fx_points.specs.Sums.{sum_of}
use Rattle.fx_points.proofs.Additions.{sum_multiple}
use Rattle.fx_laws.proofs.Tables.{is_order-field}
use Rattle.fx_barred.specs.Reach.{with_row}
use Rattle.fx_barred.proofs.Firsts.{with-none}
use Rattle.fx_barred.proofs.reached.Reached.with_row.Goals as goal

pub returns-then-c-eq0-clause-total : goal.returns-then-c-eq0-clause-total
returns-then-c-eq0-clause-total c =
    let s = c.self.inside in
    let f = is_order-field s.sums.q c.self.invariant.order in
    let low =
    rw (← c.self.view_is) at c.requires.point in
    rw (← c.self.view_is)
    (sym (ap (with_row s.sums.q s.sums.m s.rows.items c.args.j c.args.x) c.if-c-eq0.true ∙ with-none s.sums.q s.sums.m
    f
    s.rows.items c.args.j c.args.x low))

pub returns-clause-total : goal.returns-clause-total
returns-clause-total c =
    let s = c.self.inside in
    let code = c.args.c in
    let f = is_order-field s.sums.q c.self.invariant.order in
    let low =
    rw (← c.self.view_is) at c.requires.row in
    let code_low = rw (← c.self.view_is) at c.requires.code in
    let some : 0 < code = omega arith in
    let multiple : c.index.result.now ≡ sum_of s.sums.q code s.sums.m 0 (slice_index s.rows.items c.args.j) =
    cc (
      c.index.ensures,
      c.from.ensures,
      get_or_default s.multiples.items (9 * c.args.j + code) c.index.result.now 0
          (omega arith),
      c.self.invariant.multiples_are c.args.j low code some code_low,
    ) in
    rw (← c.self.view_is)
    (c.plus.ensures.total ∙ ap (sum_of s.sums.q 1 s.sums.m c.args.x) multiple ∙ sum_multiple s.sums.q s.sums.m
    code c.args.x (slice_index s.rows.items c.args.j) f)
