use Rattle.std.proofs.Common.{◌≡◌, ◌+◌, ◌||◌, ◌&&◌, ◌∙◌, ℕ, Bool, eqb, slice_index, sym, ap, arith}
use Rattle.std.specs.Prelude.{nat_lt}
use Rattle.std.specs.List.{list_any, range_with_len}
use Rattle.std.proofs.Math.Bool.{or_comm}
use Rattle.fx_laws.proofs.Tables.{is_order-field}
use Rattle.fx_demands.proofs.Digits.{sum_below}
use Rattle.fx_points.specs.Points.{has}
use Rattle.fx_points.specs.Sums.{sum_of}
use Rattle.fx_barred.proofs.Steps.{more_codes, zero_at}
use Rattle.fx_barred.proofs.reached.fill_first.Goals as goal

pub loop-c-preserved : goal.loop-c-preserved
loop-c-preserved c x low =
    let q = c.args.sums.now.q in
    let m = c.args.sums.now.m in
    let f = is_order-field q c.q-c-end.ensures.known in
    let h : ℕ → Bool =
    λ k. has c.args.zero.now (sum_of q 1 m x (slice_index c.args.multiples.now (c.args.first + k))) in
    let y = slice_index c.args.multiples.now (c.args.first + c.from.result) in
    more_codes h _ _ (has c.args.same.now x) c.loop-c.c
    (omega arith)
    (c.insert.ensures.added x (omega arith)
    ∙ or_comm (eqb x c.minus.result) (has c.loop-c.set x)
    ∙ ap (λ b. has c.loop-c.set x || b)
    (ap (eqb x) c.minus.ensures.negative ∙ zero_at q m f x y low
    ∙ sym (c.requires.zero (sum_of q 1 m x y) (sum_below q f 1 m x y)))
    ∙ ap (λ k. has c.loop-c.set x
    || has c.args.zero.now (sum_of q 1 m x (slice_index c.args.multiples.now (c.args.first + k)))) c.from.ensures)
    (c.loop-c.invariant x low)

pub returns : goal.returns
returns c x low =
    let ends : c.loop-c.c ≡ c.args.sums.now.q =
    omega arith in
    c.loop-c.invariant x low
    ∙ ap (λ n. has c.args.same.now x
    || list_any
    (λ k. nat_lt 0 k
    && has c.args.zero.now
    (sum_of c.args.sums.now.q 1 c.args.sums.now.m x (slice_index c.args.multiples.now (c.args.first + k))))
    (range_with_len 0 n)) ends
