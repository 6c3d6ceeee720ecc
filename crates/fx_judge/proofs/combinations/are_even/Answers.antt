use Rattle.std.proofs.Common.{rules, ◌≡◌, ◌<◌, ◌≤◌, ◌^◌, length, arith}
use Rattle.fx_judge.specs.Bases.{rank}
use Rattle.fx_judge.proofs.Keys.{even_if_equal, equal_if_even}
use Rattle.fx_judge.proofs.combinations.are_even.Goals as goal

pub returns-in-Some : goal.returns-in-Some
returns-in-Some c =
    let q = c.args.field in
    let marks = c.args.basic.now.items in
    let D = c.args.differences.now in
    let is : c.in-Some.size ≡ q ^ rank marks =
    cc (c.in-Some.ensures.0, c.as_slice.ensures.value) in
    let few : c.in-Some.size ≤ length D = search rules in
    let some : 0 < c.in-Some.size = search rules in
    let tallied =
    rw c.as_slice-in-Some.ensures.value at c.tally.ensures in
    let first : 0 < q ^ rank marks = omega arith in
    let most : q ^ rank marks ≤ 4096 = omega arith in (
      λ t. even_if_equal q marks D c.tally.result first most tallied c.in-Some.size is (c.are_equal.ensures.0 t),
      λ e. c.are_equal.ensures.1 (equal_if_even q marks D c.tally.result first most tallied c.in-Some.size is e),
    )
