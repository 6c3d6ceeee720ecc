use Rattle.std.proofs.Common.{◌≡◌, ◌<◌, ◌≤◌, ◌+◌, ◌-◌, ◌*◌, ◌^◌, ◌∙◌, ℕ}
use Rattle.std.proofs.Common.{suc, ap₂, arith}
use Rattle.std.proofs.Math.Nat.{mul-le-mul_right, suc-mul}
use Rattle.fx_search.specs.Barred.{view_of}
use Rattle.fx_search.proofs.Kept.{said}
use Rattle.fx_search.proofs.barred.put_barred_by_words.Goals as goal

-- a table of n more fits
room-for : (a n t : ℕ) → a < t → a * n + n ≤ t * n
room-for a n t low =
    let up : suc a ≤ t = omega arith in
    let more = mul-le-mul_right n up in
    omega (arith, suc-mul a n)

pub fill_table-requires : goal.fill_table-requires
fill_table-requires c = record {
  known = c.requires.known;
  part = c.requires.part;
  blocks = c.requires.blocks;
  first = cc (c.len-len.ensures.count, c.from.ensures, c.size.ensures.points);
  before = c.requires.before;
}

pub points_with_words-requires : goal.points_with_words-requires
points_with_words-requires c =
    let k = c.requires.known in
    let n = c.args.rows.now.q ^ c.args.rows.now.m in
    record {
      there = rw (c.from.ensures ∙ c.size.ensures.points, c.fill_table.ensures.len, k.tables_len)
          (room-for _ n _ (omega arith));
    }

pub returns-clause-len : goal.returns-clause-len
returns-clause-len c = c.fill_table.ensures.len

pub returns-clause-best : goal.returns-clause-best
returns-clause-best c =
    let d = (view_of c.args.factors.now).problem in
    let first = ap₂ (λ a b. (a - c.args.s) * b) c.len-len.ensures.count (c.from.ensures ∙ c.size.ensures.points) in
    rw first at c.fill_table.ensures.best

pub returns-clause-within : goal.returns-clause-within
returns-clause-within c =
    let rows = c.args.rows.now in
    let first = ap₂ (λ a b. (a - c.args.s) * b) c.len-len.ensures.count (c.from.ensures ∙ c.size.ensures.points) in
    rw first at c.fill_table.ensures.within

pub returns-clause-kept : goal.returns-clause-kept
returns-clause-kept c = λ k low.
    let first = ap₂ (λ a b. (a - c.args.s) * b) c.len-len.ensures.count (c.from.ensures ∙ c.size.ensures.points) in
    c.fill_table.ensures.kept k (rw (← first) at low)

pub returns-clause-set : goal.returns-clause-set
returns-clause-set c x low =
    let p = (view_of c.args.factors.now).problem in
    let rows = c.args.rows.now.rows in
    let k = c.requires.known in
    let size : c.args.rows.now.q ^ c.args.rows.now.m ≡ p.dimensions.q ^ p.dimensions.m =
    cc in
    let there : x < p.dimensions.q ^ p.dimensions.m = omega arith in
    c.points_with_words.ensures x low
    ∙ said p.dimensions k.field p.requirement rows x
    _ k.asked k.points
    (omega arith) (omega arith) k.allowed there (c.fill_table.ensures.best x there)
