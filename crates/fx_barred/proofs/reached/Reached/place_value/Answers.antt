use Rattle.std.proofs.Common.{◌≡◌, ◌<◌, ◌≤◌, ◌+◌, ◌*◌, ◌^◌, suc, ap, arith}
use Rattle.std.proofs.lemmas.List.{get_or_default}
use Rattle.std.proofs.Math.Nat.{pow-succ', mul-le-mul_right}
use Rattle.fx_barred.specs.Reached.{ReachedView}
use Rattle.fx_barred.proofs.Tables.{power-fits}
use Rattle.fx_barred.proofs.reached.Reached.place_value.Goals as goal
use Rattle.fx_barred.proofs.reached.Reached.place_value.Goals.{After-index}
use Rattle.fx_vectors.specs.declared.shape.TheConstants.{MOST_FACTORS}

-- what is read, and how much room a code more takes
record Read (c : After-index) : Type 0 where
  pub value : c.index.result.now ≡ c.args.self.now.q ^ c.args.j
  pub next : c.args.code * c.args.self.now.q ^ c.args.j + c.args.self.now.q ^ c.args.j
      ≤ c.args.self.now.q ^ (c.args.j + 1)
  pub fits : c.args.self.now.q ^ (c.args.j + 1) < 2 ^ 128
  pub few : c.args.j < MOST_FACTORS

read : (c : After-index) → Read c
read c =
    let s = c.self.inside in
    let q = c.args.self.now.q in
    let j = c.args.j in
    let code = c.args.code in
    let same = ap (λ (v : ReachedView). v.q) c.self.view_is in
    let row =
    rw (← c.self.view_is) at c.requires.row in
    let low : suc code ≤ q = omega arith in
    let few : j < s.room = omega arith in
    let up = pow-succ' q j in
    let plus_one : j + 1 ≡ suc j = omega arith in
    let more = mul-le-mul_right (q ^ j) low in
    let spread : suc code * q ^ j ≡ code * q ^ j + q ^ j = grind arith in
    record {
      value = cc (
        c.index.ensures,
        get_or_default s.powers.items j c.index.result.now 0
            (omega arith),
        c.self.invariant.powers_are j (omega arith),
      );
      next = rw plus_one (omega arith);
      fits = rw plus_one (power-fits q (suc j) s.room (omega arith) (omega arith)
          (rw same at c.self.invariant.words_fit));
      few = omega arith;
    }

pub overflow_mul-result : goal.overflow_mul-result
overflow_mul-result c =
    let r = read ((goal.at.overflow_mul-result c).After-index) in
    let same : c.from.result * c.index.result.now ≡ c.args.code * c.args.self.now.q ^ c.args.j =
    cc c.from.ensures in
    omega arith

pub returns-clause-value : goal.returns-clause-value
returns-clause-value c = let r = read ((goal.at.returns-clause-value c).After-index) in
    cc c.from.ensures

pub returns-clause-next : goal.returns-clause-next
returns-clause-next c =
    let r = read ((goal.at.returns-clause-next c).After-index) in
    let same : c.from.result * c.index.result.now ≡ c.args.code * c.args.self.now.q ^ c.args.j =
    cc c.from.ensures in
    omega arith

pub returns-clause-fits : goal.returns-clause-fits
returns-clause-fits c = (read ((goal.at.returns-clause-fits c).After-index)).fits

pub returns-clause-rows : goal.returns-clause-rows
returns-clause-rows c = (read ((goal.at.returns-clause-rows c).After-index)).few
