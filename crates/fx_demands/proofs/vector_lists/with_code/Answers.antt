use Rattle.std.proofs.Common.{◌≡◌, ◌<◌, ◌≤◌, ◌^◌, ◌*◌, ◌+◌, ◌++◌, [], ◌∷◌, ℕ, arith}
use Rattle.fx_designs.specs.Galois.{number, digits}
use Rattle.fx_designs.specs.Vectors.{IsVector}
use Rattle.fx_laws.proofs.Codes.{digits-number, number-below}
use Rattle.std.proofs.Math.Nat.{pow-le-pow_right}
use Rattle.fx_demands.proofs.EffectVectors.{number-push, push-vector}
use Rattle.fx_demands.proofs.vector_lists.with_code.Goals as goal
use Rattle.fx_demands.proofs.vector_lists.with_code.Goals.{After-from-2}

-- the number of one code less fits as well
shorter-fits : (q n : ℕ) → 0 < q → q ^ (n + 1) < 2 ^ 127 → q ^ n < 2 ^ 127
shorter-fits q n some fits =
    let less : q ^ n ≤ q ^ (n + 1) = pow-le-pow_right some (omega arith) in
    omega (arith, less, fits)

longer_vector : (c : After-from-2) → IsVector c.args.field (c.args.len + 1) (c.args.v.now ++ c.args.c ∷ [])
longer_vector c = push-vector c.args.field c.args.len c.args.v.now c.args.c c.requires.vector c.requires.code

-- the number of the longer vector
sum_is : (c : After-from-2)
    → c.number.result + c.from-2.result * c.pow-power.result ≡ number c.args.field (c.args.v.now ++ c.args.c ∷ [])
sum_is c =
    rw (c.number.ensures.number, c.from-2.ensures, c.pow-power.ensures, c.from.ensures, c.q.ensures.order)
    (cc (c.requires.vector.len, number-push c.args.field c.args.v.now c.args.c))

total_fits : (c : After-from-2) → c.number.result + c.from-2.result * c.pow-power.result < 2 ^ 127
total_fits c =
    let below = number-below c.args.field (c.args.len + 1) (c.args.v.now ++ c.args.c ∷ []) (longer_vector c) in
    let fits = c.requires.fits in
    let is = sum_is c in
    omega arith

pub pow-power-requires : goal.pow-power-requires
pow-power-requires c =
    let less =
    shorter-fits c.args.field c.args.len (omega arith)
    c.requires.fits in
    rw (c.from.ensures, c.q.ensures.order) (omega arith)

pub overflow_mul-from : goal.overflow_mul-from
overflow_mul-from c = let fits = total_fits (goal.at.overflow_mul-from c).After-from-2 in omega arith

pub overflow_add-number : goal.overflow_add-number
overflow_add-number c = let fits = total_fits (goal.at.overflow_add-number c).After-from-2 in omega arith

pub returns : goal.returns
returns c =
    let a = (goal.at.returns c).After-from-2 in
    cc (
      c.of_number.ensures.digits,
      sum_is a,
      digits-number c.args.field (c.args.len + 1) (c.args.v.now ++ c.args.c ∷ []) (longer_vector a),
    )
