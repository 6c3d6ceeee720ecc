use Rattle.std.proofs.Common.{◌≡◌, ◌^◌, arith}
use Rattle.fx_table_book.proofs.Bases.{power-low, power-few, power-some}
use Rattle.fx_table_book.proofs.base.Base.power.Goals as goal
use Rattle.fx_table_book.proofs.base.Base.power.Goals.{After-pow}

pub pow-requires : goal.pow-requires
pow-requires c =
    rw (c.from.ensures, c.from-2.ensures)
    (omega (arith, power-low c.args.self c.requires.base c.args.place c.requires.place))

is : (c : After-pow) → c.pow.result ≡ c.args.self.q ^ c.args.place
is c = cc (c.pow.ensures, c.from.ensures, c.from-2.ensures)

pub returns-clause-power : goal.returns-clause-power
returns-clause-power c = is (goal.at.returns-clause-power c).After-pow

pub returns-clause-some : goal.returns-clause-some
returns-clause-some c =
    omega (arith, is (goal.at.returns-clause-some c).After-pow, power-some c.args.self c.requires.base c.args.place)

pub returns-clause-few : goal.returns-clause-few
returns-clause-few c =
    omega (
      arith,
      is (goal.at.returns-clause-few c).After-pow,
      power-few c.args.self c.requires.base c.args.place
          c.requires.place,
    )
