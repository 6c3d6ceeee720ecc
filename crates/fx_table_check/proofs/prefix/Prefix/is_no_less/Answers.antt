use Rattle.std.proofs.Common.{ℕ, ◌≡◌, ◌<◌, ◌++◌, [], ◌∷◌, length, map, get_or, ap, ◌∙◌, arith}
use Rattle.fx_strata.specs.Designs as designs
use Rattle.fx_strata.specs.Canonical.{figures}
use Rattle.fx_table_book.specs.declared.order.Part.TheVariants.{Constant}
use Rattle.fx_table_book.specs.Tables.{strata_of, parts_of}
use Rattle.fx_table_check.specs.Goals.{value_at}
use Rattle.fx_table_check.proofs.Values.{key-at, key-long, decided, undecided}
use Rattle.fx_table_check.proofs.prefix.Prefix.is_no_less.Goals as goal
use Rattle.fx_table_check.proofs.prefix.Prefix.is_no_less.Goals.{After-value_with-value}

abbrev worth : After-value_with-value → designs.Part → ℕ
worth c = designs.part_of (figures (strata_of c.args.self.now.base) (c.args.self.now.rows ++ c.args.row ∷ []))

low : (c : After-value_with-value) → c.loop-i.i < length c.args.parts.now
low c = omega arith

-- the entry
made : (c : After-value_with-value)
    → c.value_with-value.result ≡ get_or (map (worth c) (parts_of c.args.parts.now)) c.loop-i.i 0
made c =
    c.value_with-value.ensures.value
    ∙ ap (λ v. value_at v.base (v.rows ++ c.args.row ∷ [])
    (get_or c.args.parts.now c.loop-i.i (Constant 0)))
    c.loop-i.invariant.same
    ∙ key-at c.args.parts.now (worth c) c.loop-i.i (Constant 0) (low c)

pub returns-then-value-beat-clause-beat : goal.returns-then-value-beat-clause-beat
returns-then-value-beat-clause-beat c =
    let a = (goal.at.returns-then-value-beat-clause-beat c).After-value_with-value in
    decided _ c.args.beat.now c.loop-i.i c.value_with-value.result
    (key-long c.args.parts.now (worth a) c.loop-i.i (low a)) c.loop-i-test.true (made a) c.loop-i.invariant.less
    c.if-value-beat.true

pub loop-i-preserved : goal.loop-i-preserved
loop-i-preserved c =
    let a = (goal.at.loop-i-preserved c).After-value_with-value in record {
      same = c.value_with-value.ensures.same ∙ c.loop-i.invariant.same;
      less = undecided _ c.args.beat.now c.loop-i.i c.value_with-value.result
          (key-long c.args.parts.now (worth a) c.loop-i.i (low a)) c.loop-i-test.true (made a) c.loop-i.invariant.less
          c.if-value-beat.false;
    }
