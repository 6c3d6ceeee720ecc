use Rattle.std.proofs.Common.{ℕ, ◌≡◌, ◌<◌, ◌++◌, [], ◌∷◌, ◌&&◌, not, List, length, map, get_or, sym, ap}
use Rattle.std.proofs.Common.{ap₂, ◌∙◌, arith}
use Rattle.fx_designs.specs.Patterns.{is_less}
use Rattle.fx_strata.specs.Designs as designs
use Rattle.fx_strata.specs.Floors.{floor_at, floor, needs_none}
use Rattle.fx_table_book.specs.declared.order.Part.{Part}
use Rattle.fx_table_book.specs.declared.order.Part.TheVariants.{Constant}
use Rattle.fx_table_book.specs.Tables.{strata_of, parts_of}
use Rattle.fx_table_check.specs.Goals.{floor_of, needs_none_of}
use Rattle.fx_table_check.proofs.Values.{key-at, key-long, decided, undecided}
use Rattle.fx_table_check.proofs.prefix.Prefix.has_high_floor.Goals as goal
use Rattle.fx_table_check.proofs.prefix.Prefix.has_high_floor.Goals.{After-floor_at-floor}

abbrev least : After-floor_at-floor → designs.Part → ℕ
least c = floor_at (strata_of c.args.self.now.base) c.args.goal.now.none (c.args.self.now.rows ++ c.args.row ∷ [])

low : (c : After-floor_at-floor) → c.loop-i.i < length c.args.goal.now.parts
low c =
    let len =
    rw c.requires.beat at c.requires.goal.key in
    omega arith

-- the entry
made : (c : After-floor_at-floor)
    → c.floor_at-floor.result ≡ get_or (map (least c) (parts_of c.args.goal.now.parts)) c.loop-i.i 0
made c =
    c.floor_at-floor.ensures.floor
    ∙ ap (λ v. floor_of v.base c.args.goal.now.none (v.rows ++ c.args.row ∷ [])
    (get_or c.as_slice-parts.result.now c.loop-i.i (Constant 0))) c.loop-i.invariant.same
    ∙ ap (λ l. floor_of c.args.self.now.base c.args.goal.now.none
    (c.args.self.now.rows ++ c.args.row ∷ [])
    (get_or l c.loop-i.i (Constant 0))) c.as_slice-parts.ensures
    ∙ key-at c.args.goal.now.parts (least c) c.loop-i.i (Constant 0) (low c)

pub returns-then-floor-beat-clause-beat : goal.returns-then-floor-beat-clause-beat
returns-then-floor-beat-clause-beat c =
    let a = (goal.at.returns-then-floor-beat-clause-beat c).After-floor_at-floor in
    let x = strata_of c.args.self.now.base in
    let rows : List ℕ = c.args.self.now.rows ++ c.args.row ∷ [] in
    let order = parts_of c.args.goal.now.parts in
    let none : c.args.goal.now.none ≡ needs_none order c.args.beat.now =
    c.requires.goal.none ∙ ap (needs_none_of c.args.goal.now.parts) c.requires.beat in
    decided (map (least a) order) c.args.beat.now c.loop-i.i c.floor_at-floor.result
    (key-long c.args.goal.now.parts (least a) c.loop-i.i (low a)) c.loop-i-test.true (made a) c.loop-i.invariant.less
    c.if-floor-beat.true
    ∙ ap₂ (λ b n. b && not (is_less (floor x order n rows) c.args.beat.now)) (sym c.requires.units) none

pub loop-i-preserved : goal.loop-i-preserved
loop-i-preserved c =
    let a = (goal.at.loop-i-preserved c).After-floor_at-floor in record {
      same = c.floor_at-floor.ensures.same ∙ c.loop-i.invariant.same;
      less = undecided _ c.args.beat.now c.loop-i.i
          c.floor_at-floor.result
          (key-long c.args.goal.now.parts (least a) c.loop-i.i (low a)) c.loop-i-test.true (made a)
          c.loop-i.invariant.less c.if-floor-beat.false;
    }
