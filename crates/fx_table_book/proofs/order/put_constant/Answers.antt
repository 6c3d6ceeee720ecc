use Rattle.std.proofs.Common.{◌+◌, [], ◌∷◌, false, arith}
use Rattle.fx_strata.specs.Designs.{Words}
use Rattle.fx_table_book.specs.Tables.{parts_of, strata_of}
use Rattle.fx_table_book.proofs.Turns.{turn_more}
use Rattle.fx_table_book.proofs.order.put_constant.Goals as goal

pub loop-k-preserved : goal.loop-k-preserved
loop-k-preserved c =
    record {
      from = omega arith;
      so_far =
          turn_more (strata_of c.args.base) (parts_of c.args.parts.now) (parts_of c.loop-k.parts)
          (parts_of c.put_constant_of.new.parts) (λ k. Words false (c.args.more + k) ∷ []) c.loop-k.k _
          c.loop-k.invariant.from (omega arith)
          c.loop-k.invariant.so_far c.in_ok-put_constant_of.ensures;
    }
