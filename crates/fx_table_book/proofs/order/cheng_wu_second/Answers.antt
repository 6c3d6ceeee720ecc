use Rattle.std.proofs.Common.{◌-◌, ◌*◌, [], ◌∷◌, ◌++◌, true, false, ◌∙◌, ap, arith, List}
use Rattle.fx_strata.specs.Designs.{Words, Part}
use Rattle.fx_strata.specs.Orders.{compared}
use Rattle.fx_table_book.specs.Tables.{parts_of, strata_of}
use Rattle.fx_table_book.proofs.Turns.{turn_more, three}
use Rattle.fx_table_book.proofs.order.cheng_wu_second.Goals as goal

pub loop-k-preserved : goal.loop-k-preserved
loop-k-preserved c =
    let x = strata_of c.args.base in
    let old : List Part = parts_of c.loop-k.parts in
    record {
      from = omega arith;
      so_far =
          turn_more x [] old (parts_of c.put_confounded_of.new.parts)
          (λ k. Words false (2 * k - 2) ∷ Words false (2 * k - 1) ∷ Words true k ∷ []) c.loop-k.k _
          c.loop-k.invariant.from (omega arith) c.loop-k.invariant.so_far
          (c.in_ok-put_confounded_of.ensures
          ∙ ap (λ l. l ++ compared x (Words true c.loop-k.k ∷ []))
          (c.in_ok-put_constant_of-2.ensures
          ∙ ap (λ l. l ++ compared x (Words false (2 * c.loop-k.k - 1) ∷ []))
          c.in_ok-put_constant_of.ensures)
          ∙ three x old (Words false (2 * c.loop-k.k - 2)) (Words false (2 * c.loop-k.k - 1)) (Words true c.loop-k.k));
    }
