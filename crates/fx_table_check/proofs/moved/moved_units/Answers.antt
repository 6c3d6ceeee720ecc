use Rattle.std.proofs.Common.{◌+◌, ◌^◌, refl, arith}
use Rattle.std.proofs.lemmas.List.{map_push}
use Rattle.std.proofs.lemmas.List.FromFn.{map-range_with_len_more}
use Rattle.fx_strata.specs.Changes.{moved}
use Rattle.fx_strata.specs.Canonical.{units, dimensions_of}
use Rattle.fx_vectors.proofs.Limits.{indexes_fit}
use Rattle.fx_table_book.specs.Tables.{strata_of}
use Rattle.fx_table_check.proofs.moved.moved_units.Goals as goal

pub push-requires : goal.push-requires
push-requires c =
    let few = indexes_fit _ c.requires.base.shaped in
    omega arith

pub loop-i-preserved : goal.loop-i-preserved
loop-i-preserved c =
    let g = moved (dimensions_of (strata_of c.args.base)) c.args.change.now in
    let q = c.args.base.q in
    record {
      images = cc (
        c.push.ensures.items,
        c.loop-i.invariant.images,
        c.moved_unit.ensures,
        map_push g
            (units q c.args.from c.loop-i.i) (q ^ (c.args.from + c.loop-i.i)),
        map-range_with_len_more (λ k. q ^ k)
            c.args.from c.loop-i.i (c.args.from + c.loop-i.i) refl,
      );
      len = omega arith;
    }
