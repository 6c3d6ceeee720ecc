use Rattle.std.proofs.Common.{◌+◌, arith}
use Rattle.std.proofs.lemmas.List.FromFn.{map-range_with_len_more}
use Rattle.fx_alias.specs.Rules.{block_name}
use Rattle.fx_alias.proofs.rules.block_names.Goals as goal

pub loop-j-preserved : goal.loop-j-preserved
loop-j-preserved c =
    cc (
      c.in_ok-push.ensures.ok,
      c.loop-j.invariant,
      c.in_ok-block_name.ensures,
      map-range_with_len_more block_name 1
          c.loop-j.j (c.loop-j.j + 1) (omega arith),
    )
