use Rattle.std.proofs.Common.{◌^◌, take}
use Rattle.fx_table_check.specs.Effects.{AreEffects, IsCapped}
use Rattle.fx_table_check.proofs.effects.Effects.of.Given as goal

abbrev pub invariant-loop-row : goal.invariant-loop-row
invariant-loop-row l = record {
  capped : IsCapped (l.fn.base.q ^ l.fn.base.m) l.effects;
  counted : AreEffects l.fn.base.q l.fn.base.m (take l.row-index l.rows) l.effects;
}
