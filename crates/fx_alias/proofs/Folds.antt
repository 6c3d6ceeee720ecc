-- A step without blocks.
use Rattle.std.proofs.Common.{◌≡◌, false, refl}
use Rattle.fx_settings.specs.Valid.{has_blocks}
use Rattle.fx_settings.specs.declared.settings.Blocks.{Blocks}
use Rattle.fx_settings.specs.declared.settings.Blocks.TheVariants as blocks

pub unblocked : (given : Blocks) → has_blocks given ≡ false → given ≡ blocks.Without
unblocked blocks.Without e = refl
unblocked (blocks.Factors t) e = cc e
unblocked (blocks.PerBlock k) e = cc e
unblocked blocks.Most e = cc e
