-- Stars are numbers of 64 bits.
use Rattle.std.proofs.Common.{◌≡◌, ◌<◌, ◌^◌, ◌++◌, ◌∷◌, [], List, sym, subst}
use Rattle.fx_base.proofs.Lists.{each-append}
use Rattle.fx_vectors.specs.declared.effect.Effect.{Effect}
use Rattle.fx_vectors.specs.Effects.{numbers_of}
use Rattle.fx_demands.specs.Bars.{AreNumbers}
use Rattle.fx_demands.proofs.Merging.{numbers-push}

pub pushed : (all new : List Effect) (e : Effect) → AreNumbers (numbers_of all) → e.0 < 2 ^ 64 → new ≡ all ++ e ∷ []
    → AreNumbers (numbers_of new)
pushed all new e numbers small is =
    subst AreNumbers (sym (numbers-push all new e is))
    (each-append _ _ (e.0 ∷ []) numbers (small, tt))
