use Rattle.std.proofs.Common.{◌≡◌, ◌-◌, map, set, take}
use Rattle.std.specs.List.{flat_map, range_with_len}
use Rattle.fx_components.proofs.components.with_codes.Given as goal

abbrev pub invariant-loop-v : goal.invariant-loop-v
invariant-loop-v l =
    l.longer ≡ flat_map (λ v. map (λ c. set v l.i c) (range_with_len 1 (l.bound - 1))) (take l.v-index l.vectors)
