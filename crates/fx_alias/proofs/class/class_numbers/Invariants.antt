use Rattle.std.proofs.Common.{◌≡◌, ◌<◌, ◌^◌, All, map, take}
use Rattle.fx_alias.specs.ClassNumbers.{number_by}
use Rattle.fx_alias.proofs.class.class_numbers.Given as goal

abbrev pub invariant-loop-u : goal.invariant-loop-u
invariant-loop-u l = record {
  numbers : l.numbers ≡ map (number_by l.matrix) (take l.u-index l.components);
  below : All (λ z. z < l.matrix.shape.q ^ l.matrix.shape.m) l.numbers;
}
