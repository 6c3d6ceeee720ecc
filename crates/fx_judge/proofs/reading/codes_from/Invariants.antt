use Rattle.std.proofs.Common.{◌≡◌, ◌-◌, drop, take, map, true, length}
use Rattle.std.specs.Prelude.{unwrap_or, is_some}
use Rattle.std.specs.List.{list_all}
use Rattle.csv.specs.Records.{fields_of}
use Rattle.fx_designs.specs.Vectors.{IsVector}
use Rattle.fx_judge.specs.Reading.{value_code}
use Rattle.fx_judge.proofs.reading.codes_from.Given as goal

abbrev pub invariant-loop-i : goal.invariant-loop-i
invariant-loop-i l = record {
  passes : list_all (λ field. is_some (value_code l.q field)) (take l.i (drop l.first (fields_of l.row))) ≡ true;
  so_far : take l.i l.codes
      ≡ map (λ field. unwrap_or (value_code l.q field) 0) (take l.i (drop l.first (fields_of l.row)));
  vector : IsVector l.q (length (fields_of l.row) - l.first) l.codes;
}
