use Rattle.std.proofs.Common.{◌≡◌, ◌∙◌, length, map, take, sym, ap, arith}
use Rattle.std.proofs.lemmas.List.{length-map, length-take}
use Rattle.csv.specs.Records.{fields_of}
use Rattle.fx_judge.specs.Reading.{first_fault, plan_in, csv_records}
use Rattle.fx_judge.proofs.Cutting.{first_cut, whole_cut, both_ok}
use Rattle.fx_judge.proofs.reading.read_text.Goals as goal
use Rattle.fx_judge.proofs.reading.read_text.Goals.{After-plan_from}

pub plan_from-requires : goal.plan_from-requires
plan_from-requires c =
    omega (
      arith,
      ap length c.in-Ok.ensures,
      length-map c.in-Ok.records.items
          fields_of,
      length-take 4098 (csv_records c.args.text.now),
      c.in-Ok.records.ok.0,
    )

front : (c : After-plan_from) → map fields_of c.as_slice.result.now ≡ take 4098 (csv_records c.args.text.now)
front c = cc (c.as_slice.ensures.value, c.in-Ok.ensures)

told : (c : After-plan_from)
    → first_fault c.args.field (map fields_of c.as_slice.result.now)
    ≡ first_fault c.args.field (csv_records c.args.text.now)
told c = cc (front c, first_cut c.args.field (csv_records c.args.text.now))

pub returns-clause-none : goal.returns-clause-none
returns-clause-none c =
    rw (told (goal.at.returns-clause-none c).After-plan_from) at c.plan_from.ensures.none

pub returns-clause-plan : goal.returns-clause-plan
returns-clause-plan c =
    both_ok _
    _ (λ plan. plan ≡ plan_in c.args.field (csv_records c.args.text.now))
    c.plan_from.result c.plan_from.ensures.none c.plan_from.ensures.plan
    (λ plan none is. cc (
      front (goal.at.returns-clause-plan c).After-plan_from,
      whole_cut c.args.field 4098 _ (omega arith)
          (sym (told (goal.at.returns-clause-plan c).After-plan_from) ∙ none),
    ))

pub returns-clause-refused : goal.returns-clause-refused
returns-clause-refused c =
    rw (told (goal.at.returns-clause-refused c).After-plan_from) at c.plan_from.ensures.refused
