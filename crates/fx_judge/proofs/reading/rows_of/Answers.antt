use Rattle.std.proofs.Common.{◌≡◌, ◌<◌, ◌+◌, ◌-◌, ◌++◌, ◌∷◌, [], ◌∙◌, length, map, drop, get_or, sym}
use Rattle.std.proofs.Common.{ap, arith, append_assoc}
use Rattle.std.proofs.lemmas.List.{get_or-map, length-map, drop_more}
use Rattle.std.proofs.lemmas.List.Elements.{All-push, All-same}
use Rattle.csv.specs.Records.{fields_of}
use Rattle.csv.proofs.ReadFacts.{on-ok}
use Rattle.fx_designs.specs.Vectors.{IsVector}
use Rattle.fx_judge.specs.Reading.{codes_in}
use Rattle.fx_judge.specs.Steps.{GoesOn}
use Rattle.fx_judge.proofs.reading.rows_of.Goals as goal
use Rattle.fx_judge.proofs.reading.rows_of.Goals.{After-codes_of}

head_is : (c : After-codes_of) → fields_of c.index-records-0.result ≡ get_or (map fields_of c.args.records.now) 0 []
head_is c =
    cc (c.index-records-0.is, get_or-map fields_of c.args.records.now 0 c.index-records-0.result [] c.requires.some)

row_is : (c : After-codes_of)
    → fields_of c.index-records-k.result ≡ get_or (map fields_of c.args.records.now) c.loop-k.k []
row_is c =
    cc (
      c.index-records-k.is,
      get_or-map fields_of c.args.records.now c.loop-k.k c.index-records-k.result [] (omega arith),
    )

pub returns-in-Err-clause-refused : goal.returns-in-Err-clause-refused
returns-in-Err-clause-refused c =
    let b = (goal.at.returns-in-Err-clause-refused c).After-codes_of in
    let q = c.args.q in
    let all = map fields_of c.args.records.now in
    let stop =
    rw (head_is b) at (rw (row_is b) at c.in-Err.ensures) in
    cc (
      c.loop-k.invariant.fault,
      drop_more all c.loop-k.k [] (omega (arith, length-map c.args.records.now fields_of)),
      stop.stops (drop (c.loop-k.k + 1) all),
    )

pub loop-k-preserved : goal.loop-k-preserved
loop-k-preserved c =
    let b = (goal.at.loop-k-preserved c).After-codes_of in
    let q = c.args.q in
    let all = map fields_of c.args.records.now in
    let head = get_or all 0 [] in
    let k = c.loop-k.k in
    let low : k < length all = omega (arith, length-map c.args.records.now fields_of) in
    let codes = c.in-Ok-codes_of.codes in
    let on : GoesOn q head (k + 1) (get_or all k []) codes =
    rw (head_is b) at (rw (row_is b) at c.in-Ok-codes_of.ensures) in
    let pushed =
    on-ok c.push.result (cc (c.is_err.ensures.value, c.if-is_err.false)) c.push.ensures.ok in
    let rest = drop_more all k [] low in
    record {
      from = omega arith;
      fault = cc (on.on (drop (k + 1) all), c.loop-k.invariant.fault);
      so_far =
          ap (λ l. l ++ map (codes_in q head) (drop (k + 1) all)) pushed
          ∙ append_assoc c.loop-k.rows (codes ∷ []) (map (codes_in q head) (drop (k + 1) all))
          ∙ ap (λ x. c.loop-k.rows ++ x ∷ map (codes_in q head) (drop (k + 1) all)) on.codes
          ∙ sym (ap (λ l. c.loop-k.rows ++ map (codes_in q head) l) rest)
          ∙ c.loop-k.invariant.so_far;
      each =
          All-same (λ x. IsVector q (length head - c.args.first) x) c.push.new.self _ pushed
          (All-push (λ x. IsVector q (length head - c.args.first) x) c.loop-k.rows codes c.loop-k.invariant.each
          (rw (← c.requires.unread) at on.vector));
    }
