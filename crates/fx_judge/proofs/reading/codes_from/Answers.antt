use Rattle.std.proofs.Common.{ℕ, ◌≡◌, ◌<◌, ◌+◌, ◌-◌, ◌++◌, ◌∷◌, [], ◌∙◌, List, Some, Bool, length, map, take}
use Rattle.std.proofs.Common.{drop, get_or, sym, ap, ap₂, arith}
use Rattle.std.specs.Prelude.{is_some, unwrap_or}
use Rattle.std.proofs.lemmas.Bool.{and_from}
use Rattle.std.proofs.lemmas.List.{get_or-drop, length-drop, map-append, take_more, take_more_set}
use Rattle.std.proofs.lemmas.List.Folds.{list_all_at, list_all_more}
use Rattle.csv.specs.Records.{fields_of}
use Rattle.fx_runs.proofs.Defaults.{length-default}
use Rattle.fx_judge.specs.Reading.{value_code}
use Rattle.fx_judge.proofs.reading.codes_from.Goals as goal

pub returns-in-None : goal.returns-in-None
returns-in-None c =
    let fields = fields_of c.args.row.now in
    list_all_at (λ field. is_some (value_code c.args.q field)) (drop c.args.first fields) c.loop-i.i []
    (omega (arith, length-drop c.args.first fields))
    (ap (λ x. is_some (value_code c.args.q x))
    (sym (c.field.ensures ∙ sym (get_or-drop c.args.first fields c.loop-i.i []))) ∙ ap is_some
    (sym c.in-None.ensures.code))

pub loop-i-preserved : goal.loop-i-preserved
loop-i-preserved c =
    let fields = fields_of c.args.row.now in
    let rest = drop c.args.first fields in
    let i = c.loop-i.i in
    let p : List ℕ → Bool = λ field. is_some (value_code c.args.q field) in
    let g : List ℕ → ℕ = λ field. unwrap_or (value_code c.args.q field) 0 in
    let low : i < length rest = omega (arith, length-drop c.args.first fields) in
    let at = c.field.ensures ∙ sym (get_or-drop c.args.first fields i []) in
    let told : Some c.in-Some.code ≡ value_code c.args.q (get_or rest i []) = cc c.in-Some.ensures.code in
    let room : i < length c.loop-i.codes =
    omega (arith, length-drop c.args.first fields) in
    record {
      passes = list_all_more p rest i [] low ∙ and_from _ _
          c.loop-i.invariant.passes (ap is_some (sym told));
      so_far =
          ap (take (i + 1)) c.set.ensures.codes ∙ take_more_set c.loop-i.codes i c.in-Some.code room
          ∙ ap₂ (λ a b. a ++ b ∷ []) c.loop-i.invariant.so_far
          (ap (λ o. unwrap_or o 0) told)
          ∙ sym (ap (map g) (take_more rest i [] low) ∙ map-append g (take i rest) (get_or rest i [] ∷ []));
      vector = c.set.ensures.vector c.args.q (length fields - c.args.first) c.loop-i.invariant.vector (omega (
        arith,
        c.in-Some.ensures.inside,
        ap length c.requires.values,
        length-default
            c.args.q,
      ));
    }
