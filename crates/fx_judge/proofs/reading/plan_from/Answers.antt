use Rattle.std.proofs.Common.{◌≡◌, ◌-◌, ◌∙◌, ◌&&◌, leb, [], length, map, drop, get_or, sym, subst}
use Rattle.std.proofs.Common.{arith, rules, true}
use Rattle.std.proofs.lemmas.Bool.{and_parts, leb-true, eqb-false}
use Rattle.std.proofs.lemmas.List.{length-map, length-drop, get_or-map}
use Rattle.std.proofs.lemmas.List.Elements.{All-weaker}
use Rattle.csv.specs.Records.{fields_of}
use Rattle.fx_designs.specs.Vectors.{IsVector}
use Rattle.fx_judge.specs.Plans.{component_total}
use Rattle.fx_judge.specs.Reading.{are_fit, codes_in}
use Rattle.fx_judge.proofs.Cutting.{none_short}
use Rattle.fx_judge.proofs.reading.plan_from.Goals as goal

pub new-requires : goal.new-requires
new-requires c =
    let q = c.q-q.result in
    let order = c.q-q.ensures.order in
    let all = map fields_of c.args.records.now in
    let head = get_or all 0 [] in
    let names = c.in-Ok.names in
    let told : c.are_names.result ≡ true = search rules in
    let parts =
    and_parts (leb 1 (length names)) (leb (length names) 40 && are_fit names)
    (cc (c.as_slice.ensures, c.are_names.ensures)) in
    let more = and_parts _ _ parts.1 in
    let count = length-map c.args.records.now fields_of in
    let behind = length-drop 1 all in
    let long : length c.in_ok-rows.rows ≡ length (drop 1 all) =
    cc (c.in_ok-rows.ensures.rows, length-map (drop 1 all) (codes_in q head)) in
    let empty =
    eqb-false _ 0 (sym c.is_empty.ensures ∙ c.if-is_empty.false) in
    let short = none_short q head 2 _ (omega arith) c.in_ok-rows.ensures.none in
    let first_is : fields_of c.index-records-0.result ≡ head =
    cc (
      c.index-records-0.is,
      get_or-map fields_of c.args.records.now 0 c.index-records-0.result [] (omega arith),
    ) in
    let wide : length names ≡ length head - c.unread-first.result =
    cc (c.in-Ok.ensures, length-drop c.unread-first.result (fields_of c.index-records-0.result)) in
    record {
      order = c.q-q.ensures.known;
      some_factors = leb-true 1 _ parts.0;
      factors = leb-true _ 40 more.0;
      some_rows = omega arith;
      few_rows = omega arith;
      each = All-weaker _
          (λ x. IsVector c.args.field (length names) x)
          (λ x h. subst (λ k. IsVector k (length names) x) order (subst (λ n. IsVector q n x) (sym wide) h))
          c.in_ok-rows.rows c.in_ok-rows.ensures.each;
      few_components =
          let n = c.len-2.ensures in
          let total : c.component_total.result ≡ component_total c.args.field (length names) =
          cc c.component_total.ensures in
          omega arith;
    }
