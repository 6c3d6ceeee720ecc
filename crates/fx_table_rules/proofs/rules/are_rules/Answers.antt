use Rattle.std.proofs.Common.{ℕ, ◌≡◌, ◌≤◌, ◌+◌, ◌*◌, ◌^◌, ◌++◌, ◌∷◌, [], List, get_or, take, sym, subst, ap, ◌∙◌}
use Rattle.std.proofs.Common.{arith}
use Rattle.std.specs.Prelude.{if◌then◌else◌, ◌==◌}
use Rattle.std.proofs.lemmas.List.{take_more}
use Rattle.fx_tree.specs.Introduced.{introduced}
use Rattle.fx_rules.specs.Stepped.{IsStepped}
use Rattle.fx_rules.proofs.Stepping.{introduced_snoc}
use Rattle.fx_table_rules.proofs.Stepping.{next_unit}
use Rattle.fx_table_rules.proofs.rules.are_rules.Goals as goal
use Rattle.fx_rules.proofs.Kept.{stepped_snoc}

pub loop-i-preserved : goal.loop-i-preserved
loop-i-preserved c =
    let q : ℕ = c.shape-shape.result.q in
    let rows : List ℕ = c.args.matrix.now.rows in
    let i : ℕ = c.loop-i.i in
    let front : List ℕ = take i rows in
    let row : ℕ = get_or rows i 0 in
    let more : take (i + 1) rows ≡ front ++ row ∷ [] =
    take_more rows i 0 (let e = c.len-i-end.ensures.count in omega arith) in
    let here : c.row.result ≡ row = c.row.ensures.row in
    let here' : c.row-in-loop-i.result ≡ row = c.row-in-loop-i.ensures.row in
    let low : row ≤ q ^ introduced q 0 front = (let e = c.if-row-next.false in
    let n = c.loop-i.invariant.next in omega arith) in
    record {
      stepped = subst (IsStepped q 0) (sym more) (stepped_snoc q 0 front row c.loop-i.invariant.stepped low);
      next = c.next_unit-next.ensures
          ∙ ap (λ r. if r == c.loop-i.next then c.loop-i.next * q else c.loop-i.next) here'
          ∙ next_unit q (introduced q 0 front) row c.loop-i.next c.loop-i.invariant.next
          ∙ sym (ap (λ l. q ^ introduced q 0 l) more ∙ ap (λ (n : ℕ). q ^ n) (introduced_snoc q 0 front row));
    }
