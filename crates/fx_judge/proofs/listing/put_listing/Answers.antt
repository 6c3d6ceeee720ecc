use Rattle.std.proofs.Common.{ℕ, ◌≡◌, ◌++◌, ◌∙◌, List, length, append_assoc}
use Rattle.std.specs.Prelude.{codes}
use Rattle.fx_components.specs.Lines.{or_none}
use Rattle.fx_judge.specs.Listing.{plan_size_line, kinship_lines, kinships, pair_lines, plan_listing, regular_lines}
use Rattle.fx_judge.specs.Listing.{runs_line}
use Rattle.fx_judge.specs.Rules.{regular_rules}
use Rattle.fx_judge.proofs.listing.put_listing.Goals as goal

-- six pieces, one after another
six : (old a b c d e f : List ℕ)
    → (((((old ++ a) ++ b) ++ c) ++ d) ++ e) ++ f ≡ old ++ (a ++ (b ++ (c ++ (d ++ (e ++ f)))))
six old a b c d e f =
    cc (
      append_assoc ((((old ++ a) ++ b) ++ c) ++ d) e f,
      append_assoc (((old ++ a) ++ b) ++ c) d (e ++ f),
      append_assoc ((old ++ a) ++ b) c (d ++ (e ++ f)),
      append_assoc (old ++ a) b (c ++ (d ++ (e ++ f))),
      append_assoc old a (b ++ (c ++ (d ++ (e ++ f)))),
    )

pub returns : goal.returns
returns c =
    let plan = c.args.plan.now in
    let out = c.args.out.now in
    let A = runs_line (length c.args.plan.now.rows) in
    let B = plan_size_line (length c.args.plan.now.names) c.args.plan.now.q in
    let C = regular_lines c.args.plan.now.names (regular_rules c.args.plan.now) in
    let D = kinship_lines (kinships c.args.plan.now) in
    let long : length c.names-2.result.now ≡ length c.args.plan.now.names =
    cc c.names-2.ensures.names in
    let a : c.put_runs.new.out ≡ out ++ A =
    cc (c.in_ok-put_runs.ensures, c.len.ensures.count) in
    let b : c.put_factors.new.out ≡ (out ++ A) ++ B =
    cc (c.in_ok-put_factors.ensures, c.q.ensures.order, c.field.ensures.field) in
    let e : c.put_regular.new.out ≡ ((out ++ A) ++ B) ++ C =
    cc c.in_ok-put_regular.ensures in
    let kinds =
    c.as_slice-3.ensures ∙ c.in_ok-pairs.ensures.kinds in
    let d : c.put_kinships.new.out ≡ (((out ++ A) ++ B) ++ C) ++ D =
    cc c.in_ok-put_kinships.ensures in
    let last : c.put.new.out ++ or_none c.as_slice-4.result.now ≡ out ++ plan_listing c.args.plan.now =
    cc (
      c.in_ok-put.ensures.ok,
      c.as_slice-4.ensures,
      c.in_ok-pairs.ensures.lines,
      six out A B C D
          (codes "not orthogonal\n") (or_none (pair_lines c.args.plan.now)),
    ) in
    rw last at c.put_or_none.ensures
