use Rattle.std.proofs.Common.{◌≡◌, ◌<◌, ◌-◌, ◌++◌, ◌∷◌, [], ℕ, List, length, slice_index, true, ap}
use Rattle.std.proofs.Common.{◌∙◌, arith}
use Rattle.std.proofs.lemmas.List.{length-take-le}
use Rattle.fx_designs.specs.Nodes.{parent, last_row}
use Rattle.fx_tree.specs.Search.{search_tree}
use Rattle.fx_vectors.specs.declared.question.Question.{Question}
use Rattle.fx_vectors.specs.Question.{IsValid, problem_of}
use Rattle.fx_search.proofs.Begins.{split-last}
use Rattle.fx_search.proofs.Valid.{law_of}
use Rattle.fx_search.proofs.walk.Walk.walk_part.Goals as goal

-- the parent of a canonical prefix is canonical
parent-canonical : (question : Question) (valid : IsValid question) (j : List ℕ) → 0 < length j
    → (search_tree (problem_of question)).canonical j ≡ true
    → (search_tree (problem_of question)).canonical (parent j) ≡ true
parent-canonical question valid j some can =
    (law_of question valid).canonical (parent j) (last_row j)
    (ap (search_tree (problem_of question)).canonical (split-last j some) ∙ can)

pub front-front-requires-clause-canonical : goal.front-front-requires-clause-canonical
front-front-requires-clause-canonical g c =
    let v = c.go_to_parent.new.self in
    let there = c.in_ok-go_to_parent.ensures in
    rw (there.at.question_is, there.rows)
    (parent-canonical c.args.self.now.question.now c.requires.at.valid c.args.part.now.rows c.requires.part.some
    c.requires.part.canonical)

-- the rows of a walk at the parent of a prefix, with the last row of that
whole : (rows j : List ℕ) (row n : ℕ) → 0 < length j → rows ≡ parent j → row ≡ slice_index j (n - 1) → n ≡ length j
    → rows ++ row ∷ [] ≡ j
whole rows j row n some is last count =
    cc (split-last j some)

pub walk_child-requires-clause-child : goal.walk_child-requires-clause-child
walk_child-requires-clause-child g c =
    let v = c.go_to_parent.new.self in
    let j = c.args.part.now.rows in
    let h = c.requires.part in
    let there = c.in_ok-go_to_parent.ensures in
    let rows = there.rows in
    rw there.at.question_is
    (record {
      part = omega (arith, ap length rows, length-take-le (length j - 1) j (omega arith));
      below = rw h.shape at c.row-row.ensures.below;
      canonical = rw (whole v.prefix.rows j c.row-row.result c.len.result h.some rows c.row-row.ensures.row
          c.len.ensures.count) h.canonical;
    })

pub walk_child-requires-clause-best : goal.walk_child-requires-clause-best
walk_child-requires-clause-best g c =
    let question = c.args.self.now.question.now in
    let v = c.go_to_parent.new.self in
    let j = c.args.part.now.rows in
    let there = c.in_ok-go_to_parent.ensures in
    let is = whole v.prefix.rows j c.row-row.result c.len.result c.requires.part.some there.rows c.row-row.ensures.row
    c.len.ensures.count
    in
    rw (there.at.question_is, is, there.best) c.requires.best

pub walk_child-requires-clause-inside : goal.walk_child-requires-clause-inside
walk_child-requires-clause-inside g c =
    let question = c.args.self.now.question.now in
    let v = c.go_to_parent.new.self in
    let j = c.args.part.now.rows in
    let there = c.in_ok-go_to_parent.ensures in
    let rows = there.rows in
    rw there.at.question_is
    (λ e. omega (arith, c.requires.inside e, ap length rows, length-take-le (length j - 1) j (omega arith)))

pub returns-clause-ended : goal.returns-clause-ended
returns-clause-ended g c =
    let question = c.args.self.now.question.now in
    let v = c.go_to_parent.new.self in
    let u = c.walk_child.new.self in
    let j = c.args.part.now.rows in
    let there = c.in_ok-go_to_parent.ensures in
    let stopped = g.C.Cutter.stopped c.walk_child.new.cutter in
    let rows = there.rows in
    let is = whole v.prefix.rows j c.row-row.result c.len.result c.requires.part.some rows c.row-row.ensures.row
    c.len.ensures.count
    in
    rw (there.at.question_is, is, rows, c.new.ensures) at c.walk_child.ensures.ended
