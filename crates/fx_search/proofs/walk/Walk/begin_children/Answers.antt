use Rattle.std.proofs.Common.{sym, ◌∙◌}
use Rattle.fx_tree.specs.Search.{search_tree}
use Rattle.fx_vectors.specs.Question.{problem_of}
use Rattle.fx_search.proofs.LotSteps.{follow-at}
use Rattle.fx_search.proofs.Steps.{left-init}
use Rattle.fx_search.proofs.walk.Walk.begin_children.Goals as goal

pub returns-clause-all : goal.returns-clause-all
returns-clause-all g c =
    let question = c.args.self.now.question.now in
    let rows = c.args.self.now.prefix.rows in
    left-init (search_tree (problem_of question)) rows c.row_bound-self.result c.row_bound-self.ensures.most
    (λ x low up. sym
    (follow-at question c.requires.at.valid rows c.front.result x c.requires.canonical c.front.ensures.front_is) ∙
    c.row_bound-self.ensures.none x low up)
