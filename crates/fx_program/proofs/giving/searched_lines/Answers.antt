use Rattle.std.proofs.Common.{◌++◌, append_assoc, ap, subst, ◌∙◌}
use Rattle.fx_vectors.specs.Shape.{dimensions_of}
use Rattle.fx_statements.specs.Outcomes.{ending_in, HasMatrix}
use Rattle.fx_statements.specs.Questions.{conclusion_in}
use Rattle.fx_statements.specs.Steps.{Meaning, meaning_of}
use Rattle.fx_alias.specs.Folds.{fold_section}
use Rattle.fx_alias.specs.Heads.{head_lines}
use Rattle.fx_alias.specs.Rules.{rules_section}
use Rattle.fx_alias.specs.Sections.{examined}
use Rattle.fx_alias.specs.declared.marks.BlockMarks.TheVariants.{Without}
use Rattle.fx_program.specs.Files.{book_lines}
use Rattle.fx_program.proofs.Given.{all_lines, with_matrix, without_matrix}
use Rattle.fx_program.proofs.giving.searched_lines.Goals as goal

pub rules_listing-requires-clause-complete : goal.rules_listing-requires-clause-complete
rules_listing-requires-clause-complete c =
    (let design = c.requires.design c.in-Some.matrix c.in-Some.is in
    design.complete)

pub rules_listing-requires-clause-factors : goal.rules_listing-requires-clause-factors
rules_listing-requires-clause-factors c =
    (let design = c.requires.design c.in-Some.matrix c.in-Some.is in
    design.factors)

pub examine_listing-requires-clause-few : goal.examine_listing-requires-clause-few
examine_listing-requires-clause-few c =
    (let design = c.requires.design c.in-Some.matrix c.in-Some.is in design.few)

pub fold_listing-requires-clause-levels : goal.fold_listing-requires-clause-levels
fold_listing-requires-clause-levels c =
    (let design = c.requires.design c.in-Some.matrix c.in-Some.is in design.levels)

pub fold_listing-requires-clause-unblocked : goal.fold_listing-requires-clause-unblocked
fold_listing-requires-clause-unblocked c =
    (let design = c.requires.design c.in-Some.matrix c.in-Some.is in
    design.unblocked)

pub returns-in_ok-fold_listing-in-Some : goal.returns-in_ok-fold_listing-in-Some
returns-in_ok-fold_listing-in-Some c =
    let outcome = c.args.outcome.now in
    let step : Meaning = meaning_of c.args.step.now in
    let matrix = c.in-Some.matrix in
    let rows = rules_section (dimensions_of matrix.shape) step.factors matrix.rows in
    let books = book_lines c.args.number outcome.books in
    let fold = fold_section step matrix in
    let head = head_lines c.args.number step (conclusion_in outcome) in
    let there = subst (HasMatrix outcome.shape (ending_in outcome)) c.in-Some.is outcome.whole in
    c.in_ok-fold_listing-in-Some.ensures.ok
    ∙ ap (λ l. l ++ fold) c.in_ok-examine_listing-in-Some.ensures.ok
    ∙ ap (λ l. (l ++ examined Without step matrix) ++ fold) c.in_ok-put_book_lines-in-Some.ensures
    ∙ ap (λ l. ((l ++ books) ++ examined Without step matrix) ++ fold) c.in_ok-rules_listing-in-Some.ensures.ok
    ∙ append_assoc ((c.head_listing.new.out ++ rows) ++ books) (examined Without step matrix) fold
    ∙ append_assoc (c.head_listing.new.out ++ rows) books (examined Without step matrix ++ fold)
    ∙ append_assoc c.head_listing.new.out rows (books ++ (examined Without step matrix ++ fold))
    ∙ all_lines c.args.number step books (conclusion_in outcome) _ _
    (c.in_ok-head_listing.ensures.ok ∙ ap (λ l. l ++ head) c.new-lines.ensures)
    (with_matrix outcome.shape step books (ending_in outcome) matrix there)

pub returns-in_ok-put_book_lines-in-None : goal.returns-in_ok-put_book_lines-in-None
returns-in_ok-put_book_lines-in-None c =
    let outcome = c.args.outcome.now in
    let step : Meaning = meaning_of c.args.step.now in
    let books = book_lines c.args.number outcome.books in
    let head = head_lines c.args.number step (conclusion_in outcome) in
    let there = subst (HasMatrix outcome.shape (ending_in outcome)) c.in-None.is outcome.whole in
    c.in_ok-put_book_lines-in-None.ensures
    ∙ all_lines c.args.number step books (conclusion_in outcome) _ _
    (c.in_ok-head_listing.ensures.ok ∙ ap (λ l. l ++ head) c.new-lines.ensures)
    (without_matrix outcome.shape step books (ending_in outcome) there)
