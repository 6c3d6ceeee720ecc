use Rattle.std.proofs.Common.{◌≡◌, ◌++◌, ◌∙◌, List, ℕ, [], length, append_assoc, ap, ap₂}
use Rattle.std.specs.Prelude.{codes}
use Rattle.fx_designs.specs.Patterns.{pattern_of}
use Rattle.fx_runs.specs.Runs.{design_of}
use Rattle.fx_statements.specs.Steps.{meaning_of}
use Rattle.fx_vectors.specs.Shape.{dimensions_of}
use Rattle.fx_alias.specs.BlockWords.{block_words_of}
use Rattle.fx_alias.specs.Given.{clear_line, confounded_line, given_head, met_line}
use Rattle.fx_alias.specs.Heads.{design_line, heading, resolution_line}
use Rattle.fx_alias.proofs.given.given_listing.Goals as goal

grouped : (head design resolution met clear confounded : List ℕ)
    → ((((head ++ design) ++ resolution) ++ met) ++ clear) ++ confounded
    ≡ head ++ (design ++ (resolution ++ (met ++ (clear ++ confounded))))
grouped head design resolution met clear confounded = simp append_assoc

pub returns-clause-ok : goal.returns-clause-ok
unfolding given_head
returns-clause-ok c =
    let matrix = c.args.matrix.now in
    let head = heading c.args.number (length c.args.step.now.factors) matrix.shape.q in
    let design = design_line (codes " given") (dimensions_of matrix.shape) in
    let resolution = resolution_line [] (pattern_of (dimensions_of matrix.shape) matrix.rows) in
    let met = met_line c.args.met in
    let clear = clear_line (design_of matrix) in
    let confounded = confounded_line matrix.shape.t (block_words_of matrix) in
    let first =
    c.in_ok-put_heading.ensures
    ∙ ap (λ l. l ++ heading c.args.number c.len.result c.shape.result.q) c.new-lines.ensures
    ∙ ap₂ (λ n z. heading c.args.number n z.q) c.len.ensures c.shape.ensures.shape in
    let second : c.put_design.new.out ≡ head ++ design =
    cc (c.in_ok-put_design.ensures, c.shape-2.ensures.shape) in
    let third : c.put_met.new.out ≡ ((head ++ design) ++ resolution) ++ met =
    cc (c.in_ok-put_met.ensures, c.in_ok-put_resolution.ensures) in
    let all : c.as_slice.result.now ≡ given_head c.args.number (meaning_of c.args.step.now) matrix c.args.met =
    cc (
      c.as_slice.ensures,
      c.in_ok-put_confounded.ensures,
      c.in_ok-put_clear.ensures,
      grouped head design resolution
          met clear confounded,
    ) in
    rw all at c.put.ensures.ok
