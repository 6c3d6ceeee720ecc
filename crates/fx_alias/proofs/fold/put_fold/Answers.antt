use Rattle.std.proofs.Common.{◌≡◌, ◌++◌, ◌∙◌, ℕ, List, [], length, map, append_assoc, arith, ap}
use Rattle.std.specs.Prelude.{codes}
use Rattle.std.proofs.lemmas.List.FromFn.{length-map-range_with_len}
use Rattle.fx_designs.specs.Vectors.{vectors_of}
use Rattle.fx_words.proofs.Levels.{length-vectors}
use Rattle.fx_foldover.specs.Foldovers.{combined_pattern}
use Rattle.fx_components.specs.Products.{product}
use Rattle.fx_alias.specs.Heads.{resolution_line}
use Rattle.fx_alias.specs.Patterns.{words_lines}
use Rattle.fx_alias.proofs.fold.put_fold.Goals as goal

-- a count for each factor
combined-length : (m : ℕ) (fold : List ℕ) (factors : List (List ℕ))
    → length (combined_pattern m fold factors) ≡ length factors
unfolding combined_pattern
combined-length m fold factors = length-map-range_with_len _ 1 _

grouped : (out front names line resolution words : List ℕ)
    → ((((out ++ front) ++ names) ++ line) ++ resolution) ++ words
    ≡ out ++ (front ++ (names ++ (line ++ (resolution ++ words))))
grouped out front names line resolution words = simp append_assoc

pub put_resolution_of-requires : goal.put_resolution_of-requires
put_resolution_of-requires c =
    let m = c.args.matrix.now.shape.m in
    let rows = c.args.matrix.now.rows in
    let len =
    ap length c.in_ok-pattern.ensures ∙ combined-length m c.args.folded.now (vectors_of 2 m rows) in
    let s : c.shape-shape.result.s ≡ c.args.matrix.now.shape.s = cc c.shape-shape.ensures.shape in
    omega (arith, length-vectors 2 m rows)

pub returns : goal.returns
returns c =
    let front = codes "foldover " in
    let line = codes "\n  " in
    let named = product c.args.factors.now c.args.folded.now in
    let resolution : List ℕ → List ℕ = λ a. resolution_line [] a in
    let words : List ℕ → List ℕ = λ a. words_lines (codes "B") 1 a in
    let pattern = c.in_ok-pattern.pattern in
    let names = c.in_ok-put_product.ensures
    ∙ ap (λ l. c.put.new.out ++ product l c.args.folded.now)
    (ap (map (λ n. n.now)) c.as_slice.ensures.value ∙ c.in_ok-names.ensures) in
    let all =
    ap (λ l. l ++ words pattern)
    (c.in_ok-put_resolution_of.ensures
    ∙ ap (λ l. l ++ resolution pattern)
    (c.in_ok-put-2.ensures.ok
    ∙ ap (λ l. l ++ line) (names ∙ ap (λ l. l ++ named) c.in_ok-put.ensures.ok)))
    ∙ grouped c.args.out.now front named line (resolution pattern) (words pattern)
    ∙ ap (λ a. c.args.out.now ++ (front ++ (named ++ (line ++ (resolution a ++ words a))))) c.in_ok-pattern.ensures in
    rw all at c.put_words.ensures
