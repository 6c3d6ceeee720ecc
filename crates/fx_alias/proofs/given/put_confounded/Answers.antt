use Rattle.std.proofs.Common.{◌≡◌, ◌++◌, ◌∙◌, List, ℕ, false, append_assoc, ap}
use Rattle.std.specs.Prelude.{codes}
use Rattle.std.proofs.lemmas.Bool.{ne_eqb}
use Rattle.fx_alias.specs.BlockWords.{block_words_of}
use Rattle.fx_alias.specs.Given.{block_words_text, confounded_line, or_no_words}
use Rattle.fx_alias.proofs.given.put_confounded.Goals as goal

grouped : (out front words end : List ℕ) → ((out ++ front) ++ words) ++ end ≡ out ++ (front ++ (words ++ end))
grouped out front words end = simp append_assoc

pub returns : goal.returns
returns c =
    let out = c.args.out.now in
    let front = codes "confounded with blocks" in
    let end = codes "\n" in
    let words : List ℕ → List ℕ = λ b. or_no_words (block_words_text 1 b) in
    let b = block_words_of c.args.matrix.now in
    let t = c.args.matrix.now.shape.t in
    let some =
    ne_eqb t 0 (λ e. c.if-shape-eq0.false (ap (λ z. z.t) c.shape.ensures.shape ∙ e)) in
    let line : front ++ (words b ++ end) ≡ confounded_line t b =
    cc in
    let all : c.put_words_or_none.new.out ++ end ≡ out ++ confounded_line t b =
    cc (
      c.in_ok-put_words_or_none.ensures,
      c.in_ok-put.ensures.ok,
      c.in_ok-words.ensures,
      grouped out front (words b)
          end,
    ) in
    rw all at c.put-2.ensures.ok
