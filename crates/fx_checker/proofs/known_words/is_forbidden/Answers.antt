use Rattle.std.proofs.Common.{◌≡◌, ◌+◌, ◌∙◌, true, drop, sym, subst, ap, rules, arith}
use Rattle.fx_designs.specs.Vectors.{IsVector, is_zero}
use Rattle.fx_laws.proofs.Codes.{digits-vector}
use Rattle.fx_laws.proofs.Tables.{is_order-field}
use Rattle.fx_vectors.specs.Shape.{dimensions_of}
use Rattle.fx_vectors.specs.Question.{requirement_of}
use Rattle.fx_checker.specs.Books.{word_vector}
use Rattle.fx_checker.proofs.Listed.{some-front, told}
use Rattle.fx_checker.proofs.known_words.is_forbidden.Goals as goal
use Rattle.fx_checker.proofs.known_words.is_forbidden.Goals.{Then-is_zero_from}

-- the word is zero on the block factors
no-blocks : (c : Then-is_zero_from)
    → is_zero (drop c.args.forbidden.now.shape.s (word_vector (dimensions_of c.args.forbidden.now.shape) c.args.number))
    ≡ true
no-blocks c =
    cc (
      (c.from.ensures ∙ ap (λ z. z.s) c.shape-shape.ensures.shape),
      c.requires.word,
      c.is_zero_from.ensures,
      c.if-is_zero_from.true,
    )

pub is_listed-requires-clause-some : goal.is_listed-requires-clause-some
is_listed-requires-clause-some c =
    let d = dimensions_of c.args.forbidden.now.shape in
    rw c.shape-shape.ensures.shape
    (some-front d (is_order-field d.q c.requires.valid.shaped.order) c.args.number c.requires.some c.requires.below
    (no-blocks c))

pub returns-then-is_zero_from : goal.returns-then-is_zero_from
returns-then-is_zero_from c =
    let d = dimensions_of c.args.forbidden.now.shape in
    let f = is_order-field d.q c.requires.valid.shaped.order in
    let blocks = no-blocks ((goal.at.returns-then-is_zero_from c).Then-is_zero_from) in
    cc (
      told d f (requirement_of c.args.forbidden.now.demands) c.in-Some.numbers (search rules) c.args.number
          c.is_listed.result
          (some-front d f c.args.number c.requires.some c.requires.below blocks) blocks
          (rw c.shape-shape.ensures.shape at c.is_listed.ensures),
      c.requires.word,
    )

pub holds-requires : goal.holds-requires
holds-requires c =
    let d = dimensions_of c.args.forbidden.now.shape in
    let f = is_order-field d.q c.requires.valid.shaped.order in
    subst (IsVector d.q (d.s + d.t)) (sym c.requires.word)
    (digits-vector d.q (d.s + d.t) c.args.number (omega arith))
