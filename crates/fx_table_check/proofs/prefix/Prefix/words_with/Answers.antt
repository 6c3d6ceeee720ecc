use Rattle.std.proofs.Common.{◌≡◌, ◌≤◌, ◌+◌, ◌*◌, ◌^◌, ◌++◌, ℕ, [], ◌∷◌, Bool, true, false, length}
use Rattle.std.proofs.Common.{slice_index, refl, sym, ap, ap₂, ◌∙◌, arith}
use Rattle.fx_table_book.specs.Tables.{strata_of}
use Rattle.fx_table_check.specs.Counts.{confounded_at}
use Rattle.fx_table_check.specs.Prefixes.{PrefixView}
use Rattle.fx_designs.specs.Patterns.{pattern_of}
use Rattle.fx_strata.specs.Canonical.{words}
use Rattle.fx_vectors.specs.Shape as shapes
use Rattle.fx_table_check.proofs.Prefixes.{Extends, extends, constant, confounded-late, noted-of, most}
use Rattle.fx_table_check.proofs.prefix.Prefix.words_with.Goals as goal
use Rattle.fx_table_check.proofs.prefix.Prefix.words_with.Goals.{After-from-multiples, After-saturating_sub}

known : (c : After-from-multiples) → Extends c.self.inside.base c.self.inside.rows.rows c.args.row c.args.i
known c =
    extends c.self.inside.base _ c.args.self.now
    c.args.row c.args.i c.self.view_is refl c.self.invariant.valid c.self.inside.rows c.prefix.result.now refl
    c.self.invariant.shape c.prefix.ensures c.shape-known.ensures.valid c.requires.below c.requires.room
    c.requires.entry

-- of the prefix as it is kept
inner : (c : After-from-multiples) → Bool → ℕ
inner c b = words (strata_of c.self.inside.base) (c.self.inside.rows.rows ++ c.args.row ∷ []) b (c.args.i + 1)

outer : (c : After-from-multiples) (b : Bool) → inner c b
    ≡ words (strata_of c.args.self.now.base) (c.args.self.now.rows ++ c.args.row ∷ []) b (c.args.i + 1)
unfolding inner
outer c b =
    ap (λ v. words (strata_of v.base) (v.rows ++ c.args.row ∷ []) b (c.args.i + 1)) c.self.view_is

inner-most : (c : After-from-multiples) (b : Bool) → inner c b ≤ 2 ^ 120
unfolding inner
inner-most c b = most c.self.inside.base c.self.inside.rows.rows c.args.row c.args.i (known c) b _

first : (c : After-from-multiples) (value : ℕ)
    → value ≡ slice_index
    (pattern_of (shapes.dimensions_of c.self.inside.rows.shape) (c.self.inside.rows.rows ++ c.args.row ∷ [])) c.args.i
    → c.from-multiples.result * value ≡ inner c false
unfolding inner
first c value is =
    ap₂ (λ a b. a * b) c.from-multiples.ensures
    (is
    ∙ ap (λ s. slice_index (pattern_of (shapes.dimensions_of s) (c.self.inside.rows.rows ++ c.args.row ∷ []))
    c.args.i)
    c.self.invariant.shape)
    ∙ sym (constant c.self.inside.base c.self.inside.rows.rows c.args.row c.args.i (known c))

pub overflow_mul-result : goal.overflow_mul-result
overflow_mul-result c =
    omega (
      arith,
      first (goal.at.overflow_mul-result c).After-from-multiples c.words_with.result
          c.words_with.ensures.words,
      inner-most (goal.at.overflow_mul-result c).After-from-multiples false,
    )

pub returns-then-not-confounded-clause-words : goal.returns-then-not-confounded-clause-words
returns-then-not-confounded-clause-words c =
    let m = (goal.at.returns-then-not-confounded-clause-words c).After-from-multiples in
    cc (first m c.words_with.result c.words_with.ensures.words, outer m false, c.if-not-confounded.true)

pub returns-then-not-confounded-clause-fits : goal.returns-then-not-confounded-clause-fits
returns-then-not-confounded-clause-fits c =
    let m = (goal.at.returns-then-not-confounded-clause-fits c).After-from-multiples in
    omega (arith, first m c.words_with.result c.words_with.ensures.words, inner-most m false)

-- the confounded words, once all inside factors are there
abbrev Second : After-saturating_sub → Type 0
Second c = c.from-multiples.result * c.saturating_sub.result
    ≡ words (strata_of c.self.inside.base) (c.self.inside.rows.rows ++ c.args.row ∷ []) true (c.args.i + 1)

late : (c : After-saturating_sub) → c.self.inside.base.w ≤ length c.self.inside.rows.rows
late c =
    let len =
    ap (λ (v : PrefixView). length v.rows) c.self.view_is in
    omega arith

made : (c : After-saturating_sub) → Extends c.self.inside.base c.self.inside.rows.rows c.args.row c.args.i → Second c
made c k =
    let again : PrefixView = record { base = c.self-2.inside.base; rows = c.self-2.inside.rows.rows } in
    let all =
    c.confounded_with-all.ensures.words
    ∙ ap (λ v. confounded_at (strata_of v.base) (v.rows ++ c.args.row ∷ []) c.args.i)
    (sym c.self.view_is) in
    cc (
      c.from-multiples.ensures,
      c.saturating_sub.ensures,
      confounded-late c.self.inside.base c.self.inside.rows.rows
          c.args.row c.args.i k (late c)
          _ (noted-of again (record { base = c.self.inside.base; rows = c.self.inside.rows.rows })
          (c.self-2.view_is ∙ c.confounded_with-all.ensures.same ∙ sym c.self.view_is) c.self-2.inside.inside c.args.i
          c.self-2.invariant.inside k.at (late c)),
    )

pub overflow_mul-result-2 : goal.overflow_mul-result-2
overflow_mul-result-2 c =
    let m = (goal.at.overflow_mul-result-2 c).After-from-multiples in
    omega (
      arith,
      made (goal.at.overflow_mul-result-2 c).After-saturating_sub (known m),
      most c.self.inside.base
          c.self.inside.rows.rows c.args.row c.args.i (known m) true (c.args.i + 1),
    )

pub returns-clause-words : goal.returns-clause-words
returns-clause-words c =
    let m = (goal.at.returns-clause-words c).After-from-multiples in
    made (goal.at.returns-clause-words c).After-saturating_sub (known m)
    ∙ ap (λ v. words (strata_of v.base) (v.rows ++ c.args.row ∷ []) true (c.args.i + 1)) c.self.view_is
    ∙ ap (λ b. words (strata_of c.args.self.now.base) (c.args.self.now.rows ++ c.args.row ∷ []) b (c.args.i + 1))
    (sym c.if-not-confounded.false)

pub returns-clause-fits : goal.returns-clause-fits
returns-clause-fits c =
    let m = (goal.at.returns-clause-fits c).After-from-multiples in
    omega (
      arith,
      made (goal.at.returns-clause-fits c).After-saturating_sub (known m),
      most c.self.inside.base
          c.self.inside.rows.rows c.args.row c.args.i (known m) true (c.args.i + 1),
    )
