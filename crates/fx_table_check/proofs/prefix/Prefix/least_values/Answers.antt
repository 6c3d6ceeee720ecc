use Rattle.std.proofs.Common.{suc, ◌≡◌, ◌+◌, ◌-◌, ℕ, ◌∷◌, Bool, true, map}
use Rattle.std.proofs.Common.{ap, ◌∙◌, arith}
use Rattle.fx_strata.specs.Canonical.{words}
use Rattle.fx_strata.specs.Floors.{new_words}
use Rattle.fx_table_book.specs.Tables.{strata_of}
use Rattle.fx_designs.specs.Answers.{falling}
use Rattle.std.specs.List.{filter}
use Rattle.std.proofs.lemmas.Bool.{cond-true}
use Rattle.fx_strata.specs.Canonical.{is_later, dimensions_of}
use Rattle.fx_strata.specs.Stages.{stage_after}
use Rattle.fx_table_book.proofs.Bases.{field}
use Rattle.fx_table_check.proofs.Values.{words-new}
use Rattle.fx_table_check.proofs.prefix.Prefix.least_values.Goals as goal
use Rattle.fx_table_check.proofs.prefix.Prefix.least_values.Goals.{After-words_with}

counted : (c : After-words_with) → c.words_with.result
    ≡ c.args.own
    + new_words (strata_of c.args.self.now.base) c.args.self.now.rows c.loop-row.row c.args.confounded (c.args.i + 1)
counted c =
    cc (
      c.words_with.ensures.words,
      c.loop-row.invariant.same,
      words-new (strata_of c.args.self.now.base)
          (field c.args.self.now.base c.base-known.ensures.valid)
          c.args.self.now.rows
          c.loop-row.row c.args.confounded (c.args.i + 1),
      c.requires.own,
    )

pub overflow_sub-new : goal.overflow_sub-new
overflow_sub-new c = omega (arith, counted (goal.at.overflow_sub-new c).After-words_with)

-- one row later
split : (test : ℕ → Bool) (new : ℕ → ℕ) (n : ℕ) → test n ≡ true
    → map new (filter test (falling (n + 1))) ≡ new n ∷ map new (filter test (falling n))
split test new n t =
    ap (λ k. map new (filter test (falling k))) (let e : n + 1 ≡ suc n = omega arith in e)
    ∙ ap (map new) (cond-true _ (n ∷ filter test (falling n)) (filter test (falling n)) t)

pub loop-row-preserved : goal.loop-row-preserved
loop-row-preserved c =
    let test : ℕ → Bool = λ r. is_later (dimensions_of (strata_of c.args.self.now.base))
    (stage_after (strata_of c.args.self.now.base) c.args.self.now.rows).first_unit r in
    let new : ℕ → ℕ =
    λ r. new_words (strata_of c.args.self.now.base) c.args.self.now.rows r c.args.confounded (c.args.i + 1) in
    let passes : test c.loop-row.row ≡ true =
    cc (c.loop-row.invariant.same, c.is_later.ensures, c.if-not-is_later.false) in
    let is : c.words_with.result - c.args.own ≡ new c.loop-row.row =
    omega (arith, counted (goal.at.loop-row-preserved c).After-words_with) in
    record {
      same = c.words_with.ensures.same ∙ c.loop-row.invariant.same;
      least = cc (
        c.put_among_least.ensures.least (map new (filter test (falling c.loop-row.row)))
            c.loop-row.invariant.least,
        split test new c.loop-row.row passes,
      );
    }
