use Rattle.std.proofs.Common.{ℕ, ◌≡◌, ◌+◌, Bool, suc, sym, ap, ◌∙◌, arith}
use Rattle.std.specs.Prelude.{count_by}
use Rattle.std.specs.List.{filter}
use Rattle.fx_designs.specs.Answers.{falling}
use Rattle.fx_strata.specs.Canonical.{is_later, dimensions_of}
use Rattle.fx_strata.specs.Stages.{stage_after}
use Rattle.fx_strata.specs.Floors.{is_spare}
use Rattle.fx_table_book.specs.Tables.{strata_of}
use Rattle.fx_table_check.proofs.UpToTwo.{later-spare, later-taking}
use Rattle.fx_table_check.proofs.prefix.Prefix.spare_count.Goals as goal
use Rattle.fx_table_check.proofs.prefix.Prefix.spare_count.Goals.{then-is_spare, else-is_spare}

pub loop-row-preserved : goal.loop-row-preserved
loop-row-preserved c =
    let x = strata_of c.args.self.now.base in
    let later : ℕ → Bool = λ r. is_later (dimensions_of x) (stage_after x c.args.self.now.rows).first_unit r in
    let spare = is_spare x c.args.none c.args.self.now.rows in
    let n = c.loop-row.row in
    let passes = sym c.is_later.ensures ∙ c.if-not-is_later.false in
    let next : suc n ≡ n + 1 = omega arith in
    let to = ap (λ k. count_by spare (filter later (falling k))) next in
    record {
      are = elim c.if-is_spare.branch [
        | then-is_spare w ↦
            let e = c.loop-row.invariant.are in
            let i = w.count-is in
            let all : c.if-is_spare.count ≡ count_by spare (filter later (falling (suc n))) =
            omega (arith, later-spare later spare n passes (cc c.is_spare.ensures)) in
            cc
        | else-is_spare w ↦
            cc (c.loop-row.invariant.are, later-taking later spare n passes (cc c.is_spare.ensures))
      ];
      few = elim c.if-is_spare.branch [
        | then-is_spare w ↦ omega arith
        | else-is_spare w ↦ omega arith
      ];
    }
