use Rattle.std.proofs.Common.{◌≡◌, ◌<◌, ◌+◌, ◌-◌, ◌^◌, ◌∙◌, None, length, take, length-set, arith}
use Rattle.std.proofs.lemmas.List.{get_or-set_other}
use Rattle.fx_barred.specs.BestWords.{IsBest, IsWithin, AreBest}
use Rattle.fx_barred.proofs.BestWords.{made-next}
use Rattle.fx_barred.proofs.best_words.fill_next.Goals as goal

pub best_with_last-requires-clause-within : goal.best_with_last-requires-clause-within
best_with_last-requires-clause-within c x low =
    rw (c.loop-x.invariant.kept (c.args.before + x) (omega arith)) (c.requires.within x low)

pub loop-x-preserved : goal.loop-x-preserved
loop-x-preserved c =
    let place = c.args.first + c.from.result in
    let v = c.best_with_last.result in
    let tables = c.loop-x.tables in
    let at : place ≡ c.args.first + c.loop-x.x = omega arith in
    let there : place < length tables =
    omega arith in
    record {
      len = length-set tables place v ∙ c.loop-x.invariant.len;
      kept = λ k low. get_or-set_other tables place k v None (λ e. omega arith) ∙ c.loop-x.invariant.kept
          k low;
      within = made-next (λ y o. IsWithin c.args.rows.now.q (length c.args.rows.now.rows) o) tables c.args.first
          c.loop-x.x place v at there c.best_with_last.ensures.within c.loop-x.invariant.within;
      best = λ d wanted eq em blocks old.
          (let size : d.q ^ d.m
          ≡ c.args.rows.now.q ^ c.args.rows.now.m = cc in
          let still : AreBest d wanted (take (length c.args.rows.now.rows - 1) c.args.rows.now.rows) c.args.before
          tables = λ y low.
          rw (c.loop-x.invariant.kept (c.args.before + y) (omega arith)) (old y low)
          in
          made-next (λ y o. IsBest d wanted c.args.rows.now.rows y o) tables c.args.first c.loop-x.x place v at there
          (c.best_with_last.ensures.best d wanted eq em blocks still)
          (c.loop-x.invariant.best d wanted eq em blocks old));
    }

pub returns-clause-best : goal.returns-clause-best
returns-clause-best c d wanted eq em blocks old x low =
    let size : d.q ^ d.m ≡ c.args.rows.now.q ^ c.args.rows.now.m =
    cc in
    c.loop-x.invariant.best d wanted eq em blocks old x
    (omega arith)
