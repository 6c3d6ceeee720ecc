use Rattle.std.proofs.Common.{◌≡◌, ◌<◌, ◌+◌, ◌^◌, ◌∙◌, None, length, length-set, arith}
use Rattle.std.proofs.lemmas.List.{get_or-set_other}
use Rattle.fx_designs.specs.Problems.{AtResolution}
use Rattle.fx_barred.specs.BestWords.{IsBest, IsWithin}
use Rattle.fx_barred.proofs.BestWords.{made-next}
use Rattle.fx_barred.proofs.best_words.fill_light.Goals as goal

pub loop-x-preserved : goal.loop-x-preserved
loop-x-preserved c =
    let place = c.args.first + c.from.result in
    let v = c.lightest.result in
    let tables = c.loop-x.tables in
    let at : place ≡ c.args.first + c.loop-x.x = omega arith in
    let there : place < length tables =
    omega arith in
    record {
      len = length-set tables place v ∙ c.loop-x.invariant.len;
      kept = λ k low. get_or-set_other tables place k v None (λ e. omega arith) ∙ c.loop-x.invariant.kept
          k low;
      within = made-next (λ y o. IsWithin c.args.reached.now.q (length c.args.reached.now.rows) o) tables c.args.first
          c.loop-x.x place v at there c.lightest.ensures.within c.loop-x.invariant.within;
      best = λ d r eq em rows some half.
          made-next (λ y o. IsBest d (AtResolution r) c.args.reached.now.rows y o) tables c.args.first c.loop-x.x place
          v at there (c.lightest.ensures.best d r eq em rows some half)
          (c.loop-x.invariant.best d r eq em rows some half);
    }

pub returns-clause-best : goal.returns-clause-best
returns-clause-best c d r eq em rows some half x low =
    let size : d.q ^ d.m ≡ c.args.reached.now.q ^ c.args.reached.now.m =
    cc in
    c.loop-x.invariant.best d r eq em rows some half x
    (omega arith)
