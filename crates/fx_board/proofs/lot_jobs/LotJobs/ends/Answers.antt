use Rattle.std.proofs.Common.{ℕ, List, [], length, refl, arith}
use Rattle.std.proofs.lemmas.Result.{IfOk-weaker}
use Rattle.fx_designs.specs.Jobs.{nodes_inside}
use Rattle.fx_vectors.specs.declared.question.Question.{Question}
use Rattle.fx_vectors.specs.Question.{problem_of}
use Rattle.fx_search.specs.declared.job.JobEnd.{JobEnd}
use Rattle.fx_board.specs.Lots.{job_at, IsEndOfJob}
use Rattle.fx_board.specs.Sharing.{AreEndsFrom}
use Rattle.fx_board.proofs.LotFacts.{ends-are}
use Rattle.fx_board.proofs.lot_jobs.LotJobs.ends.Goals as goal

-- the ends by number, as those of the jobs in order
abbrev AreByNumber : Question → List ℕ → List ℕ → ℕ → ℕ → List JobEnd → Type 0
AreByNumber question lot rows limit count ends =
    AreEndsFrom (λ n k end. IsEndOfJob question (job_at lot rows n) k end)
    (λ n. length (nodes_inside (problem_of question) (job_at lot rows n))) limit count 0 ends

pub share-requires-clause-count : goal.share-requires-clause-count
share-requires-clause-count g c κs within =
    (c.len-count.ensures, omega arith)

pub returns-clause-ends : goal.returns-clause-ends
returns-clause-ends g c =
    let s = c.args.self.now in
    let l = s.lot.now.rows in
    IfOk-weaker c.share.result _ _ (λ worked h.
    let all =
    rw c.len-count.ensures at h in
    (ends-are s.question.now c.requires.jobs.lot_is.valid l c.requires.jobs.lot_is.is_lot s.rows.now
    c.requires.jobs.rows_are
    c.args.limit [] s.rows.now worked.ends refl all).0) c.share.ensures.ends

pub returns-clause-sized : goal.returns-clause-sized
returns-clause-sized g c =
    let s = c.args.self.now in
    let l = s.lot.now.rows in
    IfOk-weaker c.share.result _ _ (λ worked h.
    let all =
    rw c.len-count.ensures at h in
    (ends-are s.question.now c.requires.jobs.lot_is.valid l c.requires.jobs.lot_is.is_lot s.rows.now
    c.requires.jobs.rows_are
    c.args.limit [] s.rows.now worked.ends refl all).1) c.share.ensures.ends

pub share-requires-clause-ready : goal.share-requires-clause-ready
share-requires-clause-ready g c κs within =
    λ worker has. record { jobs = c.requires.jobs; at = c.requires.ready worker has }

pub returns-clause-ready : goal.returns-clause-ready
returns-clause-ready g c =
    IfOk-weaker c.share.result _ _ (λ worked h worker has. (h worker has).at) c.share.ensures.ready
