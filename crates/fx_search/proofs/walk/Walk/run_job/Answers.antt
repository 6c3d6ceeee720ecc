use Rattle.std.proofs.Common.{length, inr, refl, ap, ◌∙◌, arith}
use Rattle.fx_vectors.specs.Question.{problem_of}
use Rattle.fx_search.proofs.JobFacts.{job-room, lot-open, job_found, job_closed, job_spent, job_begins, job_tells}
use Rattle.fx_search.proofs.Valid.{field_of, least_at}
use Rattle.fx_search.proofs.walk.Walk.run_job.Goals as goal

pub walk_part-requires-clause-part : goal.walk_part-requires-clause-part
walk_part-requires-clause-part g c =
    let question = c.args.self.now.question.now in
    let p = problem_of question in
    let j = c.args.job.now.rows in
    let job = c.requires.job in
    let room = job-room p j job.rows job.lot in
    record {
      shape = c.requires.shape;
      some = omega arith;
      fits = omega arith;
      canonical = job.canonical;
      open_ = inr (lot-open p (field_of question c.requires.at.valid) j job.rows room job.canonical job.lot);
    }

pub walk_part-requires-clause-best : goal.walk_part-requires-clause-best
walk_part-requires-clause-best g c =
    let question = c.args.self.now.question.now in
    let p = problem_of question in
    let j = c.args.job.now.rows in
    let job = c.requires.job in
    job_begins p (field_of question c.requires.at.valid) j job.rows (job-room p j job.rows job.lot) job.canonical
    job.lot
    (g.I.Incumbent.standing c.begin.new.self).best
    (λ e. ap (λ s. s.best) (c.begin.ensures.ranked (least_at c.requires.at.incumbent_problem e)) ∙
    c.requires.earlier e)

pub returns-in-Found-clause-end : goal.returns-in-Found-clause-end
returns-in-Found-clause-end g c =
    let question = c.args.self.now.question.now in
    let p = problem_of question in
    let j = c.args.job.now.rows in
    let job = c.requires.job in
    let w = c.walk_part.new.self in
    let ended = rw c.in-Found.is at c.in_ok-end.ensures.ended in
    let r = job_found p (field_of question c.requires.at.valid) j job.rows (job-room p j job.rows job.lot) job.canonical
    job.lot c.args.limit w.marks w.prefix.rows ended.ends in
    let ms = c.take_marks-marks.ensures.marks in
    let m = c.take_prefix.ensures.prefix ∙ ap (λ z. z.prefix) c.take_marks-marks.ensures.same in (
      r.0,
      cc,
      cc,
      cc c.len-nodes.ensures,
      cc,
      omega (arith, ap length ms),
    )

pub returns-in-Closed-clause-end : goal.returns-in-Closed-clause-end
returns-in-Closed-clause-end g c =
    let question = c.args.self.now.question.now in
    let p = problem_of question in
    let j = c.args.job.now.rows in
    let job = c.requires.job in
    let f = field_of question c.requires.at.valid in
    let room = job-room p j job.rows job.lot in
    let w = c.walk_part.new.self in
    let ended = rw c.in-Closed.is at c.in_ok-end.ensures.ended in
    let r = job_closed p f j job.rows room job.canonical job.lot c.args.limit w.marks _ w.prefix.rows ended.ends in
    let ms = c.take_marks-marks.ensures.marks in
    let same = c.take_marks-marks.ensures.same in
    let least = ap (λ z. z.question.now.least) same
    ∙ ap (λ b. b.now.least) c.walk_part.ensures.question in
    let best = c.best_matrix.ensures.rows
    ∙ ap (λ z. (g.I.Incumbent.standing z.incumbent).best) same in
    let tells =
    job_tells p f j job.rows room job.canonical job.lot (g.I.Incumbent.standing w.incumbent).best ended.best
    question.least refl in (
      r.0,
      cc c.own.ensures.rows,
      cc c.len-nodes.ensures,
      cc,
      omega (arith, ap length ms),
    )

pub returns-in-Closed-clause-sized : goal.returns-in-Closed-clause-sized
returns-in-Closed-clause-sized g c =
    let ended = rw c.in-Closed.is at c.in_ok-end.ensures.ended in
    let problem = ap (λ z. (g.I.Incumbent.standing z.incumbent).problem)
    c.take_marks-marks.ensures.same ∙ ended.back.incumbent_problem in
    c.own.ensures.sized _
    (rw problem at c.best_matrix.ensures.dimensions)

pub returns-in-Spent-clause-end : goal.returns-in-Spent-clause-end
returns-in-Spent-clause-end g c =
    let question = c.args.self.now.question.now in
    let p = problem_of question in
    let j = c.args.job.now.rows in
    let job = c.requires.job in
    let ended = rw c.in-Spent.is at c.in_ok-end.ensures.ended in (
      job_spent p (field_of question c.requires.at.valid) j job.rows (job-room p j job.rows job.lot) job.canonical
          job.lot c.args.limit ended.ends,
      refl,
    )
