use Rattle.std.proofs.Common.{List, None, refl, sym, subst, arith}
use Rattle.fx_statements.specs.Steps.{meaning_of}
use Rattle.fx_statements.specs.Questions.{lowest}
use Rattle.fx_vectors.specs.declared.book.NamedBook.{NamedBook}
use Rattle.fx_answer.specs.Asking.{HaveComeTo, IsTurnOf, questions_below}
use Rattle.fx_answer.specs.StepClaims.{ClaimsHold}
use Rattle.fx_answer.specs.declared.answering.Finished.{Finished}
use Rattle.fx_answer.proofs.Best.{claims_hold}
use Rattle.fx_answer.proofs.Asking.{first_turn, none_below, same_words}
use Rattle.fx_answer.proofs.Valid.{few_numbers, kept_valid, some_numbers}
use Rattle.fx_answer.proofs.answering.answer.Goals as goal

pub question_for-requires-clause-high : goal.question_for-requires-clause-high
question_for-requires-clause-high g c =
    some_numbers _ (kept_valid c.args.step.now) c.lowest-n.result c.lowest-n.ensures

pub loop-finished-init : goal.loop-finished-init
loop-finished-init g c =
    let step = meaning_of c.args.step.now in
    let low = lowest step step.settings.size in
    let books : List NamedBook = c.new.result in
    let empty : Finished = record { found = None; reached = 0; nodes = 0; books = books } in
    record {
      turn =
          subst (IsTurnOf step) (sym c.lowest-n.ensures)
          (first_turn step (some_numbers step (kept_valid c.args.step.now) low refl));
      come =
          subst (λ n. HaveComeTo step (questions_below step n) empty) (sym c.lowest-n.ensures)
          (subst (λ ps. HaveComeTo step ps empty) (sym (none_below step)) (record {
            nodes = refl;
            within = omega arith;
            found = tt;
            of_step = tt;
            whole = tt;
            reached = refl;
            books = c.new.ensures;
          }));
    }

pub ask_after-requires-clause-words : goal.ask_after-requires-clause-words
ask_after-requires-clause-words g c lifetimes live =
    rw c.in_ok-question.ensures.problem
    (same_words (meaning_of c.args.step.now) c.lowest-n.result c.loop-finished.n c.in_ok-words.words
    (rw c.in_ok-question_for.ensures.problem at c.in_ok-words.ensures))

pub returns-in-Ends-clause-claims : goal.returns-in-Ends-clause-claims
returns-in-Ends-clause-claims g c =
    let is = rw c.in-Ends.is at c.in_ok-outcome.ensures in
    subst (ClaimsHold (meaning_of c.args.step.now)) (sym is.concluded) (claims_hold _ (kept_valid c.args.step.now))

pub overflow_add-n : goal.overflow_add-n
overflow_add-n g c =
    let next = rw c.in-GoesOn.is at c.in_ok-outcome.ensures in
    omega (arith, next.0.high, few_numbers (meaning_of c.args.step.now) (kept_valid c.args.step.now))
