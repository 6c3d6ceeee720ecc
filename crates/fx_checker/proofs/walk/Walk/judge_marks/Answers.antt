use Rattle.std.proofs.Common.{◌≡◌, ◌+◌, ◌<◌, ◌≤◌, length, drop, sym, ap, ◌∙◌, arith}
use Rattle.fx_vectors.specs.Marks.{meaning_of}
use Rattle.fx_checker.specs.Books.{first_flaw}
use Rattle.fx_checker.specs.Claims.{claim_of}
use Rattle.fx_checker.specs.Verdicts.{verdict_of}
use Rattle.fx_checker.specs.declared.verdict.Reason.TheVariants.{Ended}
use Rattle.fx_checker.specs.declared.verdict.Verdict.TheVariants.{Rejected}
use Rattle.fx_checker.proofs.Turns.{at_end, at_flaw, taken, no_turn, all_taken}
use Rattle.fx_checker.proofs.walk.Walk.judge_marks.Goals as goal

pub returns-in-None : goal.returns-in-None
returns-in-None g c =
    let x = claim_of c.args.self.now.book.now.head in
    let marks = c.args.self.now.book.now.marks in
    let inv = c.loop-place.invariant in
    let next = rw inv.at.book_is at c.in-None.ensures.next in
    let start = rw next at inv.flaw in
    let low : c.loop-place.place < length marks = omega arith in
    c.rejected.ensures ∙ ap verdict_of (sym (no_turn x marks c.loop-place.place low) ∙ start)

pub returns-in-Some-flaw : goal.returns-in-Some-flaw
returns-in-Some-flaw g c =
    let x = claim_of c.args.self.now.book.now.head in
    let marks = c.args.self.now.book.now.marks in
    let inv = c.loop-place.invariant in
    let same = c.in-Some.ensures.at.book_is ∙ inv.at.book_is in
    let next = rw inv.at.book_is at c.in-Some.ensures.next in
    let start = rw next at inv.flaw in
    let low : c.loop-place.place < length marks = omega arith in
    let is = rw same at c.get-mark.ensures.mark in
    let found = rw same at c.flaw.ensures.flaw in
    c.rejected-in-Some-flaw.ensures
    ∙ ap verdict_of
    (sym (at_flaw x marks _ _ c.loop-place.place (meaning_of c.get-mark.result) c.in-Some-flaw.reason low is
    (sym found ∙ c.in-Some-flaw.is)) ∙ start)

pub loop-place-preserved : goal.loop-place-preserved
loop-place-preserved g c =
    let x = claim_of c.args.self.now.book.now.head in
    let marks = c.args.self.now.book.now.marks in
    let inv = c.loop-place.invariant in
    let place = c.loop-place.place in
    let same = c.in-Some.ensures.at.book_is ∙ inv.at.book_is in
    let next = rw inv.at.book_is at c.in-Some.ensures.next in
    let start = rw next at inv.flaw in
    let low : place < length marks = omega arith in
    let is = rw same at c.get-mark.ensures.mark in
    let found = rw same at c.flaw.ensures.flaw in
    let whole = c.flaw.ensures.at.book_is ∙ same in
    let turns = rw (whole, c.flaw.ensures.rows) at c.go_on.ensures.turns in
    record {
      at = rw whole at c.go_on.ensures.at;
      flaw = ap (λ l. first_flaw x l (place + 1) (drop (place + 1) marks)) (sym turns)
          ∙ sym (taken x marks _ _ place (meaning_of c.get-mark.result) low is (sym found ∙ c.in_default.is))
          ∙ start;
    }

pub returns-in-None-next_turn : goal.returns-in-None-next_turn
returns-in-None-next_turn g c =
    let x = claim_of c.args.self.now.book.now.head in
    let marks = c.args.self.now.book.now.marks in
    let inv = c.loop-place.invariant in
    let next = rw inv.at.book_is at c.in-None-next_turn.ensures.next in
    let start = rw next at inv.flaw in
    let past : length marks ≤ c.loop-place.place = omega arith in
    ap verdict_of (sym (all_taken x marks c.loop-place.place past) ∙ start)

pub returns-in-Some-next_turn : goal.returns-in-Some-next_turn
returns-in-Some-next_turn g c =
    let x = claim_of c.args.self.now.book.now.head in
    let marks = c.args.self.now.book.now.marks in
    let inv = c.loop-place.invariant in
    let next = rw inv.at.book_is at c.in-Some-next_turn.ensures.next in
    let start = rw next at inv.flaw in
    let past : length marks ≤ c.loop-place.place = omega arith in
    let place : c.len-marks.result ≡ c.loop-place.place = omega arith in
    c.rejected-in-Some-next_turn.ensures
    ∙ ap (λ p. Rejected (p + 5) Ended) place
    ∙ ap verdict_of (sym (at_end x marks _ _ c.loop-place.place past) ∙ start)
