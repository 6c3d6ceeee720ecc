use Rattle.std.proofs.Common.{ℕ, ◌≡◌, ◌<◌, ◌++◌, ◌∷◌, [], List, length}
use Rattle.std.proofs.Common.{sym, ap, ◌∙◌, arith}
use Rattle.fx_strata.specs.Books as books
use Rattle.std.proofs.lemmas.List.{length-map, get_or-map}
use Rattle.std.proofs.Common.{get_or}
use Rattle.fx_table_book.specs.declared.book.Entry.{Entry}
use Rattle.fx_table_check.specs.declared.reason.Reason.TheVariants.{Ended}
use Rattle.fx_table_check.specs.declared.reason.Verdict.TheVariants.{Rejected}
use Rattle.fx_table_book.specs.Tables.{strata_of, entry_of, entries_of}
use Rattle.fx_table_check.specs.Goals.{claim_in}
use Rattle.fx_table_check.specs.Checking.{pending, flaw, verdict_of}
use Rattle.fx_table_check.proofs.Turns.{no-turn, all-done, ended-early, flawed, goes-on}
use Rattle.fx_table_check.proofs.prefix.Prefix.walk.Goals as goal

pub returns-in-None : goal.returns-in-None
returns-in-None c =
    ap verdict_of (sym (no-turn _
    _ c.loop-place.place
    _
    _
    c.loop-place.invariant.flaw
    (ap (λ b. pending (strata_of b) c.loop-place.self.rows c.loop-place.below)
    (sym c.loop-place.invariant.base)
    ∙ c.in-None.ensures.next)
    (books.Branch 0)
    (omega (arith, length-map c.args.entries.now entry_of))))

-- the entry at a place, in the words of the definitions
entry-at : (entries : List Entry) (i : ℕ) (e : Entry) → i < length entries → e ≡ get_or entries i e
    → entry_of e ≡ get_or (entries_of entries) i (entry_of e)
entry-at entries i e low is = cc (get_or-map entry_of entries i e (entry_of e) low)

pub returns-in-Some-flaw : goal.returns-in-Some-flaw
returns-in-Some-flaw c =
    let x = claim_in c.args.self.now.base c.args.goal.now in
    let entries = c.args.entries.now in
    let rows = c.next_turn.new.self.rows in
    let low : c.loop-place.place < length entries = omega arith in
    let next =
    rw c.loop-place.invariant.base at c.in-Some.ensures.next in
    ap verdict_of (sym (flawed x _ c.loop-place.place
    _ _ c.loop-place.invariant.flaw _
    _ next _
    (omega (arith, length-map entries entry_of))
    (entry-at entries c.loop-place.place c.get-entry.result.now low c.get-entry.ensures)
    c.in-Some-flaw.reason
    (ap (λ b. flaw (claim_in b c.args.goal.now) (rows ++ c.in-Some.row ∷ [])
    (entry_of c.get-entry.result.now))
    (sym (c.in-Some.ensures.base ∙ c.loop-place.invariant.base)) ∙ sym c.flaw.ensures.flaw ∙ c.in-Some-flaw.is)))

pub loop-place-preserved : goal.loop-place-preserved
loop-place-preserved c =
    let x = claim_in c.args.self.now.base c.args.goal.now in
    let entries = c.args.entries.now in
    let rows = c.next_turn.new.self.rows in
    let low : c.loop-place.place < length entries = omega arith in
    let next =
    rw c.loop-place.invariant.base at c.in-Some.ensures.next in
    let on = goes-on x _ c.loop-place.place
    _ _ c.loop-place.invariant.flaw _
    _ next _
    (omega (arith, length-map entries entry_of))
    (entry-at entries c.loop-place.place c.get-entry.result.now low c.get-entry.ensures)
    (ap (λ b. flaw (claim_in b c.args.goal.now) (rows ++ c.in-Some.row ∷ []) (entry_of c.get-entry.result.now))
    (sym (c.in-Some.ensures.base ∙ c.loop-place.invariant.base)) ∙ sym c.flaw.ensures.flaw ∙ c.in_default.is) in
    let same =
    c.in-Some.ensures.base ∙ c.loop-place.invariant.base in
    let turns =
    rw same at (rw c.flaw.ensures.same at c.go_on-below.ensures.turns) in
    let whole : c.flaw.new.self.base ≡ c.args.self.now.base =
    cc c.flaw.ensures.same in
    record {
      base = cc c.go_on-below.ensures.base;
      room = rw whole at c.go_on-below.ensures.room;
      below = rw whole at c.go_on-below.ensures.below;
      flaw = cc;
    }

pub returns-in-None-next_turn : goal.returns-in-None-next_turn
returns-in-None-next_turn c =
    ap verdict_of (sym (all-done _
    _ c.loop-place.place
    _
    _
    c.loop-place.invariant.flaw
    (ap (λ b. pending (strata_of b) c.loop-place.self.rows c.loop-place.below)
    (sym c.loop-place.invariant.base)
    ∙ c.in-None-next_turn.ensures.next)
    (omega (arith, length-map c.args.entries.now entry_of))))

pub returns-in-Some-next_turn : goal.returns-in-Some-next_turn
returns-in-Some-next_turn c =
    let x = claim_in c.args.self.now.base c.args.goal.now in
    let rows : List ℕ = c.next_turn-2.new.self.rows in
    let r : ℕ = c.in-Some-next_turn.field-0 in
    let next : pending x.strata c.loop-place.self.rows c.loop-place.below ≡ (rows ++ r ∷ []) ∷ pending x.strata rows r =
    rw c.loop-place.invariant.base at c.in-Some-next_turn.ensures.next in
    let place : c.len.result ≡ c.loop-place.place =
    omega arith in
    ap (λ p. Rejected p Ended) place
    ∙ ap verdict_of (sym (ended-early x
    _ c.loop-place.place
    _ _
    c.loop-place.invariant.flaw _ _ next
    (omega (arith, length-map c.args.entries.now entry_of))))
