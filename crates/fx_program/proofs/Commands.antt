-- How a command ends: what was read, what was given, and what its status says.
use Rattle.std.proofs.Common.{ℕ, ◌≡◌, ◌<◌, ◌≤◌, ◌∷◌, ◌∙◌, List, Option, Some, Result, Ok, Err, false, true, refl, sym}
use Rattle.std.proofs.Common.{subst, arith, [], ap, inl, length}
use Rattle.std.specs.Prelude.{IfOk, IsErrAnd, nat_le, unwrap_or}
use Rattle.std.proofs.lemmas.Bool.{false≢true, lt-leb}
use Rattle.std.proofs.lemmas.Option.{same_Some}
use Rattle.fx_base.specs.Reading.{HasReadCause, IsAllLeft, IsOverLimit}
use Rattle.fx_base.specs.declared.reading.ReadStop.{ReadStop}
use Rattle.fx_base.specs.declared.reading.ReadStop.TheVariants as read
use Rattle.fx_base.specs.Acts.{acts}
use Rattle.fx_base.proofs.Doing.{part_none}
use Rattle.fx_program.specs.declared.stop.Stop.{Stop}
use Rattle.fx_program.specs.declared.words.Settings.{Settings}
use Rattle.fx_program.specs.declared.words.Settings.TheVariants.{Check, Run, Large}
use Rattle.fx_program.specs.declared.word_fault.WordFault.{WordFault}
use Rattle.fx_program.specs.Stops.{HasCause, exit_status, reading_stop}
use Rattle.fx_program.specs.Making.{made_text}
use Rattle.fx_program.specs.Texts.{program_in}
use Rattle.fx_program.specs.Claims.{IsProved, SomeHasNone}
use Rattle.fx_program.specs.Output.{Output}
use Rattle.fx_program.specs.Commands.{Command, command_for, command_of, only, unread}
use Rattle.fx_program.specs.Outside.{Ends, GivesForSome, IsCarriedOut, Outside, ShelfView, SinkView, SourceView}
use Rattle.fx_program.specs.Outside.{faults_of, outside, world_of}
use Rattle.fx_program.proofs.Endings.{error_is, gives_part, stopped_high}
use Rattle.fx_program.proofs.Limits.{is_over_limit, over_limit, same_over_limit}
use Rattle.fx_program.proofs.ProvedBooks.{proved_text}
use Rattle.fx_program.proofs.Statuses.{none_where_one}
use Rattle.fx_program.proofs.Summing.{large_status}

-- a stop is above the statuses of steps and of books
stopped_above : (ended : Result ℕ Stop) (why : Stop) → IsErrAnd ended (λ e. e ≡ why) → 4 ≤ exit_status ended
stopped_above ended why h = subst (λ (r : Result ℕ Stop). 4 ≤ exit_status r) (error_is ended why h) (stopped_high why)

-- a refusal has another status than steps and books
pub never_low : (ended : Result ℕ Stop) → IfOk ended (λ status. status ≡ 3) → exit_status ended < 3 → ⊥
never_low (Ok status) refused low = omega (arith, refused, low)
never_low (Err why) refused low = omega (arith, low, stopped_high why)

-- a command that leaves the source unread
pub unread_by : {Given : Output → Type 0} {output : Output} {program : Option (List ℕ)} {old new : Outside}
    {ended : Result ℕ Stop}
    → Given output → Ends output old new ended
    → IsCarriedOut (unread Given program) old new ended
unread_by {output = output} given ends = record {
  text = [];
  exposed = λ read. absurd (false≢true read);
  output = output;
  given = given;
  ends = ends;
  read_to_end = λ low known read. absurd (false≢true read);
}

pub unread_done : {output : Output} {program : Option (List ℕ)} {old new : Outside} {ended : Result ℕ Stop}
    → Ends output old new ended
    → IsCarriedOut (unread (only output) program) old new ended
unread_done {output} ends = unread_by {Given = only output} refl ends

-- the cause where reading failed
read_cause : (why : ReadStop) (before now : ℕ) (others : List ℕ) → HasReadCause before now (Err why)
    → HasCause {T = ℕ} (before ∷ others) (now ∷ others) (Err (reading_stop why))
read_cause read.NoMemory before now others same = record {
  failed = λ e. absurd (cc e);
  unchanged = λ e. ap (λ n. n ∷ others) same;
}
read_cause read.ReadFault before now others rose = record {
  failed = λ e. inl rose.0;
  unchanged = λ other. absurd (other refl);
}

module _ (command : Command) {given : List ℕ → Output} (exact : (text : List ℕ) → command.gives text (given text))
    {old new : SourceView} (sure : new.sure ≡ old.sure) where
  pub read_failed : (why : ReadStop) (listing : SinkView) (shelf : ShelfView) (ended : Result ℕ Stop)
      → IsErrAnd ended (λ e. e ≡ reading_stop why)
      → HasReadCause old.faults new.faults (Err why)
      → IsCarriedOut command (outside old listing shelf) (outside new listing shelf) ended
  read_failed why listing shelf ended h cause =
      let text : List ℕ = unwrap_or old.left [] in
      let output : Output = given text in
      record {
        text = text;
        exposed = λ read known e. sym (ap (λ (o : Option (List ℕ)). unwrap_or o []) e);
        output = output;
        given = exact text;
        ends =
            subst (Ends output (outside old listing shelf) (outside new listing shelf))
            (error_is ended (reading_stop why) h) (record {
              low = tt;
              gives = gives_part output (exit_status (Err (reading_stop why))) (stopped_high (reading_stop why))
                  (part_none _ (acts output.events));
              cause = read_cause why _ _ _ cause;
              rooms = record { source = sure; listing = refl; shelf = refl };
              closed = tt;
            });
        read_to_end = λ low. absurd (omega (arith, low, stopped_above ended (reading_stop why) h));
      }

  -- a stage that follows on reading
  module _ (same : new.faults ≡ old.faults) {before now : SinkView} {shelf after : ShelfView}
      {ended : Result ℕ Stop} where
    read_before : (output : Output) → Ends output (outside new before shelf) (outside new now after) ended
        → Ends output (outside old before shelf) (outside new now after) ended
    read_before output ends = record {
      low = ends.low;
      gives = ends.gives;
      cause =
          subst (λ n. HasCause (n ∷ before.faults ∷ shelf.faults ∷ []) (faults_of (outside new now after)) ended)
          same ends.cause;
      rooms = record { source = sure; listing = ends.rooms.listing; shelf = ends.rooms.shelf };
      closed = ends.closed;
    }

    -- all was read
    pub all_read : (limit : ℕ) (text : List ℕ) → IsAllLeft old.left new.left limit text
        → Ends (given text) (outside new before shelf) (outside new now after) ended
        → IsCarriedOut command (outside old before shelf) (outside new now after) ended
    all_read limit text all ends = record {
      text = text;
      exposed = λ read known e. sym (all.all known e);
      output = given text;
      given = exact text;
      ends = read_before (given text) ends;
      read_to_end = λ low known read e. all.end known e;
    }

    -- more than the limit was left
    pub part_read : (limit : ℕ) → IsOverLimit old.left limit
        → ((text : List ℕ) → limit < length text
        → Ends (given text) (outside new before shelf) (outside new now after) ended)
        → (exit_status ended < 3 → (text : List ℕ) → limit < length text → command.reads_all_of text ≡ false)
        → IsCarriedOut command (outside old before shelf) (outside new now after) ended
    part_read limit over ends part = record {
      text = over_limit limit old.left;
      exposed = λ read. same_over_limit limit old.left;
      output = given (over_limit limit old.left);
      given = exact (over_limit limit old.left);
      ends = read_before _ (ends (over_limit limit old.left) (is_over_limit limit old.left over));
      read_to_end = λ low known read e. absurd (false≢true (sym (part low known (over.exposed known e)) ∙ read));
    }

-- a command reads to its end no text that is longer than it reads
pub not_read : (limit : ℕ) (text : List ℕ) → limit < length text → nat_le (length text) limit ≡ false
not_read limit text long = lt-leb (length text) limit long

-- where what a command gives has status 1, some step of the program that it runs has no design at all
none_given : (settings : Result Settings WordFault) (left : Option (List ℕ)) (text : List ℕ)
    → ((command_for settings).reads ≡ true → (known : List ℕ) → left ≡ Some known → known ≡ text)
    → (output : Output) → (command_for settings).gives text output → output.status ≡ 1
    → (program : List ℕ) → (command_for settings).text_run left ≡ Some program → SomeHasNone (program_in program)
none_given (Ok (Run threads seed)) left text exposed output given one program e =
    subst (λ (t : List ℕ). SomeHasNone (program_in t)) (sym (exposed refl program e))
    (none_where_one seed text (sym (ap (λ (o : Output). o.status) given) ∙ one))
none_given (Ok (Large n threads)) left text exposed output given one program e =
    subst (λ (t : List ℕ). SomeHasNone (program_in t)) (same_Some (made_text n) program e)
    (none_where_one 0 (made_text n)
    (sym (large_status (program_in (made_text n))) ∙ sym (ap (λ (o : Output). o.status) given) ∙ one))
none_given _ left text exposed output given one program e = absurd (cc e)

-- where `check` ends with status 0, the text of the source is a book whose claim holds
pub book_proved : {old new : Outside} {ended : Result ℕ Stop} → IsCarriedOut (command_of Check) old new ended
    → exit_status ended ≡ 0 → (text : List ℕ) → old.source.left ≡ Some text → IsProved text
book_proved done accepted text e =
    subst IsProved (sym (done.exposed refl text e))
    (proved_text done.text
    (sym (ap (λ (o : Output). o.status) done.given) ∙ sym (done.ends.gives.same (omega (arith, accepted))) ∙ accepted))

module _ {asked settings : Result Settings WordFault} {old new : Outside} {ended : Result ℕ Stop}
    (same : asked ≡ settings)
    (done : IsCarriedOut (command_for asked) old new ended) where
  carried_out : IsCarriedOut (command_for settings) old new ended
  carried_out = subst (λ s. IsCarriedOut (command_for s) old new ended) same done

  pub given : GivesForSome (command_for settings) old.source.left (world_of old) (world_of new) (exit_status ended)
  given = record {
    text = carried_out.text;
    exposed = carried_out.exposed;
    output = carried_out.output;
    given = carried_out.given;
    gives = carried_out.ends.gives;
  }

  pub none_at_all : exit_status ended ≡ 1 → (program : List ℕ)
      → (command_for settings).text_run old.source.left ≡ Some program
      → SomeHasNone (program_in program)
  none_at_all one =
      none_given settings old.source.left carried_out.text carried_out.exposed carried_out.output carried_out.given
      (sym (carried_out.ends.gives.same (omega (arith, one))) ∙ one)

  pub read_to_end : exit_status ended < 3 → (text : List ℕ) → (command_for settings).reads_all_of text ≡ true
      → old.source.left ≡ Some text
      → new.source.left ≡ Some []
  read_to_end = carried_out.read_to_end

  pub accepted : exit_status ended ≡ 0 → settings ≡ Ok Check → (text : List ℕ) → old.source.left ≡ Some text
      → IsProved text
  accepted zero is = book_proved (subst (λ s. IsCarriedOut (command_for s) old new ended) is carried_out) zero
