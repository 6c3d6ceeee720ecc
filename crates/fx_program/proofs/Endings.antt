-- How a stage of the program ends: all was done, or it stopped.
use Rattle.std.proofs.Common.{ℕ, ◌≡◌, ◌<◌, ◌≤◌, ◌∷◌, ◌∙◌, List, Result, Ok, Err, refl, sym, subst, arith, [], ap, inl}
use Rattle.std.proofs.Common.{inr}
use Rattle.std.specs.Prelude.{IsErrAnd}
use Rattle.fx_base.specs.Acts.{Event, Piece, acts, World, Did, DidPart}
use Rattle.fx_base.specs.Faults.{Rose}
use Rattle.fx_base.specs.Writing.{Appends, AppendsPart}
use Rattle.fx_base.proofs.Doing.{did_one, did_piece, did_then, part_before, part_none, part_one, part_piece, part_then}
use Rattle.fx_base.proofs.Doing.{part_whole}
use Rattle.fx_base.specs.declared.sink.Sink as sink
use Rattle.fx_book.specs.Streaming.{WritesTo}
use Rattle.fx_book.specs.declared.streaming.WriteStop.{WriteStop}
use Rattle.fx_book.specs.declared.streaming.WriteStop.TheVariants as write
use Rattle.fx_program.specs.declared.stop.Stop.{Stop}
use Rattle.fx_program.specs.declared.stop.Stop.TheVariants as stop
use Rattle.fx_program.specs.Stops.{HasCause, exit_status, writing_stop}
use Rattle.fx_program.specs.Output.{Output, Gives, message, with_files}
use Rattle.fx_program.specs.Outside.{Ends, HaveSameRooms, Lists, Outside, ShelfView, ShelvesFiles, SinkView, Writes}
use Rattle.fx_program.specs.Outside.{faults_of, outside, sink_view}

-- what is given where all was done, and where it stopped
pub gives_whole : {a b : World} (output : Output) (status : ℕ) → status ≡ output.status → Did a b (acts output.events)
    → Gives output a b status
gives_whole output status e p = record { same = λ low. e; whole = λ low. p; part = part_whole p }

pub gives_part : {a b : World} (output : Output) (status : ℕ) → 4 ≤ status → DidPart a b (acts output.events)
    → Gives output a b status
gives_part output status high p =
    record { same = λ low. absurd (omega arith); whole = λ low. absurd (omega arith); part = p }

-- the exit status of a stop
pub stopped_high : (why : Stop) → 4 ≤ exit_status (Err why)
stopped_high stop.Failed = omega arith
stopped_high stop.NoMemory = omega arith

-- a result that is an error, and why
pub error_is : {T : Type 0} (ended : Result T Stop) (why : Stop) → IsErrAnd ended (λ e. e ≡ why) → Err why ≡ ended
error_is (Ok x) why h = absurd h
error_is (Err e) why h = ap Err (sym h)

-- want of memory is no failed call
pub no_call_failed : {T : Type 0} (counts : List ℕ) → HasCause {T = T} counts counts (Err stop.NoMemory)
no_call_failed counts = record { failed = λ e. absurd (cc e); unchanged = λ e. refl }

-- the rooms are the same after nothing, and after one stage and another
pub same_rooms : (o : Outside) → HaveSameRooms o o
same_rooms o = record { source = refl; listing = refl; shelf = refl }

pub rooms_then : {old mid new : Outside} → HaveSameRooms old mid → HaveSameRooms mid new → HaveSameRooms old new
rooms_then first second = record {
  source = second.source ∙ first.source;
  listing = second.listing ∙ first.listing;
  shelf = second.shelf ∙ first.shelf;
}

-- the same output under another name
pub ends_by : {old new : Outside} {output same : Output} {ended : Result ℕ Stop} → output ≡ same
    → Ends same old new ended
    → Ends output old new ended
ends_by {old} {new} {ended} e p = subst (λ (o : Output). Ends o old new ended) (sym e) p

pub lists_by : {old new : SinkView} {output same : Output} {ended : Result ℕ Stop} → output ≡ same
    → Lists same old new ended
    → Lists output old new ended
lists_by e p = record { whatever = λ source shelf closed. ends_by e (p.whatever source shelf closed) }

pub writes_by : {old new : SinkView} {before now : ShelfView} {output same : Output} {ended : Result ℕ Stop}
    → output ≡ same
    → Writes same old new before now ended → Writes output old new before now ended
writes_by e p = record { whatever = λ source. ends_by e (p.whatever source) }

-- memory ran out before anything was done
module _ (output : Output) (ended : Result ℕ Stop) (none : IsErrAnd ended (λ e. e ≡ stop.NoMemory)) where
  pub ends_none : (o : Outside) → Ends output o o ended
  ends_none o = subst (Ends output o o) (error_is ended stop.NoMemory none) (record {
    low = tt;
    gives = gives_part output 5 (omega arith) (part_none _ (acts output.events));
    cause = no_call_failed _;
    rooms = same_rooms o;
    closed = tt;
  })

  pub lists_none : (listing : SinkView) → Lists output listing listing ended
  lists_none listing = record { whatever = λ source shelf closed. ends_none (outside source listing shelf) }

  pub writes_none : (listing : SinkView) (shelf : ShelfView) → Writes output listing listing shelf shelf ended
  writes_none listing shelf = record { whatever = λ source. ends_none (outside source listing shelf) }

-- a piece of the listing was written, or a part of it
module _ {old new : SinkView} (bytes : List ℕ) (status : ℕ) (room : new.room ≡ old.room) where
  pub lists_piece : status < 4 → Appends old.written new.written bytes → new.faults ≡ old.faults
      → Lists (message bytes status) old new (Ok status)
  lists_piece low done same = record {
    whatever = λ source shelf closed. record {
      low = low;
      gives = gives_whole (message bytes status) status refl
          (did_one (Piece bytes) (did_piece _ _ shelf.files bytes done));
      cause = record {
        failed = λ e. absurd (cc e);
        unchanged = λ e. ap (λ n. source.faults ∷ n ∷ shelf.faults ∷ []) same;
      };
      rooms = record { source = refl; listing = room; shelf = refl };
      closed = closed;
    };
  }

  pub lists_cut : (ended : Result ℕ Stop) → IsErrAnd ended (λ e. e ≡ stop.Failed)
      → AppendsPart old.written new.written bytes
      → Rose old.faults new.faults → Lists (message bytes status) old new ended
  lists_cut ended failed part rose = record {
    whatever = λ source shelf closed.
        subst (Ends (message bytes status) (outside source old shelf) (outside source new shelf))
        (error_is ended stop.Failed failed)
        (record {
          low = tt;
          gives = gives_part (message bytes status) 4 (omega arith)
              (part_one (Piece bytes) (part_piece _ _ shelf.files bytes part));
          cause = record { failed = λ e. inr (inl rose); unchanged = λ other. absurd (other refl) };
          rooms = record { source = refl; listing = room; shelf = refl };
          closed = tt;
        });
  }

-- bytes were written part after part, or some of them
module _ {K T : Type 0} (members : sink.Ghosts K) (bytes : List ℕ) (status : ℕ) {old new : K} where
  pub lists_written : {x : T} → status < 4 → WritesTo members bytes old new (Ok x)
      → Lists (message bytes status) (sink_view members old) (sink_view members new) (Ok status)
  lists_written low written = lists_piece bytes status written.room low written.done written.cause

  pub lists_stopped : (why : WriteStop) → WritesTo {T = T} members bytes old new (Err why) → (ended : Result ℕ Stop)
      → IsErrAnd ended (λ e. e ≡ writing_stop why)
      → Lists (message bytes status) (sink_view members old) (sink_view members new) ended
  lists_stopped write.WriteFault written ended h =
      lists_cut bytes status written.room ended h written.part written.cause.0
  lists_stopped write.NoMemory written ended h = record {
    whatever = λ source shelf closed.
        subst
        (Ends (message bytes status) (outside source (sink_view members old) shelf)
        (outside source (sink_view members new) shelf))
        (error_is ended stop.NoMemory h)
        (record {
          low = tt;
          gives = gives_part (message bytes status) 5 (omega arith)
              (part_one (Piece bytes) (part_piece _ _ shelf.files bytes written.part));
          cause = record {
            failed = λ e. absurd (cc e);
            unchanged = λ e. ap (λ n. source.faults ∷ n ∷ shelf.faults ∷ []) written.cause;
          };
          rooms = record { source = refl; listing = written.room; shelf = refl };
          closed = tt;
        });
  }

-- the same stop of another call
pub same_stop : {A B : Type 0} (why other : Stop) → ◌≡◌ {A = Result A Stop} (Err why) (Err other)
    → ◌≡◌ {A = Result B Stop} (Err why) (Err other)
same_stop why other e = let same : why ≡ other = cc e in ap Err same

-- the counts of all three, where the stage has the shelf alone
behind : {A B : Type 0} (source listing : ℕ) (before now : List ℕ) (why : Stop) → HasCause {T = A} before now (Err why)
    → HasCause {T = B} (source ∷ listing ∷ before) (source ∷ listing ∷ now) (Err why)
behind source listing before now why cause = record {
  failed = λ e. inr (inr (cause.failed (same_stop why stop.Failed e)));
  unchanged = λ other. ap (λ l. source ∷ listing ∷ l) (cause.unchanged (λ e. other (same_stop why stop.Failed e)));
}

-- files, and then a piece
module _ {T : Type 0} (files : List Event) (bytes : List ℕ) (status : ℕ) {old new : ShelfView} where
  pub stopped_in_files : (listing : SinkView) (why : Stop) → ShelvesFiles {T = T} files old new (Err why)
      → (ended : Result ℕ Stop) → IsErrAnd ended (λ e. e ≡ why)
      → Writes (with_files files bytes status) listing listing old new ended
  stopped_in_files listing why shelved ended h = record {
    whatever = λ source.
        subst (Ends (with_files files bytes status) (outside source listing old) (outside source listing new))
        (error_is ended why h)
        (record {
          low = tt;
          gives = gives_part (with_files files bytes status) (exit_status (Err why)) (stopped_high why)
              (part_before files (Piece bytes ∷ []) (shelved.part.whatever listing.written));
          cause = behind source.faults listing.faults _ _ why shelved.cause;
          rooms = record { source = refl; listing = refl; shelf = shelved.room };
          closed = tt;
        });
  }

  module _ {x : T} (shelved : ShelvesFiles files old new (Ok x)) where
    same_count : new.faults ∷ [] ≡ old.faults ∷ []
    same_count = shelved.cause.unchanged (λ e. absurd (cc e))

    pub stopped_after_files : (listing : SinkView) (ended : Result ℕ Stop) → IsErrAnd ended (λ e. e ≡ stop.NoMemory)
        → Writes (with_files files bytes status) listing listing old new ended
    stopped_after_files listing ended h = record {
      whatever = λ source.
          subst (Ends (with_files files bytes status) (outside source listing old) (outside source listing new))
          (error_is ended stop.NoMemory h)
          (record {
            low = tt;
            gives = gives_part (with_files files bytes status) 5 (omega arith)
                (part_before files (Piece bytes ∷ []) (shelved.part.whatever listing.written));
            cause = record {
              failed = λ e. absurd (cc e);
              unchanged = λ other. ap (λ l. source.faults ∷ listing.faults ∷ l) same_count;
            };
            rooms = record { source = refl; listing = refl; shelf = shelved.room };
            closed = tt;
          });
    }

    pub after_files : {before now : SinkView} {ended : Result ℕ Stop} → Lists (message bytes status) before now ended
        → Writes (with_files files bytes status) before now old new ended
    after_files {before} {now} {ended} listed = record {
      whatever = λ source.
          let last = listed.whatever source new shelved.closed in
          record {
            low = last.low;
            gives = record {
              same = last.gives.same;
              whole = λ low.
                  did_then files (Piece bytes ∷ []) (shelved.done.whatever before.written) (last.gives.whole low);
              part = part_then files (Piece bytes ∷ []) (shelved.done.whatever before.written) last.gives.part;
            };
            cause = subst (λ l. HasCause (source.faults ∷ before.faults ∷ l) (faults_of (outside source now new)) ended)
                same_count last.cause;
            rooms = record { source = last.rooms.source; listing = last.rooms.listing; shelf = shelved.room };
            closed = last.closed;
          };
    }
