-- What was given by the stages so far, each with an output of its own, and what is given at the end.
use Rattle.std.proofs.Common.{false, ℕ, ◌≡◌, ◌<◌, List, [], ◌∷◌, ◌++◌, refl, sym, ap, subst, ◌∙◌, append_assoc}
use Rattle.std.proofs.Common.{append-nil}
use Rattle.std.specs.Prelude.{IsErrAnd, Ok, Err, Result}
use Rattle.fx_base.specs.Acts.{Event, acts, Did, DidPart}
use Rattle.fx_base.proofs.Doing.{did_none, did_then, part_then, part_before}
use Rattle.fx_program.specs.declared.stop.Stop.{Stop}
use Rattle.fx_program.specs.Stops.{HasCause, exit_status}
use Rattle.fx_program.specs.Output.{Output, Gives, worse}
use Rattle.fx_program.specs.Listings.{in_turn}
use Rattle.fx_program.specs.Outside.{Ends, HaveSameRooms, Outside, faults_of, world_of}
use Rattle.fx_program.proofs.Endings.{error_is, gives_part, gives_whole, rooms_then, same_rooms, stopped_high}

-- all events begin with those before
more_events : (events : List Event) (status : ℕ) (outputs : List Output)
    → (later : List Event) × ((in_turn events status outputs).events ≡ events ++ later)
more_events events status [] = ([], sym (append-nil events))
more_events events status (given ∷ outputs) =
    let r = more_events (events ++ given.events) (worse status given.status) outputs in
    (given.events ++ r.0, r.1 ∙ append_assoc events given.events r.0)

-- where some stages are given, and these outputs are left
pub record StagesSoFar (old new : Outside) (whole : Output) (status : ℕ) (left : List Output) : Type 0 where
  pub done : List Event
  pub rest : whole ≡ in_turn done status left
  pub did : Did (world_of old) (world_of new) (acts done)
  pub counts : faults_of new ≡ faults_of old
  pub rooms : HaveSameRooms old new

pub before_stages : (o : Outside) (outputs : List Output) → StagesSoFar o o (in_turn [] 0 outputs) 0 outputs
before_stages o outputs = record {
  done = [];
  rest = refl;
  did = did_none (world_of o);
  counts = refl;
  rooms = same_rooms o;
}

module _ {old new : Outside} {whole : Output} {status : ℕ} where
  pub stages_given : {left : List Output} → StagesSoFar old new whole status left → left ≡ [] → status < 4
      → new.shelf.begun ≡ false
      → Ends whole old new (Ok status)
  stages_given s none low closed = record {
    low = low;
    gives = subst (λ (o : Output). Gives o (world_of old) (world_of new) status)
        (sym (s.rest ∙ ap (in_turn s.done status) none))
        (gives_whole (record { events = s.done; status = status }) status refl s.did);
    cause = record { failed = λ e. absurd (cc e); unchanged = λ e. s.counts };
    rooms = s.rooms;
    closed = closed;
  }

  module _ {left outputs : List Output} {given : Output} (s : StagesSoFar old new whole status left)
      (next : left ≡ given ∷ outputs) where
    next_rest : whole ≡ in_turn s.done status (given ∷ outputs)
    next_rest = s.rest ∙ ap (in_turn s.done status) next

    pub one_more_stage : {now : Outside} {ended later : ℕ} → Ends given new now (Ok ended) → later ≡ worse status ended
        → StagesSoFar old now whole later outputs
    one_more_stage {now} {ended} {later} ends greater = record {
      done = s.done ++ given.events;
      rest = next_rest
          ∙ ap (λ n. in_turn (s.done ++ given.events) n outputs)
          (sym (greater ∙ ap (worse status) (ends.gives.same ends.low)));
      did = did_then s.done given.events s.did (ends.gives.whole ends.low);
      counts = ends.cause.unchanged (λ e. absurd (cc e)) ∙ s.counts;
      rooms = rooms_then s.rooms ends.rooms;
    }

    pub stopped_in_stage : {now : Outside} (why : Stop) → Ends given new now (Err why) → (ended : Result ℕ Stop)
        → IsErrAnd ended (λ e. e ≡ why)
        → Ends whole old now ended
    stopped_in_stage {now} why ends ended h =
        let later = more_events (s.done ++ given.events) (worse status given.status) outputs in
        let whole_is : whole.events ≡ (s.done ++ given.events) ++ later.0 =
        ap (λ (o : Output). o.events) next_rest ∙ later.1 in
        subst (Ends whole old now) (error_is ended why h) (record {
          low = tt;
          gives = gives_part whole (exit_status (Err why)) (stopped_high why)
              (subst (λ (l : List Event). DidPart (world_of old) (world_of now) (acts l)) (sym whole_is)
              (part_before (s.done ++ given.events) later.0 (part_then s.done given.events s.did ends.gives.part)));
          cause = subst (λ l. HasCause {T = ℕ} l (faults_of now) (Err why)) s.counts ends.cause;
          rooms = rooms_then s.rooms ends.rooms;
          closed = tt;
        })
