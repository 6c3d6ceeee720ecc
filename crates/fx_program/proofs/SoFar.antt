-- What was given for the steps so far, and what is given at the end.
use Rattle.std.proofs.Common.{ℕ, Bool, true, false, ◌≡◌, ◌<◌, ◌≤◌, ◌+◌, List, [], ◌∷◌, ◌++◌, map, length, drop, get_or}
use Rattle.std.proofs.Common.{refl, sym, ap, ap₂, subst, ◌∙◌, append_assoc, append-nil}
use Rattle.std.specs.Prelude.{nat_le, if◌then◌else◌, IsErrAnd, None, Ok, Err, Result}
use Rattle.std.proofs.Math.Seq.{drop-cons}
use Rattle.std.proofs.Math.Numerals.{add-one}
use Rattle.std.proofs.lemmas.List.{drop_all}
use Rattle.fx_base.specs.Acts.{Event, acts, Did, DidPart}
use Rattle.fx_base.proofs.Doing.{did_none, did_then, part_then, part_before}
use Rattle.fx_program.specs.declared.stop.Stop.{Stop}
use Rattle.fx_program.specs.Stops.{HasCause, exit_status}
use Rattle.fx_program.specs.Output.{Output, Gives, in_order, worse}
use Rattle.fx_program.specs.Plans.{AskedView}
use Rattle.fx_program.specs.Outside.{Ends, HaveSameRooms, Outside, SourceView, faults_of, world_of}
use Rattle.fx_program.proofs.Endings.{error_is, gives_part, gives_whole, rooms_then, same_rooms, stopped_high}

module _ {A : Type 0} (give : ℕ → List AskedView → A → Output) (asks : A → List AskedView) where
  -- the events of all steps begin with those before them
  pub more_events : (number : ℕ) (earlier : List AskedView) (events : List Event) (status : ℕ) (steps : List A)
      → (later : List Event) × ((in_order give asks number earlier events status steps).events ≡ events ++ later)
  more_events number earlier events status [] = ([], sym (append-nil events))
  more_events number earlier events status (step ∷ steps) =
      let given = give number earlier step in
      let r = more_events (number + 1) (earlier ++ asks step) (events ++ given.events) (worse status given.status) steps in
      (given.events ++ r.0, r.1 ∙ append_assoc events given.events r.0)

-- where the steps before this number are given, and these are left
pub record SoFar {A : Type 0} (give : ℕ → List AskedView → A → Output) (asks : A → List AskedView) (old new : Outside)
    (whole : Output) (number : ℕ) (earlier : List AskedView) (status : ℕ) (steps : List A) : Type 0 where
  pub done : List Event
  pub left : whole ≡ in_order give asks number earlier done status steps
  pub did : Did (world_of old) (world_of new) (acts done)
  pub counts : faults_of new ≡ faults_of old
  pub rooms : HaveSameRooms old new

pub before_steps : {A : Type 0} (give : ℕ → List AskedView → A → Output) (asks : A → List AskedView) (o : Outside)
    (steps : List A)
    → SoFar give asks o o (in_order give asks 1 [] [] 0 steps) 1 [] 0 steps
before_steps give asks o steps = record {
  done = [];
  left = refl;
  did = did_none
      (world_of o);
  counts = refl;
  rooms = same_rooms o;
}

module _ {A : Type 0} {give : ℕ → List AskedView → A → Output} {asks : A → List AskedView} {old new : Outside}
    {whole : Output} {number status : ℕ} {earlier : List AskedView} where
  pub all_given : {left : List A} → SoFar give asks old new whole number earlier status left → left ≡ [] → status < 4
      → new.shelf.begun ≡ false
      → Ends whole old new (Ok status)
  all_given s none low closed = record {
    low = low;
    gives = subst (λ (o : Output). Gives o (world_of old) (world_of new) status)
        (sym (s.left ∙ ap (in_order give asks number earlier s.done status) none))
        (gives_whole (record { events = s.done; status = status }) status refl s.did);
    cause = record { failed = λ e. absurd (cc e); unchanged = λ e. s.counts };
    rooms = s.rooms;
    closed = closed;
  }

  module _ {left steps : List A} {step : A} (s : SoFar give asks old new whole number earlier status left)
      (next : left ≡ step ∷ steps) where
    next_left : whole ≡ in_order give asks number earlier s.done status (step ∷ steps)
    next_left = s.left ∙ ap (in_order give asks number earlier s.done status) next

    pub one_more : {now : Outside} {given later : ℕ} {plans : List AskedView}
        → Ends (give number earlier step) new now (Ok given)
        → plans ≡ earlier ++ asks step → later ≡ worse status given
        → SoFar give asks old now whole (number + 1) plans later steps
    one_more {now} {given} {later} {plans} ends with_its greater = record {
      done = s.done ++ (give number earlier step).events;
      left = next_left
          ∙ ap₂ (λ (l : List AskedView) (n : ℕ).
          in_order give asks (number + 1) l (s.done ++ (give number earlier step).events) n steps)
          (sym with_its) (sym (greater ∙ ap (worse status) (ends.gives.same ends.low)));
      did = did_then s.done (give number earlier step).events s.did (ends.gives.whole ends.low);
      counts = ends.cause.unchanged (λ e. absurd (cc e)) ∙ s.counts;
      rooms = rooms_then s.rooms ends.rooms;
    }

    pub stopped : {now : Outside} (why : Stop) → Ends (give number earlier step) new now (Err why)
        → (ended : Result ℕ Stop) → IsErrAnd ended (λ e. e ≡ why)
        → Ends whole old now ended
    stopped {now} why ends ended h =
        let events = (give number earlier step).events in
        let later =
        more_events give asks (number + 1) (earlier ++ asks step) (s.done ++ events)
        (worse status (give number earlier step).status) steps
        in
        let whole_is : whole.events ≡ (s.done ++ events) ++ later.0 = ap (λ (o : Output). o.events) next_left
        ∙ later.1 in
        subst (Ends whole old now) (error_is ended why h) (record {
          low = tt;
          gives = gives_part whole (exit_status (Err why)) (stopped_high why)
              (subst (λ (l : List Event). DidPart (world_of old) (world_of now) (acts l)) (sym whole_is)
              (part_before (s.done ++ events) later.0 (part_then s.done events s.did ends.gives.part)));
          cause = subst (λ l. HasCause {T = ℕ} l (faults_of now) (Err why)) s.counts ends.cause;
          rooms = rooms_then s.rooms ends.rooms;
          closed = tt;
        })

-- some source, for what is said whatever it is
pub no_source : SourceView
no_source = record { left = None; faults = 0; sure = false }

-- the next of the steps that are left
pub next_step : {X A : Type 0} (f : X → A) (xs : List X) (i : ℕ) (d : X) → i < length xs
    → map f (drop i xs) ≡ f (get_or xs i d) ∷ map f (drop (i + 1) xs)
next_step f xs i d h =
    let next : drop i xs ≡ get_or xs i d ∷ drop (i + 1) xs = rw (add-one i) (drop-cons xs i d h) in
    ap (map f) next

-- none is left
pub no_step : {X A : Type 0} (f : X → A) (xs : List X) (i : ℕ) → length xs ≤ i → map f (drop i xs) ≡ []
no_step f xs i h = ap (map f) (drop_all i xs h)

-- the greater of two low statuses is low
pub worse_low : (a b : ℕ) → a < 4 → b < 4 → worse a b < 4
worse_low a b low other = go (nat_le a b)
  where
    go : (c : Bool) → (if c then b else a) < 4
    go true = other
    go false = low
