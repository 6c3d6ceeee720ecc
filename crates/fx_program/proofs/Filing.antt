-- Files that were shelved one after another by calls that have no listing.
use Rattle.std.proofs.Common.{ℕ, ◌≡◌, ◌<◌, ◌≤◌, ◌+◌, List, [], ◌∷◌, ◌++◌, Option, Some, Result, Ok, Err, false, length}
use Rattle.std.proofs.Common.{map, take, drop, get_or, take_all, refl, sym, ap, ap₂, subst, ◌∙◌, inl}
use Rattle.std.specs.Prelude.{IsErrAnd}
use Rattle.std.proofs.lemmas.Result.{on_ok_weaker}
use Rattle.std.proofs.Math.Seq.{drop-cons}
use Rattle.std.proofs.Math.Numerals.{add-one}
use Rattle.std.proofs.lemmas.List.{append-nil, map-append, map_more, take-append-drop}
use Rattle.fx_base.specs.Acts.{Act, Event, WholeFile, File, Did, DidPart, Shelves, ShelvesPart, acts, acts_of, listed}
use Rattle.fx_base.specs.Writing.{Appends}
use Rattle.fx_base.proofs.Doing.{did_none, did_one, did_then, listed-append, listed-file, part_before, part_one}
use Rattle.fx_base.proofs.Doing.{part_then, part_whole}
use Rattle.fx_base.specs.Faults.{Rose}
use Rattle.fx_program.specs.declared.stop.Stop.{Stop}
use Rattle.fx_program.specs.declared.stop.Stop.TheVariants as stop
use Rattle.fx_program.specs.Stops.{HasCause}
use Rattle.fx_program.specs.Output.{Shelved, ShelvedPart, world}
use Rattle.fx_program.specs.Outside.{ShelfView, ShelvesFiles}
use Rattle.fx_program.proofs.Endings.{error_is, same_stop}

-- acts on the shelf alone list nothing
unlisted : (old : Option (List ℕ)) (bytes : List ℕ) → bytes ≡ [] → Appends old old bytes
unlisted old bytes none =
    subst (Appends old old) (sym none) (record { exposed = λ text e. e ∙ ap Some (sym (append-nil text)) })

first_none : {X : Type 0} (xs ys : List X) → xs ++ ys ≡ [] → xs ≡ []
first_none [] ys e = refl
first_none (x ∷ xs) ys e = absurd (cc e)

-- one file
did_file : (old new : Option (List File)) (name content : List ℕ) (written : Option (List ℕ))
    → Shelves old new (acts_of (WholeFile name content))
    → Did (world written old) (world written new) (acts_of (WholeFile name content))
did_file old new name content written did = record { listing = unlisted written _ (listed-file content); shelf = did }

part_file : (old new : Option (List File)) (name content : List ℕ) (written : Option (List ℕ))
    → ShelvesPart old new (acts_of (WholeFile name content))
    → DidPart (world written old) (world written new) (acts_of (WholeFile name content))
part_file old new name content written part = record {
  done = part.done;
  left = part.left;
  front = part.front;
  did = record {
    listing = unlisted written _
        (first_none (listed part.done) (listed part.left)
        (sym (listed-append part.done part.left) ∙ ap listed part.front ∙ listed-file content));
    shelf = part.did;
  };
}

-- these files were shelved so far, and no call has failed
pub record ShelvedSoFar (events : List Event) (old new : ShelfView) : Type 0 where
  pub files : Shelved events old.files new.files
  pub closed : new.begun ≡ false
  pub count : new.faults ≡ old.faults
  pub room : new.room ≡ old.room

-- before the first file
pub shelved_none : (old : ShelfView) → old.begun ≡ false → ShelvedSoFar [] old old
shelved_none old closed = record {
  files = record { whatever = λ written. did_none (world written old.files) };
  closed = closed;
  count = refl;
  room = refl;
}

-- all are shelved
pub shelved_all : {T : Type 0} {events : List Event} {old new : ShelfView} (x : T) → ShelvedSoFar events old new
    → ShelvesFiles events old new (Ok x)
shelved_all x so_far = record {
  done = so_far.files;
  part = record { whatever = λ written. part_whole (so_far.files.whatever written) };
  cause = record { failed = λ e. absurd (cc e); unchanged = λ e. ap (λ n. n ∷ []) so_far.count };
  room = so_far.room;
  closed = so_far.closed;
}

-- files of one kind before those of another
module _ {T U : Type 0} {first : List Event} (second : List Event) {old new : ShelfView} where
  pub stopped_in_first : (why : Stop) → ShelvesFiles {T = T} first old new (Err why) → (ended : Result U Stop)
      → IsErrAnd ended (λ e. e ≡ why)
      → ShelvesFiles (first ++ second) old new ended
  stopped_in_first why shelved ended h = subst (ShelvesFiles (first ++ second) old new) (error_is ended why h) (record {
    done = tt;
    part = record { whatever = λ written. part_before first second (shelved.part.whatever written) };
    cause = record {
      failed = λ e. shelved.cause.failed (same_stop why stop.Failed e);
      unchanged = λ other. shelved.cause.unchanged (λ e. other (same_stop why stop.Failed e));
    };
    room = shelved.room;
    closed = tt;
  })

  pub shelved_both : {mid : ShelfView} {x : T} {ended : Result U Stop} → ShelvesFiles first old mid (Ok x)
      → ShelvesFiles second mid new ended
      → ShelvesFiles (first ++ second) old new ended
  shelved_both {mid} {ended} one then = record {
    done = on_ok_weaker ended
        (λ done. record {
          whatever = λ written. did_then first second (one.done.whatever written) (done.whatever written);
        })
        then.done;
    part = record {
      whatever = λ written. part_then first second (one.done.whatever written) (then.part.whatever written);
    };
    cause = subst (λ l. HasCause l (new.faults ∷ []) ended) (one.cause.unchanged (λ e. absurd (cc e))) then.cause;
    room = then.room ∙ one.room;
    closed = then.closed;
  }

module _ {X : Type 0} (name content : X → List ℕ) (xs : List X) (i : ℕ) where
  abbrev file : X → Event
  file x = WholeFile (name x) (content x)

  split : map file (take i xs) ++ map file (drop i xs) ≡ map file xs
  split = sym (map-append file (take i xs) (drop i xs)) ∙ ap (map file) (take-append-drop i xs)

  so_far_part : {old new : Option (List File)} → Shelved (map file (take i xs)) old new
      → ShelvedPart (map file xs) old new
  so_far_part {old} {new} did = record {
    whatever = λ written.
        subst (λ (l : List Event). DidPart (world written old) (world written new) (acts l)) split
        (part_before (map file (take i xs)) (map file (drop i xs)) (part_whole (did.whatever written)));
  }

  -- stopped before the next one
  pub stopped_before : {T : Type 0} {old new : ShelfView} → ShelvedSoFar (map file (take i xs)) old new
      → (ended : Result T Stop)
      → IsErrAnd ended (λ e. e ≡ stop.NoMemory) → ShelvesFiles (map file xs) old new ended
  stopped_before {T} {old} {new} so_far ended h =
      subst (ShelvesFiles (map file xs) old new) (error_is ended stop.NoMemory h) (record {
        done = tt;
        part = so_far_part so_far.files;
        cause = record { failed = λ e. absurd (cc e); unchanged = λ e. ap (λ n. n ∷ []) so_far.count };
        room = so_far.room;
        closed = tt;
      })

  -- there is no next one
  pub shelved_each : {T : Type 0} {old new : ShelfView} (x : T) → length xs ≤ i
      → ShelvedSoFar (map file (take i xs)) old new → ShelvesFiles (map file xs) old new (Ok x)
  shelved_each {T} {old} {new} x long so_far =
      subst (λ (l : List X). ShelvesFiles (map file l) old new (Ok x)) (take_all i xs long) (shelved_all x so_far)

  next_acts : (d : X) (n c : List ℕ) → d ≡ get_or xs i d → n ≡ name d → c ≡ content d
      → acts_of (WholeFile n c) ≡ acts_of (file (get_or xs i d))
  next_acts d n c is named filled =
      ap₂ (λ (a b : List ℕ). acts_of (WholeFile a b)) named filled ∙ ap (λ (x : X). acts_of (file x)) is

  -- the next one, by its name and its content
  module _ (d : X) (is : d ≡ get_or xs i d) (n c : List ℕ) (named : n ≡ name d)
      (filled : c ≡ content d) {old mid new : ShelfView} (more : i < length xs)
      (so_far : ShelvedSoFar (map file (take i xs)) old mid) (room : new.room ≡ mid.room) where
    -- it is shelved
    pub shelved_more : Shelves mid.files new.files (acts_of (WholeFile n c)) → new.begun ≡ false
        → new.faults ≡ mid.faults
        → ShelvedSoFar (map file (take (i + 1) xs)) old new
    shelved_more next closed same =
        let one = file (get_or xs i d) in
        let did = subst (λ (l : List Act). Shelves mid.files new.files l) (next_acts d n c is named filled) next in
        record {
          files = record {
            whatever = λ written.
                subst (λ (l : List Event). Did (world written old.files) (world written new.files) (acts l))
                (sym (map_more file xs i d more))
                (did_then (map file (take i xs)) (one ∷ []) (so_far.files.whatever written)
                (did_one one (did_file mid.files new.files (name (get_or xs i d))
                (content (get_or xs i d)) written did)));
          };
          closed = closed;
          count = same ∙ so_far.count;
          room = room ∙ so_far.room;
        }

    -- stopped in it
    pub stopped_in : {T : Type 0} → ShelvesPart mid.files new.files (acts_of (WholeFile n c))
        → Rose mid.faults new.faults → (ended : Result T Stop)
        → IsErrAnd ended (λ e. e ≡ stop.Failed) → ShelvesFiles (map file xs) old new ended
    stopped_in part rose ended h =
        let one = file (get_or xs i d) in
        let did = subst (λ (l : List Act). ShelvesPart mid.files new.files l) (next_acts d n c is named filled) part in
        let dropped : drop i xs ≡ get_or xs i d ∷ drop (i + 1) xs = rw (add-one i) (drop-cons xs i d more) in
        let next : map file (drop i xs) ≡ one ∷ map file (drop (i + 1) xs) = ap (map file) dropped in
        let rose_since : Rose old.faults new.faults = subst (λ (k : ℕ). Rose k new.faults) so_far.count rose in
        subst (ShelvesFiles (map file xs) old new) (error_is ended stop.Failed h) (record {
          done = tt;
          part = record {
            whatever = λ written.
                subst (λ (l : List Event). DidPart (world written old.files) (world written new.files) (acts l)) split
                (part_then (map file (take i xs)) (map file (drop i xs)) (so_far.files.whatever written)
                (subst (λ (l : List Event). DidPart (world written mid.files) (world written new.files) (acts l))
                (sym next)
                (part_before (one ∷ []) (map file (drop (i + 1) xs))
                (part_one one (part_file mid.files new.files (name (get_or xs i d))
                (content (get_or xs i d)) written did)))));
          };
          cause = record { failed = λ e. inl rose_since; unchanged = λ other. absurd (other refl) };
          room = room ∙ so_far.room;
          closed = tt;
        })

module _ {T : Type 0} (name content : List ℕ) {old new : ShelfView} (room : new.room ≡ old.room) where
  -- the one file is shelved
  pub file_shelved : (x : T) → Shelves old.files new.files (acts_of (WholeFile name content)) → new.begun ≡ false
      → new.faults ≡ old.faults → ShelvesFiles (WholeFile name content ∷ []) old new (Ok x)
  file_shelved x did closed same = shelved_all x (record {
    files = record {
      whatever = λ written. did_one (WholeFile name content) (did_file old.files new.files name content written did);
    };
    closed = closed;
    count = same;
    room = room;
  })

  -- stopped in it, for this cause
  pub file_stopped : (why : Stop) → ShelvesPart old.files new.files (acts_of (WholeFile name content))
      → HasCause {T = T} (old.faults ∷ []) (new.faults ∷ []) (Err why) → (ended : Result T Stop)
      → IsErrAnd ended (λ e. e ≡ why)
      → ShelvesFiles (WholeFile name content ∷ []) old new ended
  file_stopped why part cause ended h =
      subst (ShelvesFiles (WholeFile name content ∷ []) old new) (error_is ended why h) (record {
        done = tt;
        part = record {
          whatever = λ written.
              part_one (WholeFile name content) (part_file old.files new.files name content written part);
        };
        cause = cause;
        room = room;
        closed = tt;
      })
