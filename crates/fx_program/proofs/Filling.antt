-- Bytes that were appended one after another to a file that is begun.
use Rattle.std.proofs.Common.{ℕ, ◌≡◌, List, [], ◌∷◌, ◌++◌, Result, Ok, Err, map, take}
use Rattle.std.proofs.Common.{refl, sym, ap, subst, ◌∙◌, true, get_or, inl}
use Rattle.std.specs.Prelude.{IsErrAnd}
use Rattle.std.proofs.lemmas.List.{map-append}
use Rattle.std.proofs.lemmas.Result.{on_ok_weaker}
use Rattle.fx_base.specs.Faults.{IsUnchanged, Rose}
use Rattle.fx_base.specs.Acts.{Act, FileByte, Shelves, ShelvesPart}
use Rattle.fx_base.proofs.Doing.{fill_part, shelves_more, shelves_none, shelves_part_first, shelves_part_more, shelves_part_whole}
use Rattle.fx_program.specs.declared.stop.Stop.{Stop}
use Rattle.fx_program.specs.declared.stop.Stop.TheVariants as stop
use Rattle.fx_program.specs.Stops.{HasCause, SomeRose}
use Rattle.fx_program.specs.Outside.{Fills, ShelfView}
use Rattle.fx_program.proofs.Endings.{error_is, same_stop}

-- these bytes were appended so far, and no call has failed
pub record FilledSoFar (bytes : List ℕ) (old new : ShelfView) : Type 0 where
  pub files : Shelves old.files new.files (map FileByte bytes)
  pub begun : new.begun ≡ true
  pub count : new.faults ≡ old.faults
  pub room : new.room ≡ old.room

-- before the first byte
pub filled_none : (old : ShelfView) → old.begun ≡ true → FilledSoFar [] old old
filled_none old begun = record { files = shelves_none old.files; begun = begun; count = refl; room = refl }

-- all are appended
pub filled_all : {T : Type 0} {bytes : List ℕ} {old new : ShelfView} (x : T) → FilledSoFar bytes old new
    → Fills bytes old new (Ok x)
filled_all {bytes} {old} {new} x so_far = record {
  done = so_far.files;
  part = shelves_part_whole old.files new.files (map FileByte bytes) so_far.files;
  cause = record { failed = λ e. absurd (cc e); unchanged = λ e. ap (λ n. n ∷ []) so_far.count };
  room = so_far.room;
  begun = so_far.begun;
}

pub so_far_of : {T : Type 0} {bytes : List ℕ} {old new : ShelfView} {x : T} → Fills bytes old new (Ok x)
    → FilledSoFar bytes old new
so_far_of filled = record {
  files = filled.done;
  begun = filled.begun;
  count = ap (λ (l : List ℕ). get_or l 0 0) (filled.cause.unchanged (λ e. absurd (cc e)));
  room = filled.room;
}

-- stopped before the next byte
pub filled_stopped : {T : Type 0} {bytes : List ℕ} (rest : List ℕ) {old new : ShelfView} → FilledSoFar bytes old new
    → (ended : Result T Stop) → IsErrAnd ended (λ e. e ≡ stop.NoMemory) → Fills (bytes ++ rest) old new ended
filled_stopped {T} {bytes} rest {old} {new} so_far ended h =
    subst (Fills (bytes ++ rest) old new) (error_is ended stop.NoMemory h) (record {
      done = tt;
      part = subst (λ (acts : List Act). ShelvesPart old.files new.files acts) (sym (map-append FileByte bytes rest))
          (shelves_part_first old.files new.files (map FileByte bytes) (map FileByte rest)
          (shelves_part_whole old.files new.files (map FileByte bytes) so_far.files));
      cause = record { failed = λ e. absurd (cc e); unchanged = λ e. ap (λ n. n ∷ []) so_far.count };
      room = so_far.room;
      begun = tt;
    })

-- then others
pub filled_then : {T : Type 0} {first second : List ℕ} {old mid new : ShelfView} {ended : Result T Stop}
    → FilledSoFar first old mid → Fills second mid new ended → Fills (first ++ second) old new ended
filled_then {T} {first} {second} {old} {mid} {new} {ended} so_far then =
    let acts : map FileByte (first ++ second) ≡ map FileByte first ++ map FileByte second =
    map-append FileByte first second in
    record {
      done = on_ok_weaker ended
          (λ did. subst (λ (l : List Act). Shelves old.files new.files l) (sym acts)
          (shelves_more old.files mid.files new.files (map FileByte first) (map FileByte second) so_far.files did))
          then.done;
      part = subst (λ (l : List Act). ShelvesPart old.files new.files l) (sym acts)
          (shelves_part_more old.files mid.files new.files (map FileByte first) (map FileByte second) so_far.files
          then.part);
      cause = subst (λ (n : ℕ). HasCause (n ∷ []) (new.faults ∷ []) ended) so_far.count then.cause;
      room = then.room ∙ so_far.room;
      begun = then.begun;
    }

pub filled_more : {T : Type 0} {first second : List ℕ} {old mid new : ShelfView} {x : T}
    → FilledSoFar first old mid → Fills second mid new (Ok x) → FilledSoFar (first ++ second) old new
filled_more so_far then = so_far_of (filled_then so_far then)

-- with others left out
pub filled_first : {T U : Type 0} {first : List ℕ} (rest : List ℕ) {old new : ShelfView} (why : Stop)
    → Fills {T = T} first old new (Err why) → (ended : Result U Stop) → IsErrAnd ended (λ e. e ≡ why)
    → Fills (first ++ rest) old new ended
filled_first {T} {U} {first} rest {old} {new} why filled ended h =
    subst (Fills (first ++ rest) old new) (error_is ended why h) (record {
      done = tt;
      part = subst (λ (acts : List Act). ShelvesPart old.files new.files acts) (sym (map-append FileByte first rest))
          (shelves_part_first old.files new.files (map FileByte first) (map FileByte rest) filled.part);
      cause = record {
        failed = λ e. filled.cause.failed (same_stop why stop.Failed e);
        unchanged = λ other. filled.cause.unchanged (λ e. other (same_stop why stop.Failed e));
      };
      room = filled.room;
      begun = tt;
    })

-- stopped for a failed call
pub failed_since : {T : Type 0} (old mid new : ℕ) → mid ≡ old → Rose mid new
    → HasCause {T = T} (old ∷ []) (new ∷ []) (Err stop.Failed)
failed_since old mid new same rose = record {
  failed = λ e. inl (subst (λ (n : ℕ). Rose n new) same rose);
  unchanged = λ other. absurd (other refl);
}

-- for whatever cause
pub stopped_since : {T U : Type 0} (old mid new : ℕ) (why : Stop) → mid ≡ old
    → HasCause {T = T} (mid ∷ []) (new ∷ []) (Err why) → HasCause {T = U} (old ∷ []) (new ∷ []) (Err why)
stopped_since old mid new why same cause = record {
  failed = λ e. subst (λ (n : ℕ). SomeRose (n ∷ []) (new ∷ [])) same (cause.failed (same_stop why stop.Failed e));
  unchanged = λ other.
      cause.unchanged (λ e. other (same_stop why stop.Failed e)) ∙ ap (λ (n : ℕ). n ∷ []) same;
}

-- a call failed after these bytes
pub filled_failed : {T : Type 0} (bytes : List ℕ) (from : ℕ) {old mid new : ShelfView}
    → FilledSoFar (take from bytes) old mid → IsUnchanged mid.files new.files → Rose mid.faults new.faults
    → new.room ≡ mid.room → (ended : Result T Stop) → IsErrAnd ended (λ e. e ≡ stop.Failed) → Fills bytes old new ended
filled_failed bytes from {old} {mid} {new} so_far same rose room ended h =
    subst (Fills bytes old new) (error_is ended stop.Failed h) (record {
      done = tt;
      part = fill_part old.files mid.files new.files bytes from so_far.files same;
      cause = failed_since old.faults mid.faults new.faults so_far.count rose;
      room = room ∙ so_far.room;
      begun = tt;
    })
