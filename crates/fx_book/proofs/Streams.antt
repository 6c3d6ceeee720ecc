-- Bytes that are written to a sink one part after another.
use Rattle.std.proofs.Common.{ℕ, ◌≡◌, ◌+◌, ◌≤◌, ◌++◌, [], List, take, drop, length, Option, Result, Ok, Err, refl}
use Rattle.std.proofs.Common.{sym}
use Rattle.std.proofs.Common.{subst, append_assoc}
use Rattle.std.specs.Prelude.{IsErrAnd}
use Rattle.std.proofs.lemmas.List.{append-nil, take-append-drop}
use Rattle.std.proofs.lemmas.Result.{on_ok_weaker}
use Rattle.std.proofs.Math.Seq.{take-append-add, take-append_seam, take-length}
use Rattle.fx_base.specs.Faults.{Rose}
use Rattle.fx_base.specs.Writing.{Appends, AppendsPart}
use Rattle.fx_base.specs.declared.sink.Sink as sink
use Rattle.fx_book.specs.declared.streaming.WriteStop.{WriteStop}
use Rattle.fx_book.specs.declared.streaming.WriteStop.TheVariants.{NoMemory, WriteFault}
use Rattle.fx_book.specs.Streaming.{HasWriteCause, WritesTo}

appends_none : (old : Option (List ℕ)) (bytes : List ℕ) → AppendsPart old old bytes
appends_none old bytes = record {
  part = 0;
  appended = record { exposed = λ text e. cc (append-nil text) };
}

appends_then : {old mid new : Option (List ℕ)} (first second : List ℕ) → Appends old mid first → Appends mid new second
    → Appends old new (first ++ second)
appends_then first second a b = record {
  exposed = λ text e. cc (b.exposed (text ++ first) (a.exposed text e), append_assoc text first second);
}

part_first : {old new : Option (List ℕ)} (first second : List ℕ) → AppendsPart old new first
    → AppendsPart old new (first ++ second)
part_first {old} {new} first second a =
    let front = take a.part first in
    let same : take (length front) (first ++ second) ≡ front =
    cc (
      take-append-drop a.part first,
      append_assoc front (drop a.part first) second,
      take-append_seam front
          (drop a.part first ++ second),
    ) in
    record { part = length front; appended = subst (Appends old new) (sym same) a.appended }

part_then : {old mid new : Option (List ℕ)} (first second : List ℕ) → Appends old mid first
    → AppendsPart mid new second
    → AppendsPart old new (first ++ second)
part_then {old} {mid} {new} first second a b = record {
  part = length first + b.part;
  appended =
      subst (Appends old new) (sym (take-append-add first second b.part))
      (appends_then first _ a b.appended);
}

-- a result that is an error, and why
error_is : {T : Type 0} (ended : Result T WriteStop) (why : WriteStop) → IsErrAnd ended (λ e. e ≡ why)
    → Err why ≡ ended
error_is (Ok x) why h = absurd h
error_is (Err e) why h = cc

module _ {K : Type 0} (members : sink.Ghosts K) where
  -- no bytes were written yet
  pub none_written : {T : Type 0} (x : T) (it : K) → WritesTo members [] it it (Ok x)
  none_written x it = record {
    done = record { exposed = λ text e. cc (append-nil text) };
    part = appends_none _ [];
    cause = refl;
    room = refl;
  }

  module _ {T : Type 0} (bytes : List ℕ) where
    -- memory ran out before anything was written
    pub nothing_written : (it : K) (ended : Result T WriteStop) → IsErrAnd ended (λ e. e ≡ NoMemory)
        → WritesTo members bytes it it ended
    nothing_written it ended h = subst (WritesTo members bytes it it) (error_is ended NoMemory h) (record {
      done = tt;
      part = appends_none _ bytes;
      cause = refl;
      room = refl;
    })

    module _ {old new : K} (room : members.room new ≡ members.room old) where
      pub all_written : (x : T) → Appends (members.written old) (members.written new) bytes
          → members.faults new ≡ members.faults old
          → WritesTo members bytes old new (Ok x)
      all_written x done same = record {
        done = done;
        part = record {
          part = length bytes;
          appended =
              subst (Appends (members.written old) (members.written new)) (sym (take-length bytes)) done;
        };
        cause = same;
        room = room;
      }

      -- a call failed
      pub cut_written : (ended : Result T WriteStop) → IsErrAnd ended (λ e. e ≡ WriteFault)
          → AppendsPart (members.written old) (members.written new) bytes
          → Rose (members.faults old) (members.faults new)
          → members.faults old ≤ members.faults new
          → WritesTo members bytes old new ended
      cut_written ended h part rose later =
          subst (WritesTo members bytes old new) (error_is ended WriteFault h) (record {
            done = tt;
            part = part;
            cause = (rose, later);
            room = room;
          })

  -- a stop is the same of another call
  stop_cause : (T U : Type 0) (before now : ℕ) (why : WriteStop) → HasWriteCause {T = T} before now (Err why)
      → HasWriteCause {T = U} before now (Err why)
  stop_cause T U before now NoMemory h = h
  stop_cause T U before now WriteFault h = h

  module _ {T U : Type 0} (first second : List ℕ) {old new : K} where
    -- stopped in the first part
    pub stopped_first : (why : WriteStop) → WritesTo {T = T} members first old new (Err why)
        → (ended : Result U WriteStop)
        → IsErrAnd ended (λ e. e ≡ why) → WritesTo members (first ++ second) old new ended
    stopped_first why written ended h =
        subst (WritesTo members (first ++ second) old new) (error_is ended why h) (record {
          done = tt;
          part = part_first first second written.part;
          cause = stop_cause T U _ _ why written.cause;
          room = written.room;
        })

    -- the first part, and then the second
    pub written_then : {mid : K} {x : T} {ended : Result U WriteStop} → WritesTo members first old mid (Ok x)
        → WritesTo members second mid new ended
        → WritesTo members (first ++ second) old new ended
    written_then {mid} {x} {ended} one two = record {
      done = on_ok_weaker ended (appends_then first second one.done) two.done;
      part = part_then first second one.done two.part;
      cause = rw one.cause at two.cause;
      room = cc;
    }
