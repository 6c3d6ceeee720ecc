-- Steps of reading to the end and of writing a whole piece.
use Rattle.std.proofs.Common.{ℕ, ◌≡◌, ◌<◌, ◌≤◌, ◌+◌, ◌++◌, List, [], length, take, drop, Option, Some, zero, suc, refl}
use Rattle.std.proofs.Common.{◌∙◌, ap, arith, append_assoc, length-append, length-drop}
use Rattle.std.proofs.lemmas.List.{take_all, length-take-le, drop-drop}
use Rattle.std.proofs.Math.Seq.{take-add}
use Rattle.fx_base.specs.Reading.{Takes, TakesFrom, IsAllLeft, IsOverLimit, LeavesRest}
use Rattle.fx_base.specs.Faults.{IsUnchanged}
use Rattle.fx_base.specs.Writing.{Appends, AppendsPart}

-- a front part of the piece, and then a front part of the rest
pub appends_more : (old mid new : Option (List ℕ)) (piece : List ℕ) (from n : ℕ)
    → Appends old mid (take from piece) → Appends mid new (take n (drop from piece))
    → Appends old new (take (from + n) piece)
appends_more old mid new piece from n a b = record {
  exposed = λ text e. cc (
    b.exposed (text ++ take from piece) (a.exposed text e),
    append_assoc text (take from piece) (take n (drop from piece)),
    take-add from n piece,
  );
}

-- a front part of the piece, and then a call that appended nothing
pub appends_part : (old mid new : Option (List ℕ)) (piece : List ℕ) (from : ℕ)
    → Appends old mid (take from piece) → IsUnchanged mid new → AppendsPart old new piece
appends_part old mid new piece from a same = record {
  part = from;
  appended = record { exposed = λ text e. same.exposed (text ++ take from piece) (a.exposed text e) };
}

-- what stands after these bytes of the text were read
pub record ReadFrom (text : List ℕ) (now : Option (List ℕ)) (bytes : List ℕ) : Type 0 where
  pub some : length bytes ≤ length text
  pub front : bytes ≡ take (length bytes) text
  pub rest : now ≡ Some (drop (length bytes) text)

-- these bytes were read so far
pub record HasRead (left now : Option (List ℕ)) (bytes : List ℕ) : Type 0 where
  pub exposed : (text : List ℕ) → left ≡ Some text → ReadFrom text now bytes

pub read_more : (left mid now : Option (List ℕ)) (bytes buffer grown : List ℕ) (n : ℕ)
    → HasRead left mid bytes → Takes mid now buffer n → n ≤ length buffer → grown ≡ bytes ++ take n buffer
    → HasRead left now grown
read_more left mid now bytes buffer grown n a b within is = record {
  exposed = λ text e.
      let old : ReadFrom text mid bytes = a.exposed text e in
      let new : TakesFrom (drop (length bytes) text) now buffer n = b.exposed (drop (length bytes) text) old.rest in
      let there = new.some in
      let left_over = length-drop (length bytes) text in
      let got : length (take n buffer) ≡ n = length-take-le n buffer within in
      let long : length grown ≡ length bytes + n =
      cc (is, length-append bytes (take n buffer), got) in
      record {
        some = omega (arith, old.some);
        front = cc (is, old.front, new.front, take-add (length bytes) n text, long);
        rest = cc (new.rest, drop-drop n (length bytes) text, long);
      };
}

drop_nil : (n : ℕ) → drop {A = ℕ} n [] ≡ []
drop_nil zero = refl
drop_nil (suc n) = refl

-- a read that gave nothing shows the end
pub read_whole : (left mid now : Option (List ℕ)) (bytes buffer : List ℕ) (n limit : ℕ)
    → HasRead left mid bytes → Takes mid now buffer n → n ≡ 0 → 0 < length buffer → length bytes ≤ limit
    → IsAllLeft left now limit bytes
read_whole left mid now bytes buffer n limit a b none room within =
    let at_end : (text : List ℕ) → left ≡ Some text → drop (length bytes) text ≡ [] =
    λ text e. (b.exposed (drop (length bytes) text) (a.exposed text e).rest).end none room in
    record {
      within = within;
      all = λ text e.
          let left_over = length-drop (length bytes) text in
          let gone = ap length (at_end text e) in
          (a.exposed text e).front ∙ take_all (length bytes) text (omega arith);
      end = λ text e.
          (b.exposed (drop (length bytes) text) (a.exposed text e).rest).rest
          ∙ ap Some (ap (drop n) (at_end text e) ∙ drop_nil n);
    }

-- more bytes than the limit were read
pub read_over : (left now : Option (List ℕ)) (bytes : List ℕ) (limit : ℕ) → HasRead left now bytes
    → limit < length bytes → IsOverLimit left limit
read_over left now bytes limit a over =
    record { exposed = λ text e. let there = (a.exposed text e).some in omega arith }

-- what is left after the bytes that were read and a call that took more
pub read_rest_more : (left mid now : Option (List ℕ)) (bytes buffer : List ℕ) (n : ℕ)
    → HasRead left mid bytes → Takes mid now buffer n → LeavesRest left now
read_rest_more left mid now bytes buffer n a b = record {
  taken = length bytes + n;
  exposed = λ text e. (b.exposed (drop (length bytes) text) (a.exposed text e).rest).rest ∙ ap Some
      (drop-drop n (length bytes) text);
}

-- the same after a call that failed
pub read_rest_failed : (left mid now : Option (List ℕ)) (bytes : List ℕ) → HasRead left mid bytes → IsUnchanged mid now
    → LeavesRest left now
read_rest_failed left mid now bytes a same = record {
  taken = length bytes;
  exposed = λ text e. same.exposed (drop (length bytes) text) (a.exposed text e).rest;
}
