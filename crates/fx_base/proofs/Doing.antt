-- Acts done one after another: acts and front parts of acts compose, over loops too.
use Rattle.std.proofs.Common.{ℕ, ◌≡◌, ◌<◌, ◌≤◌, ◌+◌, ◌++◌, suc, get_or, length, List, [], ◌∷◌, map, take, drop, Option}
use Rattle.std.proofs.Common.{refl, sym, ap, subst, append_assoc}
use Rattle.std.proofs.lemmas.List.{append-nil, take_all, map-append, take-append-drop}
use Rattle.std.proofs.Math.Seq.{take-add}
use Rattle.fx_base.specs.Faults.{IsUnchanged}
use Rattle.fx_base.specs.Pieces.{joined}
use Rattle.fx_base.specs.Writing.{Appends, AppendsPart}
use Rattle.fx_base.specs.Acts.{Act, ListByte, BeginFile, FileByte, EndFile, File, listed, shelved, Shelves, ShelvesPart}
use Rattle.fx_base.specs.Acts.{Event, Piece, acts_of, acts, World, Did, DidPart}
use Rattle.fx_base.proofs.Held.{one_more, split_at}
use Rattle.fx_base.proofs.Joined.{joined-append}

pub listed-append : (xs ys : List Act) → listed (xs ++ ys) ≡ listed xs ++ listed ys
listed-append [] ys = refl
listed-append (ListByte b ∷ xs) ys = cc (listed-append xs ys)
listed-append (BeginFile name ∷ xs) ys = listed-append xs ys
listed-append (FileByte b ∷ xs) ys = listed-append xs ys
listed-append (EndFile ∷ xs) ys = listed-append xs ys

pub shelved-append : (xs ys : List Act) (files : List File) → shelved (xs ++ ys) files ≡ shelved ys (shelved xs files)
shelved-append [] ys files = refl
shelved-append (ListByte b ∷ xs) ys files = shelved-append xs ys files
shelved-append (BeginFile name ∷ xs) ys files = shelved-append xs ys _
shelved-append (FileByte b ∷ xs) ys files = shelved-append xs ys _
shelved-append (EndFile ∷ xs) ys files = shelved-append xs ys _

pub acts-append : (xs ys : List Event) → acts (xs ++ ys) ≡ acts xs ++ acts ys
acts-append [] ys = refl
acts-append (e ∷ xs) ys = cc (acts-append xs ys, append_assoc (acts_of e) (acts xs) (acts ys))

pub listed-bytes : (bytes : List ℕ) → listed (map ListByte bytes) ≡ bytes
listed-bytes [] = refl
listed-bytes (b ∷ bytes) = cc (listed-bytes bytes)

pub shelved-bytes : (bytes : List ℕ) (files : List File) → shelved (map ListByte bytes) files ≡ files
shelved-bytes [] files = refl
shelved-bytes (b ∷ bytes) files = shelved-bytes bytes files

-- on the shelf alone
pub shelves_none : (old : Option (List File)) → Shelves old old []
shelves_none old = record { exposed = λ files e. e }

pub shelves_more : (old mid new : Option (List File)) (xs ys : List Act) → Shelves old mid xs → Shelves mid new ys
    → Shelves old new (xs ++ ys)
shelves_more old mid new xs ys a b = record {
  exposed = λ files e. cc (b.exposed (shelved xs files) (a.exposed files e), shelved-append xs ys files);
}

pub shelves_part_more : (old mid new : Option (List File)) (xs ys : List Act) → Shelves old mid xs
    → ShelvesPart mid new ys → ShelvesPart old new (xs ++ ys)
shelves_part_more old mid new xs ys a b = record {
  done = xs ++ b.done;
  left = b.left;
  front = cc (append_assoc xs b.done b.left, b.front);
  did = shelves_more old mid new xs b.done a b.did;
}

pub shelves_part_first : (old new : Option (List File)) (xs ys : List Act) → ShelvesPart old new xs
    → ShelvesPart old new (xs ++ ys)
shelves_part_first old new xs ys a = record {
  done = a.done;
  left = a.left ++ ys;
  front = cc (append_assoc a.done a.left ys, a.front);
  did = a.did;
}

pub shelves_part_none : (old new : Option (List File)) (xs : List Act) → IsUnchanged old new → ShelvesPart old new xs
shelves_part_none old new xs same = record {
  done = [];
  left = xs;
  front = refl;
  did = record { exposed = λ files e. same.exposed files e };
}

pub shelves_part_whole : (old new : Option (List File)) (xs : List Act) → Shelves old new xs → ShelvesPart old new xs
shelves_part_whole old new xs a = record { done = xs; left = []; front = append-nil xs; did = a }

-- on listing and shelf
pub did_none : (w : World) → Did w w []
did_none w = record {
  listing = record { exposed = λ text e. cc (e, append-nil text) };
  shelf = shelves_none w.files;
}

pub did_more : {a b c : World} {xs ys : List Act} → Did a b xs → Did b c ys → Did a c (xs ++ ys)
did_more {a} {b} {c} {xs} {ys} p q = record {
  listing = record {
    exposed = λ text e. cc (
      q.listing.exposed (text ++ listed xs) (p.listing.exposed text e),
      append_assoc text (listed xs) (listed ys),
      listed-append xs ys,
    );
  };
  shelf = shelves_more a.files b.files c.files xs ys p.shelf q.shelf;
}

pub part_whole : {a b : World} {xs : List Act} → Did a b xs → DidPart a b xs
part_whole {a} {b} {xs} p = record { done = xs; left = []; front = append-nil xs; did = p }

pub part_none : (w : World) (xs : List Act) → DidPart w w xs
part_none w xs = record { done = []; left = xs; front = refl; did = did_none w }

pub part_more : {a b c : World} {xs ys : List Act} → Did a b xs → DidPart b c ys → DidPart a c (xs ++ ys)
part_more {a} {b} {c} {xs} {ys} p q = record {
  done = xs ++ q.done;
  left = q.left;
  front = cc (append_assoc xs q.done q.left, q.front);
  did = did_more p q.did;
}

pub part_first : {a b : World} {xs : List Act} (ys : List Act) → DidPart a b xs → DidPart a b (xs ++ ys)
part_first {a} {b} {xs} ys p = record {
  done = p.done;
  left = p.left ++ ys;
  front = cc (append_assoc p.done p.left ys, p.front);
  did = p.did;
}

-- from the calls on one object
pub did_piece : (old new : Option (List ℕ)) (files : Option (List File)) (bytes : List ℕ) → Appends old new bytes
    → Did (record { written = old; files = files }) (record { written = new; files = files }) (acts_of (Piece bytes))
did_piece old new files bytes a = record {
  listing = rw (listed-bytes bytes) a;
  shelf = record { exposed = λ held e. cc (e, shelved-bytes bytes held) };
}

pub part_piece : (old new : Option (List ℕ)) (files : Option (List File)) (bytes : List ℕ) → AppendsPart old new bytes
    → DidPart (record { written = old; files = files }) (record { written = new; files = files })
    (acts_of (Piece bytes))
part_piece old new files bytes a = record {
  done = map ListByte (take a.part bytes);
  left = map ListByte (drop a.part bytes);
  front = cc (map-append ListByte (take a.part bytes) (drop a.part bytes), take-append-drop a.part bytes);
  did = did_piece old new files (take a.part bytes) a.appended;
}

-- the loop that fills a file
pub fill_more : (old mid new : Option (List File)) (bytes : List ℕ) (from n : ℕ)
    → Shelves old mid (map FileByte (take from bytes)) → Shelves mid new (map FileByte (take n (drop from bytes)))
    → Shelves old new (map FileByte (take (from + n) bytes))
fill_more old mid new bytes from n a b = subst (λ (l : List Act). Shelves old new l)
    (cc (map-append FileByte (take from bytes) (take n (drop from bytes)), take-add from n bytes))
    (shelves_more old mid new _ _ a b)

pub fill_part : (old mid new : Option (List File)) (bytes : List ℕ) (from : ℕ)
    → Shelves old mid (map FileByte (take from bytes)) → IsUnchanged mid new → ShelvesPart old new (map FileByte bytes)
fill_part old mid new bytes from a same = subst (λ (l : List Act). ShelvesPart old new l)
    (cc (map-append FileByte (take from bytes) (drop from bytes), take-append-drop from bytes))
    (shelves_part_more old mid new (map FileByte (take from bytes)) (map FileByte (drop from bytes)) a
    (shelves_part_none mid new _ same))

pub fill_whole : (old new : Option (List File)) (bytes : List ℕ) (from : ℕ) → length bytes ≤ from
    → Shelves old new (map FileByte (take from bytes)) → Shelves old new (map FileByte bytes)
fill_whole old new bytes from all a =
    rw (take_all from bytes all) at a

-- the loop that fills a file from pieces
pub pieces_more : (old mid new : Option (List File)) (pieces : List (List ℕ)) (i : ℕ) (piece : List ℕ)
    → i < length pieces → piece ≡ get_or pieces i piece
    → Shelves old mid (map FileByte (joined (take i pieces))) → Shelves mid new (map FileByte piece)
    → Shelves old new (map FileByte (joined (take (i + 1) pieces)))
pieces_more old mid new pieces i piece there is a b = subst (λ (l : List Act). Shelves old new l)
    (cc (
      map-append FileByte (joined (take i pieces)) piece,
      one_more joined joined-append pieces i piece [] (joined (take i pieces)) (joined (take i pieces) ++ piece) there is
          refl (ap (λ (l : List ℕ). joined (take i pieces) ++ l) (sym (append-nil piece))),
    ))
    (shelves_more old mid new _ _ a b)

pub pieces_part : (old mid new : Option (List File)) (pieces : List (List ℕ)) (i : ℕ) (piece : List ℕ)
    → i < length pieces → piece ≡ get_or pieces i piece
    → Shelves old mid (map FileByte (joined (take i pieces))) → ShelvesPart mid new (map FileByte piece)
    → ShelvesPart old new (map FileByte (joined pieces))
pieces_part old mid new pieces i piece there is a b =
    let before : List ℕ = joined (take i pieces) in
    let after : List ℕ = joined (drop (suc i) pieces) in
    subst (λ (l : List Act). ShelvesPart old new l)
    (cc (
      map-append FileByte piece after,
      map-append FileByte before (piece ++ after),
      append-nil piece,
      split_at joined joined-append pieces i piece there is,
    ))
    (shelves_part_more old mid new (map FileByte before) _ a
    (shelves_part_first mid new (map FileByte piece) (map FileByte after) b))

pub listed-file : (bytes : List ℕ) → listed (map FileByte bytes ++ EndFile ∷ []) ≡ []
listed-file [] = refl
listed-file (b ∷ bytes) = listed-file bytes

-- a list of one event
pub did_one : {a b : World} (e : Event) → Did a b (acts_of e) → Did a b (acts (e ∷ []))
did_one {a} {b} e p = rw (append-nil (acts_of e)) p

pub part_one : {a b : World} (e : Event) → DidPart a b (acts_of e) → DidPart a b (acts (e ∷ []))
part_one {a} {b} e p = rw (append-nil (acts_of e)) p

-- lists of events one after another
pub did_then : {a b c : World} (xs ys : List Event) → Did a b (acts xs) → Did b c (acts ys) → Did a c (acts (xs ++ ys))
did_then {a} {b} {c} xs ys p q = rw (acts-append xs ys) (did_more p q)

pub part_then : {a b c : World} (xs ys : List Event) → Did a b (acts xs) → DidPart b c (acts ys)
    → DidPart a c (acts (xs ++ ys))
part_then {a} {b} {c} xs ys p q = rw (acts-append xs ys) (part_more p q)

pub part_before : {a b : World} (xs ys : List Event) → DidPart a b (acts xs) → DidPart a b (acts (xs ++ ys))
part_before {a} {b} xs ys p = rw (acts-append xs ys) (part_first (acts ys) p)
