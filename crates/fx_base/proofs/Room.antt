-- What acts do to the room that files take, and to whether a file is begun.
use Rattle.std.proofs.Common.{ℕ, ◌≡◌, ◌+◌, ◌++◌, true, false, not, length, List, [], ◌∷◌, map, refl, ◌∙◌, arith}
use Rattle.std.proofs.Common.{length-append}
use Rattle.fx_base.specs.Acts.{FileByte, File, shelved, on_last, with_byte, as_ended}
use Rattle.fx_base.specs.Memory.{has_open, room_of}

-- lists of files with one more at the end
pub room_of-snoc : (files : List File) (f : File) → room_of (files ++ f ∷ []) ≡ room_of files + (64 + length f.content)
room_of-snoc [] f = omega arith
room_of-snoc (g ∷ files) f = let rest = room_of-snoc files f in omega arith

pub has_open-snoc : (files : List File) (f : File) → has_open (files ++ f ∷ []) ≡ not f.ended
has_open-snoc [] f = refl
has_open-snoc (g ∷ []) f = refl
has_open-snoc (g ∷ h ∷ files) f = has_open-snoc (h ∷ files) f

-- the last file given bytes, or ended
part_byte : (byte : ℕ) (files : List File) → has_open (on_last (with_byte byte) files) ≡ has_open files
part_byte byte [] = refl
part_byte byte (f ∷ []) = refl
part_byte byte (f ∷ g ∷ []) = refl
part_byte byte (f ∷ g ∷ h ∷ files) = part_byte byte (g ∷ h ∷ files)

room_byte : (byte : ℕ) (files : List File) → has_open files ≡ true
    → room_of (on_last (with_byte byte) files) ≡ room_of files + 1
room_byte byte [] begun = cc
room_byte byte (f ∷ []) begun = let long = length-append f.content (byte ∷ []) in omega arith
room_byte byte (f ∷ g ∷ files) begun = let rest = room_byte byte (g ∷ files) begun in omega arith

pub part_bytes : (bytes : List ℕ) (files : List File) → has_open (shelved (map FileByte bytes) files) ≡ has_open files
part_bytes [] files = refl
part_bytes (byte ∷ bytes) files = part_bytes bytes (on_last (with_byte byte) files) ∙ part_byte byte files

pub room_bytes : (bytes : List ℕ) (files : List File) → has_open files ≡ true
    → room_of (shelved (map FileByte bytes) files) ≡ room_of files + length bytes
room_bytes [] files begun = omega arith
room_bytes (byte ∷ bytes) files begun =
    let one = room_byte byte files begun in
    let rest = room_bytes bytes (on_last (with_byte byte) files) (part_byte byte files ∙ begun) in
    omega arith

pub open_ended : (files : List File) → has_open (on_last as_ended files) ≡ false
open_ended [] = refl
open_ended (f ∷ []) = refl
open_ended (f ∷ g ∷ []) = refl
open_ended (f ∷ g ∷ h ∷ files) = open_ended (g ∷ h ∷ files)

pub room_ended : (files : List File) → room_of (on_last as_ended files) ≡ room_of files
room_ended [] = refl
room_ended (f ∷ []) = refl
room_ended (f ∷ g ∷ files) = let rest = room_ended (g ∷ files) in omega arith
