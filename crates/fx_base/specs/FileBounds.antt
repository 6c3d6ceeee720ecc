-- Files that lie one after another in one buffer, each between its bounds.
use Rattle.std.specs.Prelude.{ℕ, ◌≡◌, ◌≤◌, ◌-◌, ◌*◌, ◌/◌, List, [], ◌∷◌, length, map, take, drop}
use Rattle.fx_base.specs.Acts.{File}
use Rattle.fx_base.specs.Memory.{room_of}
use Rattle.fx_base.specs.declared.file_bounds.FileBounds.{FileBounds}

-- the file between these bounds: its name, and then its content
abbrev pub file_at : List ℕ → FileBounds → File
file_at buffer b = record {
  name = take (b.content - b.name) (drop b.name buffer);
  content = take (b.end - b.content) (drop b.content buffer);
  ended = b.ended;
}

-- the bounds are in order and within the buffer
pub record IsWithin (buffer : List ℕ) (b : FileBounds) : Type 0 where
  pub name : b.name ≤ b.content
  pub content : b.content ≤ b.end
  pub end : b.end ≤ length buffer

-- each file within these bytes
abbrev pub AllWithin : List ℕ → List FileBounds → Type 0
AllWithin buffer [] = Unit {0}
AllWithin buffer (b ∷ bounds) = IsWithin buffer b × AllWithin buffer bounds

-- the last file ends at n
abbrev pub LastEndsAt : ℕ → List FileBounds → Type 0
LastEndsAt n [] = Unit {0}
LastEndsAt n (b ∷ []) = b.end ≡ n
LastEndsAt n (b ∷ next ∷ bounds) = LastEndsAt n (next ∷ bounds)

-- the files lie in the buffer, the last at its end; they fit the room, for which all memory is taken
pub record IsFileBuffer (buffer : List ℕ) (bounds : List FileBounds)
    (buffer_capacity bounds_capacity used room : ℕ) : Type 0 where
  pub within : AllWithin buffer bounds
  pub last : LastEndsAt (length buffer) bounds
  pub counted : used ≡ room_of (map (file_at buffer) bounds)
  pub fits : used ≤ room
  pub buffer_fits : length buffer ≤ used
  pub buffer_reserved : room ≤ buffer_capacity
  pub bounds_fit : 64 * length bounds ≤ used
  pub bounds_reserved : room / 64 ≤ bounds_capacity
