-- Files that lie one after another in one buffer: what a file begun, given bytes or ended does to their list.
use Rattle.std.proofs.Common.{ℕ, ◌≡◌, ◌≤◌, ◌<◌, ◌+◌, ◌-◌, ◌++◌, true, false, length, List, [], ◌∷◌, map, take, drop}
use Rattle.std.proofs.Common.{get_or, zero, suc, Some, slice_get, refl, sym, ◌∙◌, ap, ap₂, subst, arith}
use Rattle.std.proofs.Common.{length-drop, length-append}
use Rattle.std.proofs.lemmas.List.{take_all, take-append-le, drop-append-le, map-append}
use Rattle.std.proofs.Math.Seq.{drop-append_seam}
use Rattle.std.proofs.lemmas.Option.{slice_get-map, slice_get-get_or}
use Rattle.fx_base.specs.declared.file_bounds.FileBounds.{FileBounds}
use Rattle.fx_base.specs.Acts.{File, shelved, FileByte, EndFile, as_ended}
use Rattle.fx_base.specs.Memory.{room_of}
use Rattle.fx_base.specs.FileBounds.{file_at, IsWithin, AllWithin, LastEndsAt, IsFileBuffer}
use Rattle.fx_base.proofs.Room.{room_of-snoc}
use Rattle.fx_base.proofs.Words.{shelved-content, on_last-at}

-- bounds with one more at the end
pub last_of : (n : ℕ) (front : List FileBounds) (b : FileBounds) → LastEndsAt n (front ++ b ∷ []) → b.end ≡ n
last_of n [] b e = e
last_of n (g ∷ []) b e = e
last_of n (g ∷ h ∷ front) b e = last_of n (h ∷ front) b e

last_is : (n : ℕ) (front : List FileBounds) (b : FileBounds) → b.end ≡ n → LastEndsAt n (front ++ b ∷ [])
last_is n [] b e = e
last_is n (g ∷ []) b e = e
last_is n (g ∷ h ∷ front) b e = last_is n (h ∷ front) b e

within_front : (buffer : List ℕ) (front : List FileBounds) (b : FileBounds) → AllWithin buffer (front ++ b ∷ [])
    → AllWithin buffer front × IsWithin buffer b
within_front buffer [] b w = (tt, w.0)
within_front buffer (g ∷ front) b w = let rest = within_front buffer front b w.1 in ((w.0, rest.0), rest.1)

within_snoc : (buffer : List ℕ) (front : List FileBounds) (b : FileBounds) → AllWithin buffer front → IsWithin buffer b
    → AllWithin buffer (front ++ b ∷ [])
within_snoc buffer [] b w here = (here, tt)
within_snoc buffer (g ∷ front) b w here = (w.0, within_snoc buffer front b w.1 here)

pub within_at : (buffer : List ℕ) (bounds : List FileBounds) (i : ℕ) (d : FileBounds) → AllWithin buffer bounds
    → i < length bounds → IsWithin buffer (get_or bounds i d)
within_at buffer [] i d w there = absurd (omega arith)
within_at buffer (b ∷ bounds) zero d w there = w.0
within_at buffer (b ∷ bounds) (suc i) d w there = within_at buffer bounds i d w.1 (omega arith)

-- more bytes at the buffer's end leave the files that are there
part_of_more : (buffer more : List ℕ) (from to : ℕ) → from ≤ to → to ≤ length buffer
    → take (to - from) (drop from (buffer ++ more)) ≡ take (to - from) (drop from buffer)
part_of_more buffer more from to order inside =
    let left = length-drop from buffer in
    cc (drop-append-le from buffer more (omega arith), take-append-le (to - from) (drop from buffer) more (omega arith))

within_more : (buffer more : List ℕ) (b : FileBounds) → IsWithin buffer b → IsWithin (buffer ++ more) b
within_more buffer more b w = record {
  name = w.name;
  content = w.content;
  end = let long = length-append buffer more in let end = w.end in omega arith;
}

all_within_more : (buffer more : List ℕ) (bounds : List FileBounds) → AllWithin buffer bounds
    → AllWithin (buffer ++ more) bounds
all_within_more buffer more [] w = tt
all_within_more buffer more (b ∷ bounds) w = (within_more buffer more b w.0, all_within_more buffer more bounds w.1)

same_file : (buffer more : List ℕ) (b : FileBounds) → IsWithin buffer b → file_at (buffer ++ more) b ≡ file_at buffer b
same_file buffer more b w =
    let content = w.content in
    let end = w.end in
    cc (
      part_of_more buffer more b.name b.content w.name (omega arith),
      part_of_more buffer more b.content b.end w.content w.end,
    )

same_files : (buffer more : List ℕ) (bounds : List FileBounds) → AllWithin buffer bounds
    → map (file_at (buffer ++ more)) bounds ≡ map (file_at buffer) bounds
same_files buffer more [] w = refl
same_files buffer more (b ∷ bounds) w =
    cc (same_file buffer more b w.0, same_files buffer more bounds w.1)

-- a file begun: its name at the buffer's end
module _ (buffer name : List ℕ) (bounds : List FileBounds) (from to : ℕ) (starts : from ≡ length buffer)
    (ends : to ≡ length (buffer ++ name)) (w : AllWithin buffer bounds) where
  abbrev new : FileBounds
  new = record { name = from; content = to; end = to; ended = false }

  named : take (to - from) (drop from (buffer ++ name)) ≡ name
  named =
      let long = length-append buffer name in
      cc (starts, drop-append_seam buffer name, take_all (to - from) name (omega arith))

  no_content : take (to - to) (drop to (buffer ++ name)) ≡ []
  no_content = let none : to - to ≡ 0 = omega arith in cc none

  pub files_begun : map (file_at (buffer ++ name)) (bounds ++ new ∷ [])
      ≡ map (file_at buffer) bounds ++ record { name = name; content = []; ended = false } ∷ []
  files_begun = map-append (file_at (buffer ++ name)) bounds (new ∷ [])
      ∙ ap₂ (λ (l : List File) (f : File). l ++ f ∷ []) (same_files buffer name bounds w)
      (ap₂ (λ (n c : List ℕ). record { name = n; content = c; ended = false }) named no_content)

  pub within_begun : AllWithin (buffer ++ name) (bounds ++ new ∷ [])
  within_begun = within_snoc (buffer ++ name) bounds new (all_within_more buffer name bounds w) (record {
    name = let long = length-append buffer name in omega arith;
    content = omega arith;
    end = omega arith;
  })

-- the last file given more bytes
module _ (buffer more : List ℕ) (front : List FileBounds) (b : FileBounds) (to : ℕ)
    (ends : to ≡ length (buffer ++ more)) (w : AllWithin buffer (front ++ b ∷ []))
    (at_end : b.end ≡ length buffer) where
  abbrev longer : FileBounds
  longer = record { name = b.name; content = b.content; end = to; ended = b.ended }

  here : IsWithin buffer b
  here = (within_front buffer front b w).1

  grown : take (to - b.content) (drop b.content (buffer ++ more))
      ≡ take (b.end - b.content) (drop b.content buffer) ++ more
  grown =
      let content = here.content in
      let end = here.end in
      let left = length-drop b.content buffer in
      let long = length-append buffer more in
      let joined = length-append (drop b.content buffer) more in
      cc (
        drop-append-le b.content buffer more (omega arith),
        take_all (to - b.content) (drop b.content buffer ++ more) (omega arith),
        take_all (b.end - b.content) (drop b.content buffer) (omega arith),
      )

  abbrev fronts : List File
  fronts = map (file_at buffer) front

  longer_is : map (file_at (buffer ++ more)) (front ++ longer ∷ [])
      ≡ fronts ++ record
      { name = (file_at buffer b).name; content = (file_at buffer b).content ++ more; ended = b.ended } ∷ []
  longer_is = map-append (file_at (buffer ++ more)) front (longer ∷ [])
      ∙ ap₂ (λ (l : List File) (f : File). l ++ f ∷ []) (same_files buffer more front (within_front buffer front b w).0)
      (ap₂ (λ (n c : List ℕ). record { name = n; content = c; ended = b.ended })
      (let content = here.content in let end = here.end in
      part_of_more buffer more b.name b.content here.name (omega arith))
      grown)

  pub files_longer : map (file_at (buffer ++ more)) (front ++ longer ∷ [])
      ≡ shelved (map FileByte more) (map (file_at buffer) (front ++ b ∷ []))
  files_longer = cc (
    longer_is,
    shelved-content more fronts (file_at buffer b),
    map-append (file_at buffer) front (b ∷ []),
  )

  pub within_longer : AllWithin (buffer ++ more) (front ++ longer ∷ [])
  within_longer =
      within_snoc (buffer ++ more) front longer (all_within_more buffer more front (within_front buffer front b w).0)
      (record {
        name = here.name;
        content = let content = here.content in let long = length-append buffer more in omega arith;
        end = omega arith;
      })

  pub room_longer : room_of (map (file_at (buffer ++ more)) (front ++ longer ∷ []))
      ≡ room_of (map (file_at buffer) (front ++ b ∷ [])) + length more
  room_longer =
      let new = ap room_of longer_is
      ∙ room_of-snoc fronts
      (record { name = (file_at buffer b).name; content = (file_at buffer b).content ++ more; ended = b.ended }) in
      let old = ap room_of (map-append (file_at buffer) front (b ∷ [])) ∙ room_of-snoc fronts (file_at buffer b) in
      let long = length-append (file_at buffer b).content more in
      omega arith

-- the last file ended
module _ (buffer : List ℕ) (front : List FileBounds) (b : FileBounds) where
  abbrev closed : FileBounds
  closed = record { name = b.name; content = b.content; end = b.end; ended = true }

  closed_is : map (file_at buffer) (front ++ closed ∷ [])
      ≡ map (file_at buffer) front ++ as_ended (file_at buffer b) ∷ []
  closed_is = map-append (file_at buffer) front (closed ∷ [])

  pub files_closed : map (file_at buffer) (front ++ closed ∷ [])
      ≡ shelved (EndFile ∷ []) (map (file_at buffer) (front ++ b ∷ []))
  files_closed = cc (
    closed_is,
    on_last-at as_ended (map (file_at buffer) front) (file_at buffer b),
    map-append (file_at buffer) front (b ∷ []),
  )

  pub within_closed : AllWithin buffer (front ++ b ∷ []) → AllWithin buffer (front ++ closed ∷ [])
  within_closed w =
      let parts = within_front buffer front b w in
      let here = parts.1 in
      within_snoc buffer front closed parts.0 (record { name = here.name; content = here.content; end = here.end })

  pub room_closed : room_of (map (file_at buffer) (front ++ closed ∷ []))
      ≡ room_of (map (file_at buffer) (front ++ b ∷ []))
  room_closed =
      cc (
        closed_is,
        room_of-snoc (map (file_at buffer) front) (as_ended (file_at buffer b)),
        map-append (file_at buffer) front (b ∷ []),
        room_of-snoc (map (file_at buffer) front) (file_at buffer b),
      )

  pub last_closed : (n : ℕ) → LastEndsAt n (front ++ b ∷ []) → LastEndsAt n (front ++ closed ∷ [])
  last_closed n e = last_is n front closed (last_of n front b e)

-- What each call leaves, where `bytes` and `now` are the buffer and the bounds after it.
pub begin_keeps : (buffer name bytes : List ℕ) (bounds now : List FileBounds)
    (from to buffer_before buffer_after bounds_before bounds_after used room : ℕ)
    → IsFileBuffer buffer bounds buffer_before bounds_before used room
    → from ≡ length buffer → to ≡ length bytes → bytes ≡ buffer ++ name
    → now ≡ bounds ++ record { name = from; content = to; end = to; ended = false } ∷ []
    → length name ≤ 64 → used + 64 ≤ room → buffer_before ≤ buffer_after → bounds_before ≡ bounds_after
    → IsFileBuffer bytes now buffer_after bounds_after (used + 64) room
begin_keeps buffer name bytes bounds now from to buffer_before buffer_after bounds_before bounds_after used room k
    starts ends grown more short fits taken same =
    let ends : to ≡ length (buffer ++ name) = ends ∙ ap length grown in
    let long = length-append buffer name in
    let added = length-append bounds (record { name = from; content = to; end = to; ended = false } ∷ []) in
    let counted = k.counted in
    let buffer_fits = k.buffer_fits in
    let buffer_reserved = k.buffer_reserved in
    let bounds_fit = k.bounds_fit in
    let bounds_reserved = k.bounds_reserved in
    let room_now = ap room_of (files_begun buffer name bounds from to starts ends k.within)
    ∙ room_of-snoc (map (file_at buffer) bounds) (record { name = name; content = []; ended = false }) in
    rw (grown, more) (record {
      within = within_begun buffer name bounds from to starts ends k.within;
      last = last_is _ bounds _ ends;
      counted = omega arith;
      fits = fits;
      buffer_fits = omega arith;
      buffer_reserved = omega arith;
      bounds_fit = omega arith;
      bounds_reserved = omega arith;
    })

pub append_keeps : (buffer more bytes : List ℕ) (bounds front now : List FileBounds) (b : FileBounds)
    (to buffer_before buffer_after bounds_before bounds_after used room : ℕ)
    → IsFileBuffer buffer bounds buffer_before bounds_before used room
    → to ≡ length bytes → bytes ≡ buffer ++ more → bounds ≡ front ++ b ∷ []
    → now ≡ front ++ record { name = b.name; content = b.content; end = to; ended = b.ended } ∷ []
    → used + length more ≤ room → buffer_before ≤ buffer_after → bounds_before ≡ bounds_after
    → IsFileBuffer bytes now buffer_after bounds_after (used + length more) room
append_keeps buffer more bytes bounds front now b to buffer_before buffer_after bounds_before bounds_after used room old
    ends grown was is fits taken same =
    let k = rw was at old in
    let ends : to ≡ length (buffer ++ more) = ends ∙ ap length grown in
    let at_end = last_of (length buffer) front b k.last in
    let long = length-append buffer more in
    let before = length-append front (b ∷ []) in
    let after = length-append front (record { name = b.name; content = b.content; end = to; ended = b.ended } ∷ []) in
    let counted = k.counted in
    let buffer_fits = k.buffer_fits in
    let buffer_reserved = k.buffer_reserved in
    let bounds_fit = k.bounds_fit in
    let bounds_reserved = k.bounds_reserved in
    let room_now = room_longer buffer more front b to ends k.within at_end in
    rw (grown, is) (record {
      within = within_longer buffer more front b to ends k.within at_end;
      last = last_is _ front _ ends;
      counted = omega arith;
      fits = fits;
      buffer_fits = omega arith;
      buffer_reserved = omega arith;
      bounds_fit = omega arith;
      bounds_reserved = omega arith;
    })

pub end_keeps : (buffer : List ℕ) (bounds front now : List FileBounds) (b : FileBounds)
    (buffer_room bounds_before bounds_after used room : ℕ)
    → IsFileBuffer buffer bounds buffer_room bounds_before used room
    → bounds ≡ front ++ b ∷ []
    → now ≡ front ++ record { name = b.name; content = b.content; end = b.end; ended = true } ∷ []
    → bounds_before ≡ bounds_after
    → IsFileBuffer buffer now buffer_room bounds_after used room
end_keeps buffer bounds front now b buffer_room bounds_before bounds_after used room old was is same =
    let k = rw was at old in
    let before = length-append front (b ∷ []) in
    let after = length-append front (record { name = b.name; content = b.content; end = b.end; ended = true } ∷ []) in
    let bounds_fit = k.bounds_fit in
    let bounds_reserved = k.bounds_reserved in
    rw is (record {
      within = within_closed buffer front b k.within;
      last = last_closed buffer front b (length buffer) k.last;
      counted = k.counted ∙ sym (room_closed buffer front b);
      fits = k.fits;
      buffer_fits = k.buffer_fits;
      buffer_reserved = k.buffer_reserved;
      bounds_fit = omega arith;
      bounds_reserved = omega arith;
    })

-- the file whose bounds `b` stand at an index
pub within_here : (buffer : List ℕ) (bounds : List FileBounds) (i : ℕ) (b : FileBounds) → AllWithin buffer bounds
    → i < length bounds → b ≡ get_or bounds i b → IsWithin buffer b
within_here buffer bounds i b w there is = subst (IsWithin buffer) (sym is) (within_at buffer bounds i b w there)

file_here : (buffer : List ℕ) (bounds : List FileBounds) (i : ℕ) (b : FileBounds) → i < length bounds
    → b ≡ get_or bounds i b → slice_get (map (file_at buffer) bounds) i ≡ Some (file_at buffer b)
file_here buffer bounds i b there is = cc (
  slice_get-map (file_at buffer) bounds i,
  slice_get-get_or bounds i b there,
  is,
)

-- its name, its content, or whether it is ended
pub part_here : {T : Type 0} (of : File → T) (buffer : List ℕ) (bounds : List FileBounds) (i : ℕ) (b : FileBounds)
    → i < length bounds → b ≡ get_or bounds i b
    → slice_get (map of (map (file_at buffer) bounds)) i ≡ Some (of (file_at buffer b))
part_here of buffer bounds i b there is = cc (
  slice_get-map of (map (file_at buffer) bounds) i,
  file_here buffer bounds i b there is,
)
