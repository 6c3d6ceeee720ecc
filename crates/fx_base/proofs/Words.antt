-- What acts come to in words: whole pieces and files, and a front part of the next.
use Rattle.std.proofs.Common.{ℕ, ◌≡◌, ◌++◌, ◌⊎◌, inl, inr, false, length, List, [], ◌∷◌, map, take, refl, sym, ◌∙◌, ap}
use Rattle.std.proofs.Common.{subst, append_assoc, arith}
use Rattle.std.proofs.lemmas.List.{append-nil, take_all}
use Rattle.fx_base.specs.Acts.{Act, ListByte, BeginFile, FileByte, EndFile, File, listed, on_last, with_byte, as_ended}
use Rattle.fx_base.specs.Acts.{shelved, Event, Piece, WholeFile, acts_of, acts, pieces, files_of, whole_file, HasCome}
use Rattle.fx_base.specs.Acts.{AtStart, InPiece, InFile, PastPiece, PastFile}
use Rattle.fx_base.proofs.Doing.{listed-append, shelved-append, listed-bytes, shelved-bytes, listed-file}

pub on_last-at : (change : File → File) (files : List File) (f : File) → on_last change (files ++ f ∷ [])
    ≡ files ++ change f ∷ []
on_last-at change [] f = refl
on_last-at change (g ∷ []) f = refl
on_last-at change (g ∷ h ∷ files) f = cc (on_last-at change (h ∷ files) f)

-- bytes given to the last file
pub shelved-content : (bytes : List ℕ) (files : List File) (f : File)
    → shelved (map FileByte bytes) (files ++ f ∷ [])
    ≡ files ++ record { name = f.name; content = f.content ++ bytes; ended = f.ended } ∷ []
shelved-content [] files f =
    ap (λ (c : List ℕ). files ++ record { name = f.name; content = c; ended = f.ended } ∷ [])
    (sym (append-nil f.content))
shelved-content (b ∷ bytes) files f =
    cc (
      on_last-at (with_byte b) files f,
      shelved-content bytes files (with_byte b f),
      append_assoc f.content (b ∷ []) bytes,
    )

-- a whole file
pub shelved-whole : (name content : List ℕ) (files : List File)
    → shelved (acts_of (WholeFile name content)) files ≡ files ++ whole_file name content ∷ []
shelved-whole name content files =
    let new : File = record { name = name; content = []; ended = false } in
    cc (
      shelved-append (map FileByte content) (EndFile ∷ []) (files ++ new ∷ []),
      shelved-content content files new,
      on_last-at as_ended files (record { name = name; content = content; ended = false }),
    )

pub listed-acts : (events : List Event) → listed (acts events) ≡ pieces events
listed-acts [] = refl
listed-acts (Piece bytes ∷ events) = cc (
  listed-append (map ListByte bytes) (acts events),
  listed-bytes bytes,
  listed-acts events,
)
listed-acts (WholeFile name content ∷ events) = cc (
  listed-append (map FileByte content ++ EndFile ∷ []) (acts events),
  listed-file content,
  listed-acts events,
)

pub shelved-acts : (events : List Event) (files : List File) → shelved (acts events) files ≡ files ++ files_of events
shelved-acts [] files = sym (append-nil files)
shelved-acts (Piece bytes ∷ events) files = cc (
  shelved-append (map ListByte bytes) (acts events) files,
  shelved-bytes bytes files,
  shelved-acts events files,
)
shelved-acts (WholeFile name content ∷ events) files =
    cc (
      shelved-append (acts_of (WholeFile name content)) (acts events) files,
      shelved-whole name content files,
      shelved-acts events (files ++ whole_file name content ∷ []),
      append_assoc files (whole_file name content ∷ []) (files_of events),
    )

-- a front part of a list that is two lists ends in the first, or takes it whole
pub cut : (done left xs ys : List Act) → done ++ left ≡ xs ++ ys
    → ((rest : List Act) × (done ++ rest ≡ xs)) ⊎ ((more : List Act) × (done ≡ xs ++ more) × (more ++ left ≡ ys))
cut done left [] ys e = inr (done, refl, e)
cut [] left (x ∷ xs) ys e = inl (x ∷ xs, refl)
cut (d ∷ done) left (x ∷ xs) ys e =
    let same : d ≡ x = cc in
    let rest : done ++ left ≡ xs ++ ys = cc in
    elim (cut done left xs ys rest) [
      | inl t ↦ inl (t.0, cc (t.1, same))
      | inr t ↦ inr (t.0, cc (t.1, same), t.2)
    ]

-- a front part of mapped bytes is the first bytes mapped
pub front_of_map : (f : ℕ → Act) (bytes : List ℕ) (done rest : List Act) → done ++ rest ≡ map f bytes
    → done ≡ map f (take (length done) bytes)
front_of_map f bytes [] rest e = refl
front_of_map f [] (d ∷ done) rest e = cc
front_of_map f (b ∷ bytes) (d ∷ done) rest e =
    let same : d ≡ f b = cc in
    let others : done ++ rest ≡ map f bytes = cc in
    cc (same, front_of_map f bytes done rest others)

-- what a front part of the acts of events has done: bytes listed and files added
pub record Comes (events : List Event) (done : List Act) : Type 0 where
  pub new : List File
  pub come : HasCome events (listed done) new
  pub added : (files : List File) → shelved done files ≡ files ++ new

comes_as : (events : List Event) (done same : List Act) → done ≡ same → Comes events same → Comes events done
comes_as events done same e p = rw e p

comes_none : (events : List Event) → Comes events []
comes_none events = record { new = []; come = AtStart; added = λ files. sym (append-nil files) }

comes_piece : (bytes : List ℕ) (events : List Event) (n : ℕ)
    → Comes (Piece bytes ∷ events) (map ListByte (take n bytes))
comes_piece bytes events n = record {
  new = [];
  come = rw (listed-bytes (take n bytes)) (InPiece n);
  added = λ files. shelved-bytes (take n bytes) files ∙ sym (append-nil files);
}

listed-content : (bytes : List ℕ) → listed (map FileByte bytes) ≡ []
listed-content [] = refl
listed-content (b ∷ bytes) = listed-content bytes

comes_file : (name content : List ℕ) (events : List Event) (n : ℕ)
    → Comes (WholeFile name content ∷ events) (BeginFile name ∷ map FileByte (take n content))
comes_file name content events n = record {
  new = record { name = name; content = take n content; ended = false } ∷ [];
  come = rw (listed-content (take n content)) (InFile n);
  added = λ files. shelved-content (take n content) files (record { name = name; content = []; ended = false });
}

past_pieces : (bytes : List ℕ) (events : List Event) (more : List Act) → Comes events more
    → Comes (Piece bytes ∷ events) (acts_of (Piece bytes) ++ more)
past_pieces bytes events more p = record {
  new = p.new;
  come = subst (λ (l : List ℕ). HasCome (Piece bytes ∷ events) l p.new)
      (sym (cc (listed-append (map ListByte bytes) more, listed-bytes bytes)))
      (PastPiece p.come);
  added = λ files. cc (shelved-append (map ListByte bytes) more files, shelved-bytes bytes files, p.added files);
}

past_files : (name content : List ℕ) (events : List Event) (more : List Act) → Comes events more
    → Comes (WholeFile name content ∷ events) (acts_of (WholeFile name content) ++ more)
past_files name content events more p = record {
  new = whole_file name content ∷ p.new;
  come = subst (λ (l : List ℕ). HasCome (WholeFile name content ∷ events) l (whole_file name content ∷ p.new))
      (sym (cc (listed-append (map FileByte content ++ EndFile ∷ []) more, listed-file content))) (PastFile p.come);
  added = λ files. cc (
    shelved-append (acts_of (WholeFile name content)) more files,
    shelved-whole name content files,
    p.added (files ++ whole_file name content ∷ []),
    append_assoc files (whole_file name content ∷ []) p.new,
  );
}

-- what is left of the end of a file
in_end : (name content : List ℕ) (events : List Event) (more rest : List Act) → more ++ rest ≡ EndFile ∷ []
    → Comes (WholeFile name content ∷ events) (BeginFile name ∷ (map FileByte content ++ more))
in_end name content events [] rest e = comes_as _ _ _
    (cc (append-nil (map FileByte content), take_all (length content) content (omega arith)))
    (comes_file name content events (length content))
in_end name content events (m ∷ []) rest e =
    let same : m ≡ EndFile = cc in
    comes_as _ _ _
    (cc (same, append-nil (acts_of (WholeFile name content))))
    (past_files name content events [] (comes_none events))
in_end name content events (m ∷ o ∷ more) rest e = cc

in_whole_file : (name content : List ℕ) (events : List Event) (done rest : List Act)
    → done ++ rest ≡ acts_of (WholeFile name content) → Comes (WholeFile name content ∷ events) done
in_whole_file name content events [] rest e = comes_none (WholeFile name content ∷ events)
in_whole_file name content events (d ∷ done) rest e =
    let same : d ≡ BeginFile name = cc in
    let others : done ++ rest ≡ map FileByte content ++ EndFile ∷ [] = cc in
    comes_as _ _ (BeginFile name ∷ done) (cc same)
    (elim (cut done rest (map FileByte content) (EndFile ∷ []) others) [
      | inl t ↦ comes_as _ _ _ (cc (front_of_map FileByte content done t.0 t.1))
          (comes_file name content events (length done))
      | inr t ↦ comes_as _ _ _ (cc t.1) (in_end name content events t.0 rest t.2)
    ])

-- The law: a front part of the acts of events is events that are whole, and then a front part of one.
pub comes : (events : List Event) (done left : List Act) → done ++ left ≡ acts events → Comes events done
comes [] [] left e = comes_none []
comes [] (d ∷ done) left e = cc
comes (Piece bytes ∷ events) done left e =
    elim (cut done left (acts_of (Piece bytes)) (acts events) e) [
      | inl t ↦ comes_as _ _ _ (front_of_map ListByte bytes done t.0 t.1) (comes_piece bytes events (length done))
      | inr t ↦ comes_as _ _ _ t.1 (past_pieces bytes events t.0 (comes events t.0 left t.2))
    ]
comes (WholeFile name content ∷ events) done left e =
    elim (cut done left (acts_of (WholeFile name content)) (acts events) e) [
      | inl t ↦ in_whole_file name content events done t.0 t.1
      | inr t ↦ comes_as _ _ _ t.1 (past_files name content events t.0 (comes events t.0 left t.2))
    ]
