-- What calls on the open file do to the files of a shelf over a folder.
use Rattle.std.proofs.Common.{ℕ, ◌≡◌, ◌++◌, List, [], ◌∷◌, map, Option, Some, None, refl, sym, ap, ◌∙◌}
use Rattle.std.specs.Io.KnownBytes.{Appends}
use Rattle.fx_base.specs.Acts.{File, Shelves, FileByte, EndFile, shelved, as_ended}
use Rattle.fx_base.proofs.Words.{on_last-at, shelved-content}
use Rattle.fx_edge.specs.Folders.{open_file, with_open, Closes}

pub written : (made : Option (List File)) (old new : Option (List ℕ)) (name bytes : List ℕ) → Appends old new bytes
    → Shelves (with_open made old name) (with_open made new name) (map FileByte bytes)
written None old new name bytes h = record { exposed = λ files e. absurd (cc e) }
written (Some made) None new name bytes h = record { exposed = λ files e. absurd (cc e) }
written (Some made) (Some xs) None name bytes h = absurd h
written (Some made) (Some xs) (Some ys) name bytes h = record {
  exposed = λ files e.
      let same : made ++ open_file name xs ∷ [] ≡ files = cc in
      ap Some (ap (λ (b : List ℕ). made ++ open_file name b ∷ []) h
      ∙ sym (shelved-content bytes made (open_file name xs))
      ∙ ap (shelved (map FileByte bytes)) same);
}

pub closed : (made now : Option (List File)) (content : Option (List ℕ)) (name : List ℕ) → Closes made now name content
    → Shelves (with_open made content name) now (EndFile ∷ [])
closed None now content name h = record { exposed = λ files e. absurd (cc e) }
closed (Some made) now None name h = record { exposed = λ files e. absurd (cc e) }
closed (Some made) now (Some xs) name h = record {
  exposed = λ files e.
      let same : made ++ open_file name xs ∷ [] ≡ files = cc in
      h.exposed made xs refl refl
      ∙ ap Some (sym (on_last-at as_ended made (open_file name xs)) ∙ ap (shelved (EndFile ∷ [])) same);
}
