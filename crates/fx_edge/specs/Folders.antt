-- The files of a folder, of which one may be open.
use Rattle.std.specs.Prelude.{ℕ, ◌≡◌, ◌++◌, List, [], ◌∷◌, Option, Some, None, Bool, true, false}
use Rattle.fx_base.specs.Acts.{File, whole_file}

-- a file that is begun and not ended
abbrev pub open_file : List ℕ → List ℕ → File
open_file name content = record { name = name; content = content; ended = false }

-- the files, and after them the open one, where both are exposed
abbrev pub with_open : Option (List File) → Option (List ℕ) → List ℕ → Option (List File)
with_open None content name = None
with_open (Some files) None name = None
with_open (Some files) (Some bytes) name = Some (files ++ open_file name bytes ∷ [])

-- the files of a shelf over a folder
abbrev pub all_files : {O : Type 0} → (O → List ℕ) → (O → Option (List ℕ)) → Option (List File) → Option O
    → Option (List File)
all_files name content made None = made
all_files name content made (Some o) = with_open made (content o) (name o)

-- whether there is an open file
abbrev pub has_file : {O : Type 0} → Option O → Bool
has_file None = false
has_file (Some o) = true

-- a file with no bytes was made, and the others stay as they are
pub record Creates (old new : Option (List File)) (content : Option (List ℕ)) : Type 0 where
  pub stays : (files : List File) → old ≡ Some files → new ≡ Some files
  pub empty : (files : List File) → old ≡ Some files → content ≡ Some []

-- the file is among the others, with all its bytes
pub record Closes (old new : Option (List File)) (name : List ℕ) (content : Option (List ℕ)) : Type 0 where
  pub exposed : (files : List File) (bytes : List ℕ) → old ≡ Some files → content ≡ Some bytes
      → new ≡ Some (files ++ whole_file name bytes ∷ [])
