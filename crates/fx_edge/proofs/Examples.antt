-- The words of a command line, and the files of a folder.
use Rattle.std.proofs.Common.{◌≡◌, ℕ, List, [], ◌∷◌, Option, Some, None, true, false, refl, ap}
use Rattle.std.specs.Prelude.{codes, string_bytes, String}
use Rattle.fx_base.specs.Acts.{File, whole_file}
use Rattle.fx_edge.specs.CommandLines.{words_in}
use Rattle.fx_edge.specs.Folders.{Closes, Creates, all_files, has_file, open_file, with_open}

-- the first word, which is the program's name, is left out
words : {A : Type 0} (program word : String A)
    → (words_in {A = A} [] ≡ []) × (words_in (program ∷ []) ≡ [])
    × (words_in (program ∷ word ∷ program ∷ []) ≡ string_bytes word ∷ string_bytes program ∷ [])
words program word = (refl, refl, refl)

abbrev plan : File
plan = whole_file (codes "plan.csv") (codes "A\n")

-- an open file is the last one, and not ended
files :
    (with_open (Some (plan ∷ [])) (Some (codes "B")) (codes "other.csv")
    ≡ Some (plan ∷ record { name = codes "other.csv"; content = codes "B"; ended = false } ∷ []))
    × (with_open (Some (plan ∷ [])) None (codes "other.csv") ≡ None)
    × (with_open None (Some (codes "B")) (codes "other.csv") ≡ None)
    × (all_files (λ (name : List ℕ). name) (λ name. Some (codes "B")) (Some (plan ∷ [])) None ≡ Some (plan ∷ []))
    × (all_files (λ (name : List ℕ). name) (λ name. Some (codes "B")) (Some []) (Some (codes "c"))
    ≡ Some (open_file (codes "c") (codes "B") ∷ []))
    × (has_file (Some plan) ≡ true)
    × (has_file {O = File} None ≡ false)
files = (refl, refl, refl, refl, refl, refl, refl)

-- a new file is empty, and takes none of the others away
not_empty : Creates (Some (plan ∷ [])) (Some (plan ∷ [])) (Some (codes "B")) → ⊥
not_empty h = cc (h.empty (plan ∷ []) refl)

others_lost : Creates (Some (plan ∷ [])) (Some []) (Some []) → ⊥
others_lost h = cc (h.stays (plan ∷ []) refl)

created : Creates (Some (plan ∷ [])) (Some (plan ∷ [])) (Some [])
created = record { stays = λ files e. e; empty = λ files e. refl }

abbrev first_content : Option (List File) → List ℕ
first_content None = []
first_content (Some []) = []
first_content (Some (file ∷ rest)) = file.content

-- a file that is closed is there with all its bytes
bytes_lost : Closes (Some []) (Some (whole_file (codes "c") [] ∷ [])) (codes "c") (Some (codes "B")) → ⊥
bytes_lost h =
    let lost : ◌≡◌ {A = List ℕ} [] (66 ∷ []) = ap first_content (h.exposed [] (codes "B") refl refl) in cc

file_lost : Closes (Some (plan ∷ [])) (Some (plan ∷ [])) (codes "c") (Some (codes "B")) → ⊥
file_lost h = cc (h.exposed (plan ∷ []) (codes "B") refl refl)
