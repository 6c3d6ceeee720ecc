-- What a command has done is no more than what is defined of it, so it needs no more room.
use Rattle.std.proofs.Common.{ℕ, ◌≡◌, ◌≤◌, ◌+◌, true, List, [], ◌∷◌, length, Some, refl, sym, ◌∙◌, arith, ◌<◌, ◌≢◌}
use Rattle.std.proofs.Common.{inl, inr, length-append, subst}
use Rattle.std.specs.Prelude.{Result, Ok, Err}
use Rattle.std.proofs.lemmas.List.{length-take}
use Rattle.fx_base.specs.Acts.{Event, Piece, File, files_of, listed, pieces, HasCome, AtStart, InPiece, InFile}
use Rattle.fx_base.specs.Acts.{PastPiece, PastFile}
use Rattle.fx_base.specs.Memory.{room_of}
use Rattle.fx_base.proofs.Words.{comes}
use Rattle.fx_base.proofs.Options.{same_some}
use Rattle.fx_program.specs.CommandLine.{settings_of}
use Rattle.fx_program.specs.Commands.{AreGiven, command_for, command_in}
use Rattle.fx_program.specs.Output.{Output, world}
use Rattle.fx_program.specs.Outside.{GivesForSome}
use Rattle.fx_program.specs.Stops.{HasStatusCause, SomeRose}
use Rattle.fx_program.specs.declared.words.Settings.{Settings}
use Rattle.fx_program.specs.declared.words.Settings.TheVariants.{Run, Plan, Check, Make, Large, Judge, Upgrade}
use Rattle.fx_program.specs.declared.words.Settings.TheVariants.{Catalogue, Tables}
use Rattle.fx_program.specs.declared.word_fault.WordFault.{WordFault}

-- as far as events have come, they have listed no more bytes than all of them, and shelved no more files
come-fits : {events : List Event} {listing : List ℕ} {files : List File} → HasCome events listing files
    → (length listing ≤ length (pieces events)) × (room_of files ≤ room_of (files_of events))
come-fits AtStart = (omega arith, omega arith)
come-fits (InPiece {bytes} {events} n) =
    let all : length (pieces (Piece bytes ∷ events)) ≡ length bytes + length (pieces events) =
    length-append bytes (pieces events) in
    (omega (arith, all, length-take n bytes), omega arith)
come-fits (InFile {name} {content} {events} n) = (omega arith, omega (arith, length-take n content))
come-fits (PastPiece {bytes} {events} {listing} come) =
    let rest = come-fits come in
    let all : length (pieces (Piece bytes ∷ events)) ≡ length bytes + length (pieces events) =
    length-append bytes (pieces events) in
    (omega (arith, rest.0, all, length-append bytes listing), rest.1)
come-fits (PastFile come) = (let rest = come-fits come in (rest.0, omega (arith, rest.1)))

-- what a command gives for a text that it does not read it gives for each
same-given : (asked : Result Settings WordFault) (text known : List ℕ) (output : Output)
    → ((command_for asked).reads ≡ true → known ≡ text) → (command_for asked).gives text output
    → (command_for asked).gives known output
same-given (Ok (Run threads seed)) text known output h given =
    subst (λ t. (command_for (Ok (Run threads seed))).gives t output) (sym (h refl)) given
same-given (Ok (Plan seed)) text known output h given =
    subst (λ t. (command_for (Ok (Plan seed))).gives t output) (sym (h refl)) given
same-given (Ok Check) text known output h given =
    subst (λ t. (command_for (Ok Check)).gives t output) (sym (h refl)) given
same-given (Ok Upgrade) text known output h given =
    subst (λ t. (command_for (Ok Upgrade)).gives t output) (sym (h refl)) given
same-given (Ok (Judge q)) text known output h given =
    subst (λ t. (command_for (Ok (Judge q))).gives t output) (sym (h refl)) given
same-given (Ok (Make n)) text known output h given = given
same-given (Ok (Large n threads)) text known output h given = given
same-given (Ok (Catalogue q m most threads nodes)) text known output h given = given
same-given (Ok (Tables asked)) text known output h given = given
same-given (Err fault) text known output h given = given

module _ (words : List (List ℕ)) (left written : List ℕ) (files : List File) (status : ℕ)
    (h : GivesForSome (command_in words) (Some left) (world (Some []) (Some [])) (world (Some written) (Some files))
    status) where
  given-too : AreGiven words left h.output
  given-too =
      same-given (settings_of words) h.text left h.output (λ reads. h.exposed reads left refl) h.given

  pub gives-within : (length written ≤ length (pieces h.output.events))
      × (room_of files ≤ room_of (files_of h.output.events))
  gives-within =
      let part = h.gives.part in
      let come = comes h.output.events part.done part.left part.front in
      let is_listed : written ≡ listed part.done = same_some (part.did.listing.exposed [] refl) in
      let is_shelved : files ≡ come.new = same_some (part.did.shelf.exposed [] refl) ∙ come.added [] in
      rw (is_listed, is_shelved) (come-fits come.come)

pub none-rose : (a b c d : ℕ) → b ≡ 0 → d ≡ 0 → SomeRose (0 ∷ a ∷ c ∷ []) (0 ∷ b ∷ d ∷ []) → ⊥
none-rose a b c d hb hd (inl rose) = omega (arith, rose)
none-rose a b c d hb hd (inr (inl rose)) = omega (arith, rose, hb)
none-rose a b c d hb hd (inr (inr (inl rose))) = omega (arith, rose, hd)
none-rose a b c d hb hd (inr (inr (inr none))) = none

-- over an empty listing and an empty shelf that have room for all that is defined, and a source that never fails
pub not-failed : (words : List (List ℕ)) (left written : List ℕ) (files : List File)
    (status a b c d room shelf_room : ℕ)
    → GivesForSome (command_in words) (Some left) (world (Some []) (Some [])) (world (Some written) (Some files)) status
    → HasStatusCause (0 ∷ a ∷ c ∷ []) (0 ∷ b ∷ d ∷ []) status
    → ((output : Output) → AreGiven words left output
    → (length (pieces output.events) < room) × (room_of (files_of output.events) + 64 ≤ shelf_room))
    → (length written < room → b ≡ 0) → (room_of files + 64 ≤ shelf_room → d ≡ 0)
    → status ≢ 4
not-failed words left written files status a b c d room shelf_room gives cause enough sure shelf_sure four =
    let within = gives-within words left written files status gives in
    let fits = enough gives.output (given-too words left written files status gives) in
    none-rose a b c d (sure (omega (arith, within.0, fits.0))) (shelf_sure (omega (arith, within.1, fits.1)))
    (cause.failed four)
