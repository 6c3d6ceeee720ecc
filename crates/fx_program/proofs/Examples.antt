-- What commands read and run, and what an output and a status exclude.
use Rattle.std.proofs.Common.{ℕ, ◌≡◌, true, false, List, [], ◌∷◌, length, Some, None, Option, ap, refl, arith}
use Rattle.std.specs.Prelude.{Ok, Err, codes, unwrap_or}
use Rattle.std.specs.Fmt.{digits}
use Rattle.std.proofs.lemmas.List.Elements.{at_from_Contains}
use Rattle.fx_base.specs.Acts.{File, WholeFile, whole_file}
use Rattle.fx_base.specs.Memory.{room_of}
use Rattle.fx_judge.specs.declared.fault.FaultKind.TheVariants.{OtherLength}
use Rattle.fx_judge.specs.Reading.{plan_fault}
use Rattle.fx_book.specs.Parts.{lines_of}
use Rattle.fx_table_book.specs.Texts as tables
use Rattle.fx_table_book.specs.declared.order.Order.TheVariants.{FactorsFirst, SitterChenFeder}
use Rattle.fx_program.specs.declared.word_fault.WordFaultKind.TheVariants.{NoWord, UnknownOption, InvalidNumber}
use Rattle.fx_program.specs.declared.word_fault.WordFaultKind.TheVariants.{MissingNumber}
use Rattle.fx_program.specs.declared.words.Settings.TheVariants.{Run, Plan, Check, Make, Large, Judge, Upgrade, Tables}
use Rattle.fx_program.specs.CommandLine.{settings_of}
use Rattle.fx_program.specs.Words.{word_fault}
use Rattle.fx_program.specs.Claims.{IsGreatest}
use Rattle.fx_program.specs.Commands.{command_for, command_of, is_of_table}
use Rattle.fx_program.specs.Judging.{judged_output, plan_fault_line}
use Rattle.fx_program.specs.Making.{made_text}
use Rattle.fx_program.specs.Output.{Gives, message, step_status, world}
use Rattle.fx_program.specs.Stops.{HasStatusCause}
use Rattle.fx_program.proofs.Complete.{none-rose}

-- the text of the source is run, or that of `large`; `check` and `make` run none, and refused words neither
texts_run :
    ((command_of (Run 1 0)).text_run (Some (codes "x")) ≡ Some (codes "x"))
    × ((command_of (Large 2 1)).text_run (Some (codes "x")) ≡ Some (made_text 2))
    × ((command_of Check).text_run (Some (codes "x")) ≡ None)
    × ((command_of (Make 2)).text_run (Some (codes "x")) ≡ None)
    × ((command_of (Judge 2)).text_run (Some (codes "x")) ≡ None)
    × ((command_for (word_fault NoWord 1)).text_run (Some (codes "x")) ≡ None)
texts_run = (refl, refl, refl, refl, refl, refl)

sources_read :
    ((command_of (Run 1 0)).reads ≡ true) × ((command_of Check).reads ≡ true) × ((command_of (Make 2)).reads ≡ false)
    × ((command_of (Judge 2)).reads ≡ true) × ((command_of (Large 2 1)).reads ≡ false)
    × ((command_for (word_fault NoWord 1)).reads ≡ false) × ((command_of Upgrade).reads ≡ true)
    × ((command_of (Plan 0)).reads ≡ true)
sources_read = (refl, refl, refl, refl, refl, refl, refl, refl)

-- a program is read to its end whatever its length, a book up to 268,435,456 bytes
read_whole : (text : List ℕ) → length text ≡ 268435456
    → ((command_of Check).reads_all_of text ≡ true) × ((command_of Upgrade).reads_all_of text ≡ true)
    × ((command_of (Run 1 0)).reads_all_of text ≡ true) × ((command_of (Plan 0)).reads_all_of text ≡ true)
    × ((command_of (Judge 2)).reads_all_of text ≡ true)
read_whole text long = rw long (refl, refl, refl, refl, refl)

not_read_whole : (text : List ℕ) → length text ≡ 268435457
    → ((command_of Check).reads_all_of text ≡ false) × ((command_of Upgrade).reads_all_of text ≡ false)
    × ((command_of (Run 1 0)).reads_all_of text ≡ true)
not_read_whole text long = rw long (refl, refl, refl)

-- a table's book of 33,554,432 bytes is read
table_read_whole : (text : List ℕ) → length text ≡ 33554432 → tables.book_of text ≡ tables.from_title (lines_of text)
unfolding tables.book_of
table_read_whole text long = rw long refl

-- a plan that is refused
refused_plan :
    (plan_fault_line (plan_fault OtherLength 2) ≡ codes "factex: J4 record 2\n")
    × ((judged_output (Err (plan_fault OtherLength 2))).status ≡ 3)
unfolding digits
refused_plan = (refl, refl)

-- a book of a table is told by its first line
kinds_of_books :
    (is_of_table (codes "factex-table 1\nsize") ≡ true) × (is_of_table (codes "factex-table 2\n") ≡ true)
    × (is_of_table (codes "factex-table 2") ≡ false) × (is_of_table (codes "factex-table 3\n") ≡ false)
    × (is_of_table (codes "factex-book 2\nsize") ≡ false) × (is_of_table [] ≡ false)
kinds_of_books = (refl, refl, refl, refl, refl, refl)

-- the words of a table: ordinary, in blocks, in split plots
table_words :
    (settings_of (codes "tables" ∷ codes "2" ∷ codes "4" ∷ codes "6" ∷ [])
    ≡ Ok
    (Tables (record { q = 2; m = 4; upto = 6; h = 0; inside = 0; order = FactorsFirst; entries = 1000000 })))
    × (settings_of (codes "tables" ∷ codes "3" ∷ codes "2" ∷ codes "4" ∷ codes "--nodes=7" ∷ codes "--blocks=3" ∷ [])
    ≡ Ok (Tables (record { q = 3; m = 2; upto = 4; h = 1; inside = 0; order = FactorsFirst; entries = 7 })))
    × (settings_of
    (codes "tables" ∷ codes "2" ∷ codes "4" ∷ codes "4" ∷ codes "--inside=3" ∷ codes "--whole-plots=4"
    ∷ codes "--order=SCF" ∷ [])
    ≡ Ok (Tables (record { q = 2; m = 4; upto = 4; h = 2; inside = 3; order = SitterChenFeder; entries = 1000000 })))
    × (settings_of (codes "tables" ∷ codes "2" ∷ codes "4" ∷ codes "4" ∷ codes "--inside=3" ∷ [])
    ≡ word_fault MissingNumber 6)
    × (settings_of (codes "tables" ∷ codes "2" ∷ codes "3" ∷ codes "3" ∷ []) ≡ word_fault InvalidNumber 4)
unfolding settings_of
table_words = (refl, refl, refl, refl, refl)

-- a status below 4 comes with the whole output, also where it is that of a refusal, and is the output's own
half_listed : Gives (message (1 ∷ 2 ∷ []) 3) (world (Some []) None) (world (Some (1 ∷ [])) None) 3 → ⊥
half_listed h = (let whole = (h.whole (omega arith)).listing.exposed [] refl in cc)

another_status : Gives (message (1 ∷ []) 3) (world (Some []) None) (world (Some (1 ∷ [])) None) 2 → ⊥
another_status h = omega (arith, h.same (omega arith))

-- a file whose last byte is missing
file_cut : Gives (record { events = WholeFile (1 ∷ []) (2 ∷ 3 ∷ []) ∷ []; status = 0 }) (world None (Some []))
    (world None (Some (whole_file (1 ∷ []) (2 ∷ []) ∷ []))) 0 → ⊥
file_cut h =
    let whole = (h.whole (omega arith)).shelf.exposed [] refl in
    let room : 65 ≡ 66 = ap (λ (files : Option (List File)). room_of (unwrap_or files [])) whole in
    omega (arith, room)

-- the status of a failed call only with a count that rose
no_failed_call : HasStatusCause (0 ∷ 0 ∷ 0 ∷ []) (0 ∷ 0 ∷ 0 ∷ []) 4 → ⊥
no_failed_call h = none-rose 0 0 0 0 refl refl (h.failed refl)

-- without a step the status is 0
no_step : IsGreatest step_status 1 [] → ⊥
no_step h = (let there = at_from_Contains [] _ (h.some (omega arith)).among in omega (arith, there.1))

-- the words of `judge`: one of the seven numbers of levels, and no more
judge_words :
    (settings_of (codes "judge" ∷ codes "2" ∷ []) ≡ Ok (Judge 2))
    × (settings_of (codes "judge" ∷ codes "09" ∷ []) ≡ Ok (Judge 9))
    × (settings_of (codes "judge" ∷ []) ≡ word_fault MissingNumber 2)
    × (settings_of (codes "judge" ∷ codes "6" ∷ []) ≡ word_fault InvalidNumber 2)
    × (settings_of (codes "judge" ∷ codes "6" ∷ codes "x" ∷ []) ≡ word_fault InvalidNumber 2)
    × (settings_of (codes "judge" ∷ codes "2" ∷ codes "2" ∷ []) ≡ word_fault UnknownOption 3)
unfolding settings_of
judge_words = (refl, refl, refl, refl, refl, refl)
