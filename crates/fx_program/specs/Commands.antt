-- The commands of the program: what each gives, and what it reads.
use Rattle.std.specs.Prelude.{ℕ, ◌≡◌, nat_le, List, length, codes, Option, Some, None, is_some, Result, Ok, Err, Bool}
use Rattle.std.specs.Prelude.{true, false}
use Rattle.std.specs.Prelude.{if◌then◌else◌, ◌||◌}
use Rattle.fx_book.specs.Heads.{book_of}
use Rattle.fx_table_book.specs.Texts as tables
use Rattle.fx_program.specs.Words.{after_prefix}
use Rattle.fx_program.specs.CommandLine.{settings_of, word_line}
use Rattle.fx_program.specs.Texts.{program_in}
use Rattle.fx_judge.specs.Reading.{plan_of_text}
use Rattle.fx_program.specs.Cataloguing.{catalogue_output}
use Rattle.fx_program.specs.Judging.{judged_output}
use Rattle.fx_program.specs.Making.{made_text}
use Rattle.fx_program.specs.TableVerdicts.{table_verdict}
use Rattle.fx_program.specs.Tabulating.{IsOfTable}
use Rattle.fx_program.specs.Planning.{planned_in, planned_output}
use Rattle.fx_program.specs.Output.{Output, large_output, message, program_output, upgraded_output, verdict_output}
use Rattle.fx_program.specs.declared.words.Settings.{Settings}
use Rattle.fx_program.specs.declared.words.Settings.TheVariants.{Run, Plan, Check, Make, Large, Judge, Upgrade}
use Rattle.fx_program.specs.declared.words.Settings.TheVariants.{Catalogue, Tables}
use Rattle.fx_program.specs.declared.word_fault.WordFault.{WordFault}

-- A command: what it can give for a text of the source; whether it reads the source, and whether it reads such a text
-- to its end; and the text of the program that it runs, by what the source exposes.
pub record Command : Type 1 where
  pub gives : List ℕ → Output → Type 0
  pub reads : Bool
  pub reads_all_of : List ℕ → Bool
  pub text_run : Option (List ℕ) → Option (List ℕ)

-- just this output
abbrev pub only : Output → Output → Type 0
only output given = given ≡ output

-- a command that leaves the source unread, gives such an output, and runs this text, if any
abbrev pub unread : (Output → Type 0) → Option (List ℕ) → Command
unread Given program =
    record { gives = λ text. Given; reads = false; reads_all_of = λ text. false; text_run = λ left. program }

-- a command that reads a text of at most this length, runs none, and gives this for it
abbrev pub reading : ℕ → (List ℕ → Output) → Command
reading limit output = record {
  gives = λ text. only (output text);
  reads = true;
  reads_all_of = λ text. nat_le (length text) limit;
  text_run = λ left. None;
}

-- a command that reads a text to its end, runs none, and gives this for it
abbrev pub reading_all : (List ℕ → Output) → Command
reading_all output = record {
  gives = λ text. only (output text);
  reads = true;
  reads_all_of = λ text. true;
  text_run = λ left. None;
}

-- whether a text has the first line of a book of a table, of either version
abbrev pub is_of_table : List ℕ → Bool
is_of_table text =
    is_some (after_prefix (codes "factex-table 1\n") text) || is_some (after_prefix (codes "factex-table 2\n") text)

-- what `check` gives for a text
abbrev pub checked_output : List ℕ → Output
checked_output text =
    (if is_of_table text then table_verdict (tables.book_of text) else verdict_output (book_of text))

-- the commands
abbrev pub command_of : Settings → Command
command_of (Run threads seed) = record {
  gives = λ text. only (program_output seed (program_in text));
  reads = true;
  reads_all_of = λ text. true;
  text_run = λ left. left;
}
command_of (Plan seed) = reading_all (λ text. planned_output seed (planned_in text))
command_of Check = reading 268435456 checked_output
command_of Upgrade = reading 268435456 (λ text. upgraded_output (book_of text))
command_of (Make n) = unread (only (message (made_text n) 0)) None
command_of (Judge q) = reading_all (λ text. judged_output (plan_of_text q text))
command_of (Large n threads) = unread (only (large_output (program_in (made_text n)))) (Some (made_text n))
command_of (Catalogue q m most threads nodes) = unread (only (catalogue_output q m most nodes)) None
command_of (Tables asked) = unread (IsOfTable asked) None

-- the command of settings, or what is given for the first fault of the words
abbrev pub command_for : Result Settings WordFault → Command
command_for (Ok settings) = command_of settings
command_for (Err fault) = unread (only (message (word_line fault) 3)) None

-- the command that words ask for
abbrev pub command_in : List (List ℕ) → Command
command_in words = command_for (settings_of words)

-- whether words give this for a text
abbrev pub AreGiven : List (List ℕ) → List ℕ → Output → Type 0
AreGiven words text output = (command_in words).gives text output
