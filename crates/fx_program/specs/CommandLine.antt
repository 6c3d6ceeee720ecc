-- What the words of the command line ask for.
use Rattle.std.specs.Prelude.{ℕ, ◌+◌, ◌^◌, ◌-◌, ◌<◌, ◌≤◌, false, unwrap_or, is_some, List}
use Rattle.std.specs.Prelude.{[], ◌∷◌, ◌++◌, if◌then◌else◌, Option, Some, None, Result, Ok, Err, Vec, map}
use Rattle.std.specs.Prelude.{length, codes, decimal, IsTrue}
use Rattle.std.specs.Str.{bytes_eq}
use Rattle.fx_designs.specs.Galois.{is_order}
use Rattle.fx_settings.specs.Powers.{greatest}
use Rattle.fx_statements.specs.Valid.{most_factors_of}
use Rattle.fx_program.specs.declared.words.Extra.{Extra}
use Rattle.fx_program.specs.declared.words.Extra.TheVariants as extra
use Rattle.fx_program.specs.declared.words.Options.{Options}
use Rattle.fx_program.specs.declared.words.Settings.{Settings}
use Rattle.fx_program.specs.declared.words.Settings.TheVariants.{Run, Plan, Check, Make, Large, Judge, Upgrade}
use Rattle.fx_program.specs.declared.words.Settings.TheVariants.{Catalogue, Tables}
use Rattle.fx_program.specs.declared.word_fault.WordFault.{WordFault}
use Rattle.fx_program.specs.declared.word_fault.WordFaultKind.TheVariants.{NoWord, UnknownCommand, UnknownOption}
use Rattle.fx_program.specs.declared.word_fault.WordFaultKind.TheVariants.{MissingNumber}
use Rattle.fx_program.specs.Words.{after_prefix, code_of, number_at, once, order_at, within, word_fault}
use Rattle.fx_program.specs.TableWords.{IsAsked, tables_with}

-- the bytes of each word
abbrev pub bytes_of : {A : Type 0} → List (Vec ℕ A) → List (List ℕ)
bytes_of words = map (λ word. word.items) words

-- the options with this number of threads, from 1 to 64, or with this number of the extra option
abbrev pub add_threads : Options → Result ℕ WordFault → Result Options WordFault
add_threads given (Ok n) = Ok (record { threads = Some n; extra = given.extra })
add_threads given (Err fault) = Err fault

abbrev pub add_extra : Options → Result ℕ WordFault → Result Options WordFault
add_extra given (Ok n) = Ok (record { threads = given.threads; extra = Some n })
add_extra given (Err fault) = Err fault

-- the options with an extra one of the word at this place, within these limits, by what follows its name, or a
-- fault where the word does not begin so
abbrev pub extra_by : ℕ → Options → ℕ → ℕ → Option (List ℕ) → Result Options WordFault
extra_by place given low high (Some digits) = add_extra given (once place given.extra (within low high digits))
extra_by place given low high None = word_fault UnknownOption place

abbrev pub with_extra : ℕ → Options → List ℕ → ℕ → ℕ → List ℕ → Result Options WordFault
with_extra place given name low high word = extra_by place given low high (after_prefix name word)

-- the same of a seed, a number below 2^64, or of a number of nodes, for a command that allows this
abbrev pub allowed_extra : ℕ → Extra → Options → List ℕ → Result Options WordFault
allowed_extra place extra.Nothing given word = word_fault UnknownOption place
allowed_extra place extra.Seed given word = with_extra place given (codes "--seed=") 0 (2 ^ 64 - 1) word
allowed_extra place extra.SeedAlone given word = with_extra place given (codes "--seed=") 0 (2 ^ 64 - 1) word
allowed_extra place extra.Nodes given word = with_extra place given (codes "--nodes=") 1 5000000 word

-- the options with that of the word at this place, by what follows `--threads=` in it
abbrev pub option_by : ℕ → Extra → Options → List ℕ → Option (List ℕ) → Result Options WordFault
option_by place allowed given word (Some digits) = add_threads given (once place given.threads (within 1 64 digits))
option_by place allowed given word None = allowed_extra place allowed given word

-- what follows `--threads=` in a word, for a command that allows this option
abbrev pub after_threads : Extra → List ℕ → Option (List ℕ)
after_threads extra.SeedAlone word = None
after_threads _ word = after_prefix (codes "--threads=") word

abbrev pub with_option : ℕ → Extra → Options → List ℕ → Result Options WordFault
with_option place allowed given word = option_by place allowed given word (after_threads allowed word)

-- the options with those of words from this place on
abbrev pub options_behind : ℕ → Extra → Result Options WordFault → List (List ℕ) → Result Options WordFault
options_behind place allowed (Err fault) words = Err fault
options_behind place allowed (Ok given) [] = Ok given
options_behind place allowed (Ok given) (word ∷ words) =
    options_behind (place + 1) allowed (with_option place allowed given word) words

-- how many options are given
abbrev pub option_count : Options → ℕ
option_count given = (if is_some given.threads then 1 else 0) + (if is_some given.extra then 1 else 0)

-- the options of words from this place on
abbrev pub options_in : ℕ → Extra → List (List ℕ) → Result Options WordFault
options_in place allowed words = options_behind place allowed (Ok (record { threads = None; extra = None })) words

-- the settings of `run`: one thread and the seed 0 where they are not given
abbrev pub run_with : Result Options WordFault → Result Settings WordFault
run_with (Err fault) = Err fault
run_with (Ok given) = Ok (Run (unwrap_or given.threads 1) (unwrap_or given.extra 0))

-- the settings of `plan`: the seed 0 where it is not given
abbrev pub plan_with : Result Options WordFault → Result Settings WordFault
plan_with (Err fault) = Err fault
plan_with (Ok given) = Ok (Plan (unwrap_or given.extra 0))

-- the number of steps of the word at this place: 1 to 100
abbrev pub steps_at : ℕ → List ℕ → Result ℕ WordFault
steps_at place word = number_at place 1 100 word

-- a number that no word follows
abbrev pub alone : List (List ℕ) → Result ℕ WordFault → Result ℕ WordFault
alone others (Err fault) = Err fault
alone [] (Ok n) = Ok n
alone (other ∷ others) (Ok n) = word_fault UnknownOption 3

-- the settings of `make`: the number of steps is the one word after the command
abbrev pub made_by : Result ℕ WordFault → Result Settings WordFault
made_by (Err fault) = Err fault
made_by (Ok n) = Ok (Make n)

abbrev pub make_with : List (List ℕ) → Result Settings WordFault
make_with [] = word_fault MissingNumber 2
make_with (word ∷ others) = made_by (alone others (steps_at 2 word))

-- the settings of `large`: the number of steps, and then at most the number of threads
abbrev pub large_by : ℕ → Result Options WordFault → Result Settings WordFault
large_by n (Err fault) = Err fault
large_by n (Ok given) = Ok (Large n (unwrap_or given.threads 1))

abbrev pub large_behind : List (List ℕ) → Result ℕ WordFault → Result Settings WordFault
large_behind others (Err fault) = Err fault
large_behind others (Ok n) = large_by n (options_in 3 extra.Nothing others)

abbrev pub large_with : List (List ℕ) → Result Settings WordFault
large_with [] = word_fault MissingNumber 2
large_with (word ∷ others) = large_behind others (steps_at 2 word)

-- the settings of `judge`: the number of levels is the one word after the command
abbrev pub judged_by : Result ℕ WordFault → Result Settings WordFault
judged_by (Err fault) = Err fault
judged_by (Ok q) = Ok (Judge q)

abbrev pub judge_with : List (List ℕ) → Result Settings WordFault
judge_with [] = word_fault MissingNumber 2
judge_with (word ∷ others) = judged_by (alone others (order_at 2 word))

-- The settings of `catalogue`: the numbers of levels, of run indexes and of the most factors, and then the options,
-- with one thread and 1,000,000 nodes where they are not given.
abbrev pub catalogue_by : ℕ → ℕ → ℕ → Result Options WordFault → Result Settings WordFault
catalogue_by q m most (Err fault) = Err fault
catalogue_by q m most (Ok given) = Ok (Catalogue q m most (unwrap_or given.threads 1) (unwrap_or given.extra 1000000))

abbrev pub options_of_catalogue : ℕ → ℕ → List (List ℕ) → Result ℕ WordFault → Result Settings WordFault
options_of_catalogue q m options (Err fault) = Err fault
options_of_catalogue q m options (Ok most) = catalogue_by q m most (options_in 5 extra.Nodes options)

abbrev pub factors_of_catalogue : ℕ → ℕ → List (List ℕ) → Result Settings WordFault
factors_of_catalogue q m [] = word_fault MissingNumber 4
factors_of_catalogue q m (word ∷ options) =
    options_of_catalogue q m options (number_at 4 (m + 1) (most_factors_of q false) word)

abbrev pub behind_indexes : ℕ → List (List ℕ) → Result ℕ WordFault → Result Settings WordFault
behind_indexes q words (Err fault) = Err fault
behind_indexes q words (Ok m) = factors_of_catalogue q m words

abbrev pub indexes_of_catalogue : ℕ → List (List ℕ) → Result Settings WordFault
indexes_of_catalogue q [] = word_fault MissingNumber 3
indexes_of_catalogue q (word ∷ words) = behind_indexes q words (number_at 3 1 (greatest q) word)

abbrev pub behind_levels : List (List ℕ) → Result ℕ WordFault → Result Settings WordFault
behind_levels words (Err fault) = Err fault
behind_levels words (Ok q) = indexes_of_catalogue q words

abbrev pub catalogue_with : List (List ℕ) → Result Settings WordFault
catalogue_with [] = word_fault MissingNumber 2
catalogue_with (word ∷ words) = behind_levels words (order_at 2 word)

-- these settings, for a command that no word follows
abbrev pub without_options : Settings → List (List ℕ) → Result Settings WordFault
without_options settings [] = Ok settings
without_options settings (other ∷ others) = word_fault UnknownOption 2

-- the settings of a command with these options
abbrev pub command_with : List ℕ → List (List ℕ) → Result Settings WordFault
command_with word options =
    (if bytes_eq word (codes "run")
    then run_with (options_in 2 extra.Seed options)
    else (if bytes_eq word (codes "plan")
    then plan_with (options_in 2 extra.SeedAlone options)
    else (if bytes_eq word (codes "check")
    then without_options Check options
    else (if bytes_eq word (codes "upgrade")
    then without_options Upgrade options
    else (if bytes_eq word (codes "make")
    then make_with options
    else (if bytes_eq word (codes "large")
    then large_with options
    else (if bytes_eq word (codes "judge")
    then judge_with options
    else (if bytes_eq word (codes "catalogue")
    then catalogue_with options
    else (if bytes_eq word (codes "tables") then tables_with options else word_fault UnknownCommand 1)))))))))

-- the settings, or the first fault of the words
unfoldable pub settings_of : List (List ℕ) → Result Settings WordFault
settings_of [] = word_fault NoWord 1
settings_of (word ∷ options) = command_with word options

-- a fault at a word from 1 to the last
pub record IsWordFault (last : ℕ) (fault : WordFault) : Type 0 where
  pub word : (1 ≤ fault.word) × (fault.word ≤ last)

-- from 1 to 64 threads
abbrev pub AreThreads : ℕ → Type 0
AreThreads n = (0 < n) × (n ≤ 64)

-- a command that searches has so many
abbrev pub HasThreads : Settings → Type 0
HasThreads (Run threads seed) = AreThreads threads
HasThreads (Large n threads) = AreThreads threads
HasThreads (Catalogue q m most threads nodes) = AreThreads threads
HasThreads _ = Unit {0}

-- a command that judges a plan has a number of levels that there is
abbrev pub HasOrder : Settings → Type 0
HasOrder (Judge q) = IsTrue (is_order q)
HasOrder _ = Unit {0}

-- from 1 to 5,000,000 nodes, where the extra option is that for nodes
abbrev pub IsOfExtra : Extra → ℕ → Type 0
IsOfExtra extra.Nodes n = (1 ≤ n) × (n ≤ 5000000)
IsOfExtra _ n = Unit {0}

-- the numbers of a catalogue: each line has a shape within the limits and more factors than run indexes
pub record IsCatalogue (q m most nodes : ℕ) : Type 0 where
  pub order : IsTrue (is_order q)
  pub some : 1 ≤ m
  pub runs : m ≤ greatest q
  pub dependent : m < most
  pub factors : most ≤ most_factors_of q false
  pub budget : (1 ≤ nodes) × (nodes ≤ 5000000)

-- a command that makes a catalogue or a table has such numbers
abbrev pub HasShapes : Settings → Type 0
HasShapes (Catalogue q m most threads nodes) = IsCatalogue q m most nodes
HasShapes (Tables asked) = IsAsked asked
HasShapes _ = Unit {0}

-- the line that tells the fault: its code, and at which word
abbrev pub word_line : WordFault → List ℕ
word_line fault =
    codes "factex: C" ++ decimal (code_of fault.kind) ++ codes " word " ++ decimal fault.word ++ codes "\n"
