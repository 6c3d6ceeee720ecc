-- A fault of the words is at one of them, or where one more would be.
use Rattle.std.proofs.Common.{ℕ, ◌≡◌, ◌≤◌, ◌+◌, ◌-◌, ◌^◌, false, List, [], ◌∷◌, length, arith, subst}
use Rattle.std.proofs.Common.{sym}
use Rattle.std.specs.Prelude.{Option, Some, None, Result, Ok, Err, IfErr, codes}
use Rattle.std.specs.Str.{bytes_eq}
use Rattle.fx_settings.specs.Powers.{greatest}
use Rattle.fx_statements.specs.Valid.{most_factors_of}
use Rattle.fx_program.specs.declared.words.Extra.{Extra}
use Rattle.fx_program.specs.declared.words.Extra.TheVariants as extra
use Rattle.fx_program.specs.declared.words.Options.{Options}
use Rattle.fx_program.specs.declared.words.Settings.{Settings}
use Rattle.fx_program.specs.declared.word_fault.WordFault.{WordFault}
use Rattle.fx_program.specs.CommandLine
use Rattle.fx_program.specs.Words
use Rattle.fx_program.proofs.WordPlaces.{Within, either, fault_here, once_within, value_within}
use Rattle.fx_program.proofs.TableFaults.{tables_within}

module _ (last place : ℕ) (from : 1 ≤ place) (to : place ≤ last) where
  threads_within : (given : Options) (r : Result ℕ WordFault) → Within last r
      → Within last (CommandLine.add_threads given r)
  threads_within given (Ok n) h = tt
  threads_within given (Err fault) h = h

  extra_within : (given : Options) (r : Result ℕ WordFault) → Within last r
      → Within last (CommandLine.add_extra given r)
  extra_within given (Ok n) h = tt
  extra_within given (Err fault) h = h

  extra_by_within : (given : Options) (low high : ℕ) (digits : Option (List ℕ))
      → Within last (CommandLine.extra_by place given low high digits)
  extra_by_within given low high (Some digits) =
      extra_within given _ (once_within last place from to given.extra (Words.within low high digits))
  extra_by_within given low high None = fault_here last place from to

  allowed_within : (allowed : Extra) (given : Options) (word : List ℕ)
      → Within last (CommandLine.allowed_extra place allowed given word)
  allowed_within extra.Nothing given word = fault_here last place from to
  allowed_within extra.Seed given word = extra_by_within given 0 (2 ^ 64 - 1) _
  allowed_within extra.SeedAlone given word = extra_by_within given 0 (2 ^ 64 - 1) _
  allowed_within extra.Nodes given word = extra_by_within given 1 5000000 _

  option_within : (allowed : Extra) (given : Options) (word : List ℕ) (digits : Option (List ℕ))
      → Within last (CommandLine.option_by place allowed given word digits)
  option_within allowed given word (Some digits) =
      threads_within given _ (once_within last place from to given.threads (Words.within 1 64 digits))
  option_within allowed given word None = allowed_within allowed given word

options_behind_within : (last place : ℕ) (allowed : Extra) (r : Result Options WordFault) (words : List (List ℕ))
    → 1 ≤ place → place + length words ≤ last + 1 → Within last r
    → Within last (CommandLine.options_behind place allowed r words)
options_behind_within last place allowed (Err fault) words from to h = h
options_behind_within last place allowed (Ok given) [] from to h = tt
options_behind_within last place allowed (Ok given) (word ∷ words) from to h =
    options_behind_within last (place + 1) allowed _ words (omega arith) (omega (arith, to))
    (option_within last place from (omega (arith, to)) allowed given word _)

options_within : (last place : ℕ) (allowed : Extra) (words : List (List ℕ)) → 1 ≤ place
    → place + length words ≤ last + 1
    → Within last (CommandLine.options_in place allowed words)
options_within last place allowed words from to =
    options_behind_within last place allowed (Ok (record { threads = None; extra = None })) words from to tt

run_within : (last : ℕ) (r : Result Options WordFault) → Within last r → Within last (CommandLine.run_with r)
run_within last (Ok given) h = tt
run_within last (Err fault) h = h

plan_within : (last : ℕ) (r : Result Options WordFault) → Within last r → Within last (CommandLine.plan_with r)
plan_within last (Ok given) h = tt
plan_within last (Err fault) h = h

without_within : (last : ℕ) (settings : Settings) (options : List (List ℕ)) → length options + 2 ≤ last + 1
    → Within last (CommandLine.without_options settings options)
without_within last settings [] fits = tt
without_within last settings (other ∷ others) fits =
    fault_here last 2 (omega arith) (omega (arith, fits))

alone_within : (last : ℕ) (others : List (List ℕ)) (r : Result ℕ WordFault) → length others + 3 ≤ last + 1
    → Within last r → Within last (CommandLine.alone others r)
alone_within last others (Err fault) fits h = h
alone_within last [] (Ok n) fits h = tt
alone_within last (other ∷ others) (Ok n) fits h =
    fault_here last 3 (omega arith) (omega (arith, fits))

made_within : (last : ℕ) (r : Result ℕ WordFault) → Within last r → Within last (CommandLine.made_by r)
made_within last (Ok n) h = tt
made_within last (Err fault) h = h

make_within : (last : ℕ) (options : List (List ℕ)) → length options + 2 ≤ last → 2 ≤ last
    → Within last (CommandLine.make_with options)
make_within last [] fits some = fault_here last 2 (omega arith) some
make_within last (word ∷ others) fits some =
    made_within last _ (alone_within last others _ (omega (arith, fits))
    (value_within last 2 (omega arith) some (Words.within 1 100 word)))

large_by_within : (last n : ℕ) (r : Result Options WordFault) → Within last r → Within last (CommandLine.large_by n r)
large_by_within last n (Ok given) h = tt
large_by_within last n (Err fault) h = h

large_behind_within : (last : ℕ) (others : List (List ℕ)) (r : Result ℕ WordFault) → length others + 3 ≤ last + 1
    → Within last r → Within last (CommandLine.large_behind others r)
large_behind_within last others (Err fault) fits h = h
large_behind_within last others (Ok n) fits h =
    large_by_within last n _ (options_within last 3 extra.Nothing others (omega arith) (omega (arith, fits)))

large_within : (last : ℕ) (options : List (List ℕ)) → length options + 2 ≤ last → 2 ≤ last
    → Within last (CommandLine.large_with options)
large_within last [] fits some = fault_here last 2 (omega arith) some
large_within last (word ∷ others) fits some =
    large_behind_within last others _ (omega (arith, fits))
    (value_within last 2 (omega arith) some (Words.within 1 100 word))

judged_within : (last : ℕ) (r : Result ℕ WordFault) → Within last r → Within last (CommandLine.judged_by r)
judged_within last (Ok q) h = tt
judged_within last (Err fault) h = h

judge_within : (last : ℕ) (options : List (List ℕ)) → length options + 2 ≤ last → 2 ≤ last
    → Within last (CommandLine.judge_with options)
judge_within last [] fits some = fault_here last 2 (omega arith) some
judge_within last (word ∷ others) fits some =
    judged_within last _ (alone_within last others _ (omega (arith, fits))
    (value_within last 2 (omega arith) some (Words.order_of word)))

catalogue_by_within : (last q m most : ℕ) (r : Result Options WordFault) → Within last r
    → Within last (CommandLine.catalogue_by q m most r)
catalogue_by_within last q m most (Ok given) h = tt
catalogue_by_within last q m most (Err fault) h = h

catalogue_options_within : (last q m : ℕ) (options : List (List ℕ)) (r : Result ℕ WordFault)
    → length options + 5 ≤ last → Within last r → Within last (CommandLine.options_of_catalogue q m options r)
catalogue_options_within last q m options (Err fault) fits h = h
catalogue_options_within last q m options (Ok most) fits h =
    catalogue_by_within last q m most _ (options_within last 5 extra.Nodes options (omega arith) (omega (arith, fits)))

catalogue_factors_within : (last q m : ℕ) (words : List (List ℕ)) → length words + 4 ≤ last
    → Within last (CommandLine.factors_of_catalogue q m words)
catalogue_factors_within last q m [] fits =
    fault_here last 4 (omega arith) (omega (arith, fits))
catalogue_factors_within last q m (word ∷ options) fits =
    catalogue_options_within last q m options _ (omega (arith, fits))
    (value_within last 4 (omega arith) (omega (arith, fits))
    (Words.within (m + 1) (most_factors_of q false) word))

behind_indexes_within : (last q : ℕ) (words : List (List ℕ)) (r : Result ℕ WordFault) → length words + 4 ≤ last
    → Within last r → Within last (CommandLine.behind_indexes q words r)
behind_indexes_within last q words (Err fault) fits h = h
behind_indexes_within last q words (Ok m) fits h = catalogue_factors_within last q m words fits

catalogue_indexes_within : (last q : ℕ) (words : List (List ℕ)) → length words + 3 ≤ last
    → Within last (CommandLine.indexes_of_catalogue q words)
catalogue_indexes_within last q [] fits =
    fault_here last 3 (omega arith) (omega (arith, fits))
catalogue_indexes_within last q (word ∷ words) fits =
    behind_indexes_within last q words _ (omega (arith, fits))
    (value_within last 3 (omega arith) (omega (arith, fits)) (Words.within 1 (greatest q) word))

behind_levels_within : (last : ℕ) (words : List (List ℕ)) (r : Result ℕ WordFault) → length words + 3 ≤ last
    → Within last r → Within last (CommandLine.behind_levels words r)
behind_levels_within last words (Err fault) fits h = h
behind_levels_within last words (Ok q) fits h = catalogue_indexes_within last q words fits

catalogue_within : (last : ℕ) (words : List (List ℕ)) → length words + 2 ≤ last
    → Within last (CommandLine.catalogue_with words)
catalogue_within last [] fits = fault_here last 2 (omega arith) (omega (arith, fits))
catalogue_within last (word ∷ words) fits =
    behind_levels_within last words _ (omega (arith, fits))
    (value_within last 2 (omega arith) (omega (arith, fits)) (Words.order_of word))

command_within : (last : ℕ) (word : List ℕ) (options : List (List ℕ)) → length options + 2 ≤ last
    → Within last (CommandLine.command_with word options)
command_within last word options fits =
    let some : 2 ≤ last = omega (arith, fits) in
    either last (bytes_eq word (codes "run")) _ _
    (run_within last _ (options_within last 2 extra.Seed options (omega arith) (omega (arith, fits))))
    (either last (bytes_eq word (codes "plan")) _ _
    (plan_within last _ (options_within last 2 extra.SeedAlone options (omega arith) (omega (arith, fits))))
    (either last (bytes_eq word (codes "check")) _ _ (without_within last _ options (omega (arith, fits)))
    (either last (bytes_eq word (codes "upgrade")) _ _ (without_within last _ options (omega (arith, fits)))
    (either last (bytes_eq word (codes "make")) _ _ (make_within last options fits some)
    (either last (bytes_eq word (codes "large")) _ _ (large_within last options fits some)
    (either last (bytes_eq word (codes "judge")) _ _ (judge_within last options fits some)
    (either last (bytes_eq word (codes "catalogue")) _ _ (catalogue_within last options fits)
    (either last (bytes_eq word (codes "tables")) _ _ (tables_within last options fits)
    (fault_here last 1 (omega arith) (omega (arith, some)))))))))))

settings_within : (words : List (List ℕ)) → Within (length words + 1) (CommandLine.settings_of words)
unfolding CommandLine.settings_of
settings_within [] = fault_here 1 1 (omega arith) (omega arith)
settings_within (word ∷ options) = command_within (length (word ∷ options) + 1) word options (omega arith)

pub words-fault : (words : List (List ℕ)) (r : Result Settings WordFault) → r ≡ CommandLine.settings_of words
    → Within (length words + 1) r
words-fault words r is = subst (Within (length words + 1)) (sym is) (settings_within words)
