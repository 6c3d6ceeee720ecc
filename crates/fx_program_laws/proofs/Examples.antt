-- Words and texts, with all that is given for them: the definitions, computed from the bytes of a text to those of its
-- listing.
use Rattle.std.proofs.Common.{◌≡◌, ℕ, List, [], ◌∷◌, ◌++◌, Option, Some, None, Ok, ap, refl}
use Rattle.std.proofs.lemmas.Option.{none-some}
use Rattle.std.specs.Prelude.{codes}
use Rattle.std.specs.Fmt.{digits}
use Rattle.std.specs.Option.{option_map}
use Rattle.fx_base.specs.Acts.{Piece, WholeFile, ListByte, Did, World}
use Rattle.fx_designs.specs.Galois.{prime_of, degree_of, reduction_of, add, mul, neg, inv}
use Rattle.fx_designs.specs.Runs.{runs_of, is_constant, is_balanced, are_blocks_even, is_balanced_in_blocks}
use Rattle.fx_designs.specs.Runs.{is_constant_in_blocks}
use Rattle.fx_designs.specs.Aliases.{is_aliased}
use Rattle.fx_designs.specs.Spans.{in_span}
use Rattle.fx_designs.specs.Demands.{must_balance, is_estimated, is_met, is_allowed}
use Rattle.fx_designs.specs.Canonical.{is_canonical}
use Rattle.fx_designs.specs.Answers.{lists, designs, answer}
use Rattle.fx_designs.specs.Patterns.{constant_words, pattern_of}
use Rattle.fx_designs.specs.Closing.{closing_word}
use Rattle.fx_designs.specs.Nodes.{marks, nodes, word_of}
use Rattle.fx_designs.specs.Jobs.{first_least, best_before, carried}
use Rattle.fx_lexer.specs.Lexing.{lexed}
use Rattle.fx_language.specs.Refusals.{refused}
use Rattle.fx_demands.specs.Bars.{bars_of}
use Rattle.fx_vectors.specs.Effects.{factors_of}
use Rattle.fx_statements.specs.Programs.{program_of}
use Rattle.fx_statements.specs.Questions.{conclusion_of}
use Rattle.fx_answer.specs.Books.{finished}
use Rattle.fx_alias.specs.Sections.{step_lines}
use Rattle.fx_book.specs.Heads.{book_of}
use Rattle.fx_book.specs.declared.fault.FaultKind.TheVariants as kind
use Rattle.fx_book.specs.Faults.{fault}
use Rattle.fx_checker.specs.Books.{first_flaw}
use Rattle.fx_program.specs.declared.word_fault.WordFaultKind.TheVariants.{UnknownOption, InvalidNumber, RepeatedOption}
use Rattle.fx_program.specs.declared.word_fault.WordFaultKind.TheVariants.{MissingNumber}
use Rattle.fx_program.specs.CommandLine.{settings_of}
use Rattle.fx_program.specs.Words.{word_fault}
use Rattle.fx_program.specs.declared.words.Settings.TheVariants.{Run, Make, Large}
use Rattle.fx_program.specs.Messages.{fault_line}
use Rattle.fx_program.specs.Verdicts.{book_fault_line}
use Rattle.fx_program.specs.Texts.{program_in, at_front}
use Rattle.fx_program.specs.declared.text.TextFault.TheVariants.{Refused}
use Rattle.fx_designs.specs.Outcomes.{Design, NoDesign, BudgetEnded}
use Rattle.fx_program.specs.Making.{made_text, step_text}
use Rattle.fx_program.specs.Summaries.{summary_lines}
use Rattle.fx_program.specs.Commands.{AreGiven, command_in}
use Rattle.fx_program.specs.Output.{Output, message, Gives, world, program_output}
use Rattle.fx_program.specs.Outside.{GivesForSome}

-- what is given for the word `run` and a text
given : List ℕ → Output
unfolding digits prime_of degree_of reduction_of add mul neg inv runs_of is_constant is_balanced in_span must_balance
    is_met is_allowed is_canonical lists designs answer nodes lexed refused bars_of factors_of program_of settings_of
    program_in step_lines is_aliased is_constant_in_blocks lib.Count.ones constant_words pattern_of first_least
    best_before carried conclusion_of are_blocks_even is_balanced_in_blocks is_estimated finished closing_word word_of
    marks
given text = program_output 0 (program_in text)

run_given : (text : List ℕ) → AreGiven (codes "run" ∷ []) text (given text)
unfolding given settings_of
run_given text = refl

-- what is given for a step that has one book
booked : List ℕ → List ℕ → List ℕ → ℕ → Output
booked name book lines status = record { events = WholeFile name book ∷ Piece lines ∷ []; status = status }

-- a text without steps
nothing :
    (given [] ≡ record { events = []; status = 0 })
    × (given (codes "; run; quit;") ≡ record { events = []; status = 0 })
unfolding given
nothing = (refl, refl)

-- refused: what is no token
lexical :
    (given (codes "proc factex; factors A B C; /* run;") ≡ message (codes "factex: L1 1:29 comment is not closed\n") 3)
    × (given (codes "proc factex; factors A B C; output out=a A cvals=('x);")
    ≡ message (codes "factex: L2 1:51 string is not closed\n") 3)
    × (given (codes "proc factex; factors A B C; size design=8%;")
    ≡ message (codes "factex: L3 1:42 character is not allowed\n") 3)
    × (given (codes "proc factex; factors A B C; size design=000000000000000000000000000000000000008;")
    ≡ message (codes "factex: L4 1:41 number is too long\n") 3)
    × (given (codes "proc factex; factors a23456789012345678901234567890123;")
    ≡ message (codes "factex: L5 1:22 name is too long\n") 3)
unfolding given
lexical = (refl, refl, refl, refl, refl)

-- refused: what no program goes on with
by_the_grammar :
    (given (codes "proc factex; factors A B C; title x;")
    ≡ message (codes "factex: E1 1:29 statement is not known\n") 3)
    × (given (codes "proc factex; factors A B C; size design=max;")
    ≡ message (codes "factex: E2 1:41 unexpected word or end\n") 3)
    × (given (codes "proc factex; factors A B C; size runs=8;")
    ≡ message (codes "factex: E3 1:34 option is not known\n") 3)
    × (given (codes "proc factex time=60;") ≡ message (codes "factex: E24 1:13 not kept in this profile\n") 3)
    × (given (codes "proc factex; factors A B C; size design=8; size design=8;")
    ≡ message (codes "factex: E26 1:44 statement is repeated in the step\n") 3)
    × (given (codes "proc factex; factors A B C; run; size design=8;")
    ≡ message (codes "factex: E27 1:34 statement after RUN\n") 3)
    × (given (codes "proc factex nodes=1 nodes=2;") ≡ message (codes "factex: E28 1:21 option is repeated\n") 3)
unfolding given
by_the_grammar = (refl, refl, refl, refl, refl, refl, refl)

-- refused: the factors of a step
by_the_factors :
    (given (codes "proc factex; factors X1-X3 X2;") ≡ message (codes "factex: E5 1:28 name is repeated\n") 3)
    × (given (codes "proc factex; run;") ≡ message (codes "factex: E7 1:1 step has no FACTORS statement\n") 3)
    × (given (codes "proc factex; factors A X1-X63;") ≡ message (codes "factex: E10 1:24 too many factors\n") 3)
    × (given (codes "proc factex; factors X5-X2;")
    ≡ message (codes "factex: E30 1:22 range of names is not regular\n") 3)
unfolding given
by_the_factors = (refl, refl, refl, refl)

-- refused: the settings of a step
by_the_settings :
    (given (codes "proc factex; factors A B / nlev=6;")
    ≡ message (codes "factex: E6 1:33 number of levels is not 2, 3, 4, 5, 7, 8 or 9\n") 3)
    × (given (codes "proc factex; factors A B C; size design=12;")
    ≡ message (codes "factex: E8 1:41 size is not a power of the number of levels\n") 3)
    × (given (codes "proc factex; factors A B C; size design=2048;")
    ≡ message (codes "factex: E9 1:41 more than 1024 runs\n") 3)
    × (given (codes "proc factex; factors X1-X11;") ≡ message (codes "factex: E9 1:14 more than 1024 runs\n") 3)
    × (given (codes "proc factex; factors A B C; model resolution=2;")
    ≡ message (codes "factex: E11 1:46 resolution is not from 3 to 99\n") 3)
    × (given (codes "proc factex; factors A B C; model e=(A) / minabs;")
    ≡ message (codes "factex: E12 1:43 MINABS with ESTIMATE\n") 3)
    × (given (codes "proc factex; factors A B C; blocks nblkfacs=max;")
    ≡ message (codes "factex: E13 1:29 MINABS with BLOCKS, or two maxima\n") 3)
    × (given (codes "proc factex; factors A B C; size design=min;")
    ≡ message (codes "factex: E14 1:41 minimum size with a maximum or MINABS\n") 3)
    × (given (codes "proc factex nodes=0; factors A;") ≡ message (codes "factex: E29 1:19 number is out of range\n") 3)
    × (given (codes "proc factex; factors A B C; model r=3; blocks nblocks=3;")
    ≡ message (codes "factex: E15 1:55 blocks are not a power of the number of levels\n") 3)
    × (given (codes "proc factex; factors A B C; model r=3; blocks nblkfacs=4;")
    ≡ message (codes "factex: E16 1:56 more blocks than runs\n") 3)
unfolding given
by_the_settings = (refl, refl, refl, refl, refl, refl, refl, refl, refl, refl, refl)

-- refused: the effects of a step
by_the_effects :
    (given (codes "proc factex; factors A B C; model e=(A B*Z);")
    ≡ message (codes "factex: E4 1:42 factor is not known\n") 3)
    × (given (codes "proc factex; factors A B C; model e=(A*B@1);")
    ≡ message (codes "factex: E29 1:42 number is out of range\n") 3)
    × (given (codes "proc factex; factors A B C D / nlev=9; size design=81; model e=(A*B*C*D);")
    ≡ message (codes "factex: E22 1:62 more than 2000000 demands\n") 3)
    × (given (codes "proc factex; factors X1-X40; size design=4; model e=(X1*X2*X3*X4); examine aliasing;")
    ≡ message (codes "factex: E23 1:76 more than 100000 effects\n") 3)
unfolding given
by_the_effects = (refl, refl, refl, refl)

-- refused: the files of a step
by_the_outputs :
    (given (codes "proc factex; factors A B C; output out=a Z nvals=(1 2);")
    ≡ message (codes "factex: E4 1:42 factor is not known\n") 3)
    × (given (codes "proc factex; factors A B C; model r=3; blocks nblkfacs=1; output out=a blockname=B;")
    ≡ message (codes "factex: E5 1:82 name is repeated\n") 3)
    × (given (codes "proc factex; factors A B C; output out=a A nvals=(1 2 3);")
    ≡ message (codes "factex: E17 1:44 number of values differs from number of levels\n") 3)
    × (given (codes "proc factex; factors A B C; output out=a; output out=A;")
    ≡ message (codes "factex: E18 1:54 OUT name is repeated\n") 3)
    × (given (codes "proc factex; factors A B C; output out=a randomize(18446744073709551616);")
    ≡ message (codes "factex: E19 1:52 seed is too large\n") 3)
    × (given (codes "proc factex; factors A B C; output out=a pointrep=0;")
    ≡ message (codes "factex: E20 1:51 replication is not from 1 to 200000\n") 3)
    × (given (codes "proc factex; factors A B C; output out=a pointrep=30000;")
    ≡ message (codes "factex: E21 1:40 more than 200000 rows\n") 3)
    × (given (codes "proc factex; factors A B C; output out=a A nvals=(1 2) a nvals=(1 2);")
    ≡ message (codes "factex: E28 1:56 option is repeated\n") 3)
    × (given (codes "proc factex; factors A B C; output out=a blockname=day;")
    ≡ message (codes "factex: E31 1:42 BLOCKNAME without BLOCKS\n") 3)
unfolding given
by_the_outputs = (refl, refl, refl, refl, refl, refl, refl, refl, refl)

-- a third of three factors of three levels
third_of_three_levels :
    given (codes "proc factex;factors A B C / nlev=3;size fraction=3;model resolution=3;")
    ≡ message (codes "step 1\nfactors 3 levels 3\ndesign 9 runs\nresolution 3\nnodes 3\nrules\n  C = A^2*B\n") 0
unfolding given
third_of_three_levels = refl

-- the sections come in their own order
with_sections :
    given (codes "proc factex;factors A B C;size design=4;model r=3;examine aliasing design;")
    ≡ message (codes
    "step 1\nfactors 3 levels 2\ndesign 4 runs\nresolution 3\nnodes 3\nrules\n  C = A*B\npoints A B C\n  1 -1 -1 -1\n  2 -1 1 1\n  3 1 -1 1\n  4 1 1 -1\naliasing\n  A = B*C\n  B = A*C\n  C = A*B\n") 0
unfolding given
with_sections = refl

-- all sections, in their own order whatever that of the text
all_sections :
    given (codes
    "proc factex;factors A B;size design=4;model r=3;blocks nblkfacs=1;examine aberration blocked aliasing design;")
    ≡ message (codes
    "step 1\nfactors 2 levels 2\ndesign 4 runs in 2 blocks\nno defining words\nnodes 3\nrules\n  [1] = A*B\npoints BLOCK A B\n  1 1 -1 -1\n  2 2 -1 1\n  3 2 1 -1\n  4 1 1 1\naliasing\n  A\n  B\n  A*B\nblocked\n  A*B\naberration\n  none\n") 0
unfolding given
all_sections = refl

-- the components of A*B cannot be told apart in three runs
components :
    given (codes "proc factex;factors A B / nlev=3;size design=3;model estimate=(A*B);")
    ≡ booked (codes "step1-1.book")
    (codes "factex-book 2\nsize 3 1 2 0\neffects 3 /\npattern none\nO 1\nW 1 1:2 2:1\nW 0 2:1\nW 0 1:1\nEND\n")
    (codes "step 1\nfactors 2 levels 3\nno design in 3 runs\nnodes 4\nbook step1-1.book\n") 1
unfolding given booked
components = refl

-- B is constant, so that C introduces the second run index
late_index :
    given (codes "proc factex;factors A B C D;size nrunfacs=2;model estimate=(A*B C A*C);")
    ≡ message (codes "step 1\nfactors 4 levels 2\ndesign 4 runs\nresolution 1\nnodes 10\nrules\n  B = 0\n  D = A*C\n") 0
unfolding given
late_index = refl

-- four factors of two levels in eight runs
half :
    given (codes "proc factex;factors A B C D;size design=8;model resolution=4;")
    ≡ message (codes "step 1\nfactors 4 levels 2\ndesign 8 runs\nresolution 4\nnodes 4\nrules\n  D = A*B*C\n") 0
unfolding given
half = refl

-- the least aberration, and the words of each weight; a budget that ends before a design is found
least_aberration :
    (given (codes "proc factex;factors A B C;size design=4;model resolution=max/minabs;examine aberration;")
    ≡ booked (codes "step1-1.book")
    (codes "factex-book 2\nsize 2 2 3 0\nresolution 3\npattern 0 0 1\nO 1\nO 2\nP 3\nEND\n")
    (codes "step 1\nfactors 3 levels 2\ndesign 4 runs\nresolution 3 least aberration\nnodes 3\nrules\n  C = A*B\nbook step1-1.book\naberration\n  A3 1\n") 0)
    × (given (codes "proc factex nodes=2;factors A B C;size design=4;model resolution=3/minabs;")
    ≡ message (codes "step 1\nfactors 3 levels 2\nbudget ended after 2 nodes\n") 2)
unfolding given booked
least_aberration = (refl, refl)

-- the highest resolution, with a model or without; a budget that ends where the next resolution is tried
highest_resolution :
    (given (codes "proc factex;factors A B C;size design=4;model r=max;")
    ≡ booked (codes "step1-2.book")
    (codes "factex-book 2\nsize 2 2 3 0\nresolution 4\npattern none\nO 1\nO 2\nW 3 1:1 2:1 3:1\nEND\n")
    (codes "step 1\nfactors 3 levels 2\ndesign 4 runs\nresolution 3 highest\nnodes 6\nrules\n  C = A*B\nbook step1-2.book\n") 0)
    × (given (codes "proc factex;factors A B;size design=4;")
    ≡ message (codes "step 1\nfactors 2 levels 2\ndesign 4 runs\nno defining words\nnodes 2\nrules\n  none\n") 0)
    × (given (codes "proc factex nodes=4;factors A B C;size design=4;model r=max;")
    ≡ message (codes
    "step 1\nfactors 3 levels 2\nbudget ended after 4 nodes\ndesign 4 runs not proved best\nresolution 3\nrules\n  C = A*B\n") 2)
unfolding given booked
highest_resolution = (refl, refl, refl)

-- the least size; a budget that ends there leaves no design, and the books of the sizes before
least_size :
    (given (codes "proc factex;factors A B;size design=min;model r=3;")
    ≡ booked (codes "step1-1.book") (codes "factex-book 2\nsize 2 1 2 0\nresolution 3\npattern none\nO 1\nEND\n")
    (codes "step 1\nfactors 2 levels 2\ndesign 4 runs\nno defining words\nnodes 3\nrules\n  none\nbook step1-1.book\n")
    0)
    × (given (codes "proc factex nodes=2;factors A B;size design=min;model r=3;")
    ≡ booked (codes "step1-1.book") (codes "factex-book 2\nsize 2 1 2 0\nresolution 3\npattern none\nO 1\nEND\n")
    (codes "step 1\nfactors 2 levels 2\nbudget ended after 2 nodes\nbook step1-1.book\n") 2)
unfolding given booked
least_size = (refl, refl)

-- blocks: as many as can be, and none
in_blocks :
    (given (codes "proc factex;factors A B;size design=4;model r=3;blocks nblocks=max;")
    ≡ booked (codes "step1-2.book")
    (codes "factex-book 2\nsize 2 2 2 2\nresolution 3\npattern none\nO 1\nO 2\nO 3\nW 3 3:1 4:1\nW 2 2:1 4:1\nW 1 1:1 4:1\nW 0 4:1\nW 2 2:1 3:1\nW 1 1:1 3:1\nW 0 3:1\nEND\n")
    (codes "step 1\nfactors 2 levels 2\ndesign 4 runs in 2 blocks\nno defining words\nnodes 13\nrules\n  [1] = A*B\nbook step1-2.book\n") 0)
    × (given (codes "proc factex;factors A B C;size design=4;model r=3;blocks nblocks=2;")
    ≡ booked (codes "step1-1.book")
    (codes "factex-book 2\nsize 2 2 3 1\nresolution 3\npattern none\nO 1\nO 2\nO 3\nW 3 3:1 4:1\nW 2 2:1 4:1\nW 1 1:1 4:1\nW 0 4:1\nEND\n")
    (codes "step 1\nfactors 3 levels 2\nno design in 4 runs with 2 blocks\nnodes 7\nbook step1-1.book\n") 1)
unfolding given booked
in_blocks = (refl, refl)

-- the highest resolution in blocks: the last that is asked for; and where the budget ends after the first
highest_in_blocks :
    (given (codes "proc factex;factors A B;size design=4;blocks nblocks=2;")
    ≡ message (codes
    "step 1\nfactors 2 levels 2\ndesign 4 runs in 2 blocks\nno defining words\nblocks clear to resolution 3 highest\nnodes 3\nrules\n  [1] = A*B\n") 0)
    × (given (codes "proc factex;factors A B C;size design=8;model r=max;blocks nblocks=2;")
    ≡ message (codes
    "step 1\nfactors 3 levels 2\ndesign 8 runs in 2 blocks\nno defining words\nblocks clear to resolution 4 highest\nnodes 8\nrules\n  [1] = A*B*C\n") 0)
    × (given (codes "proc factex nodes=7;factors A B C;size design=8;model r=max;blocks nblocks=2;")
    ≡ message (codes
    "step 1\nfactors 3 levels 2\nbudget ended after 7 nodes\ndesign 8 runs in 2 blocks not proved best\nno defining words\nblocks clear to resolution 3\nrules\n  [1] = A*B*C\n") 2)
unfolding given
highest_in_blocks = (refl, refl, refl)

-- three factors of four levels in 16 runs
four_levels :
    given (codes "proc factex;factors A B C/nlev=4;size design=16;model resolution=3;")
    ≡ message (codes "step 1\nfactors 3 levels 4\ndesign 16 runs\nresolution 3\nnodes 3\nrules\n  C = A^3*B\n") 0
unfolding given
four_levels = refl

-- three factors of five levels in 25 runs
five_levels :
    given (codes "proc factex;factors A B C/nlev=5;size design=25;model resolution=3;")
    ≡ message (codes "step 1\nfactors 3 levels 5\ndesign 25 runs\nresolution 3\nnodes 3\nrules\n  C = A^4*B\n") 0
unfolding given
five_levels = refl

-- three steps, of which the second needs more nodes than it is allowed, and the third has no design: the greatest
-- status decides
three_steps :
    given (codes
    "proc factex;factors A;model r=3;proc factex nodes=1;factors A B;model r=3;proc factex;factors A B C;size design=2;model r=3;")
    ≡ record {
      events = Piece (codes "step 1\nfactors 1 levels 2\ndesign 2 runs\nno defining words\nnodes 1\nrules\n  none\n")
          ∷ Piece (codes "step 2\nfactors 2 levels 2\nbudget ended after 1 nodes\n")
          ∷ WholeFile (codes "step3-1.book")
          (codes "factex-book 2\nsize 2 1 3 0\nresolution 3\npattern none\nO 1\nEND\n")
          ∷ Piece (codes "step 3\nfactors 3 levels 2\nno design in 2 runs\nnodes 1\nbook step3-1.book\n") ∷ [];
      status = 2;
    }
unfolding given
three_steps = refl

-- a step without a design, and one with a design after it
none_and_design :
    given (codes "proc factex;factors A B C;size design=2;model r=3;proc factex;factors A;model r=3;")
    ≡ record {
      events = WholeFile (codes "step1-1.book")
          (codes "factex-book 2\nsize 2 1 3 0\nresolution 3\npattern none\nO 1\nEND\n")
          ∷ Piece (codes "step 1\nfactors 3 levels 2\nno design in 2 runs\nnodes 1\nbook step1-1.book\n")
          ∷ Piece (codes "step 2\nfactors 1 levels 2\ndesign 2 runs\nno defining words\nnodes 1\nrules\n  none\n") ∷ [];
      status = 1;
    }
unfolding given
none_and_design = refl

-- a book that is accepted, one with a word that is none of the prefix, one that ends too early, and a text that is none
judged :
    (AreGiven (codes "check" ∷ [])
    (codes "factex-book 1\nsize 2 2 3 0\nresolution 4\npattern none\nO 1\nO 2\nW 3 7\nEND\n")
    (message (codes "accepted\nsize 2 2 3 0\nresolution 4\npattern none\n") 0))
    × (AreGiven (codes "check" ∷ [])
    (codes "factex-book 1\nsize 2 2 3 0\nresolution 4\npattern none\nO 1\nO 2\nW 3 5\nEND\n")
    (message (codes "rejected line 7 K3\n") 1))
    × (AreGiven (codes "check" ∷ []) (codes "factex-book 1\nsize 2 2 3 0\nresolution 4\npattern none\nO 1\nO 2\nEND\n")
    (message (codes "rejected line 7 K6\n") 1))
    × (AreGiven (codes "check" ∷ []) (codes "proc factex;\n")
    (message (codes "rejected line 1 B2\n") 1))
unfolding digits prime_of degree_of reduction_of add mul neg inv runs_of is_constant is_balanced in_span must_balance
    is_canonical settings_of book_of first_flaw
judged = (refl, refl, refl, refl)

-- words: the first fault, whatever the text says
refused_words :
    (AreGiven [] (codes "proc") (message (codes "factex: C1 word 1\n") 3))
    × (AreGiven (codes "x" ∷ codes "y" ∷ []) (codes "proc")
    (message (codes "factex: C2 word 1\n") 3))
    × (AreGiven (codes "RUN" ∷ []) (codes "proc")
    (message (codes "factex: C2 word 1\n") 3))
    × (AreGiven (codes "runs" ∷ []) (codes "proc")
    (message (codes "factex: C2 word 1\n") 3))
    × (AreGiven (codes "run" ∷ codes "x" ∷ []) (codes "proc")
    (message (codes "factex: C3 word 2\n") 3))
    × (AreGiven (codes "run" ∷ codes "run" ∷ codes "y" ∷ []) (codes "proc")
    (message (codes "factex: C3 word 2\n") 3))
    × (AreGiven (codes "check" ∷ codes "x" ∷ codes "y" ∷ []) (codes "proc")
    (message (codes "factex: C3 word 2\n") 3))
unfolding digits settings_of
refused_words = (refl, refl, refl, refl, refl, refl, refl)

-- a text that is too long is refused at its first line
too_long : book_fault_line (fault kind.TooLong 1) ≡ codes "rejected line 1 B1\n"
unfolding digits
too_long = refl

-- the seed of `run`: at most once, and at most 20 digits below 2^64
seeds :
    (settings_of (codes "run" ∷ []) ≡ Ok (Run 1 0))
    × (settings_of (codes "run" ∷ codes "--seed=007" ∷ []) ≡ Ok (Run 1 7))
    × (settings_of (codes "run" ∷ codes "--seed=18446744073709551615" ∷ []) ≡ Ok (Run 1 18446744073709551615))
    × (settings_of (codes "run" ∷ codes "--seed=18446744073709551616" ∷ []) ≡ word_fault InvalidNumber 2)
    × (settings_of (codes "run" ∷ codes "--seed=000000000000000000000" ∷ []) ≡ word_fault InvalidNumber 2)
    × (settings_of (codes "run" ∷ codes "--seed=" ∷ []) ≡ word_fault InvalidNumber 2)
    × (settings_of (codes "run" ∷ codes "--seed=+1" ∷ codes "--seed=1" ∷ []) ≡ word_fault InvalidNumber 2)
    × (settings_of (codes "run" ∷ codes "--seed" ∷ []) ≡ word_fault UnknownOption 2)
    × (settings_of (codes "run" ∷ codes "--seed=1" ∷ codes "--seed=x" ∷ []) ≡ word_fault RepeatedOption 3)
unfolding settings_of
seeds = (refl, refl, refl, refl, refl, refl, refl, refl, refl)

-- the number of threads of `run` and `large`, from 1 to 64: at most once, before the seed or after it
numbers_of_threads :
    (settings_of (codes "run" ∷ codes "--seed=1" ∷ codes "--threads=2" ∷ []) ≡ Ok (Run 2 1))
    × (settings_of (codes "run" ∷ codes "--threads=64" ∷ codes "--seed=1" ∷ []) ≡ Ok (Run 64 1))
    × (settings_of (codes "run" ∷ codes "--threads=0" ∷ []) ≡ word_fault InvalidNumber 2)
    × (settings_of (codes "run" ∷ codes "--threads=65" ∷ []) ≡ word_fault InvalidNumber 2)
    × (settings_of (codes "run" ∷ codes "--threads=" ∷ []) ≡ word_fault InvalidNumber 2)
    × (settings_of (codes "run" ∷ codes "--threads=2" ∷ codes "--threads=2" ∷ []) ≡ word_fault RepeatedOption 3)
    × (settings_of (codes "run" ∷ codes "--threads=2" ∷ codes "--threads=x" ∷ []) ≡ word_fault RepeatedOption 3)
    × (settings_of (codes "run" ∷ codes "--threads=2" ∷ codes "--seed=1" ∷ codes "--seed=1" ∷ [])
    ≡ word_fault RepeatedOption 4)
    × (settings_of (codes "run" ∷ codes "--thread=2" ∷ []) ≡ word_fault UnknownOption 2)
    × (settings_of (codes "large" ∷ codes "1" ∷ codes "--threads=2" ∷ []) ≡ Ok (Large 1 2))
    × (settings_of (codes "large" ∷ codes "1" ∷ codes "--seed=2" ∷ []) ≡ word_fault UnknownOption 3)
    × (settings_of (codes "large" ∷ codes "1" ∷ codes "--threads=2" ∷ codes "--threads=3" ∷ [])
    ≡ word_fault RepeatedOption 4)
unfolding settings_of
numbers_of_threads = (refl, refl, refl, refl, refl, refl, refl, refl, refl, refl, refl, refl)

-- the number of steps of `make` and `large`: one word, of at most 20 digits, from 1 to 100
numbers_of_steps :
    (settings_of (codes "make" ∷ codes "1" ∷ []) ≡ Ok (Make 1))
    × (settings_of (codes "make" ∷ codes "00000000000000000100" ∷ []) ≡ Ok (Make 100))
    × (settings_of (codes "large" ∷ codes "40" ∷ []) ≡ Ok (Large 40 1))
    × (settings_of (codes "make" ∷ []) ≡ word_fault MissingNumber 2)
    × (settings_of (codes "large" ∷ []) ≡ word_fault MissingNumber 2)
    × (settings_of (codes "make" ∷ codes "0" ∷ codes "1" ∷ []) ≡ word_fault InvalidNumber 2)
    × (settings_of (codes "large" ∷ codes "0" ∷ codes "--seed=1" ∷ []) ≡ word_fault InvalidNumber 2)
    × (settings_of (codes "large" ∷ codes "101" ∷ []) ≡ word_fault InvalidNumber 2)
    × (settings_of (codes "make" ∷ codes "--threads=2" ∷ []) ≡ word_fault InvalidNumber 2)
    × (settings_of (codes "make" ∷ codes "000000000000000000001" ∷ []) ≡ word_fault InvalidNumber 2)
    × (settings_of (codes "make" ∷ codes "1" ∷ codes "1" ∷ []) ≡ word_fault UnknownOption 3)
unfolding settings_of
numbers_of_steps = (refl, refl, refl, refl, refl, refl, refl, refl, refl, refl, refl)

-- the text of two steps; a step of three levels that asks for least aberration
made_steps :
    (AreGiven (codes "make" ∷ codes "2" ∷ []) (codes "proc") (message (codes
    "proc factex nodes=20000;\nfactors X1-X6 / nlev=2;\nsize design=32;\nmodel resolution=max;\nrun;\nproc factex nodes=20000;\nfactors X1-X7 / nlev=2;\nsize design=16;\nmodel resolution=max;\nrun;\n") 0))
    × (step_text 12
    ≡ codes "proc factex nodes=20000;\nfactors X1-X5 / nlev=3;\nsize design=27;\nmodel resolution=max / minabs;\nrun;\n")
unfolding digits settings_of made_text
made_steps = (refl, refl)

-- a summary of outcomes of each kind
summed_up :
    summary_lines
    (NoDesign 7 ∷ Design (4 ∷ []) 55 ∷ BudgetEnded None 20000 ∷ BudgetEnded (Some (4 ∷ [])) 20000 ∷ Design [] 1
    ∷ Design [] 0 ∷ [])
    ≡ codes "steps 6\ndesigns 3\nnone 1\nended 2\nnodes 40063\n"
unfolding digits
summed_up = refl

-- the messages of texts that are too long to be written here
long_texts :
    (fault_line (at_front 25) ≡ codes "factex: E25 1:1 text is over 1048576 bytes\n")
    × (fault_line (Refused (record { code = 32; line = 101; column = 1 }))
    ≡ codes "factex: E32 101:1 more than 100 steps\n")
unfolding digits
long_texts = (refl, refl)

-- the two bytes are appended, and nothing is said of a shelf that exposes nothing
one_and_two : Did (world (Some (7 ∷ [])) None) (world (Some (7 ∷ 1 ∷ 2 ∷ [])) None) (ListByte 1 ∷ ListByte 2 ∷ [])
one_and_two = record {
  listing = record
      { exposed = λ text e. ap (λ (o : Option (List ℕ)). option_map (λ (t : List ℕ). t ++ 1 ∷ 2 ∷ []) o) e };
  shelf = record { exposed = λ files e. absurd (none-some files e) };
}

nothing_done : Did (world (Some []) None) (world (Some []) None) []
nothing_done = record {
  listing = record { exposed = λ text e. ap (λ (o : Option (List ℕ)). option_map (λ (t : List ℕ). t ++ []) o) e };
  shelf = record { exposed = λ files e. absurd (none-some files e) };
}

-- a status below 4 comes with the whole output, a higher one with a prefix of it
whole_output : Gives (message (1 ∷ 2 ∷ []) 1) (world (Some (7 ∷ [])) None) (world (Some (7 ∷ 1 ∷ 2 ∷ [])) None) 1
whole_output = record {
  same = λ low. refl;
  whole = λ low. one_and_two;
  part = record { done = ListByte 1 ∷ ListByte 2 ∷ []; left = []; front = refl; did = one_and_two };
}

-- where the source exposes its text, the output is that of this text, and of no other
own_text : (left : List ℕ) (old new : World) (status : ℕ)
    (some : GivesForSome (command_in (codes "run" ∷ [])) (Some left) old new status) → left ≡ some.text
unfolding settings_of
own_text left old new status some = some.exposed refl left refl

-- a source without a text, of which nothing is listed; and one that exposes nothing
empty_source : (left : Option (List ℕ)) → ((known : List ℕ) → left ≡ Some known → known ≡ [])
    → GivesForSome (command_in (codes "run" ∷ [])) left (world (Some []) None) (world (Some []) None) 0
unfolding given
empty_source left none = record {
  text = [];
  exposed = λ read. none;
  output = given [];
  given = refl;
  gives = record {
    same = λ low. refl;
    whole = λ low. nothing_done;
    part = record { done = []; left = []; front = refl; did = nothing_done };
  };
}
