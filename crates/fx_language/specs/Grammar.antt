-- The grammar of programs, with the codes of symbols that are refused by a code of their own.
use Rattle.std.specs.Prelude.{not, ◌&&◌, ◌||◌}
use Rattle.fx_language.specs.declared.symbol.Symbol.{Symbol}
use Rattle.fx_language.specs.declared.symbol.Symbol.TheVariants.{Proc, Factex, Nodes, Run, Quit, Factors, Nlev, Size}
use Rattle.fx_language.specs.declared.symbol.Symbol.TheVariants.{Design, Fraction, Nrunfacs, Minimum, Maximum, Model}
use Rattle.fx_language.specs.declared.symbol.Symbol.TheVariants.{Estimate, Nonnegligible, Resolution, Minabs, Blocks}
use Rattle.fx_language.specs.declared.symbol.Symbol.TheVariants.{Nblkfacs, Nblocks, Examine, Aliasing, Aberration}
use Rattle.fx_language.specs.declared.symbol.Symbol.TheVariants.{Output, Out, Pointrep, Designrep, Randomize, Novalran}
use Rattle.fx_language.specs.declared.symbol.Symbol.TheVariants.{Blockname, Nvals, Cvals, Foldover, Uniteffect, Whole, Decimal}
use Rattle.fx_language.specs.declared.symbol.Symbol.TheVariants.{Quoted, Semicolon, Equals, Open, Close, OpenBracket}
use Rattle.fx_language.specs.declared.symbol.Symbol.TheVariants.{CloseBracket}
use Rattle.fx_language.specs.declared.symbol.Symbol.TheVariants.{Slash, Star, Bar, At, Minus, End}
use Rattle.fx_language.specs.Symbols.{is, is_word, is_output_option, is_left_out, is_plain_section}
use Rattle.fx_language.specs.Shapes.{Shape, Empty, One, Many, Fault, guarded, maybe, ◌▸◌, ◌∣◌}

-- this symbol
abbrev pub key : Symbol → Shape
key a = One (is a)

-- a word
abbrev pub name : Shape
name = One is_word

-- a number without a point
abbrev pub n : Shape
n = key Whole

-- such a number or this word
abbrev pub n_or : Symbol → Shape
n_or word = One (λ s. is Whole s || is word s)

-- `(` has a code of its own after some words
abbrev pub no_open : Shape
no_open = Empty ∣ Fault 24 (is Open)

-- factors: a name, or a range of names
abbrev pub item : Shape
item = name ▸ maybe (key Minus ▸ name)

-- after the word FACTORS
abbrev pub factors_rest : Shape
factors_rest = item ▸ Many item ▸ maybe (key Slash ▸ key Nlev ▸ key Equals ▸ n) ▸ key Semicolon

-- the FACTORS statement
abbrev pub factors : Shape
factors = key Factors ▸ factors_rest

-- after the word SIZE
abbrev pub size_rest : Shape
size_rest =
    (key Design ▸ key Equals ▸ n_or Minimum
    ∣ key Fraction ▸ key Equals ▸ n_or Maximum
    ∣ key Nrunfacs ▸ key Equals ▸ n_or Minimum)
    ▸ key Semicolon

-- the SIZE statement
abbrev pub size : Shape
size = key Size ▸ size_rest

-- an effect of several factors
abbrev pub star : Shape
star = name ▸ Many (key Star ▸ name)

-- the main effects of a range; or effects, crossed by bars, of at most so many factors
abbrev pub effect : Shape
effect = name ▸ key Minus ▸ name ∣ star ▸ Many (key Bar ▸ star) ▸ maybe (key At ▸ n)

-- effects
abbrev pub list : Shape
list = key Open ▸ effect ▸ Many effect ▸ key Close

-- after the word MODEL, up to its options
abbrev pub model_word : Shape
model_word =
    key Estimate ▸ key Equals ▸ list ▸ maybe (key Nonnegligible ▸ key Equals ▸ list)
    ∣ key Resolution ▸ key Equals ▸ n_or Maximum

-- after the word MODEL
abbrev pub model_rest : Shape
model_rest = model_word ▸ maybe (key Slash ▸ key Minabs ▸ no_open) ▸ key Semicolon

-- the MODEL statement
abbrev pub model : Shape
model = key Model ▸ model_rest

-- after the word BLOCKS
abbrev pub blocks_rest : Shape
blocks_rest =
    (key Nblkfacs ▸ key Equals ▸ n_or Maximum
    ∣ key Nblocks ▸ key Equals ▸ n_or Maximum
    ∣ key Size ▸ key Equals ▸ n_or Minimum)
    ▸ key Semicolon

-- the BLOCKS statement
abbrev pub blocks : Shape
blocks = key Blocks ▸ blocks_rest

-- a section of the listing
abbrev pub examine_word : Shape
examine_word = key Aliasing ▸ no_open ∣ key Aberration ▸ no_open ∣ One is_plain_section

-- after the word EXAMINE
abbrev pub examine_rest : Shape
examine_rest = Many examine_word ▸ key Semicolon

-- the EXAMINE statement
abbrev pub examine : Shape
examine = key Examine ▸ examine_rest

-- a value of a level
abbrev pub value : Shape
value = maybe (key Minus) ▸ (n ∣ key Decimal)

-- values in the place of the levels' own
abbrev pub values : Shape
values =
    key Nvals ▸ key Equals ▸ key Open ▸ value ▸ Many value ▸ key Close
    ∣ key Cvals ▸ key Equals ▸ key Open ▸ key Quoted ▸ Many (key Quoted) ▸ key Close

-- the name of a factor that is recoded: no word that is an option
abbrev pub recoded : Shape
recoded = One (λ s. is_word s && not (is_output_option s))

-- a replication: a number, or the name of a plan
abbrev pub replication : Shape
replication = One (λ s. is Whole s || is_word s)

-- factors in brackets, the name of the factor that is derived of them, and its values
abbrev pub derived : Shape
derived = key OpenBracket ▸ name ▸ Many name ▸ key CloseBracket ▸ key Equals ▸ name ▸ maybe values

-- an option of OUTPUT
abbrev pub option : Shape
option =
    key Pointrep ▸ key Equals ▸ replication
    ∣ key Designrep ▸ key Equals ▸ replication
    ∣ key Randomize ▸ maybe (key Open ▸ n ▸ key Close)
    ∣ key Novalran
    ∣ key Blockname ▸ key Equals ▸ name ▸ maybe values
    ∣ recoded ▸ values
    ∣ derived

-- after the word OUTPUT
abbrev pub output_rest : Shape
output_rest = key Out ▸ key Equals ▸ name ▸ Many option ▸ key Semicolon

-- the OUTPUT statement
abbrev pub output : Shape
output = key Output ▸ output_rest

-- after the word FOLDOVER
abbrev pub foldover_rest : Shape
foldover_rest = Many item ▸ key Semicolon

-- the FOLDOVER statement
abbrev pub foldover : Shape
foldover = key Foldover ▸ foldover_rest

-- the code of a word that begins no statement
abbrev pub unknown : Shape
unknown = Fault 24 (is Uniteffect) ∣ Fault 1 is_word

-- a statement of a step
abbrev pub statement : Shape
statement =
    key Semicolon ∣ key Run ▸ key Semicolon ∣ factors ∣ size ∣ model ∣ blocks ∣ examine ∣ output
    ∣ foldover

-- after the word PROC, where the options that are left out have a code of their own
abbrev pub proc_rest : Shape
proc_rest =
    guarded 24 is_left_out
    ((key Factex ∣ Fault 1 is_word) ▸ Many (key Nodes ▸ key Equals ▸ n) ▸ key Semicolon)

-- the PROC statement
abbrev pub proc : Shape
proc = key Proc ▸ proc_rest

-- a statement of a program, within a step or between steps
abbrev pub sentence : Shape
sentence = key Quit ▸ key Semicolon ∣ proc ∣ statement

-- a step, up to what no longer belongs to it
abbrev pub step : Shape
step = proc ▸ Many statement

-- between steps
abbrev pub between : Shape
between = Many (key Semicolon ∣ key Run ▸ key Semicolon ∣ key Quit ▸ key Semicolon)

-- A step goes on up to the next PROC, to QUIT or to the end, so what follows a step begins with one of them.
abbrev pub program : Shape
program = between ▸ Many (step ▸ maybe (key Quit ▸ key Semicolon ▸ between)) ▸ (key End ∣ unknown)
