-- Symbols, and the classes of symbols that the grammar speaks of.
use Rattle.std.specs.Prelude.{ℕ, Bool, ◌==◌, ◌||◌, nat_le}
use Rattle.fx_language.specs.declared.symbol.Symbol.{Symbol}
use Rattle.fx_language.specs.declared.symbol.Symbol.TheVariants.{Proc, Factex, Nodes, Run, Quit, Factors, Nlev, Size}
use Rattle.fx_language.specs.declared.symbol.Symbol.TheVariants.{Design, Fraction, Nrunfacs, Minimum, Maximum, Model}
use Rattle.fx_language.specs.declared.symbol.Symbol.TheVariants.{Estimate, Nonnegligible, Resolution, Minabs, Blocks}
use Rattle.fx_language.specs.declared.symbol.Symbol.TheVariants.{Nblkfacs, Nblocks, Examine, Aliasing, Blocked}
use Rattle.fx_language.specs.declared.symbol.Symbol.TheVariants.{Confounding, Aberration, Output, Out, Pointrep}
use Rattle.fx_language.specs.declared.symbol.Symbol.TheVariants.{Designrep, Randomize, Novalran, Blockname, Nvals}
use Rattle.fx_language.specs.declared.symbol.Symbol.TheVariants.{Cvals, Foldover, Time, Nocheck, Namelen, Uniteffect, Name, Whole}
use Rattle.fx_language.specs.declared.symbol.Symbol.TheVariants.{Decimal, Quoted, Semicolon, Equals, Open, Close}
use Rattle.fx_language.specs.declared.symbol.Symbol.TheVariants.{OpenBracket, CloseBracket, Slash, Star, Bar, At, Minus}
use Rattle.fx_language.specs.declared.symbol.Symbol.TheVariants.{End}

-- the number of a symbol, in the order of the enum: keywords, other words, numbers and texts, signs, the end
abbrev pub index : Symbol → ℕ
index Proc = 0
index Factex = 1
index Nodes = 2
index Run = 3
index Quit = 4
index Factors = 5
index Nlev = 6
index Size = 7
index Design = 8
index Fraction = 9
index Nrunfacs = 10
index Minimum = 11
index Maximum = 12
index Model = 13
index Estimate = 14
index Nonnegligible = 15
index Resolution = 16
index Minabs = 17
index Blocks = 18
index Nblkfacs = 19
index Nblocks = 20
index Examine = 21
index Aliasing = 22
index Blocked = 23
index Confounding = 24
index Aberration = 25
index Output = 26
index Out = 27
index Pointrep = 28
index Designrep = 29
index Randomize = 30
index Novalran = 31
index Blockname = 32
index Nvals = 33
index Cvals = 34
index Foldover = 35
index Time = 36
index Nocheck = 37
index Namelen = 38
index Uniteffect = 39
index Name = 40
index Whole = 41
index Decimal = 42
index Quoted = 43
index Semicolon = 44
index Equals = 45
index Open = 46
index Close = 47
index OpenBracket = 48
index CloseBracket = 49
index Slash = 50
index Star = 51
index Bar = 52
index At = 53
index Minus = 54
index End = 55

-- it is this symbol
abbrev pub is : Symbol → Symbol → Bool
is a b = index a == index b

-- a word of any spelling, keyword or not
abbrev pub is_word : Symbol → Bool
is_word s = nat_le (index s) (index Name)

-- the words that are an option of OUTPUT wherever an option may begin
abbrev pub is_output_option : Symbol → Bool
is_output_option s = is Pointrep s || is Designrep s || is Randomize s || is Novalran s || is Blockname s

-- the statements that a step has at most once, before its RUN
abbrev pub is_once : Symbol → Bool
is_once s = is Factors s || is Size s || is Model s || is Blocks s || is Foldover s

-- the words of PROC that this product doesn't keep
abbrev pub is_left_out : Symbol → Bool
is_left_out s = is Time s || is Nocheck s || is Namelen s

-- the sections of the listing after which `(` is as after any other word
abbrev pub is_plain_section : Symbol → Bool
is_plain_section s = is Blocked s || is Confounding s || is Design s

-- the sections of the listing
abbrev pub is_section : Symbol → Bool
is_section s = is Aliasing s || is Aberration s || is_plain_section s
