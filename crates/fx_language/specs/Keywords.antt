-- The symbol of each token: keywords and their short forms, without regard to case, and signs.
use Rattle.std.specs.Prelude.{ℕ, Bool, true, false, ◌==◌, ◌&&◌, List, [], ◌∷◌, ◌++◌, map, codes, slice_index}
use Rattle.std.specs.Prelude.{slice_range, if◌then◌else◌}
use Rattle.std.specs.Char.{to_ascii_lowercase}
use Rattle.fx_lexer.specs.declared.token.Kind.{Kind}
use Rattle.fx_lexer.specs.declared.token.Kind.TheVariants as kind
use Rattle.fx_lexer.specs.declared.token.Token.{Token}
use Rattle.fx_language.specs.declared.symbol.Symbol.{Symbol}
use Rattle.fx_language.specs.declared.symbol.Symbol.TheVariants as symbol

-- the keywords in small letters
abbrev pub keywords : List (List ℕ × Symbol)
keywords =
    (codes "proc", symbol.Proc) ∷
    (codes "factex", symbol.Factex) ∷
    (codes "nodes", symbol.Nodes) ∷
    (codes "run", symbol.Run) ∷
    (codes "quit", symbol.Quit) ∷
    (codes "factors", symbol.Factors) ∷
    (codes "nlev", symbol.Nlev) ∷
    (codes "size", symbol.Size) ∷
    (codes "design", symbol.Design) ∷
    (codes "fraction", symbol.Fraction) ∷
    (codes "nrunfacs", symbol.Nrunfacs) ∷
    (codes "minimum", symbol.Minimum) ∷
    (codes "maximum", symbol.Maximum) ∷
    (codes "model", symbol.Model) ∷
    (codes "estimate", symbol.Estimate) ∷
    (codes "nonnegligible", symbol.Nonnegligible) ∷
    (codes "resolution", symbol.Resolution) ∷
    (codes "minabs", symbol.Minabs) ∷
    (codes "blocks", symbol.Blocks) ∷
    (codes "nblkfacs", symbol.Nblkfacs) ∷
    (codes "nblocks", symbol.Nblocks) ∷
    (codes "examine", symbol.Examine) ∷
    (codes "aliasing", symbol.Aliasing) ∷
    (codes "blocked", symbol.Blocked) ∷
    (codes "confounding", symbol.Confounding) ∷
    (codes "aberration", symbol.Aberration) ∷
    (codes "output", symbol.Output) ∷
    (codes "out", symbol.Out) ∷
    (codes "pointrep", symbol.Pointrep) ∷
    (codes "designrep", symbol.Designrep) ∷
    (codes "randomize", symbol.Randomize) ∷
    (codes "novalran", symbol.Novalran) ∷
    (codes "blockname", symbol.Blockname) ∷
    (codes "nvals", symbol.Nvals) ∷
    (codes "cvals", symbol.Cvals) ∷
    (codes "foldover", symbol.Foldover) ∷
    (codes "time", symbol.Time) ∷
    (codes "nocheck", symbol.Nocheck) ∷
    (codes "namelen", symbol.Namelen) ∷
    (codes "uniteffect", symbol.Uniteffect) ∷ []

-- the short forms of some
abbrev pub short_forms : List (List ℕ × Symbol)
short_forms =
    (codes "est", symbol.Estimate) ∷
    (codes "e", symbol.Estimate) ∷
    (codes "nonneg", symbol.Nonnegligible) ∷
    (codes "n", symbol.Nonnegligible) ∷
    (codes "res", symbol.Resolution) ∷
    (codes "r", symbol.Resolution) ∷
    (codes "max", symbol.Maximum) ∷
    (codes "min", symbol.Minimum) ∷ []

-- each symbol, in the order of their numbers
abbrev pub all_symbols : List Symbol
all_symbols =
    map (λ (row : List ℕ × Symbol). row.1) keywords
    ++ symbol.Name ∷ symbol.Whole ∷ symbol.Decimal ∷ symbol.Quoted
    ∷ symbol.Semicolon ∷ symbol.Equals ∷ symbol.Open ∷ symbol.Close ∷ symbol.OpenBracket ∷ symbol.CloseBracket
    ∷ symbol.Slash ∷ symbol.Star ∷ symbol.Bar ∷ symbol.At ∷ symbol.Minus ∷ symbol.End ∷ []

-- the same bytes
abbrev pub is_same : List ℕ → List ℕ → Bool
is_same [] [] = true
is_same [] (b ∷ y) = false
is_same (a ∷ x) [] = false
is_same (a ∷ x) (b ∷ y) = (a == b) && is_same x y

-- what a word represents in a table, without regard to case
abbrev pub listed_in : List (List ℕ × Symbol) → List ℕ → Symbol
listed_in [] word = symbol.Name
listed_in (row ∷ table) word =
    if is_same (map to_ascii_lowercase row.0) (map to_ascii_lowercase word) then row.1 else listed_in table word

-- the symbol of a word: a keyword, or another name
abbrev pub keyword : List ℕ → Symbol
keyword word = listed_in (keywords ++ short_forms) word

-- the symbol of a sign, by its byte: `;` `=` `(` `)` `[` `]` `/` `*` `|` `@`, and else `-`
abbrev pub sign : ℕ → Symbol
sign b =
    if b == 59 then symbol.Semicolon
    else (if b == 61 then symbol.Equals
    else (if b == 40 then symbol.Open
    else (if b == 41 then symbol.Close
    else (if b == 91 then symbol.OpenBracket
    else (if b == 93 then symbol.CloseBracket
    else (if b == 47 then symbol.Slash
    else (if b == 42 then symbol.Star
    else (if b == 124 then symbol.Bar
    else (if b == 64 then symbol.At
    else symbol.Minus)))))))))

-- the symbol of a token of this kind with these bytes
abbrev pub symbol_of : Kind → List ℕ → Symbol
symbol_of kind.Word bytes = keyword bytes
symbol_of kind.Whole bytes = symbol.Whole
symbol_of kind.Decimal bytes = symbol.Decimal
symbol_of kind.Quoted bytes = symbol.Quoted
symbol_of kind.Sign bytes = sign (slice_index bytes 0)

-- the symbols of the tokens of a text
abbrev pub symbols_of : List ℕ → List Token → List Symbol
symbols_of text tokens = map (λ (t : Token). symbol_of t.kind (slice_range text t.from t.upto)) tokens
