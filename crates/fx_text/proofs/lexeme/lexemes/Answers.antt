use Rattle.std.proofs.Common.{◌≡◌, ◌∙◌, ◌<◌, ◌+◌, ◌++◌, ◌∷◌, [], ℕ, List, length, map, take, take_all, get_or, refl, ap}
use Rattle.std.proofs.lemmas.List.{take_more, map-append, get_or-map}
use Rattle.fx_lexer.specs.declared.token.Token.{Token}
use Rattle.fx_language.specs.declared.symbol.Symbol.{Symbol}
use Rattle.fx_text.specs.Written.{Written, written, written_at}
use Rattle.fx_text.proofs.lexeme.lexemes.Goals as goal

-- the symbol at an index is the token's
own_symbol : (text : List ℕ) (tokens : List Token) (symbols : List Symbol) (i : ℕ) (d : Symbol) (t : Token)
    → i < length tokens → symbols ≡ map (λ t. (written_at text t).symbol) tokens
    → get_or symbols i d ≡ (written_at text (get_or tokens i t)).symbol
own_symbol text tokens symbols i d t within are =
    rw are (get_or-map (λ t. (written_at text t).symbol) tokens i t d within)

-- what is written, with one lexeme more
one_more : (text : List ℕ) (tokens : List Token) (done : List Written) (i : ℕ) (t : Token) (w : Written)
    → i < length tokens → done ≡ written text (take i tokens) → w ≡ written_at text (get_or tokens i t)
    → done ++ w ∷ [] ≡ written text (take (i + 1) tokens)
one_more text tokens done i t w within so_far is = rw (so_far, is, take_more tokens i t within, map-append) refl

pub loop-i-init : goal.loop-i-init
loop-i-init c = c.new-lexemes.ensures

pub lexeme_at-requires : goal.lexeme_at-requires
lexeme_at-requires c =
    let within = rw c.as_slice-token-items.ensures at c.loop-i-test.true in
    rw c.as_slice-token-items.ensures (record {
      token = c.requires.tokens c.loop-i.i _ within;
      symbol = own_symbol c.args.text.now c.args.tokens.now c.args.symbols.now c.loop-i.i _ _ within c.requires.symbols;
    })

pub loop-i-preserved : goal.loop-i-preserved
loop-i-preserved c =
    let within = rw c.as_slice-token-items.ensures at c.loop-i-test.true in
    let is = rw c.as_slice-token-items.ensures at c.lexeme_at.ensures in
    c.in_ok-push.ensures.ok
    ∙ one_more c.args.text.now c.args.tokens.now c.loop-i.lexemes c.loop-i.i _ c.lexeme_at.result within
    c.loop-i.invariant is

pub returns : goal.returns
returns c =
    let past = rw c.as_slice-token-items.ensures at c.loop-i-test.false in
    c.loop-i.invariant ∙ ap (written c.args.text.now) (take_all c.loop-i.i c.args.tokens.now past)
