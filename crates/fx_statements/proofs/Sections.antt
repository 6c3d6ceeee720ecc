-- The sections of an EXAMINE statement, by the grammar.
use Rattle.std.proofs.Common.{◌≡◌, true, false, List, [], ◌∷◌, ◌++◌, refl, sym, ap, ◌∙◌, inl, inr}
use Rattle.std.specs.List.{AllByRecursion, flat_map}
use Rattle.std.proofs.lemmas.Bool.{cases_Bool, or_right}
use Rattle.fx_base.proofs.Lists.{each-append}
use Rattle.fx_language.specs.declared.symbol.Symbol.{Symbol}
use Rattle.fx_language.specs.declared.symbol.Symbol.TheVariants as symbol
use Rattle.fx_language.specs.Symbols.{is, is_section}
use Rattle.fx_language.specs.Shapes.{Before, One}
use Rattle.fx_language.specs.Grammar as grammar
use Rattle.fx_language.proofs.SameSymbol.{symbol_is}
use Rattle.fx_text.specs.Sentences.{IsStatement}
use Rattle.fx_text.specs.Written.{Written}
use Rattle.fx_text.proofs.ByLexemes.{Reads, by_lexemes, before_end, semicolon}
use Rattle.fx_statements.specs.Readings.{AreSectionsRead}

abbrev IsSection : Written → Type 0
IsSection w = is_section w.symbol ≡ true

-- a word that `(` must not follow
no_open_behind : (word : Symbol) (text : List Written) → is_section word ≡ true
    → Reads (Before (One (is word)) grammar.no_open) text → AllByRecursion IsSection text
no_open_behind word text h (x, y, s, inr fault, e) = absurd fault
no_open_behind word text h (x, y, (s, hs, es), inl none, e) =
    rw (rw (es, none) at e) (cc (symbol_is word s.symbol hs), tt)

one : (text : List Written) → Reads grammar.examine_word text → AllByRecursion IsSection text
one text (inl m) = no_open_behind symbol.Aliasing text refl m
one text (inr (inl m)) = no_open_behind symbol.Aberration text refl m
one text (inr (inr (s, plain, only))) =
    rw only
    (or_right _ _ plain, tt)

all : (parts : List (List Written)) → AllByRecursion (Reads grammar.examine_word) parts
    → AllByRecursion IsSection (flat_map (λ (part : List Written). part) parts)
all [] h = tt
all (p ∷ parts) h =
    each-append IsSection p _ (one p h.0) (all parts h.1)

-- EXAMINE itself is no section
other : (section s : Symbol) → is_section section ≡ true → is symbol.Examine s ≡ true → is section s ≡ false
other section s h e = elim (cases_Bool (is section s)) [
  | inl it ↦ absurd (
      let f = ap is_section (sym (symbol_is symbol.Examine s e) ∙ symbol_is section s it) ∙ h in
      cc)
  | inr differs ↦ differs
]

pub sections_law : (s : List Written) → IsStatement grammar.examine s → AreSectionsRead s
sections_law s by_grammar = read (by_lexemes grammar.examine s by_grammar)
  where
    read : Reads grammar.examine (s ++ semicolon ∷ []) → AreSectionsRead s
    read (x0, y0, (k, tk, ek), (x1, y1, (parts, each, flat), (m, tm, em), e1), e0) =
        let sections = flat_map (λ (part : List Written). part) parts in
        let whole = before_end s (k ∷ sections) m (rw (ek, e1, flat, em) at e0) in
        record {
          first = k;
          sections = sections;
          statement = whole;
          word = tk;
          each = all parts each;
          asked = λ section h. cc (other section k.symbol h tk);
        }
