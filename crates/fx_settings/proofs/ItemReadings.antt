-- The items of a FACTORS or a FOLDOVER statement, by the grammar.
use Rattle.std.proofs.Common.{◌≡◌, true, false, List, [], ◌∷◌, ◌++◌, None, refl, sym, ap, subst, ◌∙◌}
use Rattle.std.proofs.Common.{inl, inr, ◌⊎◌, append_assoc}
use Rattle.std.specs.List.{AllByRecursion, flat_map}
use Rattle.std.proofs.lemmas.Bool.{cases_Bool}
use Rattle.std.proofs.lemmas.List.{append-nil}
use Rattle.fx_language.specs.declared.symbol.Symbol.{Symbol}
use Rattle.fx_language.specs.declared.symbol.Symbol.TheVariants as symbol
use Rattle.fx_language.specs.Symbols.{is, is_word}
use Rattle.fx_language.specs.Shapes.{Empty, One, Before, Either, Many, Matches}
use Rattle.fx_language.specs.Grammar as grammar
use Rattle.fx_language.proofs.SameSymbol.{symbol_is}
use Rattle.fx_text.specs.Written.{Written, begins}
use Rattle.fx_text.specs.Phrases.{preceding, has_symbol}
use Rattle.fx_text.specs.Ranges.{range_end}
use Rattle.fx_text.specs.Sentences.{IsStatement, symbols_in}
use Rattle.fx_text.proofs.Lacking.{before_none, before_part}
use Rattle.fx_text.proofs.ByLexemes.{Reads, matches, by_lexemes, before_end, lacking, semicolon}
use Rattle.fx_settings.specs.Items.{items_behind}
use Rattle.fx_settings.specs.ItemReadings.{AreItems, AreItemsRead, AreFoldedItemsRead}

-- a word is no sign
no_sign : (sign s : Symbol) → is_word sign ≡ false → is_word s ≡ true → is sign s ≡ false
no_sign sign s none word = elim (cases_Bool (is sign s)) [
  | inl it ↦ absurd (let f : false ≡ true = cc (symbol_is sign s it) in cc)
  | inr differs ↦ differs
]

-- an item begins with a word
no_range : (parts : List (List Written)) → AllByRecursion (Reads grammar.item) parts
    → range_end (flat_map (λ (part : List Written). part) parts) ≡ None
no_range [] each = refl
no_range (p ∷ parts) each = one each.0
  where
    one : Reads grammar.item p → range_end (p ++ flat_map (λ (part : List Written). part) parts) ≡ None
    one (x, y, (a, ha, ea), more, e) = rw (e, ea) (rw (no_sign symbol.Minus a.symbol refl ha))

-- the items of what is written so
are_items : (parts : List (List Written)) → AllByRecursion (Reads grammar.item) parts → (before : Written)
    → is symbol.Minus before.symbol ≡ false
    → AreItems parts (items_behind (before ∷ flat_map (λ (part : List Written). part) parts))
are_items [] each before plain = tt
are_items (p ∷ parts) each before plain = one each.0 (are_items parts each.1)
  where
    rest : List Written
    rest = flat_map (λ (part : List Written). part) parts

    sound : Matches grammar.item (symbols_in p)
    sound = matches grammar.item p each.0

    one : Reads grammar.item p
        → ((w : Written) → is symbol.Minus w.symbol ≡ false → AreItems parts (items_behind (w ∷ rest)))
        → AreItems (p ∷ parts) (items_behind (before ∷ p ++ rest))
    one (x, y, (a, ha, ea), inr ey, e) later =
        let all = rw (ea, ey) at e in
        let word = no_sign symbol.Minus a.symbol refl ha in
        rw all (rw (plain, word, no_range parts each.1) ((rw all at sound, ha, refl), later a word))
    one (x, y, (a, ha, ea), inl (u, v, (b, hb, eb), (c, hc, ec), f), e) later =
        let all = rw (ea, f, eb, ec) at e in
        rw all
        (rw (plain, no_sign symbol.Minus a.symbol refl ha, hb)
        ((rw all at sound, ha, (b, hb, hc, refl)), later c (no_sign symbol.Minus c.symbol refl hc)))

-- what is before the first `/`
before_all : (front options : List Written) → has_symbol symbol.Slash front ≡ false
    → (options ≡ []) ⊎ (begins symbol.Slash options ≡ true) → preceding symbol.Slash (front ++ options) ≡ front
before_all front options lack (inl empty) =
    cc (append-nil front, before_none symbol.Slash front lack)
before_all front [] lack (inr some) = absurd (let f = some in cc)
before_all front (w ∷ options) lack (inr some) = before_part symbol.Slash front w options lack some

regrouped : (a b c d e : List Written) → a ++ (b ++ (c ++ (d ++ e))) ≡ (((a ++ b) ++ c) ++ d) ++ e
regrouped a b c d e = simp append_assoc

begun : (options : List Written)
    → Reads (Either (Before (One (is symbol.Slash)) (Before (One (is symbol.Nlev)) (Before (One (is symbol.Equals))
    (One (is symbol.Whole))))) Empty) options
    → (options ≡ []) ⊎ (begins symbol.Slash options ≡ true)
begun options (inl (x, y, (w, hw, ew), h, e)) = inr (rw (rw ew at e) hw)
begun options (inr e) = inl e

pub items_law : (s : List Written) → IsStatement grammar.factors s → AreItemsRead s
items_law s by_grammar = read (by_lexemes grammar.factors s by_grammar)
  where
    read : Reads grammar.factors (s ++ semicolon ∷ []) → AreItemsRead s
    read (
      x0,
      y0,
      (f, hf, ef),
      (x1, y1, n, (x2, y2, g, (x3, y3, (parts, each, fl), (x4, y4, o, (m, tm, em), e4), e3), e2), e1),
      e0,
    ) =
        let all : List (List Written) = (x1 ++ x2) ∷ parts in
        let each_item : AllByRecursion (Reads grammar.item) all = ((x1, x2, n, g, refl), each) in
        let front = flat_map (λ part. part) all in
        let same = symbol_is symbol.Factors f.symbol hf in
        let lack : has_symbol symbol.Slash (f ∷ front) ≡ false =
        rw (ap (is symbol.Slash) same) (lacking symbol.Slash (Many grammar.item) front refl (all, each_item, refl)) in
        let inner : y0 ≡ (front ++ x4) ++ m ∷ [] =
        (rw (e2, e3, fl, e4, em) at e1) ∙ regrouped x1 x2 (flat_map (λ part. part) parts) x4 (m ∷ []) in
        let whole = before_end s (f ∷ front ++ x4) m (rw (ef, inner) at e0) in
        record {
          word = f;
          written = all;
          options = x4;
          statement = whole;
          items = rw whole
              (subst (AreItems all) (sym (ap items_behind (before_all (f ∷ front) x4 lack (begun x4 o))))
              (are_items all each_item f (cc)));
          behind = begun x4 o;
        }

pub folded_items_law : (s : List Written) → IsStatement grammar.foldover s → AreFoldedItemsRead s
folded_items_law s by_grammar = read (by_lexemes grammar.foldover s by_grammar)
  where
    read : Reads grammar.foldover (s ++ semicolon ∷ []) → AreFoldedItemsRead s
    read (x0, y0, (f, hf, ef), (x1, y1, (parts, each, fl), (m, tm, em), e1), e0) =
        let whole = before_end s (f ∷ flat_map (λ part. part) parts) m (rw (ef, e1, fl, em) at e0) in
        record {
          word = f;
          written = parts;
          statement = whole;
          items = rw whole (are_items parts each f (cc (symbol_is symbol.Foldover f.symbol hf)));
        }
