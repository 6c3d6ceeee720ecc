-- The lists of a MODEL statement, by the grammar.
use Rattle.std.proofs.Common.{◌≡◌, ℕ, true, List, [], ◌∷◌, ◌++◌, drop, refl, sym, ap, ◌∙◌, inl, inr}
use Rattle.std.proofs.Common.{append_assoc, ◌⊎◌}
use Rattle.std.proofs.lemmas.List.{append-nil}
use Rattle.fx_language.specs.declared.symbol.Symbol.{Symbol}
use Rattle.fx_language.specs.declared.symbol.Symbol.TheVariants as symbol
use Rattle.fx_language.specs.Symbols.{is}
use Rattle.fx_language.specs.Shapes.{Shape, Empty, One, Before, Either, Many}
use Rattle.fx_language.specs.Grammar as grammar
use Rattle.fx_text.specs.Written.{Written, begins}
use Rattle.fx_text.specs.Phrases.{after, preceding}
use Rattle.fx_text.specs.Sentences.{IsStatement}
use Rattle.fx_text.proofs.ByLexemes.{Reads, by_lexemes, before_end, lacking, semicolon}
use Rattle.fx_text.proofs.Lacking.{after_part, before_part}
use Rattle.fx_effects.specs.Models.{first_or, lists_at, lists_of}
use Rattle.fx_statements.specs.Readings.{HasList, IsSecondRead, IsModelRead}

-- a word, `=`, and effects in parentheses, before what `next` describes
record Listed (first : Symbol) (next : Shape) (text : List Written) : Type 0 where
  list : HasList text
  word_is : is first list.word.symbol ≡ true
  next_is : Reads next list.rest

abbrev listed : (first : Symbol) (next : Shape) (text : List Written)
    → Reads (Before (One (is first))
    (Before (One (is symbol.Equals))
    (Before (One (is symbol.Open))
    (Before grammar.effect (Before (Many grammar.effect) (Before (One (is symbol.Close)) next)))))) text
    → Listed first next text
listed first next text (
  a1,
  b1,
  (w, tw, ew),
  (
    a2,
    b2,
    (q, tq, eq),
    (a3, b3, (o, to, eo), (a4, b4, f, (a5, b5, fs, (a6, b6, (c, tc, ec), n, i6), i5), i4), i3),
    i2,
  ),
  i1,
) = record {
  list = record {
    word = w;
    equals = q;
    open_ = o;
    list = a4 ++ a5;
    close = c;
    rest = b6;
    all = (rw (ew, i2, eq, i3, eo, i4, i5, i6, ec) at i1)
        ∙ ap (λ (l : List Written). w ∷ q ∷ o ∷ l) (sym (append_assoc a4 a5 (c ∷ b6)));
    sign = tq;
    opens = to;
    closes = tc;
    between = lacking symbol.Close (Before grammar.effect (Many grammar.effect)) (a4 ++ a5) refl (a4, a5, f, fs, refl);
  };
  word_is = tw;
  next_is = n;
}

-- the list, where more is written
abbrev before : (text more : List Written) → HasList text → HasList (text ++ more)
before text more l = record {
  word = l.word;
  equals = l.equals;
  open_ = l.open_;
  list = l.list;
  close = l.close;
  rest = l.rest ++ more;
  all = ap (λ (t : List Written). t ++ more) l.all
      ∙ ap (λ (t : List Written). l.word ∷ l.equals ∷ l.open_ ∷ t) (append_assoc l.list (l.close ∷ l.rest) more);
  sign = l.sign;
  opens = l.opens;
  closes = l.closes;
  between = l.between;
}

one_second : (rest : List Written) (l : HasList rest) → is symbol.Nonnegligible l.word.symbol ≡ true
    → IsSecondRead rest
one_second rest l word =
    let between : preceding symbol.Close (drop 3 rest) ≡ l.list =
    cc (before_part symbol.Close l.list l.close l.rest l.between l.closes) in
    inr (l, word, between)

-- the list at the end of its description
abbrev ending : (text : List Written)
    → Reads (Before (One (is symbol.Nonnegligible))
    (Before (One (is symbol.Equals))
    (Before (One (is symbol.Open))
    (Before grammar.effect (Before (Many grammar.effect) (One (is symbol.Close))))))) text
    → Listed symbol.Nonnegligible Empty text
ending text (a1, b1, w, (a2, b2, q, (a3, b3, o, (a4, b4, f, (a5, b5, fs, c, i5), i4), i3), i2), i1) =
    listed symbol.Nonnegligible Empty text (
      a1,
      b1,
      w,
      (a2, b2, q, (a3, b3, o, (a4, b4, f, (a5, b5, fs, (b5, [], c, refl, sym (append-nil b5)), i5), i4), i3), i2),
      i1,
    )

read_lists : (model : Written) (parts : List Written) (l : HasList parts) (q : ℕ) (factors : List (List ℕ))
    → lists_of q factors (model ∷ parts)
    ≡ lists_at q factors l.word l.list (first_or l.word l.rest) (preceding symbol.Close (drop 3 l.rest))
read_lists model parts l q factors =
    let closed : after symbol.Close (l.list ++ l.close ∷ l.rest) ≡ l.rest =
    after_part symbol.Close l.list (l.close ∷ l.rest) l.between ∙ rw l.closes in
    cc (before_part symbol.Close l.list l.close l.rest l.between l.closes)

-- what the grammar has after the first list
abbrev after_first : Shape
after_first =
    Either (Before (One (is symbol.Nonnegligible))
    (Before (One (is symbol.Equals))
    (Before (One (is symbol.Open))
    (Before grammar.effect (Before (Many grammar.effect) (One (is symbol.Close))))))) Empty

abbrev options : Shape
options = Either (Before (One (is symbol.Slash)) (Before (One (is symbol.Minabs)) grammar.no_open)) Empty

short : (text : List Written) → Reads options text → drop 3 text ≡ []
short text (inl (x, y, (a, ha, ea), (p, q, b, inr fault, i2), i1)) = absurd fault
short text (inl (x, y, (a, ha, ea), (p, q, (b, hb, eb), inl none, i2), i1)) =
    let all = rw (ea, i2, eb, none) at i1 in
    cc
short text (inr empty) = cc

second_of : (rest more : List Written) → Reads after_first rest → Reads options more → IsSecondRead (rest ++ more)
second_of rest more (inl n) o =
    let u = ending rest n in
    one_second _ (before rest more u.list) u.word_is
second_of rest more (inr empty) o =
    rw empty (inl (lacking symbol.Open options more refl o, short more o))

pub model_law : (s : List Written) → IsStatement grammar.model s
    → IsModelRead s ⊎ (begins symbol.Resolution (drop 1 s) ≡ true)
model_law s by_grammar = read (by_lexemes grammar.model s by_grammar)
  where
    whole : (k : Written) (x y : List Written) (z : Written) → s ++ semicolon ∷ [] ≡ k ∷ x ++ (y ++ z ∷ [])
        → s ≡ k ∷ x ++ y
    whole k x y z e =
        before_end s (k ∷ x ++ y) z (e ∙ ap (λ (l : List Written). k ∷ l) (sym (append_assoc x y (z ∷ []))))

    read : Reads grammar.model (s ++ semicolon ∷ []) → IsModelRead s ⊎ (begins symbol.Resolution (drop 1 s) ≡ true)
    read (x0, r0, (k, tk, ek), (x1, r1, inl a, (x2, r2, opt, (z, tz, ez), e2), e1), e0) =
        let all : s ≡ k ∷ x1 ++ x2 = whole k x1 x2 z (rw (ek, e1, e2, ez) at e0) in
        let t = listed symbol.Estimate after_first x1 a in
        let first = before x1 x2 t.list in
        inl (record {
          model = k;
          parts = x1 ++ x2;
          statement = all;
          first = first;
          word = t.word_is;
          second = second_of t.list.rest x2 t.next_is opt;
          read = λ q factors. ap (lists_of q factors) all
              ∙ read_lists k (x1 ++ x2) first q factors;
        })
    read (x0, r0, (k, tk, ek), (x1, r1, inr (p, y, (r, tr, er), v, j), (x2, r2, opt, (z, tz, ez), e2), e1), e0) =
        let all : s ≡ k ∷ x1 ++ x2 = whole k x1 x2 z (rw (ek, e1, e2, ez) at e0) in
        inr (rw all (rw (rw er at j) tr))
