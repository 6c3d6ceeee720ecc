-- Statements by the grammar, lexeme by lexeme.
use Rattle.std.proofs.Common.{◌≡◌, Bool, true, false, List, [], ◌∷◌, ◌++◌, refl, sym, ap, ap₂, ◌∙◌, inl, inr, ◌⊎◌}
use Rattle.std.specs.List.{AllByRecursion, flat_map}
use Rattle.fx_language.specs.declared.symbol.Symbol.{Symbol}
use Rattle.fx_language.specs.declared.symbol.Symbol.TheVariants as symbol
use Rattle.fx_language.specs.Shapes.{Shape, Never, Empty, One, Before, Either, Many, Fault, Matches}
use Rattle.fx_language.proofs.Lacking.{lacks, none as no_symbol}
use Rattle.fx_text.specs.Written.{Written}
use Rattle.fx_text.specs.Phrases.{has_symbol}
use Rattle.fx_text.specs.Sentences.{symbols_in, IsStatement}
use Rattle.fx_text.proofs.Lacking.{any_written}

-- what is written is one of those texts that the description represents
abbrev pub Reads : Shape → List Written → Type 0
Reads Never s = ⊥
Reads Empty s = s ≡ []
Reads (One test) s = (w : Written) × (test w.symbol ≡ true) × (s ≡ w ∷ [])
Reads (Before a b) s = (x y : List Written) × Reads a x × Reads b y × (s ≡ x ++ y)
Reads (Either a b) s = Reads a s ⊎ Reads b s
Reads (Many a) s =
    (parts : List (List Written)) × AllByRecursion (Reads a) parts × (s ≡ flat_map (λ part. part) parts)
Reads (Fault code test) s = ⊥

-- what is written, cut where its symbols are
record Halves (s : List Written) (x y : List Symbol) : Type 0 where
  front : List Written
  rest : List Written
  all : s ≡ front ++ rest
  front_is : symbols_in front ≡ x
  rest_is : symbols_in rest ≡ y

halves : (s : List Written) (x y : List Symbol) → symbols_in s ≡ x ++ y → Halves s x y
halves s [] y h = record { front = []; rest = s; all = refl; front_is = refl; rest_is = h }
halves [] (c ∷ x) y h = absurd (cc h)
halves (w ∷ s) (c ∷ x) y h =
    let later = halves s x y (cc h) in
    let first : w.symbol ≡ c = cc h in
    record {
      front = w ∷ later.front;
      rest = later.rest;
      all = ap (λ l. w ∷ l) later.all;
      front_is = ap₂ (λ (a : Symbol) (l : List Symbol). a ∷ l) first later.front_is;
      rest_is = later.rest_is;
    }

none : (s : List Written) → symbols_in s ≡ [] → s ≡ []
none [] h = refl
none (w ∷ s) h = absurd (cc h)

one : (test : Symbol → Bool) (s : List Written) (c : Symbol) → test c ≡ true → symbols_in s ≡ c ∷ []
    → Reads (One test) s
one test [] c t h = absurd (cc h)
one test (w ∷ []) c t h = let first : w.symbol ≡ c = cc h in (w, ap test first ∙ t, refl)
one test (w ∷ v ∷ s) c t h = absurd (cc h)

many : (a : Shape) → ((s : List Written) (t : List Symbol) → symbols_in s ≡ t → Matches a t → Reads a s)
    → (parts : List (List Symbol)) → AllByRecursion (Matches a) parts → (s : List Written)
    → symbols_in s ≡ flat_map (λ part. part) parts → Reads (Many a) s
many a f [] each s e = ([], tt, none s e)
many a f (p ∷ parts) each s e =
    let cut = halves s p (flat_map (λ part. part) parts) e in
    let later = many a f parts each.1 cut.rest cut.rest_is in
    (cut.front ∷ later.0, (f cut.front p cut.front_is each.0, later.1), cut.all ∙ ap (λ l. cut.front ++ l) later.2)

pub reads : (a : Shape) (s : List Written) (t : List Symbol) → symbols_in s ≡ t → Matches a t → Reads a s
reads Never s t e h = h
reads Empty s t e h = none s (e ∙ h)
reads (One test) s t e (c, p, i) = one test s c p (e ∙ i)
reads (Before a b) s t e (x, y, p, q, i) =
    let cut = halves s x y (e ∙ i) in
    (cut.front, cut.rest, reads a cut.front x cut.front_is p, reads b cut.rest y cut.rest_is q, cut.all)
reads (Either a b) s t e (inl h) = inl (reads a s t e h)
reads (Either a b) s t e (inr h) = inr (reads b s t e h)
reads (Many a) s t e (parts, each, i) = many a (λ u v same h. reads a u v same h) parts each s (e ∙ i)
reads (Fault code test) s t e h = h

joined : (x y : List Written) → symbols_in (x ++ y) ≡ symbols_in x ++ symbols_in y
joined [] y = refl
joined (w ∷ x) y = ap (λ l. w.symbol ∷ l) (joined x y)

many_match : (a : Shape) → ((s : List Written) → Reads a s → Matches a (symbols_in s)) → (parts : List (List Written))
    → AllByRecursion (Reads a) parts → Matches (Many a) (symbols_in (flat_map (λ part. part) parts))
many_match a f [] each = ([], tt, refl)
many_match a f (p ∷ parts) each =
    let later = many_match a f parts each.1 in (
      symbols_in p ∷ later.0,
      (f p each.0, later.1),
      joined p (flat_map (λ part. part) parts) ∙ ap (λ l. symbols_in p ++ l) later.2,
    )

-- and conversely
pub matches : (a : Shape) (s : List Written) → Reads a s → Matches a (symbols_in s)
matches Never s h = h
matches Empty s e = ap symbols_in e
matches (One test) s (w, p, e) = (w.symbol, p, ap symbols_in e)
matches (Before a b) s (x, y, p, q, e) =
    (symbols_in x, symbols_in y, matches a x p, matches b y q, ap symbols_in e ∙ joined x y)
matches (Either a b) s (inl h) = inl (matches a s h)
matches (Either a b) s (inr h) = inr (matches b s h)
matches (Many a) s (parts, each, e) = rw e (many_match a (λ u h. matches a u h) parts each)
matches (Fault code test) s h = h

-- a semicolon
abbrev pub semicolon : Written
semicolon = record { symbol = symbol.Semicolon; text = []; line = 1; column = 1 }

ended : (s : List Written) → symbols_in (s ++ semicolon ∷ []) ≡ symbols_in s ++ symbol.Semicolon ∷ []
ended [] = refl
ended (w ∷ s) = ap (λ l. w.symbol ∷ l) (ended s)

-- a statement with its semicolon
pub by_lexemes : (a : Shape) (s : List Written) → IsStatement a s → Reads a (s ++ semicolon ∷ [])
by_lexemes a s h = reads a (s ++ semicolon ∷ []) _ (ended s) h

abbrev pub but_last : List Written → List Written
but_last [] = []
but_last (w ∷ []) = []
but_last (w ∷ v ∷ s) = w ∷ but_last (v ∷ s)

without_last : (s : List Written) (m : Written) → but_last (s ++ m ∷ []) ≡ s
without_last [] m = refl
without_last (w ∷ []) m = refl
without_last (w ∷ v ∷ s) m = ap (λ l. w ∷ l) (without_last (v ∷ s) m)

-- what precedes the semicolon
pub before_end : (s t : List Written) (m : Written) → s ++ semicolon ∷ [] ≡ t ++ m ∷ [] → s ≡ t
before_end s t m e = sym (without_last s semicolon) ∙ ap but_last e ∙ without_last t m

-- a symbol that the description has nowhere
pub lacking : (t : Symbol) (a : Shape) (s : List Written) → lacks t a ≡ true → Reads a s → has_symbol t s ≡ false
lacking t a s lack r = any_written t s ∙ no_symbol t a (symbols_in s) lack (matches a s r)
