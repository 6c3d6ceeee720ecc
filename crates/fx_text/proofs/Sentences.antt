-- The statements of a program are those of which the grammar makes it.
use Rattle.std.proofs.Common.{◌≡◌, ℕ, eqb, Bool, true, false, ◌||◌, List, [], ◌∷◌, ◌++◌, None, refl, sym, ap, ap₂}
use Rattle.std.proofs.Common.{subst, ◌∙◌, append_assoc, inl, inr, ◌⊎◌}
use Rattle.std.specs.List.{list_any, flat_map, AllByRecursion}
use Rattle.std.proofs.lemmas.Bool.{eqb-true, or_parts}
use Rattle.std.proofs.lemmas.List.{append_cancel_right}
use Rattle.std.proofs.lemmas.List.Folds.{list_any-append}
use Rattle.fx_language.specs.declared.symbol.Symbol.{Symbol}
use Rattle.fx_language.specs.declared.symbol.Symbol.TheVariants as word
use Rattle.fx_language.specs.Symbols.{index, is}
use Rattle.fx_language.specs.Shapes.{Shape, Never, Empty, One, Before, Either, Many, Fault, Matches}
use Rattle.fx_language.specs.Grammar as grammar
use Rattle.fx_language.specs.Refusals.{refused}
use Rattle.fx_language.proofs.Prefixes.{accepted_to_match}
use Rattle.fx_language.proofs.Sentences.{sequence_of}
use Rattle.fx_text.specs.Written.{Written, begins, written}
use Rattle.fx_lexer.specs.declared.token.Token.{Token}
use Rattle.fx_lexer.specs.Tokens.{IsToken}
use Rattle.fx_language.specs.Keywords.{symbol_of, symbols_of}
use Rattle.std.proofs.lemmas.List.Elements.{recursion_from_All}
use Rattle.std.specs.Prelude.{All, slice_range, if◌then◌else◌}
use Rattle.fx_language.proofs.SameSymbol.{symbol_is}
use Rattle.fx_language.proofs.Lacking.{lacks, none}
use Rattle.fx_text.specs.Statements.{in_front, statements_of}
use Rattle.fx_text.specs.Sentences.{symbols_in, IsStatement, IsByItsWord, HasNames, IsAccepted}
use Rattle.fx_text.proofs.Wholes.{is_name}

-- each text of the description has one semicolon, its last symbol
abbrev Ends : Shape → Type 0
Ends Never = Unit {0}
Ends Empty = ⊥
Ends (One test) = (s : Symbol) → test s ≡ true → is word.Semicolon s ≡ true
Ends (Before a b) = (lacks word.Semicolon a ≡ true) × Ends b
Ends (Either a b) = Ends a × Ends b
Ends (Many a) = ⊥
Ends (Fault code test) = Unit {0}

record IsEnded (text : List Symbol) : Type 0 where
  body : List Symbol
  lacking : list_any (is word.Semicolon) body ≡ false
  all : text ≡ body ++ word.Semicolon ∷ []

ended : (a : Shape) (text : List Symbol) → Ends a → Matches a text → IsEnded text
ended Never text e m = absurd m
ended Empty text e m = absurd e
ended (One test) text e (s, passed, one) =
    record { body = []; lacking = refl; all = one ∙ ap (λ x. x ∷ []) (symbol_is word.Semicolon s (e s passed)) }
ended (Before a b) text e (x, y, m, n, joined) =
    let o = ended b y e.1 n in
    record {
      body = x ++ o.body;
      lacking = list_any-append (is word.Semicolon) x o.body ∙ ap₂ (λ b c. b || c)
          (none word.Semicolon a x e.0 m) o.lacking;
      all = joined ∙ ap (λ (l : List Symbol). x ++ l) o.all ∙ sym (append_assoc x o.body (word.Semicolon ∷ []));
    }
ended (Either a b) text e (inl m) = ended a text e.0 m
ended (Either a b) text e (inr m) = ended b text e.1 m
ended (Many a) text e m = absurd e
ended (Fault code test) text e m = absurd m

-- every statement of the grammar ends so
sentence_ends : Ends grammar.sentence
sentence_ends = (
  (refl, λ s h. h),
  (
    (refl, (refl, (refl, (λ s h. h, tt)))),
    (
      (λ s h. h),
      (
        (refl, λ s h. h),
        (
          (refl, (refl, (refl, (refl, (refl, λ s h. h))))),
          (
            (refl, (refl, λ s h. h)),
            (
              (refl, (refl, (refl, λ s h. h))),
              (
                (refl, (refl, λ s h. h)),
                (
                  (refl, (refl, λ s h. h)),
                  ((refl, (refl, (refl, (refl, (refl, λ s h. h))))), (refl, (refl, λ s h. h))),
                ),
              ),
            ),
          ),
        ),
      ),
    ),
  ),
)

-- what is written, cut at its first semicolon
record IsCut (text : List Written) (body rest : List Symbol) : Type 0 where
  statement : List Written
  others : List Written
  are : statements_of text ≡ statement ∷ statements_of others
  statement_is : symbols_in statement ≡ body
  others_are : symbols_in others ≡ rest

cut : (text : List Written) (body rest : List Symbol) → list_any (is word.Semicolon) body ≡ false
    → symbols_in text ≡ body ++ word.Semicolon ∷ rest → IsCut text body rest
cut [] [] rest lack h = absurd (cc h)
cut [] (x ∷ body) rest lack h = absurd (cc h)
cut (w ∷ text) [] rest lack h =
    let first : w.symbol ≡ word.Semicolon = cc h in
    let it : is word.Semicolon w.symbol ≡ true = ap (is word.Semicolon) first in
    record { statement = []; others = text; are = rw it refl; statement_is = refl; others_are = cc h }
cut (w ∷ text) (x ∷ body) rest lack h =
    let parts = or_parts (is word.Semicolon x) (list_any (is word.Semicolon) body) lack in
    let first : w.symbol ≡ x = cc h in
    let differs : is word.Semicolon w.symbol ≡ false = ap (is word.Semicolon) first ∙ parts.0 in
    let o = cut text body rest parts.1 (cc h) in
    record {
      statement = w ∷ o.statement;
      others = o.others;
      are = rw differs (ap (in_front w) o.are);
      statement_is = ap₂ (λ (a : Symbol) (l : List Symbol). a ∷ l) first o.statement_is;
      others_are = o.others_are;
    }

none_written : (text : List Written) → symbols_in text ≡ [] → text ≡ []
none_written [] h = refl
none_written (w ∷ text) h = absurd (cc h)

module _ (s : List Written) where
  -- a statement that begins with one word does not begin with another
  apart : (first other : Symbol) (rest : Shape) → is first other ≡ false → begins first s ≡ true
      → IsStatement (Before (One (is other)) rest) s → ⊥
  apart first other rest differ begun (x, y, (a, passed, e), n, all) =
      by_symbol s a (ap (λ (l : List Symbol). l ++ y) e) all begun passed differ
    where
      by_symbol : (s : List Written) (a : Symbol) → x ++ y ≡ a ∷ y → symbols_in s ++ word.Semicolon ∷ [] ≡ x ++ y
          → begins first s ≡ true → is other a ≡ true → is first other ≡ false → ⊥
      by_symbol [] a front all begun passed differ = let f : false ≡ true = begun in cc
      by_symbol (w ∷ s) a front all begun passed differ =
          let same : w.symbol ≡ a = cc (all ∙ front) in
          let one : index other ≡ index w.symbol = eqb-true (index other) (index a) passed ∙ ap index (sym same) in
          let f : false ≡ true = sym differ ∙ ap (λ n. eqb (index first) n) one ∙ begun in
          cc

  -- a semicolon alone ends a statement without a word
  empty : (first : Symbol) → begins first s ≡ true → IsStatement (One (is word.Semicolon)) s → ⊥
  empty first begun (a, passed, all) = short s begun all
    where
      short : (s : List Written) → begins first s ≡ true → symbols_in s ++ word.Semicolon ∷ [] ≡ a ∷ [] → ⊥
      short [] begun all = let f : false ≡ true = begun in cc
      short (w ∷ []) begun all = cc all
      short (w ∷ v ∷ s) begun all = cc all

  -- a statement of one word, by whether each other word is this one
  by_word : (own : Symbol) (rest : Shape) → IsStatement (Before (One (is own)) rest) s
      → (is word.Proc own ≡ false) ⊎ IsStatement grammar.proc s
      → (is word.Factors own ≡ false) ⊎ IsStatement grammar.factors s
      → (is word.Size own ≡ false) ⊎ IsStatement grammar.size s
      → (is word.Model own ≡ false) ⊎ IsStatement grammar.model s
      → (is word.Blocks own ≡ false) ⊎ IsStatement grammar.blocks s
      → (is word.Examine own ≡ false) ⊎ IsStatement grammar.examine s
      → (is word.Output own ≡ false) ⊎ IsStatement grammar.output s
      → (is word.Foldover own ≡ false) ⊎ IsStatement grammar.foldover s
      → IsByItsWord s
  by_word own rest m proc factors size model blocks examine output foldover = record {
    proc = other word.Proc grammar.proc proc;
    factors = other word.Factors grammar.factors factors;
    size = other word.Size grammar.size size;
    model = other word.Model grammar.model model;
    blocks = other word.Blocks grammar.blocks blocks;
    examine = other word.Examine grammar.examine examine;
    output = other word.Output grammar.output output;
    foldover = other word.Foldover grammar.foldover foldover;
  }
    where
      other : (first : Symbol) (shape : Shape) → (is first own ≡ false) ⊎ IsStatement shape s → begins first s ≡ true
          → IsStatement shape s
      other first shape (inl differ) begun = absurd (apart first own rest differ begun m)
      other first shape (inr is) begun = is

  by_its_word : IsStatement grammar.sentence s → IsByItsWord s
  by_its_word (inl m) =
      by_word word.Quit (One (is word.Semicolon)) m (inl refl) (inl refl) (inl refl) (inl refl) (inl refl) (inl refl)
      (inl refl) (inl refl)
  by_its_word (inr (inl m)) =
      by_word word.Proc grammar.proc_rest m (inr m) (inl refl) (inl refl) (inl refl) (inl refl) (inl refl) (inl refl)
      (inl refl)
  by_its_word (inr (inr (inl m))) = record {
    proc = λ begun. absurd (empty word.Proc begun m);
    factors = λ begun. absurd (empty word.Factors begun m);
    size = λ begun. absurd (empty word.Size begun m);
    model = λ begun. absurd (empty word.Model begun m);
    blocks = λ begun. absurd (empty word.Blocks begun m);
    examine = λ begun. absurd (empty word.Examine begun m);
    output = λ begun. absurd (empty word.Output begun m);
    foldover = λ begun. absurd (empty word.Foldover begun m);
  }
  by_its_word (inr (inr (inr (inl m)))) =
      by_word word.Run (One (is word.Semicolon)) m (inl refl) (inl refl) (inl refl) (inl refl) (inl refl) (inl refl)
      (inl refl) (inl refl)
  by_its_word (inr (inr (inr (inr (inl m))))) =
      by_word word.Factors grammar.factors_rest m (inl refl) (inr m) (inl refl) (inl refl) (inl refl) (inl refl)
      (inl refl) (inl refl)
  by_its_word (inr (inr (inr (inr (inr (inl m)))))) =
      by_word word.Size grammar.size_rest m (inl refl) (inl refl) (inr m) (inl refl) (inl refl) (inl refl) (inl refl)
      (inl refl)
  by_its_word (inr (inr (inr (inr (inr (inr (inl m))))))) =
      by_word word.Model grammar.model_rest m (inl refl) (inl refl) (inl refl) (inr m) (inl refl) (inl refl) (inl refl)
      (inl refl)
  by_its_word (inr (inr (inr (inr (inr (inr (inr (inl m)))))))) =
      by_word word.Blocks grammar.blocks_rest m (inl refl) (inl refl) (inl refl) (inl refl) (inr m) (inl refl)
      (inl refl) (inl refl)
  by_its_word (inr (inr (inr (inr (inr (inr (inr (inr (inl m))))))))) =
      by_word word.Examine grammar.examine_rest m (inl refl) (inl refl) (inl refl) (inl refl) (inl refl) (inr m)
      (inl refl) (inl refl)
  by_its_word (inr (inr (inr (inr (inr (inr (inr (inr (inr (inl m)))))))))) =
      by_word word.Output grammar.output_rest m (inl refl) (inl refl) (inl refl) (inl refl) (inl refl) (inl refl)
      (inr m) (inl refl)
  by_its_word (inr (inr (inr (inr (inr (inr (inr (inr (inr (inr m)))))))))) =
      by_word word.Foldover grammar.foldover_rest m (inl refl) (inl refl) (inl refl) (inl refl) (inl refl) (inl refl)
      (inl refl) (inr m)

-- the statements of sentences, one after another
all_of_sentences : (parts : List (List Symbol)) → AllByRecursion (Matches grammar.sentence) parts
    → (text : List Written)
    → symbols_in text ≡ flat_map (λ (part : List Symbol). part) parts → AllByRecursion IsByItsWord (statements_of text)
all_of_sentences [] h text is =
    subst (λ (t : List Written). AllByRecursion IsByItsWord (statements_of t)) (sym (none_written text is)) tt
all_of_sentences (p ∷ parts) h text is =
    let rest : List Symbol = flat_map (λ (part : List Symbol). part) parts in
    let e = ended grammar.sentence p sentence_ends h.0 in
    let c = cut text e.body rest e.lacking
    (is ∙ ap (λ (l : List Symbol). l ++ rest) e.all ∙ append_assoc e.body (word.Semicolon ∷ []) rest) in
    let m : IsStatement grammar.sentence c.statement =
    subst (Matches grammar.sentence)
    (e.all ∙ ap (λ (l : List Symbol). l ++ word.Semicolon ∷ []) (sym c.statement_is)) h.0 in
    subst (AllByRecursion IsByItsWord) (sym c.are)
    (by_its_word c.statement m, all_of_sentences parts h.1 c.others c.others_are)

of_the_grammar : (text : List Written) → refused 0 grammar.program (symbols_in text) ≡ None
    → AllByRecursion IsByItsWord (statements_of text)
of_the_grammar text none =
    let q = sequence_of (symbols_in text ++ word.End ∷ []) (accepted_to_match (symbols_in text) none) in
    let last : q.last ≡ word.End ∷ [] = q.end.2 ∙ ap (λ x. x ∷ []) (symbol_is word.End q.end.0 q.end.1) in
    let same : symbols_in text ++ word.End ∷ [] ≡ q.sentences ++ word.End ∷ [] =
    q.all ∙ ap (λ (l : List Symbol). q.sentences ++ l) last in
    all_of_sentences q.are.parts q.are.each text
    (append_cancel_right (symbols_in text) q.sentences (word.End ∷ []) same ∙ q.are.is)

-- names in the statements of what has names
in_each : (text : List Written) → HasNames text → AllByRecursion HasNames (statements_of text)
in_each [] h = tt
in_each (w ∷ text) (first, h) = place (is word.Semicolon w.symbol) (statements_of text) (in_each text h)
  where
    front : (rest : List (List Written)) → AllByRecursion HasNames rest → AllByRecursion HasNames (in_front w rest)
    front [] h = ((first, tt), tt)
    front (s ∷ rest) h = ((first, h.0), h.1)

    place : (b : Bool) (rest : List (List Written)) → AllByRecursion HasNames rest
        → AllByRecursion HasNames (if b then [] ∷ rest else in_front w rest)
    place true rest h = (tt, h)
    place false rest h = front rest h

names_of_tokens : (text : List ℕ) (tokens : List Token) → AllByRecursion (IsToken text) tokens
    → HasNames (written text tokens)
names_of_tokens text [] h = tt
names_of_tokens text (t ∷ tokens) h = (is_name text t h.0, names_of_tokens text tokens h.1)

same_symbols : (text : List ℕ) (tokens : List Token) → symbols_in (written text tokens) ≡ symbols_of text tokens
same_symbols text [] = refl
same_symbols text (t ∷ tokens) =
    ap (λ (l : List Symbol). symbol_of t.kind (slice_range text t.from t.upto) ∷ l) (same_symbols text tokens)

both : (statements : List (List Written)) → AllByRecursion IsByItsWord statements → AllByRecursion HasNames statements
    → AllByRecursion IsAccepted statements
both [] h k = tt
both (s ∷ rest) h k = (record { by_its_word = h.0; names = k.0 }, both rest h.1 k.1)

pub are_accepted : (text : List ℕ) (tokens : List Token) → All (IsToken text) tokens
    → refused 0 grammar.program (symbols_of text tokens) ≡ None
    → AllByRecursion IsAccepted (statements_of (written text tokens))
are_accepted text tokens all none =
    let ws = written text tokens in
    both (statements_of ws)
    (of_the_grammar ws (ap (refused 0 grammar.program) (same_symbols text tokens) ∙ none))
    (in_each ws (names_of_tokens text tokens (recursion_from_All (IsToken text) tokens all)))
