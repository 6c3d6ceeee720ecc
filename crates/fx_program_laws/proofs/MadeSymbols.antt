-- The symbols of the text of `make`: the grammar and the rules on repeated words refuse none of them.
use Rattle.std.proofs.Common.{ℕ, ◌≡◌, ◌<◌, ◌≤◌, ◌+◌, ◌%◌, Bool, true, false, List, [], ◌∷◌, ◌++◌, map, length, refl}
use Rattle.std.proofs.Common.{ap, ◌∙◌, arith, append_assoc, append-nil, Option, Some, None}
use Rattle.std.specs.Fmt.{digits}
use Rattle.std.specs.Prelude.{if◌then◌else◌, ◌==◌}
use Rattle.std.proofs.lemmas.Bool.{both_ways, lt-leb}
use Rattle.std.proofs.lemmas.List.{map-append}
use Rattle.fx_lexer.specs.declared.token.Kind.{Kind}
use Rattle.fx_lexer.specs.declared.token.Token.{Token}
use Rattle.fx_lexer.specs.declared.place.Place.{Place}
use Rattle.fx_lexer.specs.Places.{place_after}
use Rattle.fx_lexer.specs.Lexing.{tokens_of_kind}
use Rattle.fx_lexer.specs.TextPieces.{Piece, spelling, kind_of, text_of, tokens_among}
use Rattle.fx_lexer.proofs.Spans.{middle_range}
use Rattle.fx_language.specs.declared.symbol.Symbol.{Symbol}
use Rattle.fx_language.specs.declared.symbol.Symbol.TheVariants.{Proc, Factex, Nodes, Run, Factors, Nlev, Size, Design}
use Rattle.fx_language.specs.declared.symbol.Symbol.TheVariants.{Model, Resolution, Maximum, Minabs, Name, Whole}
use Rattle.fx_language.specs.declared.symbol.Symbol.TheVariants.{Semicolon, Equals, Slash, Minus}
use Rattle.fx_language.specs.Keywords.{symbol_of, symbols_of}
use Rattle.fx_language.specs.Grammar.{program}
use Rattle.fx_language.specs.Refusals.{refused}
use Rattle.fx_language.specs.declared.repeated.Past.{Past}
use Rattle.fx_language.specs.SymbolSets.{empty, including}
use Rattle.fx_language.specs.Pasts.{past_of, past_after, rule_code}
use Rattle.fx_language.specs.Continuations.{in_step}
use Rattle.fx_language.specs.Repeats.{repeated, or_later, rule_at, begins_with}
use Rattle.fx_language.specs.FirstRefusal.{first_refusal}
use Rattle.fx_language.proofs.Pass.{past_next, rule_is}
use Rattle.fx_text.specs.Written.{Written, written, written_at}
use Rattle.fx_program_laws.proofs.MadePieces.{each_below, pieces_of, step_pieces}

-- ---- what is written in pieces

-- what a piece of a kind is at a place
abbrev pub lexeme_at : Place → Option Kind → List ℕ → List Written
lexeme_at place None bytes = []
lexeme_at place (Some k) bytes =
    record { symbol = symbol_of k bytes; text = bytes; line = place.line; column = place.column } ∷ []

-- what is written in pieces that follow the bytes before
abbrev pub written_among : List ℕ → List Piece → List Written
written_among before [] = []
written_among before (p ∷ pieces) =
    lexeme_at (place_after before) (kind_of p) (spelling p) ++ written_among (before ++ spelling p) pieces

module _ (before : List ℕ) (p : Piece) (rest : List ℕ) where
  first : (o : Option Kind) (tokens : List Token) (ws : List Written)
      → map (written_at (before ++ (spelling p ++ rest))) tokens ≡ ws
      → map (written_at (before ++ (spelling p ++ rest)))
      (tokens_of_kind (place_after before) (length before) o (length (spelling p)) ++ tokens)
      ≡ lexeme_at (place_after before) o (spelling p) ++ ws
  first None tokens ws e = e
  first (Some k) tokens ws e =
      cc (middle_range before (spelling p) rest (length before + length (spelling p)) refl)

pub written_are : (pieces : List Piece) (before : List ℕ)
    → written (before ++ text_of pieces []) (tokens_among before pieces) ≡ written_among before pieces
written_are [] before = refl
written_are (p ∷ pieces) before =
    first before p _ _ _
    _
    (rw append_assoc at (written_are pieces (before ++ spelling p)))

pub written-append : (ps qs : List Piece) (before : List ℕ)
    → written_among before (ps ++ qs) ≡ written_among before ps ++ written_among (before ++ text_of ps []) qs
written-append [] qs before = cc (append-nil before)
written-append (p ∷ ps) qs before =
    cc (
      written-append ps qs (before ++ spelling p),
      append_assoc before (spelling p) (text_of ps []),
      append_assoc
          (lexeme_at (place_after before) (kind_of p) (spelling p))
          (written_among (before ++ spelling p) ps) (written_among (before ++ text_of (p ∷ ps) []) qs),
    )

abbrev pub symbols : List Written → List Symbol
symbols ws = map (λ (w : Written). w.symbol) ws

pub symbols_are : (text : List ℕ) (tokens : List Token) → symbols_of text tokens ≡ symbols (written text tokens)
symbols_are text [] = refl
symbols_are text (t ∷ tokens) =
    cc (symbols_are text tokens)

-- ---- the symbols of a step

abbrev pub model_symbols : Bool → List Symbol
model_symbols true = Slash ∷ Minabs ∷ Semicolon ∷ Run ∷ Semicolon ∷ []
model_symbols false = Semicolon ∷ Run ∷ Semicolon ∷ []

abbrev pub step_symbols : Bool → List Symbol
step_symbols least =
    Proc ∷ Factex ∷ Nodes ∷ Equals ∷ Whole ∷ Semicolon ∷ Factors ∷ Name ∷ Minus ∷ Name ∷ Slash ∷ Nlev ∷ Equals ∷ Whole
    ∷ Semicolon
    ∷ Size ∷ Design ∷ Equals ∷ Whole ∷ Semicolon ∷ Model ∷ Resolution ∷ Equals ∷ Maximum ∷ model_symbols least

pub symbols_of_step : (r : ℕ) → r < 12 → (before : List ℕ)
    → symbols (written_among before (step_pieces r)) ≡ step_symbols (r % 4 == 0)
unfolding digits
symbols_of_step r low =
    each_below (λ r. (before : List ℕ) → symbols (written_among before (step_pieces r)) ≡ step_symbols (r % 4 == 0)) 0
    12 (
      λ before. refl,
      (
        λ before. refl,
        (
          λ before. refl,
          (
            λ before. refl,
            (
              λ before. refl,
              (
                λ before. refl,
                (
                  λ before. refl,
                  (λ before. refl, (λ before. refl, (λ before. refl, (λ before. refl, (λ before. refl, tt))))),
                ),
              ),
            ),
          ),
        ),
      ),
    )
    r (omega arith) (omega arith)

-- ---- the grammar

grammar_of_step : (least : Bool) (rest : List Symbol) → ((i : ℕ) → refused i in_step rest ≡ None) → (i : ℕ)
    → refused i in_step (step_symbols least ++ rest) ≡ None
unfolding refused
grammar_of_step true rest h i = h _
grammar_of_step false rest h i = h _

grammar_of_first : (least : Bool) (rest : List Symbol) → ((i : ℕ) → refused i in_step rest ≡ None)
    → refused 0 program (step_symbols least ++ rest) ≡ None
unfolding refused
grammar_of_first true rest h = h _
grammar_of_first false rest h = h _

-- the symbols of the steps of these numbers
abbrev pub symbols_of_steps : List ℕ → List Symbol
symbols_of_steps [] = []
symbols_of_steps (k ∷ ks) = step_symbols (k % 12 % 4 == 0) ++ symbols_of_steps ks

grammar_of_steps : (ks : List ℕ) (i : ℕ) → refused i in_step (symbols_of_steps ks) ≡ None
unfolding refused
grammar_of_steps [] i = refl
grammar_of_steps (k ∷ ks) i = grammar_of_step (k % 12 % 4 == 0) (symbols_of_steps ks) (grammar_of_steps ks) i

grammar_of_all : (ks : List ℕ) → refused 0 program (symbols_of_steps ks) ≡ None
unfolding refused
grammar_of_all [] = refl
grammar_of_all (k ∷ ks) = grammar_of_first (k % 12 % 4 == 0) (symbols_of_steps ks) (grammar_of_steps ks)

-- ---- the rules on repeated words

abbrev is_none : Option ℕ → Bool
is_none None = true
is_none (Some code) = false

-- what is kept after these symbols, where no rule refuses one of them
abbrev walk : Past → List Symbol → List Symbol → Option Past
walk p [] rest = Some p
walk p (s ∷ ss) rest =
    if is_none (rule_code p s (begins_with Factex (ss ++ rest))) then walk (past_after p s) ss rest else None

none_is : (o : Option ℕ) → is_none o ≡ true → o ≡ None
none_is None e = refl
none_is (Some code) e = absurd (both_ways false refl e)

-- the rules refuse none of these symbols, and then none of the rest
walked : (ss rest seen : List Symbol) (i : ℕ) (p after : Past) → past_of seen ≡ p → walk p ss rest ≡ Some after
    → ((seen : List Symbol) (i : ℕ) → past_of seen ≡ after → repeated seen i rest ≡ None)
    → repeated seen i (ss ++ rest) ≡ None
walked [] rest seen i p after is e h = let same : p ≡ after = cc e in h seen i (is ∙ same)
walked (s ∷ ss) rest seen i p after is e h =
    let go : (b : Bool) → is_none (rule_code p s (begins_with Factex (ss ++ rest))) ≡ b
    → (if b then walk (past_after p s) ss rest else None) ≡ Some after → repeated seen i ((s ∷ ss) ++ rest) ≡ None =
    λ b. elim b as
    (λ b. is_none (rule_code p s (begins_with Factex (ss ++ rest))) ≡ b
    → (if b then walk (past_after p s) ss rest else None) ≡ Some after → repeated seen i ((s ∷ ss) ++ rest) ≡ None) [
      | true ↦ λ none go_on.
          (let rule : rule_at seen s (ss ++ rest)
          ≡ None = rule_is seen (ss ++ rest) s ∙ ap (λ q. rule_code q s (begins_with Factex (ss ++ rest))) is ∙
          none_is _ none in
          ap (λ o. or_later i o (repeated (s ∷ seen) (i + 1) (ss ++ rest))) rule
          ∙ walked ss rest (s ∷ seen) (i + 1) (past_after p s) after
          (cc (past_next s seen)) go_on h)
      | false ↦ λ none stop. cc stop
    ] in
    go (is_none (rule_code p s (begins_with Factex (ss ++ rest)))) refl e

-- what is kept after a step, where so many PROC statements were seen
abbrev after_step : ℕ → Past
after_step n = record {
  start = true;
  behind_equals = false;
  in_brackets = false;
  procs = n;
  step = including Run (including Model (including Size (including Factors empty)));
  begun = Semicolon;
  options = empty;
}

-- at the front
abbrev at_front : Past
at_front = record {
  start = true;
  behind_equals = false;
  in_brackets = false;
  procs = 0;
  step = empty;
  begun = Semicolon;
  options = empty;
}

walk_of_step : (least : Bool) (n : ℕ) (rest : List Symbol) → n < 100
    → walk (after_step n) (step_symbols least) rest ≡ Some (after_step (n + 1))
walk_of_step true n rest low = rw (lt-leb 100 n low)
walk_of_step false n rest low = rw (lt-leb 100 n low)

walk_of_first : (least : Bool) (rest : List Symbol) → walk at_front (step_symbols least) rest ≡ Some (after_step 1)
walk_of_first true rest = refl
walk_of_first false rest = refl

rules_of_steps : (ks : List ℕ) (n : ℕ) → n + length ks ≤ 100 → (seen : List Symbol) (i : ℕ)
    → past_of seen ≡ after_step n → repeated seen i (symbols_of_steps ks) ≡ None
rules_of_steps [] n many seen i is = refl
rules_of_steps (k ∷ ks) n many seen i is =
    walked (step_symbols (k % 12 % 4 == 0)) _ seen i _ _ is
    (walk_of_step (k % 12 % 4 == 0) n (symbols_of_steps ks) (omega arith)) (rules_of_steps ks (n + 1) (omega arith))

rules_of_all : (ks : List ℕ) → length ks ≤ 100 → repeated [] 0 (symbols_of_steps ks) ≡ None
rules_of_all [] many = refl
rules_of_all (k ∷ ks) many =
    walked (step_symbols (k % 12 % 4 == 0)) _ [] 0 at_front _ refl
    (walk_of_first (k % 12 % 4 == 0) (symbols_of_steps ks)) (rules_of_steps ks 1 (omega arith))

pub none_refused : (ks : List ℕ) → length ks ≤ 100 → first_refusal (symbols_of_steps ks) ≡ None
none_refused ks many = rw (grammar_of_all ks, rules_of_all ks many)

-- the symbols of the pieces
pub all_symbols : (ks : List ℕ) (before : List ℕ) → symbols (written_among before (pieces_of ks)) ≡ symbols_of_steps ks
all_symbols [] before = refl
all_symbols (k ∷ ks) before =
    cc (
      written-append (step_pieces (k % 12)) (pieces_of ks) before,
      map-append (λ w. w.symbol)
          (written_among before (step_pieces (k % 12)))
          (written_among (before ++ text_of (step_pieces (k % 12)) []) (pieces_of ks)),
      symbols_of_step (k % 12) (omega arith)
          before,
      all_symbols ks (before ++ text_of (step_pieces (k % 12)) []),
    )
