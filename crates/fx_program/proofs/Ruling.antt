-- The steps of a text with rules, one after the other.
use Rattle.std.proofs.Common.{ℕ, ◌≡◌, ◌+◌, ◌==◌, Bool, true, false, List, [], ◌∷◌, ◌++◌, length, drop, slice_index}
use Rattle.std.proofs.Common.{Option, Some, Result, Ok, Err, All, refl, sym, ap, ap₂, ◌∙◌, append_assoc}
use Rattle.std.specs.Prelude.{◌&&◌, IfSome, if◌then◌else◌}
use Rattle.std.proofs.lemmas.List.{length-map}
use Rattle.std.proofs.lemmas.List.Elements.{All-head, All-tail}
use Rattle.fx_lexer.specs.declared.token.Token.{Token}
use Rattle.fx_language.specs.declared.symbol.Symbol.{Symbol}
use Rattle.fx_language.specs.declared.symbol.Symbol.TheVariants.{Proc, Semicolon}
use Rattle.fx_language.specs.Keywords.{symbols_of}
use Rattle.fx_language.specs.Symbols.{is}
use Rattle.fx_rules.specs.Parts.{IsWithin, blanked, blanked_from, parts_of}
use Rattle.fx_rules.specs.declared.parts.Part.{Part}
use Rattle.fx_statements.specs.Steps.{Meaning}
use Rattle.fx_statements.specs.declared.outcome.Outcome.{Outcome}
use Rattle.fx_vectors.specs.Matrix.{MatrixView}
use Rattle.fx_vectors.specs.declared.book.NamedBook.{NamedBook}
use Rattle.fx_rules.proofs.Blanks.{length-blanked_from}
use Rattle.fx_program.specs.Ended.{ended_lines, ended_output, ended_status, lines_if_given}
use Rattle.fx_program.specs.Planning.{RuledView, all_ruled, and_then, given_output, met_by, part_before, planned_by}
use Rattle.fx_program.specs.Planning.{procs_behind}
use Rattle.fx_program.specs.Planning.{planned_in, ruled, ruled_steps, step_starts}
use Rattle.fx_program.specs.Plans.{AskedView}
use Rattle.fx_program.specs.Statuses.{met_status}
use Rattle.fx_program.specs.Texts.{program_in}
use Rattle.fx_program.specs.declared.giving.Origin.{Origin}
use Rattle.fx_program.specs.declared.giving.Origin.TheVariants.{Rules}
use Rattle.fx_program.specs.declared.plan_fault.PlanFault.TheVariants as fault
use Rattle.fx_program.specs.declared.text.TextFault.{TextFault}

-- a part that is found is within the text
either : (n : ℕ) (p : Part) (later : Option Part) (c : Bool) → IsWithin n p → IfSome later (IsWithin n)
    → IfSome (if c then Some p else later) (IsWithin n)
either n p later true here there = here
either n p later false here there = there

pub found_within : (n : ℕ) (parts : List Part) (start : ℕ) → All (IsWithin n) parts
    → IfSome (part_before parts start) (IsWithin n)
found_within n [] start all = tt
found_within n (p ∷ parts) start all =
    either n p _ (p.step == start) (All-head (IsWithin n) p parts all)
    (found_within n parts start (All-tail (IsWithin n) p parts all))

-- a step more
pub one_ruled : (text : List ℕ) (parts : List Part) (starts : List ℕ) (done : List RuledView) (one : RuledView)
    (step : Meaning) (steps : List Meaning) (i : ℕ) → length done ≡ i
    → ruled text parts (slice_index starts i) step ≡ Ok one
    → all_ruled text parts starts done (step ∷ steps) ≡ all_ruled text parts starts (done ++ one ∷ []) steps
one_ruled text parts starts done one step steps i long is =
    ap (λ r. and_then r (λ one. all_ruled text parts starts (done ++ one ∷ []) steps))
    (ap (λ n. ruled text parts (slice_index starts n) step) long ∙ is)

-- a token more, of those among which steps begin
pub count_symbols : (text : List ℕ) (tokens : List Token) → length (symbols_of text tokens) ≡ length tokens
count_symbols text tokens = length-map tokens _

pub one_token : (fresh : Bool) (starts : List ℕ) (tokens : List Token) (symbols : List Symbol) (i : ℕ) (t : Token)
    (s : Symbol)
    → drop i tokens ≡ t ∷ drop (i + 1) tokens → drop i symbols ≡ s ∷ drop (i + 1) symbols
    → (starts ++ (if fresh && is Proc s then t.from ∷ [] else []))
    ++ procs_behind (is Semicolon s) (drop (i + 1) tokens) (drop (i + 1) symbols)
    ≡ starts ++ procs_behind fresh (drop i tokens) (drop i symbols)
one_token fresh starts tokens symbols i t s token symbol =
    append_assoc starts _ _
    ∙ ap₂ (λ (ts : List Token) (ss : List Symbol). starts ++ procs_behind fresh ts ss) (sym token) (sym symbol)

-- what a text gives, by its parts, its program and where its steps begin
pub by_program : (text bytes : List ℕ) (parts : List Part) (starts : List ℕ) (steps : List Meaning)
    → parts ≡ parts_of text → bytes ≡ blanked text parts → program_in bytes ≡ Ok steps → starts ≡ step_starts bytes
    → planned_in text ≡ ruled_steps text parts starts steps
unfolding planned_in
by_program text bytes parts starts steps own blank read begin =
    ap (λ (ps : List Part). planned_by text ps (step_starts (blanked text ps)) (program_in (blanked text ps))) (sym own)
    ∙ ap (λ (bs : List ℕ). planned_by text parts (step_starts bs) (program_in bs)) (sym blank)
    ∙ ap₂ (λ (ss : List ℕ) (r : Result (List Meaning) TextFault). planned_by text parts ss r) (sym begin) read

pub by_fault : (text bytes : List ℕ) (parts : List Part) (wrong : TextFault)
    → parts ≡ parts_of text → bytes ≡ blanked text parts → program_in bytes ≡ Err wrong
    → planned_in text ≡ Err (fault.Program wrong)
unfolding planned_in
by_fault text bytes parts wrong own blank read =
    ap (λ (ps : List Part). planned_by text ps (step_starts (blanked text ps)) (program_in (blanked text ps))) (sym own)
    ∙ ap (λ (bs : List ℕ). planned_by text parts (step_starts bs) (program_in bs)) (sym blank)
    ∙ ap (planned_by text parts (step_starts bytes)) read

-- what is given for a step is what its outcome gives, where that has the matrix of the rules and no books
pub given_is : (seed : ℕ) (earlier : List AskedView) (own : RuledView) (number n : ℕ) (step : Meaning)
    (outcome : Outcome)
    (origin : Origin)
    → n ≡ number → step ≡ own.step → outcome.matrix ≡ Some own.matrix → outcome.books ≡ [] → origin ≡ Rules (met_by own)
    → given_output seed number earlier own
    ≡ ended_output seed n earlier step outcome.books outcome.matrix (ended_lines origin n step outcome)
    (ended_status origin outcome)
given_is seed earlier own number n step outcome origin n_is step_is matrix_is books_is origin_is =
    sym
    (ap (λ (o : Origin). ended_output seed n earlier step outcome.books outcome.matrix (ended_lines o n step outcome)
    (ended_status o outcome)) origin_is
    ∙ ap₂ (λ (books : List NamedBook) (matrix : Option MatrixView). ended_output seed n earlier step books matrix
    (lines_if_given n step (met_by own) matrix) (met_status (met_by own))) books_is matrix_is
    ∙ ap₂ (λ (k : ℕ) (s : Meaning). ended_output seed k earlier s [] (Some own.matrix)
    (lines_if_given k s (met_by own) (Some own.matrix)) (met_status (met_by own))) n_is step_is)

pub length-blanked : (text : List ℕ) (parts : List Part) → length (blanked text parts) ≡ length text
length-blanked text [] = refl
length-blanked text (p ∷ parts) =
    length-blanked (blanked_from p.at p.end 0 text) parts ∙ length-blanked_from p.at p.end 0 text
