-- What any text bounds: its steps, the factors and questions of each. The factors of a step and the OUT names of a text
-- are names and differ.
use Rattle.std.proofs.Common.{ℕ, ◌≡◌, ◌≤◌, ◌+◌, ◌-◌, ◌^◌, ◌∙◌, suc, max, Bool, true, false, List, [], ◌∷◌, ◌++◌, length}
use Rattle.std.proofs.Common.{length-append, refl, sym, subst, ap, arith, append-nil, Option, Some, None, Result, Ok}
use Rattle.std.proofs.Common.{Err, cond}
use Rattle.std.specs.Prelude.{All, nat_lt, nat_le, if◌then◌else◌, find, is_some}
use Rattle.std.specs.List.{AllByRecursion, IsDistinct, flat_map, range_with_len}
use Rattle.std.proofs.lemmas.Bool.{and_parts, leb-true, ltb-false}
use Rattle.std.proofs.lemmas.List.{length-map}
use Rattle.std.proofs.lemmas.List.Concat.{flat_map-append}
use Rattle.std.proofs.lemmas.List.Sums.{count_by-le-length}
use Rattle.std.proofs.lemmas.List.FromFn.{length-range_with_len}
use Rattle.std.proofs.lemmas.List.Elements.{recursion_from_All}
use Rattle.fx_base.proofs.Lists.{each-append, each-take}
use Rattle.fx_lexer.specs.declared.token.Token.{Token}
use Rattle.fx_lexer.specs.declared.token.LexFault.{LexFault}
use Rattle.fx_lexer.specs.Lexing.{lexed}
use Rattle.fx_lexer.specs.Tokens.{AreInOrder, IsToken}
use Rattle.fx_lexer.proofs.Spans.{each_of_text, in_order_of_text}
use Rattle.fx_language.specs.Keywords.{symbols_of}
use Rattle.fx_language.specs.declared.symbol.Symbol.TheVariants as word
use Rattle.fx_language.specs.FirstRefusal.{first_refusal}
use Rattle.fx_text.specs.declared.refusal.Refusal.{Refusal}
use Rattle.fx_text.specs.Names.{IsName, is_same_name}
use Rattle.fx_text.specs.Sentences.{IsAccepted}
use Rattle.fx_text.specs.Phrases.{start_of}
use Rattle.fx_text.specs.Written.{Written, written, written_at}
use Rattle.fx_text.specs.Statements.{in_front, statement_of, statements_of, steps_of, rest_of_step}
use Rattle.fx_text.proofs.Sentences.{are_accepted}
use Rattle.fx_text.proofs.Chains.{bind_ok, same_ok}
use Rattle.fx_text.proofs.Distinct.{none_differ}
use Rattle.fx_settings.specs.Factors as named
use Rattle.fx_settings.specs.Items.{items_of}
use Rattle.fx_outputs.specs.Outputs.{names_of, outputs_of}
use Rattle.fx_outputs.specs.Contexts.{Context}
use Rattle.fx_outputs.specs.Validity.{HasItsNames}
use Rattle.fx_outputs.specs.declared.output.OutputSpec.{OutputSpec}
use Rattle.fx_outputs.proofs.Names.{all_differ, all_have_names, built_names}
use Rattle.fx_outputs.specs.Earlier.{plan_names}
use Rattle.fx_outputs.specs.declared.earlier.EarlierPlan.{EarlierPlan}
use Rattle.fx_settings.specs.declared.settings.Size.{Size}
use Rattle.fx_settings.specs.declared.settings.Size.TheVariants.{Runs, Minimum}
use Rattle.fx_settings.specs.Said.{step_said, levels_said}
use Rattle.fx_settings.specs.Valid.{is_size}
use Rattle.fx_designs.specs.Problems.{Problem}
use Rattle.fx_settings.proofs.Distinct.{factors_differ}
use Rattle.fx_settings.proofs.Within.{all_within}
use Rattle.fx_settings.specs.Settings.{number_or}
use Rattle.fx_statements.specs.Contexts.{context}
use Rattle.fx_statements.specs.Steps.{Meaning, asked_by, examine_of, factor_limit, factors_by, head_of, some_factors}
use Rattle.fx_statements.specs.Steps.{plans_after, step_by, step_of}
use Rattle.fx_statements.specs.Programs.{accepted, program_of, steps_behind}
use Rattle.fx_statements.specs.Questions.{Turn, asked, highest, is_last, lowest, passes, question_for}
use Rattle.fx_statements.specs.Questions.{questions_of, turns, up_to}
use Rattle.fx_statements.specs.Folds.{fold_of}
use Rattle.fx_statements.proofs.Bounds.{most_of_all}
use Rattle.fx_statements.proofs.Parts.{named_factors, none_refused}
use Rattle.fx_statements.proofs.Parts as parts
use Rattle.fx_answer.specs.Books.{finished, finished_before}
use Rattle.fx_answer.proofs.Valid.{few_factors}
use Rattle.fx_program.specs.Texts.{at_front, or_refused, program_by, program_in}
use Rattle.fx_program.proofs.AnyText.{some_same}
use Rattle.fx_vectors.specs.declared.shape.TheConstants.{MOST_FACTORS}

-- ---- what is read of a step

-- the OUT names of steps
abbrev pub out_names_of : List Meaning → List (List ℕ)
out_names_of steps = flat_map (λ (step : Meaning). names_of step.outputs) steps

-- the factors of a step
pub record HasFactors (step : Meaning) : Type 0 where
  pub few : length step.factors ≤ MOST_FACTORS
  pub names : All IsName step.factors
  pub distinct : IsDistinct is_same_name step.factors

record IsReadBehind (earlier : List (List ℕ)) (step : Meaning) : Type 0 where
  pub factors : HasFactors step
  pub names : IsDistinct is_same_name (earlier ++ names_of step.outputs)
  pub spelled : AllByRecursion IsName (names_of step.outputs)

spelled_names : (context : Context) (outputs : List OutputSpec) → AllByRecursion (HasItsNames context) outputs
    → AllByRecursion IsName (names_of outputs)
spelled_names context [] h = tt
spelled_names context (o ∷ outputs) h = (h.0.name, spelled_names context outputs h.1)

step_read : (earlier : List EarlierPlan) (statements : List (List Written)) (factors : Option (List Written))
    (step : Meaning)
    → AllByRecursion IsAccepted statements → statement_of word.Factors statements ≡ factors
    → IsDistinct is_same_name (plan_names earlier)
    → step_by earlier statements factors ≡ Ok step → IsReadBehind (plan_names earlier) step
step_read earlier statements None step is here differ e = cc e
step_read earlier statements (Some given) step is here differ e =
    let proc = start_of (head_of statements) in
    let factors = bind_ok (factors_by proc (factor_limit given statements) given) _ step e in
    let found =
    bind_ok (named.names_of_factors (factor_limit given statements) given) (some_factors proc) factors.0 factors.1 in
    let asked =
    bind_ok (asked_by factors.0 (step_said (head_of statements) given statements) statements) _ step factors.2 in
    let fold = bind_ok (fold_of factors.0 asked.0.0 statements) _ step asked.2 in
    let outputs = bind_ok (outputs_of (context factors.0 asked.0.0) earlier statements) _ step fold.2 in
    let whole : Meaning =
    record {
      factors = factors.0;
      settings = asked.0.0;
      requirement = asked.0.1;
      examine = examine_of statements;
      fold = fold.0;
      outputs = outputs.0;
    } in
    let few = all_within (factor_limit given statements) [] (items_of given) found.0 (omega arith) found.1 in
    let same = some_same proc found.0 factors.0 found.2 in
    let most =
    most_of_all (number_or 2 (levels_said given)) (is_some (statement_of word.Blocks statements)) in
    let accepted = parts.found IsAccepted word.Factors statements given is here in
    subst (IsReadBehind (plan_names earlier)) (same_ok whole step outputs.2)
    (record {
      factors = record {
        few = rw (← same) (omega arith);
        names = named_factors proc _ given factors.0
            (accepted.0.by_its_word.factors accepted.1) accepted.0.names factors.1;
        distinct = subst (IsDistinct is_same_name) same
            (factors_differ _ given found.0 found.1);
      };
      names = all_differ (context factors.0 asked.0.0) earlier statements outputs.0 differ outputs.1;
      spelled = spelled_names _ outputs.0
          (recursion_from_All _ outputs.0
          (all_have_names (context factors.0 asked.0.0) earlier statements outputs.0 is outputs.1));
    })

record AreReadBehind (steps done : List Meaning) (groups : ℕ) : Type 0 where
  pub factors : AllByRecursion HasFactors steps
  pub names : IsDistinct is_same_name (out_names_of steps)
  pub spelled : AllByRecursion IsName (out_names_of steps)
  pub many : length steps ≡ length done + groups

all_read : (earlier : List EarlierPlan) (done : List Meaning) (groups : List (List (List Written)))
    (steps : List Meaning)
    → AllByRecursion (AllByRecursion IsAccepted) groups → plan_names earlier ≡ out_names_of done
    → IsDistinct is_same_name (plan_names earlier)
    → AllByRecursion IsName (plan_names earlier) → AllByRecursion HasFactors done
    → steps_behind earlier done groups ≡ Ok steps → AreReadBehind steps done (length groups)
all_read earlier done [] steps each are differ spelled own e =
    let same : done ≡ steps = same_ok done steps e in
    record {
      factors = subst (AllByRecursion HasFactors) same own;
      names = subst (IsDistinct is_same_name) (are ∙ ap out_names_of same) differ;
      spelled = subst (AllByRecursion IsName) (are ∙ ap out_names_of same) spelled;
      many = omega (arith, ap length same);
    }
all_read earlier done (group ∷ groups) steps each are differ spelled own e =
    let step = bind_ok (step_of earlier group) _ steps e in
    let read = step_read earlier group (statement_of word.Factors group) step.0 each.0 refl differ step.1 in
    let next : plan_names (plans_after earlier step.0) ≡ plan_names earlier ++ names_of step.0.outputs =
    built_names (context step.0.factors step.0.settings) earlier step.0.outputs in
    let names =
    ap (λ l. l ++ names_of step.0.outputs) are ∙ ap (λ l. out_names_of done ++ l)
    (sym (append-nil (names_of step.0.outputs)))
    ∙ sym (flat_map-append (λ (step : Meaning). names_of step.outputs) done (step.0 ∷ [])) in
    let later =
    all_read (plans_after earlier step.0) (done ++ step.0 ∷ []) groups steps each.1 (next ∙ names)
    (subst (IsDistinct is_same_name) (sym next) read.names)
    (subst (AllByRecursion IsName) (sym next)
    (each-append IsName _ _ spelled read.spelled))
    (each-append HasFactors done _ own (read.factors, tt)) step.2
    in
    record {
      factors = later.factors;
      names = later.names;
      spelled = later.spelled;
      many = omega (arith, length-append done (step.0 ∷ []));
    }

-- the statements of each step are accepted
in_steps : (statements : List (List Written)) → AllByRecursion IsAccepted statements
    → AllByRecursion (AllByRecursion IsAccepted) (steps_of statements)
in_steps [] h = tt
in_steps (s ∷ rest) h = by_test _ (in_steps rest h.1)
  where
    by_test : (b : Bool) → AllByRecursion (AllByRecursion IsAccepted) (steps_of rest)
        → AllByRecursion (AllByRecursion IsAccepted)
        (if b then (s ∷ rest_of_step rest) ∷ steps_of rest else steps_of rest)
    by_test true later =
        ((h.0, each-take IsAccepted _ rest h.1), later)
    by_test false later = later

-- ---- how many steps there are

fewer_statements : (w : Written) (ss : List (List Written)) (n : ℕ) → length ss ≤ n → length (in_front w ss) ≤ suc n
fewer_statements w [] n h = omega arith
fewer_statements w (s ∷ ss) n h = omega arith

statements_few : (ws : List Written) → length (statements_of ws) ≤ length ws
statements_few [] = omega arith
statements_few (w ∷ ws) =
    let rest = statements_few ws in
    let go : (b : Bool)
    → length (if b then [] ∷ statements_of ws else in_front w (statements_of ws)) ≤ suc (length ws) =
    λ b. elim b as (λ b. length (if b then [] ∷ statements_of ws else in_front w (statements_of ws)) ≤ suc (length ws)) [
      | true ↦ omega arith
      | false ↦ fewer_statements w _ _ rest
    ] in
    go _

steps_few : (ss : List (List Written)) → length (steps_of ss) ≤ length ss
steps_few [] = omega arith
steps_few (s ∷ ss) =
    let rest = steps_few ss in
    let go : (b : Bool) → length (if b then (s ∷ rest_of_step ss) ∷ steps_of ss else steps_of ss) ≤ suc (length ss) =
    λ b. elim b as (λ b. length (if b then (s ∷ rest_of_step ss) ∷ steps_of ss else steps_of ss) ≤ suc (length ss))
    [ true ↦ omega arith | false ↦ omega arith ] in
    go _

tokens_few : (from upto : ℕ) (tokens : List Token) → AreInOrder from upto tokens → from + length tokens ≤ upto
tokens_few from upto [] h = omega arith
tokens_few from upto (t ∷ tokens) h = let rest = tokens_few t.upto upto tokens h.2 in omega arith

-- what is known of the steps of a text
pub record AreSteps (steps : List Meaning) : Type 0 where
  pub factors : AllByRecursion HasFactors steps
  pub names : IsDistinct is_same_name (out_names_of steps)
  pub spelled : AllByRecursion IsName (out_names_of steps)
  pub many : length steps ≤ 1048576

accepted_read : (text : List ℕ) (tokens : List Token) (refused : Option (ℕ × ℕ)) (steps : List Meaning)
    → All (IsToken text) tokens → first_refusal (symbols_of text tokens) ≡ refused → length tokens ≤ 1048576
    → accepted text tokens refused ≡ Ok steps → AreSteps steps
accepted_read text tokens (Some refused) steps all is few e = cc e
accepted_read text tokens None steps all is few e =
    let ws = written text tokens in
    let read = all_read [] [] _ steps (in_steps _
    (are_accepted text tokens all (none_refused _ is))) refl none_differ tt tt e in
    let count = steps_few (statements_of ws) in
    let statements = statements_few ws in
    record {
      factors = read.factors;
      names = read.names;
      spelled = read.spelled;
      many = omega (arith, length-map tokens (written_at text));
    }

program_read : (text : List ℕ) (tokens : List Token) (steps : List Meaning) → All (IsToken text) tokens
    → length tokens ≤ 1048576 → program_of text tokens ≡ Ok steps → AreSteps steps
unfolding program_of
program_read text tokens steps all few e =
    accepted_read text tokens _ steps all refl few e

unrefused : (program : Result (List Meaning) Refusal) (steps : List Meaning) → or_refused program ≡ Ok steps
    → program ≡ Ok steps
unrefused (Ok given) steps e = let same : given ≡ steps = cc e in cc
unrefused (Err refusal) steps e = cc e

lexed_read : (text : List ℕ) (r : Result (List Token) LexFault) (steps : List Meaning) → lexed text ≡ r
    → length text ≤ 1048576 → program_by text r ≡ Ok steps → AreSteps steps
lexed_read text (Ok tokens) steps is short e =
    let order =
    rw is at (in_order_of_text text) in
    let all =
    rw is at (each_of_text text) in
    program_read text tokens steps all (omega (arith, tokens_few 0 _ tokens order))
    (unrefused _ steps e)
lexed_read text (Err fault) steps is short e = cc e

short_read : (text : List ℕ) (b : Bool) (steps : List Meaning) → nat_lt 1048576 (length text) ≡ b
    → (if b then Err (at_front 25) else program_by text (lexed text)) ≡ Ok steps → AreSteps steps
short_read text true steps long e = cc e
short_read text false steps long e = lexed_read text _ steps refl (ltb-false 1048576 _ long) e

pub steps_of_text : (text : List ℕ) (steps : List Meaning) → program_in text ≡ Ok steps → AreSteps steps
unfolding program_in
steps_of_text text steps e = short_read text _ steps refl e

-- ---- how many questions a step has

up_to-few : (ends : Problem → Bool) (ps : List Problem) → length (up_to ends ps) ≤ length ps
up_to-few ends [] = omega arith
up_to-few ends (p ∷ ps) =
    let go : (b : Bool) → length (if b then [] else up_to ends ps) ≤ length ps =
    λ b. elim b as (λ b. length (if b then [] else up_to ends ps) ≤ length ps)
    [ true ↦ omega arith | false ↦ up_to-few ends ps ] in
    let here = go (ends p) in
    omega arith

highest_few : (step : Meaning) (size : Size) → 2 ≤ step.settings.q → is_size step.settings.q size ≡ true
    → length step.factors ≤ MOST_FACTORS → highest step size ≤ MOST_FACTORS + 1
highest_few step Minimum two valid few = let most =
    count_by-le-length (λ m. nat_le (step.settings.q ^ (m + 1)) 1024) (range_with_len 0 10) in omega arith
highest_few step (Runs m) two valid few =
    let fits = few_factors step.settings.q m two (leb-true _ _ (and_parts _ _ valid).1) in
    let go : (a b : Bool) → (if a then m else (if b then max 3 (length step.factors + 1) else 3)) ≤ MOST_FACTORS + 1 =
    λ a b. elim a as (λ a. (if a then m else (if b then max 3 (length step.factors + 1) else 3)) ≤ MOST_FACTORS + 1) [
      | true ↦ omega arith
      | false ↦ elim b as (λ b. (if b then max 3 (length step.factors + 1) else 3) ≤ MOST_FACTORS + 1)
          [ true ↦ omega arith | false ↦ omega arith ]
    ] in
    go _ _

turns_few : (earlier ps : List Problem)
    → AllByRecursion (λ (t : Turn). length t.earlier ≤ length earlier + length ps) (turns earlier ps)
turns_few earlier [] = tt
turns_few earlier (p ∷ ps) = (
  omega arith,
  each _ (turns_few (earlier ++ p ∷ []) ps),
)
  where
    each : (ts : List Turn)
        → AllByRecursion (λ (t : Turn). length t.earlier ≤ length (earlier ++ p ∷ []) + length ps) ts
        → AllByRecursion (λ (t : Turn). length t.earlier ≤ length earlier + suc (length ps)) ts
    each [] all = tt
    each (t ∷ ts) all = (omega (arith, length-append earlier (p ∷ [])), each ts all.1)

finished_few : (n : ℕ) (ps : List Problem) (test : Turn → Bool) (ts : List Turn) → length ps ≤ n
    → AllByRecursion (λ (t : Turn). length t.earlier ≤ n) ts → length (finished_before ps (find test ts)) ≤ n
finished_few n ps test [] few all = few
finished_few n ps test (t ∷ ts) few all =
    let go : (b : Bool) → length (finished_before ps (cond b (Some t) (find test ts))) ≤ n =
    λ b. elim b as (λ b. length (finished_before ps (cond b (Some t) (find test ts))) ≤ n)
    [ true ↦ all.0 | false ↦ finished_few n ps test ts few all.1 ] in
    go (test t)

pub questions_few : (step : Meaning) → 2 ≤ step.settings.q → is_size step.settings.q step.settings.size ≡ true
    → length step.factors ≤ MOST_FACTORS → length (finished (questions_of step) step.settings.budget) ≤ MOST_FACTORS + 2
unfolding finished
questions_few step two valid few =
    let q = questions_of step in
    let most = highest_few step step.settings.size two valid few in
    let low = lowest step step.settings.size in
    let high = highest step step.settings.size in
    let others =
    length-map (range_with_len (low + 1) (high - low)) (question_for step) ∙ length-range_with_len (low + 1)
    (high - low) in
    let count = up_to-few (is_last q.until) (q.first ∷ q.others) in
    let all : length (asked q) ≤ MOST_FACTORS + 2 = omega arith in
    finished_few _ (asked q) (passes step.settings.budget) (turns [] (asked q)) all
    (each (turns [] (asked q)) (turns_few [] (asked q)) all)
  where
    each : (ts : List Turn)
        → AllByRecursion (λ (t : Turn). length t.earlier ≤ 0 + length (asked (questions_of step))) ts
        → length (asked (questions_of step)) ≤ MOST_FACTORS + 2
        → AllByRecursion (λ (t : Turn). length t.earlier ≤ MOST_FACTORS + 2) ts
    each [] all many = tt
    each (t ∷ ts) all many = (omega arith, each ts all.1 many)
