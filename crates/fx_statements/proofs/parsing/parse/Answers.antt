use Rattle.std.proofs.Common.{◌≡◌, ℕ, List, length, get_or, Option, Some, None, IfSome, Err, refl}
use Rattle.std.proofs.Common.{sym, ap, subst, ltb, ◌∙◌}
use Rattle.std.specs.Prelude.{slice_get}
use Rattle.std.specs.Option.{is_some, option_map}
use Rattle.std.proofs.lemmas.Option.{slice_get_past, slice_get_read}
use Rattle.std.proofs.lemmas.Bool.{ltb-true, ltb-false}
use denote.Ref.{Bor}
use Rattle.fx_lexer.specs.declared.token.Token.{Token}
use Rattle.std.specs.List.{AllByRecursion}
use Rattle.fx_language.specs.FirstRefusal.{first_refusal}
use Rattle.fx_text.specs.declared.refusal.ParseStop.TheVariants as stop
use Rattle.fx_text.specs.Refusals.{refused_at}
use Rattle.fx_text.specs.Sentences.{IsAccepted}
use Rattle.fx_text.specs.Statements.{statements_of}
use Rattle.fx_text.proofs.Sentences.{are_accepted}
use Rattle.fx_statements.specs.Programs.{accepted, meaning_of_all, place_in, program_of}
use Rattle.fx_statements.proofs.Parts.{none_refused}
use Rattle.fx_text.proofs.Stops.{refused}
use Rattle.fx_statements.proofs.parsing.parse.Goals as goal
use Rattle.fx_statements.proofs.parsing.parse.Goals.{After-steps}

-- what `get` finds
got : (tokens : List Token) (i : ℕ) (r : Option (Bor Token)) → is_some r ≡ ltb i (length tokens)
    → IfSome r (λ x. x.now ≡ get_or tokens i x.now) → option_map (λ x. x.now) r ≡ slice_get tokens i
got tokens i None none is = sym (slice_get_past tokens i (ltb-false i _ (sym none)))
got tokens i (Some x) some is =
    sym (slice_get_read tokens _ i x.now refl (ltb-true i _ (sym some)) is)

-- the meaning of a text of which the grammar and its words refuse nothing
accepted_all : (c : After-steps) → program_of c.args.text.now c.args.tokens.now ≡ meaning_of_all c.as_slice-4.result.now
unfolding program_of
accepted_all c =
    let text = c.args.text.now in
    let tokens = c.args.tokens.now in
    let symbols = c.as_slice.ensures ∙ c.in_ok-symbols.ensures in
    let none =
    ap first_refusal (sym symbols) ∙ sym c.first_refusal.ensures ∙ c.in_default.is in
    ap (accepted text tokens) none ∙ ap meaning_of_all
    (sym (c.as_slice-4.ensures ∙ c.in_ok-statements.ensures ∙ ap statements_of
    (c.as_slice-3.ensures ∙ c.in_ok-lexemes.ensures)))

pub steps-requires : goal.steps-requires
steps-requires c =
    let text = c.args.text.now in
    let tokens = c.args.tokens.now in
    subst (AllByRecursion IsAccepted)
    (sym (c.as_slice-4.ensures ∙ c.in_ok-statements.ensures ∙ ap statements_of
    (c.as_slice-3.ensures ∙ c.in_ok-lexemes.ensures)))
    (are_accepted text tokens c.requires.tokens
    (none_refused _
    (ap first_refusal (sym (c.as_slice.ensures ∙ c.in_ok-symbols.ensures)) ∙ sym c.first_refusal.ensures ∙
    c.in_default.is)))

pub returns-in_err-symbols-clause-refused : goal.returns-in_err-symbols-clause-refused
returns-in_err-symbols-clause-refused c = refused _ _ stop.NoMemory c.from_residual.ensures.1 tt

pub returns-in_err-lexemes-clause-refused : goal.returns-in_err-lexemes-clause-refused
returns-in_err-lexemes-clause-refused c = refused _ _ stop.NoMemory c.from_residual-in_err-lexemes.ensures.1 tt

pub returns-in_err-statements-clause-refused : goal.returns-in_err-statements-clause-refused
returns-in_err-statements-clause-refused c = refused _ _ stop.NoMemory c.from_residual-in_err-statements.ensures.1 tt

pub returns-in-Some-clause-refused : goal.returns-in-Some-clause-refused
unfolding program_of
returns-in-Some-clause-refused c =
    let text = c.args.text.now in
    let tokens = c.args.tokens.now in
    let symbols = c.as_slice.ensures ∙ c.in_ok-symbols.ensures in
    let found =
    ap first_refusal (sym symbols) ∙ sym c.in-Some.ensures in
    let token =
    got c.as_slice-in-Some.result.now c.in-Some.at c.get.result c.get.ensures.lookup.0 c.get.ensures.lookup.1 in
    let place = rw (c.as_slice-in-Some.ensures) at (c.place_in-place.ensures ∙ ap (place_in text) token) in
    ap (accepted text tokens) found ∙ ap Err (sym (c.at.ensures ∙ ap (refused_at c.in-Some.code) place))

pub returns-clause-program : goal.returns-clause-program
returns-clause-program c =
    rw (accepted_all (goal.at.returns-clause-program c).After-steps) c.steps.ensures.program

pub returns-clause-out_names_differ : goal.returns-clause-out_names_differ
returns-clause-out_names_differ c = c.steps.ensures.differ

pub returns-clause-refused : goal.returns-clause-refused
returns-clause-refused c =
    rw (accepted_all (goal.at.returns-clause-refused c).After-steps) c.steps.ensures.refused
