-- The steps of the text of `make`, each of which has a meaning.
use Rattle.std.proofs.Common.{ℕ, ◌≡◌, ◌<◌, ◌≤◌, ◌%◌, false, List, [], ◌∷◌, ◌++◌, length, refl, ap, ◌∙◌, arith}
use Rattle.std.proofs.Common.{append_assoc, append-nil, None, Ok}
use Rattle.std.specs.Fmt.{digits}
use Rattle.std.specs.Prelude.{not, nat_lt}
use Rattle.std.specs.List.{prefix_len, range_with_len}
use Rattle.std.proofs.lemmas.Bool.{false_from_ne_true, ltb-true}
use Rattle.std.proofs.lemmas.List.FromFn.{length-range_with_len}
use Rattle.fx_lexer.specs.declared.token.Token.{Token}
use Rattle.fx_lexer.specs.TextPieces.{text_of, tokens_among}
use Rattle.fx_language.specs.FirstRefusal.{first_refusal}
use Rattle.fx_outputs.specs.declared.earlier.EarlierPlan.{EarlierPlan}
use Rattle.fx_text.specs.Written.{Written, written}
use Rattle.fx_text.specs.Statements.{statements_of, steps_of, ends_step}
use Rattle.fx_statements.specs.Steps.{Meaning, plans_after, step_of}
use Rattle.fx_statements.specs.Programs.{steps_behind, accepted, program_of}
use Rattle.fx_program.specs.Making.{HasSteps, made_text}
use Rattle.fx_program.specs.Texts.{program_in}
use Rattle.fx_program.proofs.Made.{made_text_short}
use Rattle.fx_program_laws.proofs.MadePieces.{each_below, made_tokens, pieces_of, step_pieces}
use Rattle.fx_program_laws.proofs.MadeSymbols.{all_symbols, none_refused, symbols, symbols_are}
use Rattle.fx_program_laws.proofs.MadeSymbols.{written_among, written_are, written-append}

-- the statements of a step that follows the bytes before
abbrev statements_at : ℕ → List ℕ → List (List Written)
statements_at r before = statements_of (written_among before (step_pieces r))

-- no statement belongs to the step before
abbrev BeginStep : List (List Written) → Type 0
BeginStep statements = prefix_len (λ s. not (ends_step s)) statements ≡ 0

cut_behind : (r : ℕ) → r < 12 → (before : List ℕ) (rest : List Written)
    → statements_of (written_among before (step_pieces r) ++ rest) ≡ statements_at r before ++ statements_of rest
unfolding digits
cut_behind r low =
    each_below
    (λ r. (before : List ℕ) (rest : List Written)
    → statements_of (written_among before (step_pieces r) ++ rest) ≡ statements_at r before ++ statements_of rest) 0
    12 (
      λ b w. refl,
      (
        λ b w. refl,
        (
          λ b w. refl,
          (
            λ b w. refl,
            (
              λ b w. refl,
              (
                λ b w. refl,
                (λ b w. refl, (λ b w. refl, (λ b w. refl, (λ b w. refl, (λ b w. refl, (λ b w. refl, tt)))))),
              ),
            ),
          ),
        ),
      ),
    )
    r (omega arith) (omega arith)

begins : (r : ℕ) → r < 12 → (before : List ℕ) (rest : List (List Written)) → BeginStep (statements_at r before ++ rest)
unfolding digits
begins r low =
    each_below (λ r. (before : List ℕ) (rest : List (List Written)) → BeginStep (statements_at r before ++ rest)) 0 12 (
      λ b w. refl,
      (
        λ b w. refl,
        (
          λ b w. refl,
          (
            λ b w. refl,
            (
              λ b w. refl,
              (
                λ b w. refl,
                (λ b w. refl, (λ b w. refl, (λ b w. refl, (λ b w. refl, (λ b w. refl, (λ b w. refl, tt)))))),
              ),
            ),
          ),
        ),
      ),
    )
    r (omega arith) (omega arith)

abbrev IsOneStep : ℕ → Type 0
IsOneStep r =
    (before : List ℕ) (rest : List (List Written)) → BeginStep rest
    → steps_of (statements_at r before ++ rest) ≡ statements_at r before ∷ steps_of rest

one_step : (r : ℕ) → r < 12 → IsOneStep r
unfolding digits
one_step r low =
    each_below IsOneStep 0 12 (
      λ b w e. rw e,
      (
        λ b w e. rw e,
        (
          λ b w e. rw e,
          (
            λ b w e. rw e,
            (
              λ b w e. rw e,
              (
                λ b w e. rw e,
                (
                  λ b w e. rw e,
                  (
                    λ b w e. rw e,
                    (λ b w e. rw e, (λ b w e. rw e, (λ b w e. rw e, (λ b w e. rw e, tt)))),
                  ),
                ),
              ),
            ),
          ),
        ),
      ),
    )
    r (omega arith) (omega arith)

-- each has a meaning
abbrev HasMeaning : ℕ → Type 0
HasMeaning r =
    (earlier : List EarlierPlan) (before : List ℕ) → (m : Meaning) × (step_of earlier (statements_at r before) ≡ Ok m)

meaning_at : (r : ℕ) → r < 12 → HasMeaning r
unfolding digits
meaning_at r low =
    each_below HasMeaning 0 12 (
      λ e b. (_, refl),
      (
        λ e b. (_, refl),
        (
          λ e b. (_, refl),
          (
            λ e b. (_, refl),
            (
              λ e b. (_, refl),
              (
                λ e b. (_, refl),
                (
                  λ e b. (_, refl),
                  (
                    λ e b. (_, refl),
                    (λ e b. (_, refl), (λ e b. (_, refl), (λ e b. (_, refl), (λ e b. (_, refl), tt)))),
                  ),
                ),
              ),
            ),
          ),
        ),
      ),
    )
    r (omega arith) (omega arith)

-- the steps of these numbers, behind the bytes before
abbrev steps_at : List ℕ → List ℕ → List (List (List Written))
steps_at before [] = []
steps_at before (k ∷ ks) = statements_at (k % 12) before ∷ steps_at (before ++ text_of (step_pieces (k % 12)) []) ks

begins_all : (ks : List ℕ) (before : List ℕ) → BeginStep (statements_of (written_among before (pieces_of ks)))
begins_all [] before = refl
begins_all (k ∷ ks) before =
    let after = before ++ text_of (step_pieces (k % 12)) [] in
    cc (
      (ap statements_of (written-append (step_pieces (k % 12)) (pieces_of ks) before) ∙ cut_behind (k % 12)
          (omega arith) before (written_among after (pieces_of ks))),
      begins (k % 12) (omega arith) before
          (statements_of (written_among after (pieces_of ks))),
    )

steps_are : (ks : List ℕ) (before : List ℕ)
    → steps_of (statements_of (written_among before (pieces_of ks))) ≡ steps_at before ks
steps_are [] before = refl
steps_are (k ∷ ks) before =
    let after = before ++ text_of (step_pieces (k % 12)) [] in
    cc (
      (ap statements_of (written-append (step_pieces (k % 12)) (pieces_of ks) before) ∙ cut_behind (k % 12)
          (omega arith) before (written_among after (pieces_of ks))),
      one_step (k % 12) (omega arith) before
          (statements_of (written_among after (pieces_of ks))) (begins_all ks after),
      steps_are ks after,
    )

-- and all have meanings
record AreMeant (ks : List ℕ) (before : List ℕ) (earlier : List EarlierPlan) (done : List Meaning) : Type 0 where
  pub out : List Meaning
  pub are : steps_behind earlier done (steps_at before ks) ≡ Ok (done ++ out)
  pub many : length out ≡ length ks

meant : (ks : List ℕ) (before : List ℕ) (earlier : List EarlierPlan) (done : List Meaning)
    → AreMeant ks before earlier done
meant [] before earlier done =
    record { out = []; are = cc (append-nil done); many = refl }
meant (k ∷ ks) before earlier done =
    let m = meaning_at (k % 12) (omega arith) earlier before in
    let later =
    meant ks (before ++ text_of (step_pieces (k % 12)) []) (plans_after earlier m.0) (done ++ m.0 ∷ []) in
    record {
      out = m.0 ∷ later.out;
      are = rw m.1 (cc (append_assoc done (m.0 ∷ []) later.out));
      many = cc;
    }

program_is : (n : ℕ) → n ≤ 100 → (tokens : List Token) → tokens ≡ tokens_among [] (pieces_of (range_with_len 1 n))
    → made_text n ≡ text_of (pieces_of (range_with_len 1 n)) []
    → (out : List Meaning) × (program_of (made_text n) tokens ≡ Ok out) × (length out ≡ n)
unfolding program_of
program_is n many tokens are text =
    let ks = range_with_len 1 n in
    let ws = written_among [] (pieces_of ks) in
    let written_is : written (made_text n) tokens ≡ ws =
    cc (written_are (pieces_of ks) []) in
    let long = length-range_with_len 1 n in
    let m = meant ks [] [] [] in
    let all : accepted (made_text n) tokens None ≡ Ok m.out =
    cc (steps_are ks []) in (
      m.out,
      cc
          (ap first_refusal (symbols_are (made_text n) tokens ∙ ap symbols written_is ∙ all_symbols ks []) ∙ none_refused
          ks (omega arith)),
      cc,
    )

-- the text of n steps is a program of n steps
pub made_program : (n : ℕ) → n ≤ 100 → HasSteps n (program_in (made_text n))
unfolding program_in
made_program n many =
    let t = made_tokens n in
    let p = program_is n many (tokens_among [] (pieces_of (range_with_len 1 n))) refl t.0 in
    let within : nat_lt 1048576 (length (made_text n)) ≡ false =
    false_from_ne_true _ (λ e. (omega (arith, made_text_short n, ltb-true 1048576 _ e))) in
    rw (within, t.1, p.1) p.2
