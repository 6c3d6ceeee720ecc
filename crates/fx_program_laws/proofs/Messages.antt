-- Each fault of a text has its message and its place.
use Rattle.std.proofs.Common.{◌≡◌, ℕ, zero, suc, ◌≤◌, Bool, true, false, ◌&&◌, List, [], Result, Ok, Err, refl}
use Rattle.std.proofs.Common.{arith}
use Rattle.std.specs.Prelude.{IfErr, nat_le, if◌then◌else◌}
use Rattle.std.proofs.lemmas.Bool.{and_parts, leb-true, leb-false}
use Rattle.fx_lexer.specs.declared.token.Token.{Token}
use Rattle.fx_lexer.specs.declared.token.LexFault.{LexFault}
use Rattle.fx_lexer.specs.Places.{IsPlaceIn}
use Rattle.fx_lexer.specs.Lexing.{lexed}
use Rattle.fx_lexer.specs.Flaws.{is_lexical_rule}
use Rattle.fx_lexer.proofs.Placed.{tokens_placed, fault_placed}
use Rattle.fx_language.specs.Refusals.{is_rule}
use Rattle.fx_text.specs.declared.refusal.Refusal.{Refusal}
use Rattle.fx_text.specs.Refusals.{IsByRule}
use Rattle.fx_statements.specs.Steps.{Meaning}
use Rattle.fx_statements.proofs.Placed as placed
use Rattle.fx_program.specs.Texts.{at_front, or_refused, program_by, program_in}
use Rattle.fx_program.specs.Messages.{reasons, lexical_reasons, has_row, HasItsMessage}

-- each number from 1 to this one has a row
abbrev all_rows : List (ℕ × List ℕ) → ℕ → Bool
all_rows table zero = true
all_rows table (suc n) = has_row table (suc n) && all_rows table n

below : (table : List (ℕ × List ℕ)) (n code : ℕ) → all_rows table n ≡ true → 1 ≤ code → code ≤ n
    → has_row table code ≡ true
below table zero code all from upto = absurd (omega arith)
below table (suc n) code all from upto = by_test (nat_le code n) refl (below table n code parts.1 from)
  where
    parts : (has_row table (suc n) ≡ true) × (all_rows table n ≡ true)
    parts = and_parts _ _ all

    last : nat_le code n ≡ false → suc n ≡ code
    last e = omega (arith, leb-false code n e)

    by_test : (b : Bool) → nat_le code n ≡ b → (code ≤ n → has_row table code ≡ true) → has_row table code ≡ true
    by_test true e earlier = earlier (leb-true code n e)
    by_test false e earlier = rw (last e) at parts.0

row_of : (code : ℕ) → is_rule code ≡ true → has_row reasons code ≡ true
row_of code rule = let p = and_parts _ _ rule in
    below reasons 36 code refl (leb-true 1 code p.0) (leb-true code 36 p.1)

lexical_row : (kind : ℕ) → is_lexical_rule kind ≡ true → has_row lexical_reasons kind ≡ true
lexical_row kind rule = let p = and_parts _ _ rule in
    below lexical_reasons 5 kind refl (leb-true 1 kind p.0) (leb-true kind 5 p.1)

at_its_front : (text : List ℕ) → IsPlaceIn text 1 1
at_its_front text = record { before = []; after = text; joined = refl; line_is = refl; column_is = refl }

with_tokens : (text : List ℕ) (program : Result (List Meaning) Refusal) → IfErr program (IsByRule (IsPlaceIn text))
    → IfErr (or_refused program) (HasItsMessage text)
with_tokens text (Ok steps) h = tt
with_tokens text (Err refusal) h = (row_of refusal.code h.rule, h.place)

lexically : (text : List ℕ) (r : Result (List Token) LexFault) → lexed text ≡ r
    → IfErr (program_by text r) (HasItsMessage text)
lexically text (Ok tokens) e =
    with_tokens text _ (placed.refused text tokens (tokens_placed text tokens e))
lexically text (Err fault) e = let h = fault_placed text fault e in (lexical_row fault.kind h.rule, h.place)

pub each_fault : (text : List ℕ) → IfErr (program_in text) (HasItsMessage text)
unfolding program_in
each_fault text = by_test _
  where
    by_test : (b : Bool) → IfErr (if b then Err (at_front 25) else program_by text (lexed text)) (HasItsMessage text)
    by_test true = (refl, at_its_front text)
    by_test false = lexically text _ refl
