-- A text is its first statement, a semicolon, and the statements after it.
use Rattle.std.proofs.Common.{◌≡◌, ℕ, suc, ◌+◌, ◌<◌, Bool, false, not, List, [], ◌∷◌, ◌++◌, length, take, drop, refl}
use Rattle.std.proofs.Common.{sym, ap, subst, ◌∙◌, inl, inr, arith}
use Rattle.std.specs.List.{prefix_len}
use Rattle.std.proofs.Math.Numerals.{add-one}
use Rattle.std.proofs.lemmas.List.{append_assoc}
use Rattle.std.proofs.lemmas.Bool.{cases_Bool}
use Rattle.fx_language.specs.declared.symbol.Symbol.TheVariants.{Semicolon}
use Rattle.fx_language.specs.Symbols.{is}
use Rattle.fx_text.specs.Written.{Written}
use Rattle.fx_text.specs.Statements.{in_front, statements_of}

abbrev pub goes_on : Written → Bool
goes_on w = not (is Semicolon w.symbol)

-- the text up to i is a statement, and the others stand after the semicolon at i
abbrev IsCut : List Written → ℕ → Type 0
IsCut xs i = statements_of xs ≡ take i xs ∷ statements_of (drop (suc i) xs)

one_more : (w x : Written) (rest : List Written) (i : ℕ) → is Semicolon w.symbol ≡ false → IsCut (x ∷ rest) i
    → IsCut (w ∷ x ∷ rest) (suc i)
one_more w x rest i e later = rw e (ap (in_front w) later)

len_further : (w : Written) (rest : List Written) → is Semicolon w.symbol ≡ false
    → suc (prefix_len goes_on rest) ≡ prefix_len goes_on (w ∷ rest)
len_further w rest e = rw e (omega arith)

cut : (w : Written) (rest : List Written) → IsCut (w ∷ rest) (prefix_len goes_on (w ∷ rest))
cut w [] = elim (cases_Bool (is Semicolon w.symbol)) [
  | inl e ↦ rw e refl
  | inr e ↦ rw e refl
]
cut w (x ∷ rest) = elim (cases_Bool (is Semicolon w.symbol)) [
  | inl e ↦ rw e refl
  | inr e ↦ subst (IsCut (w ∷ x ∷ rest)) (len_further w (x ∷ rest) e)
      (one_more w x rest (prefix_len goes_on (x ∷ rest)) e (cut x rest))
]

pub cut_at : (xs : List Written) → 0 < length xs
    → statements_of xs ≡ take (prefix_len goes_on xs) xs ∷ statements_of (drop (prefix_len goes_on xs + 1) xs)
cut_at [] h = absurd (omega (arith, h))
cut_at (w ∷ rest) h = rw add-one (cut w rest)

-- after some statements, the next one
pub cut_behind : (before : List (List Written)) (all xs : List Written) → 0 < length xs
    → statements_of all ≡ before ++ statements_of xs
    → statements_of all
    ≡ (before ++ take (prefix_len goes_on xs) xs ∷ []) ++ statements_of (drop (prefix_len goes_on xs + 1) xs)
cut_behind before all xs h e = e ∙ ap (λ l. before ++ l) (cut_at xs h) ∙ sym (append_assoc before _ _)
