-- What the grammar refuses first is the first symbol with which a text begins no program.
use Rattle.std.proofs.Common.{◌≡◌, ℕ, zero, suc, ◌+◌, ◌≤◌, true, List, [], ◌∷◌, ◌++◌, take, drop, Option, Some, None}
use Rattle.std.proofs.Common.{refl, sym, ap, subst, arith, inl, inr}
use Rattle.std.proofs.lemmas.List.{take-append-drop}
use Rattle.std.proofs.lemmas.Bool.{cases_lt}
use Rattle.fx_language.specs.declared.symbol.Symbol.{Symbol}
use Rattle.fx_language.specs.declared.symbol.Symbol.TheVariants.{End}
use Rattle.fx_language.specs.Shapes.{Shape, Never, Matches, Begins, derivative}
use Rattle.fx_language.specs.Grammar.{program}
use Rattle.fx_language.specs.Refusals.{refused, code_of}
use Rattle.fx_language.specs.Laws.{ended, IsFirstRefused}
use Rattle.fx_language.proofs.Derivatives.{after_sound, after_complete}
use Rattle.fx_language.proofs.Solid.{is_solid, inhabited, after_fine, not_never}
use Rattle.fx_language.proofs.Ends.{ends_last, ends_after, empty_after_end}

pub begins_more : (a : Shape) (s : Symbol) (text : List Symbol) → Begins (derivative s a) text → Begins a (s ∷ text)
begins_more a s text h = (h.0, after_sound s a _ h.1)

pub begins_less : (a : Shape) (s : Symbol) (text : List Symbol) → Begins a (s ∷ text) → Begins (derivative s a) text
begins_less a s text h = (h.0, after_complete s a _ h.1)

pub no_text : (a : Shape) (text : List Symbol) → a ≡ Never → Begins a text → ⊥
no_text a text e h = rw e at h.1

at_first : (a : Shape) (s : Symbol) (text : List Symbol) → is_solid a ≡ true → derivative s a ≡ Never
    → IsFirstRefused a (s ∷ text) 0
at_first a s text h e = record {
  before = inhabited a h;
  with_it = λ b. no_text _ [] e (begins_less a s [] b);
}

one_later : (a : Shape) (s : Symbol) (text : List Symbol) (j : ℕ) → IsFirstRefused (derivative s a) text j
    → IsFirstRefused a (s ∷ text) (suc j)
one_later a s text j r = record {
  before = begins_more a s _ r.before;
  with_it = λ b. r.with_it (begins_less a s _ b);
}

same_place : (p q : ℕ × ℕ) → Some p ≡ Some q → q.1 ≡ p.1 + 0
same_place p q e = let f : p ≡ q = cc in omega (arith, ap (λ x. x.1) f)

-- what is refused is the first
pub refused_first : (a : Shape) (symbols : List Symbol) (k code i : ℕ) → is_solid a ≡ true
    → refused k a symbols ≡ Some (code, i) → (j : ℕ) × (i ≡ k + j) × IsFirstRefused a (ended symbols) j
unfolding refused
refused_first a [] k code i h e =
    elim (after_fine End a h) [
      | inl never_left ↦
          (0, same_place (code_of a End, k) (code, i) (rw never_left at e), at_first a End [] h never_left)
      | inr solid ↦ absurd (let f = rw (not_never _ solid) at e in cc)
    ]
refused_first a (s ∷ rest) k code i h e =
    elim (after_fine s a h) [
      | inl never_left ↦
          (0, same_place (code_of a s, k) (code, i) (rw never_left at e), at_first a s _ h never_left)
      | inr solid ↦
          let r = refused_first (derivative s a) rest (suc k) code i solid (rw (not_never _ solid) at e)
          in
          (suc r.0, omega arith, one_later a s _ r.0 r.2)
    ]

-- where none is refused, the text with its end is one of the description's
pub accepted_matches : (a : Shape) (symbols : List Symbol) (k : ℕ) → is_solid a ≡ true → ends_last a ≡ true
    → refused k a symbols ≡ None → Matches a (ended symbols)
unfolding refused
accepted_matches a [] k h last e =
    elim (after_fine End a h) [
      | inl never_left ↦ absurd (let f = rw never_left at e in cc)
      | inr solid ↦
          let t = inhabited _ solid in
          after_sound End a [] (subst (Matches (derivative End a)) (empty_after_end a last t.0 t.1) t.1)
    ]
accepted_matches a (s ∷ rest) k h last e =
    elim (after_fine s a h) [
      | inl never_left ↦ absurd (let f = rw never_left at e in cc)
      | inr solid ↦
          after_sound s a _
          (accepted_matches (derivative s a) rest (suc k) solid (ends_after s a last)
          (rw (not_never _ solid) at e))
    ]

-- a front part of what begins a text begins one
shorter : (a : Shape) (text : List Symbol) (m n : ℕ) → m ≤ n → Begins a (take n text) → Begins a (take m text)
shorter a text zero n h b = (take n text ++ b.0, b.1)
shorter a text (suc m) zero h b = absurd (omega arith)
shorter a [] (suc m) (suc n) h b = b
shorter a (s ∷ text) (suc m) (suc n) h b =
    begins_more a s _ (shorter (derivative s a) text m n (omega arith) (begins_less a s _ b))

one_place : (a : Shape) (text : List Symbol) (i j : ℕ) → IsFirstRefused a text i → IsFirstRefused a text j
    → i ≡ j
one_place a text i j p q =
    elim (cases_lt i j) [
      | inl less ↦ absurd (p.with_it (shorter a text (suc i) j (omega arith) q.before))
      | inr not_less ↦
          elim (cases_lt j i) [
            | inl less ↦ absurd (q.with_it (shorter a text (suc j) i (omega arith) p.before))
            | inr neither ↦ omega arith
          ]
    ]

-- a text that is one of the description's has no such symbol
none_in_match : (a : Shape) (text : List Symbol) (i : ℕ) → Matches a text → IsFirstRefused a text i → ⊥
none_in_match a text i m r =
    r.with_it (drop (suc i) text, subst (Matches a) (sym (take-append-drop (suc i) text)) m)

-- the grammar is such a description
program_solid : is_solid program ≡ true
program_solid = refl

program_ends : ends_last program ≡ true
program_ends = refl

module _ (symbols : List Symbol) where
  abbrev outcome : Option (ℕ × ℕ)
  outcome = refused 0 program symbols

  first_of_refused : (code i : ℕ) → outcome ≡ Some (code, i) → IsFirstRefused program (ended symbols) i
  first_of_refused code i e =
      let r = refused_first program symbols 0 code i program_solid e in
      let same : r.0 ≡ i = omega arith in
      rw same at r.2

  pub refused_to_first : (i : ℕ) → ((code : ℕ) × (outcome ≡ Some (code, i)))
      → IsFirstRefused program (ended symbols) i
  refused_to_first i h = first_of_refused h.0 i h.1

  pub first_to_refused : (i : ℕ) → IsFirstRefused program (ended symbols) i
      → (code : ℕ) × (outcome ≡ Some (code, i))
  first_to_refused i h = go outcome refl
    where
      go : (o : Option (ℕ × ℕ)) → outcome ≡ o → (code : ℕ) × (outcome ≡ Some (code, i))
      go None e =
          absurd (none_in_match program _ i
          (accepted_matches program symbols 0 program_solid program_ends e) h)
      go (Some r) e =
          let same = one_place program _ r.1 i (first_of_refused r.0 r.1 e) h in
          (r.0, rw same at e)

  pub accepted_to_match : outcome ≡ None → Matches program (ended symbols)
  accepted_to_match e = accepted_matches program symbols 0 program_solid program_ends e

  pub match_to_accepted : Matches program (ended symbols) → outcome ≡ None
  match_to_accepted m = go outcome refl
    where
      go : (o : Option (ℕ × ℕ)) → outcome ≡ o → outcome ≡ None
      go None e = e
      go (Some r) e = absurd (none_in_match program _ r.1 m (first_of_refused r.0 r.1 e))
