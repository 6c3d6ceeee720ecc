-- Texts of a description that lack a symbol.
use Rattle.std.proofs.Common.{◌≡◌, Bool, true, false, not, ◌&&◌, List, [], ◌∷◌, ◌++◌, refl, ap, ◌∙◌, inl}
use Rattle.std.proofs.Common.{inr, sym}
use Rattle.std.specs.List.{AllByRecursion, flat_map, list_any}
use Rattle.std.proofs.lemmas.Bool.{and_parts, both_ways, cases_Bool, not-true}
use Rattle.std.proofs.lemmas.List.Folds.{list_any-append}
use Rattle.fx_language.specs.declared.symbol.Symbol.{Symbol}
use Rattle.fx_language.specs.Symbols.{is}
use Rattle.fx_language.specs.Shapes.{Shape, Never, Empty, One, Before, Either, Many, Fault, Matches}
use Rattle.fx_language.proofs.SameSymbol.{symbol_is}

-- no text of the description has this symbol
abbrev pub lacks : Symbol → Shape → Bool
lacks t Never = true
lacks t Empty = true
lacks t (One test) = not (test t)
lacks t (Before a b) = lacks t a && lacks t b
lacks t (Either a b) = lacks t a && lacks t b
lacks t (Many a) = lacks t a
lacks t (Fault code test) = true

module _ (t : Symbol) where
  other : (test : Symbol → Bool) (s : Symbol) → not (test t) ≡ true → test s ≡ true → is t s ≡ false
  other test s lack passed = elim (cases_Bool (is t s)) [
    | inl it ↦ absurd (both_ways _ (not-true _ lack) (ap test (sym (symbol_is t s it)) ∙ passed))
    | inr differs ↦ differs
  ]

  both : (x y : List Symbol) → list_any (is t) x ≡ false → list_any (is t) y ≡ false → list_any (is t) (x ++ y) ≡ false
  both x y hx hy = cc (list_any-append (is t) x y)

  flat : (a : Shape) → ((x : List Symbol) → Matches a x → list_any (is t) x ≡ false) → (parts : List (List Symbol))
      → AllByRecursion (Matches a) parts
      → list_any (is t) (flat_map (λ (part : List Symbol). part) parts) ≡ false
  flat a each [] h = refl
  flat a each (part ∷ rest) h =
      both part _ (each part h.0) (flat a each rest h.1)

  pub none : (a : Shape) (text : List Symbol) → lacks t a ≡ true → Matches a text → list_any (is t) text ≡ false
  none Never text l m = absurd m
  none Empty text l m = rw m
  none (One test) text l (s, passed, e) = cc (other test s l passed)
  none (Before a b) text l (x, y, m, n, e) =
      let parts = and_parts _ _ l in
      cc (both x y (none a x parts.0 m) (none b y parts.1 n))
  none (Either a b) text l m =
      let parts = and_parts _ _ l in
      elim m [ inl x ↦ none a text parts.0 x | inr y ↦ none b text parts.1 y ]
  none (Many a) text l (parts, all, e) = cc (flat a (λ x m. none a x l m) parts all)
  none (Fault code test) text l m = absurd m
