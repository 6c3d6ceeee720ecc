-- What the grammar refuses first, over one more symbol or at the end.
use Rattle.std.proofs.Common.{◌≡◌, ℕ, suc, ◌+◌, ◌<◌, false, List, [], ◌∷◌, length, get_or, drop, Some, None}
use Rattle.std.proofs.Math.Seq.{drop-cons}
use Rattle.std.proofs.Math.Numerals.{add-one}
use Rattle.fx_language.specs.declared.symbol.Symbol.{Symbol}
use Rattle.fx_language.specs.declared.symbol.Symbol.TheVariants.{Proc, End}
use Rattle.fx_language.specs.Shapes.{Shape, Never, derivative, is_never}
use Rattle.fx_language.specs.Refusals.{code_of, refused}

pub end_refused : (i : ℕ) (a : Shape) → derivative End a ≡ Never → refused i a [] ≡ Some (code_of a End, i)
unfolding refused
end_refused i a e = rw e

pub end_allowed : (i : ℕ) (a b : Shape) → derivative End a ≡ b → is_never b ≡ false → refused i a [] ≡ None
unfolding refused
end_allowed i a b e live = rw (e, live)

one_refused : (i : ℕ) (a : Shape) (s : Symbol) (rest : List Symbol) → derivative s a ≡ Never
    → refused i a (s ∷ rest) ≡ Some (code_of a s, i)
unfolding refused
one_refused i a s rest e = rw e

one_allowed : (i : ℕ) (a b : Shape) (s : Symbol) (rest : List Symbol) → derivative s a ≡ b → is_never b ≡ false
    → refused i a (s ∷ rest) ≡ refused (suc i) b rest
unfolding refused
one_allowed i a b s rest e live = rw (e, live)

module _ (symbols : List Symbol) (i : ℕ) (h : i < length symbols) where
  abbrev next : Symbol
  next = get_or symbols i Proc

  next_first : drop i symbols ≡ next ∷ drop (i + 1) symbols
  next_first = rw (add-one i) (drop-cons symbols i Proc h)

  pub next_refused : (a : Shape) → derivative next a ≡ Never
      → refused i a (drop i symbols) ≡ Some (code_of a next, i)
  next_refused a e = cc (next_first, one_refused i a next (drop (i + 1) symbols) e)

  pub next_allowed : (a b : Shape) → derivative next a ≡ b → is_never b ≡ false
      → refused i a (drop i symbols) ≡ refused (i + 1) b (drop (i + 1) symbols)
  next_allowed a b e live =
      cc (next_first, one_allowed i a b next (drop (i + 1) symbols) e live, add-one i)
