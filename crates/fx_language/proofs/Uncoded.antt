-- A description without its codes represents the same texts.
use Rattle.std.proofs.Common.{List, [], ◌∷◌, ◌++◌, refl, sym, ap, subst, ◌∙◌, inl, inr, ⊎_elim}
use Rattle.std.specs.List.{AllByRecursion}
use Rattle.std.proofs.lemmas.List.{append-nil}
use Rattle.fx_language.specs.declared.symbol.Symbol.{Symbol}
use Rattle.fx_language.specs.Shapes.{Shape, Never, Empty, One, Before, Either, Many, Fault, Matches}
use Rattle.fx_language.specs.Uncoded.{followed, uncoded}
use Rattle.fx_language.proofs.Derivatives.{parts_of, sequence_of, or_else_to, or_else_from}

nothing_behind : (a : Shape) (t : List Symbol) → Matches (Before a Empty) t → Matches a t
nothing_behind a t (x, y, p, q, e) =
    subst (Matches a) (sym (e ∙ ap (λ l. x ++ l) q ∙ append-nil x)) p

followed_of : (a b : Shape) (t : List Symbol) → Matches (Before a b) t → Matches (followed a b) t
followed_of a Empty t h = nothing_behind a t h
followed_of a b t h = sequence_of a b t h

parts_followed : (a b : Shape) (t : List Symbol) → Matches (followed a b) t → Matches (Before a b) t
parts_followed a Empty t h = (t, [], h, refl, sym (append-nil t))
parts_followed a b t h = parts_of a b t h

each_of : (a b : Shape) → ((t : List Symbol) → Matches a t → Matches b t) → (parts : List (List Symbol))
    → AllByRecursion (Matches a) parts → AllByRecursion (Matches b) parts
each_of a b f [] h = tt
each_of a b f (p ∷ parts) h = (f p h.0, each_of a b f parts h.1)

pub to_uncoded : (a : Shape) (t : List Symbol) → Matches a t → Matches (uncoded a) t
to_uncoded Never t h = h
to_uncoded Empty t h = h
to_uncoded (One test) t h = h
to_uncoded (Before a b) t (x, y, p, q, e) =
    followed_of _ _ t (x, y, to_uncoded a x p, to_uncoded b y q, e)
to_uncoded (Either a b) t (inl h) = or_else_from _ _ t (inl (to_uncoded a t h))
to_uncoded (Either a b) t (inr h) = or_else_from _ _ t (inr (to_uncoded b t h))
to_uncoded (Many a) t (parts, each, e) = (parts, each_of a _ (λ x p. to_uncoded a x p) parts each, e)
to_uncoded (Fault code test) t h = h

pub from_uncoded : (a : Shape) (t : List Symbol) → Matches (uncoded a) t → Matches a t
from_uncoded Never t h = h
from_uncoded Empty t h = h
from_uncoded (One test) t h = h
from_uncoded (Before a b) t h =
    let r = parts_followed _ _ t h in
    (r.0, r.1, from_uncoded a r.0 r.2, from_uncoded b r.1 r.3, r.4)
from_uncoded (Either a b) t h =
    ⊎_elim (λ p. inl (from_uncoded a t p)) (λ p. inr (from_uncoded b t p)) (or_else_to _ _ t h)
from_uncoded (Many a) t (parts, each, e) = (parts, each_of _ a (λ x p. from_uncoded a x p) parts each, e)
from_uncoded (Fault code test) t h = h
