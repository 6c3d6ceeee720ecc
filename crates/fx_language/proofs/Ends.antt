-- Nothing stands after the end of a text.
use Rattle.std.proofs.Common.{◌≡◌, Bool, true, false, cond, ◌&&◌, not, List, [], refl, ⊎_elim}
use Rattle.std.proofs.lemmas.Bool.{and_parts, not-true, and_from}
use Rattle.fx_language.specs.declared.symbol.Symbol.{Symbol}
use Rattle.fx_language.specs.declared.symbol.Symbol.TheVariants.{End}
use Rattle.fx_language.specs.Shapes.{Shape, Never, Empty, One, Before, Either, Many, Fault, ◌▸◌, or_else, may_be_empty}
use Rattle.fx_language.specs.Shapes.{derivative, Matches}
use Rattle.fx_language.proofs.Derivatives.{or_else_to}

-- no text of the description holds the end
abbrev pub lacks_end : Shape → Bool
lacks_end Never = true
lacks_end Empty = true
lacks_end (One test) = not (test End)
lacks_end (Before a b) = lacks_end a && lacks_end b
lacks_end (Either a b) = lacks_end a && lacks_end b
lacks_end (Many a) = lacks_end a
lacks_end (Fault code test) = true

-- where a text holds the end, it is its last symbol
abbrev pub ends_last : Shape → Bool
ends_last Never = true
ends_last Empty = true
ends_last (One test) = true
ends_last (Before a b) = lacks_end a && ends_last b
ends_last (Either a b) = ends_last a && ends_last b
ends_last (Many a) = lacks_end a
ends_last (Fault code test) = true

-- a test of descriptions that holds of what is built from those of which it holds
choice : (P : Shape → Type 0) (b : Bool) (x y : Shape) → P x → P y → P (cond b x y)
choice P true x y h k = h
choice P false x y h k = k

lacks_sequence : (a b : Shape) → lacks_end a ≡ true → lacks_end b ≡ true → lacks_end (a ▸ b) ≡ true
lacks_sequence Never b h k = refl
lacks_sequence Empty b h k = k
lacks_sequence (One test) b h k = and_from _ _ h k
lacks_sequence (Before a c) b h k =
    let p = and_parts _ _ h in
    and_from _ _ p.0 (lacks_sequence c b p.1 k)
lacks_sequence (Either a c) b h k = and_from _ _ h k
lacks_sequence (Many a) b h k = and_from _ _ h k
lacks_sequence (Fault code test) b h k = k

lacks_either : (a b : Shape) → lacks_end a ≡ true → lacks_end b ≡ true → lacks_end (or_else a b) ≡ true
lacks_either Never b h k = k
lacks_either a Never h k = h
lacks_either a b h k = and_from _ _ h k

lacks_after : (s : Symbol) (a : Shape) → lacks_end a ≡ true → lacks_end (derivative s a) ≡ true
lacks_after s Never h = refl
lacks_after s Empty h = refl
lacks_after s (One test) h = choice (λ x. lacks_end x ≡ true) _ Empty Never refl refl
lacks_after s (Before a b) h =
    let p = and_parts _ _ h in
    let first = lacks_sequence (derivative s a) b (lacks_after s a p.0) p.1 in
    choice (λ x. lacks_end x ≡ true) (may_be_empty a) (or_else (derivative s a ▸ b) (derivative s b))
    (derivative s a ▸ b)
    (lacks_either (derivative s a ▸ b) (derivative s b) first (lacks_after s b p.1)) first
lacks_after s (Either a b) h =
    let p = and_parts _ _ h in
    lacks_either (derivative s a) (derivative s b) (lacks_after s a p.0) (lacks_after s b p.1)
lacks_after s (Many a) h = lacks_sequence (derivative s a) (Many a) (lacks_after s a h) h
lacks_after s (Fault code test) h = refl

ends_sequence : (a b : Shape) → lacks_end a ≡ true → ends_last b ≡ true → ends_last (a ▸ b) ≡ true
ends_sequence Never b h k = refl
ends_sequence Empty b h k = k
ends_sequence (One test) b h k = and_from _ _ h k
ends_sequence (Before a c) b h k =
    let p = and_parts _ _ h in
    and_from _ _ p.0 (ends_sequence c b p.1 k)
ends_sequence (Either a c) b h k = and_from _ _ h k
ends_sequence (Many a) b h k = and_from _ _ h k
ends_sequence (Fault code test) b h k = k

ends_either : (a b : Shape) → ends_last a ≡ true → ends_last b ≡ true → ends_last (or_else a b) ≡ true
ends_either Never b h k = k
ends_either a Never h k = h
ends_either a b h k = and_from _ _ h k

-- it holds of what is left after a symbol
pub ends_after : (s : Symbol) (a : Shape) → ends_last a ≡ true → ends_last (derivative s a) ≡ true
ends_after s Never h = refl
ends_after s Empty h = refl
ends_after s (One test) h = choice (λ x. ends_last x ≡ true) _ Empty Never refl refl
ends_after s (Before a b) h =
    let p = and_parts _ _ h in
    let first = ends_sequence (derivative s a) b (lacks_after s a p.0) p.1 in
    choice (λ x. ends_last x ≡ true) (may_be_empty a) (or_else (derivative s a ▸ b) (derivative s b))
    (derivative s a ▸ b)
    (ends_either (derivative s a ▸ b) (derivative s b) first (ends_after s b p.1)) first
ends_after s (Either a b) h =
    let p = and_parts _ _ h in
    ends_either (derivative s a) (derivative s b) (ends_after s a p.0) (ends_after s b p.1)
ends_after s (Many a) h = ends_sequence (derivative s a) (Many a) (lacks_after s a h) h
ends_after s (Fault code test) h = refl

never_after_end : (a : Shape) → lacks_end a ≡ true → derivative End a ≡ Never
never_after_end Never h = refl
never_after_end Empty h = refl
never_after_end (One test) h = rw (not-true _ h)
never_after_end (Before a b) h =
    let p = and_parts _ _ h in
    rw (never_after_end a p.0, never_after_end b p.1) (choice (λ x. x ≡ Never) _ Never Never refl refl)
never_after_end (Either a b) h =
    let p = and_parts _ _ h in
    rw (never_after_end a p.0, never_after_end b p.1)
never_after_end (Many a) h = rw (never_after_end a h)
never_after_end (Fault code test) h = refl

-- its only text is the empty one
abbrev pub OnlyEmpty : Shape → Type 0
OnlyEmpty a = (t : List Symbol) → Matches a t → t ≡ []

either_empty : (a b : Shape) → OnlyEmpty a → OnlyEmpty b → OnlyEmpty (or_else a b)
either_empty a b f g t h = ⊎_elim (f t) (g t) (or_else_to a b t h)

-- after the end nothing is left
pub empty_after_end : (a : Shape) → ends_last a ≡ true → OnlyEmpty (derivative End a)
empty_after_end Never h = λ t m. absurd m
empty_after_end Empty h = λ t m. absurd m
empty_after_end (One test) h = choice OnlyEmpty _ Empty Never (λ t m. m) (λ t m. absurd m)
empty_after_end (Before a b) h =
    let p = and_parts _ _ h in
    rw (never_after_end a p.0)
    (choice OnlyEmpty _ _ Never (empty_after_end b p.1) (λ t m. absurd m))
empty_after_end (Either a b) h =
    let p = and_parts _ _ h in
    either_empty _ _ (empty_after_end a p.0) (empty_after_end b p.1)
empty_after_end (Many a) h = rw (never_after_end a h) (λ t m. absurd m)
empty_after_end (Fault code test) h = λ t m. absurd m
