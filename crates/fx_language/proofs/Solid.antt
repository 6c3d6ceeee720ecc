-- A description each of whose parts stands for some text: what it leaves after a symbol is Never or such again.
use Rattle.std.proofs.Common.{◌≡◌, Bool, true, false, cond, ◌&&◌, ◌||◌, ◌⊎◌, List, [], ◌∷◌, ◌++◌, refl, inl, inr}
use Rattle.std.proofs.Common.{⊎_elim}
use Rattle.std.specs.List.{list_any}
use Rattle.std.proofs.lemmas.Bool.{and_parts, or_cases}
use Rattle.fx_language.specs.declared.symbol.Symbol.{Symbol}
use Rattle.fx_language.specs.Keywords.{all_symbols}
use Rattle.fx_language.specs.Shapes.{Shape, Never, Empty, One, Before, Either, Many, Fault, ◌▸◌, or_else}
use Rattle.fx_language.specs.Shapes.{derivative, is_never, Matches}

-- a description that only names codes
abbrev pub is_fault : Shape → Bool
is_fault (Fault code test) = true
is_fault (Either a b) = is_fault a && is_fault b
is_fault a = false

-- each part of the description stands for some text, or names codes beside a part that does
abbrev pub is_solid : Shape → Bool
is_solid Never = false
is_solid Empty = true
is_solid (One test) = list_any test all_symbols
is_solid (Before a b) = is_solid a && is_solid b
is_solid (Either a b) = (is_solid a && (is_solid b || is_fault b)) || (is_fault a && is_solid b)
is_solid (Many a) = is_solid a
is_solid (Fault code test) = false

some_of : (test : Symbol → Bool) (xs : List Symbol) → list_any test xs ≡ true → (s : Symbol) × (test s ≡ true)
some_of test [] h = absurd (let f = h in cc)
some_of test (x ∷ xs) h = ⊎_elim (λ a. (x, a)) (some_of test xs) (or_cases _ _ h)

-- a solid description stands for some text
pub inhabited : (a : Shape) → is_solid a ≡ true → (t : List Symbol) × Matches a t
inhabited Never h = absurd (let f = h in cc)
inhabited Empty h = ([], refl)
inhabited (One test) h = let r = some_of test all_symbols h in (r.0 ∷ [], (r.0, r.1, refl))
inhabited (Before a b) h =
    let p = and_parts _ _ h in
    let x = inhabited a p.0 in
    let y = inhabited b p.1 in
    (x.0 ++ y.0, (x.0, y.0, x.1, y.1, refl))
inhabited (Either a b) h =
    ⊎_elim
    (λ p. let x = inhabited a (and_parts _ (is_solid b || is_fault b) p).0 in (x.0, inl x.1))
    (λ p. let y = inhabited b (and_parts (is_fault a) _ p).1 in (y.0, inr y.1))
    (or_cases (is_solid a && (is_solid b || is_fault b)) (is_fault a && is_solid b) h)
inhabited (Many a) h = ([], ([], tt, refl))
inhabited (Fault code test) h = absurd (let f = h in cc)

abbrev IsFine : Shape → Type 0
IsFine a = (a ≡ Never) ⊎ (is_solid a ≡ true)

never_after : (s : Symbol) (a : Shape) → is_fault a ≡ true → derivative s a ≡ Never
never_after s Never h = absurd (let f = h in cc)
never_after s Empty h = absurd (let f = h in cc)
never_after s (One test) h = absurd (let f = h in cc)
never_after s (Before a b) h = absurd (let f = h in cc)
never_after s (Either a b) h =
    let p = and_parts _ _ h in
    rw (never_after s a p.0, never_after s b p.1)
never_after s (Many a) h = absurd (let f = h in cc)
never_after s (Fault code test) h = refl

sequence_solid : (a b : Shape) → is_solid a ≡ true → is_solid b ≡ true → is_solid (a ▸ b) ≡ true
sequence_solid Never b h k = absurd (let f : false ≡ true = h in cc)
sequence_solid Empty b h k = k
sequence_solid (One test) b h k = rw h k
sequence_solid (Before a c) b h k =
    let p = and_parts (is_solid a) (is_solid c) h in
    rw p.0 (sequence_solid c b p.1 k)
sequence_solid (Either a c) b h k = rw h k
sequence_solid (Many a) b h k = rw h k
sequence_solid (Fault code test) b h k = absurd (let f = h in cc)

sequence_fine : (a b : Shape) → IsFine a → is_solid b ≡ true → IsFine (a ▸ b)
sequence_fine a b (inl e) k = inl (rw e)
sequence_fine a b (inr h) k = inr (sequence_solid a b h k)

solid_either : (x y f g : Bool) → x ≡ true → y ≡ true → ((x && (y || f)) || (g && y)) ≡ true
solid_either true true f g h k = refl
solid_either true false f g h k = absurd (let f = k in cc)
solid_either false y f g h k = absurd (let f = h in cc)

either_solid : (a b : Shape) → is_solid a ≡ true → is_solid b ≡ true → is_solid (or_else a b) ≡ true
either_solid Never b h k = k
either_solid a Never h k = h
either_solid a b h k = solid_either _ _ (is_fault b) (is_fault a) h k

or_else_never : (a : Shape) → or_else a Never ≡ a
or_else_never Never = refl
or_else_never a = refl

or_else_fine : (a b : Shape) → IsFine a → IsFine b → IsFine (or_else a b)
or_else_fine a b (inl e) k = rw e k
or_else_fine a b (inr h) (inl e) = rw (e, or_else_never a) (inr h)
or_else_fine a b (inr h) (inr k) = inr (either_solid a b h k)

cond_fine : (b : Bool) (x y : Shape) → IsFine x → IsFine y → IsFine (cond b x y)
cond_fine true x y h k = h
cond_fine false x y h k = k

-- what is left is Never, or solid again
pub after_fine : (s : Symbol) (a : Shape) → is_solid a ≡ true → IsFine (derivative s a)
after_fine s Never h = inl refl
after_fine s Empty h = inl refl
after_fine s (One test) h = cond_fine _ Empty Never (inr refl) (inl refl)
after_fine s (Before a b) h =
    let p = and_parts _ _ h in
    let first = sequence_fine _ b (after_fine s a p.0) p.1 in
    cond_fine _ _ _
    (or_else_fine _ _ first (after_fine s b p.1)) first
after_fine s (Either a b) h =
    ⊎_elim
    (λ p. let q = and_parts _ _ p in
    or_else_fine _ _ (after_fine s a q.0)
    (⊎_elim (after_fine s b) (λ x. inl (never_after s b x)) (or_cases _ _ q.1)))
    (λ p. let q = and_parts _ _ p in
    or_else_fine (derivative s a) _ (inl (never_after s a q.0)) (after_fine s b q.1))
    (or_cases _ _ h)
after_fine s (Many a) h = sequence_fine _ _ (after_fine s a h) h
after_fine s (Fault code test) h = inl refl

pub not_never : (a : Shape) → is_solid a ≡ true → is_never a ≡ false
not_never Never h = absurd (let f = h in cc)
not_never a h = refl
