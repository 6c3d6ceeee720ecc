-- What is left after a symbol is what the description stands for after it.
use Rattle.std.proofs.Common.{◌≡◌, Bool, true, false, cond, ◌⊎◌, List, [], ◌∷◌, ◌++◌, refl, sym, ap, subst, ◌∙◌}
use Rattle.std.proofs.Common.{append_assoc, inl, inr, ⊎_elim}
use Rattle.std.specs.List.{flat_map, AllByRecursion}
use Rattle.std.proofs.lemmas.Bool.{and_parts, or_cases}
use mathlib.Core.Bool.{or-true}
use Rattle.fx_language.specs.declared.symbol.Symbol.{Symbol}
use Rattle.fx_language.specs.Shapes.{Shape, Never, Empty, One, Before, Either, Many, Fault, ◌▸◌, or_else, may_be_empty}
use Rattle.fx_language.specs.Shapes.{derivative, Matches}

-- a sequence is one text before another
pub parts_of : (a b : Shape) (t : List Symbol) → Matches (a ▸ b) t → Matches (Before a b) t
parts_of Never b t h = absurd h
parts_of Empty b t h = ([], t, refl, h, refl)
parts_of (One test) b t h = h
parts_of (Either a c) b t h = h
parts_of (Many a) b t h = h
parts_of (Fault code test) b t h = h
parts_of (Before a c) b t (x, y, p, q, e) =
    let r = parts_of c b y q in (
      x ++ r.0,
      r.1,
      (x, r.0, p, r.2, refl),
      r.3,
      cc (append_assoc x r.0 r.1),
    )

pub sequence_of : (a b : Shape) (t : List Symbol) → Matches (Before a b) t → Matches (a ▸ b) t
sequence_of Never b t (x, y, p, q, e) = absurd p
sequence_of Empty b t (x, y, p, q, e) = subst (Matches b) (sym (e ∙ ap (λ l. l ++ y) p)) q
sequence_of (One test) b t h = h
sequence_of (Either a c) b t h = h
sequence_of (Many a) b t h = h
sequence_of (Fault code test) b t h = h
sequence_of (Before a c) b t (x, y, (u, v, p, r, f), q, e) = (
  u,
  v ++ y,
  p,
  sequence_of c b (v ++ y) (v, y, r, q, refl),
  cc (append_assoc u
      v y),
)

pub or_else_to : (a b : Shape) (t : List Symbol) → Matches (or_else a b) t → Matches a t ⊎ Matches b t
or_else_to Never b t h = inr h
or_else_to a Never t h = inl h
or_else_to a b t h = h

pub or_else_from : (a b : Shape) (t : List Symbol) → Matches a t ⊎ Matches b t → Matches (or_else a b) t
or_else_from Never b t h = ⊎_elim absurd (λ x. x) h
or_else_from a Never t h = ⊎_elim (λ x. x) absurd h
or_else_from a b t h = h

pub empty_in : (a : Shape) → may_be_empty a ≡ true → Matches a []
empty_in Never h = absurd (let f = h in cc)
empty_in Empty h = refl
empty_in (One test) h = absurd (let f = h in cc)
empty_in (Before a b) h =
    let p = and_parts _ _ h in
    ([], [], empty_in a p.0, empty_in b p.1, refl)
empty_in (Either a b) h =
    ⊎_elim (λ p. inl (empty_in a p)) (λ p. inr (empty_in b p)) (or_cases _ _ h)
empty_in (Many a) h = ([], tt, refl)
empty_in (Fault code test) h = absurd (let f = h in cc)

pub no_cons : {A : Type 0} (x : A) (xs ys : List A) → [] ≡ (x ∷ xs) ++ ys → ⊥
no_cons x xs ys e = cc

pub empty_out : (a : Shape) → Matches a [] → may_be_empty a ≡ true
empty_out Never h = absurd h
empty_out Empty h = refl
empty_out (One test) (s, p, e) = absurd (let f = e in cc)
empty_out (Before a b) ([], y, p, q, e) = rw (empty_out a p) (empty_out b (subst (Matches b) (sym e) q))
empty_out (Before a b) (s ∷ x, y, p, q, e) = absurd (no_cons s x y e)
empty_out (Either a b) (inl h) = rw (empty_out a h)
empty_out (Either a b) (inr h) = rw (empty_out b h) (or-true _)
empty_out (Many a) h = refl
empty_out (Fault code test) h = absurd h

one_sound : (b : Bool) (t : List Symbol) → Matches (cond b Empty Never) t → (b ≡ true) × (t ≡ [])
one_sound true t h = (refl, h)
one_sound false t h = absurd h

front_sound : (s : Symbol) (a b : Shape) (t : List Symbol) (e : Bool) → may_be_empty a ≡ e
    → ((x : List Symbol) → Matches (derivative s a) x → Matches a (s ∷ x))
    → (Matches (derivative s b) t → Matches b (s ∷ t))
    → Matches (cond e (or_else (derivative s a ▸ b) (derivative s b)) (derivative s a ▸ b)) t
    → Matches (Before a b) (s ∷ t)
front_sound s a b t e is in_a in_b h = go e is h
  where
    first : Matches (derivative s a ▸ b) t → Matches (Before a b) (s ∷ t)
    first h =
        let r = parts_of _ b t h in
        (s ∷ r.0, r.1, in_a r.0 r.2, r.3, cc)

    go : (e : Bool) → may_be_empty a ≡ e
        → Matches (cond e (or_else (derivative s a ▸ b) (derivative s b)) (derivative s a ▸ b)) t
        → Matches (Before a b) (s ∷ t)
    go true e h =
        ⊎_elim first (λ q. ([], s ∷ t, empty_in a e, in_b q, refl))
        (or_else_to _ _ t h)
    go false e h = first h

-- a text after the symbol
pub after_sound : (s : Symbol) (a : Shape) (t : List Symbol) → Matches (derivative s a) t → Matches a (s ∷ t)
after_sound s Never t h = h
after_sound s Empty t h = absurd h
after_sound s (One test) t h = let p = one_sound _ t h in (s, p.0, cc)
after_sound s (Before a b) t h =
    front_sound s a b t _ refl (λ x p. after_sound s a x p) (after_sound s b t) h
after_sound s (Either a b) t h =
    ⊎_elim (λ p. inl (after_sound s a t p)) (λ p. inr (after_sound s b t p))
    (or_else_to _ _ t h)
after_sound s (Many a) t h =
    let r = parts_of _ _ t h in (
      (s ∷ r.0)
          ∷ r.3.0,
      (after_sound s a r.0 r.2, r.3.1),
      cc,
    )
after_sound s (Fault code test) t h = h

one_complete : (b : Bool) → b ≡ true → Matches (cond b Empty Never) []
one_complete true h = refl
one_complete false h = absurd (let f = h in cc)

front_left : (s : Symbol) (a b : Shape) (t : List Symbol) (e : Bool) → Matches (derivative s a ▸ b) t
    → Matches (cond e (or_else (derivative s a ▸ b) (derivative s b)) (derivative s a ▸ b)) t
front_left s a b t true h = or_else_from _ _ t (inl h)
front_left s a b t false h = h

front_right : (s : Symbol) (a b : Shape) (t : List Symbol) (e : Bool) → e ≡ true → Matches (derivative s b) t
    → Matches (cond e (or_else (derivative s a ▸ b) (derivative s b)) (derivative s a ▸ b)) t
front_right s a b t true is h = or_else_from _ _ t (inr h)
front_right s a b t false is h = absurd (let f = is in cc)

pub head_is : (s r : Symbol) (t x : List Symbol) → (s ∷ t) ≡ (r ∷ x) → (s ≡ r) × (t ≡ x)
head_is s r t x e = (cc, cc)

many_complete : (s : Symbol) (a : Shape) (t : List Symbol)
    → ((x : List Symbol) → Matches a (s ∷ x) → Matches (derivative s a) x) → (parts : List (List Symbol))
    → AllByRecursion (Matches a) parts → s ∷ t ≡ flat_map (λ part. part) parts → Matches (derivative s a ▸ Many a) t
many_complete s a t in_a [] each e = absurd (let f = e in cc)
many_complete s a t in_a ([] ∷ parts) each e = many_complete s a t in_a parts each.1 e
many_complete s a t in_a ((r ∷ x) ∷ parts) each e =
    let f = head_is s r t _ e in
    sequence_of _ _ t (
      x,
      flat_map (λ part. part) parts,
      in_a x (rw (← f.0) at each.0),
      (parts, each.1, refl),
      f.1,
    )

-- every text with the symbol in front
pub after_complete : (s : Symbol) (a : Shape) (t : List Symbol) → Matches a (s ∷ t) → Matches (derivative s a) t
after_complete s Never t h = h
after_complete s Empty t h = absurd (let f = h in cc)
after_complete s (One test) t (r, p, e) =
    let q = head_is s r t [] e in
    rw q.1 (one_complete _ (ap test q.0 ∙ p))
after_complete s (Before a b) t ([], y, p, q, e) =
    front_right s a b t _ (empty_out a p) (after_complete s b t (subst (Matches b) (sym e) q))
after_complete s (Before a b) t (r ∷ x, y, p, q, e) =
    let f = head_is s r t _ e in
    front_left s a b t _
    (sequence_of _ b t
    (x, y, after_complete s a x (rw f.0 p), q, f.1))
after_complete s (Either a b) t (inl h) =
    or_else_from _ _ t (inl (after_complete s a t h))
after_complete s (Either a b) t (inr h) =
    or_else_from _ _ t (inr (after_complete s b t h))
after_complete s (Many a) t (parts, each, e) =
    many_complete s a t (λ x p. after_complete s a x p) parts each e
after_complete s (Fault code test) t h = h
