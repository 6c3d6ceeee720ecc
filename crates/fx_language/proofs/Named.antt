-- Where the grammar names the code of a symbol: at the places of its faults.
use Rattle.std.proofs.Common.{◌≡◌, ℕ, Bool, true, false, cond, List, [], ◌∷◌, ◌++◌, Option, Some, None, refl, sym, ap}
use Rattle.std.proofs.Common.{◌∙◌, ◌⊎◌, inl, inr, append_assoc}
use Rattle.std.specs.Prelude.{is_some}
use Rattle.std.specs.List.{AllByRecursion, flat_map}
use Rattle.std.specs.Option.{option_or}
use Rattle.fx_language.specs.declared.symbol.Symbol.{Symbol}
use Rattle.fx_language.specs.Shapes.{Shape, Never, Empty, One, Before, Either, Many, Fault, Matches, derivative}
use Rattle.fx_language.specs.Shapes.{may_be_empty, or_else, fault_code, ◌▸◌}
use Rattle.fx_language.specs.Laws.{Names}
use Rattle.fx_language.proofs.Derivatives.{empty_in, empty_out, after_sound, after_complete, no_cons, head_is}

-- in a sequence, in both forms of it

pub from_parts : (c : ℕ) (a b : Shape) (t : List Symbol) (s : Symbol) → Names c (a ▸ b) t s → Names c (Before a b) t s
from_parts c Never b t s h = absurd h
from_parts c Empty b t s h = inr ([], t, refl, h, refl)
from_parts c (One test) b t s h = h
from_parts c (Either a d) b t s h = h
from_parts c (Many a) b t s h = h
from_parts c (Fault code test) b t s h = h
from_parts c (Before a d) b t s (inl n) = inl (inl n)
from_parts c (Before a d) b t s (inr (u, v, m, n, e)) = elim (from_parts c d b v s n) [
  | inl k ↦ inl (inr (u, v, m, k, e))
  | inr k ↦ inr (
    u ++ k.0,
    k.1,
    (u, k.0, m, k.2, refl),
    k.3,
    e ∙ ap (λ l. u ++ l) k.4 ∙ sym
        (append_assoc u k.0 k.1),
  )
]

pub to_parts : (c : ℕ) (a b : Shape) (t : List Symbol) (s : Symbol) → Names c (Before a b) t s → Names c (a ▸ b) t s
to_parts c Never b t s (inl n) = absurd n
to_parts c Never b t s (inr (u, v, m, n, e)) = absurd m
to_parts c Empty b t s (inl n) = absurd n
to_parts c Empty b t s (inr (u, v, m, n, e)) =
    rw (e ∙ ap (λ l. l ++ v) m) n
to_parts c (One test) b t s h = h
to_parts c (Either a d) b t s h = h
to_parts c (Many a) b t s h = h
to_parts c (Fault code test) b t s h = h
to_parts c (Before a d) b t s (inl (inl n)) = inl n
to_parts c (Before a d) b t s (inl (inr (u, v, m, n, e))) = inr (u, v, m, to_parts c d b v s (inl n), e)
to_parts c (Before a d) b t s (inr (x, y, (u, v, p, r, f), n, e)) =
    inr (
      u,
      v ++ y,
      p,
      to_parts c d b (v ++ y) s (inr (v, y, r, n, refl)),
      e ∙ ap (λ l. l ++ y) f ∙
          append_assoc u v y,
    )

pub from_either : (c : ℕ) (a b : Shape) (t : List Symbol) (s : Symbol) → Names c (or_else a b) t s
    → Names c a t s ⊎ Names c b t s
from_either c Never b t s h = inr h
from_either c a Never t s h = inl h
from_either c a b t s h = h

pub to_either : (c : ℕ) (a b : Shape) (t : List Symbol) (s : Symbol) → Names c a t s ⊎ Names c b t s
    → Names c (or_else a b) t s
to_either c Never b t s (inl h) = absurd h
to_either c Never b t s (inr h) = h
to_either c a Never t s (inl h) = h
to_either c a Never t s (inr h) = absurd h
to_either c a b t s h = h

-- at once

none_is : (c : ℕ) → ◌≡◌ {A = Option ℕ} None (Some c) → ⊥
none_is c e = cc e

same_code : (d c : ℕ) → ◌≡◌ {A = Option ℕ} (Some d) (Some c) → d ≡ c
same_code d c e = cc e

first_or : (c : ℕ) (x y : Option ℕ) → option_or x y ≡ Some c → (x ≡ Some c) ⊎ (y ≡ Some c)
first_or c None y e = inr e
first_or c (Some d) y e = inl e

where_empty : (c : ℕ) (b : Bool) (y : Option ℕ) → cond b y None ≡ Some c → (b ≡ true) × (y ≡ Some c)
where_empty c true y e = (refl, e)
where_empty c false y e = absurd (none_is c e)

pub named_here : (c : ℕ) (s : Symbol) (a : Shape) → fault_code s a ≡ Some c → Names c a [] s
named_here c s Never e = absurd (none_is c e)
named_here c s Empty e = absurd (none_is c e)
named_here c s (One test) e = absurd (none_is c e)
named_here c s (Before a b) e = elim (first_or c _ _ e) [
  | inl first ↦ inl (named_here c s a first)
  | inr second ↦ let p = where_empty c _ _ second in
      inr ([], [], empty_in a p.0, named_here c s b p.1, refl)
]
named_here c s (Either a b) e = elim (first_or c _ _ e) [
  | inl first ↦ inl (named_here c s a first)
  | inr second ↦ inr (named_here c s b second)
]
named_here c s (Many a) e = ([], [], ([], tt, refl), named_here c s a e, refl)
named_here c s (Fault code test) e = by_test _ e
  where
    by_test : (b : Bool) → cond b (Some code) None ≡ Some c → ◌≡◌ {A = List Symbol} [] [] × (b ≡ true) × (code ≡ c)
    by_test true e = (refl, refl, same_code code c e)
    by_test false e = absurd (none_is c e)

some_first : (x y : Option ℕ) → is_some x ≡ true → is_some (option_or x y) ≡ true
some_first None y h = absurd (let f = h in cc)
some_first (Some d) y h = refl

some_second : (x y : Option ℕ) → is_some y ≡ true → is_some (option_or x y) ≡ true
some_second None y h = h
some_second (Some d) y h = refl

pub here_named : (c : ℕ) (s : Symbol) (a : Shape) → Names c a [] s → is_some (fault_code s a) ≡ true
here_named c s Never h = absurd h
here_named c s Empty h = absurd h
here_named c s (One test) h = absurd h
here_named c s (Before a b) (inl n) =
    some_first _ _ (here_named c s a n)
here_named c s (Before a b) (inr ([], v, m, n, e)) =
    some_second _ _
    (ap (λ z. is_some (cond z (fault_code s b) None)) (empty_out a m) ∙ (here_named c s b (rw e n)))
here_named c s (Before a b) (inr (x ∷ u, v, m, n, e)) = absurd (no_cons x u v e)
here_named c s (Either a b) (inl n) = some_first _ _ (here_named c s a n)
here_named c s (Either a b) (inr n) = some_second _ _ (here_named c s b n)
here_named c s (Many a) ([], v, m, n, e) = here_named c s a (rw e n)
here_named c s (Many a) (x ∷ u, v, m, n, e) = absurd (no_cons x u v e)
here_named c s (Fault code test) (e, passed, is) = cc

-- after one more symbol

after_one : (c : ℕ) (b : Bool) (t : List Symbol) (s : Symbol) → Names c (cond b Empty Never) t s → ⊥
after_one c true t s h = h
after_one c false t s h = h

from_sequence : (c : ℕ) (x : Symbol) (a b : Shape) (t : List Symbol) (s : Symbol)
    → (Names c (derivative x a) t s → Names c a (x ∷ t) s) → Names c (derivative x a ▸ b) t s
    → Names c (Before a b) (x ∷ t) s
from_sequence c x a b t s first h = elim (from_parts c _ b t s h) [
  | inl n ↦ inl (first n)
  | inr n ↦ inr (x ∷ n.0, n.1, after_sound x a n.0 n.2, n.3, ap (λ l. x ∷ l) n.4)
]

from_front : (c : ℕ) (x : Symbol) (a b : Shape) (t : List Symbol) (s : Symbol) (empty : Bool) → may_be_empty a ≡ empty
    → (Names c (derivative x a) t s → Names c a (x ∷ t) s) → (Names c (derivative x b) t s → Names c b (x ∷ t) s)
    → Names c (cond empty (or_else (derivative x a ▸ b) (derivative x b)) (derivative x a ▸ b)) t s
    → Names c (Before a b) (x ∷ t) s
from_front c x a b t s true is first second h = elim (from_either c _ _ t s h) [
  | inl n ↦ from_sequence c x a b t s first n
  | inr n ↦ inr ([], x ∷ t, empty_in a is, second n, refl)
]
from_front c x a b t s false is first second h = from_sequence c x a b t s first h

pub named_later : (c : ℕ) (x : Symbol) (a : Shape) (t : List Symbol) (s : Symbol) → Names c (derivative x a) t s
    → Names c a (x ∷ t) s
named_later c x Never t s h = absurd h
named_later c x Empty t s h = absurd h
named_later c x (One test) t s h = absurd (after_one c _ t s h)
named_later c x (Before a b) t s h =
    from_front c x a b t s (may_be_empty a) refl (named_later c x a t s) (named_later c x b t s) h
named_later c x (Either a b) t s h = elim (from_either c (derivative x a) (derivative x b) t s h) [
  | inl n ↦ inl (named_later c x a t s n)
  | inr n ↦ inr (named_later c x b t s n)
]
named_later c x (Many a) t s h = elim (from_parts c (derivative x a) (Many a) t s h) [
  | inl n ↦ ([], x ∷ t, ([], tt, refl), named_later c x a t s n, refl)
  | inr n ↦ (
    (x ∷ n.0) ++ n.3.0,
    n.3.1,
    ((x ∷ n.0) ∷ n.3.2.0, (after_sound x a n.0 n.2, n.3.2.1), cc),
    n.3.3,
    cc (append_assoc n.0 n.3.0 n.3.1),
  )
]
named_later c x (Fault code test) t s h = absurd h

to_front : (c : ℕ) (x : Symbol) (a b : Shape) (t : List Symbol) (s : Symbol) (empty : Bool)
    → Names c (derivative x a ▸ b) t s
    → Names c (cond empty (or_else (derivative x a ▸ b) (derivative x b)) (derivative x a ▸ b)) t s
to_front c x a b t s true h = to_either c _ _ t s (inl h)
to_front c x a b t s false h = h

to_back : (c : ℕ) (x : Symbol) (a b : Shape) (t : List Symbol) (s : Symbol) (empty : Bool) → empty ≡ true
    → Names c (derivative x b) t s
    → Names c (cond empty (or_else (derivative x a ▸ b) (derivative x b)) (derivative x a ▸ b)) t s
to_back c x a b t s true is h = to_either c _ _ t s (inr h)
to_back c x a b t s false is h = absurd (let f = is in cc)

many_named : (c : ℕ) (x : Symbol) (a : Shape) (t v : List Symbol) (s : Symbol)
    → ((l : List Symbol) → Names c a (x ∷ l) s → Names c (derivative x a) l s) → (parts : List (List Symbol))
    → AllByRecursion (Matches a) parts
    → Names c a v s → (x ∷ t) ≡ flat_map (λ (part : List Symbol). part) parts ++ v
    → Names c (derivative x a ▸ Many a) t s
many_named c x a t v s in_a [] each n e =
    to_parts c _ _ t s (inl (in_a t (rw (← e) at n)))
many_named c x a t v s in_a ([] ∷ parts) each n e = many_named c x a t v s in_a parts each.1 n e
many_named c x a t v s in_a ((y ∷ l) ∷ parts) each n e =
    let f = head_is x y t _ e in
    to_parts c _ _ t s (inr (
      l,
      flat_map (λ (part : List Symbol). part) parts ++ v,
      after_complete x a l (rw f.0 each.0),
      (flat_map (λ (part : List Symbol). part) parts, v, (parts, each.1, refl), n, refl),
      f.1 ∙ append_assoc l (flat_map (λ (part : List Symbol). part) parts) v,
    ))

pub later_named : (c : ℕ) (x : Symbol) (a : Shape) (t : List Symbol) (s : Symbol) → Names c a (x ∷ t) s
    → Names c (derivative x a) t s
later_named c x Never t s h = absurd h
later_named c x Empty t s h = absurd h
later_named c x (One test) t s h = absurd h
later_named c x (Before a b) t s (inl n) =
    to_front c x a b t s _ (to_parts c _ b t s (inl (later_named c x a t s n)))
later_named c x (Before a b) t s (inr ([], v, m, n, e)) =
    to_back c x a b t s _ (empty_out a m)
    (later_named c x b t s (rw e n))
later_named c x (Before a b) t s (inr (y ∷ u, v, m, n, e)) =
    let f = head_is x y t _ e in
    to_front c x a b t s _
    (to_parts c _ b t s
    (inr (u, v, after_complete x a u (rw f.0 m), n, f.1)))
later_named c x (Either a b) t s (inl n) =
    to_either c _ _ t s (inl (later_named c x a t s n))
later_named c x (Either a b) t s (inr n) =
    to_either c _ _ t s (inr (later_named c x b t s n))
later_named c x (Many a) t s (u, v, (parts, each, f), n, e) =
    many_named c x a t v s (λ l k. later_named c x a l s k) parts each n (cc)
later_named c x (Fault code test) t s (e, passed, same) = absurd (let f = e in cc)
