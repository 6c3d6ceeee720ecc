-- Where a word is refused as one that begins no statement.
use Rattle.std.proofs.Common.{◌≡◌, ℕ, Bool, true, not, ◌&&◌, List, [], ◌∷◌, ◌++◌, refl, sym, ap, subst, ◌∙◌, inl, inr}
use Rattle.std.proofs.Common.{append_assoc}
use Rattle.std.specs.Prelude.{◌==◌}
use Rattle.std.specs.List.{AllByRecursion, flat_map}
use Rattle.std.proofs.lemmas.List.{append-nil}
use Rattle.std.proofs.lemmas.Bool.{and_parts, eq-eqb}
use Rattle.fx_language.specs.declared.symbol.Symbol.{Symbol}
use Rattle.fx_language.specs.declared.symbol.Symbol.TheVariants as symbol
use Rattle.fx_language.specs.Symbols.{is, is_left_out, is_word}
use Rattle.fx_language.specs.Shapes.{Shape, Never, Empty, One, Before, Either, Many, Fault, Matches, guarded, maybe}
use Rattle.fx_language.specs.Shapes.{◌▸◌, ◌∣◌}
use Rattle.fx_language.specs.Grammar.{key, proc, statement, step, between, unknown, program}
use Rattle.fx_language.specs.Laws.{Names, IsAtStart, AwaitsStatement}
use Rattle.fx_language.proofs.Derivatives.{parts_of}
use Rattle.fx_language.proofs.Named.{from_parts}
use Rattle.fx_language.proofs.SameSymbol.{symbol_is}

-- the description names no such code
abbrev pub lacks_code : ℕ → Shape → Bool
lacks_code c Never = true
lacks_code c Empty = true
lacks_code c (One test) = true
lacks_code c (Before a b) = lacks_code c a && lacks_code c b
lacks_code c (Either a b) = lacks_code c a && lacks_code c b
lacks_code c (Many a) = lacks_code c a
lacks_code c (Fault code test) = not (code == c)

pub other_code : (code c : ℕ) → not (code == c) ≡ true → code ≡ c → ⊥
other_code code c h e = let f = rw (eq-eqb code c e) at h in cc

pub none : (c : ℕ) (a : Shape) (t : List Symbol) (s : Symbol) → lacks_code c a ≡ true → Names c a t s → ⊥
none c Never t s l h = h
none c Empty t s l h = h
none c (One test) t s l h = h
none c (Before a b) t s l (inl n) = none c a t s (and_parts _ _ l).0 n
none c (Before a b) t s l (inr (x, y, m, n, e)) = none c b y s (and_parts _ _ l).1 n
none c (Either a b) t s l (inl n) = none c a t s (and_parts _ _ l).0 n
none c (Either a b) t s l (inr n) = none c b t s (and_parts _ _ l).1 n
none c (Many a) t s l (x, y, m, n, e) = none c a y s l n
none c (Fault code test) t s l (e, passed, same) = other_code code c l same

-- texts that end in a semicolon

abbrev EndsInSemicolon : List Symbol → Type 0
EndsInSemicolon text = (front : List Symbol) × (text ≡ front ++ symbol.Semicolon ∷ [])

-- each text of the description ends in one
abbrev Ends : Shape → Type 0
Ends Never = Unit {0}
Ends Empty = ⊥
Ends (One test) = (s : Symbol) → test s ≡ true → s ≡ symbol.Semicolon
Ends (Before a b) = Ends b
Ends (Either a b) = Ends a × Ends b
Ends (Many a) = ⊥
Ends (Fault code test) = Unit {0}

ends : (a : Shape) (t : List Symbol) → Ends a → Matches a t → EndsInSemicolon t
ends Never t h m = absurd m
ends Empty t h m = absurd h
ends (One test) t h (s, passed, e) = ([], rw (h s passed) at e)
ends (Before a b) t h (x, y, m, n, e) =
    let r = ends b y h n in
    (x ++ r.0, cc (append_assoc x r.0 (symbol.Semicolon ∷ [])))
ends (Either a b) t h (inl m) = ends a t h.0 m
ends (Either a b) t h (inr m) = ends b t h.1 m
ends (Many a) t h m = absurd h
ends (Fault code test) t h m = absurd m

pub joined : (x y : List Symbol) → IsAtStart x → IsAtStart y → IsAtStart (x ++ y)
joined x y h (inl e) = subst IsAtStart (sym (ap (λ l. x ++ l) e ∙ append-nil x)) h
joined x y h (inr (front, e)) =
    inr (x ++ front, ap (λ l. x ++ l) e ∙ sym (append_assoc x front (symbol.Semicolon ∷ [])))

pub many : (a : Shape) → ((t : List Symbol) → Matches a t → IsAtStart t) → (t : List Symbol) → Matches (Many a) t
    → IsAtStart t
many a each t (parts, all, e) = subst IsAtStart (sym e) (of_parts parts all)
  where
    of_parts : (parts : List (List Symbol)) → AllByRecursion (Matches a) parts
        → IsAtStart (flat_map (λ (part : List Symbol). part) parts)
    of_parts [] all = inl refl
    of_parts (part ∷ rest) all =
        joined part _ (each part all.0) (of_parts rest all.1)

pub semicolon : (s : Symbol) → is symbol.Semicolon s ≡ true → s ≡ symbol.Semicolon
semicolon = symbol_is symbol.Semicolon

pub between_start : (t : List Symbol) → Matches between t → IsAtStart t
between_start t m =
    many (key symbol.Semicolon ∣ key symbol.Run ▸ key symbol.Semicolon ∣ key symbol.Quit ▸ key symbol.Semicolon)
    (λ t m. inr
    (ends (key symbol.Semicolon ∣ key symbol.Run ▸ key symbol.Semicolon ∣ key symbol.Quit ▸ key symbol.Semicolon) t
    (semicolon, (semicolon, semicolon)) m)) t m

pub statement_start : (t : List Symbol) → Matches statement t → IsAtStart t
statement_start t m =
    inr (ends statement t (
      semicolon,
      (
        semicolon,
        (semicolon, (semicolon, (semicolon, (semicolon, (semicolon, (semicolon, semicolon)))))),
      ),
    ) m)

pub proc_start : (t : List Symbol) → Matches proc t → IsAtStart t
proc_start t m = inr (ends proc t (semicolon, tt) m)

step_start : (t : List Symbol) → Matches step t → IsAtStart t
step_start t m =
    let p = parts_of proc (Many statement) t m in
    subst IsAtStart (sym p.4) (joined p.0 p.1 (proc_start p.0 p.2) (many statement statement_start p.1 p.3))

-- a step, with the QUIT that may end it
abbrev pub whole_step : Shape
whole_step = step ▸ maybe (key symbol.Quit ▸ key symbol.Semicolon ▸ between)

quit_start : (t : List Symbol) → Matches (maybe (key symbol.Quit ▸ key symbol.Semicolon ▸ between)) t → IsAtStart t
quit_start t (inl m) =
    let p = parts_of (key symbol.Quit ▸ key symbol.Semicolon) between t m in
    subst IsAtStart (sym p.4)
    (joined p.0 p.1 (inr (ends (key symbol.Quit ▸ key symbol.Semicolon) p.0 semicolon p.2)) (between_start p.1 p.3))
quit_start t (inr m) = inl m

pub whole_start : (t : List Symbol) → Matches whole_step t → IsAtStart t
whole_start t m =
    let p = parts_of step (maybe (key symbol.Quit ▸ key symbol.Semicolon ▸ between)) t m in
    subst IsAtStart (sym p.4) (joined p.0 p.1 (step_start p.0 p.2) (quit_start p.1 p.3))

-- where the code is named

not_24 : ◌≡◌ {A = ℕ} 24 1 → ⊥
not_24 e = cc e

in_proc : (t : List Symbol) (s : Symbol) → Names 1 proc t s → (t ≡ symbol.Proc ∷ []) × (is_word s ≡ true)
in_proc t s (inl n) = absurd n
in_proc t s (inr (x, y, (p, passed, ex), inl (inl (inl n)), e)) = absurd n
in_proc t s (inr (x, y, (p, passed, ex), inl (inl (inr (ey, left, same))), e)) = absurd (not_24 same)
in_proc t s (inr (x, y, (p, passed, ex), inl (inr (ey, passes, same)), e)) = (
  cc (symbol_is symbol.Proc p passed),
  passes,
)
in_proc t s (inr (x, y, (p, passed, ex), inr (x', y', m, n, e'), e)) =
    absurd (none 1
    (guarded 24 is_left_out (Many (key symbol.Nodes ▸ key symbol.Equals ▸ key symbol.Whole) ▸ key symbol.Semicolon))
    y' s refl n)

-- in the first step that is not whole
in_step : (before t : List Symbol) (s : Symbol) → IsAtStart before → Names 1 whole_step t s
    → (is_word s ≡ true) × AwaitsStatement (before ++ t)
in_step before t s start h = elim (from_parts 1 step (maybe (key symbol.Quit ▸ key symbol.Semicolon ▸ between)) t s h) [
  | inl n ↦ elim (from_parts 1 proc (Many statement) t s n) [
    | inl k ↦ let p = in_proc t s k in (p.1, inr (before, start, ap (λ (l : List Symbol). before ++ l) p.0))
    | inr k ↦ absurd (none 1 (Many statement) k.1 s refl k.3)
  ]
  | inr n ↦ absurd (none 1 (maybe (key symbol.Quit ▸ key symbol.Semicolon ▸ between)) n.1 s refl n.3)
]

at_end : (before t : List Symbol) (s : Symbol) → IsAtStart before → Names 1 (key symbol.End ∣ unknown) t s
    → (is_word s ≡ true) × AwaitsStatement (before ++ t)
at_end before t s start (inl n) = absurd n
at_end before t s start (inr (inl (e, passes, same))) = absurd (not_24 same)
at_end before t s start (inr (inr (e, passes, same))) = (passes, inl (joined before t start (inl e)))

after_steps : (before t : List Symbol) (s : Symbol) → IsAtStart before
    → Names 1 (Many whole_step ▸ (key symbol.End ∣ unknown)) t s → (is_word s ≡ true) × AwaitsStatement (before ++ t)
after_steps before t s start h = elim (from_parts 1 (Many whole_step) (key symbol.End ∣ unknown) t s h) [
  | inl n ↦
      let r = in_step _ n.1 s (joined before n.0 start (many whole_step whole_start n.0 n.2)) n.3 in
      (r.0, subst AwaitsStatement (append_assoc before n.0 n.1 ∙ ap (λ l. before ++ l) (sym n.4)) r.1)
  | inr n ↦
      let r = at_end _ n.1 s (joined before n.0 start (many whole_step whole_start n.0 n.2)) n.3 in
      (r.0, subst AwaitsStatement (append_assoc before n.0 n.1 ∙ ap (λ l. before ++ l) (sym n.4)) r.1)
]

-- the law: where the grammar names 1, a statement or the procedure of PROC is awaited, and the symbol is a word
pub awaited : (t : List Symbol) (s : Symbol) → Names 1 program t s → (is_word s ≡ true) × AwaitsStatement t
awaited t s h = elim (from_parts 1 between (Many whole_step ▸ (key symbol.End ∣ unknown)) t s h) [
  | inl n ↦ absurd (none 1 between t s refl n)
  | inr n ↦ let r = after_steps n.0 n.1 s (between_start n.0 n.2) n.3 in (r.0, subst AwaitsStatement (sym n.4) r.1)
]
