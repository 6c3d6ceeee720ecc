-- Where a symbol is refused because it is left out of the language.
use Rattle.std.proofs.Common.{◌≡◌, ℕ, Bool, true, false, ◌&&◌, ◌||◌, List, [], ◌∷◌, ◌++◌, refl, sym, ap, ap₂, subst}
use Rattle.std.proofs.Common.{◌∙◌, ◌⊎◌, inl, inr, append_assoc}
use Rattle.std.specs.List.{list_any}
use Rattle.std.specs.Prelude.{◌==◌}
use Rattle.std.proofs.lemmas.Bool.{and_parts, or_cases, eqb-true}
use Rattle.std.proofs.lemmas.List.Folds.{list_any-append}
use Rattle.fx_language.specs.declared.symbol.Symbol.{Symbol}
use Rattle.fx_language.specs.declared.symbol.Symbol.TheVariants as symbol
use Rattle.fx_language.specs.Symbols.{is, is_left_out, is_word}
use Rattle.fx_language.specs.Shapes.{Shape, Never, Empty, One, Before, Either, Many, Fault, Matches, guarded, maybe}
use Rattle.fx_language.specs.Shapes.{◌▸◌, ◌∣◌}
use Rattle.fx_language.specs.Grammar.{key, n, no_open, factors, foldover, size}
use Rattle.fx_language.specs.Grammar.{model_word, model_rest, model, blocks, examine_word, examine_rest, examine}
use Rattle.fx_language.specs.Grammar.{output, proc, proc_rest, statement, step, between, unknown, program}
use Rattle.fx_language.specs.Laws.{Names, IsAtStart, IsInStatement, IsLeftOut}
use Rattle.fx_language.proofs.Named.{from_parts}
use Rattle.fx_language.proofs.Lacking.{lacks, none}
use Rattle.fx_language.proofs.SameSymbol.{symbol_is}
use Rattle.fx_language.proofs.Unknown.{lacks_code, other_code, none as no_code, joined, many, between_start, proc_start}
use Rattle.fx_language.proofs.Unknown.{statement_start, whole_step, whole_start}

-- before the semicolon that ends a statement

-- the description has no semicolon but at its end
abbrev inside : Shape → Bool
inside Never = true
inside Empty = true
inside (One test) = true
inside (Before a b) = lacks symbol.Semicolon a && (inside a && inside b)
inside (Either a b) = inside a && inside b
inside (Many a) = lacks symbol.Semicolon a && inside a
inside (Fault code test) = true

without : (a : Shape) (t : List Symbol) → lacks symbol.Semicolon a ≡ true → Matches a t
    → list_any (is symbol.Semicolon) t ≡ false
without a t l m = none symbol.Semicolon a t l m

both_without : (t x y : List Symbol) → t ≡ x ++ y → list_any (is symbol.Semicolon) x ≡ false
    → list_any (is symbol.Semicolon) y ≡ false → list_any (is symbol.Semicolon) t ≡ false
both_without t x y e h k =
    cc (list_any-append (is symbol.Semicolon) x y)

named_inside : (c : ℕ) (a : Shape) (t : List Symbol) (s : Symbol) → inside a ≡ true → Names c a t s
    → list_any (is symbol.Semicolon) t ≡ false
named_inside c Never t s h k = absurd k
named_inside c Empty t s h k = absurd k
named_inside c (One test) t s h k = absurd k
named_inside c (Before a b) t s h (inl k) = named_inside c a t s (and_parts _ _ (and_parts _ _ h).1).0 k
named_inside c (Before a b) t s h (inr (x, y, m, k, e)) =
    both_without t x y e (without a x (and_parts _ _ h).0 m)
    (named_inside c b y s (and_parts _ _ (and_parts _ _ h).1).1 k)
named_inside c (Either a b) t s h (inl k) = named_inside c a t s (and_parts _ _ h).0 k
named_inside c (Either a b) t s h (inr k) = named_inside c b t s (and_parts _ _ h).1 k
named_inside c (Many a) t s h (x, y, m, k, e) =
    both_without t x y e (without (Many a) x (and_parts _ _ h).0 m) (named_inside c a y s (and_parts _ _ h).1 k)
named_inside c (Fault code test) t s h (e, passes, same) = cc

-- the code by which a description is guarded is of the symbols against which it is guarded
guarded_named : (c : ℕ) (test : Symbol → Bool) (a : Shape) (t : List Symbol) (s : Symbol) → lacks_code c a ≡ true
    → Names c (guarded c test a) t s → test s ≡ true
guarded_named c test Never t s l h = absurd h
guarded_named c test Empty t s l h = absurd h
guarded_named c test (One other) t s l (inl h) = absurd h
guarded_named c test (One other) t s l (inr (e, passes, same)) = passes
guarded_named c test (Before a b) t s l (inl h) = guarded_named c test a t s (and_parts _ _ l).0 h
guarded_named c test (Before a b) t s l (inr (x, y, m, h, e)) = guarded_named c test b y s (and_parts _ _ l).1 h
guarded_named c test (Either a b) t s l (inl h) = guarded_named c test a t s (and_parts _ _ l).0 h
guarded_named c test (Either a b) t s l (inr h) = guarded_named c test b t s (and_parts _ _ l).1 h
guarded_named c test (Many a) t s l (x, y, m, h, e) = guarded_named c test a y s l h
guarded_named c test (Fault code other) t s l (e, passes, same) = absurd (other_code code c l same)

-- a statement whose word is first, where a code is named after y
in_statement_of : (word w : Symbol) (t x y rest : List Symbol) → w ≡ word → t ≡ x ++ y → x ≡ w ∷ [] → y ≡ rest
    → list_any (is symbol.Semicolon) y ≡ false → IsInStatement word t rest
in_statement_of word w t x y rest is_word e ex same lacking = (
  [],
  inl refl,
  cc,
  cc,
)

-- PROC

in_proc : (t : List Symbol) (s : Symbol) → Names 24 proc t s → IsLeftOut t s
in_proc t s (inl h) = absurd h
in_proc t s (inr (x, y, (p, passed, ex), h, e)) =
    inr (inl (
      guarded_named 24 is_left_out
          ((key symbol.Factex ∣ Fault 1 is_word) ▸ Many (key symbol.Nodes ▸ key symbol.Equals ▸ n)
          ▸ key symbol.Semicolon)
          y s refl h,
      y,
      in_statement_of symbol.Proc p t x y y (symbol_is symbol.Proc p passed) e ex refl
          (named_inside 24 proc_rest y s refl h),
    ))

-- MODEL

behind_minabs : (t : List Symbol) (s : Symbol)
    → Names 24 (maybe (key symbol.Slash ▸ key symbol.Minabs ▸ no_open) ▸ key symbol.Semicolon) t s
    → (t ≡ symbol.Slash ∷ symbol.Minabs ∷ []) × (is symbol.Open s ≡ true)
behind_minabs t s (inl (inl (inl h))) = absurd h
behind_minabs t s (inl (inl (inr (a, b, (sl, tsl, esl), inl h, e1)))) = absurd h
behind_minabs t s (inl (inl (inr (a, b, (sl, tsl, esl), inr (c, d, (mi, tmi, emi), inl h, e2), e1)))) = absurd h
behind_minabs t s (inl (inl (inr (a, b, (sl, tsl, esl), inr (c, d, (mi, tmi, emi), inr (e0, opens, same), e2), e1)))) = (
  cc (symbol_is symbol.Slash sl tsl, symbol_is symbol.Minabs mi tmi),
  opens,
)
behind_minabs t s (inl (inr h)) = absurd h
behind_minabs t s (inr (x, y, m, h, e)) = absurd h

in_model : (t : List Symbol) (s : Symbol) → Names 24 model t s → IsLeftOut t s
in_model t s (inl h) = absurd h
in_model t s (inr (x, y, (p, passed, ex), inl h, e)) = absurd (no_code 24 model_word y s refl h)
in_model t s (inr (x, y, (p, passed, ex), inr (u, v, m, h, ev), e)) =
    let last = behind_minabs v s h in
    inr (inr (
      last.1,
      (
        u,
        inl (in_statement_of symbol.Model p t x y _
            (symbol_is symbol.Model p passed) e ex
            (ev ∙ ap (λ l. u ++ l) last.0)
            (named_inside 24 model_rest y s refl (inr (u, v, m, h, ev)))),
      ),
    ))

-- EXAMINE

behind_section : (t : List Symbol) (s : Symbol) → Names 24 examine_word t s
    → ((t ≡ symbol.Aliasing ∷ []) ⊎ (t ≡ symbol.Aberration ∷ [])) × (is symbol.Open s ≡ true)
behind_section t s (inl (inl h)) = absurd h
behind_section t s (inl (inr (a, b, (w, tw, ew), inl h, e))) = absurd h
behind_section t s (inl (inr (a, b, (w, tw, ew), inr (e0, opens, same), e))) = (
  inl (e ∙ ap (λ l. l ++ b) ew
      ∙ ap₂ (λ z l. z ∷ l) (symbol_is symbol.Aliasing w tw) e0),
  opens,
)
behind_section t s (inr (inr h)) = absurd h
behind_section t s (inr (inl (inl h))) = absurd h
behind_section t s (inr (inl (inr (a, b, (w, tw, ew), inl h, e)))) = absurd h
behind_section t s (inr (inl (inr (a, b, (w, tw, ew), inr (e0, opens, same), e)))) = (
  inr (e ∙ ap (λ l. l ++ b) ew
      ∙ ap₂ (λ z l. z ∷ l) (symbol_is symbol.Aberration w tw) e0),
  opens,
)

in_examine : (t : List Symbol) (s : Symbol) → Names 24 examine t s → IsLeftOut t s
in_examine t s (inl h) = absurd h
in_examine t s (inr (x, y, (p, passed, ex), inr (u, v, m, h, ev), e)) = absurd h
in_examine t s (inr (x, y, (p, passed, ex), inl (u, v, m, h, ev), e)) = of_section (behind_section v s h)
  where
    lacking : list_any (is symbol.Semicolon) y ≡ false
    lacking = named_inside 24 examine_rest y s refl (inl (u, v, m, h, ev))

    of_section : ((v ≡ symbol.Aliasing ∷ []) ⊎ (v ≡ symbol.Aberration ∷ [])) × (is symbol.Open s ≡ true) → IsLeftOut t s
    of_section (inl last, opens) =
        inr (inr (
          opens,
          (
            u,
            inr (inl (in_statement_of symbol.Examine p t x y _
                (symbol_is symbol.Examine p passed) e ex (ev ∙ ap (λ l. u ++ l) last) lacking)),
          ),
        ))
    of_section (inr last, opens) =
        inr (inr (
          opens,
          (
            u,
            inr (inr (in_statement_of symbol.Examine p t x y _
                (symbol_is symbol.Examine p passed) e ex (ev ∙ ap (λ l. u ++ l) last) lacking)),
          ),
        ))

-- any statement, and the program

in_statement : (t : List Symbol) (s : Symbol) → Names 24 statement t s → IsLeftOut t s
in_statement t s (inl h) = absurd h
in_statement t s (inr (inl h)) = absurd (no_code 24 (key symbol.Run ▸ key symbol.Semicolon) t s refl h)
in_statement t s (inr (inr (inl h))) = absurd (no_code 24 factors t s refl h)
in_statement t s (inr (inr (inr (inl h)))) = absurd (no_code 24 size t s refl h)
in_statement t s (inr (inr (inr (inr (inl h))))) = in_model t s h
in_statement t s (inr (inr (inr (inr (inr (inl h)))))) = absurd (no_code 24 blocks t s refl h)
in_statement t s (inr (inr (inr (inr (inr (inr (inl h))))))) = in_examine t s h
in_statement t s (inr (inr (inr (inr (inr (inr (inr (inl h)))))))) = absurd (no_code 24 output t s refl h)
in_statement t s (inr (inr (inr (inr (inr (inr (inr (inr h)))))))) = absurd (no_code 24 foldover t s refl h)

further : (before t rest : List Symbol) (word : Symbol) → IsAtStart before → IsInStatement word t rest
    → IsInStatement word (before ++ t) rest
further before t rest word start (front, begun, e, lacking) = (
  before ++ front,
  joined before front start begun,
  cc (append_assoc before front (word ∷ rest)),
  lacking,
)

after_whole : (before t : List Symbol) (s : Symbol) → IsAtStart before → IsLeftOut t s → IsLeftOut (before ++ t) s
after_whole before t s start (inl (unit, begun)) = inl (unit, joined before t start begun)
after_whole before t s start (inr (inl (left, rest, h))) =
    inr (inl (left, rest, further before t rest symbol.Proc start h))
after_whole before t s start (inr (inr (opens, (rest, inl h)))) =
    inr (inr (opens, (rest, inl (further before t _ symbol.Model start h))))
after_whole before t s start (inr (inr (opens, (rest, inr (inl h))))) =
    inr (inr (opens, (rest, inr (inl (further before t _ symbol.Examine start h)))))
after_whole before t s start (inr (inr (opens, (rest, inr (inr h))))) =
    inr (inr (opens, (rest, inr (inr (further before t _ symbol.Examine start h)))))

in_step : (t : List Symbol) (s : Symbol) → Names 24 whole_step t s → IsLeftOut t s
in_step t s h = elim (from_parts 24 step (maybe (key symbol.Quit ▸ key symbol.Semicolon ▸ between)) t s h) [
  | inl k ↦ elim (from_parts 24 proc (Many statement) t s k) [
    | inl p ↦ in_proc t s p
    | inr p ↦
        rw (p.4 ∙ ap (λ l. p.0 ++ l) p.3.4) (after_whole p.0 _ s (proc_start p.0 p.2)
        (after_whole p.3.0 p.3.1 s (many statement statement_start p.3.0 p.3.2) (in_statement p.3.1 s p.3.3)))
  ]
  | inr k ↦ absurd (no_code 24 (maybe (key symbol.Quit ▸ key symbol.Semicolon ▸ between)) k.1 s refl k.3)
]

not_1 : ◌≡◌ {A = ℕ} 1 24 → ⊥
not_1 e = cc e

at_end : (t : List Symbol) (s : Symbol) → Names 24 (key symbol.End ∣ unknown) t s → IsLeftOut t s
at_end t s (inl h) = absurd h
at_end t s (inr (inl (e, passes, same))) = inl (passes, inl e)
at_end t s (inr (inr (e, passes, same))) = absurd (not_1 same)

after_steps : (t : List Symbol) (s : Symbol) → Names 24 (Many whole_step ▸ (key symbol.End ∣ unknown)) t s
    → IsLeftOut t s
after_steps t s h = elim (from_parts 24 (Many whole_step) (key symbol.End ∣ unknown) t s h) [
  | inl k ↦ subst (λ (l : List Symbol). IsLeftOut l s) (sym k.4)
      (after_whole k.0 k.1 s (many whole_step whole_start k.0 k.2) (in_step k.1 s k.3))
  | inr k ↦ rw k.4 (after_whole k.0 k.1 s (many whole_step whole_start k.0 k.2) (at_end k.1 s k.3))
]

-- the law: where the grammar names 24, the symbol is left out of the language
pub left_out : (t : List Symbol) (s : Symbol) → Names 24 program t s → IsLeftOut t s
left_out t s h = elim (from_parts 24 between (Many whole_step ▸ (key symbol.End ∣ unknown)) t s h) [
  | inl k ↦ absurd (no_code 24 between t s refl k)
  | inr k ↦ rw k.4 (after_whole k.0 k.1 s (between_start k.0 k.2) (after_steps k.1 s k.3))
]

-- no other code is named

abbrev has_two_codes : Shape → Bool
has_two_codes Never = true
has_two_codes Empty = true
has_two_codes (One test) = true
has_two_codes (Before a b) = has_two_codes a && has_two_codes b
has_two_codes (Either a b) = has_two_codes a && has_two_codes b
has_two_codes (Many a) = has_two_codes a
has_two_codes (Fault code test) = (code == 1) || (code == 24)

two_codes : (c : ℕ) (a : Shape) (t : List Symbol) (s : Symbol) → has_two_codes a ≡ true → Names c a t s
    → ((c == 1) || (c == 24)) ≡ true
two_codes c Never t s l h = absurd h
two_codes c Empty t s l h = absurd h
two_codes c (One test) t s l h = absurd h
two_codes c (Before a b) t s l (inl h) = two_codes c a t s (and_parts _ _ l).0 h
two_codes c (Before a b) t s l (inr (x, y, m, h, e)) = two_codes c b y s (and_parts _ _ l).1 h
two_codes c (Either a b) t s l (inl h) = two_codes c a t s (and_parts _ _ l).0 h
two_codes c (Either a b) t s l (inr h) = two_codes c b t s (and_parts _ _ l).1 h
two_codes c (Many a) t s l (x, y, m, h, e) = two_codes c a y s l h
two_codes c (Fault code test) t s l (e, passes, same) = rw same at l

pub one_of_two : (c : ℕ) (t : List Symbol) (s : Symbol) → Names c program t s → (c ≡ 1) ⊎ (c ≡ 24)
one_of_two c t s h = elim (or_cases _ _ (two_codes c program t s refl h)) [
  | inl one ↦ inl (eqb-true c 1 one)
  | inr other ↦ inr (eqb-true c 24 other)
]
