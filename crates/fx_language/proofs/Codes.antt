-- The code of a symbol that the grammar refuses.
use Rattle.std.proofs.Common.{◌≡◌, ℕ, suc, ◌+◌, Bool, true, false, ◌&&◌, List, [], ◌∷◌, ◌++◌, take, get_or, Option}
use Rattle.std.proofs.Common.{Some, None, refl, sym, ap, subst, ◌∙◌, inl, inr, arith}
use Rattle.std.specs.Prelude.{is_some, unwrap_or, if◌then◌else◌}
use Rattle.std.specs.List.{Any}
use Rattle.std.proofs.lemmas.Bool.{and_parts}
use Rattle.std.proofs.lemmas.List.Folds.{Any-from_list_any, list_any-from_Any}
use Rattle.std.proofs.lemmas.Option.{same_Some}
use Rattle.fx_language.specs.declared.symbol.Symbol.{Symbol}
use Rattle.fx_language.specs.declared.symbol.Symbol.TheVariants.{End}
use Rattle.fx_language.specs.Symbols.{is_word}
use Rattle.fx_language.specs.Shapes.{Shape, Begins, derivative, fault_code}
use Rattle.fx_language.specs.Grammar.{program}
use Rattle.fx_language.specs.Refusals.{allows, allows_option, options, code_of, refused}
use Rattle.fx_language.specs.Laws.{AllowsOption, IsGeneralCode, HasItsCode, ended}
use Rattle.fx_language.proofs.Named.{named_here, here_named, named_later, later_named}
use Rattle.fx_language.proofs.Prefixes.{begins_more, begins_less, no_text}
use Rattle.fx_language.proofs.Solid.{is_solid, after_fine, not_never, inhabited}

some_any : (P Q : Symbol → Type 0) (l : List Symbol) → ((s : Symbol) → P s → Q s) → Any P l → Any Q l
some_any P Q l f (k, s, inside, at, p) = (k, s, inside, at, f s p)

-- an option is allowed where a text goes on with it
module _ (a : Shape) (solid : is_solid a ≡ true) where
  goes_on : (s : Symbol) → allows a s ≡ true → Begins a (s ∷ [])
  goes_on s h = elim (after_fine s a solid) [
    | inl never ↦ absurd (let f : false ≡ true = cc in cc)
    | inr left ↦ begins_more a s [] (inhabited _ left)
  ]

  is_allowed : (s : Symbol) → Begins a (s ∷ []) → allows a s ≡ true
  is_allowed s h = elim (after_fine s a solid) [
    | inl never ↦ absurd (no_text _ [] never (begins_less a s [] h))
    | inr left ↦ cc (not_never _ left)
  ]

  general : (s : Symbol) → IsGeneralCode a [] s (if is_word s && allows_option a then 3 else 2)
  general s = by_test _ refl
    where
      by_test : (b : Bool) → (is_word s && allows_option a) ≡ b → IsGeneralCode a [] s (if b then 3 else 2)
      by_test true e =
          let p = and_parts _ _ e in
          inl (
            refl,
            p.0,
            some_any (λ o. allows a o ≡ true) (λ o. Begins a (o ∷ [])) options goes_on
                (Any-from_list_any _ options p.1),
          )
      by_test false e =
          inr (
            refl,
            λ word option. both_ways
                (word_and word
                (list_any-from_Any _ options
                (some_any _ (λ o. allows a o ≡ true) options is_allowed option))) e,
          )
        where
          word_and : is_word s ≡ true → allows_option a ≡ true → (is_word s && allows_option a) ≡ true
          word_and w o = cc

          both_ways : {b : Bool} → b ≡ true → b ≡ false → ⊥
          both_ways t f = cc (sym t ∙ f)

  first_code : (s : Symbol) → HasItsCode a [] s (code_of a s)
  first_code s = by_named _ refl
    where
      by_named : (c : Option ℕ) → fault_code s a ≡ c
          → HasItsCode a [] s (unwrap_or c (if is_word s && allows_option a then 3 else 2))
      by_named (Some code) e = inl (named_here code s a e)
      by_named None e = inr (λ c n. not_some (here_named c s a n) e, general s)
        where
          not_some : is_some (fault_code s a) ≡ true → fault_code s a ≡ None → ⊥
          not_some h e = cc (sym h ∙ ap is_some e)

-- and after one more symbol
lifted : (a : Shape) (x : Symbol) (t : List Symbol) (s : Symbol) (code : ℕ) → HasItsCode (derivative x a) t s code
    → HasItsCode a (x ∷ t) s code
lifted a x t s code (inl n) = inl (named_later code x a t s n)
lifted a x t s code (inr (none, other)) = inr (λ c n. none c (later_named c x a t s n), more other)
  where
    more_option : AllowsOption (derivative x a) t → AllowsOption a (x ∷ t)
    more_option h =
        some_any _ (λ o. Begins a (x ∷ t ++ o ∷ [])) options
        (λ o b. begins_more a x _ b) h

    less_option : AllowsOption a (x ∷ t) → AllowsOption (derivative x a) t
    less_option h =
        some_any _ (λ o. Begins (derivative x a) (t ++ o ∷ [])) options
        (λ o b. begins_less a x _ b) h

    more : IsGeneralCode (derivative x a) t s code → IsGeneralCode a (x ∷ t) s code
    more (inl (three, word, option)) = inl (three, word, more_option option)
    more (inr (two, never)) = inr (two, λ word option. never word (less_option option))

-- what is refused at i has its code
record IsCoded (a : Shape) (symbols : List Symbol) (k code i : ℕ) : Type 0 where
  j : ℕ
  at : i ≡ k + j
  its_code : HasItsCode a (take j symbols) (get_or (ended symbols) j End) code

coded_now : (a : Shape) (s : Symbol) (rest : List Symbol) (symbols : List Symbol) (k code i : ℕ)
    → ended symbols ≡ s ∷ rest → is_solid a ≡ true
    → ◌≡◌ {A = Option (ℕ × ℕ)} (Some (code_of a s, k)) (Some (code, i)) → IsCoded a symbols k code i
coded_now a s rest symbols k code i first solid e =
    let same = same_Some (code_of a s, k) (code, i) e in
    record {
      j = 0;
      at = omega (arith, ap (λ x. x.1) same);
      its_code = rw (ap (λ x. x.0) same) at (subst (λ l. HasItsCode a [] (get_or l 0 End) (code_of a s)) (sym first)
          (first_code a solid s));
    }

coded_later : (a : Shape) (s : Symbol) (rest : List Symbol) (k code i : ℕ)
    → IsCoded (derivative s a) rest (suc k) code i
    → IsCoded a (s ∷ rest) k code i
coded_later a s rest k code i c = record {
  j = suc c.j;
  at = omega arith;
  its_code = lifted a s _ _ code c.its_code;
}

coded : (a : Shape) (symbols : List Symbol) (k code i : ℕ) → is_solid a ≡ true → refused k a symbols ≡ Some (code, i)
    → IsCoded a symbols k code i
unfolding refused
coded a [] k code i h e =
    elim (after_fine End a h) [
      | inl never ↦ coded_now a End [] [] k code i refl h (rw never at e)
      | inr solid ↦ absurd (let f = rw (not_never _ solid) at e in cc)
    ]
coded a (s ∷ rest) k code i h e =
    elim (after_fine s a h) [
      | inl never ↦ coded_now a s (ended rest) _ k code i refl h (rw never at e)
      | inr solid ↦
          coded_later a s rest k code i
          (coded (derivative s a) rest (suc k) code i solid (rw (not_never _ solid) at e))
    ]

-- the law for programs
pub refused_by_its_code : (symbols : List Symbol) (code i : ℕ) → refused 0 program symbols ≡ Some (code, i)
    → HasItsCode program (take i symbols) (get_or (ended symbols) i End) code
refused_by_its_code symbols code i e =
    let c = coded program symbols 0 code i refl e in
    let same : c.j ≡ i = omega arith in
    rw same at c.its_code
