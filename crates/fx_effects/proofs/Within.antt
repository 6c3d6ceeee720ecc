-- The effects of a statement are effects of the factors of its step.
use Rattle.std.proofs.Common.{◌≡◌, ◌<◌, ◌≤◌, ◌^◌, ℕ, Bool, true, false, List, [], ◌∷◌, ◌++◌, take, drop}
use Rattle.std.proofs.Common.{length, Option, Some, None, Result, Ok, Err, refl, sym, subst, ◌∙◌, arith, inl, inr}
use Rattle.std.specs.Prelude.{◌==◌, bit_or, nat_le, if◌then◌else◌, slice_get}
use Rattle.std.specs.List.{AllByRecursion}
use Rattle.std.specs.Result.{IfOk}
use Rattle.std.proofs.lemmas.Bool.{cases_eq, eq-eqb, ne_eqb, cases_Bool, leb-true}
use Rattle.std.proofs.lemmas.List.Elements.{All-from_recursion}
use Rattle.std.proofs.lemmas.List.Quantifiers.{position-Some}
use Rattle.std.proofs.lemmas.Nat.{le_or_l, or_lt, pow_pos}
use Rattle.std.proofs.Math.Nat.{pow-le-pow_right}
use Rattle.std.proofs.Math.Pow.{pow-lt}
use Rattle.fx_base.proofs.Lists.{each-append, each-map, each-weaker}
use Rattle.fx_base.proofs.Members.{has-unfilter, each-has, has-each}
use Rattle.fx_language.specs.declared.symbol.Symbol.TheVariants.{Close}
use Rattle.fx_language.specs.Symbols.{is}
use Rattle.fx_text.specs.declared.refusal.ParseStop.{ParseStop}
use Rattle.fx_text.specs.Written.{Written}
use Rattle.fx_text.specs.Names.{place_of}
use Rattle.fx_text.specs.Refusals.{refusal_at}
use Rattle.fx_text.proofs.Chains.{bind_ok, same_ok, if_ok, unless_ok}
use Rattle.fx_text.specs.Phrases.{after, preceding}
use Rattle.fx_text.specs.Ranges.{names_between}
use Rattle.fx_vectors.specs.Effects.{pair_count}
use Rattle.fx_vectors.specs.Question.{CanBeTold}
use Rattle.fx_vectors.specs.declared.shape.TheConstants.{MOST_FACTORS}
use Rattle.fx_demands.specs.Bars.{AreNumbers, AreOrdered, bars_of, in_order, unions}
use Rattle.fx_demands.proofs.Ordered.{in_order-only, in_order-ordered}
use Rattle.fx_effects.specs.Factors.{main_of, mains_from}
use Rattle.fx_effects.specs.Expressions.{Expression, Reading, stars_of, with_name, read, all_read, stars_len, upto_of}
use Rattle.fx_effects.specs.Expressions.{expression, bars_at, range_at, by_last, expression_at, begins_effect}
use Rattle.fx_effects.specs.Expressions.{effect_len, is_joining, expressions_from}
use Rattle.fx_effects.specs.Lists.{effects_of, effects_written, few_effects}
use Rattle.fx_effects.specs.Models.{EffectLists, AreApart, by_word, first_or, lists_at, lists_after, lists_of}
use Rattle.fx_effects.specs.Models.{check_some_effects, without}
use Rattle.fx_effects.proofs.Apart.{are_apart}

-- effects of s factors
module _ (s : ℕ) where
  abbrev IsOf : ℕ → Type 0
  IsOf e = (0 < e) × (e < 2 ^ s)

  abbrev AreOf : List ℕ → Type 0
  AreOf effects = AllByRecursion IsOf effects

  unions-of : (stars : List ℕ) → AreOf stars → AreOf (unions stars)
  unions-of [] h = tt
  unions-of (star ∷ stars) h =
      let rest = unions-of stars h.1 in (
        h.0,
        each-append IsOf _ _
            (each-map IsOf _ _
            (each-weaker IsOf (λ u. IsOf (bit_or star u)) _
            (λ u k. (omega (arith, le_or_l star u), or_lt s star u h.0.1 k.1)) rest))
            rest,
      )

  bars-of : (stars : List ℕ) (upto : ℕ) → AreOf stars → AreOf (bars_of stars upto)
  unfolding bars_of
  bars-of stars upto h =
      each-has IsOf _ (λ u there.
      has-each IsOf u _ (unions-of stars h)
      (has-unfilter _ u _
      (in_order-only u _ there)).0)

  -- the stars that are read, and the factors of the next one
  record ReadingOf (r : Reading) : Type 0 where
    stars : AreOf r.stars
    star : r.star < 2 ^ s

  stars-of : (r : Reading) → ReadingOf r → AreOf (stars_of r)
  stars-of r h =
      elim (cases_eq r.star 0) [
        | inl none ↦ rw (eq-eqb r.star 0 none) h.stars
        | inr some ↦
            rw (ne_eqb r.star 0 some)
            (each-append IsOf r.stars _ h.stars ((omega arith, h.star), tt))
      ]

  abbrev AreAllOf : List Expression → Type 0
  AreAllOf all = AllByRecursion (λ (e : Expression). AreOf e.stars) all

  written-of : (all : List Expression) → AreAllOf all → AreOf (effects_written all)
  written-of [] h = tt
  written-of (e ∷ all) h =
      each-append IsOf _ _ (bars-of e.stars e.upto h.0) (written-of all h.1)

  set-of : (all : List Expression) → AreAllOf all → AreOf (effects_of all)
  set-of all h =
      each-has IsOf _
      (λ u there. has-each IsOf u _ (written-of all h)
      (in_order-only u _ there))

  without-of : (others effects : List ℕ) → AreOf effects → AreOf (without others effects)
  without-of others effects h =
      each-has IsOf _ (λ u there. has-each IsOf u effects h (has-unfilter _ u effects there).0)

module _ (factors : List (List ℕ)) where
  abbrev s : ℕ
  s = length factors

  main-of : (w : Written) (name : List ℕ) (e : ℕ) → main_of w (place_of name factors) ≡ Ok e → IsOf s e
  main-of w name e is = go _ refl is
    where
      go : (found : Option ℕ) → place_of name factors ≡ found → main_of w found ≡ Ok e → IsOf s e
      go None at is = cc is
      go (Some i) at is =
          subst (IsOf s) (same_ok _ e is)
          (pow_pos i, pow-lt (position-Some _ factors i [] at).0)

  mains-of : (w : Written) (mains : List ℕ) (names : List (List ℕ)) (all : List ℕ) → AreOf s mains
      → mains_from w factors mains names ≡ Ok all → AreOf s all
  mains-of w mains [] all h is = subst (AreOf s) (same_ok mains all is) h
  mains-of w mains (name ∷ names) all h is =
      let b = bind_ok _ _ all is in
      mains-of w (mains ++ b.0 ∷ []) names all (each-append _ mains _ h (main-of w name b.0 b.1, tt))
      b.2

  read-of : (r : Reading) (w : Written) (next : Reading) → ReadingOf s r → read factors r w ≡ Ok next → ReadingOf s next
  read-of r w next h e = go _ _ e
    where
      go : (bar word : Bool)
          → (if bar then Ok (record { stars = stars_of r; star = 0 })
          else (if word then with_name factors r w else Ok r)) ≡ Ok next → ReadingOf s next
      go true word e =
          subst (ReadingOf s) (same_ok _ next e)
          (record { stars = stars-of s r h; star = pow_pos s })
      go false true e =
          let b = bind_ok _ _ next e in
          subst (ReadingOf s) (same_ok _ next b.2)
          (record { stars = h.stars; star = or_lt s r.star b.0 h.star (main-of w w.text b.0 b.1).1 })
      go false false e = subst (ReadingOf s) (same_ok r next e) h

  all_read-of : (written : List Written) (r all : Reading) → ReadingOf s r → all_read factors r written ≡ Ok all
      → ReadingOf s all
  all_read-of [] r all h is = subst (ReadingOf s) (same_ok r all is) h
  all_read-of (w ∷ rest) r all h is =
      let b = bind_ok _ _ all is in
      all_read-of rest b.0 all (read-of r w b.0 h b.1) b.2

  bars_at-of : (first : Written) (rest : List Written) (e : Expression) → bars_at factors first rest ≡ Ok e
      → AreOf s e.stars
  bars_at-of first rest e is =
      let none : Reading = record { stars = []; star = 0 } in
      let r = bind_ok (all_read factors none (first ∷ take (stars_len rest) rest)) _ e is in
      let upto = bind_ok (upto_of (stars_of r.0) (slice_get (drop (stars_len rest) rest) 1)) _ e r.2 in
      let of = all_read-of (first ∷ take (stars_len rest) rest) none r.0 (record { stars = tt; star = pow_pos s }) r.1
      in
      subst (λ e. AreOf s e.stars) (same_ok (expression (stars_of r.0) upto.0) e upto.2)
      (stars-of s r.0 of)

  range_at-of : (first last : Written) (e : Expression) → range_at factors first last ≡ Ok e → AreOf s e.stars
  range_at-of first last e is =
      let mains =
      bind_ok (mains_from first factors [] (names_between first.text last.text)) (λ mains. Ok (expression mains 1))
      e
      (unless_ok _ _ e _ is).1 in
      rw (← (same_ok (expression mains.0 1) e mains.2))
      (mains-of first [] (names_between first.text last.text) mains.0 tt mains.1)

  expression-of : (first : Written) (rest : List Written) (e : Expression) → expression_at factors first rest ≡ Ok e
      → AreOf s e.stars
  expression-of first rest e is = go _ is
    where
      go : (last : Option Written) → by_last factors first rest last ≡ Ok e → AreOf s e.stars
      go None is = bars_at-of first rest e is
      go (Some last) is = range_at-of first last e is

  expressions-of : (written : List Written) (all : List Expression) (joined : Bool) (every : List Expression)
      → AreAllOf s all → expressions_from factors all joined written ≡ Ok every → AreAllOf s every
  expressions-of [] all joined every h is = subst (AreAllOf s) (same_ok all every is) h
  expressions-of (w ∷ rest) all joined every h is =
      elim (cases_Bool (begins_effect joined w)) [
        | inl begins ↦
            let e = bind_ok _
            (λ e. expressions_from factors (all ++ e ∷ []) (is_joining w.symbol) rest) every (rw begins at is) in
            expressions-of rest (all ++ e.0 ∷ []) (is_joining w.symbol) every
            (each-append _ all _ h
            (expression-of w (take (effect_len false rest) rest) e.0 e.1, tt)) e.2
        | inr joins ↦ expressions-of rest all (is_joining w.symbol) every h (rw joins at is)
      ]

  record AreListsOf (lists : EffectLists) : Type 0 where
    some : 0 < length lists.estimate
    estimate : AreOf s lists.estimate
    nonnegligible : AreOf s lists.nonnegligible

  lists_at-of : (q : ℕ) (word : Written) (written : List Written) (other_word : Written) (other_written : List Written)
      (lists : EffectLists)
      → lists_at q factors word written other_word other_written ≡ Ok lists → AreListsOf lists
  lists_at-of q word written other_word other_written lists is =
      let estimate = bind_ok _ _ lists is in
      let others = bind_ok _ _ lists estimate.2 in
      let first = bind_ok (few_effects word (effects_of estimate.0)) _ lists others.2 in
      let second = bind_ok (few_effects other_word (effects_of others.0)) _ lists first.2 in
      let some = bind_ok (check_some_effects word first.0) _ lists second.2 in
      let told =
      if_ok (nat_le (pair_count q first.0 (without first.0 second.0)) 2000000)
      _ lists (refusal_at 22 word) some.2
      in
      let first_is =
      (if_ok (nat_le (length (effects_of estimate.0)) 100000) _ first.0 (refusal_at 23 word)
      first.1).1 in
      let second_is =
      (if_ok (nat_le (length (effects_of others.0)) 100000) _ second.0
      (refusal_at 23 other_word) second.1).1 in
      let first_of =
      subst (AreOf s) first_is (set-of s estimate.0 (expressions-of written [] false estimate.0 tt estimate.1)) in
      let second_of =
      subst (AreOf s) second_is (set-of s others.0 (expressions-of other_written [] false others.0 tt others.1)) in
      subst AreListsOf told.1 (record {
        some = positive _ (unless_ok _ (Ok tt) some.0 (refusal_at 2 word) some.1).0;
        estimate = first_of;
        nonnegligible = without-of s first.0 second.0 second_of;
      })
    where
      positive : (n : ℕ) → (n == 0) ≡ false → 0 < n
      positive n h =
          elim (cases_eq n 0)
          [ inl e ↦ absurd (cc (sym (eq-eqb n 0 e) ∙ h)) | inr some ↦ omega arith ]

  -- numbers of 64 bits, where there are no more factors than there may be
  small : s ≤ MOST_FACTORS → (effects : List ℕ) → AreOf s effects → AreNumbers effects
  small few effects of =
      each-weaker _ (λ e. e < 2 ^ 64) effects
      (λ e own. let top : 2 ^ s ≤ 2 ^ MOST_FACTORS = pow-le-pow_right (omega arith) few in omega (arith, own.1, top)) of

  lists_at-apart : s ≤ MOST_FACTORS
      → (q : ℕ) (word : Written) (written : List Written) (other_word : Written) (other_written : List Written)
      (lists : EffectLists)
      → lists_at q factors word written other_word other_written ≡ Ok lists → AreApart q lists
  lists_at-apart few q word written other_word other_written lists is =
      let estimate = bind_ok _ _ lists is in
      let others = bind_ok _ _ lists estimate.2 in
      let first = bind_ok _ _ lists others.2 in
      let second = bind_ok _ _ lists first.2 in
      let some = bind_ok (check_some_effects word first.0) _ lists second.2 in
      let told =
      if_ok _
      _ lists (refusal_at 22 word) some.2
      in
      let first_is =
      if_ok _ _ first.0 _
      first.1 in
      let second_is =
      if_ok _ _ second.0 _
      second.1 in
      let mine =
      in_order-ordered _
      (small few _
      (written-of s estimate.0 (expressions-of written [] false estimate.0 tt estimate.1))) in
      let theirs =
      in_order-ordered _
      (small few _
      (written-of s others.0 (expressions-of other_written [] false others.0 tt others.1))) in
      subst (AreApart q) told.1
      (are_apart q first.0 second.0 (without first.0 second.0) (subst AreOrdered first_is.1 mine)
      (subst AreOrdered second_is.1 theirs) refl (leb-true _ 2000000 told.0)
      (subst (λ l. length l ≤ 100000) first_is.1 (leb-true _ 100000 first_is.0))
      (subst (λ l. length l ≤ 100000) second_is.1 (leb-true _ 100000 second_is.0)))

  can_be_told : (q : ℕ) (lists : EffectLists) → AreListsOf lists → AreApart q lists
      → CanBeTold q s lists.estimate lists.nonnegligible
  can_be_told q lists of apart = record {
    some = of.some;
    estimated = record { each = All-from_recursion _ lists.estimate of.estimate; in_order = apart.estimate };
    others = record
        { each = All-from_recursion _ lists.nonnegligible of.nonnegligible; in_order = apart.nonnegligible };
    apart = apart.apart;
    pairs = apart.pairs;
  }

  pub all_told : (q : ℕ) (word : Written) (written : List Written) (r : Result EffectLists ParseStop)
      → IfOk r (λ lists. lists_after q factors word written ≡ Ok lists) → IfOk r (AreApart q)
      → IfOk r (λ lists. CanBeTold q (length factors) lists.estimate lists.nonnegligible)
  all_told q word written (Ok lists) is apart =
      let rest = after Close written in
      can_be_told q lists
      (lists_at-of q word (preceding Close written) (first_or word rest) (preceding Close (drop 3 rest)) lists is)
      apart
  all_told q word written (Err stop) is apart = tt

  -- the effects of a statement may be asked for, and are few
  pub lists_told : s ≤ MOST_FACTORS → (q : ℕ) (statement : List Written) (lists : EffectLists)
      → lists_of q factors statement ≡ Ok lists
      → CanBeTold q s lists.estimate lists.nonnegligible × (length lists.estimate ≤ 100000)
      × (length lists.nonnegligible ≤ 100000)
  lists_told few q statement lists is = go (slice_get statement 1) is
    where
      go : (word : Option Written) → by_word q factors word (drop 4 statement) ≡ Ok lists
          → CanBeTold q s lists.estimate lists.nonnegligible × (length lists.estimate ≤ 100000)
          × (length lists.nonnegligible ≤ 100000)
      go None is = cc is
      go (Some word) is =
          let written = drop 4 statement in
          let rest = after Close written in
          let of = lists_at-of q word (preceding Close written) (first_or word rest) (preceding Close (drop 3 rest))
          lists
          is in
          let apart =
          lists_at-apart few q word (preceding Close written) (first_or word rest) (preceding Close (drop 3 rest))
          lists is in
          (can_be_told q lists of apart, apart.few_estimate, apart.few_nonnegligible)
