-- The effects of a MODEL statement are refused by a rule, at the place of one of its words or numbers.
use Rattle.std.proofs.Common.{ℕ, Bool, false, not, List, [], ◌∷◌, ◌++◌, length, take, drop, Option, Some, None, refl}
use Rattle.std.specs.Prelude.{nat_le, count_ones, IfSome, slice_get, ◌==◌}
use Rattle.std.specs.List.{list_any}
use Rattle.fx_language.specs.declared.symbol.Symbol.TheVariants as symbol
use Rattle.fx_language.specs.Symbols.{is, is_word}
use Rattle.fx_vectors.specs.Effects.{pair_count}
use Rattle.fx_text.specs.Written.{Written}
use Rattle.fx_text.specs.Names.{place_of}
use Rattle.fx_text.specs.Phrases.{after, preceding}
use Rattle.fx_text.specs.Ranges.{is_range, names_between}
use Rattle.fx_effects.specs.Factors.{main_of, mains_from}
use Rattle.fx_effects.specs.Expressions.{Expression, Reading, stars_of, read, all_read, stars_len, at_most, upto_of}
use Rattle.fx_effects.specs.Expressions.{bars_at, range_at, by_last, expression_at, is_joining, begins_effect}
use Rattle.fx_effects.specs.Expressions.{effect_len, expressions_from, expressions_of}
use Rattle.fx_effects.specs.Lists.{effects_of, few_effects}
use Rattle.fx_effects.specs.Models.{without, told_apart, check_some_effects, first_or, lists_at, by_word, lists_of}
use Rattle.fx_text.proofs.Placed as placed
use Rattle.fx_text.proofs.Placed.{IsPlaced, ArePlaced, Placed}

module _ (P : ℕ → ℕ → Type 0) where
  known : (w : Written) (place : Option ℕ) → IsPlaced P w → Placed P (main_of w place)
  known w None h = placed.written P 4 w refl h
  known w (Some i) h = tt

  mains : (w : Written) (factors : List (List ℕ)) (found : List ℕ) (names : List (List ℕ)) → IsPlaced P w
      → Placed P (mains_from w factors found names)
  mains w factors found [] h = tt
  mains w factors found (name ∷ names) h =
      placed.chain P (main_of w (place_of name factors)) (λ e. mains_from w factors (found ++ e ∷ []) names)
      (known w (place_of name factors) h)
      (λ e. mains w factors (found ++ e ∷ []) names h)

  one_read : (factors : List (List ℕ)) (r : Reading) (w : Written) → IsPlaced P w → Placed P (read factors r w)
  one_read factors r w h =
      placed.both P (is symbol.Bar w.symbol) _ _ tt
      (placed.both P (is_word w.symbol) _ _
      (placed.chain P (main_of w (place_of w.text factors)) _ (known w (place_of w.text factors) h) (λ e. tt)) tt)

  each_read : (factors : List (List ℕ)) (r : Reading) (s : List Written) → ArePlaced P s
      → Placed P (all_read factors r s)
  each_read factors r [] h = tt
  each_read factors r (w ∷ rest) h =
      placed.chain P (read factors r w) (λ next. all_read factors next rest) (one_read factors r w h.0)
      (λ next. each_read factors next rest h.1)

  upto : (stars : List ℕ) (w : Option Written) → IfSome w (IsPlaced P) → Placed P (upto_of stars w)
  upto stars None h = tt
  upto stars (Some w) h = of_number _
    where
      of_number : (n : Option ℕ) → Placed P (at_most stars w n)
      of_number None = placed.written P 29 w refl h
      of_number (Some n) =
          placed.both P (list_any (λ e. nat_le (count_ones e) n) stars) _ _ tt (placed.written P 29 w refl h)

  bars : (factors : List (List ℕ)) (first : Written) (rest : List Written) → IsPlaced P first → ArePlaced P rest
      → Placed P (bars_at factors first rest)
  bars factors first rest f h =
      placed.chain P (all_read factors (record { stars = []; star = 0 }) (first ∷ take (stars_len rest) rest)) _
      (each_read factors (record { stars = []; star = 0 }) (first ∷ take (stars_len rest) rest)
      (f, placed.taken P (stars_len rest) rest h)) (λ r.
      placed.chain P (upto_of (stars_of r) (slice_get (drop (stars_len rest) rest) 1)) _
      (upto (stars_of r) (slice_get (drop (stars_len rest) rest) 1)
      (placed.at P 1 _ (placed.dropped P (stars_len rest) rest h))) (λ u. tt))

  range : (factors : List (List ℕ)) (first last : Written) → IsPlaced P first → Placed P (range_at factors first last)
  range factors first last h =
      placed.both P (not (is_range first.text last.text)) _ _ (placed.written P 30 first refl h)
      (placed.chain P (mains_from first factors [] (names_between first.text last.text)) _
      (mains first factors [] (names_between first.text last.text) h) (λ e. tt))

  one : (factors : List (List ℕ)) (first : Written) (rest : List Written) → IsPlaced P first → ArePlaced P rest
      → Placed P (expression_at factors first rest)
  one factors first rest f h = of_last _
    where
      of_last : (last : Option Written) → Placed P (by_last factors first rest last)
      of_last None = bars factors first rest f h
      of_last (Some last) = range factors first last f

  all : (factors : List (List ℕ)) (found : List Expression) (joined : Bool) (s : List Written) → ArePlaced P s
      → Placed P (expressions_from factors found joined s)
  all factors found joined [] h = tt
  all factors found joined (w ∷ rest) h =
      placed.both P (begins_effect joined w) _ _
      (placed.chain P (expression_at factors w (take (effect_len false rest) rest))
      (λ e. expressions_from factors (found ++ e ∷ []) (is_joining w.symbol) rest)
      (one factors w _ h.0 (placed.taken P (effect_len false rest) rest h.1))
      (λ e. all factors (found ++ e ∷ []) (is_joining w.symbol) rest h.1))
      (all factors found (is_joining w.symbol) rest h.1)

  few : (w : Written) (effects : List ℕ) → IsPlaced P w → Placed P (few_effects w effects)
  few w effects h = placed.both P (nat_le (length effects) 100000) _ _ tt (placed.written P 23 w refl h)

  apart : (q : ℕ) (w : Written) (estimate others : List ℕ) → IsPlaced P w → Placed P (told_apart q w estimate others)
  apart q w estimate others h =
      placed.both P (nat_le (pair_count q estimate (without estimate others)) 2000000) _ _ tt
      (placed.written P 22 w refl h)

  some : (w : Written) (effects : List ℕ) → IsPlaced P w → Placed P (check_some_effects w effects)
  some w effects h = placed.both P (length effects == 0) _ _ (placed.written P 2 w refl h) tt

  two : (q : ℕ) (factors : List (List ℕ)) (w : Written) (s : List Written) (v : Written) (t : List Written)
      → IsPlaced P w → ArePlaced P s → IsPlaced P v → ArePlaced P t
      → Placed P (lists_at q factors w s v t)
  two q factors w s v t at_w in_s at_v in_t =
      placed.chain P (expressions_of factors s) _ (all factors [] false s in_s) (λ estimate.
      placed.chain P (expressions_of factors t) _ (all factors [] false t in_t) (λ others.
      placed.chain P (few_effects w (effects_of estimate)) _ (few w (effects_of estimate) at_w) (λ first.
      placed.chain P (few_effects v (effects_of others)) _ (few v (effects_of others) at_v) (λ second.
      placed.chain P (check_some_effects w first) _ (some w first at_w) (λ any. apart q w first second at_w)))))

  or_first : (w : Written) (s : List Written) → IsPlaced P w → ArePlaced P s → IsPlaced P (first_or w s)
  or_first w [] h k = h
  or_first w (v ∷ s) h k = k.0

  pub lists : (q : ℕ) (factors : List (List ℕ)) (s : List Written) → P 1 1 → ArePlaced P s
      → Placed P (lists_of q factors s)
  lists q factors s front h = of_word _ (placed.at P 1 s h)
    where
      list : List Written
      list = drop 4 s

      rest : List Written
      rest = after symbol.Close list

      in_list : ArePlaced P list
      in_list = placed.dropped P 4 s h

      in_rest : ArePlaced P rest
      in_rest = placed.after_it P symbol.Close list in_list

      of_word : (w : Option Written) → IfSome w (IsPlaced P) → Placed P (by_word q factors w (drop 4 s))
      of_word None k = placed.here P 2 (record { line = 1; column = 1 }) refl front
      of_word (Some w) k =
          two q factors w (preceding symbol.Close list) (first_or w rest)
          _ k
          (placed.before_it P symbol.Close list in_list)
          (or_first w rest k in_rest)
          (placed.before_it P symbol.Close (drop 3 rest) (placed.dropped P 3 rest in_rest))
