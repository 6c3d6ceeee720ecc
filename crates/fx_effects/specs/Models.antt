-- What a MODEL statement with ESTIMATE asks for.
use Rattle.std.specs.Prelude.{ℕ, ◌≤◌, ◌==◌, IsTrue, nat_le, not, List, [], ◌∷◌, length, filter, Option, Some, None}
use Rattle.std.specs.Prelude.{Result, Ok, Err, drop, slice_get, if◌then◌else◌}
use Rattle.std.specs.List.{list_all, list_any}
use Rattle.fx_language.specs.declared.code.TheConstants.{TOO_MANY_DEMANDS, UNEXPECTED_SYMBOL}
use Rattle.fx_language.specs.declared.symbol.Symbol.TheVariants.{Close}
use Rattle.fx_text.specs.declared.refusal.Refusal.{Refusal}
use Rattle.fx_text.specs.Phrases.{after, preceding}
use Rattle.fx_text.specs.Written.{Written}
use Rattle.fx_text.specs.Refusals.{refusal_at, refused_at, ◌>>=◌}
use Rattle.fx_vectors.specs.Effects.{are_in_order, pair_count}
use Rattle.fx_demands.specs.declared.unions.TheConstants.{MOST_EFFECTS}
use Rattle.fx_effects.specs.Expressions.{expressions_of}
use Rattle.fx_effects.specs.Lists.{effects_of, few_effects}

-- the effects to be estimated, and those that may not be negligible, in effect order
pub record EffectLists : Type 0 where
  pub estimate : List ℕ
  pub nonnegligible : List ℕ

-- lists in effect order of at most 100,000 effects each, with no effect in both and at most 2,000,000 pairs
pub record AreApart (q : ℕ) (lists : EffectLists) : Type 0 where
  pub estimate : IsTrue (are_in_order lists.estimate)
  pub nonnegligible : IsTrue (are_in_order lists.nonnegligible)
  pub apart : IsTrue (list_all (λ e. not (list_any (λ n. n == e) lists.estimate)) lists.nonnegligible)
  pub pairs : pair_count q lists.estimate lists.nonnegligible ≤ 2000000
  pub few_estimate : length lists.estimate ≤ MOST_EFFECTS
  pub few_nonnegligible : length lists.nonnegligible ≤ MOST_EFFECTS

-- the effects without those of another list
abbrev pub without : List ℕ → List ℕ → List ℕ
without others effects = filter (λ e. not (list_any (λ f. f == e) others)) effects

-- effects that can be distinguished, where those to be estimated are no others, or E22 at the word ESTIMATE
abbrev pub told_apart : ℕ → Written → List ℕ → List ℕ → Result EffectLists Refusal
told_apart q word estimate others =
    if nat_le (pair_count q estimate (without estimate others)) 2000000
    then Ok (record { estimate = estimate; nonnegligible = without estimate others })
    else Err (refusal_at TOO_MANY_DEMANDS word)

-- There are effects in a list, or E2 at its word. The grammar lets no list be empty, so no text that it accepts is
-- refused here.
abbrev pub check_some_effects : Written → List ℕ → Result (Unit {0}) Refusal
check_some_effects word effects = if length effects == 0 then Err (refusal_at UNEXPECTED_SYMBOL word) else Ok tt

-- the first of some, or another where there is none
abbrev pub first_or : Written → List Written → Written
first_or other [] = other
first_or other (w ∷ rest) = w

-- Two lists, each after its word. Where the second word is missing, its list has no effects.
abbrev pub lists_at : ℕ → List (List ℕ) → Written → List Written → Written → List Written → Result EffectLists Refusal
lists_at q factors word written other_word other_written =
    expressions_of factors written >>= (λ estimate.
    expressions_of factors other_written >>= (λ others.
    few_effects word (effects_of estimate) >>= (λ first.
    few_effects other_word (effects_of others) >>= (λ second.
    check_some_effects word first >>= (λ some.
    told_apart q word first second)))))

-- what follows `MODEL ESTIMATE = (`, at the word ESTIMATE: a list, and after its `)` the second word, `=`, `(` and its
-- list
abbrev pub lists_after : ℕ → List (List ℕ) → Written → List Written → Result EffectLists Refusal
lists_after q factors word written =
    lists_at q factors word (preceding Close written) (first_or word (after Close written))
    (preceding Close (drop 3 (after Close written)))

-- where nothing follows MODEL, which the grammar refuses too, there is no word to be named
abbrev pub by_word : ℕ → List (List ℕ) → Option Written → List Written → Result EffectLists Refusal
by_word q factors None written = Err (refused_at UNEXPECTED_SYMBOL (record { line = 1; column = 1 }))
by_word q factors (Some word) written = lists_after q factors word written

-- the lists of a statement `MODEL ESTIMATE = ( .. )`, which may go on by `NONNEGLIGIBLE = ( .. )`
abbrev pub lists_of : ℕ → List (List ℕ) → List Written → Result EffectLists Refusal
lists_of q factors statement = by_word q factors (slice_get statement 1) (drop 4 statement)
