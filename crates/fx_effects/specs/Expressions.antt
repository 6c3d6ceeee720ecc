-- The effects that are written in a list: ranges of names, and stars joined by bars.
use Rattle.std.specs.Prelude.{ℕ, ◌==◌, Bool, false, not, ◌&&◌, ◌||◌, nat_le, min, List, [], ◌∷◌, ◌++◌, suc, take, drop}
use Rattle.std.specs.Prelude.{slice_get, count_ones, bit_or, Option, Some, None, Result, Ok, Err, if◌then◌else◌}
use Rattle.std.specs.List.{list_any, prefix_len}
use Rattle.fx_language.specs.declared.code.TheConstants.{IRREGULAR_RANGE, NUMBER_OUT_OF_RANGE}
use Rattle.fx_language.specs.declared.symbol.Symbol.{Symbol}
use Rattle.fx_language.specs.declared.symbol.Symbol.TheVariants.{At, Bar, Minus, Star}
use Rattle.fx_language.specs.Symbols.{is, is_word}
use Rattle.fx_text.specs.declared.refusal.Refusal.{Refusal}
use Rattle.fx_text.specs.Written.{Written}
use Rattle.fx_text.specs.Numbers.{number_of}
use Rattle.fx_text.specs.Names.{place_of}
use Rattle.fx_text.specs.Refusals.{refusal_at, ◌>>=◌}
use Rattle.fx_text.specs.Ranges.{is_range, names_between, range_end}
use Rattle.fx_effects.specs.Factors.{main_of, mains_from}

-- Stars that are joined by bars, and how many factors their unions may have. Factors with no more than one in a union
-- are a range.
pub record Expression : Type 0 where
  pub stars : List ℕ
  pub upto : ℕ

-- the stars that are read so far, and the factors of the next one
pub record Reading : Type 0 where
  pub stars : List ℕ
  pub star : ℕ

-- and the next one after them, where a factor of it was read
abbrev pub stars_of : Reading → List ℕ
stars_of r = if r.star == 0 then r.stars else r.stars ++ r.star ∷ []

-- one more factor in the next star, or E4 where the name is no factor's
abbrev pub with_name : List (List ℕ) → Reading → Written → Result Reading Refusal
with_name factors r w =
    main_of w (place_of w.text factors) >>= (λ e. Ok (record { stars = r.stars; star = bit_or r.star e }))

-- what follows where one word or sign more is read: a bar ends a star, and a name adds a factor to it
abbrev pub read : List (List ℕ) → Reading → Written → Result Reading Refusal
read factors r w =
    if is Bar w.symbol then Ok (record { stars = stars_of r; star = 0 })
    else (if is_word w.symbol then with_name factors r w else Ok r)

-- and all of them, from left to right
abbrev pub all_read : List (List ℕ) → Reading → List Written → Result Reading Refusal
all_read factors r [] = Ok r
all_read factors r (w ∷ rest) = read factors r w >>= (λ next. all_read factors next rest)

-- how much precedes `@`
abbrev pub stars_len : List Written → ℕ
stars_len written = prefix_len (λ w. not (is At w.symbol)) written

-- Unions of at most n factors, where 64 are as many as there can be. 29: all stars have more.
abbrev pub at_most : List ℕ → Written → Option ℕ → Result ℕ Refusal
at_most stars w None = Err (refusal_at NUMBER_OUT_OF_RANGE w)
at_most stars w (Some n) =
    if list_any (λ e. nat_le (count_ones e) n) stars then Ok (min n 64) else Err (refusal_at NUMBER_OUT_OF_RANGE w)

-- the most factors of a union, by the number after `@`, or as many as there are
abbrev pub upto_of : List ℕ → Option Written → Result ℕ Refusal
upto_of stars None = Ok 64
upto_of stars (Some w) = at_most stars w (number_of w)

-- an effect as it is written, by its parts
abbrev pub expression : List ℕ → ℕ → Expression
expression stars upto = record { stars = stars; upto = upto }

-- stars that are joined by bars, of which the first begins with this name
abbrev pub bars_at : List (List ℕ) → Written → List Written → Result Expression Refusal
bars_at factors first rest =
    all_read factors (record { stars = []; star = 0 }) (first ∷ take (stars_len rest) rest)
    >>= (λ r. upto_of (stars_of r) (slice_get (drop (stars_len rest) rest) 1)
    >>= (λ upto. Ok (expression (stars_of r) upto)))

-- The main effects of a range. 30: it is not regular. 4: a name of it is no factor's.
abbrev pub range_at : List (List ℕ) → Written → Written → Result Expression Refusal
range_at factors first last =
    if not (is_range first.text last.text) then Err (refusal_at IRREGULAR_RANGE first)
    else mains_from first factors [] (names_between first.text last.text) >>= (λ mains. Ok (expression mains 1))

-- a range, where there is a last name, and else stars
abbrev pub by_last : List (List ℕ) → Written → List Written → Option Written → Result Expression Refusal
by_last factors first rest None = bars_at factors first rest
by_last factors first rest (Some last) = range_at factors first last

-- an effect that begins with this name
abbrev pub expression_at : List (List ℕ) → Written → List Written → Result Expression Refusal
expression_at factors first rest = by_last factors first rest (range_end rest)

-- the signs that join the names of one effect
abbrev pub is_joining : Symbol → Bool
is_joining s = is Star s || is Bar s || is Minus s

-- an effect begins at a name, unless a sign joins it to what precedes it
abbrev pub begins_effect : Bool → Written → Bool
begins_effect joined w = is_word w.symbol && not joined

-- how much precedes the next effect
abbrev pub effect_len : Bool → List Written → ℕ
effect_len joined [] = 0
effect_len joined (w ∷ rest) = if begins_effect joined w then 0 else suc (effect_len (is_joining w.symbol) rest)

-- others, and after them the effects of a list, from left to right
abbrev pub expressions_from : List (List ℕ) → List Expression → Bool → List Written → Result (List Expression) Refusal
expressions_from factors all joined [] = Ok all
expressions_from factors all joined (w ∷ rest) =
    if begins_effect joined w
    then expression_at factors w (take (effect_len false rest) rest)
    >>= (λ e. expressions_from factors (all ++ e ∷ []) (is_joining w.symbol) rest)
    else expressions_from factors all (is_joining w.symbol) rest

-- the effects of a list
abbrev pub expressions_of : List (List ℕ) → List Written → Result (List Expression) Refusal
expressions_of factors written = expressions_from factors [] false written
