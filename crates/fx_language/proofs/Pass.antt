-- What the pass keeps is what the rules ask of the symbols that were seen.
use Rattle.std.proofs.Common.{◌≡◌, ℕ, ◌+◌, ◌<◌, Bool, true, false, cond, ◌&&◌, ◌||◌, not, List, [], ◌∷◌, length, get_or}
use Rattle.std.proofs.Common.{take, drop, reverse, Some, None, refl, ap, ◌∙◌, arith}
use Rattle.std.specs.Prelude.{if◌then◌else◌, count_by}
use Rattle.std.specs.List.{list_any}
use Rattle.std.proofs.Math.Seq.{drop-cons, take-suc}
use Rattle.std.proofs.Math.Numerals.{add-one}
use Rattle.std.proofs.lemmas.List.{reverse-append}
use Rattle.std.proofs.lemmas.List.Sums.{sum_by-cons}
use Rattle.fx_language.specs.declared.symbol.Symbol.{Symbol}
use Rattle.fx_language.specs.declared.symbol.Symbol.TheVariants.{Proc, Factex, Output, Quit, Run, Semicolon}
use Rattle.fx_language.specs.declared.symbol_set.SymbolSet.{SymbolSet}
use Rattle.fx_language.specs.Symbols.{is}
use Rattle.fx_language.specs.SymbolSets.{empty, has, including}
use Rattle.fx_language.specs.Repeats.{is_start, is_in, first_words, step_words, has_statement}
use Rattle.fx_language.specs.Repeats.{has_option, is_option_in, begins_with, rule_at, repeated}
use Rattle.fx_language.specs.Pasts.{past_of, past_after, step_set, begun, option_set, is_option_of, rule_code}
use Rattle.fx_language.proofs.SameSymbol.{symbol_is}
use Rattle.fx_language.proofs.SymbolSets.{has_none, has_including}

-- the statements of the step
step_next : (start ends : Bool) (word s : Symbol) (words : List Symbol) (set : SymbolSet)
    → (is Proc s || is Quit s) ≡ ends → has set word ≡ list_any (is word) (step_words words)
    → has (if start then (if ends then empty else including s set) else set) word
    ≡ list_any (is word) (step_words (if start then s ∷ words else words))
step_next false ends word s words set e h = h
step_next true true word s words set e h = rw e (has_none word)
step_next true false word s words set e h = rw e (cc (has_including s word set))

in_step : (word : Symbol) (seen : List Symbol) → has (step_set seen) word ≡ has_statement word seen
in_step word [] = has_none word
in_step word (s ∷ seen) =
    step_next _ _ word s _ _ refl (in_step word seen)

-- the options of the statement
option_next : (ends named : Bool) (word s : Symbol) (set : SymbolSet) (had : Bool) → has set word ≡ had
    → has (if ends then empty else (if named then set else including s set)) word
    ≡ (not ends && ((is word s && not named) || had))
option_next true named word s set had h = has_none word
option_next false true word s set had h = by _
  where
    by : (b : Bool) → has set word ≡ ((b && false) || had)
    by true = h
    by false = h
option_next false false word s set had h = has_including s word set ∙ by (is word s)
  where
    by : (b : Bool) → (b || has set word) ≡ ((b && true) || had)
    by true = refl
    by false = h

in_statement : (word : Symbol) (seen : List Symbol) → has (option_set seen) word ≡ has_option word seen
in_statement word [] = has_none word
in_statement word (s ∷ seen) =
    option_next _ _ word s _ _
    (in_statement word seen)

-- the first word of the statement
first_next : (start ends : Bool) (word s first : Symbol) (had : Bool) → is word Semicolon ≡ false
    → is Semicolon s ≡ ends → had ≡ is word first
    → (not ends && (if start then is word s else had)) ≡ is word (if start || ends then s else first)
first_next true true word s first had other e h = cc (symbol_is Semicolon s e)
first_next false true word s first had other e h = cc (symbol_is Semicolon s e)
first_next true false word s first had other e h = refl
first_next false false word s first had other e h = h

first_is : (word : Symbol) → is word Semicolon ≡ false → (seen : List Symbol) → is_in word seen ≡ is word (begun seen)
first_is word other [] = cc
first_is word other (s ∷ seen) =
    first_next _ _ word s _ _ other refl
    (first_is word other seen)

count_next : (proc : Bool) (s : Symbol) (words : List Symbol) → is Proc s ≡ proc
    → count_by (is Proc) (s ∷ words) ≡ (if proc then count_by (is Proc) words + 1 else count_by (is Proc) words)
count_next true s words e =
    sum_by-cons (λ x. cond (is Proc x) 1 0) s words ∙ ap (λ b. cond b 1 0 + count_by (is Proc) words) e ∙ omega arith
count_next false s words e =
    sum_by-cons (λ x. cond (is Proc x) 1 0) s words ∙ ap (λ b. cond b 1 0 + count_by (is Proc) words) e ∙ omega arith

counted : (start proc : Bool) (s : Symbol) (words : List Symbol) → is Proc s ≡ proc
    → count_by (is Proc) (if start then s ∷ words else words)
    ≡ (if start && proc then count_by (is Proc) words + 1 else count_by (is Proc) words)
counted false proc s words e = refl
counted true proc s words e = count_next proc s words e

-- what is kept after one more symbol
pub past_next : (s : Symbol) (seen : List Symbol) → past_of (s ∷ seen) ≡ past_after (past_of seen) s
past_next s seen = cc (counted (is_start seen) (is Proc s) s (first_words seen) refl)

option_is : (s : Symbol) (seen : List Symbol) → is_option_in seen s ≡ is_option_of (begun seen) s
option_is s seen =
    cc (first_is Proc refl seen, first_is Output refl seen)

pub rule_is : (seen rest : List Symbol) (s : Symbol)
    → rule_at seen s rest ≡ rule_code (past_of seen) s (begins_with Factex rest)
rule_is seen rest s =
    rw (in_step Run seen, in_step s seen, option_is s seen, in_statement s seen)

refused_here : (seen rest : List Symbol) (s : Symbol) (i code : ℕ) → rule_at seen s rest ≡ Some code
    → repeated seen i (s ∷ rest) ≡ Some (code, i)
refused_here seen rest s i code e = cc

refused_later : (seen rest : List Symbol) (s : Symbol) (i : ℕ) → rule_at seen s rest ≡ None
    → repeated seen i (s ∷ rest) ≡ repeated (s ∷ seen) (i + 1) rest
refused_later seen rest s i e = cc

module _ (symbols : List Symbol) (i : ℕ) (h : i < length symbols) where
  abbrev seen : List Symbol
  seen = reverse (take i symbols)

  abbrev next : Symbol
  next = get_or symbols i Proc

  seen_next : reverse (take (i + 1) symbols) ≡ next ∷ seen
  seen_next = rw (add-one, take-suc symbols i Proc h, reverse-append)

  rest_next : drop i symbols ≡ next ∷ drop (i + 1) symbols
  rest_next = rw (add-one i) (drop-cons symbols i Proc h)

  pub past_here : past_after (past_of seen) next ≡ past_of (reverse (take (i + 1) symbols))
  past_here = cc (past_next next seen, seen_next)

  pub repeated_here : (code : ℕ) → rule_at seen next (drop (i + 1) symbols) ≡ Some code
      → repeated seen i (drop i symbols) ≡ Some (code, i)
  repeated_here code e =
      cc (rest_next, refused_here seen _ next i code e)

  pub repeated_later : rule_at seen next (drop (i + 1) symbols) ≡ None
      → repeated seen i (drop i symbols) ≡ repeated (reverse (take (i + 1) symbols)) (i + 1) (drop (i + 1) symbols)
  repeated_later e =
      cc (rest_next, refused_later seen _ next i e, seen_next)
