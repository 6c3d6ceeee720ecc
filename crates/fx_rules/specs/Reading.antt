-- The text of rules, byte by byte: names, `0` and powers are words, between which `=`, `*`, `^` and white space may
-- stand.
use Rattle.std.specs.Prelude.{ℕ, ◌+◌, ◌-◌, ◌==◌, ◌&&◌, ◌||◌, not, nat_le, nat_lt, Bool, false, if◌then◌else◌, List, []}
use Rattle.std.specs.Prelude.{◌∷◌, ◌++◌, length, Option, Some}
use Rattle.std.specs.Prelude.{slice_index, None, Result, Ok, Err, codes, decimal}
use Rattle.std.specs.List.{list_all}
use Rattle.std.specs.Str.{bytes_eq}
use Rattle.fx_lexer.specs.Bytes.{is_digit, is_white, is_word_byte}
use Rattle.fx_text.specs.Names.{is_same_name}
use Rattle.fx_vectors.specs.declared.shape.Shape.{Shape}
use Rattle.fx_vectors.specs.Matrix.{MatrixView}
use Rattle.fx_rules.specs.declared.problem.Problem.{Problem}
use Rattle.fx_rules.specs.declared.problem.Problem.TheVariants as problem
use Rattle.fx_rules.specs.declared.problem.RulesFault.{RulesFault}
use Rattle.fx_rules.specs.declared.reading.Stage.{Stage}
use Rattle.fx_rules.specs.declared.reading.Stage.TheVariants as stage
use Rattle.fx_rules.specs.declared.reading.Reading.{Reading}
use Rattle.fx_rules.specs.Building.{Built, and_then, begun, completed, nothing_built, ruled, times, to_power}
use Rattle.fx_rules.specs.Building.{with_index}
use Rattle.fx_rules.specs.Naming.{place_in}

-- letters, digits, `_`, and the brackets of a block factor's name
abbrev pub is_name_byte : ℕ → Bool
is_name_byte b = is_word_byte b || ((b == 91) || (b == 93))

-- whether the last bracket of a word is open
abbrev pub is_open : List ℕ → Bool
is_open word = not (slice_index word (length word - 1) == 93)

-- whether a byte goes on with a word: behind `[` digits up to `]`, else letters, digits and `_`
abbrev pub goes_on : List ℕ → ℕ → Bool
goes_on [] b = false
goes_on (c ∷ word) b =
    if c == 91 then is_open (c ∷ word) && (is_digit b || (b == 93)) else is_word_byte c && is_word_byte b

-- the word that a byte begins, if any
abbrev pub begun_by : ℕ → List ℕ
begun_by b = if is_name_byte b then b ∷ [] else []

-- a number in brackets, or letters, digits and `_`
abbrev pub is_formed : List ℕ → Bool
is_formed [] = false
is_formed (c ∷ word) = if c == 91 then nat_lt 2 (length (c ∷ word)) && not (is_open (c ∷ word)) else is_word_byte c

abbrev pub at_stage : Stage → Built → Reading
at_stage stage b = record { stage = stage; building = b }

-- this stage is next, where nothing is wrong
abbrev pub then_at : Stage → Result Built Problem → Result Reading Problem
then_at stage r = and_then r (λ b. Ok (at_stage stage b))

-- the rule of what has this place begins
abbrev pub left_side_at : Option ℕ → Built → Result Reading Problem
left_side_at None b = Err problem.Unknown
left_side_at (Some place) b = then_at stage.Equals (begun place b)

-- the first word behind `rules`: `none`, or what begins a rule
abbrev pub front_at : Option ℕ → List ℕ → Built → Result Reading Problem
front_at place word b =
    if is_same_name word (codes "none") then Ok (at_stage stage.Nothing b) else left_side_at place b

-- the product has what has this place
abbrev pub factor_at : Option ℕ → Built → Result Reading Problem
factor_at None b = Err problem.Unknown
factor_at (Some place) b = then_at stage.Factor (times place b)

-- whether a word is `run`, and the rule is that of a block factor
abbrev pub says_run : List ℕ → Built → Bool
says_run word b = is_same_name word (codes "run") && nat_le b.shape.s (length b.rows)

-- the first word behind `=` that is not `0`: `run` of `run factor 3`, or a factor
abbrev pub first_at : Option ℕ → List ℕ → Built → Result Reading Problem
first_at place word b = if says_run word b then Ok (at_stage stage.RunFactor b) else factor_at place b

-- the word behind `^`: a digit
abbrev pub power_in : List ℕ → Built → Result Reading Problem
power_in [] b = Err problem.Power
power_in (c ∷ []) b = if is_digit c then then_at stage.Powered (to_power (c - 48) b) else Err problem.Power
power_in (c ∷ d ∷ word) b = Err problem.Power

-- whether a word is the number of the next run index, and there is one
abbrev pub is_next : List ℕ → Built → Bool
is_next word b = nat_lt (length b.firsts) b.shape.m && bytes_eq word (decimal (length b.firsts + 1))

-- the word behind `run factor`: the number of the next run index
abbrev pub run_number : List ℕ → Built → Result Reading Problem
run_number word b =
    if is_next word b then then_at stage.Between (with_index b)
    else if list_all is_digit word then Err problem.NotNext
    else Err problem.Form

abbrev pub keyword : List ℕ → Stage → List ℕ → Built → Result Reading Problem
keyword expected next word b = if is_same_name word expected then Ok (at_stage next b) else Err problem.Form

-- what a word does at each stage
abbrev pub worded_at : Stage → List (List ℕ) → List ℕ → Built → Result Reading Problem
worded_at stage.Head factors word b = keyword (codes "rules") stage.Front word b
worded_at stage.Front factors word b = front_at (place_in b.shape factors word) word b
worded_at stage.Between factors word b = left_side_at (place_in b.shape factors word) b
worded_at stage.Equals factors word b = Err problem.Form
worded_at stage.First factors word b =
    if bytes_eq word (codes "0") then Ok (at_stage stage.Whole b) else first_at (place_in b.shape factors word) word b
worded_at stage.Factor factors word b =
    and_then (ruled b) (left_side_at (place_in b.shape factors word))
worded_at stage.Next factors word b = factor_at (place_in b.shape factors word) b
worded_at stage.Power factors word b = power_in word b
worded_at stage.Powered factors word b =
    and_then (ruled b) (left_side_at (place_in b.shape factors word))
worded_at stage.Whole factors word b =
    and_then (ruled b) (left_side_at (place_in b.shape factors word))
worded_at stage.RunFactor factors word b = keyword (codes "factor") stage.RunNumber word b
worded_at stage.RunNumber factors word b = run_number word b
worded_at stage.Nothing factors word b = Err problem.Form

-- what `=` does at each stage
abbrev pub equals_at : Stage → Built → Result Reading Problem
equals_at stage.Equals b = Ok (at_stage stage.First b)
equals_at _ b = Err problem.Form

-- what `*` does
abbrev pub star_at : Stage → Built → Result Reading Problem
star_at stage.Factor b = Ok (at_stage stage.Next b)
star_at stage.Powered b = Ok (at_stage stage.Next b)
star_at _ b = Err problem.Form

-- what `^` does
abbrev pub power_at : Stage → Built → Result Reading Problem
power_at stage.Factor b = Ok (at_stage stage.Power b)
power_at _ b = Err problem.Form

-- what a byte does behind a word: nothing, where it begins another word
abbrev pub signed : ℕ → Reading → Result Reading Problem
signed b r =
    if is_name_byte b || is_white b then Ok r
    else if b == 61 then equals_at r.stage r.building
    else if b == 42 then star_at r.stage r.building
    else if b == 94 then power_at r.stage r.building
    else Err problem.Form

-- what the end of the text does at each stage
abbrev pub ended_at : Stage → Built → Result Built Problem
ended_at stage.Front b = completed b
ended_at stage.Between b = completed b
ended_at stage.Nothing b = completed b
ended_at stage.Factor b = and_then (ruled b) completed
ended_at stage.Powered b = and_then (ruled b) completed
ended_at stage.Whole b = and_then (ruled b) completed
ended_at _ b = Err problem.Form

-- a problem has a place: so many bytes stand before it
abbrev pub placed : {A : Type 0} → ℕ → Result A Problem → Result A RulesFault
placed at (Ok a) = Ok a
placed at (Err p) = Err (record { problem = p; at = at })

abbrev pub on_read : {A B : Type 0} → Result A RulesFault → (A → Result B RulesFault) → Result B RulesFault
on_read (Ok a) f = f a
on_read (Err e) f = Err e

-- what a word does
abbrev pub formed_at : Stage → List (List ℕ) → List ℕ → Built → Result Reading Problem
formed_at stage factors word b = if is_formed word then worded_at stage factors word b else Err problem.Form

-- what the word does that ends here, if any
abbrev pub worded : List (List ℕ) → List ℕ → ℕ → Reading → Result Reading RulesFault
worded factors [] at r = Ok r
worded factors (b ∷ word) at r =
    placed (at - length (b ∷ word)) (formed_at r.stage factors (b ∷ word) r.building)

-- what the word does that ends here, if any, and then the byte behind it
abbrev pub stepped : List (List ℕ) → List ℕ → ℕ → ℕ → Reading → Result Reading RulesFault
stepped factors word at b r = on_read (worded factors word at r) (λ next. placed at (signed b next))

abbrev pub ended : List (List ℕ) → List ℕ → ℕ → Reading → Result Built RulesFault
ended factors word at r =
    on_read (worded factors word at r) (λ last. placed at (ended_at last.stage last.building))

-- what is read of the rest of a text, behind `at` bytes, of which the last are of a word
abbrev pub read_on : List (List ℕ) → List ℕ → ℕ → List ℕ → Reading → Result Built RulesFault
read_on factors word at [] r = ended factors word at r
read_on factors word at (b ∷ text) r =
    if goes_on word b then read_on factors (word ++ b ∷ []) (at + 1) text r
    else on_read (stepped factors word at b r) (read_on factors (begun_by b) (at + 1) text)

abbrev pub matrix_in : Result Built RulesFault → Result MatrixView RulesFault
matrix_in (Ok b) = Ok (record { shape = b.shape; rows = b.rows })
matrix_in (Err fault) = Err fault

-- the matrix that a text of rules gives, or what is wrong with it first
unfoldable pub matrix_of_rules : Shape → List (List ℕ) → List ℕ → Result MatrixView RulesFault
matrix_of_rules shape factors text =
    matrix_in (read_on factors [] 0 text (at_stage stage.Head (nothing_built shape)))
