-- RANDOMIZE and NOVALRAN: what is shuffled, and from which seed.
use Rattle.std.specs.Prelude.{ℕ, Bool, not, nat_lt, ◌^◌, List, drop, slice_get, Option, Some, None, Result, Ok, Err}
use Rattle.std.specs.Prelude.{if◌then◌else◌}
use Rattle.fx_language.specs.declared.code.TheConstants.{SEED_TOO_LARGE}
use Rattle.fx_language.specs.declared.symbol.Symbol.TheVariants.{Randomize, Novalran, Open}
use Rattle.fx_text.specs.declared.refusal.Refusal.{Refusal}
use Rattle.fx_text.specs.Written.{Written, begins}
use Rattle.fx_text.specs.Numbers.{number_of}
use Rattle.fx_text.specs.Refusals.{refusal_at}
use Rattle.fx_outputs.specs.declared.shuffle.Shuffle.{Shuffle}
use Rattle.fx_outputs.specs.declared.shuffle.Shuffle.TheVariants as shuffle
use Rattle.fx_outputs.specs.Options.{option_of}

-- a seed of 64 bits, or E19
abbrev pub seed_in_range : Bool → Written → Option ℕ → Result Shuffle Refusal
seed_in_range values w (Some n) =
    if nat_lt n (2 ^ 64) then Ok (shuffle.Seed n values) else Err (refusal_at SEED_TOO_LARGE w)
seed_in_range values w None = Err (refusal_at SEED_TOO_LARGE w)

-- by the default seed, where no number is written
abbrev pub seeded : Bool → Option Written → Result Shuffle Refusal
seeded values None = Ok (shuffle.Default values)
seeded values (Some w) = seed_in_range values w (number_of w)

-- the number in parentheses after RANDOMIZE, which is first
abbrev pub seed_written : List Written → Option Written
seed_written s = if begins Open (drop 1 s) then slice_get s 2 else None

-- rows are shuffled with RANDOMIZE alone; with it the values of the factors too, but not with NOVALRAN
abbrev pub shuffle_of : List (List Written) → Result Shuffle Refusal
shuffle_of options =
    let randomize = option_of Randomize options in
    if begins Randomize randomize
    then seeded (not (begins Novalran (option_of Novalran options))) (seed_written randomize)
    else Ok shuffle.Kept
