-- Words that show why a prefix is not allowed, and the closing word, which is chosen among them.
use Rattle.std.specs.Prelude.{ℕ, ◌==◌, ◌&&◌, ◌||◌, not, nat_lt, Bool, List, filter, length, drop, Option, find}
use Rattle.std.specs.Option.{option_map}
use Rattle.std.specs.List.{list_all}
use Rattle.fx_designs.specs.Galois.{number}
use Rattle.fx_designs.specs.Vectors.{weight, is_normal, is_zero, combination, vectors_of}
use Rattle.fx_designs.specs.Runs.{points, is_constant}
use Rattle.fx_designs.specs.Problems.{Dimensions, Requirement}
use Rattle.fx_designs.specs.Demands.{is_forbidden_word, padded, runs}

-- whether u closes the prefix: a normal vector over its rows that is constant over their runs, and forbidden with zeros
-- for the rows to come
abbrev pub closes : Dimensions → Requirement → List ℕ → List ℕ → Bool
closes d wanted rows u = is_normal u && (is_forbidden_word d wanted (padded d u) && is_constant d.q u (runs d rows))

-- whether u is lighter than v, or of the same weight and of greater number
abbrev pub is_preferred : ℕ → List ℕ → List ℕ → Bool
is_preferred q u v = nat_lt (weight u) (weight v) || ((weight u == weight v) && nat_lt (number q v) (number q u))

-- whether none of the words is preferred to u
abbrev pub is_best : ℕ → List (List ℕ) → List ℕ → Bool
is_best q words u = list_all (λ v. not (is_preferred q v u)) words

-- all words that close a prefix
abbrev pub words_of : Dimensions → Requirement → List ℕ → List (List ℕ)
words_of d wanted rows = filter (closes d wanted rows) (points d.q (length rows))

-- of the words that close a prefix, the one of least weight, and of these the one of greatest number
unfoldable pub closing_word : Dimensions → Requirement → List ℕ → Option (List ℕ)
closing_word d wanted rows =
    option_map (padded d) (find (is_best d.q (words_of d wanted rows)) (words_of d wanted rows))

-- whether w, with an entry for each row of a whole matrix, is a zero sum of the rows of a prefix: zero past them, and
-- the rows, so weighted, add up to zero
abbrev pub is_zero_sum : Dimensions → List ℕ → List ℕ → Bool
is_zero_sum d rows w = is_zero (drop (length rows) w) && is_zero (combination d.q d.m w (vectors_of d.q d.m rows))

-- whether w shows that a prefix is not allowed: a forbidden word, of the least weight or not, that is a zero sum of its
-- rows
abbrev pub refutes : Dimensions → Requirement → List ℕ → List ℕ → Bool
refutes d wanted rows w = is_zero_sum d rows w && is_forbidden_word d wanted w
