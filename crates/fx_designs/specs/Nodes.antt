-- The nodes of a problem: the prefixes that have to be looked at, and what is found at each. They are a part of the
-- list of all prefixes; no order of work stands in them.
use Rattle.std.specs.Prelude.{ℕ, ◌==◌, ◌+◌, ◌-◌, ◌&&◌, ◌||◌, not, nat_lt, Bool, true, if◌then◌else◌, List, [], map}
use Rattle.std.specs.Prelude.{filter, length, take, slice_index, Option, Some, None, unwrap_or}
use Rattle.std.specs.List.{list_any}
use Rattle.fx_designs.specs.Galois.{number}
use Rattle.fx_designs.specs.Vectors.{same}
use Rattle.fx_designs.specs.Problems.{Dimensions, Problem}
use Rattle.fx_designs.specs.Demands.{is_allowed}
use Rattle.fx_designs.specs.Closing.{closing_word}
use Rattle.fx_designs.specs.Patterns.{pattern_of, is_less}
use Rattle.fx_designs.specs.Canonical.{is_canonical}
use Rattle.fx_designs.specs.Answers.{before, prefixes, answer}

-- the rows without the last
abbrev pub parent : List ℕ → List ℕ
parent rows = take (length rows - 1) rows

-- the last row
abbrev pub last_row : List ℕ → ℕ
last_row rows = slice_index rows (length rows - 1)

-- whether no row is missing
abbrev pub is_whole : Problem → List ℕ → Bool
is_whole p rows = length rows == p.dimensions.s + p.dimensions.t

-- a complete allowed matrix: a canonical prefix with all its rows that is allowed
abbrev pub is_complete_allowed : Problem → List ℕ → Bool
is_complete_allowed p rows =
    is_whole p rows && (is_canonical p.dimensions p.requirement rows && is_allowed p.dimensions p.requirement rows)

-- Prefixes with the same first m + 1 rows are in one lot,
abbrev pub lot_of : Dimensions → List ℕ → List ℕ
lot_of d rows = take (d.m + 1) rows

-- and those with the same first m + 2 rows in one job.
abbrev pub job_of : Dimensions → List ℕ → List ℕ
job_of d rows = take (d.m + 2) rows

-- whether a matrix is in the lot of a prefix, but in another job; shorter prefixes have no lot
abbrev pub is_beside : Dimensions → List ℕ → List ℕ → Bool
is_beside d matrix rows =
    nat_lt d.m (length rows) && (same (lot_of d matrix) (lot_of d rows) && not (same (job_of d matrix) (job_of d rows)))

-- whether a matrix counts for a prefix where a least pattern is asked: it precedes it, and is not in another job
-- of its lot, so that the jobs of a lot can be worked off side by side
abbrev pub counts : Dimensions → List ℕ → List ℕ → Bool
counts d matrix rows = before matrix rows && not (is_beside d matrix rows)

-- whether nothing better than this matrix can be below a prefix: the matrix precedes it, and where a least pattern
-- is asked it counts for the prefix and its pattern is not greater than that of the prefix
abbrev pub excludes : Problem → List ℕ → List ℕ → Bool
excludes p matrix rows =
    (if p.least
    then counts p.dimensions matrix rows
    && not (is_less (pattern_of p.dimensions rows) (pattern_of p.dimensions matrix))
    else before matrix rows)

-- a branch: an allowed prefix, not yet whole, that no complete allowed matrix excludes
abbrev pub is_branch : Problem → List ℕ → Bool
is_branch p rows =
    is_allowed p.dimensions p.requirement rows
    && (nat_lt (length rows) (p.dimensions.s + p.dimensions.t)
    && not (list_any (λ matrix. is_complete_allowed p matrix && excludes p matrix rows) (prefixes p)))

-- whether the answer, where there is one, does not precede the rows
abbrev pub is_not_after : Option (List ℕ) → List ℕ → Bool
is_not_after None rows = true
is_not_after (Some first) rows = not (before first rows)

-- a node: a canonical prefix that without its last row is empty or a branch, and where no least pattern is asked does
-- not stand after the answer
abbrev pub is_node : Problem → List ℕ → Bool
is_node p rows =
    is_canonical p.dimensions p.requirement rows
    && (((length (parent rows) == 0) || is_branch p (parent rows))
    && (p.least || is_not_after (answer p) rows))

-- all nodes, in the order of the list of prefixes
unfoldable pub nodes : Problem → List (List ℕ)
nodes p = filter (is_node p) (prefixes p)

-- what is found at a node, with its last row: that it is a branch; the number of the word that closes it; or that it is
-- allowed and no branch
pub data Mark : Type 0 where
  Branch : ℕ → Mark
  Word : ℕ → ℕ → Mark
  Worse : ℕ → Mark

-- the number of the closing word of a prefix that is not allowed
unfoldable pub word_of : Problem → List ℕ → ℕ
word_of p rows = number p.dimensions.q (unwrap_or (closing_word p.dimensions p.requirement rows) [])

-- the mark of a node
abbrev pub mark_of : Problem → List ℕ → Mark
mark_of p rows =
    (if is_allowed p.dimensions p.requirement rows
    then (if is_branch p rows then Branch (last_row rows) else Worse (last_row rows))
    else Word (last_row rows) (word_of p rows))

-- the marks of all nodes, in the order of the nodes
unfoldable pub marks : Problem → List Mark
marks p = map (mark_of p) (nodes p)
