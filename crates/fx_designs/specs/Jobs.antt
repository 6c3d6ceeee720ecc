-- Jobs: the nodes and marks of a part of a search that is worked off by itself, and the best matrix that is known where
-- a least pattern is asked (the incumbent of a branch and bound).
use Rattle.std.specs.Prelude.{ℕ, ◌+◌, ◌&&◌, ◌||◌, not, nat_lt, Bool, true, if◌then◌else◌, List, [], map, filter, length}
use Rattle.std.specs.Prelude.{slice_index_or, Option, Some, None, find}
use Rattle.std.specs.List.{list_all, list_any}
use Rattle.fx_designs.specs.Vectors.{same}
use Rattle.fx_designs.specs.Problems.{Dimensions, Problem}
use Rattle.fx_designs.specs.Demands.{is_allowed}
use Rattle.fx_designs.specs.Patterns.{pattern_of, is_less}
use Rattle.fx_designs.specs.Canonical.{is_canonical}
use Rattle.fx_designs.specs.Answers.{before, prefixes}
use Rattle.fx_designs.specs.Nodes.{parent, last_row, is_complete_allowed, lot_of, job_of, is_not_after, nodes, Mark}
use Rattle.fx_designs.specs.Nodes.{Branch, Word, Worse, word_of}

-- whether a prefix or matrix is of the job j, which has m + 2 rows
abbrev pub is_of_job : Dimensions → List ℕ → List ℕ → Bool
is_of_job d j rows = same (job_of d rows) j

-- whether a matrix is of a lot before that of some rows; where the rows are too few for a lot, of a lot before the rows
abbrev pub is_of_earlier_lot : Dimensions → List ℕ → List ℕ → Bool
is_of_earlier_lot d rows matrix = nat_lt d.m (length matrix) && before (lot_of d matrix) (lot_of d rows)

-- inside the job j only the matrices of earlier lots and of j itself count
abbrev pub counts_inside : Dimensions → List ℕ → List ℕ → Bool
counts_inside d j matrix = is_of_earlier_lot d j matrix || is_of_job d j matrix

-- inside j, whether nothing better than this matrix can be below a prefix: it counts and precedes it, and where a
-- least pattern is asked its pattern is not greater
abbrev pub excludes_inside : Problem → List ℕ → List ℕ → List ℕ → Bool
excludes_inside p j matrix rows =
    counts_inside p.dimensions j matrix
    && (before matrix rows
    && (not p.least || not (is_less (pattern_of p.dimensions rows) (pattern_of p.dimensions matrix))))

-- inside j, a branch
abbrev pub is_branch_inside : Problem → List ℕ → List ℕ → Bool
is_branch_inside p j rows =
    is_allowed p.dimensions p.requirement rows
    && (nat_lt (length rows) (p.dimensions.s + p.dimensions.t)
    && not (list_any (λ matrix. is_complete_allowed p matrix && excludes_inside p j matrix rows) (prefixes p)))

-- the first complete allowed matrix of j
unfoldable pub first_inside : Problem → List ℕ → Option (List ℕ)
first_inside p j = find (λ matrix. is_complete_allowed p matrix && is_of_job p.dimensions j matrix) (prefixes p)

-- a node inside j: j itself, or a canonical prefix of it that without its last row is a branch inside j; where no least
-- pattern is asked, none that stands after the first complete allowed matrix of j
abbrev pub is_node_inside : Problem → List ℕ → List ℕ → Bool
is_node_inside p j rows =
    is_of_job p.dimensions j rows
    && (is_canonical p.dimensions p.requirement rows
    && ((same rows j || is_branch_inside p j (parent rows))
    && (p.least || is_not_after (first_inside p j) rows)))

-- the nodes inside j, in order
unfoldable pub nodes_inside : Problem → List ℕ → List (List ℕ)
nodes_inside p j = filter (is_node_inside p j) (prefixes p)

-- the mark of a node inside j
abbrev pub mark_inside : Problem → List ℕ → List ℕ → Mark
mark_inside p j rows =
    (if is_allowed p.dimensions p.requirement rows
    then (if is_branch_inside p j rows then Branch (last_row rows) else Worse (last_row rows))
    else Word (last_row rows) (word_of p rows))

-- the marks inside j, in the order of the nodes
unfoldable pub marks_inside : Problem → List ℕ → List Mark
marks_inside p j = map (mark_inside p j) (nodes_inside p j)

-- of some matrices the first of least pattern
unfoldable pub first_least : Dimensions → List (List ℕ) → Option (List ℕ)
first_least d matrices =
    find (λ rows. list_all (λ other. not (is_less (pattern_of d other) (pattern_of d rows))) matrices) matrices

-- where a least pattern is asked, the first of least pattern among the complete allowed matrices that pass a test
abbrev pub best_of : Problem → (List ℕ → Bool) → Option (List ℕ)
best_of p test =
    (if p.least
    then first_least p.dimensions (filter (λ matrix. is_complete_allowed p matrix && test matrix) (prefixes p))
    else None)

-- the best of the lots before that of some rows
unfoldable pub best_before : Problem → List ℕ → Option (List ℕ)
best_before p rows = best_of p (is_of_earlier_lot p.dimensions rows)

-- whether a matrix is better than the best so far
abbrev pub improves : Dimensions → Option (List ℕ) → List ℕ → Bool
improves d None rows = true
improves d (Some best) rows = is_less (pattern_of d rows) (pattern_of d best)

-- the best of a part where it improves on the best before it, else none
abbrev pub improvement : Dimensions → Option (List ℕ) → Option (List ℕ) → Option (List ℕ)
improvement d start None = None
improvement d start (Some own) = (if improves d start own then Some own else None)

-- the best of the job j, where it is better than that of the earlier lots
unfoldable pub best_inside : Problem → List ℕ → Option (List ℕ)
best_inside p j = improvement p.dimensions (best_before p j) (best_of p (is_of_job p.dimensions j))

-- what a search is left with that its budget ends: the best of the lots before the node that passes the budget
unfoldable pub carried : Problem → ℕ → Option (List ℕ)
carried p budget = best_before p (slice_index_or (nodes p) budget [])

-- whether a prefix is in a job of the lot
abbrev pub is_in_a_job : Dimensions → List ℕ → List ℕ → Bool
is_in_a_job d lot rows = nat_lt (d.m + 1) (length rows) && same (lot_of d rows) lot

-- the nodes of the problem in the jobs of a lot, in order
unfoldable pub nodes_of_lot : Problem → List ℕ → List (List ℕ)
nodes_of_lot p lot = filter (is_in_a_job p.dimensions lot) (nodes p)

-- the first complete allowed matrix of a lot
unfoldable pub first_of_lot : Problem → List ℕ → Option (List ℕ)
first_of_lot p lot = find (λ matrix. is_complete_allowed p matrix && is_in_a_job p.dimensions lot matrix) (prefixes p)

-- the best of the lots up to and with that of some rows
unfoldable pub best_through : Problem → List ℕ → Option (List ℕ)
best_through p rows =
    best_of p (λ matrix. is_of_earlier_lot p.dimensions rows matrix
    || is_in_a_job p.dimensions (lot_of p.dimensions rows) matrix)
