-- Where a walk is.
use Rattle.std.specs.Prelude.{ℕ, ◌≡◌, ◌<◌, ◌≤◌, ◌-◌, ◌⊎◌, Bool, true, false, List, [], ◌∷◌, ◌++◌, length, drop, filter}
use Rattle.std.specs.Prelude.{Option, Some, None}
use Rattle.fx_designs.specs.Answers.{falling}
use Rattle.fx_designs.specs.Nodes.{Mark}
use Rattle.fx_laws.specs.Trees.{Tree, children_of}
use Rattle.fx_designs.specs.Problems.{Problem}
use Rattle.fx_tree.specs.declared.front.Front.{Front}
use Rattle.fx_tree.specs.Following.{front_of}
use Rattle.fx_tree.specs.Search.{search_tree, is_expanded}
use Rattle.fx_vectors.specs.Matrix.{MatrixView}
use Rattle.fx_vectors.specs.Shape.{dimensions_of}
use Rattle.fx_vectors.specs.declared.question.Question.{Question}
use Rattle.fx_vectors.specs.Question.{IsValid, problem_of}
use Rattle.fx_search.specs.Pruning.{full_length, count_of_rows}
use Rattle.fx_search.specs.Standing.{Standing, kept_rows, standing_of}
use Rattle.fx_search.specs.declared.job.JobEnd.{JobEnd}
use Rattle.fx_search.specs.declared.job.JobEnd.TheVariants.{Found, Closed, Spent, Cut}
use Rattle.fx_search.specs.declared.ranked.Ranked.{Ranked}
use Rattle.fx_search.specs.declared.unranked.Unranked.{Unranked}
use Rattle.fx_search.specs.declared.walk.Walk.{Walk}

-- what an incumbent holds where a least pattern is asked
abbrev pub standing_with_best : Ranked → Standing
standing_with_best x = standing_of x.tally.shape x.r x.tally.rows (kept_rows x.best)

-- and where none is
abbrev pub standing_without_best : Unranked → Standing
standing_without_best x = record { problem = problem_of x.question.now; prefix = x.prefix.rows; best = None }

-- what others see of a walk: its question and limit, the rows of its prefix, the bound, its marks and their number
pub record WalkView : Type 0 where
  pub question : Question
  pub limit : ℕ
  pub rows : List ℕ
  pub bound : ℕ
  pub marks : List Mark
  pub count : ℕ

abbrev pub walk_view : {I : Type 0} → Walk I → WalkView
walk_view w = record {
  question = w.question.now;
  limit = w.limit;
  rows = w.prefix.rows;
  bound = w.bound;
  marks = w.marks;
  count = length w.marks;
}

-- all parts of a walk of the question are at one prefix
pub record IsAt {I : Type 0} (standing : I → Standing) (question : Question) (w : Walk I) : Type 0 where
  pub valid : IsValid question
  pub question_is : w.question.now ≡ question
  pub candidates : w.candidates.now ≡ question.shape
  pub shape : w.prefix.shape ≡ question.shape
  pub pruner_problem : w.pruner.problem ≡ problem_of question
  pub pruner_rows : w.pruner.prefix ≡ w.prefix.rows
  pub incumbent_problem : (standing w.incumbent).problem ≡ problem_of question
  pub incumbent_rows : (standing w.incumbent).prefix ≡ w.prefix.rows

-- a canonical prefix that is empty or expanded, and not whole
pub record IsInner (p : Problem) (rows : List ℕ) : Type 0 where
  pub part : length rows < full_length p
  pub canonical : (search_tree p).canonical rows ≡ true
  pub open_ : (length rows ≡ 0) ⊎ (is_expanded p rows ≡ true)

-- the prefix has a child by this row
pub record IsChild (p : Problem) (rows : List ℕ) (row : ℕ) : Type 0 where
  pub part : length rows < full_length p
  pub below : row < count_of_rows p
  pub canonical : (search_tree p).canonical (rows ++ row ∷ []) ≡ true

-- the front of a prefix
pub record IsFrontOf (question : Question) (rows : List ℕ) (front : Front) : Type 0 where
  pub front_is : front ≡ front_of (dimensions_of question.shape) rows
  pub rank : front.rank ≤ question.shape.m

-- A walk that can go on: its parts are at an inner prefix.
pub record IsPaused {I : Type 0} (standing : I → Standing) (w : Walk I) : Type 0 where
  pub at : IsAt standing w.question.now w
  pub inner : IsInner (problem_of w.question.now) w.prefix.rows
  pub bound : w.bound ≤ count_of_rows (problem_of w.question.now)
  pub limit : w.limit ≤ 5000000

-- the prefix has no child by a row below a bound
abbrev pub IsNoCanonicalBelow : Problem → List ℕ → ℕ → Type 0
IsNoCanonicalBelow p rows bound = (r : ℕ) → r < bound → (search_tree p).canonical (rows ++ r ∷ []) ≡ false

-- the greatest row below a bound by which it has one
pub record IsNextRow (p : Problem) (rows : List ℕ) (bound row : ℕ) : Type 0 where
  pub low : row < bound
  pub canonical : (search_tree p).canonical (rows ++ row ∷ []) ≡ true
  pub greatest : (r : ℕ) → row < r → r < bound → (search_tree p).canonical (rows ++ r ∷ []) ≡ false

-- the children from the i-th on are those by the rows below a bound
abbrev pub LeftFrom : Tree → List ℕ → ℕ → ℕ → Type 0
LeftFrom t p i row = drop i (children_of t p) ≡ filter (λ r. t.canonical (p ++ r ∷ [])) (falling row)

-- a walk before its first node
pub record IsStart {I : Type 0} (standing : I → Standing) (w : Walk I) : Type 0 where
  pub paused : IsPaused standing w
  pub rows : w.prefix.rows ≡ []
  pub marks : w.marks ≡ []
  pub best : (standing w.incumbent).best ≡ None
  pub all : LeftFrom (search_tree (problem_of w.question.now)) [] 0 w.bound

-- more marks were added to some, or are more than the limit allows
abbrev pub IsTaken : ℕ → List Mark → List Mark → List Mark → Bool → Type 0
IsTaken limit old more new true = (new ≡ old ++ more) × (length new ≤ limit)
IsTaken limit old more new false = (limit - length old < length more) × (new ≡ old)

-- the matrix, where there is one, has all rows, and there are some
abbrev pub IsComplete : Problem → Option MatrixView → Type 0
IsComplete p None = Unit {0}
IsComplete p (Some matrix) = (length matrix.rows ≡ full_length p) × (0 < length matrix.rows)

-- what holds where a job or a piece was closed
abbrev pub IsReadyAfter : JobEnd → Type 0 → Type 0
IsReadyAfter (Closed best count list) ready = ready
IsReadyAfter (Found matrix count list) ready = Unit {0}
IsReadyAfter (Spent count) ready = Unit {0}
IsReadyAfter Cut ready = Unit {0}
