-- How the prefixes have their turn.
use Rattle.std.proofs.Common.{ℕ, ◌≡◌, ◌<◌, ◌≤◌, ◌+◌, ◌^◌, zero, suc, Bool, true, false}
use Rattle.std.proofs.Common.{List, [], ◌∷◌, ◌++◌, map, length, take, slice_index, Option, Some, None}
use Rattle.std.proofs.Common.{refl, sym, ◌∙◌, ap, ap₂, arith}
use Rattle.std.specs.List.{filter}
use Rattle.std.proofs.lemmas.Bool.{cond-true}
use Rattle.std.proofs.lemmas.List.{length_push, take-append-le, take-take, get_or-take, take_all, length-take-le}
use Rattle.std.proofs.Math.Seq.{get_or-append_seam}
use Rattle.fx_designs.specs.Answers.{falling}
use Rattle.fx_tree.proofs.Nexts.{none-above}
use Rattle.std.specs.Prelude.{IfSome, MatchOption}
use Rattle.fx_designs.specs.Canonical.{is_canonical}
use Rattle.fx_laws.proofs.Tables.{is_order-field}
use Rattle.fx_tree.specs.declared.front.Front.{Front}
use Rattle.fx_tree.specs.Following.{front_of, follows, NoneFollows, IsNextToFollow}
use Rattle.fx_tree.proofs.Walks.{follows-extends}
use Rattle.fx_vectors.specs.declared.question.Question.{Question}
use Rattle.fx_vectors.specs.Shape.{dimensions_of}
use Rattle.fx_vectors.specs.Question.{IsValid, problem_of, requirement_of}
use Rattle.fx_checker.specs.Books.{children}
use Rattle.fx_checker.specs.Turns.{extends, children_below, after, pending, IsGreatest}
use Rattle.fx_checker.specs.Walks.{IsChild}

-- the greatest number that passes a test comes first
pub greatest_first : (p : ℕ → Bool) (row bound : ℕ) → row < bound → p row ≡ true
    → ((r : ℕ) → row < r → r < bound → p r ≡ false) → filter p (falling bound) ≡ row ∷ filter p (falling row)
greatest_first p row bound low passes none =
    none-above p (suc row) bound (omega arith) (λ r above below. none r (omega arith) below)
    ∙ cond-true (p row) (row ∷ filter p (falling row)) (filter p (falling row)) passes

module _ (may : List ℕ → ℕ → Bool) where
  after-take : (k j : ℕ) (rows : List ℕ) → j ≤ k → after may (take k rows) j ≡ after may rows j
  after-take k zero rows le = refl
  after-take k (suc j) rows le =
      cc (take-take j k rows (omega arith), get_or-take k rows j 0 (omega arith), after-take k j rows (omega arith))

  -- all children of a prefix are done
  pub popped-turns : (rows : List ℕ) (below n k : ℕ) → filter (may rows) (falling below) ≡ []
      → length rows ≡ k + 1 → n ≡ slice_index rows k
      → pending may rows below ≡ pending may (take k rows) n
  popped-turns rows below n k none len is =
      ap (λ l. map (λ r. rows ++ r ∷ []) l ++ after may rows (length rows)) none
      ∙ ap (after may rows) (let e : length rows ≡ suc k = omega arith in e)
      ∙ ap₂ (λ b a. children_below may (take k rows) b ++ a) (sym is) (sym (after-take k k rows (omega arith)))
      ∙ ap (λ j. children_below may (take k rows) n ++ after may (take k rows) j)
      (sym (length-take-le k rows (omega arith)))

  -- a branch is entered
  pub entered : (rows : List ℕ) (row n : ℕ) (children : List (List ℕ))
      → children_below may (rows ++ row ∷ []) n ≡ children
      → children ++ pending may rows row ≡ pending may (rows ++ row ∷ []) n
  entered rows row n children is =
      let k = length rows in
      let longer : List ℕ = rows ++ row ∷ [] in
      let front =
      take-append-le k rows (row ∷ []) (omega arith) ∙ take_all k rows (omega arith) in
      let rest : after may longer k ≡ after may rows k =
      cc (after-take k k longer (omega arith)) in
      ap₂ (λ a b. a ++ b) (sym is)
      (ap₂ (λ a b. a ++ b) (ap₂ (children_below may) (sym front) (sym (get_or-append_seam rows row [] 0)))
      (sym rest))
      ∙ ap (λ j. children_below may longer n ++ after may longer j)
      (let e : suc k ≡ length longer = omega (arith, length_push rows row) in e)

-- the rows that follow are those of the children
module _ (question : Question) (valid : IsValid question) (rows : List ℕ) (front : Front)
    (canonical : is_canonical (dimensions_of question.shape) (requirement_of question.demands) rows ≡ true)
    (is : front ≡ front_of (dimensions_of question.shape) rows) (below : ℕ) where
  abbrev may : ℕ → Bool
  may = follows (dimensions_of question.shape) (requirement_of question.demands) front

  same : (row : ℕ) → may row ≡ extends (problem_of question) rows row
  same row = follows-extends (dimensions_of question.shape) (is_order-field question.shape.q valid.shaped.order)
      (requirement_of question.demands) rows front row canonical is

  pub next_is : below ≤ question.shape.q ^ question.shape.m → (found : Option ℕ)
      → MatchOption found
      (NoneFollows (dimensions_of question.shape) (requirement_of question.demands) front below)
      (IsNextToFollow (dimensions_of question.shape) (requirement_of question.demands) front below)
      → IsGreatest (extends (problem_of question)) rows below found × IfSome found (IsChild (problem_of question) rows)
  next_is most None none = (
    none-above (extends (problem_of question) rows) 0 below (omega arith)
        (λ r low high. sym (same r) ∙ none r high),
    tt,
  )
  next_is most (Some row) next = (
    greatest_first (extends (problem_of question) rows) row below next.low (sym (same row) ∙ next.may)
        (λ r above low. sym (same r) ∙ next.greatest r above low),
    record { below = (let low = next.low in omega arith); canonical = sym (same row) ∙ next.may },
  )

  pub all_children : below ≤ question.shape.q ^ question.shape.m
      → ((row : ℕ) → below ≤ row → row < question.shape.q ^ question.shape.m → may row ≡ false)
      → children_below (extends (problem_of question)) rows below ≡ children (problem_of question) rows
  all_children most none =
      ap (map (λ r. rows ++ r ∷ []))
      (sym (none-above (extends (problem_of question) rows) below (question.shape.q ^ question.shape.m) most
      (λ r low high. sym (same r) ∙ none r low high)))
