-- The plans of the OUTPUT statements of a program, by their numbers, and what they add to files and lines.
use Rattle.std.proofs.Common.{ℕ, ◌≡◌, ◌<◌, ◌≤◌, ◌+◌, true, List, [], ◌∷◌, ◌++◌, Option, Some, None, Result}
use Rattle.std.proofs.Common.{Ok, Err, length, map, take, drop, get_or, refl, sym, ap, ap₂, subst, ◌∙◌, arith, append_assoc}
use Rattle.std.specs.Prelude.{IsErrAnd}
use Rattle.std.proofs.Math.Seq.{get_or-append_seam}
use Rattle.std.proofs.lemmas.List.{append-nil, drop_more, map-append, take-append-drop}
use Rattle.fx_base.specs.Acts.{Event}
use Rattle.fx_base.proofs.Doing.{part_none}
use Rattle.fx_derived.specs.Tables.{TableView}
use Rattle.fx_outputs.specs.Histories.{added}
use Rattle.fx_outputs.proofs.Histories.{added-append, built-append, built-at, built-length, built-past, built-take}
use Rattle.fx_outputs.specs.declared.output.OutputSpec.{OutputSpec}
use Rattle.fx_outputs.specs.declared.replication.Rep.TheVariants.{Plan}
use Rattle.fx_plan.specs.Products.{plan_of, rows_of_rep}
use Rattle.fx_runs.specs.Runs.{design_of}
use Rattle.fx_program.specs.Files.{output_lines, plan_lines}
use Rattle.fx_program.specs.Outside.{ShelfView, ShelvesFiles}
use Rattle.fx_program.specs.Plans.{AskedView, is_handed, named_in, plan_after, plan_among, plan_behind}
use Rattle.fx_program.specs.Plans.{plan_made, plans_of}
use Rattle.fx_vectors.specs.Matrix.{MatrixView}
use Rattle.fx_program.specs.declared.stop.Stop.{Stop}
use Rattle.fx_program.specs.declared.stop.Stop.TheVariants as stop
use Rattle.fx_program.proofs.Endings.{error_is}
use Rattle.fx_program.proofs.Filing.{ShelvedSoFar, shelved_all, shelved_both, stopped_in_first}

-- ---- plans by their numbers

-- what is repeated by is there
pub made_of : (seed : ℕ) (factors : List (List ℕ)) (output : OutputSpec) (matrix : MatrixView)
    (inner outer : Option TableView) → is_handed output.pointrep inner ≡ true → is_handed output.designrep outer ≡ true
    → plan_made seed factors output matrix inner outer
    ≡ Some (plan_of factors (design_of matrix) output seed (rows_of_rep output.pointrep inner)
    (rows_of_rep output.designrep outer))
made_of seed factors output matrix inner outer inside outside = rw (inside, outside) refl

module _ (seed : ℕ) where
  -- the plan of an OUTPUT statement is made of the plans of those before it
  pub at_number : (asked : List AskedView) (number : ℕ) (one : AskedView) → number < length asked
      → one ≡ get_or asked number one
      → get_or (plans_of seed asked) number None ≡ plan_behind seed (plans_of seed (take number asked)) one
  at_number asked number one low is =
      built-at (plan_behind seed) asked number None one low
      ∙ ap (plan_behind seed (plans_of seed (take number asked))) (sym is)

  -- and of the plans that it names
  pub made : (asked : List AskedView) (number : ℕ) (one : AskedView) (matrix : MatrixView)
      (inner outer : Option TableView) → number < length asked → one ≡ get_or asked number one
      → one.matrix ≡ Some matrix
      → inner ≡ named_in (plans_of seed (take number asked)) one.output.pointrep
      → outer ≡ named_in (plans_of seed (take number asked)) one.output.designrep
      → plan_made seed one.factors one.output matrix inner outer ≡ get_or (plans_of seed asked) number None
  made asked number one matrix inner outer low is has inside outside =
      ap₂ (plan_made seed one.factors one.output matrix) inside outside
      ∙ sym (at_number asked number one low is
      ∙ ap (plan_among seed one.factors one.output (plans_of seed (take number asked))) has)

  -- there is none without a matrix
  pub not_made : (asked : List AskedView) (number : ℕ) (one : AskedView) → number < length asked
      → one ≡ get_or asked number one → one.matrix ≡ None → None ≡ get_or (plans_of seed asked) number None
  not_made asked number one low is has =
      sym (at_number asked number one low is
      ∙ ap (plan_among seed one.factors one.output (plans_of seed (take number asked))) has)

  -- a plan of too large a number is not there
  pub past_is : (asked : List AskedView) (before number : ℕ) → before ≤ length asked → before ≤ number
      → named_in (plans_of seed (take before asked)) (Plan number) ≡ None
  past_is asked before number within high = built-past (plan_behind seed) asked before number None within high

  -- a plan that is named among those before a number is that of its own number
  pub named_is : (asked : List AskedView) (before number : ℕ) → before ≤ length asked → number < before
      → get_or (plans_of seed asked) number None ≡ named_in (plans_of seed (take before asked)) (Plan number)
  named_is asked before number within low = sym (built-take (plan_behind seed) asked before number None within low)

  -- the plan of the last one
  pub last_is : (earlier : List AskedView) (one : AskedView)
      → get_or (plans_of seed (earlier ++ one ∷ [])) (length earlier) None ≡ plan_after seed earlier one
  last_is earlier one =
      let before : List (Option TableView) = plans_of seed earlier in
      let many : length before ≡ length earlier = omega (arith, built-length (plan_behind seed) [] earlier) in
      ap (λ (l : List (Option TableView)). get_or l (length earlier) None)
      (built-append (plan_behind seed) [] earlier (one ∷ []))
      ∙ ap (λ (k : ℕ). get_or (before ++ plan_behind seed before one ∷ []) k None) (sym many)
      ∙ get_or-append_seam before (plan_behind seed before one) [] None

-- ---- what is added

module _ {A B : Type 0} (f : List A → A → List B) where
  -- by one more
  pub added_one : (earlier xs : List A) (x : A)
      → added f earlier (xs ++ x ∷ []) ≡ added f earlier xs ++ f (earlier ++ xs) x
  added_one earlier xs x =
      added-append f earlier xs (x ∷ []) ∙ ap (λ (l : List B). added f earlier xs ++ l) (append-nil (f (earlier ++ xs) x))

-- the lines of one more OUTPUT statement
pub lines_more : (seed : ℕ) (earlier before plans : List AskedView) (asked one : AskedView) (first lines new : List ℕ)
    → plans ≡ earlier ++ before → asked ≡ one → lines ≡ first ++ output_lines seed earlier before
    → new ≡ lines ++ plan_lines seed asked (plan_after seed plans asked)
    → new ≡ first ++ output_lines seed earlier (before ++ one ∷ [])
lines_more seed earlier before plans asked one first lines new with_before is so_far more =
    let f : List AskedView → AskedView → List ℕ = λ l x. plan_lines seed x (plan_after seed l x) in
    more ∙ ap₂ (λ (l r : List ℕ). l ++ r) so_far (ap₂ f with_before is)
    ∙ append_assoc first (output_lines seed earlier before) (f (earlier ++ before) one)
    ∙ ap (λ (l : List ℕ). first ++ l) (sym (added_one f earlier before one))

-- the statements with one more
pub plans_more : {A : Type 0} (earlier before plans new : List A) (asked one : A) → plans ≡ earlier ++ before
    → asked ≡ one → new ≡ plans ++ asked ∷ [] → new ≡ earlier ++ (before ++ one ∷ [])
plans_more {A} earlier before plans new asked one with_before is more =
    more ∙ ap₂ (λ (l : List A) (x : A). l ++ x ∷ []) with_before is ∙ append_assoc earlier before (one ∷ [])

module _ {X A : Type 0} (g : X → A) (xs : List X) (i : ℕ) (d : X) (more : i < length xs) where
  -- some first items, the next, and the rest
  pub in_parts : map g xs ≡ map g (take i xs) ++ g (get_or xs i d) ∷ map g (drop (i + 1) xs)
  in_parts =
      sym (ap (map g) (take-append-drop i xs)) ∙ map-append g (take i xs) (drop i xs)
      ∙ ap (λ (l : List X). map g (take i xs) ++ map g l) (drop_more xs i d more)

-- ---- files

-- no file was begun when memory ran out
pub none_shelved : {T : Type 0} (events : List Event) (old : ShelfView) (ended : Result T Stop)
    → IsErrAnd ended (λ e. e ≡ stop.NoMemory) → ShelvesFiles events old old ended
none_shelved events old ended h = subst (ShelvesFiles events old old) (error_is ended stop.NoMemory h) (record {
  done = tt;
  part = record { whatever = λ written. part_none _ _ };
  cause = record { failed = λ e. absurd (cc e); unchanged = λ e. refl };
  room = refl;
  closed = tt;
})

-- all that was to be shelved is shelved
pub so_far_of : {T : Type 0} {events : List Event} {old new : ShelfView} {x : T} → ShelvesFiles events old new (Ok x)
    → ShelvedSoFar events old new
so_far_of shelved = record {
  files = shelved.done;
  closed = shelved.closed;
  count = ap (λ (l : List ℕ). get_or l 0 0) (shelved.cause.unchanged (λ e. absurd (cc e)));
  room = shelved.room;
}

module _ {A : Type 0} (f : List A → A → List Event) (earlier xs : List A) (x : A) where
  -- the files of one more
  pub one_shelved : {T : Type 0} {y : T} {old mid new : ShelfView} → ShelvedSoFar (added f earlier xs) old mid
      → ShelvesFiles (f (earlier ++ xs) x) mid new (Ok y) → ShelvedSoFar (added f earlier (xs ++ x ∷ [])) old new
  one_shelved {T} {y} {old} {mid} {new} so_far one =
      subst (λ (events : List Event). ShelvedSoFar events old new) (sym (added_one f earlier xs x))
      (so_far_of (shelved_both _ (shelved_all y so_far) one))

  -- stopped in these
  pub stopped_in_one : {T U : Type 0} {old mid new : ShelfView} (rest : List A) (why : Stop)
      → ShelvedSoFar (added f earlier xs) old mid → ShelvesFiles {T = T} (f (earlier ++ xs) x) mid new (Err why)
      → (ended : Result U Stop) → IsErrAnd ended (λ e. e ≡ why)
      → ShelvesFiles (added f earlier (xs ++ x ∷ rest)) old new ended
  stopped_in_one {T} {U} {old} {mid} {new} rest why so_far one ended h =
      let both : ShelvesFiles {T = T} (added f earlier xs ++ f (earlier ++ xs) x) old new (Err why) =
      shelved_both {T = ℕ} (f (earlier ++ xs) x) (shelved_all 0 so_far) one in
      let events : (added f earlier xs ++ f (earlier ++ xs) x) ++ added f ((earlier ++ xs) ++ x ∷ []) rest
      ≡ added f earlier (xs ++ x ∷ rest) =
      append_assoc (added f earlier xs) (f (earlier ++ xs) x) (added f ((earlier ++ xs) ++ x ∷ []) rest)
      ∙ sym (added-append f earlier xs (x ∷ rest)) in
      subst (λ (events : List Event). ShelvesFiles events old new ended) events
      (stopped_in_first (added f ((earlier ++ xs) ++ x ∷ []) rest) why both ended h)
