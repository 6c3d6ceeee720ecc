-- The files that a text gives have different names, whether their designs are searched for or of rules.
use Rattle.std.proofs.Common.{ℕ, ◌≡◌, ◌<◌, ◌≤◌, ◌+◌, ◌^◌, ◌⊎◌, ◌∙◌, Bool, true, false, List, [], ◌∷◌, ◌++◌, map, length}
use Rattle.std.proofs.Common.{refl, sym, subst, ap, arith, append_assoc, append-nil, inl, inr, Option, Some, None}
use Rattle.std.proofs.Common.{Result, Ok, Err}
use Rattle.std.specs.Prelude.{if◌then◌else◌}
use Rattle.std.specs.List.{AllByRecursion, IsDistinct}
use Rattle.std.proofs.lemmas.Bool.{and_parts, both_ways}
use Rattle.std.proofs.lemmas.List.{length-map}
use Rattle.std.proofs.lemmas.List.Elements.{recursion_from_All}
use Rattle.fx_base.specs.Acts.{Event, Piece, WholeFile}
use Rattle.fx_base.proofs.Lists.{each-weaker, each-append, each-append_parts}
use Rattle.fx_base.specs.Members.{Has}
use Rattle.fx_base.proofs.Members.{has-left, has-right, has-each}
use Rattle.fx_designs.specs.Problems.{Problem}
use Rattle.fx_text.specs.Names.{IsName, is_same_name}
use Rattle.fx_text.proofs.Distinct.{joined_differ, none_differ, one_differs, behind_differ}
use Rattle.fx_vectors.proofs.Limits.{order-bounds}
use Rattle.fx_vectors.specs.Matrix.{MatrixView}
use Rattle.fx_vectors.specs.declared.book.NamedBook.{NamedBook}
use Rattle.fx_outputs.specs.declared.output.OutputSpec.{OutputSpec}
use Rattle.fx_outputs.specs.Outputs.{names_of}
use Rattle.fx_settings.specs.Settings.{is_level}
use Rattle.fx_statements.specs.Steps.{Meaning}
use Rattle.fx_statements.specs.Questions.{outcome_of}
use Rattle.fx_book.specs.QuestionBooks.{book_for, has_book}
use Rattle.fx_answer.specs.Books.{books_from, books_of}
use Rattle.fx_statements.specs.declared.fold.Fold.{Fold}
use Rattle.fx_statements.specs.declared.fold.Fold.TheVariants.{Without, Factors}
use Rattle.fx_derived.specs.Tables.{TableView}
use Rattle.fx_program.specs.Files.{book_files, book_name, design_files, file_name, file_of, fold_file, fold_name}
use Rattle.fx_program.specs.Files.{matrix_in}
use Rattle.fx_program.specs.Files.{names_among, plan_files}
use Rattle.fx_program.specs.Output.{Output, asked_of, in_order, program_output, step_output, worse}
use Rattle.fx_program.specs.Planning.{RuledView, asked_given, given_output, planned_in, planned_output}
use Rattle.fx_program.specs.Plans.{AskedView, asked_as, asked_by, plan_after}
use Rattle.fx_program.specs.Texts.{program_in}
use Rattle.fx_program.specs.declared.plan_fault.PlanFault.{PlanFault}
use Rattle.fx_program.specs.declared.text.TextFault.{TextFault}
use Rattle.fx_program.specs.Claims.{EachStep}
use Rattle.fx_answer.specs.ValidSteps.{IsValidStep}
use Rattle.fx_answer.proofs.Valid.{order_of}
use Rattle.fx_program.proofs.AnyText.{any_text}
use Rattle.fx_program_laws.proofs.NameSpellings.{books_differ, plans_differ, book_and_plan_differ, differ_from}
use Rattle.fx_program_laws.proofs.NameSpellings.{book_and_fold_differ, fold_and_plan_differ, folds_differ}
use Rattle.fx_program_laws.proofs.NameSpellings.{same_from}
use Rattle.fx_program_laws.proofs.PlannedSteps.{are_planned}
use Rattle.fx_program_laws.proofs.StepCounts.{AreSteps, HasFactors, out_names_of, questions_few}
use Rattle.fx_program_laws.proofs.StepCounts.{steps_of_text}
use Rattle.fx_rules.specs.Parts.{blanked, parts_of}

abbrev Name : Type 0
Name = List ℕ

-- ---- names that are apart

-- each of the later names differs from each of the earlier ones
abbrev AreApart : List Name → List Name → Type 0
AreApart names new = AllByRecursion (λ name. AllByRecursion (λ other. is_same_name name other ≡ false) names) new

against : (P : Name → Type 0) (name : Name) (names : List Name) → AllByRecursion P names
    → ((other : Name) → P other → is_same_name name other ≡ false)
    → AllByRecursion (λ other. is_same_name name other ≡ false) names
against P name [] all h = tt
against P name (x ∷ names) all h = (h x all.0, against P name names all.1 h)

cross : (P Q : Name → Type 0) (names new : List Name) → AllByRecursion P names → AllByRecursion Q new
    → ((name other : Name) → Q name → P other → is_same_name name other ≡ false) → AreApart names new
cross P Q names [] all later h = tt
cross P Q names (x ∷ new) all later h =
    (against P x names all (λ other is. h x other later.0 is), cross P Q names new all later.1 h)

turned : (a b : Name) → is_same_name a b ≡ false → is_same_name b a ≡ false
turned a b e = differ_from b a (λ same. both_ways _ e (same_from a b (cc)))

-- ---- the names of a step

-- a number of which the digits are written
abbrev IsSmall : ℕ → Type 0
IsSmall n = n < 10 ^ 64

-- the numbers of books rise
abbrev AreRising : ℕ → List NamedBook → Type 0
AreRising least [] = Unit {0}
AreRising least (b ∷ books) = (least ≤ b.question) × IsSmall b.question × AreRising (b.question + 1) books

rising-from : (least more : ℕ) (books : List NamedBook) → least ≤ more → AreRising more books → AreRising least books
rising-from least more [] le h = tt
rising-from least more (b ∷ books) le h = (omega arith, h.1, h.2)

books_rise : (n : ℕ) (ps : List Problem) → n + length ps < 10 ^ 64 → AreRising n (books_from n ps)
books_rise n [] small = tt
books_rise n (p ∷ ps) small =
    let later = books_rise (n + 1) ps (omega arith) in
    let go : (b : Bool)
    → AreRising n ((if b then record { question = n; book = book_for p } ∷ [] else []) ++ books_from (n + 1) ps) =
    λ b. elim b as
    (λ b. AreRising n ((if b then record { question = n; book = book_for p } ∷ [] else []) ++ books_from (n + 1) ps)) [
      | true ↦ (omega arith, omega arith, later)
      | false ↦ rising-from n (n + 1) _ (omega arith) later
    ] in
    go (has_book p)

abbrev book_names : ℕ → List NamedBook → List Name
book_names number books = map (λ (b : NamedBook). book_name number b.question) books

-- the name of a book of this step, and of a question from this one on
abbrev IsBookOf : ℕ → ℕ → Name → Type 0
IsBookOf number least name = (q : ℕ) × (least ≤ q) × IsSmall q × (name ≡ book_name number q)

each-book : (number least : ℕ) (books : List NamedBook) → AreRising least books
    → AllByRecursion (IsBookOf number least) (book_names number books)
each-book number least [] h = tt
each-book number least (b ∷ books) h =
    let later = each-book number (b.question + 1) books h.2 in (
      (b.question, h.0, h.1, refl),
      each-weaker _ _
          _ (λ name is. (is.0, omega arith, is.2, is.3)) later,
    )

books_apart : (number least : ℕ) (books : List NamedBook) → IsSmall number → AreRising least books
    → IsDistinct is_same_name (book_names number books)
unfolding IsDistinct
books_apart number least [] small h = tt
books_apart number least (b ∷ books) small h = (
  against _ (book_name number b.question) _
      (each-book number _ books h.2)
      (λ other is. subst (λ x. is_same_name (book_name number b.question) x ≡ false) (sym is.3)
      (books_differ number b.question number is.0 small h.1 small is.2
      (λ same. let later = is.1 in let here = same.1 in omega arith))),
  books_apart number (b.question + 1) books small h.2,
)

abbrev AreDifferentPlans : Name → List Name → Type 0
AreDifferentPlans name names = AllByRecursion (λ other. is_same_name name other ≡ false) names

plans_against : (name : Name) (names : List Name) → AreDifferentPlans name names
    → AreDifferentPlans (file_name name) (map file_name names)
plans_against name [] h = tt
plans_against name (x ∷ names) h = (plans_differ name x h.0, plans_against name names h.1)

plans_apart : (names : List Name) → IsDistinct is_same_name names → IsDistinct is_same_name (map file_name names)
unfolding IsDistinct
plans_apart [] h = tt
plans_apart (x ∷ names) h = (plans_against x names h.0, plans_apart names h.1)

-- the name of the plan of one of these OUT names
abbrev IsPlanOf : List Name → Name → Type 0
IsPlanOf outs name = (out : Name) × Has out outs × IsName out × (name ≡ file_name out)

each-plan : (outs : List Name) → AllByRecursion IsName outs → AllByRecursion (IsPlanOf outs) (map file_name outs)
each-plan [] spelled = tt
each-plan (x ∷ outs) spelled = (
  (x, inl refl, spelled.0, refl),
  each-weaker _ _ _
      (λ name is. (is.0, inr is.1, is.2, is.3)) (each-plan outs spelled.1),
)

-- the names of the plans of some OUTPUT statements that are written
abbrev plan_names : ℕ → List AskedView → List AskedView → List Name
plan_names seed earlier asked = names_among (plan_files seed earlier asked)

-- what holds of the names that all plans would have holds of those that are written
module _ (P : Name → Type 0) (seed : ℕ) (factors : List (List ℕ)) (matrix : Option MatrixView) where
  written_each : (earlier : List AskedView) (outputs : List OutputSpec)
      → AllByRecursion P (map file_name (names_of outputs))
      → AllByRecursion P (plan_names seed earlier (map (asked_as factors matrix) outputs))
  written_each earlier [] h = tt
  written_each earlier (o ∷ outputs) h =
      let asked = asked_as factors matrix o in
      let rest = map (asked_as factors matrix) outputs in
      let later = written_each (earlier ++ asked ∷ []) outputs h.1 in
      let go : (plan : Option TableView)
      → AllByRecursion P (names_among (file_of o.name plan ++ plan_files seed (earlier ++ asked ∷ []) rest)) =
      λ plan. elim plan as
      (λ plan. AllByRecursion P (names_among (file_of o.name plan ++ plan_files seed (earlier ++ asked ∷ []) rest))) [
        | None ↦ later
        | Some table ↦ (h.0, later)
      ] in
      go (plan_after seed earlier asked)

module _ (seed : ℕ) (factors : List (List ℕ)) (matrix : Option MatrixView) where
  written_apart : (earlier : List AskedView) (outputs : List OutputSpec)
      → IsDistinct is_same_name (map file_name (names_of outputs))
      → IsDistinct is_same_name (plan_names seed earlier (map (asked_as factors matrix) outputs))
  unfolding IsDistinct
  written_apart earlier [] h = tt
  written_apart earlier (o ∷ outputs) h =
      let asked = asked_as factors matrix o in
      let rest = map (asked_as factors matrix) outputs in
      let later = written_apart (earlier ++ asked ∷ []) outputs h.1 in
      let each =
      written_each (λ other. is_same_name (file_name o.name) other ≡ false) seed factors matrix (earlier ++ asked ∷ [])
      outputs h.0 in
      let go : (plan : Option TableView)
      → IsDistinct is_same_name (names_among (file_of o.name plan ++ plan_files seed (earlier ++ asked ∷ []) rest)) =
      λ plan. elim plan as
      (λ plan. IsDistinct is_same_name
      (names_among (file_of o.name plan ++ plan_files seed (earlier ++ asked ∷ []) rest))) [
        | None ↦ later
        | Some table ↦ (each, later)
      ] in
      go (plan_after seed earlier asked)

plans_given : (seed : ℕ) (earlier : List AskedView) (step : Meaning) (matrix : Option MatrixView)
    → AllByRecursion IsName (names_of step.outputs)
    → AllByRecursion (IsPlanOf (names_of step.outputs)) (plan_names seed earlier (asked_by step matrix))
plans_given seed earlier step matrix spelled =
    written_each _ seed step.factors matrix earlier step.outputs
    (each-plan _ spelled)

-- the name of the fold-over, if there is one
abbrev fold_names : ℕ → Fold → Option MatrixView → List Name
fold_names number Without matrix = []
fold_names number (Factors folded) None = []
fold_names number (Factors folded) (Some matrix) = fold_name number ∷ []

abbrev IsFoldOf : ℕ → Name → Type 0
IsFoldOf number name = name ≡ fold_name number

folds_given : (number : ℕ) (fold : Fold) (matrix : Option MatrixView)
    → AllByRecursion (IsFoldOf number) (fold_names number fold matrix)
folds_given number Without matrix = tt
folds_given number (Factors folded) None = tt
folds_given number (Factors folded) (Some matrix) = (refl, tt)

folds_apart : (number : ℕ) (fold : Fold) (matrix : Option MatrixView)
    → IsDistinct is_same_name (fold_names number fold matrix)
folds_apart number Without matrix = none_differ
folds_apart number (Factors folded) None = none_differ
folds_apart number (Factors folded) (Some matrix) = one_differs _

given_apart : (seed : ℕ) (earlier : List AskedView) (step : Meaning) (matrix : Option MatrixView)
    → IsDistinct is_same_name (names_of step.outputs)
    → IsDistinct is_same_name (plan_names seed earlier (asked_by step matrix))
given_apart seed earlier step matrix h =
    written_apart seed step.factors matrix earlier step.outputs (plans_apart _ h)

-- OUT names of one list and of another one behind it
front_differ : (xs ys : List Name) → IsDistinct is_same_name (xs ++ ys) → IsDistinct is_same_name xs
unfolding IsDistinct
front_differ [] ys h = tt
front_differ (x ∷ xs) ys h =
    ((each-append_parts _ xs ys h.0).0, front_differ xs ys h.1)

across : (xs ys : List Name) (a b : Name) → IsDistinct is_same_name (xs ++ ys) → Has a xs → Has b ys
    → is_same_name a b ≡ false
unfolding IsDistinct
across [] ys a b h left right = absurd left
across (x ∷ xs) ys a b h (inl e) right =
    rw e (has-each _ b _ h.0 (has-right b xs ys right))
across (x ∷ xs) ys a b h (inr left) right = across xs ys a b h.1 left right

-- ---- the names of all steps

abbrev design_names : ℕ → ℕ → List AskedView → Meaning → Option MatrixView → List Name
design_names seed number earlier step matrix =
    plan_names seed earlier (asked_by step matrix) ++ fold_names number step.fold matrix

-- that of a step of which its files are made: its books, and its matrix, if it has one
record Filed : Type 0 where
  pub step : Meaning
  pub books : List NamedBook
  pub matrix : Option MatrixView

-- a step whose design is searched for
abbrev searched : Meaning → Filed
searched step = record {
  step = step;
  books = books_of step;
  matrix = matrix_in (outcome_of step).dimensions (outcome_of step).ending;
}

-- a step whose design is of rules
abbrev given : RuledView → Filed
given one = record { step = one.step; books = []; matrix = Some one.matrix }

abbrev outs_of : List Filed → List Name
outs_of all = out_names_of (map (λ (one : Filed). one.step) all)

abbrev step_names : ℕ → ℕ → List AskedView → Filed → List Name
step_names seed number earlier one =
    book_names number one.books ++ design_names seed number earlier one.step one.matrix

abbrev all_names : ℕ → ℕ → List AskedView → List Filed → List Name
all_names seed number earlier [] = []
all_names seed number earlier (one ∷ all) =
    step_names seed number earlier one ++ all_names seed (number + 1) (earlier ++ asked_by one.step one.matrix) all

among-append : (xs ys : List Event) → names_among (xs ++ ys) ≡ names_among xs ++ names_among ys
among-append [] ys = refl
among-append (Piece bytes ∷ xs) ys = among-append xs ys
among-append (WholeFile name content ∷ xs) ys = cc (among-append xs ys)

among-books : (number : ℕ) (books : List NamedBook) → names_among (book_files number books) ≡ book_names number books
among-books number [] = refl
among-books number (b ∷ books) = cc (among-books number books)

among-fold : (number : ℕ) (factors : List (List ℕ)) (fold : Fold) (matrix : Option MatrixView)
    → names_among (fold_file number factors fold matrix) ≡ fold_names number fold matrix
among-fold number factors Without matrix = refl
among-fold number factors (Factors folded) None = refl
among-fold number factors (Factors folded) (Some matrix) = refl

among-designs : (seed number : ℕ) (earlier : List AskedView) (step : Meaning) (matrix : Option MatrixView)
    → names_among (design_files seed number earlier step matrix) ≡ design_names seed number earlier step matrix
among-designs seed number earlier step matrix =
    cc (
      among-append (plan_files seed earlier (asked_by step matrix)) (fold_file number step.factors step.fold matrix),
      among-fold number step.factors step.fold matrix,
    )

among-step : (seed number : ℕ) (earlier : List AskedView) (one : Filed) (bytes : List ℕ)
    → names_among
    ((book_files number one.books ++ design_files seed number earlier one.step one.matrix) ++ Piece bytes ∷ [])
    ≡ step_names seed number earlier one
among-step seed number earlier one bytes =
    let files = book_files number one.books ++ design_files seed number earlier one.step one.matrix in
    cc (
      among-append files (Piece bytes ∷ []),
      append-nil (names_among files),
      among-append
          (book_files number one.books) (design_files seed number earlier one.step one.matrix),
      among-books number one.books,
      among-designs seed number earlier one.step one.matrix,
    )

-- the names of what is given in order, where each step gives the files of its books and its matrix
module _ {A : Type 0} (seed : ℕ) (give : ℕ → List AskedView → A → Output) (asks : A → List AskedView)
    (filed : A → Filed)
    (own : (number : ℕ) (earlier : List AskedView) (a : A)
    → names_among (give number earlier a).events ≡ step_names seed number earlier (filed a))
    (asked : (a : A) → asks a ≡ asked_by (filed a).step (filed a).matrix) where
  among-steps : (number : ℕ) (earlier : List AskedView) (events : List Event) (status : ℕ) (steps : List A)
      → names_among (in_order give asks number earlier events status steps).events
      ≡ names_among events ++ all_names seed number earlier (map filed steps)
  among-steps number earlier events status [] = sym (append-nil (names_among events))
  among-steps number earlier events status (step ∷ steps) =
      let here = (give number earlier step).events in
      let plans = earlier ++ asks step in
      let names = step_names seed number earlier (filed step) in
      cc (
        among-steps (number + 1) plans (events ++ here) (worse status (give number earlier step).status) steps,
        among-append events here,
        own number earlier step,
        append_assoc (names_among events) names
            (all_names seed (number + 1) plans (map filed steps)),
        asked step,
      )

-- the name of a file of the step of this number that no OUT name makes: of a book, or of the fold-over
abbrev IsNumbered : ℕ → Name → Type 0
IsNumbered k name = IsBookOf k 0 name ⊎ IsFoldOf k name

-- a name of this step
abbrev IsOwn : ℕ → List Name → Name → Type 0
IsOwn number outs name = IsNumbered number name ⊎ IsPlanOf outs name

-- a name of a step from this number on
abbrev IsNameOf : ℕ → List Name → Name → Type 0
IsNameOf number outs name = ((k : ℕ) × (number ≤ k) × IsSmall k × IsNumbered k name) ⊎ IsPlanOf outs name

-- files of different steps that no OUT name makes
numbered_differ : (k j : ℕ) (name other : Name) → IsSmall k → IsSmall j → (k ≡ j → ⊥) → IsNumbered k name
    → IsNumbered j other → is_same_name name other ≡ false
numbered_differ k j name other hk hj apart (inl b) (inl c) =
    subst (λ (x : Name). is_same_name x other ≡ false) (sym b.3)
    (subst (λ (x : Name). is_same_name (book_name k b.0) x ≡ false) (sym c.3)
    (books_differ k b.0 j c.0 hk b.2 hj c.2 (λ same. apart same.0)))
numbered_differ k j name other hk hj apart (inl b) (inr e) =
    subst (λ (x : Name). is_same_name x other ≡ false) (sym b.3)
    (subst (λ (x : Name). is_same_name (book_name k b.0) x ≡ false) (sym e) (book_and_fold_differ k b.0 j hk b.2 hj))
numbered_differ k j name other hk hj apart (inr e) (inl c) =
    turned other name
    (subst (λ (x : Name). is_same_name x name ≡ false) (sym c.3)
    (subst (λ (x : Name). is_same_name (book_name j c.0) x ≡ false) (sym e) (book_and_fold_differ j c.0 k hj c.2 hk)))
numbered_differ k j name other hk hj apart (inr e) (inr f) =
    subst (λ (x : Name). is_same_name x other ≡ false) (sym e)
    (subst (λ (x : Name). is_same_name (fold_name k) x ≡ false) (sym f) (folds_differ k j hk hj apart))

-- such a file and a plan
numbered_and_plan : (k : ℕ) (outs : List Name) (name other : Name) → IsSmall k → IsNumbered k name → IsPlanOf outs other
    → is_same_name name other ≡ false
numbered_and_plan k outs name other hk (inl b) plan =
    rw b.3 (rw (← plan.3) at (book_and_plan_differ k b.0 plan.0 hk b.2))
numbered_and_plan k outs name other hk (inr e) plan =
    rw e (rw (← plan.3) at (fold_and_plan_differ k plan.0 hk plan.2))

-- the books of a step are numbered in order
abbrev AreNumbered : Filed → Type 0
AreNumbered one = AreRising 1 one.books

record AreTold (seed number : ℕ) (earlier : List AskedView) (all : List Filed) : Type 0 where
  pub differ : IsDistinct is_same_name (all_names seed number earlier all)
  pub each : AllByRecursion (IsNameOf number (outs_of all)) (all_names seed number earlier all)

module _ (seed number : ℕ) (earlier : List AskedView) (one : Filed) (small : IsSmall number) (rise : AreNumbered one)
    (spelled : AllByRecursion IsName (names_of one.step.outputs)) where
  abbrev step : Meaning
  step = one.step

  abbrev matrix_of_step : Option MatrixView
  matrix_of_step = one.matrix

  abbrev books : List Name
  books = book_names number one.books

  abbrev plans : List Name
  plans = plan_names seed earlier (asked_by step matrix_of_step)

  abbrev folds : List Name
  folds = fold_names number step.fold matrix_of_step

  designs_each : AllByRecursion (λ name. IsPlanOf (names_of step.outputs) name ⊎ IsFoldOf number name) (plans ++ folds)
  designs_each =
      each-append _ plans folds
      (each-weaker _ (λ name. IsPlanOf (names_of step.outputs) name ⊎ IsFoldOf number name)
      plans (λ name is. inl is) (plans_given seed earlier step matrix_of_step spelled))
      (each-weaker _ (λ name. IsPlanOf (names_of step.outputs) name ⊎ IsFoldOf number name)
      folds (λ name is. inr is) (folds_given number step.fold matrix_of_step))

  designs_apart : IsDistinct is_same_name (names_of step.outputs) → IsDistinct is_same_name (plans ++ folds)
  designs_apart names =
      joined_differ plans folds (given_apart seed earlier step matrix_of_step names)
      (folds_apart number step.fold matrix_of_step)
      (cross _ _ plans folds
      (plans_given seed earlier step matrix_of_step spelled) (folds_given number step.fold matrix_of_step)
      (λ name other fold plan. numbered_and_plan number _ name other small (inr fold) plan))

  book_and_design : (name other : Name) → (IsPlanOf (names_of step.outputs) name ⊎ IsFoldOf number name)
      → IsBookOf number 1 other → is_same_name name other ≡ false
  book_and_design name other (inl plan) book =
      turned other name
      (numbered_and_plan number _ other name small (inl (book.0, omega arith, book.2, book.3)) plan)
  book_and_design name other (inr e) book =
      turned other name
      (rw book.3 (subst (λ x. is_same_name (book_name number book.0) x ≡ false) (sym e)
      (book_and_fold_differ number book.0 number small book.2 small)))

  step_apart : IsDistinct is_same_name (names_of step.outputs)
      → IsDistinct is_same_name (step_names seed number earlier one)
  step_apart names =
      joined_differ books _ (books_apart number 1 one.books small rise) (designs_apart names)
      (cross _ _
      books _ (each-book number 1 one.books rise) designs_each
      (λ name other design book. book_and_design name other design book))

  own_each : AllByRecursion (IsOwn number (names_of step.outputs)) (step_names seed number earlier one)
  own_each =
      each-append _ books _
      (each-weaker _ (IsOwn number (names_of step.outputs)) books
      (λ name is. inl (inl (is.0, omega arith, is.2, is.3))) (each-book number 1 one.books rise))
      (each-weaker _
      (IsOwn number (names_of step.outputs)) _ (λ name is. design_own name is) designs_each)
    where
      design_own : (name : Name) → (IsPlanOf (names_of step.outputs) name ⊎ IsFoldOf number name)
          → IsOwn number (names_of step.outputs) name
      design_own name (inl plan) = inr plan
      design_own name (inr e) = inl (inr e)

  -- its names, as those of steps from this one on
  step_each : (outs : List Name)
      → AllByRecursion (IsNameOf number (names_of step.outputs ++ outs)) (step_names seed number earlier one)
  step_each outs =
      each-weaker _ _
      _ (λ name is. own_wider name is) own_each
    where
      own_wider : (name : Name) → IsOwn number (names_of step.outputs) name
          → IsNameOf number (names_of step.outputs ++ outs) name
      own_wider name (inl is) = inl (number, omega arith, small, is)
      own_wider name (inr is) = inr (is.0, has-left is.0 _ outs is.1, is.2, is.3)

  -- a name of it, and one of a later step
  later_differs : (outs : List Name) → IsDistinct is_same_name (names_of step.outputs ++ outs) → (name other : Name)
      → IsNameOf (number + 1) outs name → IsOwn number (names_of step.outputs) other
      → is_same_name name other ≡ false
  later_differs outs names name other (inl later) (inl mine) =
      numbered_differ later.0 number name other later.2 small
      (λ same. omega arith) later.3 mine
  later_differs outs names name other (inl later) (inr plan) =
      numbered_and_plan later.0 _ name other later.2 later.3 plan
  later_differs outs names name other (inr plan) (inl mine) =
      turned other name (numbered_and_plan number outs other name small mine plan)
  later_differs outs names name other (inr plan) (inr mine) =
      rw plan.3 (rw (← mine.3) at (plans_differ plan.0 mine.0
      (turned mine.0 plan.0 (across _ outs mine.0 plan.0 names mine.1 plan.1))))

all_told : (seed number : ℕ) (earlier : List AskedView) (all : List Filed) → number + length all < 10 ^ 64
    → AllByRecursion AreNumbered all
    → IsDistinct is_same_name (outs_of all) → AllByRecursion IsName (outs_of all)
    → AreTold seed number earlier all
all_told seed number earlier [] small rise names spelled = record { differ = none_differ; each = tt }
all_told seed number earlier (one ∷ all) small rise names spelled =
    let outs = outs_of all in
    let here = names_of one.step.outputs in
    let both = each-append_parts IsName here outs spelled in
    let behind = earlier ++ asked_by one.step one.matrix in
    let later =
    all_told seed (number + 1) behind all (omega arith) rise.1 (behind_differ here outs names) both.1 in
    let number_small : IsSmall number = omega arith in
    record {
      differ = joined_differ _ _
          (step_apart seed number earlier one number_small rise.0 both.0 (front_differ here outs names)) later.differ
          (cross _ _
          _ _
          (own_each seed number earlier one number_small rise.0 both.0) later.each
          (λ name other is was. later_differs seed number earlier one number_small rise.0 both.0 outs names name other
          is was));
      each = each-append _ _
          _ (step_each seed number earlier one number_small rise.0 both.0 outs)
          (each-weaker _ (IsNameOf number (here ++ outs))
          _ (wider number here outs) later.each);
    }
  where
    wider : (number : ℕ) (own outs : List Name) (name : Name) → IsNameOf (number + 1) outs name
        → IsNameOf number (own ++ outs) name
    wider number own outs name (inl is) = inl (is.0, omega arith, is.2, is.3)
    wider number own outs name (inr is) = inr (is.0, has-right is.0 own outs is.1, is.2, is.3)

-- ---- of any text

two_levels : (q : ℕ) → is_level q ≡ true → 2 ≤ q
two_levels q e = (order-bounds q (order_of q e)).0

-- the books of a step are numbered by its questions, of which there are few
rise_of_step : (step : Meaning) → IsValidStep step → HasFactors step → AreNumbered (searched step)
rise_of_step step valid own =
    let a = and_parts _ _ valid.settings in
    let b = and_parts _ _ a.0 in
    let c = and_parts _ _ b.0 in
    let d = and_parts _ _ c.0 in
    let e = and_parts _ _ d.0 in
    let count = questions_few step (two_levels step.settings.q e.0) d.1 own.few in
    books_rise 1 _ (omega (arith, wide))
  where
    wide : 43 < 10 ^ 64
    wide = omega arith

rise_searched : (steps : List Meaning) → AllByRecursion IsValidStep steps
    → AllByRecursion HasFactors steps → AllByRecursion AreNumbered (map searched steps)
rise_searched [] valid own = tt
rise_searched (step ∷ steps) valid own = (rise_of_step step valid.0 own.0, rise_searched steps valid.1 own.1)

rise_given : (steps : List RuledView) → AllByRecursion AreNumbered (map given steps)
rise_given [] = tt
rise_given (one ∷ steps) = (tt, rise_given steps)

-- the steps of what is filed
steps_searched : (steps : List Meaning) → map (λ (one : Filed). one.step) (map searched steps) ≡ steps
steps_searched [] = refl
steps_searched (step ∷ steps) = cc (steps_searched steps)

steps_given : (steps : List RuledView)
    → map (λ (one : Filed). one.step) (map given steps) ≡ map (λ (one : RuledView). one.step) steps
steps_given [] = refl
steps_given (one ∷ steps) = cc (steps_given steps)

-- what is filed of the steps of a text
of_steps : (seed : ℕ) (all : List Filed) (steps : List Meaning) → map (λ (one : Filed). one.step) all ≡ steps
    → AllByRecursion AreNumbered all → AreSteps steps → IsDistinct is_same_name (all_names seed 1 [] all)
of_steps seed all steps are rise s =
    let count = sym (length-map all (λ one. one.step)) ∙ ap length are in
    (all_told seed 1 [] all (omega arith) rise
    (rw are s.names)
    (rw are s.spelled)).differ

program_differs : (seed : ℕ) (program : Result (List Meaning) TextFault) → EachStep IsValidStep program
    → ((steps : List Meaning) → program ≡ Ok steps → AreSteps steps)
    → IsDistinct is_same_name (names_among (program_output seed program).events)
program_differs seed (Ok steps) valid are =
    let s = are steps refl in
    subst (IsDistinct is_same_name)
    (sym (among-steps seed (step_output seed) asked_of searched
    (λ number earlier step. among-step seed number earlier (searched step) _) (λ step. refl) 1 [] [] 0 steps))
    (of_steps seed _ steps (steps_searched steps)
    (rise_searched steps (recursion_from_All IsValidStep steps valid) s.factors) s)
program_differs seed (Err fault) valid are = none_differ

pub names_differ : (seed : ℕ) (text : List ℕ)
    → IsDistinct is_same_name (names_among (program_output seed (program_in text)).events)
names_differ seed text =
    program_differs seed _ (any_text IsValidStep (λ step valid. valid) text) (steps_of_text text)

plan_differs : (seed : ℕ) (text : List ℕ) (plan : Result (List RuledView) PlanFault) → planned_in text ≡ plan
    → IsDistinct is_same_name (names_among (planned_output seed plan).events)
plan_differs seed text (Ok steps) is =
    let own = map (λ one. one.step) steps in
    subst (IsDistinct is_same_name)
    (sym (among-steps seed (given_output seed) asked_given given
    (λ number earlier one. among-step seed number earlier (given one) _) (λ one. refl) 1 [] [] 0 steps))
    (of_steps seed _ own (steps_given steps) (rise_given steps)
    (steps_of_text (blanked text (parts_of text)) own (are_planned text steps is).program))
plan_differs seed text (Err wrong) is = none_differ

pub planned_names_differ : (seed : ℕ) (text : List ℕ)
    → IsDistinct is_same_name (names_among (planned_output seed (planned_in text)).events)
planned_names_differ seed text = plan_differs seed text _ refl
