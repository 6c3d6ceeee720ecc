-- The matrix that an outcome has, also where the budget ended, is the answer of a question, or the one that the search
-- of a question carries; so its runs meet what the question requires. Where the asking ends with the first answer, and
-- no least pattern is asked, an ended budget leaves none.
use Rattle.std.proofs.Common.{ℕ, ◌≡◌, ◌+◌, ◌-◌, ◌&&◌, Bool, true, false, length, filter, List, [], ◌∷◌, ◌++◌, Option}
use Rattle.std.proofs.Common.{Some, None, refl, sym, ap, ◌∙◌, subst, inl, inr, ◌⊎◌, eqb-true}
use Rattle.std.specs.Prelude.{find, is_some, not, if◌then◌else◌}
use Rattle.std.specs.List.{AllByRecursion, list_all}
use Rattle.std.proofs.lemmas.Bool.{cases_Bool, cond-true, cond-false, and_parts}
use Rattle.fx_designs.specs.Galois.{IsField}
use Rattle.fx_designs.specs.Problems.{Problem}
use Rattle.fx_designs.specs.Demands.{is_met}
use Rattle.fx_designs.specs.Answers.{answer, prefixes}
use Rattle.fx_designs.specs.Patterns.{pattern_of, is_less}
use Rattle.fx_designs.specs.Nodes.{is_complete_allowed}
use Rattle.fx_designs.specs.Jobs.{best_of, best_before, carried, first_least}
use Rattle.fx_designs.specs.Outcomes.{BudgetEnded}
use Rattle.fx_reduction.proofs.LeastPattern.{answer-design}
use Rattle.fx_reduction.proofs.Prefix.{met-prefix}
use Rattle.fx_statements.specs.Questions.{Answered, Conclusion, Found, Questions, Turn, asked, concluded, conclusion_by}
use Rattle.fx_statements.specs.Questions.{conclusion_of, cut_short, found_by, is_last, last_found, last_of, left_at}
use Rattle.fx_statements.specs.Questions.{nodes_of, passes, reached_at, reached_by, resolution_wanted}
use Rattle.fx_statements.specs.Questions.{turns, up_to}
use Rattle.fx_statements.proofs.Concluded.{HasEnding, InTurn, each_asked, kept_turn}
use Rattle.fx_answer.specs.StepClaims.{rows_in}
use Rattle.fx_base.proofs.Options.{same_some}

-- what is found of those that pass a test passes it
found-kept : (E D : List ℕ → Bool) (xs : List (List ℕ)) (r : List ℕ) → find E (filter D xs) ≡ Some r → D r ≡ true
found-kept E D [] r h = cc h
found-kept E D (x ∷ xs) r h = elim (cases_Bool (D x)) [
  | inl holds ↦
      let kept : find E (x ∷ filter D xs) ≡ Some r =
      cc (cond-true _ (x ∷ filter D xs) (filter D xs) holds) in
      elim (cases_Bool (E x)) [
        | inl here ↦
            rw (same_some (sym (cond-true _ (Some x) (find E (filter D xs)) here) ∙ kept)) at holds
        | inr other ↦ found-kept E D xs r (cc (cond-false _ (Some x) (find E (filter D xs)) other))
      ]
  | inr fails ↦
      found-kept E D xs r (cc (cond-false _ (x ∷ filter D xs) (filter D xs) fails))
]

-- a matrix that is carried is complete and allowed
best_allowed : (p : Problem) (b : Bool) → p.least ≡ b → (test : List ℕ → Bool) (rows : List ℕ)
    → best_of p test ≡ Some rows → is_complete_allowed p rows ≡ true
unfolding first_least
best_allowed p false e test rows is =
    absurd (let none : ◌≡◌ {A = Option (List ℕ)} None (Some rows) = sym (cond-false p.least _ _ e) ∙ is in cc none)
best_allowed p true e test rows is =
    let among = filter (λ matrix. is_complete_allowed p matrix && test matrix) (prefixes p) in
    let kept =
    found-kept
    (λ rows. list_all (λ other. not (is_less (pattern_of p.dimensions other) (pattern_of p.dimensions rows))) among)
    (λ matrix. is_complete_allowed p matrix && test matrix) (prefixes p) rows
    (sym (cond-true p.least _ _ e) ∙ is) in
    (and_parts _ _ kept).0

pub carried_allowed : (p : Problem) (budget : ℕ) (rows : List ℕ) → carried p budget ≡ Some rows
    → is_complete_allowed p rows ≡ true
unfolding carried best_before
carried_allowed p budget rows is = best_allowed p p.least refl _ rows is

-- rows that are the answer of a question, or that its search carries
abbrev pub IsLeftOf : Problem → List ℕ → Type 0
IsLeftOf p rows = (answer p ≡ Some rows) ⊎ ((n : ℕ) × (carried p n ≡ Some rows))

pub left_met : (p : Problem) → IsField p.dimensions.q → (rows : List ℕ) → IsLeftOf p rows
    → (length rows ≡ p.dimensions.s + p.dimensions.t) × (is_met p.dimensions p.requirement rows ≡ true)
left_met p f rows left = elim left [
  | inl is ↦
      let parts = and_parts _ _ (answer-design p rows is) in
      (eqb-true _ _ parts.0, (and_parts _ _ parts.1).1)
  | inr own ↦
      let parts = and_parts _ _ (carried_allowed p own.0 rows own.1) in
      let whole : length rows ≡ p.dimensions.s + p.dimensions.t = eqb-true _ _ parts.0 in
      (whole, met-prefix p.dimensions f p.requirement rows whole ∙ (and_parts _ _ parts.1).1)
]

-- a search that is not asked for a least pattern carries nothing
none_carried : (p : Problem) → p.least ≡ false → (budget : ℕ) → carried p budget ≡ None
unfolding carried best_before
none_carried p e budget = cond-false p.least _ _ e

module _ (P : Problem → Type 0) where
  -- no such question asks for a least pattern
  abbrev pub ArePlain : Type 0
  ArePlain = (p : Problem) → P p → p.least ≡ false

  -- what was found is of such a question
  abbrev IfLeft : Option Found → Type 0
  IfLeft None = Unit {0}
  IfLeft (Some found) = P found.question × IsLeftOf found.question found.rows

  left_by : (earlier : Option Found) (p : Problem) (own : Option (List ℕ))
      → ((rows : List ℕ) → own ≡ Some rows → IsLeftOf p rows) → IfLeft earlier → P p → IfLeft (found_by earlier p own)
  left_by earlier p None is before one = before
  left_by earlier p (Some rows) is before one = (one, is rows refl)

  left_last : (earlier : Option Found) (ps : List Problem) → IfLeft earlier → AllByRecursion P ps
      → IfLeft (last_found earlier ps)
  left_last earlier [] before all = before
  left_last earlier (p ∷ ps) before all =
      left_last (found_by earlier p (answer p)) ps (left_by earlier p _ (λ rows is. inl is) before all.0) all.1

  -- these rows are of a question of the outcome's dimensions, whose resolution is reached where they are its answer
  pub record IsLeft (outcome : Conclusion) (rows : List ℕ) : Type 0 where
    pub question : Problem
    pub holds : P question
    pub dimensions : outcome.dimensions ≡ question.dimensions
    pub reached : ArePlain → outcome.reached ≡ resolution_wanted question.requirement
    pub left : IsLeftOf question rows

  in_concluded : (p : Problem) (found : Option Found) (n : ℕ) (rows : List ℕ) → IfLeft found
      → rows_in (concluded p found n).ending ≡ Some rows
      → IsLeft (concluded p found n) rows
  in_concluded p None n rows h e = cc e
  in_concluded p (Some found) n rows h e = record {
    question = found.question;
    holds = h.0;
    dimensions = refl;
    reached = λ plain. refl;
    left = subst (IsLeftOf found.question) (same_some e) h.1;
  }

  in_cut_short : (p : Problem) (left : Option Found) (reached budget : ℕ) (rows : List ℕ) → IfLeft left
      → (ArePlain → reached ≡ reached_by left)
      → rows_in (cut_short p left reached budget).ending ≡ Some rows
      → IsLeft (cut_short p left reached budget) rows
  in_cut_short p None reached budget rows h is e = cc e
  in_cut_short p (Some found) reached budget rows h is e = record {
    question = found.question;
    holds = h.0;
    dimensions = refl;
    reached = is;
    left = subst (IsLeftOf found.question) (same_some e) h.1;
  }

  -- where nothing is carried, what was found before is left
  reached_left : (budget : ℕ) (turn : Turn) → P turn.question → ArePlain
      → reached_at budget turn ≡ reached_by (left_at budget turn)
  reached_left budget turn one plain =
      let before = last_found None turn.earlier in
      let none =
      none_carried turn.question (plain turn.question one) (budget - nodes_of turn.earlier) in
      cc

  in_conclusion : (p : Problem) (ps : List Problem) (budget : ℕ) (turn : Option Turn) (rows : List ℕ)
      → AllByRecursion P ps
      → ((own : Turn) → turn ≡ Some own → InTurn P own)
      → rows_in (conclusion_by p ps budget turn).ending ≡ Some rows
      → IsLeft (conclusion_by p ps budget turn) rows
  in_conclusion p ps budget None rows all each e =
      in_concluded p _ _ rows (left_last None ps tt all) e
  in_conclusion p ps budget (Some turn) rows all each e =
      let here = each turn refl in
      let n = budget - nodes_of turn.earlier in
      in_cut_short turn.question _ _ budget rows
      (left_by _ turn.question (carried turn.question n) (λ rows is. inr (n, is))
      (left_last None turn.earlier tt here.0) here.1) (reached_left budget turn here.1) e

  in_turn : (questions : Questions) (budget : ℕ) → P questions.first → AllByRecursion P questions.others
      → (turn : Turn)
      → find (passes budget) (turns [] (asked questions)) ≡ Some turn → InTurn P turn
  in_turn questions budget one others turn is =
      kept_turn P (passes budget) [] (asked questions) turn tt (each_asked P questions one others) is

  pub left-of : (questions : Questions) (budget : ℕ) (rows : List ℕ) → P questions.first
      → AllByRecursion P questions.others
      → rows_in (conclusion_of questions budget).ending ≡ Some rows
      → IsLeft (conclusion_of questions budget) rows
  unfolding conclusion_of
  left-of questions budget rows one others e =
      in_conclusion (last_of questions.first (asked questions)) (asked questions) budget
      _ rows (each_asked P questions one others)
      (in_turn questions budget one others) e

-- Where the asking ends with the first answer, no question but the last has one, so that nothing was found before the
-- one in which the budget ended.

found_more : (earlier : Option Found) (xs : List Problem) (p : Problem)
    → last_found earlier (xs ++ p ∷ []) ≡ found_by (last_found earlier xs) p (answer p)
found_more earlier [] p = refl
found_more earlier (x ∷ xs) p = found_more (found_by earlier x (answer x)) xs p

after_answer : (test : Turn → Bool) (earlier qs : List Problem) (turn : Turn) (p : Problem) (found : Option (List ℕ))
    → answer p ≡ found
    → last_found None earlier ≡ None
    → ((more : List Problem) → last_found None more ≡ None
    → find test (turns more (up_to (is_last Answered) qs)) ≡ Some turn → last_found None turn.earlier ≡ None)
    → find test (turns (earlier ++ p ∷ []) (if is_some found then [] else up_to (is_last Answered) qs)) ≡ Some turn
    → last_found None turn.earlier ≡ None
after_answer test earlier qs turn p None is none later on =
    later (earlier ++ p ∷ [])
    (found_more None earlier p ∙ ap (λ l. found_by l p (answer p)) none ∙ ap (found_by None p) is) on
after_answer test earlier qs turn p (Some rows) is none later on = cc on

none_in_turn : (test : Turn → Bool) (earlier qs : List Problem) (turn : Turn) → last_found None earlier ≡ None
    → find test (turns earlier (up_to (is_last Answered) qs)) ≡ Some turn → last_found None turn.earlier ≡ None
none_in_turn test earlier [] turn none e = cc e
none_in_turn test earlier (p ∷ qs) turn none e =
    let own : Turn = record { earlier = earlier; question = p } in
    elim (cases_Bool (test own)) [
      | inl here ↦
          rw (← (same_some (sym (cond-true _ _ _ here) ∙ e))) none
      | inr later ↦
          after_answer test earlier qs turn p (answer p) refl none (λ more. none_in_turn test more qs turn)
          (sym (cond-false _ _ _ later) ∙ e)
    ]

not_cut : (p : Problem) (found : Option Found) (n : ℕ) (rows : Option (List ℕ)) (b : ℕ)
    → HasEnding (concluded p found n) (BudgetEnded rows b) → ⊥
not_cut p None n rows b e = cc e
not_cut p (Some found) n rows b e = cc e

by_none : (p : Problem) (left : Option Found) (reached budget : ℕ) (rows : Option (List ℕ)) (b : ℕ) → left ≡ None
    → HasEnding (cut_short p left reached budget) (BudgetEnded rows b) → rows ≡ None
by_none p None reached budget rows b is e = cc e
by_none p (Some found) reached budget rows b is e = cc is

module _ (P : Problem → Type 0) (plain : (p : Problem) → P p → p.least ≡ false) where
  nothing_by : (p : Problem) (ps : List Problem) (budget : ℕ) (turn : Option Turn) (rows : Option (List ℕ)) (b : ℕ)
      → HasEnding (conclusion_by p ps budget turn) (BudgetEnded rows b)
      → ((own : Turn) → turn ≡ Some own → InTurn P own × (last_found None own.earlier ≡ None)) → rows ≡ None
  nothing_by p ps budget None rows b e each = absurd (not_cut p _ _ rows b e)
  nothing_by p ps budget (Some turn) rows b e each =
      let here = each turn refl in
      let n = budget - nodes_of turn.earlier in
      let none : left_at budget turn ≡ None =
      cc (none_carried turn.question (plain turn.question here.0.1) n) in
      by_none turn.question _ _ budget rows b none e

  pub none-left : (questions : Questions) (budget : ℕ) (rows : Option (List ℕ)) (b : ℕ) → questions.until ≡ Answered
      → P questions.first
      → AllByRecursion P questions.others
      → HasEnding (conclusion_of questions budget) (BudgetEnded rows b) → rows ≡ None
  unfolding conclusion_of
  none-left questions budget rows b ends one others e =
      nothing_by (last_of questions.first (asked questions)) (asked questions) budget
      _ rows b e
      (λ turn is. (
        in_turn P questions budget one others turn is,
        none_in_turn (passes budget) [] (questions.first ∷ questions.others) turn refl
            (subst
            (λ u. find (passes budget) (turns [] (up_to (is_last u) (questions.first ∷ questions.others)))
            ≡ Some turn) ends is),
      ))
