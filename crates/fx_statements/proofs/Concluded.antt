-- What an outcome of questions says of their answers; of questions for one number after another, which is answered
-- last, and that the next has no answer, or those before it have none.
use Rattle.std.proofs.Common.{ℕ, ◌≡◌, ◌<◌, ◌≤◌, ◌+◌, ◌-◌, zero, suc, Bool, true, false, List, [], ◌∷◌, ◌++◌, length}
use Rattle.std.proofs.Common.{map, All, Option, Some, None, refl, sym, subst, ◌∙◌, arith, inl, inr, ◌⊎◌}
use Rattle.std.specs.Prelude.{is_some, not, if◌then◌else◌, find, slice_get}
use Rattle.std.specs.List.{AllByRecursion, range_with_len}
use Rattle.std.proofs.lemmas.Bool.{cases_Bool, cases_eq, cases_lt, cond-true, cond-false, le-ltb, lt-ltb}
use Rattle.std.proofs.lemmas.List.Sums.{sum_by-cons, sum_by_push}
use Rattle.std.proofs.lemmas.Option.{same_Some}
use Rattle.std.proofs.lemmas.List.Elements.{All-from_recursion}
use Rattle.fx_base.proofs.Lists.{each-append}
use Rattle.fx_designs.specs.Nodes.{nodes}
use Rattle.fx_designs.specs.Problems.{Dimensions, Problem}
use Rattle.fx_designs.specs.Answers.{answer}
use Rattle.fx_designs.specs.Outcomes.{Ending, Design, NoDesign}
use Rattle.fx_statements.specs.Steps.{Meaning}
use Rattle.fx_statements.specs.Questions.{Answered, Conclusion, Found, Questions, Turn, Unanswered, Until, asked}
use Rattle.fx_statements.specs.Questions.{concluded, conclusion_by, conclusion_of, cut_short, found_by, highest}
use Rattle.fx_statements.specs.Questions.{is_last, last_found, last_of, left_at, lowest, nodes_of, outcome_of, passes}
use Rattle.fx_statements.specs.Questions.{question_for, questions_of, reached_at, resolution_wanted, series, turns}
use Rattle.fx_statements.specs.Questions.{up_to}

-- the question for n was answered with these rows
pub record IsFoundAt (question : ℕ → Problem) (found : Found) (n : ℕ) : Type 0 where
  pub question_is : found.question ≡ question n
  pub answer_is : answer (question n) ≡ Some found.rows

-- the questions for a to b - 1
abbrev pub asked_from : (ℕ → Problem) → Until → ℕ → ℕ → List Problem
asked_from question ends a n = up_to (is_last ends) (map question (range_with_len a n))

-- a question is asked where the asking did not end before it
pub asked_at : (question : ℕ → Problem) (ends : Until) (a n i : ℕ) → i < n
    → ((j : ℕ) → j < i → is_last ends (question (a + j)) ≡ false)
    → slice_get (asked_from question ends a n) i ≡ Some (question (a + i))
asked_at question ends a zero i low on = absurd (omega arith)
asked_at question ends a (suc n) zero low on =
    (let here : a ≡ a + 0 = omega arith in cc)
asked_at question ends a (suc n) (suc i) low on =
    let here : a ≡ a + 0 = omega arith in
    let next : (j : ℕ) → a + 1 + j ≡ a + suc j = λ j. omega arith in
    let first : is_last ends (question a) ≡ false =
    cc (on 0 (omega arith)) in
    cc (
      cond-false _ [] (asked_from question ends (a + 1) n) first,
      asked_at question ends (a + 1) n i (omega arith)
          (λ j less. cc (next j, on (suc j) (omega arith))),
      next i,
    )

-- what was found stays, or something later is found
stays_by : (found : Found) (p : Problem) (ps : List Problem) (own : Option (List ℕ))
    → ((found : Found) → last_found (Some found) ps ≡ None → ⊥)
    → last_found (found_by (Some found) p own) ps ≡ None → ⊥
stays_by found p ps None rest e = rest found e
stays_by found p ps (Some rows) rest e = rest (record { question = p; rows = rows }) e

pub some_stays : (found : Found) (ps : List Problem) → last_found (Some found) ps ≡ None → ⊥
some_stays found [] e = cc e
some_stays found (p ∷ ps) e = stays_by found p ps _ (λ found. some_stays found ps) e

module _ (question : ℕ → Problem) where
  -- where the asking ends with the first answer, it is that of n, and no question before it has one
  pub record IsFirstAnswered (found : Found) (low high n : ℕ) : Type 0 where
    pub from : low ≤ n
    pub below : n < high
    pub found_at : IsFoundAt question found n
    pub none_before : (k : ℕ) → low ≤ k → k < n → answer (question k) ≡ None

  -- no question is left, or the next has no answer
  abbrev pub NoneAt : ℕ → ℕ → Type 0
  NoneAt n high = (n ≡ high) ⊎ (answer (question n) ≡ None)

  -- where it ends with the first that has none, the last answer is that of n, each question before it has one, and the
  -- next has none, if there is a next
  pub record IsLastAnswered (found : Found) (low high n : ℕ) : Type 0 where
    pub from : low ≤ n
    pub below : n < high
    pub found_at : IsFoundAt question found n
    pub some_upto : (k : ℕ) → low ≤ k → k ≤ n → is_some (answer (question k)) ≡ true
    pub none_next : NoneAt (n + 1) high

  first_step : (found : Found) (a n : ℕ) (own : Option (List ℕ)) → answer (question a) ≡ own
      → (last_found None (asked_from question Answered (a + 1) n) ≡ Some found
      → (k : ℕ) × IsFirstAnswered found (a + 1) (a + 1 + n) k)
      → last_found (found_by None (question a) own) (if is_some own then [] else asked_from question Answered (a + 1) n)
      ≡ Some found
      → (k : ℕ) × IsFirstAnswered found a (a + suc n) k
  first_step found a n None is later e =
      let rest = later e in (
        rest.0,
        record {
          from = omega arith;
          below = omega arith;
          found_at = rest.1.found_at;
          none_before = λ k low high. elim (cases_eq k a) [
            | inl here ↦ cc
            | inr other ↦ rest.1.none_before k (omega arith) high
          ];
        },
      )
  first_step found a n (Some rows) is later e =
      let same : record { question = question a; rows = rows } ≡ found = same_Some _ _ e in (
        a,
        record {
          from = omega arith;
          below = omega arith;
          found_at = rw (← same) (record { question_is = refl; answer_is = is });
          none_before = λ k low high. absurd (omega arith);
        },
      )

  pub first-answered : (found : Found) (a n : ℕ) → last_found None (asked_from question Answered a n) ≡ Some found
      → (k : ℕ) × IsFirstAnswered found a (a + n) k
  first-answered found a zero e = cc e
  first-answered found a (suc n) e = first_step found a n _ refl (first-answered found (a + 1) n) e

  -- and where there is none, no question has an answer
  none_step : (a n : ℕ) (own : Option (List ℕ)) → answer (question a) ≡ own
      → (last_found None (asked_from question Answered (a + 1) n) ≡ None → (k : ℕ) → a + 1 ≤ k → k < a + 1 + n
      → answer (question k) ≡ None)
      → last_found (found_by None (question a) own) (if is_some own then [] else asked_from question Answered (a + 1) n)
      ≡ None
      → (k : ℕ) → a ≤ k → k < a + suc n → answer (question k) ≡ None
  none_step a n None is later e k low high = elim (cases_eq k a) [
    | inl here ↦ cc
    | inr other ↦ later e k (omega arith) (omega arith)
  ]
  none_step a n (Some rows) is later e k low high = cc e

  pub none-answered : (a n : ℕ) → last_found None (asked_from question Answered a n) ≡ None
      → (k : ℕ) → a ≤ k → k < a + n → answer (question k) ≡ None
  none-answered a zero e k low high = absurd (omega arith)
  none-answered a (suc n) e k low high = none_step a n _ refl (none-answered (a + 1) n) e k low high

  -- what is the last that was found: what was found before these questions, or an answer to one of them
  abbrev IsLast : Found → Option Found → ℕ → ℕ → Type 0
  IsLast found earlier a high = ((earlier ≡ Some found) × NoneAt a high) ⊎ ((k : ℕ) × IsLastAnswered found a high k)

  last_step : (found : Found) (earlier : Option Found) (a n : ℕ) (own : Option (List ℕ)) → answer (question a) ≡ own
      → ((earlier : Option Found) → last_found earlier (asked_from question Unanswered (a + 1) n) ≡ Some found
      → IsLast found earlier (a + 1) (a + 1 + n))
      → last_found (found_by earlier (question a) own)
      (if not (is_some own) then [] else asked_from question Unanswered (a + 1) n) ≡ Some found
      → IsLast found earlier a (a + suc n)
  last_step found earlier a n None is later e = inl (e, inr is)
  last_step found earlier a n (Some rows) is later e =
      elim (later (Some (record { question = question a; rows = rows })) e) [
        | inl here ↦
            let same : record { question = question a; rows = rows } ≡ found = same_Some _ _ here.0 in
            inr (
              a,
              record {
                from = omega arith;
                below = omega arith;
                found_at =
                    rw (← same) (record { question_is = refl; answer_is = is });
                some_upto = λ k low high. has_answer k (omega arith);
                none_next = up _ here.1;
              },
            )
        | inr rest ↦ inr (
          rest.0,
          record {
            from = omega arith;
            below = omega arith;
            found_at = rest.1.found_at;
            some_upto = λ k low high. elim (cases_eq k a) [
              | inl here ↦ has_answer k here
              | inr other ↦ rest.1.some_upto k (omega arith) high
            ];
            none_next = up _ rest.1.none_next;
          },
        )
      ]
    where
      has_answer : (k : ℕ) → k ≡ a → is_some (answer (question k)) ≡ true
      has_answer k here = cc

      up : (k : ℕ) → NoneAt k (a + 1 + n) → NoneAt k (a + suc n)
      up k h = elim h [ inl end ↦ inl (omega arith) | inr none ↦ inr none ]

  last_one : (found : Found) (earlier : Option Found) (a n : ℕ)
      → last_found earlier (asked_from question Unanswered a n) ≡ Some found
      → IsLast found earlier a (a + n)
  last_one found earlier a zero e = inl (e, inl (omega arith))
  last_one found earlier a (suc n) e =
      last_step found earlier a n _ refl (λ earlier. last_one found earlier (a + 1) n) e

  pub last-answered : (found : Found) (a n : ℕ) → last_found None (asked_from question Unanswered a n) ≡ Some found
      → (k : ℕ) × IsLastAnswered found a (a + n) k
  last-answered found a n e = elim (last_one found None a n e) [ inl none ↦ cc none.0 | inr last ↦ last ]

  -- and where there is none, the first question has no answer
  first_none : (a : ℕ) (ps : List Problem) (own : Option (List ℕ)) → answer (question a) ≡ own
      → last_found (found_by None (question a) own) ps ≡ None
      → answer (question a) ≡ None
  first_none a ps None is e = is
  first_none a ps (Some rows) is e = absurd (some_stays _ ps e)

  pub none-first : (a n : ℕ) → last_found None (asked_from question Unanswered a (suc n)) ≡ None
      → answer (question a) ≡ None
  none-first a n e =
      first_none a (if not (is_some (answer (question a))) then [] else asked_from question Unanswered (a + 1) n)
      _ refl e

-- Where the outcome is a design it is the last that was found, and where it is none there was none

abbrev pub HasEnding : Conclusion → Ending → Type 0
HasEnding conclusion ending = conclusion.ending ≡ ending

module _ (rows : List ℕ) (count : ℕ) where
  -- the last that was found, by its rows
  pub record IsLastFound (ps : List Problem) (conclusion : Conclusion) : Type 0 where
    pub found : Found
    pub last : last_found None ps ≡ Some found
    pub dimensions : conclusion.dimensions ≡ found.question.dimensions
    pub reached : conclusion.reached ≡ resolution_wanted found.question.requirement
    pub rows_are : found.rows ≡ rows

  not_cut_short : (p : Problem) (left : Option Found) (reached budget : ℕ)
      → HasEnding (cut_short p left reached budget) (Design rows count) → ⊥
  not_cut_short p None reached budget e = cc e
  not_cut_short p (Some found) reached budget e = cc e

  by_found : (p : Problem) (ps : List Problem) (n : ℕ) (found : Option Found) → last_found None ps ≡ found
      → HasEnding (concluded p found n) (Design rows count)
      → IsLastFound ps (concluded p found n)
  by_found p ps n None is e = cc e
  by_found p ps n (Some found) is e =
      record { found = found; last = is; dimensions = refl; reached = refl; rows_are = cc e }

  by_turn : (p : Problem) (ps : List Problem) (budget : ℕ) (turn : Option Turn)
      → HasEnding (conclusion_by p ps budget turn) (Design rows count)
      → IsLastFound ps (conclusion_by p ps budget turn)
  by_turn p ps budget None e = by_found p ps _ _ refl e
  by_turn p ps budget (Some turn) e =
      absurd (not_cut_short turn.question _ _ budget e)

  design-found : (questions : Questions) (budget : ℕ) → HasEnding (conclusion_of questions budget) (Design rows count)
      → IsLastFound (asked questions) (conclusion_of questions budget)
  unfolding conclusion_of
  design-found questions budget e =
      by_turn (last_of questions.first (asked questions)) _ budget
      _ e

not_cut : (count : ℕ) (p : Problem) (left : Option Found) (reached budget : ℕ)
    → HasEnding (cut_short p left reached budget) (NoDesign count) → ⊥
not_cut count p None reached budget e = cc e
not_cut count p (Some found) reached budget e = cc e

none_by_found : (count : ℕ) (p : Problem) (n : ℕ) (found : Option Found)
    → HasEnding (concluded p found n) (NoDesign count) → found ≡ None
none_by_found count p n None e = refl
none_by_found count p n (Some found) e = cc e

none_by_turn : (count : ℕ) (p : Problem) (ps : List Problem) (budget : ℕ) (turn : Option Turn)
    → HasEnding (conclusion_by p ps budget turn) (NoDesign count)
    → last_found None ps ≡ None
none_by_turn count p ps budget None e = none_by_found count p _ _ e
none_by_turn count p ps budget (Some turn) e =
    absurd (not_cut count turn.question _ _ budget e)

none-found : (count : ℕ) (questions : Questions) (budget : ℕ)
    → HasEnding (conclusion_of questions budget) (NoDesign count)
    → last_found None (asked questions) ≡ None
unfolding conclusion_of
none-found count questions budget e =
    none_by_turn count (last_of questions.first (asked questions)) (asked questions) budget
    (find (passes budget) (turns [] (asked questions))) e

-- The outcome of a series of questions

module _ (question : ℕ → Problem) (low high : ℕ) (ends : Until) (budget : ℕ) where
  abbrev outcome : Conclusion
  outcome = conclusion_of (series question low high ends) budget

  -- these rows are the answer of the question for n, and of its dimensions; and its resolution is reached
  pub record IsAnswerOf (rows : List ℕ) (n : ℕ) : Type 0 where
    pub dimensions : outcome.dimensions ≡ (question n).dimensions
    pub reached : outcome.reached ≡ resolution_wanted (question n).requirement
    pub answer_is : answer (question n) ≡ Some rows

  answer_of : (rows : List ℕ) (count n : ℕ)
      (last : IsLastFound rows count (asked (series question low high ends)) outcome)
      → IsFoundAt question last.found n → IsAnswerOf rows n
  answer_of rows count n last at = record {
    dimensions = cc;
    reached = cc;
    answer_is = cc;
  }

module _ (question : ℕ → Problem) (low high budget : ℕ) where
  -- the design of the first question that has an answer
  pub record IsOfFirst (rows : List ℕ) : Type 0 where
    pub n : ℕ
    pub from : low ≤ n
    pub upto : low ≤ high → n ≤ high
    pub answers : IsAnswerOf question low high Answered budget rows n
    pub none_before : (k : ℕ) → low ≤ k → k < n → answer (question k) ≡ None

  pub of-first : (rows : List ℕ) (count : ℕ)
      → HasEnding (conclusion_of (series question low high Answered) budget) (Design rows count) → IsOfFirst rows
  of-first rows count e =
      let last = design-found rows count _ budget e in
      let first = first-answered question last.found low (suc (high - low)) last.last in
      record {
        n = first.0;
        from = first.1.from;
        upto = λ some. omega arith;
        answers = answer_of question low high Answered budget rows count first.0 last first.1.found_at;
        none_before = first.1.none_before;
      }

  -- the design of the last question that has an answer: the next has none, if it is asked
  pub record IsOfLast (rows : List ℕ) : Type 0 where
    pub n : ℕ
    pub from : low ≤ n
    pub upto : low ≤ high → n ≤ high
    pub answers : IsAnswerOf question low high Unanswered budget rows n
    pub some_upto : (k : ℕ) → low ≤ k → k ≤ n → is_some (answer (question k)) ≡ true
    pub none_next : (high ≤ n) ⊎ (answer (question (n + 1)) ≡ None)

  pub of-last : (rows : List ℕ) (count : ℕ)
      → HasEnding (conclusion_of (series question low high Unanswered) budget) (Design rows count) → IsOfLast rows
  of-last rows count e =
      let found = design-found rows count _ budget e in
      let last = last-answered question found.found low (suc (high - low)) found.last in
      record {
        n = last.0;
        from = last.1.from;
        upto = λ some. omega arith;
        answers = answer_of question low high Unanswered budget rows count last.0 found last.1.found_at;
        some_upto = last.1.some_upto;
        none_next = elim last.1.none_next [
          | inl end ↦ inl (omega arith)
          | inr none ↦ inr none
        ];
      }

  -- without a design no question has an answer, or not the first
  pub none-of_all : (count : ℕ) → HasEnding (conclusion_of (series question low high Answered) budget) (NoDesign count)
      → (k : ℕ) → low ≤ k → k ≤ high → answer (question k) ≡ None
  none-of_all count e k from to =
      none-answered question low (suc (high - low)) (none-found count _ budget e) k
      from (omega arith)

  pub none-of_first : (count : ℕ)
      → HasEnding (conclusion_of (series question low high Unanswered) budget) (NoDesign count)
      → answer (question low) ≡ None
  none-of_first count e =
      none-first question low (high - low) (none-found count _ budget e)

-- The outcome of any questions

-- without one there is no answer
none_found_step : (p : Problem) (ps : List Problem) (own : Option (List ℕ)) → answer p ≡ own
    → (last_found None ps ≡ None → AllByRecursion (λ p. answer p ≡ None) ps)
    → last_found (found_by None p own) ps ≡ None
    → (answer p ≡ None) × AllByRecursion (λ p. answer p ≡ None) ps
none_found_step p ps None is rest e = (is, rest e)
none_found_step p ps (Some rows) is rest e = absurd (some_stays _ ps e)

pub no_answers : (ps : List Problem) → last_found None ps ≡ None → AllByRecursion (λ p. answer p ≡ None) ps
no_answers [] e = tt
no_answers (p ∷ ps) e = none_found_step p ps _ refl (no_answers ps) e

pub none-of : (questions : Questions) (budget count : ℕ) → HasEnding (conclusion_of questions budget) (NoDesign count)
    → All (λ p. answer p ≡ None) (asked questions)
none-of questions budget count e =
    All-from_recursion (λ p. answer p ≡ None) (asked questions)
    (no_answers (asked questions) (none-found count questions budget e))

-- The nodes

nodes_and : (p : Problem) (ps : List Problem) → nodes_of (p ∷ ps) ≡ length (nodes p) + nodes_of ps
nodes_and p ps = sum_by-cons (λ p. length (nodes p)) p ps

pub nodes_more : (ps : List Problem) (p : Problem) → nodes_of (ps ++ p ∷ []) ≡ nodes_of ps + length (nodes p)
nodes_more ps p = sum_by_push (λ p. length (nodes p)) ps p

module _ (budget : ℕ) where
  -- the nodes within the budget are passed by no question
  all_within : (earlier ps : List Problem) → nodes_of earlier + nodes_of ps ≤ budget
      → find (passes budget) (turns earlier ps) ≡ None
  all_within earlier [] few = refl
  all_within earlier (p ∷ ps) few =
      cond-false _ _ _ (le-ltb budget _ (omega (arith, nodes_and p ps))) ∙ all_within (earlier ++ p ∷ []) ps
      (omega (arith, nodes_and p ps, nodes_more earlier p))

  -- and more are passed by some
  some_passes : (earlier ps : List Problem) → nodes_of earlier ≤ budget → budget < nodes_of earlier + nodes_of ps
      → (turn : Turn) × (find (passes budget) (turns earlier ps) ≡ Some turn)
  some_passes earlier [] few more = absurd (let none : nodes_of [] ≡ 0 = refl in omega arith)
  some_passes earlier (p ∷ ps) few more = elim (cases_lt budget (nodes_of earlier + length (nodes p))) [
    | inl here ↦ (record { earlier = earlier; question = p }, cond-true _ _ _ (lt-ltb budget _ here))
    | inr within ↦
        let rest =
        some_passes (earlier ++ p ∷ []) ps (omega (arith, within, nodes_more earlier p))
        (omega (arith, nodes_and p ps, nodes_more earlier p)) in
        (rest.0, cond-false _ _ _ (le-ltb budget _ within) ∙ rest.1)
  ]

-- what is concluded where the budget is not passed
abbrev pub finished_by : Questions → Conclusion
finished_by questions =
    concluded (last_of questions.first (asked questions)) (last_found None (asked questions))
    (nodes_of (asked questions))

pub within : (questions : Questions) (budget : ℕ) → nodes_of (asked questions) ≤ budget
    → conclusion_of questions budget ≡ finished_by questions
unfolding conclusion_of
within questions budget few =
    cc (all_within budget [] (asked questions) (let none : nodes_of [] ≡ 0 = refl in omega arith))

pub passed : (questions : Questions) (budget : ℕ) → budget < nodes_of (asked questions)
    → (turn : Turn)
    × (conclusion_of questions budget
    ≡ cut_short turn.question (left_at budget turn) (reached_at budget turn) budget)
unfolding conclusion_of
passed questions budget more =
    let none : nodes_of [] ≡ 0 = refl in
    let some = some_passes budget [] (asked questions) (omega arith) (omega arith) in
    (some.0, cc)

-- What holds of each question holds of that whose dimensions an outcome has

module _ (P : Problem → Type 0) where
  -- of the question that was found, where one was
  abbrev IfFound : Option Found → Type 0
  IfFound None = Unit {0}
  IfFound (Some found) = P found.question

  -- of that of a turn, and of those before it
  abbrev pub InTurn : Turn → Type 0
  InTurn turn = AllByRecursion P turn.earlier × P turn.question

  -- of one with these dimensions
  abbrev pub OneWith : Dimensions → Type 0
  OneWith d = (p : Problem) × P p × (d ≡ p.dimensions)

  kept_up_to : (ends : Problem → Bool) (ps : List Problem) → AllByRecursion P ps → AllByRecursion P (up_to ends ps)
  kept_up_to ends [] h = h
  kept_up_to ends (p ∷ ps) h = elim (cases_Bool (ends p)) [
    | inl last ↦ (h.0, subst (AllByRecursion P) (sym (cond-true _ [] (up_to ends ps) last)) tt)
    | inr more ↦
        (h.0, subst (AllByRecursion P) (sym (cond-false _ [] (up_to ends ps) more)) (kept_up_to ends ps h.1))
  ]

  kept_last : (p : Problem) (ps : List Problem) → P p → AllByRecursion P ps → P (last_of p ps)
  kept_last p [] one all = one
  kept_last p (next ∷ others) one all = kept_last next others all.0 all.1

  kept_by_answer : (earlier : Option Found) (p : Problem) (own : Option (List ℕ)) → IfFound earlier → P p
      → IfFound (found_by earlier p own)
  kept_by_answer earlier p None before one = before
  kept_by_answer earlier p (Some rows) before one = one

  kept_found : (earlier : Option Found) (ps : List Problem) → IfFound earlier → AllByRecursion P ps
      → IfFound (last_found earlier ps)
  kept_found earlier [] before all = before
  kept_found earlier (p ∷ ps) before all =
      kept_found (found_by earlier p (answer p)) ps (kept_by_answer earlier p _ before all.0) all.1

  pub kept_turn : (test : Turn → Bool) (earlier ps : List Problem) (turn : Turn) → AllByRecursion P earlier
      → AllByRecursion P ps
      → find test (turns earlier ps) ≡ Some turn → InTurn turn
  kept_turn test earlier [] turn before all e = cc e
  kept_turn test earlier (p ∷ ps) turn before all e =
      let own : Turn = record { earlier = earlier; question = p } in
      elim (cases_Bool (test own)) [
        | inl here ↦ subst InTurn (same_Some own turn (sym (cond-true _ _ _ here) ∙ e)) (before, all.0)
        | inr later ↦
            kept_turn test (earlier ++ p ∷ []) ps turn (each-append P earlier _ before (all.0, tt)) all.1
            (sym (cond-false _ _ _ later) ∙ e)
      ]

  in_concluded : (p : Problem) (found : Option Found) (count : ℕ) → P p → IfFound found
      → OneWith (concluded p found count).dimensions
  in_concluded p None count one before = (p, one, refl)
  in_concluded p (Some found) count one before = (found.question, before, refl)

  in_cut_short : (p : Problem) (left : Option Found) (reached budget : ℕ) → P p → IfFound left
      → OneWith (cut_short p left reached budget).dimensions
  in_cut_short p None reached budget one before = (p, one, refl)
  in_cut_short p (Some found) reached budget one before = (found.question, before, refl)

  in_conclusion : (p : Problem) (ps : List Problem) (budget : ℕ) (turn : Option Turn) → P p → AllByRecursion P ps
      → ((own : Turn) → turn ≡ Some own → InTurn own) → OneWith (conclusion_by p ps budget turn).dimensions
  in_conclusion p ps budget None one all each =
      in_concluded p _ _ one (kept_found None ps tt all)
  in_conclusion p ps budget (Some turn) one all each =
      let here = each turn refl in
      in_cut_short turn.question (left_at budget turn) (reached_at budget turn) budget here.1
      (kept_by_answer (last_found None turn.earlier) turn.question _ (kept_found None turn.earlier tt here.0) here.1)

  pub each_asked : (questions : Questions) → P questions.first → AllByRecursion P questions.others
      → AllByRecursion P (asked questions)
  each_asked questions one others =
      kept_up_to (is_last questions.until) (questions.first ∷ questions.others) (one, others)

  pub dimensions-of : (questions : Questions) (budget : ℕ) → P questions.first → AllByRecursion P questions.others
      → OneWith (conclusion_of questions budget).dimensions
  unfolding conclusion_of
  dimensions-of questions budget one others =
      let all = each_asked questions one others in
      in_conclusion _ (asked questions) budget
      (find (passes budget) (turns [] (asked questions)))
      (kept_last questions.first (asked questions) one all) all
      (λ turn e. kept_turn (passes budget) [] (asked questions) turn tt all e)

-- those of a step's outcome are those of one of its questions, for a number from the first to the last
pub record IsForSome (question : ℕ → Problem) (low high : ℕ) (p : Problem) : Type 0 where
  pub n : ℕ
  pub from : low ≤ n
  pub upto : (n ≤ high) ⊎ (n ≡ low)
  pub is : p ≡ question n

each_for : (question : ℕ → Problem) (low high a n : ℕ) → low ≤ a → (n ≡ 0) ⊎ (a + n ≤ high + 1)
    → AllByRecursion (IsForSome question low high) (map question (range_with_len a n))
each_for question low high a zero from upto = tt
each_for question low high a (suc n) from upto =
    let fits : a + suc n ≤ high + 1 = elim upto [ inl none ↦ absurd (omega arith) | inr fits ↦ fits ] in (
      record { n = a; from = from; upto = inl (omega arith); is = refl },
      each_for question low high (a + 1) n
          (omega arith) (inr (omega arith)),
    )

-- a question of a step
abbrev pub IsQuestionOf : Meaning → Problem → Type 0
IsQuestionOf step p =
    IsForSome (question_for step) (lowest step step.settings.size) (highest step step.settings.size) p

pub each-of_step : (step : Meaning)
    → IsQuestionOf step (questions_of step).first × AllByRecursion (IsQuestionOf step) (questions_of step).others
each-of_step step =
    let low = lowest step step.settings.size in
    let high = highest step step.settings.size in (
      record { n = low; from = omega arith; upto = inr refl; is = refl },
      each_for _ low high _ _ (omega arith)
          (elim (cases_lt low high) [ inl less ↦ inr (omega arith) | inr over ↦ inl (omega arith) ]),
    )

pub step-question : (step : Meaning) → OneWith (IsQuestionOf step) (outcome_of step).dimensions
step-question step =
    let each = each-of_step step in
    dimensions-of _ _ step.settings.budget each.0 each.1
