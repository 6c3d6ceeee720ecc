-- The design of a valid step is as it asks, and none is better: of the questions of the step the next, or each before
-- it, has no answer.
use Rattle.std.proofs.Common.{ℕ, suc, ◌≡◌, ◌<◌, ◌≤◌, ◌+◌, ◌-◌, true, false, List, length, Option}
use Rattle.std.proofs.Common.{Some, None, refl, sym, ap, ◌∙◌, subst, arith, inl, inr, ◌⊎◌, eqb-true}
use Rattle.std.specs.Prelude.{max, is_some, slice_get}
use Rattle.std.proofs.lemmas.Bool.{leb-true, cases_Bool, cases_lt, and_parts, both_ways, eqb-true, or_parts}
use Rattle.fx_designs.specs.Galois.{IsField}
use Rattle.fx_designs.specs.Problems.{Dimensions, Problem, Requirement, AtResolution}
use Rattle.fx_designs.specs.Demands.{is_met}
use Rattle.fx_designs.specs.Patterns.{pattern_of, resolution_of}
use Rattle.fx_designs.specs.Answers.{answer}
use Rattle.fx_designs.specs.Outcomes.{Design, NoDesign}
use Rattle.fx_designs.specs.Matrices.{NoneMeets}
use Rattle.fx_laws.proofs.Tables.{is_order-field}
use Rattle.fx_reduction.specs.Reduction.{IsReducible}
use Rattle.fx_reduction.specs.BlockedResolutions.{IsHighestInBlocks, top_resolution}
use Rattle.fx_reduction.specs.Resolutions.{HasLeastPattern}
use Rattle.fx_reduction.specs.Strengths.{with_block}
use Rattle.fx_reduction.specs.MostBlocks.{with_blocks}
use Rattle.fx_reduction.proofs.BlockCounts.{most-blocks, none-with_more}
use Rattle.fx_reduction.proofs.BlockedResolutions.{none-higher}
use Rattle.fx_reduction.proofs.Effects.{meet_less}
use Rattle.fx_reduction.proofs.LeastPattern.{least-of_all, no_answer, answer-design}
use Rattle.fx_reduction.proofs.NoDesign.{none-exactly}
use Rattle.fx_reduction.proofs.ShortWords.{highest, highest-least}
use Rattle.fx_settings.specs.declared.settings.Size.{Size}
use Rattle.fx_settings.specs.declared.settings.Size.TheVariants.{Runs, Minimum}
use Rattle.fx_settings.specs.declared.settings.Blocks.TheVariants as blocks
use Rattle.fx_settings.specs.Sizes.{is_minimum}
use Rattle.fx_settings.specs.Models.{is_highest}
use Rattle.fx_settings.specs.Powers.{greatest}
use Rattle.fx_settings.specs.Settings.{is_level}
use Rattle.fx_settings.specs.Valid.{are_blocks, has_blocks, has_most, stand_together}
use Rattle.fx_settings.specs.declared.settings.Criterion.TheVariants.{Highest}
use Rattle.fx_statements.specs.Steps.{Meaning}
use Rattle.fx_statements.specs.Questions as asked
use Rattle.fx_statements.specs.Questions.{Conclusion, block_factors, conclusion_of}
use Rattle.fx_statements.specs.Questions.{least_exponent, lowest, outcome_of, question_for, questions_of, is_last}
use Rattle.fx_statements.specs.Questions.{resolution_wanted, run_factors, seeks_highest, series, until}
use Rattle.fx_statements.proofs.Concluded.{HasEnding, IsOfFirst, IsOfLast, of-first, of-last, none-of_all}
use Rattle.fx_statements.proofs.Concluded.{none-of_first, IsQuestionOf, asked_at, each-of_step}
use Rattle.fx_answer.specs.StepClaims.{Allows, ClaimsHold, HasHighestOfAll, HasLeastOfAll, HasLeastSize, HasMostBlocks}
use Rattle.fx_answer.specs.StepClaims.{HasHighestInBlocks, HasNoneAtAll, HasWhatItAsks, OfOutcome}
use Rattle.fx_answer.specs.StepClaims.{LeavesNoneOfLeastSize, MeetsWhatItReached}
use Rattle.fx_answer.specs.ValidSteps.{IsValidStep}
use Rattle.fx_answer.proofs.StepSettings.{most_or, not_both, not_most, same_blocks, runs_again, blocks_again}
use Rattle.fx_answer.proofs.StepSettings.{highest_or, reducible_by, exponent_fits, size_or, unblocked}
use Rattle.fx_answer.proofs.StepSettings.{same_dimensions}
use Rattle.fx_answer.proofs.FullBlocks.{fewer_than_indexes, requirement-estimated}
use Rattle.fx_answer.proofs.NextResolution.{exact_resolution, full_resolution}
use Rattle.fx_answer.proofs.Valid.{order_of, seeks_with_least, some_numbers}
use Rattle.fx_answer.proofs.Left.{left-of, left_met, none-left}

-- A question of a step that is asked, requires this of designs of these dimensions, and has this answer
pub record IsAsked (step : Meaning) (d : Dimensions) (wanted : Requirement) (own : Option (List ℕ)) : Type 0 where
  pub place : ℕ
  pub question : Problem
  pub asked_at : slice_get (asked.asked (questions_of step)) place ≡ Some question
  pub dimensions : question.dimensions ≡ d
  pub requirement : question.requirement ≡ wanted
  pub least : question.least ≡ step.settings.least
  pub answer_is : answer question ≡ own

module _ (step : Meaning) (valid : IsValidStep step) where
  abbrev q : ℕ
  q = step.settings.q

  abbrev question : ℕ → Problem
  question n = question_for step n

  level : is_level q ≡ true
  level = (and_parts _ _ (and_parts _ _ (and_parts _ _ (and_parts _ _ (and_parts _ _ valid.settings).0).0).0).0).0

  pub field : IsField q
  field = is_order-field q (order_of q level)

  given : are_blocks q step.settings.size step.settings.blocks ≡ true
  given = (and_parts _ _ (and_parts _ _ valid.settings).0).1

  reducible : IsReducible step.requirement
  reducible =
      reducible_by step.settings.criterion step.requirement valid.kind
      (and_parts _ _ (and_parts _ _ (and_parts _ _ valid.settings).0).0).1

  together : stand_together step.settings.size step.settings.criterion step.settings.least step.settings.blocks ≡ true
  together = (and_parts _ _ valid.settings).1

  -- no least aberration in blocks
  plain_in_blocks : has_blocks step.settings.blocks ≡ true → step.settings.least ≡ false
  plain_in_blocks h =
      (or_parts _ _ (not_both _ _ (and_parts _ _ (and_parts _ _ together).0).1 h)).0

  -- the least size with neither, and not with the most blocks
  with_least_size : step.settings.size ≡ Minimum
      → (is_highest step.settings.criterion ≡ false) × (step.settings.least ≡ false)
      × (has_most step.settings.blocks ≡ false)
  with_least_size e =
      let first = or_parts _ _ (not_both _ _ (and_parts _ _ together).1 (ap is_minimum e)) in
      let second = or_parts _ _ first.0 in
      (second.0, second.1, first.1)

  -- where the highest resolution is wanted, the most blocks are not, and the size is fixed
  highest_kind : step.settings.criterion ≡ Highest → is_highest step.settings.criterion ≡ true
  highest_kind e = cc

  highest_not_most : step.settings.criterion ≡ Highest → has_most step.settings.blocks ≡ false
  highest_not_most e =
      not_most step.settings.blocks _ step.settings.least
      (and_parts _ _ (and_parts _ _ together).0).1 (highest_kind e)

  highest_fixed : step.settings.criterion ≡ Highest → step.settings.size ≡ Minimum → ⊥
  highest_fixed e least = both_ways _ (with_least_size least).0 (highest_kind e)

  most_fixed : step.settings.blocks ≡ blocks.Most → step.settings.size ≡ Minimum → ⊥
  most_fixed e least = both_ways _ (with_least_size least).2 (ap has_most e)

  most_not_highest : step.settings.blocks ≡ blocks.Most → is_highest step.settings.criterion ≡ false
  most_not_highest e = elim (highest_or step.settings.criterion) [
    | inl highest ↦ absurd (both_ways _ (highest_not_most highest) (ap has_most e))
    | inr other ↦ other
  ]

  -- what a question requires
  least_required : step.settings.criterion ≡ Highest → step.requirement ≡ AtResolution 3
  least_required e = rw e at valid.kind

  seeks : step.settings.least ≡ false → step.settings.criterion ≡ Highest → seeks_highest step.settings ≡ true
  seeks plain e = cc

  requirement_is : (n : ℕ) → seeks_highest step.settings ≡ false → (question n).requirement ≡ step.requirement
  requirement_is n given = cc

  requires_same : (n : ℕ) → is_highest step.settings.criterion ≡ false → (question n).requirement ≡ step.requirement
  requires_same n other = requirement_is n (cc)

  requires_least : (n : ℕ) → step.settings.least ≡ true → (question n).requirement ≡ step.requirement
  requires_least n least = requirement_is n (seeks_with_least step.settings least)

  requires_resolution : (n : ℕ) → step.settings.least ≡ false → step.settings.criterion ≡ Highest
      → (question n).requirement ≡ AtResolution n
  requires_resolution n plain e = cc (seeks plain e)

  -- a question without an answer
  unanswered : (n : ℕ) (wanted : Requirement) → (question n).requirement ≡ wanted → IsReducible wanted
      → answer (question n) ≡ None
      → NoneMeets (question n).dimensions wanted
  unanswered n wanted is low none =
      subst (NoneMeets (question n).dimensions) is
      ((none-exactly (question n) field (subst IsReducible (sym is) low)).0
      ((no_answer (question n) (omega (arith, leb-true 1 (length step.factors) (and_parts _ _ valid.factors).0))).0
      none))

  -- and its answer, where it has one
  answered : (n : ℕ) (rows : List ℕ) → answer (question n) ≡ Some rows
      → (length rows ≡ (question n).dimensions.s + (question n).dimensions.t)
      × (is_met (question n).dimensions (question n).requirement rows ≡ true)
  answered n rows is =
      let parts = and_parts _ _ (answer-design _ rows is) in
      (eqb-true _ _ parts.0, (and_parts _ _ parts.1).1)

  -- the dimensions that the step allows are those of its questions
  allowed : (n : ℕ) → (step.settings.size ≡ Minimum → (least_exponent step.settings.blocks ≤ n) × (n ≤ greatest q))
      → (step.settings.blocks ≡ blocks.Most → 1 ≤ n) → Allows step (question n).dimensions
  allowed n sizes some = record {
    levels = refl;
    factors = refl;
    runs = runs_again step.settings.size n;
    sizes = λ e. (let is : run_factors step.settings.size n ≡ n = cc in (
      rw is (sizes e).0,
      rw is (sizes e).1,
    ));
    blocks = blocks_again step.settings.blocks _ n;
    some_blocks =
        λ e. (let is : block_factors step.settings.blocks (run_factors step.settings.size n) n
        ≡ n = cc in
        rw is (some e));
  }

  allowed_is : (d : Dimensions) (n : ℕ) → Allows step d → run_factors step.settings.size n ≡ d.m
      → block_factors step.settings.blocks d.m n ≡ d.t
      → (question n).dimensions ≡ d
  allowed_is d n h runs blocks =
      same_dimensions (question n).dimensions d (cc) runs (cc)
      (cc)

  -- the outcome for a size
  abbrev at_size : Size → Conclusion
  at_size size =
      conclusion_of (series question (lowest step size) (asked.highest step size) (until size)) step.settings.budget

  module _ (least : step.settings.size ≡ Minimum) where
    is_least : outcome_of step ≡ at_size Minimum
    is_least = cc

    first_found : (rows : List ℕ) (count : ℕ) → HasEnding (outcome_of step) (Design rows count)
        → IsOfFirst question (least_exponent step.settings.blocks) (greatest q) step.settings.budget rows
    first_found rows count e =
        of-first question _ _ step.settings.budget rows count
        (ap (λ c. c.ending) (sym is_least) ∙ e)

    none_found : (count : ℕ) → HasEnding (outcome_of step) (NoDesign count) → (n : ℕ)
        → least_exponent step.settings.blocks ≤ n → n ≤ greatest q
        → answer (question n) ≡ None
    none_found count e =
        none-of_all question _ _ step.settings.budget count
        (ap (λ c. c.ending) (sym is_least) ∙ e)

  module _ (m : ℕ) (fixed : step.settings.size ≡ Runs m) where
    abbrev low : ℕ
    low = lowest step (Runs m)

    abbrev high : ℕ
    high = asked.highest step (Runs m)

    is_fixed : outcome_of step ≡ at_size (Runs m)
    is_fixed = cc

    last_found : (rows : List ℕ) (count : ℕ) → HasEnding (outcome_of step) (Design rows count)
        → IsOfLast question low high step.settings.budget rows
    last_found rows count e =
        of-last question low high step.settings.budget rows count (cc is_fixed)

    first_none : (count : ℕ) → HasEnding (outcome_of step) (NoDesign count) → answer (question low) ≡ None
    first_none count e =
        none-of_first question low high step.settings.budget count
        (cc is_fixed)

    -- where the most blocks are asked, the questions are for 1 to m block factors
    low_most : step.settings.blocks ≡ blocks.Most → low ≡ 1
    low_most e = cc

    high_most : step.settings.blocks ≡ blocks.Most → high ≡ m
    high_most e =
        cc

    -- where the highest resolution is, they are for 3 and up
    low_highest : step.settings.criterion ≡ Highest → low ≡ 3
    low_highest e = cc (highest_not_most e)

    high_highest : step.settings.criterion ≡ Highest → step.settings.least ≡ false
        → high ≡ max 3 (length step.factors + 1)
    high_highest e plain =
        cc (highest_not_most e, seeks plain e)

  abbrev d : Dimensions
  d = (outcome_of step).dimensions

  -- runs that meet what a question requires meet what the step does
  met_required : (n : ℕ) (rows : List ℕ) → (step.settings.criterion ≡ Highest → 3 ≤ n)
      → is_met (question n).dimensions (question n).requirement rows ≡ true
      → is_met (question n).dimensions step.requirement rows ≡ true
  unfolding is_met
  met_required n rows three met = elim (highest_or step.settings.criterion) [
    | inr other ↦ rw (requires_same n other) at met
    | inl e ↦ elim (cases_Bool step.settings.least) [
      | inl least ↦ rw (requires_least n least) at met
      | inr plain ↦
          let from = three e in
          let at =
          rw (requires_resolution n plain e) at met in
          rw (least_required e) (meet_less (question n).dimensions field (AtResolution n) (AtResolution 3) _ (record {
            balance = λ u hu h. (h.0, omega arith);
            estimate = λ u hu h. (h.0, omega arith);
          }) at)
    ]
  ]

  -- a number of a question of the step is one that the step allows
  own_fits : (n : ℕ) → lowest step step.settings.size ≤ n
      → (n ≤ asked.highest step step.settings.size) ⊎ (n ≡ lowest step step.settings.size)
      → step.settings.size ≡ Minimum
      → (least_exponent step.settings.blocks ≤ n) × (n ≤ greatest q)
  own_fits n from upto e =
      let low : lowest step step.settings.size ≡ least_exponent step.settings.blocks = cc in
      let high : asked.highest step step.settings.size ≡ greatest q = cc in
      let fits = exponent_fits q step.settings.size step.settings.blocks level given in
      (omega (arith, low), elim upto [ inl h ↦ omega (arith, high) | inr h ↦ omega (arith, low) ])

  own_some : (n : ℕ) → lowest step step.settings.size ≤ n → step.settings.blocks ≡ blocks.Most → 1 ≤ n
  own_some n from most = elim (size_or step.settings.size) [
    | inl least ↦ absurd (most_fixed most least)
    | inr fixed ↦
        let is : lowest step step.settings.size ≡ low fixed.0 fixed.1 = cc in
        omega (arith, low_most fixed.0 fixed.1 most)
  ]

  own_three : (n : ℕ) → lowest step step.settings.size ≤ n → step.settings.criterion ≡ Highest → 3 ≤ n
  own_three n from e = elim (size_or step.settings.size) [
    | inl least ↦ absurd (highest_fixed e least)
    | inr fixed ↦
        let is : lowest step step.settings.size ≡ low fixed.0 fixed.1 = cc in
        omega (arith, low_highest fixed.0 fixed.1 e)
  ]

  -- the matrix is of one of the step's questions
  pub what_it_asks : OfOutcome HasWhatItAsks step
  what_it_asks rows e =
      let each = each-of_step step in
      let own = left-of _ _ step.settings.budget rows each.0 each.1 e in
      let n = own.holds.n in
      let met =
      left_met _ field rows (rw own.holds.is at own.left) in
      rw (own.dimensions ∙ ap (λ p. p.dimensions) own.holds.is) (record {
        allowed = allowed n (own_fits n own.holds.from own.holds.upto) (own_some n own.holds.from);
        whole = met.0;
        met = met_required n rows (own_three n own.holds.from) met.1;
      })

  pub none_left : OfOutcome LeavesNoneOfLeastSize step
  none_left left budget least e =
      let each = each-of_step step in
      none-left _ (λ p own. ap (λ p. p.least) own.is ∙ (with_least_size least).1)
      _ step.settings.budget left budget (ap until least) each.0 each.1 e

  pub least_of_all : OfOutcome HasLeastOfAll step
  least_of_all rows count least e = elim (size_or step.settings.size) [
    | inl small ↦ absurd (both_ways _ (with_least_size small).1 least)
    | inr fixed ↦
        let m = fixed.0 in
        let h = last_found m fixed.1 rows count e in
        let dims =
        ap (λ c. c.dimensions) (is_fixed m fixed.1) ∙ h.answers.dimensions in
        subst (λ d. HasLeastPattern d step.requirement rows) (sym dims)
        (subst (λ wanted. HasLeastPattern (question h.n).dimensions wanted rows) (requires_least h.n least)
        (λ factors blocks matrix met. least-of_all (question h.n) field
        (subst IsReducible (sym (requires_least h.n least)) reducible) rows factors blocks least h.answers.answer_is
        matrix met))
  ]

  -- of a fixed size it allows no smaller one
  one_size : (m : ℕ) (fixed : step.settings.size ≡ Runs m) (rows : List ℕ) (count : ℕ) (other : Dimensions)
      → HasEnding (outcome_of step) (Design rows count)
      → Allows step other
      → other.m < d.m → ⊥
  one_size m fixed rows count other e h less =
      let last = last_found m fixed rows count e in
      let dims : d ≡ (question last.n).dimensions =
      cc (is_fixed m fixed) in
      let runs : d.m ≡ m = cc in
      let own : other.m ≡ m = cc in
      omega arith

  -- where each smaller size that it allows has no answer
  pub least_size : OfOutcome HasLeastSize step
  least_size rows count other e h less = elim (size_or step.settings.size) [
    | inl least ↦
        let first = first_found least rows count e in
        let dims : d ≡ (question first.n).dimensions =
        cc (is_least least) in
        let runs : d.m ≡ first.n = cc in
        let facts = with_least_size least in
        rw (← (allowed_is other other.m h (cc)
        (cc (same_blocks step.settings.blocks other.m other.m other.t facts.2))))
        (unanswered other.m step.requirement (requires_same other.m facts.0)
        reducible
        (first.none_before other.m (h.sizes least).0 (omega arith)))
    | inr fixed ↦ absurd (one_size fixed.0 fixed.1 rows count other e h less)
  ]

  -- where the most blocks are asked, the next question is for one block factor more
  one_more : (m : ℕ) → step.settings.size ≡ Runs m → step.settings.blocks ≡ blocks.Most → (n : ℕ)
      → (question (n + 1)).dimensions ≡ with_block (question n).dimensions
  one_more m fixed most n =
      let at = λ (m n : ℕ). ap (λ b. block_factors b m n) most in
      let runs = λ (n : ℕ). ap (λ size. run_factors size n) fixed in
      same_dimensions (question (n + 1)).dimensions _ refl
      (runs (n + 1) ∙ sym (runs n)) refl
      (at (run_factors step.settings.size (n + 1)) (n + 1)
      ∙ sym (ap (λ t. t + 1) (at (run_factors step.settings.size n) n)))

  -- where the question for one block factor more has no answer, or there are as many as run indexes
  pub most_blocks : OfOutcome HasMostBlocks step
  most_blocks rows count other most e h more = elim (size_or step.settings.size) [
    | inl least ↦ absurd (most_fixed most least)
    | inr fixed ↦
        let m = fixed.0 in
        let last = last_found m fixed.1 rows count e in
        let n = last.n in
        let dims : d ≡ (question n).dimensions =
        cc (is_fixed m fixed.1) in
        let at = λ (m n : ℕ). ap (λ b. block_factors b m n) most in
        let runs = λ (n : ℕ). ap (λ size. run_factors size n) fixed.1 in
        let own = at (run_factors step.settings.size n) n in
        let above = rw dims at more in
        let none : NoneMeets (with_block (question n).dimensions) step.requirement
        ⊎ ((question n).dimensions.m ≤ (question n).dimensions.t) =
        elim last.none_next [
          | inl end ↦ inr (omega (arith, high_most m fixed.1 most, runs n))
          | inr unmet ↦ inl (subst (λ d. NoneMeets d step.requirement) (one_more m fixed.1 most n)
              (unanswered _ step.requirement
              (requires_same (n + 1) (most_not_highest most)) reducible unmet))
        ] in
        let same =
        same_dimensions (with_blocks (question n).dimensions other.t) other (cc)
        (cc (runs n)) (cc) refl in
        rw (← same) (most-blocks (question n).dimensions field step.requirement none other.t above)
  ]

  next_highest : (m : ℕ) → step.settings.size ≡ Runs m → step.settings.criterion ≡ Highest → (n : ℕ)
      → (question (n + 1)).dimensions ≡ (question n).dimensions
  next_highest m fixed e n =
      let runs = λ (n : ℕ). ap (λ size. run_factors size n) fixed in
      let same =
      runs (n + 1) ∙ sym (runs n) in
      same_dimensions (question (n + 1)).dimensions (question n).dimensions refl same refl
      (cc (same_blocks step.settings.blocks (run_factors step.settings.size n) (n + 1) n (highest_not_most e)))

  -- where the question for the next resolution has no answer, or there is no word
  pub highest_of_all : OfOutcome HasHighestOfAll step
  highest_of_all rows count e without ends = elim (size_or step.settings.size) [
    | inl least ↦ absurd (highest_fixed e least)
    | inr fixed ↦
        let last = last_found fixed.0 fixed.1 rows count ends in
        let dims : d ≡ (question last.n).dimensions =
        cc (is_fixed fixed.0 fixed.1) in
        let own = answered last.n rows last.answers.answer_is in
        let plain_blocks : (question last.n).dimensions.t ≡ 0 =
        cc (unblocked step.settings.blocks without) in
        rw dims (elim (cases_Bool step.settings.least) [
          | inl least ↦
              let wanted = least_required e in
              highest-least (question last.n).dimensions field 3 rows plain_blocks own.0
              (rw (requires_least last.n least ∙ wanted) at own.1)
              (subst (λ wanted. HasLeastPattern (question last.n).dimensions wanted rows) wanted
              (rw dims at (least_of_all rows count least ends)))
          | inr plain ↦
              let from = rw (low_highest fixed.0 fixed.1 e) at last.from in
              highest (question last.n).dimensions field last.n rows plain_blocks own.0
              (rw (requires_resolution last.n plain e) at own.1)
              (elim last.none_next [
                | inl end ↦ inr (omega (arith, high_highest fixed.0 fixed.1 e plain))
                | inr unmet ↦
                    inl (subst (λ d. NoneMeets d (AtResolution (last.n + 1))) (next_highest fixed.0 fixed.1 e last.n)
                    (unanswered _ _ (requires_resolution (last.n + 1) plain e)
                    (omega arith) unmet))
              ])
        ])
  ]

  -- the resolution of the question that was answered is reached
  reached_is : (m : ℕ) (fixed : step.settings.size ≡ Runs m) → step.settings.criterion ≡ Highest
      → step.settings.least ≡ false
      → (rows : List ℕ) (last : IsOfLast question (low m fixed) (high m fixed) step.settings.budget rows)
      → (outcome_of step).reached ≡ last.n
  reached_is m fixed e plain rows last =
      cc (is_fixed m fixed, requires_resolution last.n plain e)

  pub meets_reached : OfOutcome MeetsWhatItReached step
  meets_reached rows e some ends =
      let each = each-of_step step in
      let plain = plain_in_blocks some in
      let own = left-of (IsQuestionOf step) (questions_of step) step.settings.budget rows each.0 each.1 ends in
      let n : ℕ = own.holds.n in
      let is : own.question ≡ question n = own.holds.is in
      let asks : (question n).requirement ≡ AtResolution n = requires_resolution n plain e in
      let reached =
      own.reached (λ p one. ap (λ (p : Problem). p.least) one.is ∙ plain)
      ∙ ap resolution_wanted (ap (λ p. p.requirement) is ∙ asks) in
      let met = left_met _ field rows (rw is at own.left) in
      let at =
      rw asks at met.1 in
      let dims = own.dimensions ∙ ap (λ p. p.dimensions) is in (
        rw reached (own_three n own.holds.from e),
        subst (λ d. is_met d (AtResolution (outcome_of step).reached) rows ≡ true) (sym dims)
            (subst (λ r. is_met (question n).dimensions (AtResolution r) rows ≡ true) (sym reached) at),
      )

  -- where the question for the next resolution has no answer, or none is asked
  pub highest_in_blocks : OfOutcome HasHighestInBlocks step
  highest_in_blocks rows count e some ends = elim (size_or step.settings.size) [
    | inl least ↦ absurd (highest_fixed e least)
    | inr fixed ↦
        let plain = plain_in_blocks some in
        let last = last_found fixed.0 fixed.1 rows count ends in
        let n = last.n in
        let top = high_highest fixed.0 fixed.1 e plain in
        let dims : d ≡ (question n).dimensions =
        cc (is_fixed fixed.0 fixed.1) in
        let own : IsHighestInBlocks (question n).dimensions rows n = record {
          from = rw (low_highest fixed.0 fixed.1 e) at last.from;
          upto = rw top at (last.upto (let low_is = low_highest fixed.0 fixed.1 e in omega arith));
          met =
              rw (requires_resolution n plain e) at (answered n rows last.answers.answer_is).1;
          none_above = λ k more upto. elim last.none_next [
            | inl end ↦
                absurd (omega arith)
            | inr unmet ↦
                none-higher (question n).dimensions field (n + 1) k (omega arith)
                (subst (λ d. NoneMeets d (AtResolution (n + 1))) (next_highest fixed.0 fixed.1 e n)
                (unanswered _ _ (requires_resolution (n + 1) plain e)
                (let from = rw (low_highest fixed.0 fixed.1 e) at last.from in omega arith)
                unmet))
          ];
        } in
        rw dims (subst (IsHighestInBlocks (question n).dimensions rows)
        (sym (reached_is fixed.0 fixed.1 e plain rows last)) own)
  ]

  -- of a fixed size the first question requires what the step does
  requires_first : (m : ℕ) (fixed : step.settings.size ≡ Runs m)
      → (question (low m fixed)).requirement ≡ step.requirement
  requires_first m fixed = elim (highest_or step.settings.criterion) [
    | inr other ↦ requires_same _ other
    | inl e ↦ elim (cases_Bool step.settings.least) [
      | inl least ↦ requires_least _ least
      | inr plain ↦
          cc (requires_resolution (low m fixed) plain e, low_highest m fixed e, least_required e)
    ]
  ]

  none_fixed : (other : Dimensions) → Allows step other → (m : ℕ) (fixed : step.settings.size ≡ Runs m)
      → answer (question (low m fixed)) ≡ None
      → NoneMeets other step.requirement
  none_fixed other h m fixed unmet =
      let n = low m fixed in
      let none =
      unanswered n step.requirement (requires_first m fixed) reducible unmet in
      let runs = λ (n : ℕ). ap (λ size. run_factors size n) fixed in
      let same_runs = runs n ∙ sym (h.runs ∙ runs other.m) in
      elim (most_or step.settings.blocks) [
        | inr plain ↦
            rw (← (allowed_is other n h same_runs (cc (same_blocks step.settings.blocks other.m n other.t plain)))) none
        | inl most ↦
            let own : (question n).dimensions.t ≡ 1 =
            cc (most, low_most m fixed most) in
            let from : 1 ≤ other.t = h.some_blocks most in
            let same : with_blocks (question n).dimensions other.t ≡ other =
            same_dimensions (with_blocks (question n).dimensions other.t) other (sym h.levels) same_runs (sym h.factors)
            refl in
            rw (← same)
            (none-with_more (question n).dimensions field step.requirement other.t (omega (arith, own, from)) none)
      ]

  -- without a design no question has an answer, or the first has none, and so no later one
  pub none_at_all : OfOutcome HasNoneAtAll step
  none_at_all count other e h = elim (size_or step.settings.size) [
    | inl least ↦
        let facts = with_least_size least in
        rw (← (allowed_is other other.m h (cc)
        (cc (same_blocks step.settings.blocks other.m other.m other.t facts.2))))
        (unanswered other.m step.requirement (requires_same other.m facts.0)
        reducible
        (none_found least count e other.m (h.sizes least).0
        (rw h.levels at (h.sizes least).1)))
    | inr fixed ↦ none_fixed other h fixed.0 fixed.1 (first_none fixed.0 fixed.1 count e)
  ]

  pub claims_hold : OfOutcome ClaimsHold step
  claims_hold = record {
    as_asked = what_it_asks;
    none_left = none_left;
    none_at_all = none_at_all;
    least_pattern = least_of_all;
    highest_resolution = highest_of_all;
    reached = meets_reached;
    highest_in_blocks = highest_in_blocks;
    least_size = least_size;
    most_blocks = most_blocks;
  }

  -- The questions behind what is claimed

  -- the asking ends with no question before that for n
  abbrev IsBefore : ℕ → Type 0
  IsBefore n = (k : ℕ) → lowest step step.settings.size ≤ k → k < n
      → is_last (until step.settings.size) (question k) ≡ false

  place_of : (n : ℕ) → lowest step step.settings.size ≤ n → n ≤ asked.highest step step.settings.size → IsBefore n
      → slice_get (asked.asked (questions_of step)) (n - lowest step step.settings.size) ≡ Some (question n)
  place_of n from top on =
      let low = lowest step step.settings.size in
      let i = n - low in
      let is : low + i ≡ n = omega arith in
      cc (asked_at question (until step.settings.size) low (suc (asked.highest step step.settings.size - low)) i
      (omega arith) (λ j less. on (low + j) (omega arith) (omega arith)))

  asked_for : (n : ℕ) (d : Dimensions) (wanted : Requirement) (own : Option (List ℕ))
      → lowest step step.settings.size ≤ n
      → n ≤ asked.highest step step.settings.size
      → IsBefore n
      → (question n).dimensions ≡ d
      → (question n).requirement ≡ wanted
      → answer (question n) ≡ own → IsAsked step d wanted own
  asked_for n d wanted own from top on dims requires is = record {
    place = n - lowest step step.settings.size;
    question = question n;
    asked_at = place_of n from top on;
    dimensions = dims;
    requirement = requires;
    least = refl;
    answer_is = is;
  }

  -- of a fixed size each question before an unanswered one has an answer
  before_fixed : (m : ℕ) (fixed : step.settings.size ≡ Runs m) (n : ℕ)
      → ((k : ℕ) → low m fixed ≤ k → k < n → is_some (answer (question k)) ≡ true) → IsBefore n
  before_fixed m fixed n some k from below =
      let is : lowest step step.settings.size ≡ low m fixed = cc in
      cc (some k (omega arith) below)

  -- of the least size each question before the first answer has none
  before_least : (least : step.settings.size ≡ Minimum) (rows : List ℕ)
      (first : IsOfFirst question (least_exponent step.settings.blocks) (greatest q) step.settings.budget rows) (n : ℕ)
      → n ≤ first.n → IsBefore n
  before_least least rows first n upto k from below =
      let is : lowest step step.settings.size ≡ least_exponent step.settings.blocks = cc in
      cc (first.none_before k (omega arith) (omega arith))

  -- the question after the last that has an answer, if it is asked
  next_asked : (m : ℕ) (fixed : step.settings.size ≡ Runs m) (rows : List ℕ)
      (last : IsOfLast question (low m fixed) (high m fixed) step.settings.budget rows) (d : Dimensions)
      (wanted : Requirement)
      → (question (last.n + 1)).dimensions ≡ d
      → (question (last.n + 1)).requirement ≡ wanted
      → (high m fixed ≤ last.n) ⊎ ((answer (question (last.n + 1)) ≡ None) × IsAsked step d wanted None)
  next_asked m fixed rows last d wanted dims requires = elim (cases_lt last.n (high m fixed)) [
    | inr end ↦ inl end
    | inl more ↦ elim last.none_next [
      | inl end ↦ absurd (omega arith)
      | inr unmet ↦
          let lowest_is : lowest step step.settings.size ≡ low m fixed = cc in
          let highest_is : asked.highest step step.settings.size ≡ high m fixed = cc in
          inr (
            unmet,
            asked_for (last.n + 1) d wanted None (omega arith) (omega arith)
                (before_fixed m fixed _ (λ k from below. last.some_upto k from (omega arith))) dims
                requires unmet,
          )
    ]
  ]

  -- behind a least pattern is the only question
  pub least_asked : (rows : List ℕ) (count : ℕ) → step.settings.least ≡ true
      → HasEnding (outcome_of step) (Design rows count)
      → IsAsked step d step.requirement (Some rows)
  least_asked rows count least e = elim (size_or step.settings.size) [
    | inl small ↦ absurd (both_ways _ (with_least_size small).1 least)
    | inr fixed ↦
        let last = last_found fixed.0 fixed.1 rows count e in
        let lowest_is : lowest step step.settings.size ≡ low fixed.0 fixed.1 = cc in
        let highest_is : asked.highest step step.settings.size ≡ high fixed.0 fixed.1 = cc in
        let some =
        rw fixed.1 at (some_numbers step valid (lowest step step.settings.size) refl) in
        asked_for last.n d step.requirement _ (omega arith)
        (omega (arith, last.upto some))
        (before_fixed fixed.0 fixed.1 last.n (λ k from below. last.some_upto k from (omega arith)))
        (sym (cc (is_fixed fixed.0 fixed.1)))
        (requires_least last.n least) last.answers.answer_is
  ]

  -- behind the highest resolution that for the next, unless there are no defining words
  pub highest_asked : (rows : List ℕ) (count : ℕ) → step.settings.criterion ≡ Highest → step.settings.least ≡ false
      → has_blocks step.settings.blocks ≡ false
      → HasEnding (outcome_of step) (Design rows count)
      → (resolution_of (pattern_of d rows) ≡ d.s + 1)
      ⊎ IsAsked step d (AtResolution (resolution_of (pattern_of d rows) + 1)) None
  highest_asked rows count e plain without ends = elim (size_or step.settings.size) [
    | inl least ↦ absurd (highest_fixed e least)
    | inr fixed ↦
        let m = fixed.0 in
        let last = last_found m fixed.1 rows count ends in
        let n : ℕ = last.n in
        let dims =
        ap (λ c. c.dimensions) (is_fixed m fixed.1) ∙ last.answers.dimensions in
        let own = answered n rows last.answers.answer_is in
        let from : 3 ≤ n = subst (λ k. k ≤ n) (low_highest m fixed.1 e) last.from in
        let plain_blocks : d.t ≡ 0 =
        cc (dims, unblocked step.settings.blocks without) in
        let field_d = subst (λ (d : Dimensions). IsField d.q) (sym dims) field in
        let whole : length rows ≡ d.s + d.t =
        rw dims own.0 in
        let met : is_met d (AtResolution n) rows ≡ true =
        rw dims (rw (requires_resolution n plain e) at own.1) in
        elim (next_asked m fixed.1 rows last d (AtResolution (n + 1)) (cc (next_highest m fixed.1 e n))
        (requires_resolution (n + 1) plain e)) [
          | inl end ↦
              let factors : d.s ≡ length step.factors = cc in
              inl (full_resolution d field_d rows n plain_blocks whole met
              (omega (arith, high_highest m fixed.1 e plain)))
          | inr next ↦ elim (exact_resolution d field_d rows n plain_blocks whole met
              (rw (← (next_highest m fixed.1 e n ∙ sym dims))
              (unanswered (n + 1) (AtResolution (n + 1)) (requires_resolution (n + 1) plain e) (omega arith)
              next.0))) [
                | inl full ↦ inl full
                | inr is ↦ inr (rw (← is) at next.1)
              ]
        ]
  ]

  -- behind the highest resolution in blocks that for the next, unless it is the highest that is asked for
  pub next_in_blocks_asked : (rows : List ℕ) (count : ℕ) → step.settings.criterion ≡ Highest
      → has_blocks step.settings.blocks ≡ true
      → HasEnding (outcome_of step) (Design rows count)
      → ((outcome_of step).reached ≡ top_resolution d)
      ⊎ IsAsked step d (AtResolution ((outcome_of step).reached + 1)) None
  next_in_blocks_asked rows count e some ends = elim (size_or step.settings.size) [
    | inl least ↦ absurd (highest_fixed e least)
    | inr fixed ↦
        let plain = plain_in_blocks some in
        let last = last_found fixed.0 fixed.1 rows count ends in
        let reached = reached_is fixed.0 fixed.1 e plain rows last in
        let dims : d ≡ (question last.n).dimensions =
        cc (is_fixed fixed.0 fixed.1) in
        elim (next_asked fixed.0 fixed.1 rows last d _ (cc (next_highest fixed.0 fixed.1 e last.n))
        (requires_resolution (last.n + 1) plain e)) [
          | inl end ↦
              let top = high_highest fixed.0 fixed.1 e plain in
              let upto =
              (highest_in_blocks rows count e some ends).upto in
              let factors : d.s ≡ length step.factors = cc in
              inl (omega arith)
          | inr next ↦ inr (rw (← reached) at next.1)
        ]
  ]

  -- behind the least size that for each smaller one
  pub smaller_asked : (rows : List ℕ) (count : ℕ) (other : Dimensions)
      → HasEnding (outcome_of step) (Design rows count)
      → Allows step other
      → other.m < d.m → IsAsked step other step.requirement None
  smaller_asked rows count other e h less = elim (size_or step.settings.size) [
    | inl least ↦
        let first = first_found least rows count e in
        let dims : d ≡ (question first.n).dimensions =
        cc (is_least least) in
        let runs : d.m ≡ first.n = cc in
        let facts = with_least_size least in
        let low : lowest step step.settings.size ≡ least_exponent step.settings.blocks = cc in
        let high : asked.highest step step.settings.size ≡ greatest q = cc in
        let from = (h.sizes least).0 in
        let top = rw h.levels at (h.sizes least).1 in
        asked_for other.m other step.requirement None (omega (arith, low)) (omega (arith, high))
        (before_least least rows first other.m (omega arith))
        (allowed_is other other.m h (cc)
        (cc (same_blocks step.settings.blocks other.m other.m other.t facts.2)))
        (requires_same other.m facts.0)
        (first.none_before other.m from (omega arith))
    | inr fixed ↦ absurd (one_size fixed.0 fixed.1 rows count other e h less)
  ]

  -- behind the most blocks that for one block factor more
  pub more_blocks_asked : (rows : List ℕ) (count : ℕ) → step.settings.blocks ≡ blocks.Most
      → HasEnding (outcome_of step) (Design rows count)
      → IsAsked step (with_block d) step.requirement None
  more_blocks_asked rows count most e = elim (size_or step.settings.size) [
    | inl least ↦ absurd (most_fixed most least)
    | inr fixed ↦
        let m = fixed.0 in
        let last = last_found m fixed.1 rows count e in
        let n : ℕ = last.n in
        let dims : d ≡ (question n).dimensions =
        cc (is_fixed m fixed.1, last.answers.dimensions) in
        let same = requires_same n (most_not_highest most) in
        elim (next_asked m fixed.1 rows last (with_block d) step.requirement
        (one_more m fixed.1 most n ∙ ap with_block (sym dims))
        (requires_same (n + 1) (most_not_highest most))) [
          | inl end ↦
              let own = answered n rows last.answers.answer_is in
              let blocks_are : (question n).dimensions.t ≡ n =
              cc most in
              let runs : (question n).dimensions.m ≡ m = ap (λ size. run_factors size n) fixed.1 in
              let fewer =
              fewer_than_indexes (question n).dimensions field step.requirement
              (requirement-estimated (question n).dimensions field step.requirement reducible
              (leb-true 1 (length step.factors) (and_parts _ _ valid.factors).0) valid.effects) rows own.0
              (rw same at own.1) in
              absurd (omega (arith, high_most m fixed.1 most))
          | inr next ↦ next.1
        ]
  ]
