-- The books of questions that may be asked can be written, and are good.
use Rattle.std.proofs.Common.{ℕ, ◌≡◌, ◌<◌, ◌≤◌, ◌+◌, ◌-◌, ◌*◌, ◌/◌, ◌^◌, ◌⊎◌, inl, inr, Bool, true, false, not, ◌&&◌}
use Rattle.std.proofs.Common.{◌||◌, if◌then◌else◌, List, [], ◌∷◌, ◌++◌, take, length, Option, Some, None, is_some, All}
use Rattle.std.proofs.Common.{IsTrue, refl, sym, ap, ◌∙◌, subst, arith, eqb}
use Rattle.std.specs.Prelude.{count_by, filter}
use Rattle.std.specs.List.{AllByRecursion, range_with_len}
use Rattle.std.specs.Option.{option_map}
use Rattle.std.proofs.Math.Nat.{div-le_self, mul-pos}
use Rattle.std.proofs.lemmas.Bool.{both_ways, cases_Bool, cond-true, cond-false, and_parts, eqb-true}
use Rattle.std.proofs.lemmas.List.{length-map, length-take}
use Rattle.std.proofs.lemmas.List.Sums.{count_by-le-length}
use Rattle.std.proofs.lemmas.List.Elements.{All-from_recursion, All-filter, All-get_or, recursion_from_All}
use Rattle.std.proofs.lemmas.List.Elements.{filter_passes}
use Rattle.fx_base.proofs.Lists.{each-map, each-all, each-weaker, each-both}
use Rattle.fx_designs.specs.Galois.{IsField, digits, number}
use Rattle.fx_designs.specs.Vectors.{last_nonzero, is_normal, zeros, weight, vectors_of}
use Rattle.fx_designs.specs.Runs.{is_constant, points, runs_of}
use Rattle.fx_designs.specs.Problems.{Dimensions, Problem, Requirement, AtResolution, ForEffects}
use Rattle.fx_designs.specs.Demands.{is_allowed, is_forbidden_word, padded, runs}
use Rattle.fx_designs.specs.Canonical.{is_canonical}
use Rattle.fx_designs.specs.Answers.{prefixes}
use Rattle.fx_designs.specs.Patterns.{constant_words, pattern_of}
use Rattle.fx_designs.specs.Nodes.{Mark, Branch, Word, Worse, is_branch, is_node, last_row, mark_of, marks, nodes}
use Rattle.fx_designs.specs.Nodes.{word_of}
use Rattle.fx_laws.proofs.Tables.{is_order-field}
use Rattle.fx_laws.proofs.CanonicalTest.{canonical_decides}
use Rattle.fx_laws.proofs.Codes.{length-points, number-below}
use Rattle.fx_laws.proofs.Order.{nonempty}
use Rattle.fx_laws.proofs.Ranks.{append-vector}
use Rattle.fx_laws.proofs.Space.{zeros-vector}
use Rattle.fx_reduction.proofs.ShortWords.{pattern-length}
use Rattle.fx_vectors.specs.Question.{CanBeAsked, is_resolution, requirement_of}
use Rattle.fx_vectors.specs.Shape.{IsShape}
use Rattle.fx_vectors.proofs.Limits.{words_fit}
use Rattle.fx_demands.proofs.Choice.{chosen}
use Rattle.fx_book.specs.Valid.{AreFew, IsBeat, IsEntry, IsValidBook}
use Rattle.fx_checker.specs.Books.{AreInTurn, Claim, IsGood, flaw, turns_after}
use Rattle.fx_checker.specs.Claims.{claim_of}
use Rattle.fx_checker.specs.declared.verdict.Reason.TheVariants.{Beats, OtherRow}
use Rattle.fx_checker.proofs.Existence.{word_exists}
use Rattle.fx_checker.proofs.Marks.{claim_over, none_good, some_good}
use Rattle.fx_book.specs.QuestionBooks.{beat_of, book_for, demands_for, has_book, head_for, shape_of}
use Rattle.fx_book.proofs.Accepted.{numbers-effects}

pub requirement_back : (wanted : Requirement) → requirement_of (demands_for wanted) ≡ wanted
requirement_back (AtResolution r) = refl
requirement_back (ForEffects estimate besides) =
    cc (numbers-effects estimate, numbers-effects besides)

-- a book has no pattern to beat, and its question no answer; or it has that of the least answer
told : (p : Problem) (least : Bool) (own : Option (List ℕ)) → (least || not (is_some own)) ≡ true
    → ((own ≡ None) × ((if least then option_map (pattern_of p.dimensions) own else None) ≡ None))
    ⊎ ((rows : List ℕ) × (least ≡ true) × (own ≡ Some rows)
    × ((if least then option_map (pattern_of p.dimensions) own else None) ≡ Some (pattern_of p.dimensions rows)))
told p true None has = inl (refl, refl)
told p true (Some rows) has = inr (rows, refl, refl, refl)
told p false None has = inl (refl, refl)
told p false (Some rows) has = cc has

-- a number with a nonzero entry is not 0
some_number : (q : ℕ) → 0 < q → (u v : List ℕ) → 0 < last_nonzero u → 0 < number q (u ++ v)
some_number q some [] v h = absurd (omega arith)
some_number q some (a ∷ u) v h = by_last (eqb (last_nonzero u) 0) refl (some_number q some u v)
  where
    by_last : (b : Bool) → eqb (last_nonzero u) 0 ≡ b → (0 < last_nonzero u → 0 < number q (u ++ v))
        → 0 < a + q * number q (u ++ v)
    by_last true e rest = let first =
        rw (cond-true _ a (last_nonzero u) e) at h in omega arith
    by_last false e rest =
        let more =
        rest (rw (cond-false _ a (last_nonzero u) e) at h) in
        let product = mul-pos some more in
        omega arith

-- counts of words are small
module _ (d : Dimensions) (f : IsField d.q) (small : (n : ℕ) → n ≤ d.s → d.q ^ n < 2 ^ 127) where
  count_fits : (rows : List ℕ) (k : ℕ)
      → constant_words d.q d.m (vectors_of d.q d.m (take d.s rows)) k / (d.q - 1) < 2 ^ 127
  unfolding constant_words
  count_fits rows k =
      let factors = vectors_of d.q d.m (take d.s rows) in
      let test : List ℕ → Bool = λ u. (eqb (weight u) k) && is_constant d.q u (runs_of d.q d.m factors) in
      let part = div-le_self (count_by test (points d.q (length factors))) (d.q - 1) in
      let all = count_by-le-length test (points d.q (length factors)) in
      let long = length-points d.q (length factors) in
      let fits =
      small (length factors) (omega (arith, length-map (take d.s rows) (digits d.q d.m), length-take d.s rows)) in
      omega arith

  pattern_fits : (rows : List ℕ) → AllByRecursion (λ a. a < 2 ^ 127) (pattern_of d rows)
  unfolding pattern_of
  pattern_fits rows =
      each-map (λ a. a < 2 ^ 127) (λ k. constant_words d.q d.m (vectors_of d.q d.m (take d.s rows)) k / (d.q - 1))
      _ (each-all _ (range_with_len 1 d.s) (count_fits rows))

-- marks in turn have no flaw at some prefix
HasNoFlaw : Claim → Mark → Type 0
HasNoFlaw x mark = (rows : List ℕ) × (flaw x rows mark ≡ None)

none_flawed : (x : Claim) (prefixes : List (List ℕ)) (entries : List Mark) → AreInTurn x prefixes entries
    → AllByRecursion (HasNoFlaw x) entries
unfolding AreInTurn HasNoFlaw
none_flawed x prefixes [] h = tt
none_flawed x [] (mark ∷ entries) h = absurd h
none_flawed x (rows ∷ others) (mark ∷ entries) h =
    ((rows, h.0), none_flawed x (turns_after x rows mark others) entries h.1)

-- the marks of a question that may be asked
module _ (p : Problem) (shaped : IsShape (shape_of p.dimensions)) (asked : CanBeAsked p.dimensions p.requirement) where
  abbrev d : Dimensions
  d = p.dimensions

  abbrev f : IsField d.q
  f = is_order-field d.q shaped.order

  some : 0 < d.s + d.t
  some = omega arith

  row_low : (c : List ℕ) → 0 < length c → is_canonical d p.requirement c ≡ true → last_row c < d.q ^ d.m
  row_low c more canonical =
      let own = (canonical_decides d f c p.requirement).0 canonical in
      All-get_or (λ r. r < d.q ^ d.m) c (length c - 1) 0 (omega arith) own.below

  word_low : (c : List ℕ) → is_canonical d p.requirement c ≡ true → is_allowed d p.requirement c ≡ false
      → (0 < word_of p c) × (word_of p c < d.q ^ (d.s + d.t))
  unfolding word_of
  word_low c canonical out =
      let short : length c ≤ d.s + d.t = ((canonical_decides d f c p.requirement).0 canonical).len in
      let word = word_exists d f p.requirement c short asked out in
      let best = chosen d p.requirement c word.0 shaped.order word.1 in
      let j = d.s + d.t - length best.0 in
      let closes =
      and_parts (is_normal best.0)
      (is_forbidden_word d p.requirement (padded d best.0) && is_constant d.q best.0 (runs d c))
      best.3 in
      let one = eqb-true (last_nonzero best.0) 1 closes.0 in
      let long : length c + j ≡ d.s + d.t = omega arith in
      let vector =
      rw long at (append-vector d.q _ j best.0 _ best.1 (zeros-vector d.q j f)) in
      let named : word_of p c ≡ number d.q (padded d best.0) =
      cc in (
        rw (← named) at (some_number d.q (omega (arith, f.more_than_one)) best.0 (zeros j) (omega arith)),
        rw named (number-below d.q _ _ vector),
      )

  entry : (c : List ℕ) → 0 < length c → is_canonical d p.requirement c ≡ true → IsEntry d true (mark_of p c)
  entry c more canonical = elim (cases_Bool (is_allowed d p.requirement c)) [
    | inl allowed ↦ elim (cases_Bool (is_branch p c)) [
      | inl branch ↦
          subst (IsEntry d true)
          (sym (cond-true _ _ _ allowed ∙ cond-true _ (Branch (last_row c))
          (Worse (last_row c)) branch)) (row_low c more canonical)
      | inr other ↦
          subst (IsEntry d true)
          (sym (cond-true _ _ _ allowed ∙ cond-false _
          (Branch (last_row c)) (Worse (last_row c)) other)) (row_low c more canonical, refl)
    ]
    | inr out ↦
        subst (IsEntry d true) (sym (cond-false _ _ (Word (last_row c) (word_of p c)) out))
        (let word = word_low c canonical out in (row_low c more canonical, word.0, word.1))
  ]

  entries : AllByRecursion (IsEntry d true) (marks p)
  unfolding marks nodes
  entries =
      let more : All (λ c. 0 < length c) (filter (is_node p) (prefixes p)) =
      All-filter _ (λ c. 0 < length c) _
      (All-from_recursion _ _ (nonempty (d.q ^ d.m) (d.s + d.t))) in
      let both =
      each-both (λ c. 0 < length c) (λ c. is_node p c ≡ true) (filter (is_node p) (prefixes p))
      (recursion_from_All _ _ more) (recursion_from_All _ _ (filter_passes (is_node p) (prefixes p))) in
      each-map _ _ _
      (each-weaker _ (λ c. IsEntry d true (mark_of p c)) _
      (λ c h. entry c h.0 (and_parts _ _ h.1).0) both)

  -- what a book claims, and why it is so
  claimed : claim_of (head_for p) ≡ claim_over p (is_some (beat_of p)) (beat_of p)
  claimed = cc (requirement_back p.requirement)

  beaten : (beat : Option (List ℕ)) → beat_of p ≡ beat → IsGood (claim_over p (is_some beat) beat) (marks p)
      → IsGood (claim_of (head_for p)) (marks p)
  beaten beat is good = subst (λ x. IsGood x (marks p)) (sym (claimed ∙ ap (λ b. claim_over p (is_some b) b) is)) good

  good : has_book p ≡ true → IsGood (claim_of (head_for p)) (marks p)
  good has = elim (told p p.least _ has) [
    | inl none ↦ beaten None none.1 (none_good p shaped.order asked some false none.0)
    | inr least ↦
        beaten _ least.3 (some_good p shaped.order asked some true least.1 least.0 least.2)
  ]

  -- where there is no pattern to beat, no prefix is marked as worse
  unbeaten : (mark : Mark) → IsEntry d true mark → HasNoFlaw (claim_over p false None) mark → IsEntry d false mark
  unfolding HasNoFlaw
  unbeaten (Branch row) h none = h
  unbeaten (Word row word) h none = h
  unbeaten (Worse row) h none = absurd (by_row _ none.1)
    where
      by_row : (b : Bool) → (if b then Some Beats else Some OtherRow) ≡ None → ⊥
      by_row true e = cc e
      by_row false e = cc e

  of_beat : (beat : Option (List ℕ)) → IsGood (claim_over p (is_some beat) beat) (marks p)
      → AllByRecursion (IsEntry d (is_some beat)) (marks p)
  of_beat None h = each-weaker _ _ _ (λ mark both. unbeaten mark both.0 both.1)
      (each-both _ _ _ entries
      (none_flawed _ _ _ h))
  of_beat (Some pattern) h = entries

  beat_entries : has_book p ≡ true → AllByRecursion (IsEntry d (is_some (beat_of p))) (marks p)
  beat_entries has = of_beat _ (subst (λ x. IsGood x (marks p)) claimed (good has))

  beat_fits : has_book p ≡ true → IsBeat d.s (is_some (beat_of p)) (beat_of p)
  beat_fits has = elim (told p p.least _ has) [
    | inl none ↦ rw none.1 refl
    | inr least ↦
        rw least.3 (
          refl,
          pattern-length d least.0,
          All-from_recursion _ _
              (pattern_fits d f (λ n short. words_fit _ shaped n (omega arith)) least.0),
        )
  ]

  -- a least pattern is asked in the head only where it is asked of the question
  asks_least : IsTrue (is_some (beat_of p)) → IsTrue p.least
  asks_least h = by_least p.least _ h
    where
      by_least : (least : Bool) (own : Option (List ℕ))
          → IsTrue (is_some (if least then option_map (pattern_of d) own else None)) → IsTrue least
      by_least true own h = refl
      by_least false own h = absurd (both_ways _ refl h)

  module _ (least : IsTrue p.least → IsTrue (is_resolution p.requirement) × (d.t ≡ 0))
      (few : AreFew (demands_for p.requirement)) (short : length (nodes p) ≤ 268435456) where
    marks_few : length (marks p) ≤ 268435456
    unfolding marks
    marks_few = omega (arith, length-map (nodes p) (mark_of p))

    pub valid : has_book p ≡ true → IsValidBook (book_for p)
    valid has = record {
      question = record {
        shaped = shaped;
        asked = subst (CanBeAsked d) (sym (requirement_back p.requirement)) asked;
        least = λ h. let own = least (asks_least h) in
            (rw (requirement_back p.requirement) own.0, own.1);
      };
      few_effects = few;
      beat = beat_fits has;
      marks = All-from_recursion _ _ (beat_entries has);
      few_marks = marks_few;
    }

  pub good_book : has_book p ≡ true → IsGood (claim_of (book_for p).head) (book_for p).marks
  good_book has = good has
