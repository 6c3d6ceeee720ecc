-- The patterns of prefixes are ordered, and grow along a prefix; the prefixes of a problem make a ranked tree.
use Rattle.std.proofs.Common.{◌≡◌, ℕ, suc, ◌<◌, ◌≤◌, ◌+◌, ◌^◌, true, false, not, ◌&&◌, ltb, List, [], ◌∷◌, ◌++◌, length}
use Rattle.std.proofs.Common.{take, slice_index, refl, sym, ap, ◌∙◌, inl, inr, arith, append_assoc}
use Rattle.std.proofs.Common.{append-nil}
use Rattle.std.specs.List.{list_all}
use Rattle.std.proofs.lemmas.Bool.{cases_Bool, and_parts, and_left, and_right, or_from, le-ltb, ltb-true}
use Rattle.std.proofs.lemmas.Bool.{false_from_ne_true, cases_lt, lt-ltb, le-leb, lt-leb}
use Rattle.std.proofs.lemmas.List.{take_all}
use Rattle.fx_designs.specs.Galois.{IsField}
use Rattle.fx_designs.specs.Vectors.{same}
use Rattle.fx_designs.specs.Problems.{Dimensions, Problem, Requirement, AtResolution, ForEffects}
use Rattle.fx_designs.specs.Patterns.{pattern_of, is_less}
use Rattle.fx_designs.specs.Canonical.{is_canonical}
use Rattle.fx_designs.specs.Answers.{before}
use Rattle.fx_designs.specs.Nodes.{counts}
use Rattle.fx_reduction.specs.Reduction.{IsReducible}
use Rattle.fx_reduction.proofs.Extensions.{prefix-words}
use Rattle.fx_reduction.proofs.PatternOrder.{less-self, less-trans, less-either, not_above}
use Rattle.fx_reduction.proofs.ShortWords.{pattern-length}
use Rattle.fx_vectors.specs.Question.{CanBeAsked}
use Rattle.fx_tree.proofs.Nodes.{is-tree}
use Rattle.fx_tree.specs.Ranked.{IsRanked, counts_for}
use Rattle.fx_tree.specs.Search.{ranked}
use Rattle.fx_tree.proofs.Best.{clash}
use Rattle.fx_tree.proofs.Place.{extends-not_before, take-same}

-- no entry smaller: not less
entries-not_less : (a b : List ℕ) → ((k : ℕ) → slice_index a k ≤ slice_index b k) → is_less b a ≡ false
entries-not_less [] [] h = refl
entries-not_less (x ∷ a) [] h = refl
entries-not_less [] (y ∷ b) h = refl
entries-not_less (x ∷ a) (y ∷ b) h =
    or_from _ _ (le-ltb y x (h 0)) (and_right _ _ (entries-not_less a b (λ k. h (suc k))))

module _ (d : Dimensions) (f : IsField d.q) (wanted : Requirement) where
  abbrev pub at : List ℕ → List ℕ
  at rows = pattern_of d rows

  one-longer : (rows : List ℕ) (r : ℕ) → is_less (at (rows ++ r ∷ [])) (at rows) ≡ false
  one-longer rows r = entries-not_less (at rows) (at (rows ++ r ∷ [])) (prefix-words d f rows r)

  last-below : (rows : List ℕ) (b r : ℕ) → list_all (λ r. ltb r b) (rows ++ r ∷ []) ≡ true → r < b
  last-below [] b r h = ltb-true r b (and_parts (ltb r b) true h).0
  last-below (x ∷ rows) b r h = last-below rows b r (and_parts (ltb x b) (list_all (λ r. ltb r b) (rows ++ r ∷ [])) h).1

  pub row-below : (rows : List ℕ) (r : ℕ) → is_canonical d wanted (rows ++ r ∷ []) ≡ true → r < d.q ^ d.m
  unfolding is_canonical
  row-below rows r h = last-below rows (d.q ^ d.m) r (and_parts _ _ (and_parts _ _ h).1).0

module _ (p : Problem) (f : IsField p.dimensions.q) where
  abbrev pattern : List ℕ → List ℕ
  pattern rows = pattern_of p.dimensions rows

  long : (a b : List ℕ) → length (pattern a) ≡ length (pattern b)
  long a b = pattern-length p.dimensions a ∙ sym (pattern-length p.dimensions b)

  -- the pattern of a prefix is not greater than that of what extends it
  pub longer : (rows s : List ℕ) → is_less (pattern (rows ++ s)) (pattern rows) ≡ false
  longer rows [] =
      rw (append-nil rows) (less-self (pattern rows))
  longer rows (r ∷ s) =
      let up : is_less (pattern ((rows ++ r ∷ []) ++ s)) (pattern (rows ++ r ∷ [])) ≡ false =
      longer (rows ++ r ∷ []) s in
      rw (append_assoc rows (r ∷ []) s) at (not_above (pattern ((rows ++ r ∷ []) ++ s)) (pattern (rows ++ r ∷ []))
      (pattern rows)
      (long ((rows ++ r ∷ []) ++ s) (rows ++ r ∷ [])) up (one-longer p.dimensions f p.requirement rows r))

  pub is-ranked : IsRanked (ranked p)
  is-ranked = record {
    tree = is-tree p f;
    ranged = λ rows r h. row-below p.dimensions f p.requirement rows r h;
    not_both =
        λ a b h. false_from_ne_true _
        (λ k. clash (is_less (pattern a) (pattern a)) (less-trans (pattern a) (pattern b) (pattern a) h k)
        (less-self (pattern a)));
    apart = λ a b c h k. elim (less-either (pattern c) (pattern b) (long c b) k) [
      | inl e ↦ rw e at h
      | inr e ↦ less-trans (pattern a) (pattern b) (pattern c) h e
    ];
    longer = longer;
  }

-- a matrix counts for a prefix in either wording
pub counts-same : (p : Problem) (d rows : List ℕ) → counts p.dimensions d rows ≡ counts_for (ranked p) d rows
counts-same p d rows =
    elim (cases_Bool (before d rows)) [
      | inr out ↦ cc (and_left _ _ out)
      | inl first ↦ ap (λ b. before d rows && not b) (elim (cases_lt m (length rows)) [
        | inr short ↦
            and_left _ _ (le-ltb m (length rows) short) ∙ sym
            (and_left _ _ (lt-leb (m + 1 + 1) (length rows) (omega arith)))
        | inl some ↦ elim (cases_lt (m + 1) (length rows)) [
          | inl more ↦
              cc (lt-ltb m (length rows) some, le-leb (m + 1 + 1) (length rows) (omega arith), plus)
          | inr lot ↦
              let whole : take (m + 1) rows ≡ rows = take_all (m + 1) rows (omega arith) in
              let apart : same (take (m + 1) d) (take (m + 1) rows) ≡ false =
              false_from_ne_true _
              (λ e. clash (before d rows) first
              (extends-not_before d rows
              (take-same (m + 1) d rows (rw whole at e)))) in
              and_right _ _ (and_left _ _ apart) ∙ sym (and_left _ _ (lt-leb (m + 1 + 1) (length rows) (omega arith)))
        ]
      ])
    ]
  where
    m : ℕ
    m = p.dimensions.m

    plus : m + 2 ≡ m + 1 + 1
    plus = omega arith

-- what can be asked is reducible
pub reducible : (d : Dimensions) (wanted : Requirement) → CanBeAsked d wanted → IsReducible wanted
reducible d (AtResolution r) h = h.0
reducible d (ForEffects estimate besides) h = tt
