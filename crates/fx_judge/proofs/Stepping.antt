-- Steps of the loops over directions and differences.
use Rattle.std.proofs.Common.{ℕ, suc, ◌≡◌, ◌≢◌, ◌<◌, ◌≤◌, ◌+◌, List, [], ◌∷◌, ◌++◌, length, map, drop, get_or}
use Rattle.std.proofs.Common.{get_or-set_same, get_or-set_other, Option, Some, None, refl, sym, subst, ◌∙◌, ap, ap₂}
use Rattle.std.proofs.Common.{arith, inl, inr, append-nil}
use Rattle.std.specs.Prelude.{Bool, is_some, not, option_to_list, replicate}
use Rattle.std.specs.List.{flat_map, range_with_len}
use Rattle.std.proofs.Math.ListN.{length-set}
use Rattle.std.proofs.lemmas.Bool.{cases_eq}
use Rattle.std.proofs.lemmas.List.{length-map, get_or-map, drop_more, drop_all, length-replicate, get_or-replicate}
use Rattle.std.proofs.lemmas.List.Elements.{All-replicate}
use Rattle.std.proofs.lemmas.Grind.{flat_map-append}
use Rattle.fx_runs.proofs.Grouping.{next_place}
use Rattle.fx_designs.specs.Galois.{IsField, neg}
use Rattle.fx_designs.specs.Vectors.{IsVector, minus, plus, scale, zeros, combination}
use Rattle.fx_laws.proofs.Linear.{dot_code, dot-plus, dot-scale, dot-zeros}
use Rattle.fx_laws.proofs.Ranks.{plus-assoc, plus-zero}
use Rattle.fx_laws.proofs.Reorders.{plus-comm}
use Rattle.fx_laws.proofs.Space.{ext, zeros-vector, plus-vector, scale-vector}
use Rattle.fx_judge.specs.declared.rule.Rule.{Rule}
use Rattle.fx_judge.specs.Bases.{grown, without_part}
use Rattle.fx_judge.specs.Regular.{row_differences}
use Rattle.fx_judge.specs.Rules.{basic_among, combination_for, first_row, plan_rule, rule_by}
use Rattle.fx_judge.proofs.Kinships.{less}
use Rattle.fx_judge.proofs.Bases.{IsMade, IsStage}
use Rattle.fx_judge.proofs.Growing.{made_item}

module _ (q : ℕ) (f : IsField q) where
  -- one more row of a combination
  pub combination_more : (m : ℕ) (u : List ℕ) (rows : List (List ℕ)) (k a : ℕ) (r sum : List ℕ) → k < length u
      → k < length rows → a ≡ get_or u k 0 → r ≡ get_or rows k []
      → plus q (plus q sum (scale q a r)) (combination q m (drop (k + 1) u) (drop (k + 1) rows))
      ≡ plus q sum (combination q m (drop k u) (drop k rows))
  combination_more m u rows k a r sum hu hr ea er =
      plus-assoc q f sum (scale q a r) (combination q m (drop (k + 1) u) (drop (k + 1) rows))
      ∙ ap (plus q sum)
      (ap₂ (λ a r. plus q (scale q a r) (combination q m (drop (k + 1) u) (drop (k + 1) rows))) ea er
      ∙ sym (cc (drop_more u k 0 hu, drop_more rows k [] hr)))

  -- where no code is left
  pub combination_end : (m : ℕ) (u : List ℕ) (rows : List (List ℕ)) (k : ℕ) (sum : List ℕ) → length u ≤ k
      → IsVector q m sum → plus q sum (combination q m (drop k u) (drop k rows)) ≡ sum
  combination_end m u rows k sum past h =
      cc (drop_all k u past, plus-zero q m f sum h)

  pub combination_begins : (m : ℕ) (x : List ℕ) → IsVector q m x → plus q (zeros m) x ≡ x
  combination_begins m x h = plus-comm q f (zeros m) x ∙ plus-zero q m f x h

  -- a row less itself
  minus_self : (s : ℕ) (x : List ℕ) → IsVector q s x → minus q x x ≡ zeros s
  minus_self s x h =
      ext q s f _ _ (plus-vector q s f x _ h (scale-vector q s f (neg q 1) x h))
      (zeros-vector q s f)
      (λ p. cc (
        dot-plus q f x (scale q (neg q 1) x) p,
        dot-scale q f (neg q 1) x p,
        less q f _ (dot_code q f x p),
        dot-zeros q f s p,
      ))

  first_zero : (s : ℕ) (rows : List (List ℕ)) → 0 < length rows → IsVector q s (get_or rows 0 [])
      → get_or (row_differences q rows) 0 [] ≡ zeros s
  first_zero s [] some h = absurd (omega arith)
  first_zero s (x ∷ rows) some h = minus_self s x h

  pub differences_at : (rows : List (List ℕ)) (i : ℕ) → i < length rows
      → get_or (row_differences q rows) i [] ≡ minus q (get_or rows i []) (get_or rows 0 [])
  differences_at [] i h = absurd (omega arith)
  differences_at (x ∷ rows) i h = get_or-map (λ y. minus q y x) (x ∷ rows) i [] [] h

  pub differences_len : (rows : List (List ℕ)) → length (row_differences q rows) ≡ length rows
  differences_len [] = refl
  differences_len (x ∷ rows) = length-map (x ∷ rows) (λ y. minus q y x)

  -- the zeros are made of the differences
  pub zeros_made : (s : ℕ) (rows : List (List ℕ)) → 0 < length rows → IsVector q s (get_or rows 0 [])
      → IsMade q (row_differences q rows) (zeros s)
  zeros_made s rows some h =
      subst (IsMade q (row_differences q rows)) (first_zero s rows some h)
      (made_item q f (row_differences q rows) 0 (omega (arith, differences_len rows)))

  -- before the first factor
  pub starts : (s : ℕ) (D : List (List ℕ)) → IsMade q D (zeros s)
      → IsStage q s D (replicate s (zeros s)) (basic_among q s D 0) 0
  starts s D z = record {
    count = length-replicate s (zeros s);
    vectors = All-replicate (λ r. IsVector q s r) s _ (zeros-vector q s f);
    made = All-replicate (λ r. IsMade q D r) s _ z;
    basics = refl;
    marks = refl;
    rules = λ j h. absurd (omega arith);
    units = λ j h t. absurd (omega arith);
    zero = λ k h m. get_or-replicate s k (zeros s) [] h;
  }

-- the same stage, by the marks of the definition
pub turned : (q s : ℕ) (D rows : List (List ℕ)) (b : List Bool) (i : ℕ) → IsStage q s D rows b (suc i)
    → IsStage q s D rows (basic_among q s D (i + 1)) (i + 1)
turned q s D rows b i h =
    let one : suc i ≡ i + 1 = omega arith in
    rw (← one) (rw h.basics at h)

-- an entry of the directions that have grown
pub grown_entry : (q : ℕ) (rows : List (List ℕ)) (e x r : List ℕ) (i k : ℕ) → k < length rows → r ≡ get_or rows k []
    → (k ≡ i → x ≡ e) → (k ≢ i → x ≡ without_part q e i r) → x ≡ get_or (grown q rows e i) k []
grown_entry q rows e x r i k low is same other = elim (cases_eq k i) [
  | inl h ↦
      cc (
        same h,
        get_or-set_same (map (without_part q e i) rows) i e []
            (omega (arith, length-map rows (without_part q e i))),
      )
  | inr ne ↦
      cc (
        other ne,
        get_or-set_other (map (without_part q e i) rows) i k e [] ne,
        get_or-map (without_part q e i) rows k [] [] low,
      )
]

pub grown_length : (q : ℕ) (rows : List (List ℕ)) (e : List ℕ) (i : ℕ) → length (grown q rows e i) ≡ length rows
grown_length q rows e i = length-set (map (without_part q e i) rows) i e ∙ length-map rows (without_part q e i)

-- the rules up to factor i, and its own
abbrev pub rules_below : ℕ → ℕ → List (List ℕ) → ℕ → List Rule
rules_below q s rows n = flat_map (λ i. option_to_list (plan_rule q s rows i)) (range_with_len 0 n)

more : (q s : ℕ) (rows : List (List ℕ)) (i : ℕ)
    → rules_below q s rows i ++ option_to_list (plan_rule q s rows i) ≡ rules_below q s rows (i + 1)
more q s rows i =
    cc (
      append-nil (option_to_list (plan_rule q s rows i)),
      flat_map-append (λ i. option_to_list (plan_rule q s rows i)) (range_with_len 0 i) (i ∷ []),
      next_place i,
    )

first_is : (rows : List (List ℕ)) → 0 < length rows → first_row rows ≡ get_or rows 0 []
first_is [] h = absurd (omega arith)
first_is (x ∷ rows) h = refl

pub rule_more : (q s : ℕ) (rows : List (List ℕ)) (i : ℕ) (u : List ℕ) (rule : Rule) → 0 < length rows
    → combination_for q s (row_differences q rows) (basic_among q s (row_differences q rows) i) i ≡ Some u
    → rule ≡ rule_by q (get_or rows 0 []) i u → rules_below q s rows i ++ rule ∷ [] ≡ rules_below q s rows (i + 1)
rule_more q s rows i u rule some e is =
    let told : plan_rule q s rows i ≡ Some rule =
    cc (first_is rows some) in
    cc (more q s rows i)

pub no_rule : (q s : ℕ) (rows : List (List ℕ)) (i : ℕ)
    → combination_for q s (row_differences q rows) (basic_among q s (row_differences q rows) i) i ≡ None
    → rules_below q s rows i ≡ rules_below q s rows (i + 1)
no_rule q s rows i e =
    let told : plan_rule q s rows i ≡ None = cc in
    cc (append-nil (rules_below q s rows i), more q s rows i)

-- the mark of one more factor
pub mark_more : (q s : ℕ) (D : List (List ℕ)) (i : ℕ) (b : Bool) (o : Option (List ℕ))
    → combination_for q s D (basic_among q s D i) i ≡ o → not (is_some o) ≡ b
    → basic_among q s D i ++ b ∷ [] ≡ basic_among q s D (i + 1)
mark_more q s D i b o e is =
    let one : suc i ≡ i + 1 = omega arith in
    cc
