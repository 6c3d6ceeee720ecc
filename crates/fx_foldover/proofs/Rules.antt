-- The combined plan is the runs of a rule matrix with one run index more, which stands first: the rule of a folded
-- factor has 1 there, and those of the others 0.
use Rattle.std.proofs.Common.{ℕ, ◌≡◌, ◌<◌, ◌+◌, ◌-◌, ◌%◌, ◌||◌, Bool, true, false, zero, suc, cond, eqb, List, [], ◌∷◌}
use Rattle.std.proofs.Common.{◌++◌, length, map, refl, sym, ◌∙◌, ap, arith, inl, inr}
use Rattle.std.proofs.lemmas.Bool.{cases_Bool, cond-true, cond-false}
use Rattle.std.proofs.lemmas.List.{map-append, append-nil}
use Rattle.fx_designs.specs.Galois.{add, mul, prime_of, degree_of, IsField}
use Rattle.fx_designs.specs.Vectors.{combination, IsVector}
use Rattle.fx_designs.specs.Runs.{points, levels_at, runs_of}
use Rattle.fx_laws.proofs.Tables.{is_order-field}
use Rattle.fx_laws.proofs.Linear.{zero-add-code, zero-mul, dot_code}
use Rattle.fx_laws.proofs.Separation.{one-mul}
use Rattle.fx_laws.proofs.Space.{AreVectors}
use Rattle.fx_foldover.specs.Foldovers.{exchanged_run, combined_plan, folded_count}

pub two : IsField 2
two = is_order-field 2 refl

-- the code of the first run index in the rule of a factor: 1 where it is folded
abbrev pub fold_code : ℕ → ℕ
fold_code f = cond (eqb f 0) 0 1

-- the rules with one run index more
abbrev pub combined_rules : List ℕ → List (List ℕ) → List (List ℕ)
combined_rules [] rules = []
combined_rules (f ∷ fold) [] = []
combined_rules (f ∷ fold) (r ∷ rules) = (fold_code f ∷ r) ∷ combined_rules fold rules

pub fold_code-below : (f : ℕ) → fold_code f < 2
fold_code-below f = elim (cases_Bool (eqb f 0)) [
  | inl kept ↦ omega (arith, cond-true {A = ℕ} (eqb f 0) 0 1 kept)
  | inr folded ↦ omega (arith, cond-false {A = ℕ} (eqb f 0) 0 1 folded)
]

pub length-combined_rules : (fold : List ℕ) (rules : List (List ℕ)) → length fold ≡ length rules
    → length (combined_rules fold rules) ≡ length rules
length-combined_rules [] [] e = refl
length-combined_rules [] (r ∷ rules) e = absurd (omega arith)
length-combined_rules (f ∷ fold) [] e = absurd (omega arith)
length-combined_rules (f ∷ fold) (r ∷ rules) e = cc (length-combined_rules fold rules (omega arith))

pub combined_rules-vectors : (m : ℕ) (fold : List ℕ) (rules : List (List ℕ)) → AreVectors 2 m rules
    → AreVectors 2 (suc m) (combined_rules fold rules)
combined_rules-vectors m [] rules h = tt
combined_rules-vectors m (f ∷ fold) [] h = tt
combined_rules-vectors m (f ∷ fold) (r ∷ rules) h = (
  record { len = cc; codes = (fold_code-below f, h.0.codes) },
  combined_rules-vectors m fold rules h.1,
)

add_one : (a : ℕ) → a < 2 → add 2 1 a ≡ 1 - a
unfolding add prime_of degree_of
add_one zero h = refl
add_one (suc zero) h = refl
add_one (suc (suc a)) h = absurd (omega arith)

-- where the first run index is 0, a level is as before,
kept : (f a : ℕ) → a < 2 → add 2 (mul 2 (fold_code f) 0) a ≡ a
kept f a h = cc (two.mul_zero (fold_code f), zero-add-code 2 two a h)

-- and where it is 1, exchanged if the factor is folded
exchanged : (f a : ℕ) → a < 2 → add 2 (mul 2 (fold_code f) 1) a ≡ cond (eqb f 0) a (1 - a)
exchanged f a h =
    ap (λ z. add 2 z a) (two.mul_one (fold_code f) (fold_code-below f))
    ∙ (elim (cases_Bool (eqb f 0)) [
      | inl none ↦
          ap (λ z. add 2 z a) (cond-true _ 0 1 none) ∙ zero-add-code 2 two a h
          ∙ sym (cond-true _ a (1 - a) none)
      | inr some ↦
          ap (λ z. add 2 z a) (cond-false _ 0 1 some) ∙ add_one a h
          ∙ sym (cond-false _ a (1 - a) some)
    ])

first_half : (fold : List ℕ) (rules : List (List ℕ)) (p : List ℕ) → length fold ≡ length rules
    → levels_at 2 (combined_rules fold rules) (0 ∷ p) ≡ levels_at 2 rules p
first_half [] [] p e = refl
first_half [] (r ∷ rules) p e = absurd (omega arith)
first_half (f ∷ fold) [] p e = absurd (omega arith)
first_half (f ∷ fold) (r ∷ rules) p e =
    cc (kept f _ (dot_code 2 two r p), first_half fold rules p (omega arith))

second_half : (fold : List ℕ) (rules : List (List ℕ)) (p : List ℕ) → length fold ≡ length rules
    → levels_at 2 (combined_rules fold rules) (1 ∷ p) ≡ exchanged_run fold (levels_at 2 rules p)
second_half [] [] p e = refl
second_half [] (r ∷ rules) p e = absurd (omega arith)
second_half (f ∷ fold) [] p e = absurd (omega arith)
second_half (f ∷ fold) (r ∷ rules) p e =
    cc (exchanged f _ (dot_code 2 two r p), second_half fold rules p (omega arith))

module _ (m : ℕ) (fold : List ℕ) (rules : List (List ℕ)) (e : length fold ≡ length rules) where
  first_halves : (ps : List (List ℕ))
      → map (λ p. levels_at 2 (combined_rules fold rules) p) (map (λ p. 0 ∷ p) ps)
      ≡ map (λ p. levels_at 2 rules p) ps
  first_halves [] = refl
  first_halves (p ∷ ps) = cc (first_half fold rules p e, first_halves ps)

  second_halves : (ps : List (List ℕ))
      → map (λ p. levels_at 2 (combined_rules fold rules) p) (map (λ p. 1 ∷ p) ps)
      ≡ map (exchanged_run fold) (map (λ p. levels_at 2 rules p) ps)
  second_halves [] = refl
  second_halves (p ∷ ps) = cc (second_half fold rules p e, second_halves ps)

  pub combined-runs : runs_of 2 (suc m) (combined_rules fold rules) ≡ combined_plan fold (runs_of 2 m rules)
  unfolding runs_of combined_plan
  combined-runs =
      let ps = points 2 m in
      let levels : List ℕ → List ℕ = λ p. levels_at 2 (combined_rules fold rules) p in
      cc (
        map-append levels (map (λ p. 0 ∷ p) ps) (map (λ p. 1 ∷ p) ps ++ []),
        first_halves ps,
        append-nil
            (map (λ p. 1 ∷ p) ps),
        second_halves ps,
      )

-- the parity of a sum
parity : (n b : ℕ) → b < 2 → add 2 b (n % 2) ≡ (b + n) % 2
parity n zero h = zero-add-code 2 two (n % 2) (omega arith) ∙ (let e : n % 2 ≡ (0 + n) % 2 = omega arith in e)
parity n (suc zero) h = add_one (n % 2) (omega arith) ∙ (let e : 1 - n % 2 ≡ (1 + n) % 2 = omega arith in e)
parity n (suc (suc b)) h = absurd (omega arith)

-- the product of a word's code and the first code of a rule is 1 exactly for a folded factor of the word
product : (a f : ℕ) → a < 2 → mul 2 a (fold_code f) ≡ cond (eqb f 0 || eqb a 0) 0 1
product zero f h = zero-mul 2 two (fold_code f) ∙ sym (cond-true _ 0 1 (or_true (eqb f 0)))
  where
    or_true : (b : Bool) → (b || true) ≡ true
    or_true true = refl
    or_true false = refl
product (suc zero) f h =
    cc (one-mul 2 two _ (fold_code-below f), or_false (eqb f 0))
  where
    or_false : (b : Bool) → (b || false) ≡ b
    or_false true = refl
    or_false false = refl
product (suc (suc a)) f h = absurd (omega arith)

product-below : (a f : ℕ) → cond (eqb f 0 || eqb a 0) 0 1 < 2
product-below a f = elim (cases_Bool (eqb f 0 || eqb a 0)) [
  | inl none ↦ omega (arith, cond-true {A = ℕ} (eqb f 0 || eqb a 0) 0 1 none)
  | inr some ↦ omega (arith, cond-false {A = ℕ} (eqb f 0 || eqb a 0) 0 1 some)
]

-- the sum of these rules by a word: first the parity of its folded factors, and then its sum of the rules
pub combined_rules-sum : (m : ℕ) (fold : List ℕ) (rules : List (List ℕ)) (u : List ℕ) → length fold ≡ length rules
    → IsVector 2 (length rules) u
    → combination 2 (suc m) u (combined_rules fold rules) ≡ (folded_count fold u % 2) ∷ combination 2 m u rules
combined_rules-sum m [] [] [] e h = refl
combined_rules-sum m [] [] (a ∷ u) e h = absurd (omega arith)
combined_rules-sum m [] (r ∷ rules) u e h = absurd (omega arith)
combined_rules-sum m (f ∷ fold) [] u e h = absurd (omega arith)
combined_rules-sum m (f ∷ fold) (r ∷ rules) [] e h = absurd (omega arith)
combined_rules-sum m (f ∷ fold) (r ∷ rules) (a ∷ u) e h =
    cc (
      (combined_rules-sum m fold rules u (omega arith)
          (record { len = (let l = h.len in omega arith); codes = h.codes.1 })),
      product a f h.codes.0,
      parity
          (folded_count fold u) _ (product-below a f),
    )
