-- The components of a listing are the normal vectors of at most so many factors, each once.
use Rattle.std.proofs.Common.{ℕ, zero, suc, ◌≡◌, ◌<◌, ◌+◌, ◌-◌, ◌&&◌, ◌||◌, Bool, true, false, cond, eqb, ltb, List, []}
use Rattle.std.proofs.Common.{◌∷◌, ◌++◌, map, refl, sym, ◌∙◌, ap, ap₂, arith}
use Rattle.std.specs.Prelude.{count_by, nat_le}
use Rattle.std.specs.List.{AllByRecursion, flat_map, list_any, range_with_len, sum_by}
use Rattle.std.proofs.lemmas.Bool.Decides.{nat_tests}
use Rattle.std.proofs.lemmas.List.Sums.{sum_by-cons, sum_by-append}
use Rattle.fx_designs.specs.Vectors.{IsVector, is_normal, last_nonzero, same, weight}
use Rattle.fx_designs.specs.Components.{supports, codes_before, normal_vectors, components}
use Rattle.fx_laws.proofs.Sums.{sum_by-ext, sum_by-pick, sum_by-same, sum_by-zero, sum_by_flat_map, sum_by_map}
use Rattle.fx_laws.proofs.Raises.{sum_by-each}
use Rattle.fx_components.proofs.Enumerating.{next_weight}
use Rattle.fx_alias.proofs.Lengths.{all_of, any_true, none_true, trues}

abbrev bit : Bool → ℕ
bit b = cond b 1 0

-- a vector's last nonzero entry is 0 where each is
last_entry : (v : List ℕ) → (weight v ≡ 0 → last_nonzero v ≡ 0) × (0 < weight v → 0 < last_nonzero v)
last_entry [] = (λ e. refl, λ h. absurd (omega arith))
last_entry (a ∷ v) =
    let rest = last_entry v in
    step _ _ _ (sum_by-cons (λ c. bit (ltb 0 c)) a v) rest.0 rest.1
  where
    step : (w l t : ℕ) → t ≡ bit (ltb 0 a) + w → (w ≡ 0 → l ≡ 0) → (0 < w → 0 < l)
        → (t ≡ 0 → cond (eqb l 0) a l ≡ 0) × (0 < t → 0 < cond (eqb l 0) a l)
    step w l t more none some = (λ e. grind (arith, nat_tests), λ h. grind (arith, nat_tests))

taken_out : (x y : Bool) → bit (x && y) ≡ cond x (bit y) 0
taken_out true y = refl
taken_out false y = refl

put_last : (x y : Bool) → bit (x && y) ≡ cond y (bit x) 0
put_last true true = refl
put_last true false = refl
put_last false true = refl
put_last false false = refl

sum-cond : {X : Type 0} (b : Bool) (f : X → ℕ) (xs : List X) → sum_by (λ x. cond b (f x) 0) xs ≡ cond b (sum_by f xs) 0
sum-cond true f xs = refl
sum-cond false f xs = sum_by-zero xs

module _ (q a : ℕ) (u : List ℕ) where
  -- how often u is among vectors, and a before it
  abbrev count : List (List ℕ) → ℕ
  count vs = count_by (λ v. same v u) vs

  abbrev longer : List (List ℕ) → ℕ
  longer vs = count_by (λ v. same v (a ∷ u)) vs

  without : (vs : List (List ℕ)) → longer (map (λ v. 0 ∷ v) vs) ≡ cond (eqb 0 a) (count vs) 0
  without vs =
      sum_by_map (λ v. bit (same v (a ∷ u))) (λ v. 0 ∷ v) vs
      ∙ sum_by-ext _ _ vs (λ v. taken_out (eqb 0 a) (same v u))
      ∙ sum-cond (eqb 0 a) (λ v. bit (same v u)) vs

  begun : (codes v : List ℕ) → longer (map (λ c. c ∷ v) codes) ≡ cond (same v u) (count_by (λ c. eqb c a) codes) 0
  begun codes v =
      sum_by_map (λ y. bit (same y (a ∷ u))) (λ c. c ∷ v) codes
      ∙ sum_by-ext _ _ codes (λ c. put_last (eqb c a) (same v u))
      ∙ sum-cond (same v u) (λ c. bit (eqb c a)) codes

  swapped : (x : Bool) (n : ℕ) (y : Bool) → n ≡ bit y → cond x n 0 ≡ cond y (bit x) 0
  swapped true n true e = e
  swapped true n false e = e
  swapped false n true e = refl
  swapped false n false e = refl

  begun_by : (codes : List ℕ) (b : Bool) (vs : List (List ℕ)) → count_by (λ c. eqb c a) codes ≡ bit b
      → longer (flat_map (λ v. map (λ c. c ∷ v) codes) vs) ≡ cond b (count vs) 0
  begun_by codes b vs e =
      sum_by_flat_map (λ v. bit (same v (a ∷ u))) (λ v. map (λ c. c ∷ v) codes) vs
      ∙ sum_by-ext _ _ vs (λ v. begun codes v ∙ swapped (same v u) _ b e)
      ∙ sum-cond b (λ v. bit (same v u)) vs

  -- which codes come before k further factors
  abbrev is_code : ℕ → Bool
  is_code zero = eqb 1 a
  is_code (suc k) = ltb 0 a

  codes_count : (k : ℕ) (later : List Bool) → a < q → trues later ≡ k
      → count_by (λ c. eqb c a) (codes_before q later) ≡ bit (is_code k)
  codes_count k later low e = by_test (list_any (λ b. b) later) refl
    where
      in_range : (b : Bool) → ltb 0 a ≡ b
          → count_by (λ c. eqb c a) (range_with_len 1 (q - 1)) ≡ bit b
      in_range true is = sum_by-pick (λ c. 1) a 1 (q - 1) (grind (arith, nat_tests)) (omega arith)
      in_range false is =
          sum_by-same (λ c. bit (eqb c a)) (λ c. 0) 1 (q - 1) (λ c from to. grind (arith, nat_tests))
          ∙ sum_by-zero (range_with_len 1 (q - 1))

      some : (k : ℕ) → 0 < k → bit (is_code k) ≡ bit (ltb 0 a)
      some zero h = absurd (omega arith)
      some (suc k) h = refl

      by_test : (t : Bool) → list_any (λ b. b) later ≡ t
          → count_by (λ c. eqb c a) (codes_before q later) ≡ bit (is_code k)
      by_test true is =
          rw is (cc (in_range (ltb 0 a) refl, some k (omega (arith, any_true later is))))
      by_test false is =
          let none : k ≡ 0 = omega (arith, none_true later is) in
          rw (is, none) (omega arith)

  abbrev all : List (List Bool) → List (List ℕ)
  all sets = flat_map (normal_vectors q) sets

  not_with : (sets : List (List Bool))
      → longer (all (map (λ set. false ∷ set) sets)) ≡ cond (eqb 0 a) (count (all sets)) 0
  not_with sets =
      sum_by_flat_map (λ v. bit (same v (a ∷ u))) (normal_vectors q) (map (λ set. false ∷ set) sets)
      ∙ sum_by_map (λ set. longer (normal_vectors q set)) (λ set. false ∷ set) sets
      ∙ sum_by-ext _ _ sets (λ set. without (normal_vectors q set))
      ∙ sum-cond (eqb 0 a) (λ set. count (normal_vectors q set)) sets
      ∙ sym (ap (λ n. cond (eqb 0 a) n 0) (sum_by_flat_map (λ v. bit (same v u)) (normal_vectors q) sets))

  with : (k : ℕ) (sets : List (List Bool)) → a < q → AllByRecursion (λ set. trues set ≡ k) sets
      → longer (all (map (λ set. true ∷ set) sets)) ≡ cond (is_code k) (count (all sets)) 0
  with k sets low sized =
      cc (
        sum_by_flat_map (λ v. bit (same v (a ∷ u))) (normal_vectors q) (map (λ set. true ∷ set) sets),
        sum_by_map
            (λ set. longer (normal_vectors q set)) (λ set. true ∷ set) sets,
        sum_by-each _
            _ sets (each sets sized),
        sum-cond (is_code k) (λ set. count (normal_vectors q set)) sets,
        sum_by_flat_map
            (λ v. bit (same v u)) (normal_vectors q) sets,
      )
    where
      each : (sets : List (List Bool)) → AllByRecursion (λ set. trues set ≡ k) sets
          → AllByRecursion (λ set. longer (normal_vectors q (true ∷ set))
          ≡ cond (is_code k) (count (normal_vectors q set)) 0) sets
      each [] h = tt
      each (set ∷ sets) h =
          (begun_by (codes_before q set) (is_code k) (normal_vectors q set) (codes_count k set low h.0), each sets h.1)

-- whether a vector of this weight and last nonzero entry is a component of k factors
abbrev is_of : ℕ → ℕ → ℕ → Bool
is_of k w l = eqb w k && (eqb l 1 || eqb k 0)

none_here : (a w l : ℕ) → (w ≡ 0 → l ≡ 0) → (0 < w → 0 < l)
    → cond (eqb 0 a) (bit (is_of 0 w l)) 0 ≡ bit (is_of 0 (bit (ltb 0 a) + w) (cond (eqb l 0) a l))
none_here a w l none some = grind (arith, nat_tests)

one_here : (a w l : ℕ) → (w ≡ 0 → l ≡ 0) → (0 < w → 0 < l)
    → cond (eqb 1 a) (bit (is_of 0 w l)) 0 + cond (eqb 0 a) (bit (is_of 1 w l)) 0
    ≡ bit (is_of 1 (cond (ltb 0 a) 1 0 + w) (cond (eqb l 0) a l))
one_here a w l none some = grind (arith, nat_tests)

more_here : (k a w l : ℕ) → (w ≡ 0 → l ≡ 0) → (0 < w → 0 < l)
    → cond (ltb 0 a) (bit (is_of (suc k) w l)) 0 + cond (eqb 0 a) (bit (is_of (suc (suc k)) w l)) 0
    ≡ bit (is_of (suc (suc k)) (cond (ltb 0 a) 1 0 + w) (cond (eqb l 0) a l))
more_here k a w l none some = grind (arith, nat_tests)

module _ (q : ℕ) where
  of_size : (k s : ℕ) (u : List ℕ) → IsVector q s u
      → count_by (λ v. same v u) (flat_map (normal_vectors q) (supports k s))
      ≡ bit (is_of k (weight u) (last_nonzero u))
  of_size k zero (a ∷ u) h = absurd (omega arith)
  of_size k (suc s) [] h = absurd (omega arith)
  of_size zero zero [] h = refl
  of_size (suc k) zero [] h = none k
    where
      none : (k : ℕ) → zero ≡ bit (is_of (suc k) 0 0)
      none k = grind (arith, nat_tests)
  of_size zero (suc s) (a ∷ u) h =
      let last = last_entry u in
      cc (
        not_with q a u (supports zero s),
        of_size zero s u (record { len = omega arith; codes = h.codes.1 }),
        none_here a _ _ last.0 last.1,
        sum_by-cons (λ c. bit (ltb 0 c)) a u,
      )
  of_size (suc k) (suc s) (a ∷ u) h =
      let hu : IsVector q s u = record { len = omega arith; codes = h.codes.1 } in
      let last = last_entry u in
      let here = map (λ set. true ∷ set) (supports k s) in
      let others = map (λ set. false ∷ set) (supports (suc k) s) in
      let p : List ℕ → ℕ = λ v. bit (same v (a ∷ u)) in
      cc (
        sum_by_flat_map p (normal_vectors q) (here ++ others),
        sum_by-append (λ set. sum_by p (normal_vectors q set))
            here others,
        sum_by_flat_map p (normal_vectors q) here,
        sum_by_flat_map p (normal_vectors q) others,
        with q a
            u k (supports k s) h.codes.0 (all_of k s),
        of_size k s u hu,
        not_with q a u (supports (suc k) s),
        of_size
            (suc k) s u hu,
        by_size k _ _ last.0 last.1,
        sum_by-cons (λ c. bit (ltb 0 c)) a u,
      )
    where
      by_size : (k w l : ℕ) → (w ≡ 0 → l ≡ 0) → (0 < w → 0 < l)
          → cond (is_code q a u k) (bit (is_of k w l)) 0 + cond (eqb 0 a) (bit (is_of (suc k) w l)) 0
          ≡ bit (is_of (suc k) (cond (ltb 0 a) 1 0 + w) (cond (eqb l 0) a l))
      by_size zero w l none some = one_here a w l none some
      by_size (suc k) w l none some = more_here k a w l none some

  one_size_more : (d w l : ℕ) → (w ≡ 0 → l ≡ 0)
      → bit (eqb l 1 && nat_le w d) + bit (is_of (d + 1) w l) ≡ bit (eqb l 1 && nat_le w (d + 1))
  one_size_more d w l none = grind (arith, nat_tests)

  pub exactly_once : (s d : ℕ) (u : List ℕ) → IsVector q s u
      → count_by (λ v. same v u) (components q s d) ≡ bit (is_normal u && nat_le (weight u) d)
  exactly_once s zero u h = no_size _ _ (last_entry u).0
    where
      no_size : (w l : ℕ) → (w ≡ 0 → l ≡ 0) → zero ≡ bit (eqb l 1 && nat_le w 0)
      no_size w l none = grind (arith, nat_tests)
  exactly_once s (suc d) u h =
      let one : suc d ≡ d + 1 = omega arith in
      ap (λ n. count_by (λ v. same v u) (components q s n)) one
      ∙ ap (count_by (λ v. same v u)) (sym (next_weight q s d))
      ∙ sum_by-append (λ v. bit (same v u)) (components q s d) (flat_map (normal_vectors q) (supports (d + 1) s))
      ∙ ap₂ (λ m n. m + n) (exactly_once s d u h) (of_size (d + 1) s u h)
      ∙ one_size_more d _ _ (last_entry u).0
      ∙ ap (λ n. bit (is_normal u && nat_le (weight u) n)) (sym one)
