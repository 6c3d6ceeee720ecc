-- How many components are listed.
use Rattle.std.proofs.Common.{rules, ℕ, zero, suc, ◌≡◌, ◌<◌, ◌+◌, ◌-◌, ◌*◌, ◌^◌, Bool, true, false, cond, List, [], ◌∷◌}
use Rattle.std.proofs.Common.{◌++◌, length, map, refl, sym, ◌∙◌, ap₂, arith, length-append, pow-suc, mul-one}
use Rattle.std.proofs.Math.Nat.{pow-zero}
use Rattle.std.specs.List.{flat_map, list_any, range_with_len, AllByRecursion}
use Rattle.std.proofs.lemmas.List.{length-map, append-nil}
use Rattle.std.proofs.lemmas.List.Concat.{length-flat_map}
use Rattle.std.proofs.lemmas.List.FromFn.{length-range_with_len}
use Rattle.std.proofs.lemmas.Grind.{flat_map-append}
use Rattle.fx_base.proofs.Lists.{each-append, each-map, each-all}
use Rattle.fx_base.proofs.Ranges.{range_push}
use Rattle.fx_designs.specs.Components.{choose, component_count, listed_count, supports, codes_before, normal_vectors}
use Rattle.fx_designs.specs.Components.{components}
use Rattle.fx_laws.proofs.Sums.{sum_by_equal}

-- how many factors are in a set
abbrev pub trues : List Bool → ℕ
trues [] = 0
trues (true ∷ b) = suc (trues b)
trues (false ∷ b) = trues b

pub any_true : (b : List Bool) → list_any (λ x. x) b ≡ true → 0 < trues b
any_true [] e = absurd (search rules)
any_true (true ∷ b) e = omega arith
any_true (false ∷ b) e = any_true b e

pub none_true : (b : List Bool) → list_any (λ x. x) b ≡ false → trues b ≡ 0
none_true [] e = refl
none_true (true ∷ b) e = absurd (search rules)
none_true (false ∷ b) e = none_true b e

length-codes : (q : ℕ) (later : List Bool) (t : Bool) → list_any (λ x. x) later ≡ t
    → length (codes_before q later) ≡ cond t (q - 1) 1
length-codes q later true e = rw e (length-range_with_len 1 _)
length-codes q later false e = rw e

times_codes : (q : ℕ) (b : List Bool) (n : ℕ) → n ≡ (q - 1) ^ (trues b - 1) → (t : Bool) → list_any (λ x. x) b ≡ t
    → n * length (codes_before q b) ≡ (q - 1) ^ (suc (trues b) - 1)
times_codes q b n is true e =
    let first : suc (trues b) - 1 ≡ suc (trues b - 1) = omega (arith, any_true b e) in
    ap₂ (λ x y. x * y) is (length-codes q b true e) ∙ rw (first, pow-suc)
times_codes q b n is false e =
    ap₂ (λ x y. x * y) is (length-codes q b false e) ∙ rw (none_true b e) (mul-one _)

length-normal : (q : ℕ) (b : List Bool) → length (normal_vectors q b) ≡ (q - 1) ^ (trues b - 1)
length-normal q [] = sym (pow-zero (q - 1))
length-normal q (false ∷ b) = length-map (normal_vectors q b) (λ v. 0 ∷ v) ∙ length-normal q b
length-normal q (true ∷ b) =
    cc (
      length-flat_map (λ v. map (λ c. c ∷ v) (codes_before q b)) (normal_vectors q b),
      sum_by_equal _ _ _
          (each-all (λ v. length (map (λ c. c ∷ v) (codes_before q b)) ≡ length (codes_before q b)) (normal_vectors q b)
          (λ v. length-map (codes_before q b) (λ c. c ∷ v))),
      times_codes q b _ (length-normal q b) (list_any (λ x. x) b)
          refl,
    )

length-supports : (k s : ℕ) → length (supports k s) ≡ choose s k
length-supports zero zero = refl
length-supports (suc k) zero = refl
length-supports zero (suc s) = cc (length-map (supports zero s) (λ set. false ∷ set), length-supports zero s, one s)
  where
    one : (s : ℕ) → choose s 0 ≡ 1
    one zero = refl
    one (suc s) = refl
length-supports (suc k) (suc s) =
    cc (
      length-append (map (λ set. true ∷ set) (supports k s)) (map (λ set. false ∷ set) (supports (suc k) s)),
      length-map (supports k s) (λ set. true ∷ set),
      length-supports k s,
      length-map (supports (suc k) s)
          (λ set. false ∷ set),
      length-supports (suc k) s,
    )

less : {X : Type 0} (g : X → ℕ) (n : ℕ) (xs : List X) → AllByRecursion (λ x. g x ≡ n) xs
    → AllByRecursion (λ x. suc (g x) ≡ suc n) xs
less g n [] h = tt
less g n (x ∷ xs) h = (cc, less g n xs h.1)

-- a set of k factors has k of them
pub all_of : (k s : ℕ) → AllByRecursion (λ b. trues b ≡ k) (supports k s)
all_of zero zero = (refl, tt)
all_of (suc k) zero = tt
all_of zero (suc s) = each-map _ _ _ (all_of zero s)
all_of (suc k) (suc s) =
    each-append _ _
    _
    (each-map _ _ _ (less trues k _ (all_of k s)))
    (each-map _ _ _ (all_of (suc k) s))

lengths_of : (q k : ℕ) (sets : List (List Bool)) → AllByRecursion (λ b. trues b ≡ k) sets
    → AllByRecursion (λ b. length (normal_vectors q b) ≡ (q - 1) ^ (k - 1)) sets
lengths_of q k [] h = tt
lengths_of q k (b ∷ sets) h = (cc (length-normal q b), lengths_of q k sets h.1)

length-of : (q s k : ℕ) → length (flat_map (normal_vectors q) (supports k s)) ≡ component_count q s k
length-of q s k =
    cc (
      length-flat_map (normal_vectors q) (supports k s),
      sum_by_equal _ _ _
          (lengths_of q k _ (all_of k s)),
      length-supports k s,
    )

-- as many as the rule on listings counts
pub length-components : (q s d : ℕ) → length (components q s d) ≡ listed_count q s d
length-components q s zero = refl
length-components q s (suc d) =
    let of = λ (k : ℕ). flat_map (normal_vectors q) (supports (k + 1) s) in
    let e : suc d ≡ d + 1 = omega arith in
    cc (
      range_push 0 d d (omega arith),
      flat_map-append of (range_with_len 0 d) (d ∷ []),
      length-append
          (flat_map of (range_with_len 0 d)) (of d ++ []),
      length-components q s d,
      append-nil (of d),
      length-of q s
          (d + 1),
    )
