-- The entries of the tables, each compared with the operation that it stands for.
use Rattle.std.proofs.Common.{ℕ, ◌≡◌, ◌<◌, Bool, true, List, [], ◌∷◌, eqb, ltb, get_or, refl, zero-add}
use Rattle.std.proofs.Common.{arith, rules, inl, inr, length}
use Rattle.std.specs.Prelude.{IsTrue}
use Rattle.std.specs.List.{range_with_len, list_all, list_any}
use Rattle.std.proofs.lemmas.Bool.{eqb-true, ltb-true, and_parts, or_cases}
use Rattle.std.proofs.lemmas.Bool.Decides.{nat_tests}
use Rattle.std.proofs.lemmas.List.Sums.{AllPass-from_list_all}
use Rattle.std.proofs.lemmas.List.FromFn.{length-range_with_len, get_or-range_with_len}
use Rattle.fx_designs.specs.Galois.{add, mul, neg, inv, prime_of, degree_of, reduction_of, is_order}
use Rattle.fx_galois.specs.TableEntries.{pair_place, code_place}
use Rattle.fx_galois.specs.declared.tables.TheConstants.{SUMS, PRODUCTS, NEGATIVES, INVERSES}

abbrev orders : List ℕ
orders = 2 ∷ 3 ∷ 4 ∷ 5 ∷ 7 ∷ 8 ∷ 9 ∷ []

-- a test passes at each code of each field
abbrev at_codes : (ℕ → ℕ → Bool) → Bool
at_codes p = list_all (λ q. list_all (p q) (range_with_len 0 q)) orders

-- a test passes at each two codes of each field
abbrev at_pairs : (ℕ → ℕ → ℕ → Bool) → Bool
at_pairs p = list_all (λ q. list_all (λ a. list_all (p q a) (range_with_len 0 q)) (range_with_len 0 q)) orders

at_member : (p : ℕ → Bool) (xs : List ℕ) (x : ℕ) → list_any (λ n. eqb x n) xs ≡ true → list_all p xs ≡ true → p x ≡ true
at_member p [] x there all = absurd (search rules)
at_member p (y ∷ xs) x there all =
    elim (or_cases _ _ there) [
      | inl e ↦ rw (eqb-true x y e) (and_parts _ _ all).0
      | inr later ↦ at_member p xs x later (and_parts _ _ all).1
    ]

at_below : (p : ℕ → Bool) (n k : ℕ) → k < n → list_all p (range_with_len 0 n) ≡ true → p k ≡ true
at_below p n k below all =
    let there : k < length (range_with_len 0 n) = simp length-range_with_len below in
    rw (get_or-range_with_len 0 n k 0 below, zero-add k) at (AllPass-from_list_all p (range_with_len 0 n) all k 0 there)

at_code : (p : ℕ → ℕ → Bool) (q a : ℕ) → IsTrue (is_order q) → a < q → at_codes p ≡ true → p q a ≡ true
at_code p q a order ha all =
    at_below (p q) q a ha (at_member (λ q. list_all (p q) (range_with_len 0 q)) orders q order all)

at_pair : (p : ℕ → ℕ → ℕ → Bool) (q a b : ℕ) → IsTrue (is_order q) → a < q → b < q → at_pairs p ≡ true → p q a b ≡ true
at_pair p q a b order ha hb all =
    at_below (p q a) q b hb (at_below (λ a. list_all (p q a) (range_with_len 0 q)) q a ha
    (at_member (λ q. list_all (λ a. list_all (p q a) (range_with_len 0 q)) (range_with_len 0 q)) orders q order all))

sums : at_pairs (λ q a b. eqb (get_or SUMS (pair_place q a b) 0) (add q a b)) ≡ true
unfolding add prime_of degree_of pair_place
sums = refl

pub sum_is : (q a b : ℕ) → IsTrue (is_order q) → a < q → b < q → get_or SUMS (pair_place q a b) 0 ≡ add q a b
sum_is q a b order ha hb =
    eqb-true _ _ (at_pair (λ q a b. eqb (get_or SUMS (pair_place q a b) 0) (add q a b)) q a b order ha hb sums)

products : at_pairs (λ q a b. eqb (get_or PRODUCTS (pair_place q a b) 0) (mul q a b)) ≡ true
unfolding mul prime_of degree_of reduction_of pair_place
products = refl

pub product_is : (q a b : ℕ) → IsTrue (is_order q) → a < q → b < q → get_or PRODUCTS (pair_place q a b) 0 ≡ mul q a b
product_is q a b order ha hb =
    eqb-true _ _ (at_pair (λ q a b. eqb (get_or PRODUCTS (pair_place q a b) 0) (mul q a b)) q a b order ha hb products)

negatives : at_codes (λ q a. eqb (get_or NEGATIVES (code_place q a) 0) (neg q a)) ≡ true
unfolding neg prime_of degree_of code_place
negatives = refl

pub negative_is : (q a : ℕ) → IsTrue (is_order q) → a < q → get_or NEGATIVES (code_place q a) 0 ≡ neg q a
negative_is q a order ha =
    eqb-true _ _ (at_code (λ q a. eqb (get_or NEGATIVES (code_place q a) 0) (neg q a)) q a order ha negatives)

inverses : at_codes (λ q a. eqb (get_or INVERSES (code_place q a) 0) (inv q a)) ≡ true
unfolding inv mul prime_of degree_of reduction_of code_place
inverses = refl

pub inverse_is : (q a : ℕ) → IsTrue (is_order q) → a < q → get_or INVERSES (code_place q a) 0 ≡ inv q a
inverse_is q a order ha =
    eqb-true _ _ (at_code (λ q a. eqb (get_or INVERSES (code_place q a) 0) (inv q a)) q a order ha inverses)

pair_places : at_pairs (λ q a b. ltb (pair_place q a b) 248) ≡ true
unfolding pair_place
pair_places = refl

pub pair_place-below : (q a b : ℕ) → IsTrue (is_order q) → a < q → b < q → pair_place q a b < 248
pair_place-below q a b order ha hb =
    ltb-true _ _ (at_pair (λ q a b. ltb (pair_place q a b) 248) q a b order ha hb pair_places)

code_places : at_codes (λ q a. ltb (code_place q a) 38) ≡ true
unfolding code_place
code_places = refl

pub code_place-below : (q a : ℕ) → IsTrue (is_order q) → a < q → code_place q a < 38
code_place-below q a order ha = ltb-true _ _ (at_code (λ q a. ltb (code_place q a) 38) q a order ha code_places)

-- an order that is none of the first six is the last
pub last_order : (q : ℕ) → IsTrue (is_order q) → (q ≡ 2 → ⊥) → (q ≡ 3 → ⊥) → (q ≡ 4 → ⊥) → (q ≡ 5 → ⊥) → (q ≡ 7 → ⊥)
    → (q ≡ 8 → ⊥) → q ≡ 9
last_order q order n2 n3 n4 n5 n7 n8 = grind (arith, nat_tests)
