-- The field GF(q) on the codes 0 to q-1, where q = p^n and p is prime. To the base p, a code's digits are the
-- coefficients of a polynomial over GF(p), the lowest first. Each operation reads its arguments modulo q and answers a
-- code.
use Rattle.std.specs.Prelude.{ℕ, ◌≡◌, ◌<◌, ◌+◌, ◌-◌, ◌*◌, ◌/◌, ◌%◌, ◌==◌, Bool, if◌then◌else◌, List, [], ◌∷◌, map, zero}
use Rattle.std.specs.Prelude.{suc, unwrap_or}
use Rattle.std.specs.List.{range_with_len, find, list_any}

-- of q = p^n the prime p, the degree n, and the coefficients of what x^n is reduced to, the lowest first;
-- where n is 1 nothing has to be reduced
unfoldable pub prime_of : ℕ → ℕ
prime_of q = (if q == 4 then 2 else (if q == 8 then 2 else (if q == 9 then 3 else q)))

unfoldable pub degree_of : ℕ → ℕ
degree_of q = (if q == 4 then 2 else (if q == 8 then 3 else (if q == 9 then 2 else 1)))

unfoldable pub reduction_of : ℕ → List ℕ
reduction_of q =
    (if q == 4 then 1 ∷ 1 ∷ [] else (if q == 8 then 1 ∷ 1 ∷ 0 ∷ [] else (if q == 9 then 1 ∷ 2 ∷ [] else 0 ∷ [])))

-- n digits of c to the base p, the lowest first, and back
abbrev pub digits : ℕ → ℕ → ℕ → List ℕ
digits p zero c = []
digits p (suc n) c = (c % p) ∷ digits p n (c / p)

abbrev pub number : ℕ → List ℕ → ℕ
number p [] = 0
number p (a ∷ v) = a + p * number p v

-- polynomials over GF(p)
abbrev pub poly_add : ℕ → List ℕ → List ℕ → List ℕ
poly_add p [] w = w
poly_add p (a ∷ v) [] = a ∷ v
poly_add p (a ∷ v) (b ∷ w) = ((a + b) % p) ∷ poly_add p v w

abbrev pub poly_scale : ℕ → ℕ → List ℕ → List ℕ
poly_scale p c v = map (λ a. (c * a) % p) v

-- the top coefficient, and the others moved up by one
abbrev pub top : List ℕ → ℕ
top [] = 0
top (a ∷ []) = a
top (a ∷ b ∷ v) = top (b ∷ v)

abbrev pub moved_up : ℕ → List ℕ → List ℕ
moved_up low [] = []
moved_up low (a ∷ v) = low ∷ moved_up a v

-- x times a polynomial, reduced
abbrev pub times_x : ℕ → List ℕ → List ℕ → List ℕ
times_x p reduction v = poly_add p (moved_up 0 v) (poly_scale p (top v) reduction)

-- the product of two polynomials, reduced
abbrev pub poly_mul : ℕ → List ℕ → List ℕ → List ℕ → List ℕ
poly_mul p reduction [] w = poly_scale p 0 w
poly_mul p reduction (a ∷ v) w = poly_add p (poly_scale p a w) (times_x p reduction (poly_mul p reduction v w))

-- the polynomial that a code stands for
abbrev pub poly_of : ℕ → ℕ → List ℕ
poly_of q a = digits (prime_of q) (degree_of q) (a % q)

-- the sum of two codes: digit by digit modulo p
unfoldable pub add : ℕ → ℕ → ℕ → ℕ
add q a b = number (prime_of q) (poly_add (prime_of q) (poly_of q a) (poly_of q b))

-- the product of two codes: that of their polynomials, reduced
unfoldable pub mul : ℕ → ℕ → ℕ → ℕ
mul q a b = number (prime_of q) (poly_mul (prime_of q) (reduction_of q) (poly_of q a) (poly_of q b))

-- what gives 0 when a is added to it
unfoldable pub neg : ℕ → ℕ → ℕ
neg q a = number (prime_of q) (map (λ d. (prime_of q - d) % prime_of q) (poly_of q a))

-- what gives 1 when it is multiplied by a; 0 for 0
unfoldable pub inv : ℕ → ℕ → ℕ
inv q a = unwrap_or (find (λ b. mul q a b == 1) (range_with_len 0 q)) 0

-- each field value, in order
abbrev pub codes_of : ℕ → List ℕ
codes_of q = range_with_len 0 q

-- the laws of a field; three of them ask for a code
pub record IsField (q : ℕ) : Type 0 where
  pub more_than_one : 1 < q
  pub add_code : (a b : ℕ) → add q a b < q
  pub mul_code : (a b : ℕ) → mul q a b < q
  pub neg_code : (a : ℕ) → neg q a < q
  pub inv_code : (a : ℕ) → inv q a < q
  pub add_comm : (a b : ℕ) → add q a b ≡ add q b a
  pub add_assoc : (a b c : ℕ) → add q (add q a b) c ≡ add q a (add q b c)
  pub mul_comm : (a b : ℕ) → mul q a b ≡ mul q b a
  pub mul_assoc : (a b c : ℕ) → mul q (mul q a b) c ≡ mul q a (mul q b c)
  pub distributes : (a b c : ℕ) → mul q a (add q b c) ≡ add q (mul q a b) (mul q a c)
  pub add_zero : (a : ℕ) → a < q → add q a 0 ≡ a
  pub mul_zero : (a : ℕ) → mul q a 0 ≡ 0
  pub mul_one : (a : ℕ) → a < q → mul q a 1 ≡ a
  pub add_neg : (a : ℕ) → add q a (neg q a) ≡ 0
  pub mul_inv : (a : ℕ) → 0 < a → a < q → mul q a (inv q a) ≡ 1

-- the orders that are built
abbrev pub is_order : ℕ → Bool
is_order q = list_any (λ n. q == n) (2 ∷ 3 ∷ 4 ∷ 5 ∷ 7 ∷ 8 ∷ 9 ∷ [])
