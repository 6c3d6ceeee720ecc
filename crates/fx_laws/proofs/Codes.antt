-- Numbers, digits and points.
use Rattle.std.proofs.Common.{ℕ, ◌≡◌, ◌<◌, ◌+◌, ◌*◌, ◌/◌, ◌%◌, ◌^◌, zero, suc, cond, List, [], ◌∷◌, map, length, get_or}
use Rattle.std.proofs.Common.{refl, sym, ◌∙◌, ap, arith, length-append, zero-add}
use Rattle.std.specs.Prelude.{nat_lt}
use Rattle.std.specs.List.{flat_map}
use Rattle.std.proofs.Math.Nat.{pow-suc, pow-succ', one-le-pow, mod-lt, div-lt_iff_lt-mul, mod-eq_of_lt, div-eq_of_lt}
use Rattle.std.proofs.Math.Nat.{add-mul-mod_self_left, add-mul-div_left, mod-add-div, mul-le-mul_left, pow-zero}
use Rattle.std.proofs.Math.Nat.{suc-mul}
use Rattle.std.proofs.lemmas.List.{length-map, get_or-append-add, get_or_append_left, get_or-map}
use Rattle.std.proofs.lemmas.List.FromFn.{length-range_with_len, get_or-range_with_len}
use Rattle.std.proofs.lemmas.List.Sums.{sum_by-cons}
use Rattle.std.proofs.lemmas.Nat.{div-add-mod'}
use Rattle.std.proofs.lemmas.Bool.Decides.{nat_tests}
use Rattle.fx_designs.specs.Galois.{digits, number, codes_of}
use Rattle.fx_designs.specs.Vectors.{IsVector, weight, zeros}
use Rattle.fx_designs.specs.Runs.{points}
use Rattle.fx_laws.specs.Facts.{point_of}

pub digits-vector : (q n k : ℕ) → 0 < q → IsVector q n (digits q n k)
digits-vector q zero k some = record { len = refl; codes = tt }
digits-vector q (suc n) k some =
    let rest : IsVector q n (digits q n (k / q)) = digits-vector q n (k / q) some in
    record { len = (let e = rest.len in omega arith); codes = (mod-lt k some, rest.codes) }

pub number-zeros : (q n : ℕ) → number q (zeros n) ≡ 0
number-zeros q zero = refl
number-zeros q (suc n) = rw (number-zeros q n) (omega arith)

pub number-below : (q n : ℕ) (v : List ℕ) → IsVector q n v → number q v < q ^ n
number-below q zero [] v = rw (pow-zero q) (omega arith)
number-below q zero (a ∷ w) v = absurd (let e = v.len in omega arith)
number-below q (suc n) [] v = absurd (let e = v.len in omega arith)
number-below q (suc n) (a ∷ w) v =
    let rest : number q w < q ^ n =
    number-below q n w (record { len = (let e = v.len in omega arith); codes = v.codes.1 }) in
    let wide = mul-le-mul_left {m = number q w + 1} {n = q ^ n} q (omega arith) in
    rw (pow-succ' q n) (omega (arith, v.codes.0))

pub digits-number : (q n : ℕ) (v : List ℕ) → IsVector q n v → digits q n (number q v) ≡ v
digits-number q zero [] v = refl
digits-number q zero (a ∷ w) v = absurd (let e = v.len in omega arith)
digits-number q (suc n) [] v = absurd (let e = v.len in omega arith)
digits-number q (suc n) (a ∷ w) v =
    let rest : digits q n (number q w) ≡ w =
    digits-number q n w (record { len = (let e = v.len in omega arith); codes = v.codes.1 }) in
    let code : a < q = v.codes.0 in
    let low : (a + q * number q w) % q ≡ a = add-mul-mod_self_left a q (number q w) ∙ mod-eq_of_lt code in
    let high : (a + q * number q w) / q ≡ number q w =
    add-mul-div_left a (number q w) (omega arith) ∙ ap (λ (x : ℕ). x + number q w) (div-eq_of_lt code) ∙ zero-add
    (number q w) in
    rw (low, high, rest) refl

pub number-digits : (q n k : ℕ) → 0 < q → k < q ^ n → number q (digits q n k) ≡ k
number-digits q zero k some below = let one = pow-zero q in omega arith
number-digits q (suc n) k some below =
    let rest : number q (digits q n (k / q)) ≡ k / q =
    number-digits q n (k / q) some ((div-lt_iff_lt-mul some).1 (rw (pow-suc q n) at below)) in
    rw rest (mod-add-div k q)

pub number-weight : (q : ℕ) (v : List ℕ) → weight v ≡ 0 → number q v ≡ 0
number-weight q [] none = refl
number-weight q (a ∷ v) none =
    let parts = sum_by-cons (λ c. cond (nat_lt 0 c) 1 0) a v in
    let first : a ≡ 0 = grind (arith, nat_tests) in
    let rest : number q v ≡ 0 = number-weight q v (omega arith) in
    rw (first, rest) (omega arith)

pub point-vector : (q n k : ℕ) → 0 < q → k < q ^ n → IsVector q n (point_of q n k)
point-vector q zero k some below = record { len = refl; codes = tt }
point-vector q (suc n) k some below =
    let size : 0 < q ^ n = one-le-pow n q some in
    let rest : IsVector q n (point_of q n (k % q ^ n)) = point-vector q n (k % q ^ n) some (mod-lt k size) in
    let first : k / q ^ n < q = (div-lt_iff_lt-mul size).1 (rw (pow-succ' q n) at below) in
    record { len = (let e = rest.len in omega arith); codes = (first, rest.codes) }

-- pieces of one length
pieces-at : {X Y : Type 0} (f : X → List Y) (width : ℕ) → ((x : X) → length (f x) ≡ width)
    → (xs : List X) (i j : ℕ) (d : X) (e : Y) → i < length xs → j < width
    → get_or (flat_map f xs) (i * width + j) e ≡ get_or (f (get_or xs i d)) j e
pieces-at f width same [] i j d e h k = absurd (omega arith)
pieces-at f width same (x ∷ xs) zero j d e h k =
    let at : 0 * width + j ≡ j = omega arith in
    rw at (get_or_append_left (f x) (flat_map f xs) e j (omega (arith, same x)))
pieces-at f width same (x ∷ xs) (suc i) j d e h k =
    let wide = same x in
    let at : suc i * width + j ≡ length (f x) + (i * width + j) = rw (suc-mul i width) (omega arith) in
    rw at (get_or-append-add (f x) (flat_map f xs) (i * width + j) e ∙ pieces-at f width same xs i j d e (omega arith)
    k)

pieces-length : {X Y : Type 0} (f : X → List Y) (width : ℕ) → ((x : X) → length (f x) ≡ width) → (xs : List X)
    → length (flat_map f xs) ≡ length xs * width
pieces-length f width same [] = omega arith
pieces-length f width same (x ∷ xs) =
    rw (length-append (f x) (flat_map f xs), same x, pieces-length f width same xs, suc-mul (length xs) width)
    (omega arith)

pub length-points : (q n : ℕ) → length (points q n) ≡ q ^ n
length-points q zero = sym (pow-zero q)
length-points q (suc n) =
    cc (
      pieces-length (λ c. map (λ p. c ∷ p) (points q n)) (q ^ n)
          (λ c. length-map (points q n) (λ (p : List ℕ). c ∷ p) ∙ length-points q n) (codes_of q),
      length-range_with_len 0 q,
      pow-succ' q n,
    )

pub points-at : (q n k : ℕ) → 0 < q → k < q ^ n → get_or (points q n) k [] ≡ point_of q n k
points-at q zero k some below =
    let one = pow-zero q in
    let none : k ≡ 0 = omega arith in
    rw none refl
points-at q (suc n) k some below =
    let size : 0 < q ^ n = one-le-pow n q some in
    let first : k / q ^ n < q = (div-lt_iff_lt-mul size).1 (rw (pow-succ' q n) at below) in
    let inner : k % q ^ n < q ^ n = mod-lt k size in
    let there : k / q ^ n < length (codes_of q) = simp length-range_with_len first in
    let here : k % q ^ n < length (points q n) = rw (length-points q n) inner in
    ap (λ (x : ℕ). get_or (points q (suc n)) x []) (sym (div-add-mod' k (q ^ n)))
    ∙ pieces-at (λ c. map (λ p. c ∷ p) (points q n)) (q ^ n)
    (λ c. length-map (points q n) (λ (p : List ℕ). c ∷ p) ∙ length-points q n) (codes_of q) (k / q ^ n) (k % q ^ n) 0
    [] there inner
    ∙ ap (λ (c : ℕ). get_or (map (λ p. c ∷ p) (points q n)) (k % q ^ n) [])
    (get_or-range_with_len 0 q (k / q ^ n) 0 first ∙ zero-add (k / q ^ n))
    ∙ get_or-map (λ p. (k / q ^ n) ∷ p) (points q n) (k % q ^ n) [] [] here
    ∙ ap (λ (p : List ℕ). (k / q ^ n) ∷ p) (points-at q n (k % q ^ n) some inner)
