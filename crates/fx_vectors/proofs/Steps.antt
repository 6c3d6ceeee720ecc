-- One turn of each loop over the codes of a vector or the rows of a matrix.
use Rattle.std.proofs.Common.{◌≡◌, ℕ, ◌<◌, ◌≤◌, ◌+◌, ◌*◌, ◌-◌, ◌/◌, ◌%◌, ◌^◌, ◌++◌, zero, suc, List, [], ◌∷◌, get_or}
use Rattle.std.proofs.Common.{drop, take, length, arith, ap, ◌∙◌, refl, add-one, lit<, append_assoc, drop-cons}
use Rattle.std.proofs.Common.{Bool, true, false, cond, eqb}
use Rattle.std.proofs.lemmas.List.{take_more}
use Rattle.std.proofs.lemmas.Bool.Decides.{nat_tests}
use Rattle.std.proofs.Math.ListN.{drop_of_length-le}
use Rattle.fx_designs.specs.Galois.{add, mul, IsField, digits, number}
use Rattle.fx_designs.specs.Vectors.{dot, last_nonzero, plus, scale, combination, vectors_of, IsVector}
use Rattle.fx_laws.proofs.Codes.{number-below, digits-vector}
use Rattle.fx_laws.proofs.Space.{AreVectors}
use Rattle.fx_laws.proofs.Ranks.{plus-assoc, plus-zero}
use Rattle.std.proofs.Math.Nat.{pow-le-pow_right}

pub dot_more : (q : ℕ) (f : IsField q) (v w : List ℕ) (i s : ℕ) → i < length v → i < length w
    → add q (add q s (mul q (get_or v i 0) (get_or w i 0))) (dot q (drop (i + 1) v) (drop (i + 1) w))
    ≡ add q s (dot q (drop i v) (drop i w))
dot_more q f v w i s iv iw =
    rw (add-one i, drop-cons v i 0 iv, drop-cons w i 0 iw)
    (f.add_assoc s (mul q (get_or v i 0) (get_or w i 0)) (dot q (drop (suc i) v) (drop (suc i) w)))

pub dot_past : (q : ℕ) (f : IsField q) (v w : List ℕ) (i s d : ℕ) → length v ≤ i → s < q
    → add q s (dot q (drop i v) (drop i w)) ≡ d → s ≡ d
dot_past q f v w i s d past code e =
    let gone = drop_of_length-le v past in
    cc (f.add_zero s code, gone, e)

pub digits_more : (q n k rest : ℕ) (done : List ℕ) → k < n
    → (done ++ (rest % q) ∷ []) ++ digits q (n - (k + 1)) (rest / q) ≡ done ++ digits q (n - k) rest
digits_more q n k rest done h =
    let e : n - k ≡ suc (n - (k + 1)) = omega arith in
    rw (e, append_assoc) refl

-- the number of the codes from the one before i on
pub number_before : (q : ℕ) (v : List ℕ) (i : ℕ) → 0 < i → i ≤ length v
    → number q (drop i v) * q + get_or v (i - 1) 0 ≡ number q (drop (i - 1) v)
number_before q v zero some h = absurd (omega arith)
number_before q v (suc i) some h =
    let e : suc i - 1 ≡ i = omega arith in
    let below : i < length v = omega arith in
    let parts : number q (drop i v) ≡ get_or v i 0 + q * number q (drop (suc i) v) = rw (drop-cons v i 0 below) refl in
    rw e (omega (arith, parts))

zero_or_self : (c : ℕ) → c ≡ cond (eqb c 0) 0 c
zero_or_self c = grind (arith, nat_tests)

by_head : (b : Bool) (n a c : ℕ) → eqb c 0 ≡ b
    → cond (eqb (cond b n c) 0) a (cond b n c) ≡ cond b (cond (eqb n 0) a n) c
by_head true n a c e = refl
by_head false n a c e = rw e refl

last_nonzero-push : (v : List ℕ) (c : ℕ) → last_nonzero (v ++ c ∷ []) ≡ cond (eqb c 0) (last_nonzero v) c
last_nonzero-push [] c = zero_or_self c
last_nonzero-push (a ∷ v) c = rw (last_nonzero-push v c) (by_head (eqb c 0) (last_nonzero v) a c refl)

pub last_nonzero_more : (v : List ℕ) (i : ℕ) → i < length v
    → last_nonzero (take (i + 1) v) ≡ cond (eqb (get_or v i 0) 0) (last_nonzero (take i v)) (get_or v i 0)
last_nonzero_more v i h = ap last_nonzero (take_more v i 0 h) ∙ last_nonzero-push (take i v) (get_or v i 0)

pub drop-vector : (q n : ℕ) (v : List ℕ) (i : ℕ) → IsVector q n v → IsVector q (n - i) (drop i v)
drop-vector q n v zero h = let e : n - 0 ≡ n = omega arith in rw e h
drop-vector q zero [] (suc i) h = let e : 0 - suc i ≡ 0 = omega arith in rw e h
drop-vector q (suc n) [] (suc i) h = absurd (omega (arith, h.len))
drop-vector q zero (a ∷ v) (suc i) h = absurd (omega (arith, h.len))
drop-vector q (suc n) (a ∷ v) (suc i) h =
    let e : suc n - suc i ≡ n - i = omega arith in
    let rest : IsVector q n v = record { len = omega (arith, h.len); codes = h.codes.1 } in
    rw e (drop-vector q n v i rest)

-- the number of the codes from i on fits
pub number_fits : (q n : ℕ) (v : List ℕ) (i : ℕ) → 0 < q → q ^ n < 2 ^ 127 → IsVector q n v
    → number q (drop i v) < 2 ^ 128
number_fits q n v i some short h =
    let below : number q (drop i v) < q ^ (n - i) = number-below q (n - i) (drop i v) (drop-vector q n v i h) in
    let fits : q ^ (n - i) ≤ q ^ n = pow-le-pow_right some (omega arith) in
    let wide : 2 ^ 127 < 2 ^ 128 = lit< tt in
    omega arith

-- the sum of the rows before i, and then the others
pub sum_more : (q m : ℕ) (f : IsField q) (u rows : List ℕ) (i : ℕ) (s : List ℕ) → i < length u → i < length rows
    → plus q (plus q s (scale q (get_or u i 0) (digits q m (get_or rows i 0))))
    (combination q m (drop (i + 1) u) (vectors_of q m (drop (i + 1) rows)))
    ≡ plus q s (combination q m (drop i u) (vectors_of q m (drop i rows)))
sum_more q m f u rows i s hu hr =
    rw (add-one i, drop-cons u i 0 hu, drop-cons rows i 0 hr)
    (plus-assoc q f s (scale q (get_or u i 0) (digits q m (get_or rows i 0)))
    (combination q m (drop (suc i) u) (vectors_of q m (drop (suc i) rows))))

pub sum_past : (q m : ℕ) (f : IsField q) (u rows : List ℕ) (i : ℕ) (s d : List ℕ) → length u ≤ i → IsVector q m s
    → plus q s (combination q m (drop i u) (vectors_of q m (drop i rows))) ≡ d → s ≡ d
sum_past q m f u rows i s d past vector e =
    let gone = drop_of_length-le u past in
    cc (plus-zero q m f s vector, gone, e)

pub are_vectors : (q m : ℕ) (rows : List ℕ) → 0 < q → AreVectors q m (vectors_of q m rows)
are_vectors q m [] some = tt
are_vectors q m (r ∷ rows) some = (digits-vector q m r some, are_vectors q m rows some)
