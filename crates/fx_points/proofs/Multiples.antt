-- The multiples of the points in their table.
use Rattle.std.proofs.Common.{ℕ, ◌≡◌, ◌<◌, ◌+◌, ◌-◌, ◌*◌, ◌/◌, ◌%◌, ◌^◌, ◌∙◌, List, length, suc-mul, slice_index}
use Rattle.std.proofs.Common.{slice_index_or, mul-le-mul_right, ap, arith}
use Rattle.std.proofs.lemmas.Nat.{mod-mul-add, div-mul-add}
use Rattle.std.proofs.lemmas.List.{get_or_default}
use Rattle.fx_points.specs.Sums.{sum_of}

-- a place stands among those of the rows before n
pub place_below : (w n a b : ℕ) → a < n → b < w → a * w + b < n * w
place_below w n a b ha hb =
    let wide = mul-le-mul_right w ha in
    let next = suc-mul a w in
    omega arith

-- what the table has for a code and a point
pub multiple_at : (q m : ℕ) (table : List ℕ) → length table ≡ (q - 1) * q ^ m
    → ((i : ℕ) → i < (q - 1) * q ^ m → slice_index table i ≡ sum_of q (i / q ^ m + 1) m 0 (i % q ^ m))
    → (c x place v : ℕ) → 0 < c → c < q → x < q ^ m → place ≡ (c - 1) * q ^ m + x → v ≡ slice_index_or table place v
    → v ≡ sum_of q c m 0 x
multiple_at q m table len are c x place v some code low at is =
    let below = place_below (q ^ m) (q - 1) (c - 1) x (omega arith) low in
    let there : place < length table = omega arith in
    let back : c - 1 + 1 ≡ c = omega arith in
    is ∙ get_or_default table place v 0 there ∙ ap (λ k. slice_index table k) at ∙ are ((c - 1) * q ^ m + x) below
    ∙ ap (λ k. sum_of q (k + 1) m 0 (((c - 1) * q ^ m + x) % q ^ m)) (div-mul-add (c - 1) (q ^ m) x low)
    ∙ ap (λ k. sum_of q (c - 1 + 1) m 0 k) (mod-mul-add (c - 1) (q ^ m) x low)
    ∙ ap (λ k. sum_of q k m 0 x) back
