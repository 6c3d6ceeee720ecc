-- Where the tables of the seven fields have an entry: one field after another, and in a field one code after another.
use Rattle.std.specs.Prelude.{ℕ, ◌+◌, ◌*◌, nat_lt, List, [], ◌∷◌, filter, sum, sum_by}

-- the orders below q
abbrev pub orders_below : ℕ → List ℕ
orders_below q = filter (λ n. nat_lt n q) (2 ∷ 3 ∷ 4 ∷ 5 ∷ 7 ∷ 8 ∷ 9 ∷ [])

-- the place for the codes a and b of the field of order q
unfoldable pub pair_place : ℕ → ℕ → ℕ → ℕ
pair_place q a b = sum_by (λ n. n * n) (orders_below q) + q * a + b

-- the place for the code a
unfoldable pub code_place : ℕ → ℕ → ℕ
code_place q a = sum (orders_below q) + a
