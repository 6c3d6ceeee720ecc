-- Named orders of designs. Each compares the constant words of weight 3 to w + n, A3, A4, .., and where the base is not
-- zero the confounded words of weight 2 to w + n, B2, B3, ..
use Rattle.std.specs.Prelude.{ℕ, ◌≡◌, ◌==◌, ◌+◌, ◌-◌, ◌*◌, ◌&&◌, nat_lt, nat_le, Bool, true, false, if◌then◌else◌, List}
use Rattle.std.specs.Prelude.{[], ◌∷◌, ◌++◌, map, filter, flat_map, count_by}
use Rattle.std.specs.List.{range_with_len}
use Rattle.fx_strata.specs.Designs.{Strata, Part, Words, Unclear, Order}

-- whether designs of these dimensions are compared by an entry; the other words are none in each of them
abbrev pub is_compared : Strata → Part → Bool
is_compared x (Words false k) = nat_le 3 k && nat_le k (x.w + x.n)
is_compared x (Words true k) = nat_lt 0 x.h && (nat_le 2 k && nat_le k (x.w + x.n))
is_compared x Unclear = true

abbrev pub compared : Strata → List Part → Order
compared x parts = filter (is_compared x) parts

-- the weights of words
abbrev pub weights : Strata → List ℕ
weights x = range_with_len 1 (x.w + x.n)

-- A3 A4 .., then B2 B3 ..: factors first
abbrev pub factors_first : Strata → Order
factors_first x = compared x (map (Words false) (weights x) ++ map (Words true) (weights x))

-- A3 A4 B2 A5 A6 B3 A7 A8 B4 .. (Cheng and Wu 2002)
abbrev pub cheng_wu_first : Strata → Order
cheng_wu_first x =
    compared x (flat_map (λ k. Words false (2 * k - 1) ∷ Words false (2 * k) ∷ Words true k ∷ []) (weights x))

-- A3 B2 A4 A5 B3 A6 A7 B4 .. (Cheng and Wu 2002)
abbrev pub cheng_wu_second : Strata → Order
cheng_wu_second x =
    compared x (flat_map (λ k. Words false (2 * k - 2) ∷ Words false (2 * k - 1) ∷ Words true k ∷ []) (weights x))

-- A3 B2 A4 B3 A5 B4 .. (Sitter, Chen and Feder 1997)
abbrev pub sitter_chen_feder : Strata → Order
sitter_chen_feder x = compared x (flat_map (λ k. Words false (k + 1) ∷ Words true k ∷ []) (weights x))

-- A3, the words of two factors that are not clear, A4 A5 .., then B2 B3 ..: of the designs with least A3 those with
-- most clear words first (Wu and Chen 1992)
abbrev pub most_clear : Strata → Order
most_clear x =
    compared x (Words false 3 ∷ Unclear ∷ map (λ k. Words false (3 + k)) (weights x) ++ map (Words true) (weights x))

-- whether an entry is the words of this kind and weight
abbrev pub are_words : Bool → ℕ → Part → Bool
are_words confounded k Unclear = false
are_words true k (Words true j) = j == k
are_words true k (Words false j) = false
are_words false k (Words true j) = false
are_words false k (Words false j) = j == k

-- each of the words that are compared is in the order once, and no other words
abbrev pub ComparesOnce : Strata → Order → Type 0
ComparesOnce x order = (confounded : Bool) (k : ℕ)
    → count_by (are_words confounded k) order ≡ (if is_compared x (Words confounded k) then 1 else 0)

-- so it is with each named order
pub record CompareOnce (x : Strata) : Type 0 where
  pub by_factors : ComparesOnce x (factors_first x)
  pub first : ComparesOnce x (cheng_wu_first x)
  pub second : ComparesOnce x (cheng_wu_second x)
  pub in_turn : ComparesOnce x (sitter_chen_feder x)
  pub by_clear : ComparesOnce x (most_clear x)
