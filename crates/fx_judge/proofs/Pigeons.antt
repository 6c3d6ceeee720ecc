-- Where each number below n is the key of some item, there are at least n items.
use Rattle.std.proofs.Common.{ℕ, zero, suc, ◌≡◌, ◌<◌, ◌≤◌, ◌+◌, cond, eqb, List, [], ◌∷◌, length, sym, ◌∙◌}
use Rattle.std.proofs.Common.{ap₂, arith}
use Rattle.std.specs.Prelude.{count_by}
use Rattle.std.specs.List.{All, range_with_len, sum_by}
use Rattle.std.proofs.lemmas.Bool.{eq-eqb, eqb-true}
use Rattle.std.proofs.lemmas.List.Sums.{sum_by-cons}
use Rattle.std.proofs.lemmas.List.Elements.{All-head, All-tail}
use Rattle.fx_laws.proofs.Sums.{sum_by-plus, sum_by-zero, sum_by-pick, sum_by-ext}
use Rattle.fx_laws.proofs.Tests.{bool_same}

turned : (a z : ℕ) → ◌≡◌ {A = ℕ} (cond (eqb a z) 1 0) (cond (eqb z a) 1 0)
turned a z =
    cc (bool_same (eqb a z) (eqb z a) (λ e. eq-eqb z a (sym (eqb-true a z e))) (λ e. eq-eqb a z (sym (eqb-true z a e))))

module _ {X : Type 0} (key : X → ℕ) (n : ℕ) where
  abbrev counted : List X → ℕ → ℕ
  counted xs z = count_by (λ x. eqb (key x) z) xs

  -- each item is counted at one key
  pub total : (xs : List X) → All (λ x. key x < n) xs → sum_by (counted xs) (range_with_len 0 n) ≡ length xs
  total [] h = sum_by-zero (range_with_len 0 n)
  total (x ∷ xs) h =
      let low : key x < 0 + n = let l = All-head (λ x. key x < n) x xs h in omega arith in
      let one =
      sum_by-ext (λ z. cond (eqb (key x) z) 1 0) (λ z. cond (eqb z (key x)) 1 0) (range_with_len 0 n) (turned (key x)) ∙
      sum_by-pick (λ z. 1) (key x) 0 n (omega arith) low in
      sum_by-ext (counted (x ∷ xs)) (λ z. cond (eqb (key x) z) 1 0 + counted xs z) (range_with_len 0 n)
      (λ z. sum_by-cons (λ x. cond (eqb (key x) z) 1 0) x xs)
      ∙ sum_by-plus (λ z. cond (eqb (key x) z) 1 0) (counted xs) (range_with_len 0 n)
      ∙ ap₂ (λ a b. a + b) one (total xs (All-tail (λ x. key x < n) x xs h))
      ∙ omega arith

low_sum : (g : ℕ → ℕ) (n a : ℕ) → ((z : ℕ) → a ≤ z → z < a + n → 1 ≤ g z) → n ≤ sum_by g (range_with_len a n)
low_sum g zero a h = omega arith
low_sum g (suc n) a h =
    let rest = low_sum g n (a + 1) (λ z low high. h z (omega arith) (omega arith)) in
    let here = h a (omega arith) (omega arith) in
    omega (arith, sum_by-cons g a (range_with_len (a + 1) n))

pub enough : {X : Type 0} (key : X → ℕ) (n : ℕ) (xs : List X) → All (λ x. key x < n) xs
    → ((z : ℕ) → z < n → 1 ≤ count_by (λ x. eqb (key x) z) xs) → n ≤ length xs
enough key n xs low each =
    rw (total key n xs low) at (low_sum (λ z. count_by (λ x. eqb (key x) z) xs) n 0 (λ z a b. each z (omega arith)))
