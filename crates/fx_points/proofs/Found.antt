-- Numbers that are found in the words of a set.
use Rattle.std.proofs.Common.{ℕ, ◌≡◌, ◌<◌, ◌≤◌, ◌+◌, ◌-◌, ◌*◌, ◌/◌, ◌%◌, true, false, List, get_or, ap, ◌∙◌, arith}
use Rattle.std.proofs.Common.{inl, inr}
use Rattle.std.specs.Prelude.{Option, None, Some}
use Rattle.std.specs.Option.{IfNone}
use Rattle.std.specs.Int.{bit_at}
use Rattle.std.proofs.lemmas.Bool.{cases_lt, eq-eqb, ne_eqb}
use Rattle.std.proofs.lemmas.Nat.Bits.{bit_at-lt}
use Rattle.fx_points.specs.Points.{PointsView, has, bit_in, members_of, AreZeros, IsLastOne, IsNoneFrom, IsNextBelow}
use Rattle.fx_points.specs.Points.{AreAllFrom, IsNextAbsentBelow, IsFirstBit, IsNextFrom}
use Rattle.fx_points.specs.Members.{has_of}

module _ (set : PointsView) (q m : ℕ) (words : List ℕ)
    (is : record { q = q; m = m; numbers = members_of words } ≡ set) where
  pub in_set : (x : ℕ) → x < 1024 → bit_in words x ≡ 1 → has set x ≡ true
  in_set x low one = has_of set q m words x is low ∙ eq-eqb (bit_in words x) 1 one

  pub not_in : (x : ℕ) → x < 1024 → bit_in words x ≡ 0 → has set x ≡ false
  not_in x low zero_bit =
      has_of set q m words x is low ∙ ne_eqb (bit_in words x) 1 (λ one. omega arith)

  pub none_from : (y x : ℕ) → x ≤ 1024 → AreZeros words y x → IsNoneFrom set y x
  none_from y x le zeros = record { none = λ z above low. not_in z (omega arith) (zeros.zeros z above low) }

  pub next_below_is : (x y : ℕ) → x ≤ 1024 → IsLastOne words x y → IsNextBelow set x y
  next_below_is x y le last = record {
    below = last.below;
    within = in_set y (omega arith) last.one;
    between = none_from (y + 1) x le last.between;
  }

  -- in the words that have a 1 where these have none
  module _ (others : List ℕ) (flip : (x : ℕ) → x < 1024 → bit_in others x ≡ 1 - bit_in words x) where
    pub all_from : (y x : ℕ) → x ≤ 1024 → AreZeros others y x → AreAllFrom set y x
    all_from y x le zeros = record {
      all = λ z above low.
          in_set z (omega arith)
          (let none = zeros.zeros z above low in
          let flipped = flip z (omega arith) in
          let small = bit_at-lt (get_or words (z / 64) 0) (z % 64) in
          omega arith);
    }

    pub next_absent_is : (x y : ℕ) → x ≤ 1024 → IsLastOne others x y → IsNextAbsentBelow set x y
    next_absent_is x y le last = record {
      below = last.below;
      absent = not_in y (omega arith)
          (let one = last.one in
          let flipped = flip y (omega arith) in
          let small = bit_at-lt (get_or words (y / 64) 0) (y % 64) in
          omega arith);
      between = all_from (y + 1) x le last.between;
    }

  -- from a number on
  pub first_of_word : (x place i from : ℕ) → x < 1024 → i ≡ x / 64 → from ≡ x % 64
      → IsFirstBit (get_or words i 0) from place → IsNextFrom set x (64 * (x / 64) + place)
  first_of_word x place i from low block start first =
      let inside = first.inside in
      let least = first.at_least in
      let y : ℕ = 64 * (x / 64) + place in
      let word : y / 64 ≡ i = omega arith in
      let at : y % 64 ≡ place = omega arith in
      record {
        from = omega arith;
        below = omega arith;
        within = in_set y (omega arith)
            (ap (λ k. bit_at (get_or words k 0) (y % 64)) word ∙ ap (bit_at (get_or words i 0)) at ∙ first.one);
        between = record {
          none = λ z above under.
              let same : z / 64 ≡ i = omega arith in
              not_in z (omega arith)
              (ap (λ k. bit_at (get_or words k 0) (z % 64)) same ∙ first.before (z % 64) (omega arith) (omega arith));
        };
      }

  pub none_of_word : (x i from : ℕ) → x < 1024 → i ≡ x / 64 → from ≡ x % 64
      → ((k : ℕ) → from ≤ k → k < 64 → bit_at (get_or words i 0) k ≡ 0) → IsNoneFrom set x (64 * (x / 64 + 1))
  none_of_word x i from low block start none = record {
    none = λ z above under.
        let same : z / 64 ≡ i = omega arith in
        not_in z (omega arith)
        (cc (none (z % 64) (omega arith) (omega arith)));
  }

  pub first_of_later : (x i k place : ℕ) → i < 16 → k ≡ i → IsNoneFrom set x (64 * i) → x ≤ 64 * i
      → IsFirstBit (get_or words k 0) 0 place → IsNextFrom set x (64 * i + place)
  first_of_later x i k place low same none le first =
      let inside = first.inside in
      let y : ℕ = 64 * i + place in
      let word : y / 64 ≡ k = omega arith in
      let at : y % 64 ≡ place = omega arith in
      record {
        from = omega arith;
        below = omega arith;
        within = in_set y (omega arith)
            (ap (λ j. bit_at (get_or words j 0) (y % 64)) word ∙ ap (bit_at (get_or words k 0)) at ∙ first.one);
        between = record {
          none = λ z above under. elim (cases_lt z (64 * i)) [
            | inl before ↦ none.none z above before
            | inr later ↦
                let here : z / 64 ≡ k = omega arith in
                not_in z (omega arith)
                (ap (λ j. bit_at (get_or words j 0) (z % 64)) here ∙ first.before (z % 64) (omega arith) (omega arith))
          ];
        };
      }

  pub none_of_later : (x i k : ℕ) → i < 16 → k ≡ i → IsNoneFrom set x (64 * i)
      → ((j : ℕ) → 0 ≤ j → j < 64 → bit_at (get_or words k 0) j ≡ 0) → IsNoneFrom set x (64 * (i + 1))
  none_of_later x i k low same none zeros = record {
    none = λ z above under. elim (cases_lt z (64 * i)) [
      | inl before ↦ none.none z above before
      | inr later ↦
          let here : z / 64 ≡ k = omega arith in
          not_in z (omega arith)
          (cc (zeros (z % 64) (omega arith) (omega arith)))
    ];
  }

-- what there is not follows from what there was not
pub if_none : {X : Type 0} {A B : Type 0} (r : Option X) → IfNone r A → (A → B) → IfNone r B
if_none None h f = f h
if_none (Some x) h f = h
