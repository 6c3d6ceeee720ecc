-- What the tests of a base say, and that a base within the limits passes them.
use Rattle.std.proofs.Common.{◌≡◌, ℕ, ◌+◌, ◌<◌, ◌≤◌, inl, inr, Bool, true, false, ◌||◌, leb, ltb, eqb}
use Rattle.std.proofs.Common.{arith, refl, le-leb, lt-ltb, eq-eqb, ne_eqb}
use Rattle.std.proofs.lemmas.Bool.{cond-true, cond-false, cases_Bool, cases_eq, and_from, and_parts}
use Rattle.std.proofs.lemmas.Bool.{or_left, or_right, leb-true, ltb-true}
use Rattle.fx_vectors.specs.declared.shape.Shape.{Shape}
use Rattle.fx_vectors.specs.declared.shape.TheConstants.{MOST_FACTORS, MOST_FACTORS_OF_MANY_LEVELS}
use Rattle.fx_vectors.specs.Shape.{IsShape}
use Rattle.fx_vectors.proofs.Limits.{indexes_fit, order-bounds}
use Rattle.fx_book.specs.declared.version.Version.TheVariants.{Second}
use Rattle.fx_book.specs.Heads.{is_shape}
use Rattle.fx_book.specs.Versions.{most_factors_in}
use Rattle.fx_book.proofs.Whole.{second_fits}
use Rattle.fx_table_book.specs.declared.base.Base.{Base}
use Rattle.fx_table_book.specs.Tables.{IsBase, IsProper}
use Rattle.fx_table_book.specs.Texts.{is_base}

few_factors : (q s : ℕ) → s ≤ most_factors_in Second q
    → (s ≤ MOST_FACTORS) × (3 < q → s ≤ MOST_FACTORS_OF_MANY_LEVELS)
few_factors q s h =
    elim (cases_Bool (leb q 3)) [
      | inl few ↦ let low =
          rw (cond-true _ MOST_FACTORS MOST_FACTORS_OF_MANY_LEVELS few) at h in
          (low, λ many. absurd (let z = leb-true q 3 few in omega arith))
      | inr many ↦ let low =
          rw (cond-false _ MOST_FACTORS MOST_FACTORS_OF_MANY_LEVELS many) at h in
          (omega arith, λ more. low)
    ]

pub shape_is : (q m s : ℕ) → is_shape Second q m s 0 ≡ true → IsShape (record { q = q; m = m; s = s; t = 0 })
shape_is q m s h =
    let a = and_parts _ _ h in
    let b = and_parts _ _ a.1 in
    let c = and_parts _ _ b.1 in
    let d = and_parts _ _ c.1 in
    let e = and_parts _ _ d.1 in
    let f = and_parts _ _ e.1 in
    let most = few_factors q s (leb-true _ _ f.0) in
    record {
      order = a.0;
      some_indexes = leb-true 1 m b.0;
      runs = leb-true _ 1024 d.0;
      some_factors = leb-true 1 s e.0;
      factors = most.0;
      factors_of_many_levels = most.1;
      block_factors = omega arith;
      factors_in_blocks = λ some. absurd (omega arith);
    }

shape_passes : (q m s : ℕ) → IsShape (record { q = q; m = m; s = s; t = 0 }) → is_shape Second q m s 0 ≡ true
shape_passes q m s h =
    let shape : Shape = record { q = q; m = m; s = s; t = 0 } in
    and_from _ _ h.order
    (and_from _ _ (le-leb 1 m h.some_indexes)
    (and_from _ _ (le-leb m 10 (indexes_fit shape h)) (and_from _ _ (le-leb _ _ h.runs)
    (and_from _ _ (le-leb 1 s h.some_factors)
    (and_from _ _ (le-leb _ _ (second_fits shape h)) refl)))))

-- what passes the test is within the limits, and proper
pub record IsTested (x : Base) : Type 0 where
  pub base : IsBase x
  pub proper : IsProper x

pub base_is : (base : Base) → is_base base ≡ true → IsTested base
base_is base t =
    let a = and_parts _ _ t in
    let b = and_parts _ _ a.1 in
    let c = and_parts _ _ b.1 in
    let inside = and_parts _ _ c.0 in
    let factors = and_parts _ _ inside.1 in
    record {
      base = record {
        shaped = shape_is base.q base.m _ a.0;
        inside = leb-true base.h base.m inside.0;
        few_words = leb-true _ _ b.0;
      };
      proper = record {
        factors = leb-true base.m _ factors.0;
        whole_plots = λ some.
            let other = no_blocks base.w some in (
              ltb-true 0 base.h (or_right_of _ _ other c.1),
              leb-true base.h base.w (or_right_of _ _ other factors.1),
            );
      };
    }
  where
    no_blocks : (w : ℕ) → 0 < w → eqb w 0 ≡ false
    no_blocks w some = ne_eqb w 0 (λ e. omega arith)

    or_right_of : (a b : Bool) → a ≡ false → (a || b) ≡ true → b ≡ true
    or_right_of true b e h = cc e
    or_right_of false b e h = h

pub base_passes : (base : Base) → IsBase base → IsProper base → is_base base ≡ true
base_passes base h proper =
    and_from _ _ (shape_passes base.q base.m _ h.shaped)
    (and_from _ _ (le-leb _ _ h.few_words)
    (and_from _ _
    (and_from _ _ (le-leb _ _ h.inside)
    (and_from _ _ (le-leb _ _ proper.factors)
    (plots (leb base.h base.w) (λ some. le-leb _ _ (proper.whole_plots some).1))))
    (plots (ltb 0 base.h) (λ some. lt-ltb _ _ (proper.whole_plots some).0))))
  where
    plots : (b : Bool) → (0 < base.w → b ≡ true) → (eqb base.w 0 || b) ≡ true
    plots b h =
        elim (cases_eq base.w 0) [
          | inl none ↦ or_left _ _ (eq-eqb _ _ none)
          | inr some ↦ or_right _ _ (h (omega arith))
        ]

-- what passes has small numbers
pub record IsLittle (base : Base) : Type 0 where
  pub q : base.q ≤ 9
  pub m : base.m ≤ 10
  pub h : base.h ≤ 10
  pub factors : base.w + base.n ≤ 63

pub base_little : (base : Base) → IsBase base → IsLittle base
base_little base h =
    let m = indexes_fit _ h.shaped in
    record {
      q = (order-bounds base.q h.shaped.order).1;
      m = m;
      h = omega arith;
      factors = h.shaped.factors;
    }
