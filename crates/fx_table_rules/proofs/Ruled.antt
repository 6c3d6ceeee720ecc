-- Rules of a canonical design give one that is alike.
use Rattle.std.proofs.Common.{ℕ, ◌≡◌, ◌<◌, ◌+◌, ◌^◌, zero, suc, false, eqb, List, [], ◌∷◌, ◌++◌}
use Rattle.std.proofs.Common.{map, length, take, drop, refl, sym, subst, ◌∙◌, ap, ap₂, arith, inl, inr, length-append}
use Rattle.std.proofs.Math.Seq.{take-append_seam, drop-append_seam}
use Rattle.std.proofs.lemmas.Bool.{cases_Bool, cond-true}
use Rattle.std.proofs.lemmas.List.{length-map, map-append}
use Rattle.std.proofs.lemmas.List.Elements.{All-from_recursion}
use Rattle.fx_base.proofs.Lists.{each-take, each-drop}
use Rattle.fx_designs.specs.Galois.{IsField}
use Rattle.fx_designs.specs.Vectors.{IsVector, vectors_of}
use Rattle.fx_designs.specs.Problems.{Dimensions}
use Rattle.fx_laws.specs.Changes.{IsChange}
use Rattle.fx_laws.specs.Scalings.{scaled}
use Rattle.fx_laws.proofs.Space.{AreVectors}
use Rattle.fx_laws.proofs.Ranks.{map-vectors}
use Rattle.fx_laws.proofs.Forms.{normal_factor, factors-scalars}
use Rattle.fx_laws.proofs.Scalings.{scaled-vectors}
use Rattle.fx_laws.proofs.CanonicalTest.{rows-vectors, take-vectors}
use Rattle.fx_reduction.proofs.Numbers.{back}
use Rattle.fx_strata.proofs.Lists.{IsMember}
use Rattle.fx_strata.proofs.Exchanges.{invertible, by, changed, normed, numbers}
use Rattle.fx_strata.specs.Designs.{Strata, Order, Words, Unclear, key_of, key_of_design, IsStratified}
use Rattle.fx_strata.specs.Canonical.{dimensions_of, units, base, figures}
use Rattle.fx_strata.specs.Images.{moved_rows}
use Rattle.fx_strata.specs.Laws.{IsAlike}
use Rattle.fx_strata.proofs.Isomorphic.{isomorphic_are_alike, alike_are_alike, alike_are_least, take-scaled}
use Rattle.fx_strata.proofs.Least.{canonical_are_designs, same, same-unclear}
use Rattle.fx_table_rules.specs.Rules.{block_factors, all_rows, factor_rows, block_rows, AreRulesOf}
use Rattle.fx_table_rules.specs.Rules.{RulesAreAlike, RulesHaveKey, RulesAreLeast}

drop-scaled : (q n : ℕ) (cs : List ℕ) (rows : List (List ℕ))
    → drop n (scaled q cs rows) ≡ scaled q (drop n cs) (drop n rows)
drop-scaled q zero cs rows = refl
drop-scaled q (suc n) [] rows = refl
drop-scaled q (suc n) (c ∷ cs) [] = none (drop n cs)
  where
    none : (cs : List ℕ) → [] ≡ scaled q cs []
    none [] = refl
    none (c ∷ cs) = refl
drop-scaled q (suc n) (c ∷ cs) (r ∷ rows) = drop-scaled q n cs rows

drop-vectors : (q m n : ℕ) (rows : List ℕ) → drop n (vectors_of q m rows) ≡ vectors_of q m (drop n rows)
drop-vectors q m zero rows = refl
drop-vectors q m (suc n) [] = refl
drop-vectors q m (suc n) (r ∷ rows) = drop-vectors q m n rows

take-count : (n k : ℕ) (cs : List ℕ) → length cs ≡ n + k → length (take n cs) ≡ n
take-count zero k cs e = refl
take-count (suc n) k [] e = absurd (omega arith)
take-count (suc n) k (c ∷ cs) e = ap (λ (i : ℕ). suc i) (take-count n k cs (omega arith))

drop-count : (n k : ℕ) (cs : List ℕ) → length cs ≡ n + k → length (drop n cs) ≡ k
drop-count zero k cs e = omega arith
drop-count (suc n) k [] e = absurd (omega arith)
drop-count (suc n) k (c ∷ cs) e = drop-count n k cs (omega arith)

module _ (x : Strata) (f : IsField x.q) where
  -- what a change makes of rows, where all unit vectors are among it
  module _ (forms : List ℕ) (count : length forms ≡ x.m) (rows : List ℕ)
      (units_come : (i : ℕ) → i < x.m → IsMember (x.q ^ i) (moved_rows x forms (all_rows x rows))) where
    abbrev d : Dimensions
    d = dimensions_of x

    abbrev all : List ℕ
    all = all_rows x rows

    change : IsChange x.q x.m (by d f forms count)
    change = invertible d f forms count all units_come

    changed-vectors : AreVectors x.q x.m (changed d f forms count all)
    changed-vectors = map-vectors x.q x.m f (by d f forms count) change (vectors_of x.q x.m all)
        (rows-vectors x.q x.m f all)

    pub are_rules : AreRulesOf x rows (moved_rows x forms all)
    are_rules = record {
      change = by d f forms count;
      invertible = change;
      factors = map (normal_factor x.q x.m f) (changed d f forms count all);
      codes = factors-scalars x.q x.m f (changed d f forms count all) changed-vectors;
      count = length-map (changed d f forms count all) (normal_factor x.q x.m f)
          ∙ length-map (vectors_of x.q x.m all) (by d f forms count)
          ∙ length-map all (λ r. _);
      are = ap (vectors_of x.q x.m) (sym (numbers d f forms count all))
          ∙ back x.q x.m f (normed d f forms count all)
          (scaled-vectors x.q f x.m (map (normal_factor x.q x.m f) (changed d f forms count all))
          (changed d f forms count all) changed-vectors);
    }

  module _ (rows rules : List ℕ) (R : AreRulesOf x rows rules)
      (D : IsStratified x (base x) (vectors_of x.q x.m rows)) where
    abbrev n : ℕ
    n = x.w + x.n

    abbrev us : List ℕ
    us = units x.q 0 (block_factors x)

    abbrev V : List (List ℕ)
    V = vectors_of x.q x.m rows

    abbrev B : List (List ℕ)
    B = vectors_of x.q x.m us

    many : length rows ≡ n
    many = sym (length-map rows (λ r. _)) ∙ D.factor_count

    positive : (w : ℕ) → eqb w 0 ≡ false → 0 < w
    positive zero o = absurd (cc o)
    positive (suc w) o = omega arith

    -- the block rows span the base, or there are inside factors
    with-blocks : IsAlike x (base x) V B V
    with-blocks = elim (cases_Bool (eqb x.w 0)) [
      | inl t ↦ subst (λ k. IsAlike x (base x) V (vectors_of x.q x.m (units x.q 0 k)) V)
          (sym (cond-true (eqb x.w 0) x.h 0 t)) (record { design = D; words = λ b k. refl; unclear = refl })
      | inr o ↦
          let s = isomorphic_are_alike x f (base x) V D in
          s.others (positive x.w o) B (All-from_recursion (λ r. IsVector x.q x.m r) B (rows-vectors x.q x.m f us))
    ]

    abbrev MV : List (List ℕ)
    MV = map R.change V

    abbrev MB : List (List ℕ)
    MB = map R.change B

    changed-alike : IsAlike x B V MB MV
    changed-alike =
        (let s = isomorphic_are_alike x f B V with-blocks.design in s.change R.change R.invertible)

    count-V : length MV ≡ n
    count-V = length-map V R.change ∙ D.factor_count

    count-all : length R.factors ≡ n + length us
    count-all = R.count ∙ length-append rows us ∙ ap (λ (i : ℕ). i + length us) many

    count-B : length MB ≡ length us
    count-B = length-map B R.change ∙ length-map us (λ r. _)

    split : map R.change (vectors_of x.q x.m (all_rows x rows)) ≡ MV ++ MB
    split = ap (map R.change) (map-append (λ r. _) rows us) ∙ map-append R.change V B

    front : vectors_of x.q x.m (take n rules) ≡ scaled x.q (take n R.factors) MV
    front =
        sym (take-vectors x.q x.m n rules) ∙ ap (take n) (R.are ∙ ap (scaled x.q R.factors) split)
        ∙ take-scaled x.q n R.factors (MV ++ MB)
        ∙ ap (scaled x.q (take n R.factors)) (subst (λ k. take k (MV ++ MB) ≡ MV) count-V (take-append_seam MV MB))

    behind : vectors_of x.q x.m (drop n rules) ≡ scaled x.q (drop n R.factors) MB
    behind =
        sym (drop-vectors x.q x.m n rules) ∙ ap (drop n) (R.are ∙ ap (scaled x.q R.factors) split)
        ∙ drop-scaled x.q n R.factors (MV ++ MB)
        ∙ ap (scaled x.q (drop n R.factors)) (subst (λ k. drop k (MV ++ MB) ≡ MB) count-V (drop-append_seam MV MB))

    multiples-alike : IsAlike x MB MV (block_rows x rules) (factor_rows x rules)
    multiples-alike =
        let s = isomorphic_are_alike x f MB MV changed-alike.design in
        subst (λ b. IsAlike x MB MV b (factor_rows x rules)) (sym behind)
        (subst (λ v. IsAlike x MB MV (scaled x.q (drop n R.factors) MB) v) (sym front)
        (s.multiples (drop n R.factors) (take n R.factors) (each-drop (λ c. (0 < c) × (c < x.q)) n R.factors R.codes)
        (each-take (λ c. (0 < c) × (c < x.q)) n R.factors R.codes)
        (drop-count n (length us) R.factors count-all ∙ sym count-B)
        (take-count n (length us) R.factors count-all ∙ sym count-V)))

    rules-alike : IsAlike x (base x) V (block_rows x rules) (factor_rows x rules)
    rules-alike =
        alike_are_alike x (base x) V B V (block_rows x rules) (factor_rows x rules) with-blocks
        (alike_are_alike x B V MB MV (block_rows x rules) (factor_rows x rules) changed-alike multiples-alike)

pub rules_are_alike : (x : Strata) → IsField x.q → RulesAreAlike x
rules_are_alike x f rows rules D R = rules-alike x f rows rules R (canonical_are_designs x f rows D)

pub rules_have_key : (x : Strata) (order : Order) → IsField x.q → RulesHaveKey x order
rules_have_key x order f rows rules D R = by_parts order
  where
    by_parts : (order : Order) → key_of_design x order (block_rows x rules) (factor_rows x rules)
        ≡ key_of order (figures x rows)
    by_parts [] = refl
    by_parts (Words b k ∷ order) =
        (let A = rules_are_alike x f rows rules D R in
        ap₂ (λ y ys. y ∷ ys) (A.words b k ∙ same x f rows D b k) (by_parts order))
    by_parts (Unclear ∷ order) =
        (let A = rules_are_alike x f rows rules D R in
        ap₂ (λ y ys. y ∷ ys) (A.unclear ∙ same-unclear x f rows D) (by_parts order))

pub rules_are_least : (x : Strata) (order : Order) → IsField x.q → RulesAreLeast x order
rules_are_least x order f rows rules L R =
    alike_are_least x order (base x) (vectors_of x.q x.m rows) (block_rows x rules) (factor_rows x rules) L
    (rules-alike x f rows rules R L.design)
