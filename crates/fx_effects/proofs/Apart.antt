-- Lists without the effects of others.
use Rattle.std.proofs.Common.{◌≡◌, ◌≤◌, ℕ, Bool, true, false, not, cond, eqb, List, [], ◌∷◌, length, filter, refl, sym}
use Rattle.std.proofs.Common.{suc, arith}
use Rattle.std.specs.List.{list_all, list_any}
use Rattle.std.proofs.lemmas.Bool.{and_from}
use Rattle.fx_vectors.specs.Effects.{pair_count}
use Rattle.fx_demands.specs.declared.unions.TheConstants.{MOST_EFFECTS}
use Rattle.fx_demands.specs.Bars.{AreOrdered}
use Rattle.fx_demands.proofs.Ordered.{Sorted, ordered-sorted}
use Rattle.fx_demands.proofs.Stars.{sorted-in_order}
use Rattle.fx_effects.specs.Models.{AreApart, without}
use Rattle.fx_base.proofs.Members.{has-unfilter}

module _ (p : ℕ → Bool) where
  sorted-filter : (xs : List ℕ) → Sorted xs → Sorted (filter p xs)
  sorted-filter [] h = tt
  sorted-filter (x ∷ xs) h =
      let rest = sorted-filter xs h.1 in
      let go : (b : Bool) → Sorted (cond b (x ∷ filter p xs) (filter p xs)) =
      λ b. elim b as (λ b. Sorted (cond b (x ∷ filter p xs) (filter p xs)))
      [ true ↦ ((λ u there. h.0 u (has-unfilter p u xs there).0), rest) | false ↦ rest ] in
      go (p x)

  filter-short : (xs : List ℕ) → length (filter p xs) ≤ length xs
  filter-short [] = omega arith
  filter-short (x ∷ xs) =
      let go : (b : Bool) → length (cond b (x ∷ filter p xs) (filter p xs)) ≤ suc (length xs) =
      λ b. elim b as (λ b. length (cond b (x ∷ filter p xs) (filter p xs)) ≤ suc (length xs))
      [ true ↦ omega (arith, filter-short xs) | false ↦ omega (arith, filter-short xs) ] in
      go (p x)

  all-filter : (xs : List ℕ) → list_all p (filter p xs) ≡ true
  all-filter [] = refl
  all-filter (x ∷ xs) =
      let rest = all-filter xs in
      let go : (b : Bool) → b ≡ p x → list_all p (cond b (x ∷ filter p xs) (filter p xs)) ≡ true =
      λ b. elim b as (λ b. b ≡ p x → list_all p (cond b (x ∷ filter p xs) (filter p xs)) ≡ true)
      [ true ↦ λ is. and_from _ _ (sym is) rest | false ↦ λ is. rest ] in
      go (p x) refl

-- what is left of the others
pub are_apart : (q : ℕ) (estimate others left : List ℕ) → AreOrdered estimate → AreOrdered others
    → left ≡ without estimate others
    → pair_count q estimate left ≤ 2000000 → length estimate ≤ MOST_EFFECTS → length others ≤ MOST_EFFECTS
    → AreApart q (record { estimate = estimate; nonnegligible = left })
are_apart q estimate others left he ho is few short short_others =
    let p : ℕ → Bool = λ e. not (list_any (λ f. eqb f e) estimate) in
    record {
      estimate = sorted-in_order estimate (ordered-sorted estimate he);
      nonnegligible =
          rw is (sorted-in_order _ (sorted-filter p others (ordered-sorted others ho)));
      apart = rw is (all-filter p others);
      pairs = few;
      few_estimate = short;
      few_nonnegligible =
          rw is (omega (arith, filter-short p others));
    }
