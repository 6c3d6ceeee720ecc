-- Each item stands once among those of number 0 and the classes of the others.
use Rattle.std.proofs.Common.{ℕ, ◌≡◌, ◌+◌, ◌&&◌, ◌||◌, Bool, true, false, cond, eqb, not, List, [], ◌∷◌, ◌++◌, filter}
use Rattle.std.proofs.Common.{get_or, refl, sym, ◌∙◌, ap, arith, inl, inr, append_assoc, append-nil, zero-add}
use Rattle.std.specs.List.{list_any, sum_by, AllByRecursion}
use Rattle.std.proofs.lemmas.Bool.{eq-eqb, cases_eq, ne_eqb}
use Rattle.std.proofs.lemmas.List.Sums.{sum_by-cons, sum_by-append}
use Rattle.std.proofs.lemmas.List.Folds.{list_any-append, list_any_at}
use Rattle.std.proofs.lemmas.List.Elements.{recursion_from_All}
use mathlib.Core.Bool.{or-false}
use Rattle.fx_laws.proofs.Blocks.{sum_by-filter}
use Rattle.fx_laws.proofs.Sums.{sum_by-ext, sum_by-plus, sum_by-zero}
use Rattle.fx_alias.specs.Classes.{numbered_behind}

same_case : (Z B : Bool) (F : ℕ) → cond (Z || B) 0 F + cond (not Z && B) F 0 ≡ cond (not Z && (B || true)) F 0
same_case true B F = refl
same_case false true F = omega arith
same_case false false F = omega arith

other_case : (A Z B : Bool) (F : ℕ) → cond A 0 0 + cond (not Z && B) F 0 ≡ cond (not Z && (B || false)) F 0
other_case true Z true F = omega arith
other_case false Z true F = omega arith
other_case true Z false F = omega arith
other_case false Z false F = omega arith

module _ {X : Type 0} (number : X → ℕ) (items : List X) (f : X → ℕ) where
  -- some of these has this number
  abbrev has : List X → ℕ → Bool
  has before k = list_any (λ w. eqb k (number w)) before

  -- v has a number, not 0, of one of these
  abbrev among : List X → X → Bool
  among before v = not (eqb (number v) 0) && has before (number v)

  abbrev listed : List X → ℕ
  listed before = sum_by (λ v. cond (among before v) (f v) 0) items

  one_more : (before : List X) (u : X) (k : ℕ) → has (before ++ u ∷ []) k ≡ (has before k || eqb k (number u))
  one_more before u k =
      cc (list_any-append (λ w. eqb k (number w)) before (u ∷ []), or-false (eqb k (number u)))

  found : (u v : X) (before : List X)
      → cond (eqb (number u) 0 || has before (number u)) 0 (cond (eqb (number u) (number v)) (f v) 0)
      + cond (among before v) (f v) 0 ≡ cond (among (before ++ u ∷ []) v) (f v) 0
  found u v before =
      elim (cases_eq (number u) (number v)) [
        | inl e ↦
            let known =
            one_more before u (number v) ∙ ap (λ b. has before (number v) || b)
            (eq-eqb _ _ (sym e)) in
            cc (eq-eqb _ _ e, same_case (eqb (number v) 0) (has before (number v)) (f v))
        | inr ne ↦
            let known =
            one_more before u (number v) ∙ ap (λ b. has before (number v) || b)
            (ne_eqb (number v) (number u) (λ e. ne (sym e))) in
            cc (
              ne_eqb _ _ ne,
              other_case (eqb (number u) 0 || has before (number u)) (eqb (number v) 0)
                  (has before (number v)) (f v),
            )
      ]

  piece : (A : Bool) (class : List X) → sum_by (λ l. sum_by f l) (cond A [] (class ∷ [])) ≡ cond A 0 (sum_by f class)
  piece true class = refl
  piece false class = sum_by-cons (sum_by f) class [] ∙ omega arith

  spread : (A : Bool) (u : X)
      → cond A 0 (sum_by f (filter (λ v. eqb (number u) (number v)) items))
      ≡ sum_by (λ v. cond A 0 (cond (eqb (number u) (number v)) (f v) 0)) items
  spread true u = sym (sum_by-zero items)
  spread false u = sum_by-filter f (λ v. eqb (number u) (number v)) items

  step : (before : List X) (u : X)
      → sum_by (λ l. sum_by f l)
      (cond (eqb (number u) 0 || has before (number u)) [] (filter (λ v. eqb (number u) (number v)) items ∷ []))
      + listed before ≡ listed (before ++ u ∷ [])
  step before u =
      let A : Bool = eqb (number u) 0 || has before (number u) in
      cc (
        piece A (filter (λ v. eqb (number u) (number v)) items),
        spread A u,
        sum_by-plus
            (λ v. cond A 0 (cond (eqb (number u) (number v)) (f v) 0)) (λ v. cond (among before v) (f v) 0)
            items,
        sum_by-ext (λ v. cond A 0 (cond (eqb (number u) (number v)) (f v) 0) + cond (among before v) (f v) 0)
            (λ v. cond (among (before ++ u ∷ []) v) (f v) 0) items (λ v. found u v before),
      )

  all_listed : (before rest : List X)
      → sum_by (λ l. sum_by f l) (numbered_behind number items before rest) + listed before ≡ listed (before ++ rest)
  all_listed before [] = cc (zero-add (listed before), append-nil before)
  all_listed before (u ∷ rest) =
      let first =
      cond (eqb (number u) 0 || has before (number u)) [] (filter (λ v. eqb (number u) (number v)) items ∷ []) in
      let later = numbered_behind number items (before ++ u ∷ []) rest in
      let parts =
      sum_by-append (sum_by f) first later in
      let now = step before u in
      let then =
      all_listed (before ++ u ∷ []) rest in
      let same =
      ap listed (append_assoc before (u ∷ []) rest) in
      omega arith

  halves : (b : Bool) (n : ℕ) → cond b n 0 + cond (not b && true) n 0 ≡ n
  halves true n = omega arith
  halves false n = omega arith

  whole : (xs : List X) → AllByRecursion (λ v. has items (number v) ≡ true) xs
      → sum_by (λ v. cond (eqb (number v) 0) (f v) 0 + cond (among items v) (f v) 0) xs ≡ sum_by f xs
  whole [] h = refl
  whole (v ∷ xs) h =
      cc (
        sum_by-cons (λ v. cond (eqb (number v) 0) (f v) 0 + cond (among items v) (f v) 0) v xs,
        halves
            (eqb (number v) 0) (f v),
        whole xs h.1,
        sum_by-cons f v xs,
      )

  in_items : AllByRecursion (λ v. has items (number v) ≡ true) items
  in_items =
      recursion_from_All (λ v. has items (number v) ≡ true) items
      (λ i d low. list_any_at (λ w. eqb (number (get_or items i d)) (number w)) items i d low (eq-eqb _ _ refl))

  -- each item stands once
  pub each_once : sum_by f (filter (λ v. eqb (number v) 0) items)
      + sum_by (λ l. sum_by f l) (numbered_behind number items [] items) ≡ sum_by f items
  each_once =
      let none =
      sum_by-ext (λ v. cond (among [] v) (f v) 0) (λ v. 0) items (λ v. nothing (eqb (number v) 0) (f v)) ∙
      sum_by-zero items in
      let all =
      all_listed [] items in
      let split =
      sum_by-plus (λ v. cond (eqb (number v) 0) (f v) 0) (λ v. cond (among items v) (f v) 0) items in
      let zero =
      sum_by-filter f (λ v. eqb (number v) 0) items in
      let w = whole items in_items in
      omega arith
    where
      nothing : (b : Bool) (n : ℕ) → cond (not b && false) n 0 ≡ 0
      nothing true n = refl
      nothing false n = refl
