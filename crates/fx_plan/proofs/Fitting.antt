-- What holds of the columns of a plan, and of their values.
use Rattle.std.proofs.Common.{ℕ, ◌≡◌, ◌≢◌, ◌<◌, ◌≤◌, ◌^◌, Bool, true, false, cond, not}
use Rattle.std.proofs.Common.{List, [], ◌∷◌, length, map, get_or, refl, sym, subst, ◌∙◌, ap, arith}
use Rattle.std.proofs.Common.{All}
use Rattle.std.specs.Prelude.{decimal}
use Rattle.std.specs.List.{AllByRecursion, range_with_len}
use Rattle.std.proofs.Math.Nat.{pow-suc, pow-zero}
use Rattle.std.proofs.lemmas.List.{map-append}
use Rattle.std.proofs.lemmas.List.FromFn.{get_or-range_with_len, length-map-range_with_len, length-range_with_len}
use Rattle.std.proofs.lemmas.List.Elements.{All-append, All-filter, All-from_recursion, All-map, recursion_from_All}
use Rattle.fx_plan.specs.Plans.{values_at}
use Rattle.fx_outputs.specs.declared.recode.Recode.{Recode}
use Rattle.fx_runs.proofs.Defaults.{length-default}
use Rattle.fx_outputs.specs.DerivedFactors.{AreDerived, free_places, is_bracketed}
use Rattle.fx_derived.specs.Codes.{ArePlaces}
use Rattle.fx_outputs.specs.declared.derived.Derived.{Derived}
use Rattle.fx_plan.specs.Columns.{column_places, column_values, values_or_codes}

-- a column of different places, of at most 64 levels
pub record IsColumn (q s : ℕ) (column : List ℕ) : Type 0 where
  pub places : ArePlaces s column
  pub levels : q ^ length column ≤ 64

pow-one : (q : ℕ) → q ^ 1 ≡ q
pow-one q = pow-suc q 0 ∙ (rw (pow-zero q) (omega arith))

range_in : (s : ℕ) → All (λ p. (1 ≤ p) × (p ≤ s)) (range_with_len 1 s)
range_in s k d low =
    let there : k < s = omega (arith, length-range_with_len 1 s) in
    subst (λ (p : ℕ). (1 ≤ p) × (p ≤ s)) (sym (get_or-range_with_len 1 s k d there)) (omega arith, omega arith)

pub free_in : (s : ℕ) (derived : List Derived) → All (λ p. (1 ≤ p) × (p ≤ s)) (free_places s derived)
free_in s derived =
    All-filter (λ p. not (is_bracketed derived p)) (λ p. (1 ≤ p) × (p ≤ s)) _ (range_in s)

one_place : (q s p : ℕ) → q ≤ 9 → 1 ≤ p → p ≤ s → IsColumn q s (p ∷ [])
one_place q s p small low high = record {
  places = record {
    from_1 = All-from_recursion (λ p. 1 ≤ p) (p ∷ []) (low, tt);
    factors = All-from_recursion (λ p. p ≤ s) (p ∷ []) (high, tt);
    different = λ i j d less there. absurd (omega arith);
  };
  levels = rw (pow-one q) (omega arith);
}

pub columns_fit : (q s : ℕ) (derived : List Derived) → q ≤ 9 → AreDerived q s derived
    → All (IsColumn q s) (column_places s derived)
columns_fit q s derived small h =
    All-append (IsColumn q s) _ _
    (All-map (IsColumn q s) (λ p. p ∷ []) (free_places s derived)
    (λ k d low. let at = free_in s derived k d low in one_place q s _ small at.0 at.1))
    (All-map (IsColumn q s) (λ (d : Derived). d.places) derived
    (λ k d low. record { places = h.places k d low; levels = h.levels k d low }))

one_of : (b : Bool) (x y : List (List ℕ)) (q : ℕ) → length x ≡ q → length y ≡ q → length (cond b x y) ≡ q
one_of true x y q p r = p
one_of false x y q p r = r

length-values_at : (q : ℕ) (recodes : List Recode) (place : ℕ)
    → AllByRecursion (λ (r : Recode). length r.values ≡ q) recodes → length (values_at q recodes place) ≡ q
length-values_at q [] place h = length-default q
length-values_at q (r ∷ recodes) place h =
    one_of _ r.values _ q h.0 (length-values_at q recodes place h.1)

free_lengths : (q : ℕ) (recodes : List Recode) → AllByRecursion (λ (r : Recode). length r.values ≡ q) recodes
    → (ps : List ℕ)
    → map length (map (λ p. values_at q recodes p) ps) ≡ map (λ places. q ^ length places) (map (λ p. p ∷ []) ps)
free_lengths q recodes h [] = refl
free_lengths q recodes h (p ∷ ps) =
    cc (length-values_at q recodes p h, pow-one q, free_lengths q recodes h ps)

own_length : (n : ℕ) (values : List (List ℕ)) → (values ≢ [] → length values ≡ n)
    → length (values_or_codes n values) ≡ n
own_length n [] h = length-map-range_with_len decimal 0 n
own_length n (v ∷ values) h = h (λ e. (omega (arith, ap length e)))

derived_lengths : (q : ℕ) (derived : List Derived)
    → AllByRecursion (λ (d : Derived). d.values ≢ [] → length d.values ≡ q ^ length d.places) derived
    → map length (map (λ (d : Derived). values_or_codes (q ^ length d.places) d.values) derived)
    ≡ map (λ places. q ^ length places) (map (λ (d : Derived). d.places) derived)
derived_lengths q [] h = refl
derived_lengths q (d ∷ derived) h =
    cc (own_length _ d.values h.0, derived_lengths q derived h.1)

-- a value for each code of each column
pub values_fit : (q s : ℕ) (recodes : List Recode) (derived : List Derived)
    → All (λ (r : Recode). length r.values ≡ q) recodes → AreDerived q s derived
    → map length (column_values q s recodes derived) ≡ map (λ places. q ^ length places) (column_places s derived)
values_fit q s recodes derived hr hd =
    cc (
      map-append length (map (values_at q recodes) (free_places s derived))
          (map (λ d. values_or_codes (q ^ length d.places) d.values) derived),
      free_lengths q recodes
          (recursion_from_All _ recodes hr)
          (free_places s derived),
      derived_lengths q derived
          (recursion_from_All _ derived hd.values),
      map-append (λ places. q ^ length places)
          (map (λ p. p ∷ []) (free_places s derived))
          (map (λ d. d.places) derived),
    )

-- the column at a place
pub column_at : (q s : ℕ) (derived : List Derived) (columns : List (List ℕ)) (i : ℕ) (column : List ℕ) → q ≤ 9
    → AreDerived q s derived → columns ≡ column_places s derived
    → i < length columns → column ≡ get_or columns i column → IsColumn q s column
column_at q s derived columns i column small h e low is =
    let all : All (IsColumn q s) columns = subst (All (IsColumn q s)) (sym e) (columns_fit q s derived small h) in
    subst (IsColumn q s) (sym is) (all i column low)
