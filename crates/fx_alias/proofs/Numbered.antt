-- The classes of components, told from class numbers.
use Rattle.std.proofs.Common.{ℕ, ◌≡◌, ◌||◌, Bool, true, false, cond, eqb, List, [], ◌∷◌, ◌++◌, filter, refl, sym, ◌∙◌}
use Rattle.std.specs.List.{list_any}
use Rattle.std.proofs.lemmas.List.Elements.{filter_agree}
use Rattle.fx_base.proofs.Lists.{list_any_agree}
use Rattle.fx_designs.specs.Galois.{IsField}
use Rattle.fx_designs.specs.Vectors.{combination, vectors_of}
use Rattle.fx_designs.specs.Runs.{is_constant, runs_of}
use Rattle.fx_designs.specs.Aliases.{is_aliased}
use Rattle.fx_alias.specs.Classes.{class_number, constants, classes, classes_behind, class_of, numbered_behind}
use Rattle.fx_alias.proofs.ClassNumbers.{constant_number, aliased_number}

abbrev unless : Bool → List (List ℕ) → List (List (List ℕ))
unless b class = cond b [] (class ∷ [])

module _ (q : ℕ) (f : IsField q) (m : ℕ) (rows : List ℕ) (components : List (List ℕ)) where
  abbrev runs : List (List ℕ)
  runs = runs_of q m (vectors_of q m rows)

  abbrev number_of : List ℕ → ℕ
  number_of u = class_number q (combination q m u (vectors_of q m rows))

  pub constants_by_number : constants q runs components ≡ filter (λ u. eqb (number_of u) 0) components
  constants_by_number =
      filter_agree (λ u. is_constant q u runs) (λ u. eqb (number_of u) 0) (constant_number q f m rows) components

  one : (before : List (List ℕ)) (u : List ℕ) (b : Bool) → is_constant q u runs ≡ b
      → unless (is_constant q u runs || list_any (λ v. is_aliased q runs u v) before) (class_of q runs components u)
      ≡ unless (eqb (number_of u) 0 || list_any (λ v. eqb (number_of u) (number_of v)) before)
      (filter (λ v. eqb (number_of u) (number_of v)) components)
  one before u true e =
      let zero = sym (constant_number q f m rows u) ∙ e in
      rw (e, zero)
  one before u false e =
      let some = sym (constant_number q f m rows u) ∙ e in
      let same : (v : List ℕ) → is_aliased q runs u v ≡ eqb (number_of u) (number_of v) =
      λ v. aliased_number q f m rows u v e in
      rw (e, some)
      (cc (
        list_any_agree (is_aliased q runs u) (λ v. eqb (number_of u) (number_of v)) same before,
        filter_agree
            (is_aliased q runs u) (λ v. eqb (number_of u) (number_of v)) same components,
      ))

  behind : (before rest : List (List ℕ))
      → classes_behind q runs components before rest ≡ numbered_behind number_of components before rest
  behind before [] = refl
  behind before (u ∷ rest) =
      cc (one before u (is_constant q u runs) refl, behind (before ++ u ∷ []) rest)

  pub classes_numbered : classes q runs components ≡ numbered_behind number_of components [] components
  classes_numbered = behind [] components
