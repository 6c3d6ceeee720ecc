-- Over the runs of rules: which vectors are constant and which are aliased, told from class numbers.
use Rattle.std.proofs.Common.{ℕ, ◌≡◌, false, eqb, List, ◌∙◌, ap, arith, inl, inr}
use Rattle.std.proofs.lemmas.Bool.{cases_eq, eq-eqb, eqb-true, both_ways}
use Rattle.fx_designs.specs.Galois.{IsField}
use Rattle.fx_designs.specs.Vectors.{IsVector, combination, vectors_of, last_nonzero}
use Rattle.fx_designs.specs.Runs.{is_constant, runs_of}
use Rattle.fx_laws.proofs.Space.{combination-vector}
use Rattle.fx_laws.proofs.Constant.{constant_sum}
use Rattle.fx_laws.proofs.CanonicalTest.{rows-vectors}
use Rattle.fx_laws.proofs.Tests.{bool_same}
use Rattle.fx_designs.specs.Aliases.{is_aliased}
use Rattle.fx_alias.specs.Classes.{class_number}
use Rattle.fx_alias.proofs.Multiples.{aliased_multiple, numbers_tell, some_number, zero_number, none_zero}
use Rattle.fx_alias.proofs.Multiples.{multiple_of_zeros}

module _ (q : ℕ) (f : IsField q) (m : ℕ) (numbers : List ℕ) where
  abbrev sum_of : List ℕ → List ℕ
  sum_of u = combination q m u (vectors_of q m numbers)

  abbrev runs : List (List ℕ)
  runs = runs_of q m (vectors_of q m numbers)

  vector_of : (u : List ℕ) → IsVector q m (sum_of u)
  vector_of u = combination-vector q m f u _ (rows-vectors q m f numbers)

  -- constant are those of class 0
  pub constant_number : (u : List ℕ) → is_constant q u runs ≡ eqb (class_number q (sum_of u)) 0
  constant_number u =
      let both = constant_sum q f u m numbers in
      bool_same _ _
      (λ e. eq-eqb _ 0 (ap (class_number q) (both.0 e) ∙ zero_number q f m))
      (λ e. elim (cases_eq (last_nonzero (sum_of u)) 0) [
        | inl z ↦ both.1 (none_zero q f m _ (vector_of u) z)
        | inr nz ↦
            (let some = some_number q f m _ (vector_of u) (omega arith) in
            absurd (omega (arith, eqb-true _ _ e)))
      ])

  -- one that is not constant is aliased with those of its class
  pub aliased_number : (u v : List ℕ) → is_constant q u runs ≡ false
      → is_aliased q runs u v ≡ eqb (class_number q (sum_of u)) (class_number q (sum_of v))
  aliased_number u v not_constant =
      let both = aliased_multiple q f m numbers u v in
      let here : (last_nonzero (sum_of u) ≡ 0) → ⊥ =
      λ z. both_ways _ not_constant
      ((constant_sum q f u m numbers).1 (none_zero q f m _ (vector_of u) z)) in
      elim (cases_eq (last_nonzero (sum_of v)) 0) [
        | inr nz ↦
            numbers_tell q f m _ _ (vector_of u) (vector_of v) (omega arith) (omega arith)
            _ both
        | inl z ↦
            let t = none_zero q f m _ (vector_of v) z in
            let some = some_number q f m _ (vector_of u) (omega arith) in
            let zero : class_number q (sum_of v) ≡ 0 = cc (zero_number q f m) in
            bool_same _ _
            (λ e. absurd (here (multiple_of_zeros q f m _ _ (both.0 e) t)))
            (λ e. absurd (omega (arith, eqb-true _ _ e)))
      ]
