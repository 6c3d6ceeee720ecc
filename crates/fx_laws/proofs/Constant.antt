-- What the test of constant vectors says: over the runs of rows, that the sum is zero.
use Rattle.std.proofs.Common.{ℕ, ◌≡◌, ◌<◌, ◌↔◌, true, eqb, List, [], ◌∷◌, ◌∙◌, arith, zero-add}
use Rattle.std.specs.Bool.{Decides}
use Rattle.std.specs.List.{All, list_all}
use Rattle.std.proofs.lemmas.Bool.{eq-eqb, eqb-true}
use Rattle.std.proofs.lemmas.List.Folds.{list_any_at}
use Rattle.std.proofs.lemmas.List.FromFn.{length-range_with_len, get_or-range_with_len}
use Rattle.std.proofs.lemmas.List.Elements.{All-get_or, All-from_get_or}
use Rattle.fx_base.proofs.Lists.{each-all}
use Rattle.fx_designs.specs.Galois.{IsField, codes_of}
use Rattle.fx_designs.specs.Vectors.{dot, combination, vectors_of, zeros}
use Rattle.fx_designs.specs.Runs.{is_constant, runs_of}
use Rattle.fx_laws.specs.Facts.{IsConstant}
use Rattle.fx_laws.proofs.Linear.{dot_code}
use Rattle.fx_laws.proofs.Tests.{all_decides, some_item}
use Rattle.fx_laws.proofs.Bridge.{zero_constant, constant_zero}
use Rattle.fx_laws.proofs.Space.{AreVectors}
use Rattle.fx_laws.proofs.CanonicalTest.{rows-vectors}

module _ (q : ℕ) (f : IsField q) (u : List ℕ) where
  has_value : (xs : List (List ℕ)) (c : ℕ)
      → Decides (list_all (λ x. eqb (dot q u x) c) xs) (All (λ x. dot q u x ≡ c) xs)
  has_value xs c =
      all_decides (λ x. eqb (dot q u x) c) (λ x. dot q u x ≡ c) (λ x. (eqb-true (dot q u x) c, eq-eqb (dot q u x) c)) xs

  constant_at : (xs : List (List ℕ)) (c : ℕ) → c < q → All (λ x. dot q u x ≡ c) xs → is_constant q u xs ≡ true
  unfolding is_constant
  constant_at xs c h all =
      list_any_at (λ c. list_all (λ x. eqb (dot q u x) c) xs) (codes_of q) c 0
      (rw (length-range_with_len 0 q) h)
      (rw (get_or-range_with_len 0 q c 0 h ∙ zero-add c) ((has_value xs c).1 all))

  constant_holds : (xs : List (List ℕ)) → IsConstant q u xs → is_constant q u xs ≡ true
  constant_holds [] h =
      constant_at [] 0 (omega (arith, f.more_than_one))
      (All-from_get_or (λ x. dot q u x ≡ 0) [] [] (λ i low. absurd (omega arith)))
  constant_holds (x ∷ xs) h =
      let first : dot q u x ≡ h.0 = All-get_or (λ x. dot q u x ≡ h.0) (x ∷ xs) 0 [] (omega arith) h.1 in
      constant_at (x ∷ xs) h.0 (rw first at (dot_code q f u x)) h.1

  pub constant_decides : (xs : List (List ℕ)) → Decides (is_constant q u xs) (IsConstant q u xs)
  unfolding is_constant
  constant_decides xs = (
    λ e.
        let found =
        some_item (λ c. list_all (λ x. eqb (dot q u x) c) xs) (λ c. Unit {0}) (codes_of q)
        (each-all (λ c. Unit {0}) (codes_of q) (λ c. tt)) e in
        (found.0, (has_value xs found.0).0 found.2),
    constant_holds xs,
  )

module _ (q m : ℕ) (f : IsField q) (rows : List (List ℕ)) (hr : AreVectors q m rows) where
  -- constant over the runs of rows is of zero sum
  pub zero_sum_decides : (u : List ℕ) → Decides (is_constant q u (runs_of q m rows)) (combination q m u rows ≡ zeros m)
  zero_sum_decides u = (
    λ e. constant_zero q m f rows u hr ((constant_decides q f u (runs_of q m rows)).0 e),
    λ e. (constant_decides q f u (runs_of q m rows)).1 (zero_constant q m f rows u e),
  )

-- over the runs of rules that are given by their numbers
pub constant_sum : (q : ℕ) (f : IsField q) (u : List ℕ) (m : ℕ) (rows : List ℕ)
    → (is_constant q u (runs_of q m (vectors_of q m rows)) ≡ true) ↔ (combination q m u (vectors_of q m rows) ≡ zeros m)
constant_sum q f u m rows = zero_sum_decides q m f (vectors_of q m rows) (rows-vectors q m f rows) u
