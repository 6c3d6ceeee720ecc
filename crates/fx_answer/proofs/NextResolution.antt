-- Rows that meet a resolution, where none meets the next: that is their own, or they have no defining words.
use Rattle.std.proofs.Common.{ℕ, ◌≡◌, ◌<◌, ◌≤◌, ◌+◌, true, List, length, take, drop, sym, arith, inl, inr, ◌⊎◌}
use Rattle.std.proofs.lemmas.Bool.{cases_lt, both_ways}
use Rattle.std.proofs.lemmas.List.{take-append-drop}
use Rattle.fx_designs.specs.Galois.{IsField}
use Rattle.fx_designs.specs.Vectors.{vectors_of}
use Rattle.fx_designs.specs.Problems.{Dimensions, AtResolution}
use Rattle.fx_designs.specs.Demands.{is_met}
use Rattle.fx_designs.specs.Matrices.{NoneMeets}
use Rattle.fx_designs.specs.Patterns.{pattern_of, resolution_of}
use Rattle.fx_laws.proofs.CanonicalTest.{take-vectors}
use Rattle.fx_reduction.proofs.NoDesign.{named_matrix}
use Rattle.fx_reduction.proofs.ShortWords.{met-reaches, none-above_factors, reaches-met}

module _ (d : Dimensions) (f : IsField d.q) (rows : List ℕ) (r : ℕ) (unblocked : d.t ≡ 0)
    (whole : length rows ≡ d.s + d.t)
    (met : is_met d (AtResolution r) rows ≡ true) where
  abbrev own : ℕ
  own = resolution_of (pattern_of d rows)

  abbrev factors : List (List ℕ)
  factors = take d.s (vectors_of d.q d.m rows)

  abbrev block_rows : List (List ℕ)
  block_rows = drop d.s (vectors_of d.q d.m rows)

  reached : (r ≤ own) ⊎ (own ≡ d.s + 1)
  unfolding is_met
  reached =
      met-reaches d f factors block_rows (named_matrix d f (AtResolution r) rows whole) rows
      (sym (take-vectors d.q d.m d.s rows)) unblocked r
      (rw (take-append-drop d.s (vectors_of d.q d.m rows)) met)

  pub full_resolution : d.s < r → own ≡ d.s + 1
  full_resolution above = elim reached [
    | inr full ↦ full
    | inl low ↦ (let most = none-above_factors d rows in omega arith)
  ]

  pub exact_resolution : NoneMeets d (AtResolution (r + 1)) → (own ≡ d.s + 1) ⊎ (own ≡ r)
  exact_resolution unmet = elim reached [
    | inr full ↦ inl full
    | inl low ↦ elim (cases_lt r own) [
      | inr le ↦ inr (omega arith)
      | inl more ↦
          let rules = named_matrix d f (AtResolution (r + 1)) rows whole in
          absurd (both_ways _ (unmet factors block_rows rules)
          (reaches-met d f factors block_rows rules rows (sym (take-vectors d.q d.m d.s rows)) unblocked (r + 1)
          (inl (omega arith))))
    ]
  ]
