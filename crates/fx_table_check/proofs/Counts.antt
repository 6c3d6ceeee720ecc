-- The words of a prefix, from two patterns.
use Rattle.std.proofs.Common.{ℕ, ◌≡◌, ◌<◌, ◌≤◌, ◌+◌, ◌-◌, ◌*◌, ◌/◌, ◌^◌, zero, suc, Bool, true, false, not, cond, eqb}
use Rattle.std.proofs.Common.{◌&&◌}
use Rattle.std.proofs.Common.{List, [], ◌∷◌, ◌++◌, length, take, slice_index, get_or, refl, sym, ◌∙◌, ap}
use Rattle.std.proofs.Common.{arith}
use Rattle.std.proofs.Common.{eqb-true, eq-eqb}
use Rattle.std.proofs.lemmas.List.{length-map, take_more}
use Rattle.std.proofs.Math.Seq.{take-length}
use Rattle.fx_designs.specs.Galois.{digits, number, IsField}
use Rattle.fx_designs.specs.Vectors.{IsVector, weight, combination, vectors_of, is_zero}
use Rattle.fx_designs.specs.Runs.{points}
use Rattle.fx_designs.specs.Spans.{in_span}
use Rattle.fx_designs.specs.Patterns.{pattern_of}
use Rattle.fx_laws.proofs.Space.{combination-vector, zeros-vector}
use Rattle.fx_laws.proofs.Ranks.{number-same}
use Rattle.fx_laws.proofs.Weights.{weight-zeros}
use Rattle.std.proofs.Math.Nat.{mul_comm, mul-div_cancel, mul-sub, div-mul-le_self}
use Rattle.std.proofs.lemmas.List.{get_or-map, get_or-take, length-take}
use Rattle.fx_laws.proofs.CanonicalTest.{rows-vectors, take-vectors}
use Rattle.fx_laws.proofs.Codes.{number-weight, number-zeros, length-points}
use Rattle.std.proofs.lemmas.List.Sums.{count_by-le-length}
use Rattle.fx_laws.proofs.Tests.{bool_same}
use Rattle.fx_laws.proofs.Sums.{sum_by-plus}
use Rattle.fx_words.specs.Spreads.{spread}
use Rattle.fx_words.proofs.Levels.{so_far-zero, so_far-all, spread-heavy}
use Rattle.fx_words.proofs.Entries.{entry}
use Rattle.fx_strata.specs.Words.{words_in}
use Rattle.fx_strata.specs.Designs.{Strata}
use Rattle.fx_strata.specs.Sums.{is_in_base}
use Rattle.fx_strata.specs.Canonical.{dimensions_of, base, words}
use Rattle.fx_strata.proofs.Totals.{total-same, counted}
use Rattle.fx_strata.proofs.Moved.{in-base, base-in}
use Rattle.fx_strata.proofs.Spreads.{zero-inside}
use Rattle.fx_table_check.specs.Counts.{coset, cosets, confounded_at}
use Rattle.fx_table_check.proofs.Cosets.{flat, flat-combination, flat-rows, flat-short, short-flat}

module _ (x : Strata) (f : IsField x.q) (room : x.h ≤ x.m) where
  abbrev vecs : List ℕ → List (List ℕ)
  vecs rows = vectors_of x.q x.m rows

  -- at zero, the number and the weight tell the same
  zero-test : (v : List ℕ) → IsVector x.q x.m v → eqb (number x.q v) 0 ≡ is_zero v
  zero-test v hv =
      bool_same _ _
      (λ e. ap is_zero (number-same x.q x.m f v _ hv (zeros-vector x.q x.m f)
      (eqb-true _ 0 e ∙ sym (number-zeros x.q x.m)))
      ∙ eq-eqb _ 0 (weight-zeros x.m))
      (λ e. eq-eqb _ 0 (number-weight x.q v (eqb-true _ 0 e)))

  zeros-words : (rows : List ℕ) (k : ℕ) → words_in x.q x.m is_zero (vecs rows) k ≡ spread x.q x.m (vecs rows) k 0
  unfolding words_in spread
  zeros-words rows k =
      total-same x.q x.m f (λ j v. cond (eqb (number x.q v) 0 && eqb j k) 1 0) (counted x.q x.m f is_zero k) _
      _ refl
      (λ u hu. ap (λ b. cond (b && eqb (weight u) k) 1 0)
      (sym (zero-test _
      (combination-vector x.q x.m f u _ (rows-vectors x.q x.m f rows)))))

  in-test : (v : List ℕ) → IsVector x.q x.m v → is_zero (flat x.h v) ≡ in_span x.q x.m (base x) v
  in-test v hv =
      bool_same _ _
      (λ e. base-in x f room v hv (flat-short x.m x.h v hv.len (eqb-true _ 0 e)))
      (λ e. eq-eqb _ 0 (short-flat x.m x.h v hv.len (in-base x f room v hv e)))

  sum-vector : (rows u : List ℕ) → IsVector x.q x.m (combination x.q x.m u (vecs rows))
  sum-vector rows u = combination-vector x.q x.m f u _ (rows-vectors x.q x.m f rows)

  -- what is in the base is zero modulo it
  in-words : (rows : List ℕ) (k : ℕ)
      → words_in x.q x.m is_zero (vecs (cosets x rows)) k ≡ words_in x.q x.m (in_span x.q x.m (base x)) (vecs rows) k
  unfolding words_in
  in-words rows k =
      total-same x.q x.m f (counted x.q x.m f (in_span x.q x.m (base x)) k) (counted x.q x.m f is_zero k) _
      _
      (ap length (flat-rows x.q f x.m x.h rows) ∙ length-map (vecs rows) (flat x.h))
      (λ u hu. ap (λ b. cond (b && eqb (weight u) k) 1 0)
      (ap (λ l. is_zero (combination x.q x.m u l)) (flat-rows x.q f x.m x.h rows)
      ∙ ap is_zero (flat-combination x.q f x.m x.h u (vecs rows))
      ∙ in-test _ (sum-vector rows u)))

  both-parts : (z i b : Bool) → (z ≡ true → i ≡ true)
      → cond {A = ℕ} ((not z && i) && b) 1 0 + cond (z && b) 1 0 ≡ cond (i && b) 1 0
  both-parts true true true h = refl
  both-parts true true false h = refl
  both-parts true false b h = cc (h refl)
  both-parts false true true h = refl
  both-parts false true false h = refl
  both-parts false false b h = refl

  parts : (rows : List ℕ) (k : ℕ)
      → words_in x.q x.m (is_in_base x (base x)) (vecs rows) k + words_in x.q x.m is_zero (vecs rows) k
      ≡ words_in x.q x.m (in_span x.q x.m (base x)) (vecs rows) k
  unfolding words_in
  parts rows k =
      let g = counted x.q x.m f (is_in_base x (base x)) k in
      let z = counted x.q x.m f is_zero k in
      cc (
        sum_by-plus (λ u. g (weight u) (combination x.q x.m u (vecs rows)))
            (λ u. z (weight u) (combination x.q x.m u (vecs rows))) (points x.q (length (vecs rows))),
        total-same x.q x.m f
            (counted x.q x.m f (in_span x.q x.m (base x)) k) (λ j v. g j v + z j v) (vecs rows)
            (vecs rows)
            refl
            (λ u hu. both-parts _
            _ _
            (zero-inside x f room _ (sum-vector rows u))),
      )

  -- each word counts with its multiples
  module _ (rows : List ℕ) (low : (i : ℕ) → i < length rows → slice_index rows i < x.q ^ x.m) where
    divides : (w : ℕ) → 0 < w → (n : ℕ) → n ≤ length rows
        → (c : ℕ) × (spread x.q x.m (vecs (take n rows)) w 0 ≡ (x.q - 1) * c)
    divides w pos zero le = (0, spread-heavy x.q x.m f [] w 0 pos ∙ (omega arith))
    divides w pos (suc n) le =
        let before = divides w pos n (omega arith) in
        let r = get_or rows n 0 in
        let s = spread x.q x.m (vecs (take n rows)) (w - 1) r in
        let more : take (suc n) rows ≡ take n rows ++ r ∷ [] =
        ap (λ k. take k rows) (let e : suc n ≡ n + 1 = omega arith in e) ∙ take_more rows n 0 (omega arith) in
        let last : x.q ≡ x.q - 1 + 1 = omega arith in (
          before.0 + s,
          cc (
            (so_far-all x.q x.m f (take n rows) r w 0 (some-points (low n (omega arith)))),
            (so_far-zero x.q x.m f (take n rows) r w (x.q - 1) pos (omega arith) (low n (omega arith))),
            together
                (x.q - 1) before.0 s,
          ),
        )
      where
        some-points : {r : ℕ} → r < x.q ^ x.m → 0 < x.q ^ x.m
        some-points l = omega arith

        together : (a b c : ℕ) → a * b + a * c ≡ a * (b + c)
        together a b c = grind arith

    pub whole : (i : ℕ) → length rows ≤ x.w + x.n → i < x.w + x.n
        → words_in x.q x.m is_zero (vecs rows) (i + 1) ≡ (x.q - 1) * slice_index (pattern_of (dimensions_of x) rows) i
    whole i few at =
        let d = divides (i + 1) (omega arith) (length rows) (omega arith) in
        let all : spread x.q x.m (vecs rows) (i + 1) 0 ≡ (x.q - 1) * d.0 =
        cc (take-length rows) in
        let once : spread x.q x.m (vecs rows) (i + 1) 0 / (x.q - 1) ≡ d.0 =
        cc (mul_comm (x.q - 1) d.0, mul-div_cancel d.0 {n = x.q - 1} (omega arith)) in
        cc (zeros-words rows (i + 1), entry (dimensions_of x) f rows i few at)

  module _ (rows : List ℕ) (low : (i : ℕ) → i < length rows → slice_index rows i < x.q ^ x.m)
      (few : length rows ≤ x.w + x.n) (i : ℕ) (at : i < x.w + x.n) where
    coset-low : (j : ℕ) → j < length (cosets x rows) → slice_index (cosets x rows) j < x.q ^ x.m
    coset-low j l =
        let e =
        get_or-map (coset x) rows j 0 0 (omega (arith, length-map rows (coset x))) in
        let le = div-mul-le_self (slice_index rows j) (x.q ^ x.h) in
        omega (arith, low j (omega (arith, length-map rows (coset x))))

    pub confounded-whole : words_in x.q x.m (is_in_base x (base x)) (vecs rows) (i + 1)
        ≡ (x.q - 1) * confounded_at x rows i
    confounded-whole =
        let a = parts rows (i + 1) in
        let b = in-words rows (i + 1) in
        let c = whole rows low i few at in
        omega (
          arith,
          whole _ coset-low i (omega (arith, length-map rows (coset x))) at,
          mul-sub (x.q - 1)
              (slice_index (pattern_of (dimensions_of x) (cosets x rows)) i)
              (slice_index (pattern_of (dimensions_of x) rows) i),
        )

  in-most : (rows : List ℕ) (test : List ℕ → Bool) (k : ℕ) → words_in x.q x.m test (vecs rows) k ≤ x.q ^ length rows
  unfolding words_in
  in-most rows test k =
      let len = length-points x.q (length (vecs rows)) ∙ ap (λ n. x.q ^ n) (length-map rows (digits x.q x.m)) in
      omega (
        arith,
        count_by-le-length (λ u. test (combination x.q x.m u (vecs rows)) && eqb (weight u) k)
            (points x.q (length (vecs rows))),
      )

  pub words-false : (rows : List ℕ) → ((i : ℕ) → i < length rows → slice_index rows i < x.q ^ x.m)
      → length rows ≤ x.w + x.n → (i : ℕ) → i < x.w + x.n
      → words x rows false (i + 1) ≡ (x.q - 1) * slice_index (pattern_of (dimensions_of x) rows) i
  words-false rows low few i at = whole rows low i few at

  pub words-true : (rows : List ℕ) → ((i : ℕ) → i < length rows → slice_index rows i < x.q ^ x.m)
      → length rows ≤ x.w + x.n → (i : ℕ) → i < x.w + x.n
      → words x rows true (i + 1) ≡ (x.q - 1) * (confounded_at x rows i - confounded_at x (take x.w rows) i)
  words-true rows low few i at =
      let part : words_in x.q x.m (is_in_base x (base x)) (take x.w (vecs rows)) (i + 1)
      ≡ (x.q - 1) * confounded_at x (take x.w rows) i =
      cc (
        take-vectors x.q x.m x.w rows,
        confounded-whole (take x.w rows)
            (λ j l. rw (← (get_or-take x.w rows j 0 (omega (arith, length-take x.w rows)))) at
            (low j (omega (arith, length-take x.w rows)))) (omega (arith, length-take x.w rows)) i at,
      ) in
      cc (
        confounded-whole rows low few i at,
        mul-sub (x.q - 1) (confounded_at x rows i)
            (confounded_at x (take x.w rows) i),
      )

  pub words-most : (rows : List ℕ) (b : Bool) (k : ℕ) → words x rows b k ≤ x.q ^ length rows
  words-most rows false k = in-most rows is_zero k
  words-most rows true k =
      omega (arith, in-most rows (is_in_base x (base x)) k)
