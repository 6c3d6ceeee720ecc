-- Vectors with a sum, counted by the words that one row more makes of them.
use Rattle.std.proofs.Common.{ℕ, ◌≡◌, ◌<◌, ◌+◌, ◌-◌, ◌*◌, ◌/◌, ◌^◌, ◌∙◌, ◌++◌, List, [], ◌∷◌, length, get_or, sym, ap}
use Rattle.std.proofs.Common.{arith}
use Rattle.std.proofs.lemmas.List.{length_push}
use Rattle.std.proofs.Math.Nat.{add-mul-div_left}
use Rattle.fx_designs.specs.Galois.{IsField}
use Rattle.fx_designs.specs.Patterns.{pattern_of}
use Rattle.fx_designs.specs.Problems.{Dimensions}
use Rattle.fx_designs.specs.Vectors.{vectors_of}
use Rattle.fx_points.proofs.Halves.{power-some}
use Rattle.fx_words.specs.Spreads.{spread}
use Rattle.fx_words.proofs.Entries.{entry}
use Rattle.fx_words.proofs.Levels.{so_far-all, so_far-zero}

-- with x as one row more, each vector with the sum x makes a word that is heavier by one
pub heavier : (d : Dimensions) → IsField d.q → (rows : List ℕ) (k x : ℕ) → length rows < d.s → k < d.s → x < d.q ^ d.m
    → get_or (pattern_of d (rows ++ x ∷ [])) k 0
    ≡ get_or (pattern_of d rows) k 0 + spread d.q d.m (vectors_of d.q d.m rows) k x
heavier d f rows k x room low below =
    let q = d.q in
    let m = d.m in
    let own : ℕ = spread q m (vectors_of q m rows) (k + 1) 0 in
    let sums : ℕ = spread q m (vectors_of q m rows) k x in
    let one : 1 < q = f.more_than_one in
    let last : q ≡ q - 1 + 1 = omega arith in
    let lighter : k + 1 - 1 ≡ k = omega arith in
    let more : spread q m (vectors_of q m (rows ++ x ∷ [])) (k + 1) 0 ≡ own + (q - 1) * sums =
    cc (
      so_far-all q m f rows x (k + 1) 0 (power-some q m (omega arith)),
      last,
      so_far-zero q m f rows x (k + 1) (q - 1)
          (omega arith) (omega arith) below,
      lighter,
    ) in
    entry d f (rows ++ x ∷ []) k (omega (arith, length_push rows x, room)) low
    ∙ ap (λ n. n / (q - 1)) more
    ∙ add-mul-div_left own sums (omega (arith, one))
    ∙ ap (λ n. n + sums) (sym (entry d f rows k (omega (arith, room)) low))
