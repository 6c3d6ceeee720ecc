-- What a change makes of a row, entry by entry.
use Rattle.std.proofs.Common.{ℕ, ◌≡◌, ◌<◌, ◌+◌, zero, suc, cond, eqb, List, [], ◌∷◌, length, slice_index}
use Rattle.std.proofs.Common.{slice_set, refl, sym, ◌∙◌, arith, inl, inr, ne_eqb}
use Rattle.std.proofs.lemmas.Bool.{cases_eq}
use Rattle.std.proofs.lemmas.List.{length-map, get_or-map, get_or-set_other}
use Rattle.std.proofs.lemmas.Grind.{get_or-set_at}
use Rattle.fx_designs.specs.Galois.{IsField, inv, number, digits}
use Rattle.fx_designs.specs.Vectors.{IsVector, dot, scale, weight, last_nonzero, vectors_of, zeros}
use Rattle.fx_designs.specs.Runs.{levels_at}
use Rattle.fx_designs.specs.Problems.{Dimensions}
use Rattle.fx_laws.proofs.Codes.{number-zeros}
use Rattle.fx_laws.proofs.Forms.{last_nonzero-positive}
use Rattle.fx_laws.proofs.Weights.{zeros_from_weight}
use Rattle.fx_strata.specs.Changes.{moved}

same-lists : (xs ys : List ℕ) → length xs ≡ length ys → ((j : ℕ) → j < length xs → slice_index xs j ≡ slice_index ys j)
    → xs ≡ ys
same-lists [] [] e h = refl
same-lists [] (y ∷ ys) e h = absurd (omega arith)
same-lists (x ∷ xs) [] e h = absurd (omega arith)
same-lists (x ∷ xs) (y ∷ ys) e h =
    let first = h 0 (omega arith) in
    cc (same-lists xs ys (omega arith) (λ j low. h (suc j) (omega arith)))

-- the first i entries of an image
pub record IsImageTo (q m : ℕ) (change v image : List ℕ) (i : ℕ) : Type 0 where
  pub vector : IsVector q m image
  pub are : (j : ℕ) → j < i → slice_index image j ≡ slice_index (levels_at q (vectors_of q m change) v) j

module _ (q m : ℕ) (f : IsField q) (change v : List ℕ) (count : length change ≡ m) where
  entry : (i : ℕ) → i < m → slice_index (levels_at q (vectors_of q m change) v) i
      ≡ dot q (digits q m (slice_index change i)) v
  entry i low =
      cc (
        get_or-map (λ r. dot q r v) (vectors_of q m change) i [] 0
            (omega (arith, length-map change (digits q m))),
        get_or-map (digits q m) change i 0 [] (omega arith),
      )

  pub image-more : (image : List ℕ) (i c : ℕ) → i < m → IsImageTo q m change v image i
      → c ≡ dot q (digits q m (slice_index change i)) v
      → IsVector q m (slice_set image i c) → IsImageTo q m change v (slice_set image i c) (i + 1)
  image-more image i c low h is vector = record {
    vector = vector;
    are = λ j before. elim (cases_eq j i) [
      | inl e ↦ cc (get_or-set_at image i j c 0 e (let l = h.vector.len in omega arith), entry i low)
      | inr ne ↦ get_or-set_other image i j c 0 ne ∙ h.are j (omega arith)
    ];
  }

  pub image-whole : (image : List ℕ) (i : ℕ) → i ≡ m → IsImageTo q m change v image i
      → image ≡ levels_at q (vectors_of q m change) v
  image-whole image i all h =
      same-lists image _
      (cc (h.vector.len, length-map (vectors_of q m change) (λ r. dot q r v), length-map change (digits q m)))
      (λ j low. h.are j (let e = h.vector.len in omega arith))

-- the number of the zero vector, and that of another
pub moved-zero : (d : Dimensions) (f : IsField d.q) (change : List ℕ) (row : ℕ)
    → weight (levels_at d.q (vectors_of d.q d.m change) (digits d.q d.m row)) ≡ 0
    → IsVector d.q d.m (levels_at d.q (vectors_of d.q d.m change) (digits d.q d.m row)) → 0 ≡ moved d change row
moved-zero d f change row none vector =
    let v = levels_at d.q (vectors_of d.q d.m change) (digits d.q d.m row) in
    let e = zeros_from_weight v d.m vector.len none in
    sym (cc (scaled-zeros (cond (eqb (last_nonzero v) 0) 1 (inv d.q (last_nonzero v))) d.m, number-zeros d.q d.m))
  where
    scaled-zeros : (c n : ℕ) → scale d.q c (zeros n) ≡ zeros n
    scaled-zeros c zero = refl
    scaled-zeros c (suc n) = rw (f.mul_zero c, scaled-zeros c n)

pub moved-some : (d : Dimensions) (f : IsField d.q) (change : List ℕ) (row : ℕ)
    → 0 < weight (levels_at d.q (vectors_of d.q d.m change) (digits d.q d.m row))
    → number d.q (scale d.q (inv d.q (last_nonzero (levels_at d.q (vectors_of d.q d.m change) (digits d.q d.m row))))
    (levels_at d.q (vectors_of d.q d.m change) (digits d.q d.m row)))
    ≡ moved d change row
moved-some d f change row some =
    let v = levels_at d.q (vectors_of d.q d.m change) (digits d.q d.m row) in
    let positive = last_nonzero-positive v some in
    cc (ne_eqb (last_nonzero v) 0 (λ e. omega arith))
