-- Over all factor rows: the best of listed vectors that brings a point to zero.
use Rattle.std.proofs.Common.{ℕ, ◌≡◌, ◌≢◌, ◌<◌, ◌≤◌, ◌+◌, ◌^◌, ◌||◌, true, List, [], length, slice_index_or, Option}
use Rattle.std.proofs.Common.{Some, None, refl, sym, subst, ◌∙◌, ap, arith, inl, inr}
use Rattle.std.specs.Prelude.{All}
use Rattle.std.proofs.lemmas.Bool.{cases_eq}
use Rattle.std.proofs.lemmas.List.{take_all, get_or_default}
use Rattle.fx_designs.specs.Galois.{number, digits, IsField}
use Rattle.fx_designs.specs.Vectors.{IsVector, weight, is_zero, scale}
use Rattle.fx_designs.specs.Problems.{Dimensions, Requirement}
use Rattle.fx_designs.specs.Demands.{is_estimated}
use Rattle.fx_laws.proofs.Codes.{digits-vector}
use Rattle.fx_laws.proofs.Forms.{scale-one}
use Rattle.fx_laws.proofs.Reorders.{plus-comm}
use Rattle.fx_points.specs.Sums.{sum_of}
use Rattle.fx_demands.specs.EffectVectors.{AreFactorParts}
use Rattle.fx_points.proofs.Additions.{minus_of}
use Rattle.fx_barred.specs.FirstWords.{sum_to}
use Rattle.fx_barred.specs.declared.best_words.Best.{Best}
use Rattle.fx_barred.specs.BestWords.{BringsToZero, IsBestOf, IsBest, preferred}
use Rattle.fx_barred.proofs.BestWords.{preferred-best, best-same}
use Rattle.fx_barred.proofs.EffectBars.{to-minus, from-minus, sum-below}

-- one of the first i vectors of a list, which brings x to zero
pub record IsListed (q m : ℕ) (rows : List ℕ) (vectors : List (List ℕ)) (i x : ℕ) (v : List ℕ) : Type 0 where
  pub place : ℕ
  pub before : place < i
  pub is : slice_index_or vectors place [] ≡ v
  pub sum : sum_of q 1 m (sum_to q m rows v (length rows)) x ≡ 0

module _ (q m : ℕ) (f : IsField q) (rows : List ℕ) (vectors : List (List ℕ)) where
  some : 0 < q
  some = omega arith

  sum-turned : (a b : ℕ) → sum_of q 1 m a b ≡ sum_of q 1 m b a
  sum-turned a b =
      let one : (y : ℕ) → scale q 1 (digits q m y) ≡ digits q m y =
      λ y. scale-one q m f _ (digits-vector q m y some) in
      cc (one b, plus-comm q f (digits q m a) (digits q m b), one a)

  abbrev total : List ℕ → ℕ
  total v = sum_to q m rows v (length rows)

  -- a vector brings just minus its sum to zero
  at-minus : (v : List ℕ) (x : ℕ) → x < q ^ m → sum_of q 1 m (total v) x ≡ 0 → x ≡ minus_of q m f (total v)
  at-minus v x low e =
      to-minus q m f x _ low (sum-below q m f rows v (length rows)) (sum-turned x (total v) ∙ e)

  minus-at : (v : List ℕ) (x : ℕ) → x ≡ minus_of q m f (total v) → sum_of q 1 m (total v) x ≡ 0
  minus-at v x e = sum-turned (total v) x ∙ from-minus q m f x _ (sum-below q m f rows v (length rows)) e

  pub listed-first : (x : ℕ) → IsBestOf (IsListed q m rows vectors 0 x) q None
  listed-first x = λ v h. (let low = h.before in absurd (omega arith))

  alone : (v : List ℕ) (b : Best) → weight v ≡ b.weight → number q v ≡ b.number → IsBestOf (λ w. w ≡ v) q (Some b)
  alone v b w n =
      record {
        word = v;
        holds = refl;
        weighs = w;
        counts = n;
        none_better = λ u e. inr
            (ap weight (sym e), subst (λ l. number q l ≤ number q v) (sym e) (omega arith));
      }

  pub listed-here : (i x : ℕ) (v : List ℕ) (old : Option Best) (b : Best) → slice_index_or vectors i [] ≡ v
      → x ≡ minus_of q m f (total v) → weight v ≡ b.weight → number q v ≡ b.number
      → IsBestOf (IsListed q m rows vectors i x) q old
      → IsBestOf (IsListed q m rows vectors (i + 1) x) q (preferred old (Some b))
  listed-here i x v old b is at w n h =
      preferred-best (IsListed q m rows vectors i x) (λ w. w ≡ v) (IsListed q m rows vectors (i + 1) x) q
      (λ u hu. record { place = hu.place; before = omega arith; is = hu.is; sum = hu.sum })
      (λ u e. record {
        place = i;
        before = omega arith;
        is = cc;
        sum = cc (minus-at v x at);
      })
      (λ u hu. elim (cases_eq hu.place i) [
        | inl last ↦ inr (sym hu.is ∙ ap (λ k. slice_index_or vectors k []) last ∙ is)
        | inr other ↦ inl (record { place = hu.place; before = omega arith; is = hu.is; sum = hu.sum })
      ])
      old (Some b) h (alone v b w n)

  pub listed-elsewhere : (i x : ℕ) (v : List ℕ) (old : Option Best) → x < q ^ m → slice_index_or vectors i [] ≡ v
      → x ≢ minus_of q m f (total v)
      → IsBestOf (IsListed q m rows vectors i x) q old → IsBestOf (IsListed q m rows vectors (i + 1) x) q old
  listed-elsewhere i x v old low is apart h =
      best-same (IsListed q m rows vectors i x) (IsListed q m rows vectors (i + 1) x) q old
      (λ u hu. record { place = hu.place; before = omega arith; is = hu.is; sum = hu.sum })
      (λ u hu. elim (cases_eq hu.place i) [
        | inl last ↦
            let same : v ≡ u = cc in
            absurd (apart (at-minus v x low (cc)))
        | inr other ↦ record { place = hu.place; before = omega arith; is = hu.is; sum = hu.sum }
      ])
      h

-- the listed vectors are those that are zero or to be estimated
pub best-listed : (d : Dimensions) (wanted : Requirement) (rows : List ℕ) (vectors : List (List ℕ)) (x : ℕ)
    (o : Option Best) → length rows ≡ d.s → All (IsVector d.q d.s) vectors → AreFactorParts d wanted vectors
    → IsBestOf (IsListed d.q d.m rows vectors (length vectors) x) d.q o → IsBest d wanted rows x o
best-listed d wanted rows vectors x o all each lists h =
    best-same (IsListed d.q d.m rows vectors (length vectors) x) (BringsToZero d wanted rows x) d.q o
    (λ v hv.
    (let here = get_or_default vectors hv.place [] v hv.before in
    let is = sym here ∙ hv.is in
    let vector : IsVector d.q d.s v = subst (IsVector d.q d.s) is (each hv.place v hv.before) in
    let passes : (is_zero v || is_estimated wanted v) ≡ true =
    cc (lists.each hv.place v hv.before) in
    record {
      vector = rw all vector;
      factors = cc (take_all d.s v (omega arith));
      sum = hv.sum;
    }))
    (λ v hv.
    (let vector = rw all at hv.vector in
    let passes : (is_zero v || is_estimated wanted v) ≡ true =
    cc (take_all d.s v (omega arith)) in
    let there = lists.all v vector passes in
    record {
      place = there.0;
      before = there.1;
      is = cc (get_or_default vectors there.0 [] v there.1);
      sum = hv.sum;
    }))
    h
