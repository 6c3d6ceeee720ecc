-- Sums and products of vectors, over any field.
use Rattle.std.proofs.Common.{ℕ, ◌≡◌, ◌<◌, zero, suc, List, [], ◌∷◌, length, refl, sym, ◌∙◌, ap, arith, inl, inr}
use Rattle.std.proofs.lemmas.Bool.{cases_eq}
use Rattle.fx_designs.specs.Galois.{add, mul, neg, IsField}
use Rattle.fx_designs.specs.Vectors.{dot, plus, scale, zeros, combination}
use Rattle.fx_designs.specs.Runs.{levels_at}

pub zero-mul : (q : ℕ) (f : IsField q) (a : ℕ) → mul q 0 a ≡ 0
zero-mul q f a = f.mul_comm 0 a ∙ f.mul_zero a

pub zero-add-code : (q : ℕ) (f : IsField q) (a : ℕ) → a < q → add q 0 a ≡ a
zero-add-code q f a h = f.add_comm 0 a ∙ f.add_zero a h

pub neg-positive : (q : ℕ) → IsField q → 0 < neg q 1
neg-positive q f =
    elim (cases_eq (neg q 1) 0) [
      | inl e ↦ absurd
          (let bad : 1 ≡ 0 = sym (f.add_zero 1 f.more_than_one) ∙ ap (add q 1) (sym e) ∙ f.add_neg 1 in omega arith)
      | inr ne ↦ omega arith
    ]

-- a sum of four, regrouped
pub add-add : (q : ℕ) (f : IsField q) (a b c d : ℕ) → add q (add q a b) (add q c d) ≡ add q (add q a c) (add q b d)
add-add q f a b c d =
    cc (f.add_assoc a b (add q c d), f.add_assoc b c d, f.add_comm b c, f.add_assoc c b d, f.add_assoc a c (add q b d))

pub dot_code : (q : ℕ) (f : IsField q) (v w : List ℕ) → dot q v w < q
dot_code q f [] w = omega (arith, f.more_than_one)
dot_code q f (a ∷ v) [] = omega (arith, f.more_than_one)
dot_code q f (a ∷ v) (b ∷ w) = f.add_code (mul q a b) (dot q v w)

pub dot_comm : (q : ℕ) (f : IsField q) (v w : List ℕ) → dot q v w ≡ dot q w v
dot_comm q f [] [] = refl
dot_comm q f [] (b ∷ w) = refl
dot_comm q f (a ∷ v) [] = refl
dot_comm q f (a ∷ v) (b ∷ w) = rw (f.mul_comm a b, dot_comm q f v w) refl

pub dot-nil : (q : ℕ) (v : List ℕ) → dot q v [] ≡ 0
dot-nil q [] = refl
dot-nil q (a ∷ v) = refl

pub dot-plus : (q : ℕ) (f : IsField q) (v w p : List ℕ) → dot q (plus q v w) p ≡ add q (dot q v p) (dot q w p)
dot-plus q f [] w p = sym (zero-add-code q f (dot q w p) (dot_code q f w p))
dot-plus q f (a ∷ v) [] p = sym (f.add_zero (dot q (a ∷ v) p) (dot_code q f (a ∷ v) p))
dot-plus q f (a ∷ v) (b ∷ w) [] = sym (f.add_zero 0 (omega (arith, f.more_than_one)))
dot-plus q f (a ∷ v) (b ∷ w) (c ∷ p) =
    ap (λ x. add q x (dot q (plus q v w) p))
    (f.mul_comm (add q a b) c ∙ f.distributes c a b ∙ (rw (f.mul_comm c a, f.mul_comm c b) refl))
    ∙ ap (add q (add q (mul q a c) (mul q b c))) (dot-plus q f v w p)
    ∙ add-add q f (mul q a c) (mul q b c) (dot q v p) (dot q w p)

pub dot-scale : (q : ℕ) (f : IsField q) (c : ℕ) (v p : List ℕ) → dot q (scale q c v) p ≡ mul q c (dot q v p)
dot-scale q f c [] p = sym (f.mul_zero c)
dot-scale q f c (a ∷ v) [] = sym (f.mul_zero c)
dot-scale q f c (a ∷ v) (b ∷ p) =
    rw (dot-scale q f c v p, f.mul_assoc c a b) (sym (f.distributes c (mul q a b) (dot q v p)))

pub dot-zeros : (q : ℕ) (f : IsField q) (n : ℕ) (p : List ℕ) → dot q (zeros n) p ≡ 0
dot-zeros q f zero p = refl
dot-zeros q f (suc n) [] = refl
dot-zeros q f (suc n) (b ∷ p) = rw (zero-mul q f b, dot-zeros q f n p) (f.add_zero 0 (omega (arith, f.more_than_one)))

-- a sum over the levels of a run is the sum of the rows at that run
pub dot-levels : (q : ℕ) (f : IsField q) (m : ℕ) (u : List ℕ) (rows : List (List ℕ)) (p : List ℕ)
    → dot q u (levels_at q rows p) ≡ dot q (combination q m u rows) p
dot-levels q f m [] rows p = sym (dot-zeros q f m p)
dot-levels q f m (a ∷ u) [] p = sym (dot-zeros q f m p)
dot-levels q f m (a ∷ u) (r ∷ rows) p =
    rw (dot-plus q f (scale q a r) (combination q m u rows) p, dot-scale q f a r p, dot-levels q f m u rows p) refl

-- a linear change of the run indexes keeps every sum of rows
pub levels-plus : (q : ℕ) (f : IsField q) (a : List (List ℕ)) (v w : List ℕ)
    → levels_at q a (plus q v w) ≡ plus q (levels_at q a v) (levels_at q a w)
levels-plus q f [] v w = refl
levels-plus q f (r ∷ a) v w =
    rw (dot_comm q f r (plus q v w), dot-plus q f v w r, dot_comm q f v r, dot_comm q f w r, levels-plus q f a v w) refl

pub levels-scale : (q : ℕ) (f : IsField q) (a : List (List ℕ)) (c : ℕ) (v : List ℕ)
    → levels_at q a (scale q c v) ≡ scale q c (levels_at q a v)
levels-scale q f [] c v = refl
levels-scale q f (r ∷ a) c v =
    rw (dot_comm q f r (scale q c v), dot-scale q f c v r, dot_comm q f v r, levels-scale q f a c v) refl

pub levels-zeros : (q : ℕ) (f : IsField q) (a : List (List ℕ)) (n : ℕ) → levels_at q a (zeros n) ≡ zeros (length a)
levels-zeros q f [] n = refl
levels-zeros q f (r ∷ a) n = rw (dot_comm q f r (zeros n), dot-zeros q f n r, levels-zeros q f a n) refl
