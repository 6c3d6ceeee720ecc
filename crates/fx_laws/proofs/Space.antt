-- Vectors with equal dot products are equal, so that laws of vectors are laws of codes.
use Rattle.std.proofs.Common.{ℕ, ◌≡◌, ◌<◌, zero, suc, List, [], ◌∷◌, refl, sym, ◌∙◌, arith}
use Rattle.std.specs.List.{AllByRecursion}
use Rattle.fx_designs.specs.Galois.{IsField}
use Rattle.fx_designs.specs.Vectors.{dot, plus, scale, zeros, combination, IsVector}
use Rattle.fx_laws.proofs.Linear.{zero-add-code, dot_code, dot-nil}

head-dot : (q : ℕ) (f : IsField q) (a : ℕ) (v : List ℕ) → a < q → dot q (a ∷ v) (1 ∷ []) ≡ a
head-dot q f a v h = rw (dot-nil q v, f.mul_one a h) (f.add_zero a h)

tail-dot : (q : ℕ) (f : IsField q) (a : ℕ) (v p : List ℕ) → dot q (a ∷ v) (0 ∷ p) ≡ dot q v p
tail-dot q f a v p = rw (f.mul_zero a) (zero-add-code q f (dot q v p) (dot_code q f v p))

pub ext : (q n : ℕ) (f : IsField q) (v w : List ℕ) → IsVector q n v → IsVector q n w
    → ((p : List ℕ) → dot q v p ≡ dot q w p) → v ≡ w
ext q zero f [] [] hv hw same = refl
ext q (suc n) f [] w hv hw same = absurd (let e = hv.len in omega arith)
ext q zero f [] (b ∷ w) hv hw same = absurd (let e = hw.len in omega arith)
ext q n f (a ∷ v) [] hv hw same = absurd (let e = hw.len in let e' = hv.len in omega arith)
ext q zero f (a ∷ v) (b ∷ w) hv hw same = absurd (let e = hw.len in omega arith)
ext q (suc n) f (a ∷ v) (b ∷ w) hv hw same =
    let heads : a ≡ b = sym (head-dot q f a v hv.codes.0) ∙ same (1 ∷ []) ∙ head-dot q f b w hw.codes.0 in
    let tails : v ≡ w =
    ext q n f v w (record { len = (let e = hv.len in omega arith); codes = hv.codes.1 })
    (record { len = (let e = hw.len in omega arith); codes = hw.codes.1 })
    (λ p. sym (tail-dot q f a v p) ∙ same (0 ∷ p) ∙ tail-dot q f b w p) in
    cc

pub zeros-vector : (q n : ℕ) (f : IsField q) → IsVector q n (zeros n)
zeros-vector q zero f = record { len = refl; codes = tt }
zeros-vector q (suc n) f =
    let rest = zeros-vector q n f in
    record { len = (let e = rest.len in omega arith); codes = (omega (arith, f.more_than_one), rest.codes) }

pub plus-vector : (q n : ℕ) (f : IsField q) (v w : List ℕ) → IsVector q n v → IsVector q n w → IsVector q n (plus q v w)
plus-vector q n f [] w hv hw = hw
plus-vector q n f (a ∷ v) [] hv hw = hv
plus-vector q zero f (a ∷ v) (b ∷ w) hv hw = absurd (let e = hw.len in omega arith)
plus-vector q (suc n) f (a ∷ v) (b ∷ w) hv hw =
    let rest =
    plus-vector q n f v w (record { len = (let e = hv.len in omega arith); codes = hv.codes.1 })
    (record { len = (let e = hw.len in omega arith); codes = hw.codes.1 }) in
    record { len = (let e = rest.len in omega arith); codes = (f.add_code a b, rest.codes) }

pub scale-vector : (q n : ℕ) (f : IsField q) (c : ℕ) (v : List ℕ) → IsVector q n v → IsVector q n (scale q c v)
scale-vector q n f c [] hv = hv
scale-vector q zero f c (a ∷ v) hv = absurd (let e = hv.len in omega arith)
scale-vector q (suc n) f c (a ∷ v) hv =
    let rest = scale-vector q n f c v (record { len = (let e = hv.len in omega arith); codes = hv.codes.1 }) in
    record { len = (let e = rest.len in omega arith); codes = (f.mul_code c a, rest.codes) }

-- a list of vectors of one length
abbrev pub AreVectors : ℕ → ℕ → List (List ℕ) → Type 0
AreVectors q m rows = AllByRecursion (λ r. IsVector q m r) rows

pub combination-vector : (q m : ℕ) (f : IsField q) (u : List ℕ) (rows : List (List ℕ)) → AreVectors q m rows
    → IsVector q m (combination q m u rows)
combination-vector q m f [] rows h = zeros-vector q m f
combination-vector q m f (a ∷ u) [] h = zeros-vector q m f
combination-vector q m f (a ∷ u) (r ∷ rows) h =
    plus-vector q m f (scale q a r) (combination q m u rows) (scale-vector q m f a r h.0)
    (combination-vector q m f u rows h.1)
