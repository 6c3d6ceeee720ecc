-- Rows modulo the base.
use Rattle.std.proofs.Common.{ℕ, ◌≡◌, ◌<◌, ◌+◌, ◌-◌, ◌*◌, ◌/◌, ◌^◌, zero, suc}
use Rattle.std.proofs.Common.{List, [], ◌∷◌, map, length, refl, sym, subst, ◌∙◌, ap, arith}
use Rattle.std.proofs.Math.Nat.{pow-zero, pow-succ', div-div-eq-div-mul, mul_comm, mul_assoc, mul-mod_left}
use Rattle.std.proofs.lemmas.Nat.{div-mul-add}
use Rattle.fx_designs.specs.Galois.{digits, IsField}
use Rattle.fx_designs.specs.Vectors.{plus, scale, zeros, weight, combination, vectors_of}
use Rattle.fx_laws.specs.Changes.{IsShort}
use Rattle.fx_laws.proofs.Linear.{zero-add-code}
use Rattle.fx_laws.proofs.Changes.{short-zeros, zeros-short}
use Rattle.fx_laws.proofs.Weights.{weight-zeros, zeros_from_weight, weight-none}

-- a vector with zeros in its first k places
abbrev pub flat : ℕ → List ℕ → List ℕ
flat zero v = v
flat (suc k) [] = []
flat (suc k) (a ∷ v) = 0 ∷ flat k v

module _ (q : ℕ) (f : IsField q) where
  some : 0 < q
  some = omega arith

  flat-plus : (k : ℕ) (v w : List ℕ) → flat k (plus q v w) ≡ plus q (flat k v) (flat k w)
  flat-plus zero v w = refl
  flat-plus (suc k) [] w = refl
  flat-plus (suc k) (a ∷ v) [] = refl
  flat-plus (suc k) (a ∷ v) (b ∷ w) =
      cc (zero-add-code q f 0 some, flat-plus k v w)

  flat-scale : (k c : ℕ) (v : List ℕ) → flat k (scale q c v) ≡ scale q c (flat k v)
  flat-scale zero c v = refl
  flat-scale (suc k) c [] = refl
  flat-scale (suc k) c (a ∷ v) = cc (f.mul_zero c, flat-scale k c v)

  flat-zeros : (k n : ℕ) → flat k (zeros n) ≡ zeros n
  flat-zeros zero n = refl
  flat-zeros (suc k) zero = refl
  flat-zeros (suc k) (suc n) = cc (flat-zeros k n)

  pub flat-combination : (m k : ℕ) (u : List ℕ) (rows : List (List ℕ))
      → combination q m u (map (flat k) rows) ≡ flat k (combination q m u rows)
  flat-combination m k [] rows = sym (flat-zeros k m)
  flat-combination m k (c ∷ u) [] = sym (flat-zeros k m)
  flat-combination m k (c ∷ u) (r ∷ rows) =
      cc (flat-scale k c r, flat-combination m k u rows, flat-plus k (scale q c r) (combination q m u rows))

  -- the digits of such a row
  pub flat-digits : (m k r : ℕ) → digits q m (r / q ^ k * q ^ k) ≡ flat k (digits q m r)
  flat-digits m zero r =
      let one : r / q ^ 0 * q ^ 0 ≡ r = rw (pow-zero q) (omega arith) in
      cc
  flat-digits zero (suc k) r = refl
  flat-digits (suc m) (suc k) r =
      let b = q ^ k in
      let a = r / q / b in
      let power = pow-succ' q k in
      let parts : r / q ^ suc k * q ^ suc k ≡ a * b * q =
      cc (div-div-eq-div-mul r q b, mul_comm q b, mul_assoc a b q) in
      let high : a * b * q / q ≡ a * b = (e' _ (div-mul-add (a * b) q 0 some)) in
      cc (mul-mod_left (a * b) q, flat-digits m k (r / q))
    where
      e' : (n : ℕ) {x : ℕ} → (n + 0) / q ≡ x → n / q ≡ x
      e' n e = ap (λ i. i / q) (let z : n ≡ n + 0 = omega arith in z) ∙ e

  pub flat-rows : (m k : ℕ) (rows : List ℕ)
      → vectors_of q m (map (λ r. r / q ^ k * q ^ k) rows) ≡ map (flat k) (vectors_of q m rows)
  flat-rows m k [] = refl
  flat-rows m k (r ∷ rows) = cc (flat-digits m k r, flat-rows m k rows)

-- only what has all its codes in the first k places is zero without them
pub flat-short : (n k : ℕ) (v : List ℕ) → length v ≡ n → weight (flat k v) ≡ 0 → IsShort k v
flat-short n zero v e none = subst (IsShort zero) (sym (zeros_from_weight v n e none)) (zeros-short n zero)
flat-short n (suc k) [] e none = tt
flat-short n (suc k) (a ∷ v) e none = flat-short (n - 1) k v (omega arith) (cc (weight-none (flat k v)))

pub short-flat : (n k : ℕ) (v : List ℕ) → length v ≡ n → IsShort k v → weight (flat k v) ≡ 0
short-flat n zero v e s = cc (short-zeros n v e s, weight-zeros n)
short-flat n (suc k) [] e s = refl
short-flat n (suc k) (a ∷ v) e s = weight-none (flat k v) ∙ short-flat (n - 1) k v (omega arith) s
