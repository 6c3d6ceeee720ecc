-- A sum over all points stays when each point is moved by the same vector.
use Rattle.std.proofs.Common.{ℕ, ◌≡◌, ◌<◌, ◌+◌, ◌*◌, ◌^◌, ◌/◌, ◌%◌, zero, suc, cond, eqb, List, [], ◌∷◌, map, length}
use Rattle.std.proofs.Common.{refl, sym, subst, ◌∙◌, ap, arith, inl, inr}
use Rattle.std.specs.List.{sum_by, All}
use Rattle.std.proofs.lemmas.List.Elements.{All-from_get_or, All-get_or}
use Rattle.std.proofs.lemmas.Bool.{cases_eq, eq-eqb, ne_eqb}
use Rattle.std.proofs.lemmas.Nat.{div-mul-add}
use Rattle.std.proofs.Math.Nat.{pow-suc, pow-zero, mul-le-mul_left, mul-add-mod_self_right, mod-eq_of_lt}
use Rattle.fx_designs.specs.Galois.{add, neg, IsField, codes_of}
use Rattle.fx_designs.specs.Vectors.{plus, IsVector}
use Rattle.fx_designs.specs.Runs.{points}
use Rattle.fx_laws.specs.Facts.{point_of}
use Rattle.fx_laws.proofs.Codes.{points-at, point-vector, length-points}
use Rattle.fx_laws.proofs.Sums.{sum_by_flat_map, sum_by_map, sum_by-swap, sum_by-same, sum_by-pick, sum_by-ext}

-- a sum over the codes in another order
pub sum_by-turn : (q : ℕ) (h φ ψ : ℕ → ℕ) → ((c : ℕ) → c < q → φ c < q) → ((x : ℕ) → x < q → ψ x < q)
    → ((c : ℕ) → c < q → ψ (φ c) ≡ c) → ((x : ℕ) → x < q → φ (ψ x) ≡ x)
    → sum_by (λ c. h (φ c)) (codes_of q) ≡ sum_by h (codes_of q)
sum_by-turn q h φ ψ hφ hψ back forth =
    let turn : (c x : ℕ) → c < q → x < q → eqb x (φ c) ≡ eqb c (ψ x) = λ c x hc hx.
    elim (cases_eq x (φ c)) [
      | inl e ↦ eq-eqb x (φ c) e ∙ sym (eq-eqb c (ψ x) (cc (back c hc, e)))
      | inr ne ↦ ne_eqb x (φ c) ne ∙ sym (ne_eqb c (ψ x) (λ e. ne (cc (forth x hx, e))))
    ] in
    sum_by-same (λ c. h (φ c)) (λ c. sum_by (λ x. cond (eqb x (φ c)) (h x) 0) (codes_of q)) 0 q
    (λ c low high. sym (sum_by-pick h (φ c) 0 q (omega arith) (let e = hφ c (omega arith) in omega arith)))
    ∙ sum_by-swap (λ c x. cond (eqb x (φ c)) (h x) 0) (codes_of q) (codes_of q)
    ∙ sum_by-same (λ x. sum_by (λ c. cond (eqb x (φ c)) (h x) 0) (codes_of q)) h 0 q
    (λ x low high.
    sum_by-same (λ c. cond (eqb x (φ c)) (h x) 0) (λ c. cond (eqb c (ψ x)) (h x) 0) 0 q
    (λ c low' high'. cc (turn c x (omega arith) (omega arith)))
    ∙ sum_by-pick (λ c. h x) (ψ x) 0 q (omega arith) (let e = hψ x (omega arith) in omega arith))

pub points-sum : (q n : ℕ) (g : List ℕ → ℕ)
    → sum_by g (points q (suc n)) ≡ sum_by (λ c. sum_by (λ p. g (c ∷ p)) (points q n)) (codes_of q)
points-sum q n g =
    sum_by_flat_map g (λ c. map (λ p. c ∷ p) (points q n)) (codes_of q)
    ∙ sum_by-ext _ _ (codes_of q) (λ c. sum_by_map g (λ p. c ∷ p) (points q n))

pub shift : (q n : ℕ) (f : IsField q) (t : List ℕ) (g : List ℕ → ℕ) → IsVector q n t
    → sum_by (λ p. g (plus q p t)) (points q n) ≡ sum_by g (points q n)
shift q zero f [] g h = refl
shift q (suc n) f [] g h = absurd (let e = h.len in omega arith)
shift q zero f (a ∷ t) g h = absurd (let e = h.len in omega arith)
shift q (suc n) f (a ∷ t) g h =
    cc (
      points-sum q n (λ p. g (plus q p (a ∷ t))),
      sum_by-ext _ _ (codes_of q)
          (λ c. shift q n f t (λ p. g (add q c a ∷ p))
          (record { len = (let e = h.len in omega arith); codes = h.codes.1 })),
      sum_by-turn q (λ c. sum_by (λ p. g (c ∷ p)) (points q n)) (λ c. add q c a) (λ x. add q x (neg q a))
          (λ c hc. f.add_code c a) (λ x hx. f.add_code x (neg q a))
          (λ c hc. f.add_assoc c a (neg q a) ∙ ap (add q c) (f.add_neg a) ∙ f.add_zero c hc)
          (λ x hx. f.add_assoc x (neg q a) a ∙ ap (add q x) (f.add_comm (neg q a) a ∙ f.add_neg a) ∙ f.add_zero x hx),
      points-sum q n g,
    )

-- the place of a point
pub place : ℕ → List ℕ → ℕ
place q [] = 0
place q (a ∷ v) = a * q ^ length v + place q v

pub place-below : (q n : ℕ) (v : List ℕ) → IsVector q n v → place q v < q ^ n
unfolding place
place-below q zero [] h = rw (pow-zero q) (omega arith)
place-below q (suc n) [] h = absurd (let e = h.len in omega arith)
place-below q zero (a ∷ v) h = absurd (let e = h.len in omega arith)
place-below q (suc n) (a ∷ v) h =
    let len : length v ≡ n = (let e = h.len in omega arith) in
    let rest : place q v < q ^ n = place-below q n v (record { len = len; codes = h.codes.1 }) in
    let wide = mul-le-mul_left {m = a + 1} {n = q} (q ^ n) (omega (arith, h.codes.0)) in
    rw (len, pow-suc q n) (grind (arith, rest, wide))

pub point_of-place : (q n : ℕ) (v : List ℕ) → IsVector q n v → point_of q n (place q v) ≡ v
unfolding place
point_of-place q zero [] h = refl
point_of-place q (suc n) [] h = absurd (let e = h.len in omega arith)
point_of-place q zero (a ∷ v) h = absurd (let e = h.len in omega arith)
point_of-place q (suc n) (a ∷ v) h =
    let len : length v ≡ n = (let e = h.len in omega arith) in
    let hv : IsVector q n v = record { len = len; codes = h.codes.1 } in
    let rest : place q v < q ^ n = place-below q n v hv in
    let first : (a * q ^ n + place q v) / q ^ n ≡ a = div-mul-add a (q ^ n) (place q v) rest in
    let others : (a * q ^ n + place q v) % q ^ n ≡ place q v =
    mul-add-mod_self_right a (q ^ n) (place q v) ∙ mod-eq_of_lt rest in
    rw (len, first, others, point_of-place q n v hv) refl

module _ (q n : ℕ) (some : 0 < q) where
  pub all-points : (P : List ℕ → Type 0) → ((p : List ℕ) → IsVector q n p → P p) → All P (points q n)
  all-points P each = All-from_get_or P (points q n) [] (λ i h.
      let h' : i < q ^ n = rw (length-points q n) at h in
      subst P (sym (points-at q n i some h')) (each (point_of q n i) (point-vector q n i some h')))

  pub points-each : (P : List ℕ → Type 0) → All P (points q n) → (p : List ℕ) → IsVector q n p → P p
  points-each P all p h =
      let below : place q p < q ^ n = place-below q n p h in
      subst P (points-at q n (place q p) some below ∙ point_of-place q n p h)
      (All-get_or P (points q n) (place q p) [] (rw (length-points q n) below) all)
