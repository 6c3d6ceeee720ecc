-- A vector outside the span of some rows is told from them by a point.
use Rattle.std.proofs.Common.{ℕ, ◌≡◌, ◌<◌, zero, suc, List, [], ◌∷◌, length, refl, sym, ◌∙◌, ap, arith, inl, inr, ◌⊎◌}
use Rattle.std.proofs.lemmas.Bool.{cases_eq}
use Rattle.fx_designs.specs.Galois.{add, mul, neg, inv, IsField}
use Rattle.fx_designs.specs.Vectors.{dot, plus, scale, zeros, combination, IsVector}
use Rattle.fx_designs.specs.Runs.{levels_at}
use Rattle.fx_laws.specs.Spans.{InSpan, Separates}
use Rattle.fx_laws.proofs.Linear.{zero-mul, zero-add-code, dot_code, dot_comm, dot-plus, dot-scale, dot-zeros}
use Rattle.fx_laws.proofs.Linear.{levels-plus, levels-scale}
use Rattle.fx_laws.proofs.Space.{ext, zeros-vector, plus-vector, scale-vector, combination-vector, AreVectors}

pub add-mul : (q : ℕ) (f : IsField q) (a b c : ℕ) → mul q (add q a b) c ≡ add q (mul q a c) (mul q b c)
add-mul q f a b c = f.mul_comm (add q a b) c ∙ f.distributes c a b ∙ (rw (f.mul_comm c a, f.mul_comm c b) refl)

pub neg-add : (q : ℕ) (f : IsField q) (a : ℕ) → add q (neg q a) a ≡ 0
neg-add q f a = f.add_comm (neg q a) a ∙ f.add_neg a

pub inv-mul : (q : ℕ) (f : IsField q) (a : ℕ) → 0 < a → a < q → mul q (inv q a) a ≡ 1
inv-mul q f a some h = f.mul_comm (inv q a) a ∙ f.mul_inv a some h

pub one-mul : (q : ℕ) (f : IsField q) (a : ℕ) → a < q → mul q 1 a ≡ a
one-mul q f a h = f.mul_comm 1 a ∙ f.mul_one a h

-- -d x + (y + d x) is y
pub add-back : (q : ℕ) (f : IsField q) (d x y : ℕ) → y < q → add q (mul q (neg q d) x) (add q y (mul q d x)) ≡ y
add-back q f d x y h =
    cc (
      f.add_comm y (mul q d x),
      f.add_assoc (mul q (neg q d) x) (mul q d x) y,
      add-mul q f (neg q d) d x,
      neg-add q f d,
      zero-mul q f x,
      zero-add-code q f y h,
    )

-- x + (-1/c) x c is 0
pub add-away : (q : ℕ) (f : IsField q) (c x : ℕ) → 0 < c → c < q → x < q
    → add q x (mul q (mul q (neg q (inv q c)) x) c) ≡ 0
add-away q f c x some hc hx =
    let turned : mul q (mul q (neg q (inv q c)) x) c ≡ mul q (mul q (neg q (inv q c)) c) x =
    cc (f.mul_assoc (neg q (inv q c)) x c, f.mul_comm x c, f.mul_assoc (neg q (inv q c)) c x) in
    let same : x ≡ mul q (mul q (inv q c) c) x = sym (cc (inv-mul q f c some hc, one-mul q f x hx)) in
    cc (
      turned,
      same,
      add-mul q f (mul q (inv q c) c) (mul q (neg q (inv q c)) c) x,
      add-mul q f (inv q c) (neg q (inv q c)) c,
      f.add_neg (inv q c),
      zero-mul q f c,
      zero-mul q f x,
    )

-- a vector that is not 0 has a point where it is 1
pub nonzero-point : (q m : ℕ) (f : IsField q) (w : List ℕ) → IsVector q m w
    → (w ≡ zeros m) ⊎ ((p : List ℕ) × IsVector q m p × (dot q w p ≡ 1))
nonzero-point q zero f [] h = inl refl
nonzero-point q (suc m) f [] h = absurd (let e = h.len in omega arith)
nonzero-point q zero f (a ∷ w) h = absurd (let e = h.len in omega arith)
nonzero-point q (suc m) f (a ∷ w) h =
    let h' : IsVector q m w = record { len = (let e = h.len in omega arith); codes = h.codes.1 } in
    elim (cases_eq a 0) [
      | inl e ↦ elim (nonzero-point q m f w h') [
        | inl none ↦ inl (rw (e, none) refl)
        | inr at ↦
            let v : IsVector q m at.0 = at.1 in
            inr (
              0 ∷ at.0,
              record { len = (let e' = v.len in omega arith); codes = (omega (arith, f.more_than_one), v.codes) },
              rw (f.mul_zero a, at.2) (zero-add-code q f 1 f.more_than_one),
            )
      ]
      | inr some ↦
          let z : IsVector q m (zeros m) = zeros-vector q m f in
          inr (
            inv q a ∷ zeros m,
            record { len = (let e = z.len in omega arith); codes = (f.inv_code a, z.codes) },
            rw (f.mul_inv a (omega arith) h.codes.0, dot_comm q f w (zeros m), dot-zeros q f m w)
                (f.add_zero 1 f.more_than_one),
          )
    ]

pub plus-zeros : (q n : ℕ) (f : IsField q) (c : ℕ) → plus q (zeros n) (scale q c (zeros n)) ≡ zeros n
plus-zeros q zero f c = refl
plus-zeros q (suc n) f c = rw (f.mul_zero c, f.add_zero 0 (omega (arith, f.more_than_one)), plus-zeros q n f c) refl

module _ (q m : ℕ) (f : IsField q) where
  -- one more row
  pub more_span : (b : List ℕ) (rows : List (List ℕ)) (w : List ℕ) (c : ℕ) → c < q → IsVector q m b
      → AreVectors q m rows → IsVector q m w → (w' : List ℕ)
      → ((p : List ℕ) → add q (mul q c (dot q b p)) (dot q w' p) ≡ dot q w p) → InSpan q m rows w'
      → InSpan q m (b ∷ rows) w
  more_span b rows w c hc hb hr hw w' same s = record {
    by = c ∷ s.by;
    vector = record { len = (let e = s.vector.len in omega arith); codes = (hc, s.vector.codes) };
    gives = ext q m f _ w (combination-vector q m f (c ∷ s.by) (b ∷ rows) (hb, hr)) hw
        (λ p. dot-plus q f (scale q c b) (combination q m s.by rows) p ∙ (rw (dot-scale q f c b p, s.gives) (same p)));
  }

  pub separate : (rows : List (List ℕ)) (w : List ℕ) → AreVectors q m rows → IsVector q m w
      → InSpan q m rows w ⊎ ((p : List ℕ) × Separates q m rows w p)
  separate [] w hr hw =
      elim (nonzero-point q m f w hw) [
        | inl none ↦ inl (record { by = []; vector = record { len = refl; codes = tt }; gives = sym none })
        | inr at ↦ inr (at.0, record { point = at.1; none = refl; one = at.2 })
      ]
  separate (b ∷ rows) w hr hw =
      elim (separate rows w hr.1 hw) [
        | inl s ↦ inl (more_span b rows w 0 (omega (arith, f.more_than_one)) hr.0 hr.1 hw w
            (λ p. rw (zero-mul q f (dot q b p)) (zero-add-code q f (dot q w p) (dot_code q f w p))) s)
        | inr at ↦
            let p0 : List ℕ = at.0 in
            let c : ℕ = dot q b p0 in
            elim (cases_eq c 0) [
              | inl e ↦ inr (p0, record { point = at.1.point; none = rw (e, at.1.none) refl; one = at.1.one })
              | inr some ↦
                  let d : ℕ = neg q (inv q c) in
                  let w' : List ℕ = plus q w (scale q d b) in
                  let hw' : IsVector q m w' = plus-vector q m f w (scale q d b) hw (scale-vector q m f d b hr.0) in
                  let value : (p : List ℕ) → dot q w' p ≡ add q (dot q w p) (mul q d (dot q b p)) =
                  λ p. cc (dot-plus q f w (scale q d b) p, dot-scale q f d b p) in
                  elim (separate rows w' hr.1 hw') [
                    | inl s ↦ inl (more_span b rows w (neg q d) (f.neg_code d) hr.0 hr.1 hw w'
                        (λ p. cc (value p, add-back q f d (dot q b p) (dot q w p) (dot_code q f w p))) s)
                    | inr at' ↦
                        let p1 : List ℕ = at'.0 in
                        let x : ℕ = dot q b p1 in
                        let p : List ℕ = plus q p1 (scale q (mul q d x) p0) in
                        let moved : (r : List ℕ) → dot q r p ≡ add q (dot q r p1) (mul q (mul q d x) (dot q r p0)) =
                        λ r. dot_comm q f r p ∙ dot-plus q f p1 (scale q (mul q d x) p0) r ∙ ap (add q (dot q p1 r))
                        (dot-scale q f (mul q d x) p0 r) ∙ (rw (dot_comm q f p1 r, dot_comm q f p0 r) refl) in
                        let first : dot q b p ≡ 0 =
                        moved b ∙ add-away q f c x (omega arith) (dot_code q f b p0) (dot_code q f b p1) in
                        let others : levels_at q rows p ≡ zeros (length rows) =
                        levels-plus q f rows p1 (scale q (mul q d x) p0) ∙
                        (rw (levels-scale q f rows (mul q d x) p0, at'.1.none, at.1.none)
                        (plus-zeros q (length rows) f (mul q d x))) in
                        inr (
                          p,
                          record {
                            point = plus-vector q m f p1 (scale q (mul q d x) p0) at'.1.point
                                (scale-vector q m f (mul q d x) p0 at.1.point);
                            none = rw (first, others) refl;
                            one = cc (moved w, at.1.one, f.mul_one (mul q d x) (f.mul_code d x), value p1, at'.1.one);
                          },
                        )
                  ]
            ]
      ]
