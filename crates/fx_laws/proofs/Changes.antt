-- An invertible change of the run indexes keeps every zero sum, and one makes the first independent rows unit vectors.
use Rattle.std.proofs.Common.{ℕ, ◌≡◌, ◌<◌, zero, suc, List, [], ◌∷◌, map, length, refl, sym, subst, ◌∙◌, ap, arith}
use Rattle.std.proofs.Common.{inl, inr, ◌⊎◌}
use Rattle.std.proofs.lemmas.Bool.{cases_eq}
use Rattle.fx_designs.specs.Galois.{add, mul, neg, inv, IsField}
use Rattle.fx_designs.specs.Vectors.{dot, plus, scale, zeros, combination, IsVector}
use Rattle.fx_laws.specs.Changes.{IsChange, unit, IsShort, IsFormedTo}
use Rattle.fx_laws.proofs.Linear.{zero-mul, zero-add-code, add-add, dot_code, dot_comm, dot-plus, dot-scale, dot-zeros}
use Rattle.fx_laws.proofs.Space.{ext, zeros-vector, plus-vector, scale-vector, combination-vector, AreVectors}
use Rattle.fx_laws.proofs.Separation.{add-mul, neg-add, inv-mul, one-mul, nonzero-point}

pub dot-plus-right : (q : ℕ) (f : IsField q) (p v w : List ℕ) → dot q p (plus q v w) ≡ add q (dot q p v) (dot q p w)
dot-plus-right q f p v w =
    cc (dot_comm q f p (plus q v w), dot-plus q f v w p, dot_comm q f v p, dot_comm q f w p)

pub dot-scale-right : (q : ℕ) (f : IsField q) (c : ℕ) (p v : List ℕ) → dot q p (scale q c v) ≡ mul q c (dot q p v)
dot-scale-right q f c p v = cc (dot_comm q f p (scale q c v), dot-scale q f c v p, dot_comm q f v p)

pub scale-none : (q m : ℕ) (f : IsField q) (v : List ℕ) → IsVector q m v → scale q 0 v ≡ zeros m
scale-none q m f v h =
    ext q m f (scale q 0 v) (zeros m) (scale-vector q m f 0 v h) (zeros-vector q m f)
    (λ p. dot-scale q f 0 v p ∙ zero-mul q f (dot q v p) ∙ sym (dot-zeros q f m p))

-- a product that is 0 has a factor that is 0
pub mul-zero-either : (q : ℕ) (f : IsField q) (a b : ℕ) → a < q → b < q → 0 < b → mul q a b ≡ 0 → a ≡ 0
mul-zero-either q f a b ha hb some e =
    cc (f.mul_one a ha, f.mul_inv b some hb, f.mul_assoc a b (inv q b), e, zero-mul q f (inv q b))

module _ (q m : ℕ) (f : IsField q) where
  pub change-zeros : (a : List ℕ → List ℕ) → IsChange q m a → a (zeros m) ≡ zeros m
  change-zeros a h =
      let z = zeros-vector q m f in
      cc (
        scale-none q m f (zeros m) z,
        h.multiples 0 (zeros m) z,
        scale-none q m f (a (zeros m)) (h.vector (zeros m) z),
      )

  pub change-combination : (a : List ℕ → List ℕ) → IsChange q m a → (u : List ℕ) (rows : List (List ℕ))
      → AreVectors q m rows → combination q m u (map a rows) ≡ a (combination q m u rows)
  change-combination a h [] rows hr = sym (change-zeros a h)
  change-combination a h (c ∷ u) [] hr = sym (change-zeros a h)
  change-combination a h (c ∷ u) (r ∷ rows) hr =
      cc (
        h.multiples c r hr.0,
        change-combination a h u rows hr.1,
        h.sums (scale q c r) (combination q m u rows) (scale-vector q m f c r hr.0)
            (combination-vector q m f u rows hr.1),
      )

  -- a change of the run indexes keeps every zero sum
  pub change_keeps : (a : List ℕ → List ℕ) → IsChange q m a → (u : List ℕ) (rows : List (List ℕ)) → AreVectors q m rows
      → combination q m u rows ≡ zeros m → combination q m u (map a rows) ≡ zeros m
  change_keeps a h u rows hr e = cc (change-combination a h u rows hr, e, change-zeros a h)

  pub change_keeps_back : (a : List ℕ → List ℕ) → IsChange q m a → (u : List ℕ) (rows : List (List ℕ))
      → AreVectors q m rows → combination q m u (map a rows) ≡ zeros m → combination q m u rows ≡ zeros m
  change_keeps_back a h u rows hr e =
      h.zero_alone (combination q m u rows) (combination-vector q m f u rows hr)
      (sym (change-combination a h u rows hr) ∙ e)

  -- v moved along w, by what g says of v
  abbrev pub shear : List ℕ → List ℕ → List ℕ → List ℕ
  shear g w v = plus q v (scale q (dot q g v) w)

  shear-dot : (g w v p : List ℕ) → dot q (shear g w v) p ≡ add q (dot q v p) (mul q (dot q g v) (dot q w p))
  shear-dot g w v p = cc (dot-plus q f v (scale q (dot q g v) w) p, dot-scale q f (dot q g v) w p)

  shear-vector : (g w v : List ℕ) → IsVector q m w → IsVector q m v → IsVector q m (shear g w v)
  shear-vector g w v hw hv = plus-vector q m f v (scale q (dot q g v) w) hv (scale-vector q m f (dot q g v) w hw)

  -- what g says 0 of stays
  pub shear-fixes : (g w v : List ℕ) → IsVector q m w → IsVector q m v → dot q g v ≡ 0 → shear g w v ≡ v
  shear-fixes g w v hw hv e = ext q m f (shear g w v) v (shear-vector g w v hw hv) hv
      (λ p. shear-dot g w v p ∙ (rw (e, zero-mul q f (dot q w p)) (f.add_zero (dot q v p) (dot_code q f v p))))

  pub shear-change : (g w : List ℕ) → IsVector q m w → (add q 1 (dot q g w) ≡ 0 → ⊥) → IsChange q m (shear g w)
  shear-change g w hw ne = record {
    vector = λ v hv. shear-vector g w v hw hv;
    sums = λ x y hx hy. ext q m f _ _ (shear-vector g w (plus q x y) hw (plus-vector q m f x y hx hy))
        (plus-vector q m f _ _ (shear-vector g w x hw hx) (shear-vector g w y hw hy))
        (λ p. cc (
          shear-dot g w (plus q x y) p,
          dot-plus q f x y p,
          dot-plus-right q f g x y,
          add-mul q f (dot q g x) (dot q g y) (dot q w p),
          add-add q f (dot q x p) (dot q y p) (mul q (dot q g x) (dot q w p)) (mul q (dot q g y) (dot q w p)),
          dot-plus q f (shear g w x) (shear g w y) p,
          shear-dot g w x p,
          shear-dot g w y p,
        ));
    multiples =
        λ c x hx. ext q m f _ _ (shear-vector g w (scale q c x) hw (scale-vector q m f c x hx))
        (scale-vector q m f c _ (shear-vector g w x hw hx))
        (λ p. cc (
          shear-dot g w (scale q c x) p,
          dot-scale q f c x p,
          dot-scale-right q f c g x,
          f.mul_assoc c (dot q g x) (dot q w p),
          f.distributes c (dot q x p) (mul q (dot q g x) (dot q w p)),
          dot-scale q f c (shear g w x) p,
          shear-dot g w x p,
        ));
    zero_alone = λ v hv e.
        let d : ℕ = dot q g v in
        let k : ℕ = add q 1 (dot q g w) in
        let product : mul q d k ≡ 0 =
        cc (
          f.distributes d 1 (dot q g w),
          f.mul_one d (dot_code q f g v),
          dot_comm q f g v,
          dot_comm q f g w,
          shear-dot g w v g,
          e,
          dot-zeros q f m g,
        ) in
        let none : d ≡ 0 =
        elim (cases_eq k 0) [
          | inl z ↦ absurd (ne z)
          | inr some ↦
              mul-zero-either q f d k (dot_code q f g v) (f.add_code 1 (dot q g w)) (omega arith) product
        ] in
        sym (shear-fixes g w v hw hv none) ∙ e;
  }

pub unit-vector : (q m k : ℕ) (f : IsField q) → IsVector q m (unit m k)
unit-vector q zero k f = record { len = refl; codes = tt }
unit-vector q (suc m) zero f =
    let z = zeros-vector q m f in
    record { len = (let e = z.len in omega arith); codes = (f.more_than_one, z.codes) }
unit-vector q (suc m) (suc k) f =
    let z = unit-vector q m k f in
    record { len = (let e = z.len in omega arith); codes = (omega (arith, f.more_than_one), z.codes) }

pub short-zeros : (m : ℕ) (v : List ℕ) → length v ≡ m → IsShort zero v → v ≡ zeros m
short-zeros zero [] e h = refl
short-zeros (suc m) [] e h = absurd (omega arith)
short-zeros zero (a ∷ v) e h = absurd (omega arith)
short-zeros (suc m) (a ∷ v) e h = rw (h.0, short-zeros m v (omega arith) h.1) refl

pub zeros-short : (m k : ℕ) → IsShort k (zeros m)
zeros-short zero zero = tt
zeros-short zero (suc k) = tt
zeros-short (suc m) zero = (refl, zeros-short m zero)
zeros-short (suc m) (suc k) = zeros-short m k

-- what tells r from all short vectors, and says something of the next unit vector
pub record Tells (q m k : ℕ) (r g : List ℕ) : Type 0 where
  pub room : k < m
  pub at_row : dot q g r ≡ 1
  pub at_unit : dot q g (unit m k) ≡ 0 → ⊥
  pub at_short : (v : List ℕ) → IsVector q m v → IsShort k v → dot q g v ≡ 0

past_short : (q m k : ℕ) (f : IsField q) (g : List ℕ) → ((v : List ℕ) → IsVector q m v → IsShort k v → dot q g v ≡ 0)
    → (v : List ℕ) → IsVector q (suc m) v → IsShort (suc k) v → dot q (0 ∷ g) v ≡ 0
past_short q m k f g h [] hv s = absurd (let e = hv.len in omega arith)
past_short q m k f g h (b ∷ v) hv s =
    cc (
      zero-mul q f b,
      zero-add-code q f (dot q g v) (dot_code q f g v),
      h v (record { len = (let e = hv.len in omega arith); codes = hv.codes.1 }) s,
    )

pub short_or_told : (q m k : ℕ) (f : IsField q) (r : List ℕ) → IsVector q m r
    → IsShort k r ⊎ ((g : List ℕ) × Tells q m k r g)
short_or_told q m zero f [] h = inl tt
short_or_told q m (suc k) f [] h = inl tt
short_or_told q zero k f (a ∷ r) h = absurd (let e = h.len in omega arith)
short_or_told q (suc m) zero f (a ∷ r) h =
    let hr : IsVector q m r = record { len = (let e = h.len in omega arith); codes = h.codes.1 } in
    let short : (g v : List ℕ) → IsVector q (suc m) v → IsShort zero v → dot q g v ≡ 0 =
    λ g v hv s. ap (dot q g) (short-zeros (suc m) v hv.len s) ∙ dot_comm q f g (zeros (suc m)) ∙ dot-zeros q f
    (suc m) g in
    elim (cases_eq a 0) [
      | inl e ↦ elim (nonzero-point q m f r hr) [
        | inl none ↦ inl (e, subst (IsShort zero) (sym none) (zeros-short m zero))
        | inr p ↦ inr (
          1 ∷ p.0,
          record {
            room = omega arith;
            at_row = rw (e, f.mul_zero 1, dot_comm q f p.0 r, p.2) (zero-add-code q f 1 f.more_than_one);
            at_unit = λ z.
                (let one : 1
                ≡ 0 = sym (rw (f.mul_one 1 f.more_than_one, dot_comm q f p.0 (zeros m), dot-zeros q f m p.0)
                (f.add_zero 1 f.more_than_one)) ∙ z in omega arith);
            at_short = short (1 ∷ p.0);
          },
        )
      ]
      | inr some ↦ inr (
        inv q a ∷ zeros m,
        record {
          room = omega arith;
          at_row = rw (inv-mul q f a (omega arith) h.codes.0, dot-zeros q f m r) (f.add_zero 1 f.more_than_one);
          at_unit = λ z.
              (let same : inv q a
              ≡ 0 = sym (rw (f.mul_one (inv q a) (f.inv_code a), dot-zeros q f m (zeros m))
              (f.add_zero (inv q a) (f.inv_code a))) ∙ z in
              let one : 1 ≡ 0 = sym (f.mul_inv a (omega arith) h.codes.0) ∙ ap (mul q a) same ∙ f.mul_zero a in
              omega arith);
          at_short = short (inv q a ∷ zeros m);
        },
      )
    ]
short_or_told q (suc m) (suc k) f (a ∷ r) h =
    let hr : IsVector q m r = record { len = (let e = h.len in omega arith); codes = h.codes.1 } in
    let past : (g : List ℕ) (b : ℕ) (v : List ℕ) → dot q (0 ∷ g) (b ∷ v) ≡ dot q g v =
    λ g b v. ap (λ x. add q x (dot q g v)) (zero-mul q f b) ∙ zero-add-code q f (dot q g v) (dot_code q f g v) in
    elim (short_or_told q m k f r hr) [
      | inl s ↦ inl s
      | inr t ↦ inr (
        0 ∷ t.0,
        record {
          room = (let e = t.1.room in omega arith);
          at_row = past t.0 a r ∙ t.1.at_row;
          at_unit = λ z. t.1.at_unit (sym (past t.0 0 (unit m k)) ∙ z);
          at_short = past_short q m k f t.0 t.1.at_short;
        },
      )
    ]

pub short_more : (k : ℕ) (v : List ℕ) → IsShort k v → IsShort (suc k) v
short_more zero [] h = tt
short_more zero (a ∷ v) h = h.1
short_more (suc k) [] h = tt
short_more (suc k) (a ∷ v) h = short_more k v h

pub unit_short : (m k : ℕ) → IsShort (suc k) (unit m k)
unit_short zero zero = tt
unit_short zero (suc k) = tt
unit_short (suc m) zero = zeros-short m zero
unit_short (suc m) (suc k) = unit_short m k

-- x + (y - x) is y
pub add-over : (q : ℕ) (f : IsField q) (x y : ℕ) → x < q → y < q → add q x (add q y (mul q (neg q 1) x)) ≡ y
add-over q f x y hx hy =
    cc (
      f.add_comm x _,
      f.add_assoc y (mul q (neg q 1) x) x,
      one-mul q f x hx,
      add-mul q f (neg q 1) 1 x,
      neg-add q f 1,
      zero-mul q f x,
      f.add_zero y hy,
    )

pub same-change : (q m : ℕ) → IsChange q m (λ v. v)
same-change q m =
    record { vector = λ v h. h; sums = λ v w hv hw. refl; multiples = λ c v h. refl; zero_alone = λ v h e. e }

pub then-change : (q m : ℕ) (a b : List ℕ → List ℕ) → IsChange q m a → IsChange q m b → IsChange q m (λ v. b (a v))
then-change q m a b ha hb = record {
  vector = λ v h. hb.vector (a v) (ha.vector v h);
  sums = λ v w hv hw. ap b (ha.sums v w hv hw) ∙ hb.sums (a v) (a w) (ha.vector v hv) (ha.vector w hw);
  multiples = λ c v h. ap b (ha.multiples c v h) ∙ hb.multiples c (a v) (ha.vector v h);
  zero_alone = λ v h e. ha.zero_alone v h (hb.zero_alone (a v) (ha.vector v h) e);
}

-- a change that fixes the short vectors and makes r the next unit vector
pub record MakesUnit (q m k : ℕ) (r : List ℕ) (a : List ℕ → List ℕ) : Type 0 where
  pub change : IsChange q m a
  pub fixes : (v : List ℕ) → IsVector q m v → IsShort k v → a v ≡ v
  pub makes : a r ≡ unit m k

pub to_unit : (q m k : ℕ) (f : IsField q) (r g : List ℕ) → IsVector q m r → Tells q m k r g
    → (a : List ℕ → List ℕ) × MakesUnit q m k r a
to_unit q m k f r g hr t =
    let e : List ℕ = unit m k in
    let he : IsVector q m e = unit-vector q m k f in
    let w : List ℕ = plus q e (scale q (neg q 1) r) in
    let hw : IsVector q m w = plus-vector q m f e (scale q (neg q 1) r) he (scale-vector q m f (neg q 1) r hr) in
    let value : (p : List ℕ) → dot q w p ≡ add q (dot q e p) (mul q (neg q 1) (dot q r p)) =
    λ p. cc (dot-plus q f e (scale q (neg q 1) r) p, dot-scale q f (neg q 1) r p) in
    let unit_is : add q 1 (dot q g w) ≡ dot q g e =
    cc (
      dot_comm q f g w,
      value g,
      dot_comm q f e g,
      dot_comm q f r g,
      t.at_row,
      add-over q f 1 (dot q g e) f.more_than_one (dot_code q f g e),
    ) in (
      shear q m f g w,
      record {
        change = shear-change q m f g w hw (λ z. t.at_unit (sym unit_is ∙ z));
        fixes = λ v hv s. shear-fixes q m f g w v hw hv (t.at_short v hv s);
        makes = ext q m f (shear q m f g w r) e (shear-vector q m f g w r hw hr) he
            (λ p. cc (
              shear-dot q m f g w r p,
              t.at_row,
              one-mul q f (dot q w p) (dot_code q f w p),
              value p,
              add-over q f (dot q r p) (dot q e p) (dot_code q f r p) (dot_code q f e p),
            ));
      },
    )

pub record MakesForm (q m k : ℕ) (rows : List (List ℕ)) (b a : List ℕ → List ℕ) : Type 0 where
  pub change : IsChange q m a
  pub fixes : (v : List ℕ) → IsVector q m v → IsShort k v → a v ≡ v
  pub rank : ℕ
  pub formed : IsFormedTo m k (map (λ r. a (b r)) rows) rank

form_after : (q m k : ℕ) (f : IsField q) (rows : List (List ℕ)) (b : List ℕ → List ℕ) → IsChange q m b
    → AreVectors q m rows → (a : List ℕ → List ℕ) × MakesForm q m k rows b a
form_after q m k f [] b hb hr =
    ((λ v. v), record { change = same-change q m; fixes = λ v h s. refl; rank = k; formed = refl })
form_after q m k f (r ∷ rows) b hb hr =
    elim (short_or_told q m k f (b r) (hb.vector r hr.0)) [
      | inl s ↦
          let rest = form_after q m k f rows b hb hr.1 in (
            rest.0,
            record {
              change = rest.1.change;
              fixes = rest.1.fixes;
              rank = rest.1.rank;
              formed = inl (subst (IsShort k) (sym (rest.1.fixes (b r) (hb.vector r hr.0) s)) s, rest.1.formed);
            },
          )
      | inr g ↦
          let one = to_unit q m k f (b r) g.0 (hb.vector r hr.0) g.1 in
          let rest = form_after q m (suc k) f rows (λ v. one.0 (b v)) (then-change q m b one.0 hb one.1.change)
          hr.1 in (
            (λ v. rest.0 (one.0 v)),
            record {
              change = then-change q m one.0 rest.0 one.1.change rest.1.change;
              fixes = λ v h s. ap rest.0 (one.1.fixes v h s) ∙ rest.1.fixes v h (short_more k v s);
              rank = rest.1.rank;
              formed = inr (
                g.1.room,
                ap rest.0 one.1.makes ∙ rest.1.fixes (unit m k) (unit-vector q m k f) (unit_short m k),
                rest.1.formed,
              );
            },
          )
    ]

-- some change of the run indexes makes the first independent rows unit vectors
pub to_form : (q m : ℕ) (f : IsField q) (rows : List (List ℕ)) → AreVectors q m rows
    → (a : List ℕ → List ℕ) × MakesForm q m 0 rows (λ v. v) a
to_form q m f rows h = form_after q m 0 f rows (λ v. v) (same-change q m) h
