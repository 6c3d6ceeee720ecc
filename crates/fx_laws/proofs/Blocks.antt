-- Inside the blocks of a rule matrix.
use Rattle.std.proofs.Common.{ℕ, ◌≡◌, ◌<◌, ◌+◌, Bool, true, false, cond, eqb, List, [], ◌∷◌, map, length, take, drop}
use Rattle.std.proofs.Common.{refl, sym, ◌∙◌, arith, inl, inr, ◌⊎◌}
use Rattle.std.specs.List.{sum_by, count_by, filter, AllByRecursion}
use Rattle.std.proofs.lemmas.List.{drop-map}
use Rattle.std.proofs.lemmas.List.Sums.{sum_by-cons}
use Rattle.std.proofs.lemmas.List.Elements.{All-from_recursion, recursion_from_All}
use Rattle.std.proofs.lemmas.Bool.{cases_eq, eq-eqb, ne_eqb, eqb-true}
use Rattle.fx_base.proofs.Lists.{each-map}
use Rattle.fx_designs.specs.Galois.{add, neg, IsField, number, digits}
use Rattle.fx_designs.specs.Vectors.{dot, plus, scale, zeros, combination, IsVector}
use Rattle.fx_designs.specs.Runs.{points, levels_at, runs_of, block}
use Rattle.fx_laws.specs.Facts.{IsConstantInBlocks, IsBalancedInBlocks}
use Rattle.fx_laws.specs.Spans.{InSpan, Separates}
use Rattle.fx_laws.proofs.Codes.{number-zeros, digits-number}
use Rattle.fx_laws.proofs.Linear.{zero-add-code, dot_code, dot_comm, dot-plus, dot-scale, dot-zeros, dot-levels}
use Rattle.fx_laws.proofs.Linear.{levels-plus, levels-scale, levels-zeros}
use Rattle.fx_laws.proofs.Sums.{sum_by_map, sum_by-ext}
use Rattle.fx_laws.proofs.Shift.{shift, all-points, points-each}
use Rattle.fx_laws.proofs.Space.{ext, zeros-vector, plus-vector, scale-vector, combination-vector, AreVectors}
use Rattle.fx_laws.proofs.Separation.{separate}

pub sum_by-filter : {X : Type 0} (f : X → ℕ) (g : X → Bool) (xs : List X)
    → sum_by f (filter g xs) ≡ sum_by (λ x. cond (g x) (f x) 0) xs
sum_by-filter f g [] = refl
sum_by-filter {X} f g (x ∷ xs) =
    let one : (b : Bool) → sum_by f (cond b (x ∷ filter g xs) (filter g xs)) ≡ cond b (f x) 0 + sum_by f (filter g xs) =
    λ b. elim b as
    (λ b. sum_by f (cond b (x ∷ filter g xs) (filter g xs)) ≡ cond b (f x) 0 + sum_by f (filter g xs))
    [ true ↦ sum_by-cons f x (filter g xs) | false ↦ omega arith ] in
    cc (one (g x), sum_by-filter f g xs, sum_by-cons (λ x. cond (g x) (f x) 0) x xs)

-- what holds of each that passes
pub held : {X : Type 0} (P : X → Type 0) (g : X → Bool) (xs : List X) → AllByRecursion (λ x. g x ≡ true → P x) xs
    → AllByRecursion P (filter g xs)
held P g [] h = tt
held P g (x ∷ xs) h =
    let one : (b : Bool) → (b ≡ true → P x) → AllByRecursion P (cond b (x ∷ filter g xs) (filter g xs)) =
    λ b. elim b as (λ b. (b ≡ true → P x) → AllByRecursion P (cond b (x ∷ filter g xs) (filter g xs)))
    [ true ↦ λ e. (e refl, held P g xs h.1) | false ↦ λ e. held P g xs h.1 ] in
    one (g x) h.0

pub unheld : {X : Type 0} (P : X → Type 0) (g : X → Bool) (xs : List X) → AllByRecursion P (filter g xs)
    → AllByRecursion (λ x. g x ≡ true → P x) xs
unheld P g [] h = tt
unheld P g (x ∷ xs) h =
    let one : (b : Bool) → AllByRecursion P (cond b (x ∷ filter g xs) (filter g xs))
    → (b ≡ true → P x) × AllByRecursion P (filter g xs) =
    λ b. elim b as
    (λ b. AllByRecursion P (cond b (x ∷ filter g xs) (filter g xs))
    → (b ≡ true → P x) × AllByRecursion P (filter g xs))
    [ true ↦ λ e. (λ t. e.0, e.1) | false ↦ λ e. (λ t. absurd (cc), e) ] in
    let both = one (g x) h in
    (both.0, unheld P g xs both.1)

pub All-unmap : {X Y : Type 0} (P : X → Type 0) (f : Y → X) (ys : List Y) → AllByRecursion P (map f ys)
    → AllByRecursion (λ y. P (f y)) ys
All-unmap P f [] h = tt
All-unmap P f (y ∷ ys) h = (h.0, All-unmap P f ys h.1)

-- the levels of the first rows alone count
dot-front : (q : ℕ) (u : List ℕ) (rows : List (List ℕ)) (p : List ℕ)
    → dot q u (levels_at q rows p) ≡ dot q u (levels_at q (take (length u) rows) p)
dot-front q [] rows p = refl
dot-front q (a ∷ u) [] p = refl
dot-front q (a ∷ u) (r ∷ rows) p = rw (dot-front q u rows p) refl

-- x + (y - z) is y exactly where x is z
pub tested : (q : ℕ) (f : IsField q) (x y z : ℕ) → x < q → y < q → z < q → eqb (add q x (add q y (neg q z))) y ≡ eqb x z
tested q f x y z hx hy hz =
    let whole : add q z (add q y (neg q z)) ≡ y =
    cc (f.add_comm y (neg q z), f.add_assoc z (neg q z) y, f.add_neg z, zero-add-code q f y hy) in
    elim (cases_eq x z) [
      | inl e ↦ eq-eqb _ y (cc (e, whole)) ∙ sym (eq-eqb x z e)
      | inr ne ↦ ne_eqb _ y (λ e. ne (
          let d : ℕ = add q y (neg q z) in
          let off : (t : ℕ) → t < q → add q (add q t d) (neg q d) ≡ t =
          λ t ht. cc (f.add_assoc t d (neg q d), f.add_neg d, f.add_zero t ht) in
          cc (off x hx, e, whole, off z hz))) ∙ sym (ne_eqb x z ne)
    ]

-- moved along a vector on which the block rows are 0
pub plus-none : (q : ℕ) (f : IsField q) (n c : ℕ) (v : List ℕ) → IsVector q n v → plus q v (scale q c (zeros n)) ≡ v
plus-none q f n c v h =
    ext q n f _ v (plus-vector q n f v (scale q c (zeros n)) h (scale-vector q n f c (zeros n) (zeros-vector q n f))) h
    (λ p. dot-plus q f v (scale q c (zeros n)) p ∙
    (rw (dot-scale q f c (zeros n) p, dot-zeros q f n p, f.mul_zero c) (f.add_zero (dot q v p) (dot_code q f v p))))

pub levels-vector : (q : ℕ) (f : IsField q) (rows : List (List ℕ)) (p : List ℕ)
    → IsVector q (length rows) (levels_at q rows p)
levels-vector q f [] p = record { len = refl; codes = tt }
levels-vector q f (r ∷ rows) p =
    let rest = levels-vector q f rows p in
    record { len = (let e = rest.len in omega arith); codes = (dot_code q f r p, rest.codes) }

module _ (q m s : ℕ) (f : IsField q) (rows : List (List ℕ)) (u : List ℕ) (hu : IsVector q s u) where
  abbrev pub sum_of : List ℕ
  sum_of = combination q m u (take s rows)

  abbrev pub blocks : List (List ℕ)
  blocks = drop s rows

  pub value : (p : List ℕ) → dot q u (levels_at q rows p) ≡ dot q sum_of p
  value p = cc (dot-front q u rows p, hu.len, dot-levels q f m u (take s rows) p)

  block_value : (p : List ℕ) → drop s (levels_at q rows p) ≡ levels_at q blocks p
  block_value p = drop-map (λ r. dot q r p) s rows

  -- how often the vector takes the value y in the block z
  abbrev pub hits_in : ℕ → ℕ → ℕ
  hits_in z y =
      sum_by (λ p. cond (eqb (number q (levels_at q blocks p)) z) (cond (eqb (dot q sum_of p) y) 1 0) 0) (points q m)

  pub counted : (z y : ℕ) → count_by (λ x. eqb (dot q u x) y) (block q s z (runs_of q m rows)) ≡ hits_in z y
  unfolding runs_of
  counted z y =
      sum_by-filter (λ x. cond (eqb (dot q u x) y) 1 0) (λ x. eqb (number q (drop s x)) z)
      (map (λ p. levels_at q rows p) (points q m))
      ∙ sum_by_map (λ x. cond (eqb (number q (drop s x)) z) (cond (eqb (dot q u x) y) 1 0) 0) (λ p. levels_at q rows p)
      (points q m)
      ∙ sum_by-ext _ _ (points q m) (λ p. rw (block_value p, value p) refl)

  module _ (p0 : List ℕ) (at : Separates q m blocks sum_of p0) where
    stays : (c : ℕ) (p : List ℕ) → levels_at q blocks (plus q p (scale q c p0)) ≡ levels_at q blocks p
    stays c p =
        cc (
          levels-plus q f blocks p (scale q c p0),
          levels-scale q f blocks c p0,
          at.none,
          plus-none q f (length blocks) c (levels_at q blocks p) (levels-vector q f blocks p),
        )

    moves : (c : ℕ) (p : List ℕ) → c < q → dot q sum_of (plus q p (scale q c p0)) ≡ add q (dot q sum_of p) c
    moves c p h =
        dot_comm q f sum_of (plus q p (scale q c p0)) ∙ dot-plus q f p (scale q c p0) sum_of
        ∙ (rw (dot-scale q f c p0 sum_of, dot_comm q f p0 sum_of, at.one, f.mul_one c h, dot_comm q f p sum_of) refl)

    in_zero : (p : List ℕ) → levels_at q blocks p ≡ zeros (length blocks)
        → eqb (number q (drop s (levels_at q rows p))) 0 ≡ true
    in_zero p e = eq-eqb _ 0 (cc (block_value p, e, number-zeros q (length blocks)))

    balanced : IsBalancedInBlocks q s u (runs_of q m rows)
    balanced b = record {
      same = λ y z hy hz.
          let c : ℕ = add q y (neg q z) in
          let g : ℕ → List ℕ → ℕ =
          λ t p. cond (eqb (number q (levels_at q blocks p)) b) (cond (eqb (dot q sum_of p) t) 1 0) 0 in
          counted b y
          ∙ sym (shift q m f (scale q c p0) (g y) (scale-vector q m f c p0 at.point))
          ∙ sum_by-ext _ _ (points q m)
          (λ p. rw (
            stays c p,
            moves c p (f.add_code y (neg q z)),
            tested q f (dot q sum_of p) y z
                (dot_code q f sum_of p) hy hz,
          ) refl)
          ∙ sym (counted b z);
    }

    not_constant : IsConstantInBlocks q s u (runs_of q m rows) → ⊥
    unfolding runs_of
    not_constant h =
        let some : 0 < q = omega (arith, f.more_than_one) in
        let c : ℕ = (h 0).0 in
        let each =
        All-unmap (λ x. eqb (number q (drop s x)) 0 ≡ true → dot q u x ≡ c) (λ p. levels_at q rows p) (points q m)
        (unheld (λ x. dot q u x ≡ c) (λ x. eqb (number q (drop s x)) 0) (runs_of q m rows)
        (recursion_from_All (λ x. dot q u x ≡ c) (block q s 0 (runs_of q m rows)) (h 0).1)) in
        let at_point : (p : List ℕ) → IsVector q m p → eqb (number q (drop s (levels_at q rows p))) 0 ≡ true
        → dot q u (levels_at q rows p) ≡ c =
        points-each q m some
        (λ p. eqb (number q (drop s (levels_at q rows p))) 0 ≡ true → dot q u (levels_at q rows p) ≡ c)
        (All-from_recursion _ (points q m) each) in
        let at_zero = at_point (zeros m) (zeros-vector q m f) (in_zero (zeros m) (levels-zeros q f blocks m)) in
        let at_one = at_point p0 at.point (in_zero p0 at.none) in
        let zero_is : 0 ≡ c =
        cc (value (zeros m), dot_comm q f sum_of (zeros m), dot-zeros q f m sum_of, at_zero) in
        let one_is : 1 ≡ c = sym (value p0 ∙ at.one) ∙ at_one in
        let bad : 0 ≡ 1 = zero_is ∙ sym one_is in
        omega arith

  constant : InSpan q m blocks sum_of → IsConstantInBlocks q s u (runs_of q m rows)
  unfolding runs_of
  constant h b =
      let some : 0 < q = omega (arith, f.more_than_one) in (
        dot q h.by (digits q (length blocks) b),
        All-from_recursion (λ x. dot q u x ≡ dot q h.by (digits q (length blocks) b)) _
            (held (λ x. dot q u x ≡ dot q h.by (digits q (length blocks) b)) (λ x. eqb (number q (drop s x)) b)
            (runs_of q m rows)
            (each-map (λ x. eqb (number q (drop s x)) b ≡ true → dot q u x ≡ dot q h.by (digits q (length blocks) b))
            (λ p. levels_at q rows p) (points q m)
            (recursion_from_All _ (points q m)
            (all-points q m some
            (λ p. eqb (number q (drop s (levels_at q rows p))) b ≡ true
            → dot q u (levels_at q rows p) ≡ dot q h.by (digits q (length blocks) b))
            (λ p hp e.
            let is : number q (levels_at q blocks p) ≡ b = cc (block_value p, eqb-true _ _ e) in
            cc (
              value p,
              h.gives,
              dot-levels q f m h.by blocks p,
              digits-number q (length blocks) (levels_at q blocks p) (levels-vector q f blocks p),
              is,
            )))))),
      )

-- inside each block constant, where the sum is in the span of the block rows, and else inside each block balanced
pub constant_or_balanced : (q m s : ℕ) (f : IsField q) (rows : List (List ℕ)) (u : List ℕ) → IsVector q s u
    → AreVectors q m (take s rows) → AreVectors q m (drop s rows)
    → (InSpan q m (drop s rows) (combination q m u (take s rows)) × IsConstantInBlocks q s u (runs_of q m rows))
    ⊎ ((InSpan q m (drop s rows) (combination q m u (take s rows)) → ⊥) × IsBalancedInBlocks q s u (runs_of q m rows)
    × (IsConstantInBlocks q s u (runs_of q m rows) → ⊥))
constant_or_balanced q m s f rows u hu hf hb =
    elim (separate q m f (drop s rows) (sum_of q m s f rows u hu) hb (combination-vector q m f u (take s rows) hf)) [
      | inl h ↦ inl (h, constant q m s f rows u hu h)
      | inr at ↦
          inr (
            (λ h. not_constant q m s f rows u hu at.0 at.1 (constant q m s f rows u hu h)),
            balanced q m s f rows u hu
                at.0 at.1,
            not_constant q m s f rows u hu at.0 at.1,
          )
    ]
