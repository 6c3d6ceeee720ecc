-- Under a resolution the rows can be put in falling order.
use Rattle.std.proofs.Common.{ℕ, ◌≡◌, ◌<◌, ◌≤◌, ◌+◌, ◌-◌, min, zero, suc, List, [], ◌∷◌, ◌++◌, map, length}
use Rattle.std.proofs.Common.{append_assoc, length-append, refl, sym, subst, ◌∙◌, ap, ap₂, arith, inl, inr, ◌⊎◌}
use Rattle.std.specs.List.{AllByRecursion}
use Rattle.std.proofs.lemmas.List.{length-map, map-append, get_or-append-add, get_or_append_left}
use Rattle.std.proofs.lemmas.List.Elements.{All-get_or, All-from_recursion}
use Rattle.std.proofs.lemmas.Bool.{cases_eq}
use Rattle.fx_base.proofs.Lists.{each-append, each-append_parts}
use Rattle.fx_designs.specs.Galois.{add, mul, neg, IsField, number}
use Rattle.fx_designs.specs.Vectors.{dot, plus, scale, zeros, combination, IsVector, weight}
use Rattle.fx_laws.specs.Facts.{IsNormal}
use Rattle.fx_designs.specs.Spans.{rank_of}
use Rattle.fx_laws.specs.Changes.{unit, IsShort, IsFormedTo}
use Rattle.fx_laws.specs.Canonical.{IsCanonical, IsFalling, row}
use Rattle.fx_laws.specs.Raises.{IsAllowed, IsBlind}
use Rattle.fx_laws.specs.Scalings.{scaled, IsScalable}
use Rattle.fx_laws.specs.Reorders.{reordered, IsReorderable}
use Rattle.fx_laws.proofs.Linear.{zero-mul, dot-plus, dot-scale, dot-zeros, neg-positive}
use Rattle.fx_laws.proofs.Space.{ext, zeros-vector, plus-vector, scale-vector, combination-vector, AreVectors}
use Rattle.fx_laws.proofs.Separation.{add-mul}
use Rattle.fx_laws.proofs.Changes.{to_form, scale-none}
use Rattle.fx_laws.proofs.Ranks.{rank-formed, rank-change, spans-none, zeros-plus, plus-zero, number-same}
use Rattle.fx_laws.proofs.Raises.{none-combination}
use Rattle.fx_laws.proofs.Reorders.{units_from, Parted, part, FallsWeakly, sort_falling, reorder_behind}
use Rattle.fx_laws.proofs.Reorders.{reordered-append, reorder_follows, each-reordered}
use Rattle.fx_laws.proofs.Follows.{Follows, follows-trans, formed-append, change_follows, raise_rank}
use Rattle.fx_laws.proofs.Forms.{normal_factor, factors-scalars, formed-scaled, each_normal, formed-canonical}
use Rattle.fx_laws.proofs.Forms.{scale-one}
use Rattle.fx_laws.proofs.Whole.{scale_follows, scaled-append}
use Rattle.fx_laws.proofs.Weights.{weight-some, weight-none, weight-zeros}

pub formed-join : (m k j n : ℕ) (xs ys : List (List ℕ)) → IsFormedTo m k xs j → IsFormedTo m j ys n
    → IsFormedTo m k (xs ++ ys) n
formed-join m k j n [] ys h h' = rw h h'
formed-join m k j n (x ∷ xs) ys h h' = elim h [
  | inl s ↦ inl (s.0, formed-join m k j n xs ys s.1 h')
  | inr s ↦ inr (s.0, s.1, formed-join m (suc k) j n xs ys s.2 h')
]

pub formed-room : (m k n : ℕ) (xs : List (List ℕ)) → IsFormedTo m k xs n → k ≤ m → n ≤ m
formed-room m k n [] h room = omega (arith, h)
formed-room m k n (x ∷ xs) h room =
    elim h [ inl s ↦ formed-room m k n xs s.1 room | inr s ↦ formed-room m (suc k) n xs s.2 (omega (arith, s.0)) ]

pub formed-others : (m n : ℕ) (xs : List (List ℕ)) → AllByRecursion (λ r. IsShort n r) xs → IsFormedTo m n xs n
formed-others m n [] h = refl
formed-others m n (x ∷ xs) h = inl (h.0, formed-others m n xs h.1)

pub formed-units : (m k j n : ℕ) (xs : List (List ℕ)) → k + j ≡ n → n ≤ m → AllByRecursion (λ r. IsShort n r) xs
    → IsFormedTo m k (units_from m k j ++ xs) n
formed-units m k zero n xs e room h =
    subst (λ z. IsFormedTo m z xs n) (let e' : n ≡ k = omega arith in e') (formed-others m n xs h)
formed-units m k (suc j) n xs e room h = inr (omega arith, refl, formed-units m (suc k) j n xs (omega arith) room h)

length-units : (m k j : ℕ) → length (units_from m k j) ≡ j
length-units m k zero = refl
length-units m k (suc j) = (let e = length-units m (suc k) j in omega arith)

row-units : (m k j i : ℕ) (zs : List (List ℕ)) → i < j → row (units_from m k j ++ zs) i ≡ unit m (k + i)
row-units m k zero i zs h = absurd (omega arith)
row-units m k (suc j) zero zs h = ap (unit m) (let e : k ≡ k + 0 = omega arith in e)
row-units m k (suc j) (suc i) zs h =
    row-units m (suc k) j i zs (omega arith) ∙ ap (unit m) (let e : suc k + i ≡ k + suc i = omega arith in e)

-- strictly falling numbers
abbrev pub FallsStrictly : ℕ → List (List ℕ) → Type 0
FallsStrictly q [] = Unit {0}
FallsStrictly q (x ∷ xs) = AllByRecursion (λ y. number q y < number q x) xs × FallsStrictly q xs

falls_at : (q : ℕ) (xs : List (List ℕ)) (k : ℕ) → FallsStrictly q xs → k + 1 < length xs
    → number q (row xs (k + 1)) < number q (row xs k)
falls_at q [] k h below = absurd (omega arith)
falls_at q (x ∷ []) k h below = absurd (omega arith)
falls_at q (x ∷ y ∷ xs) zero h below = h.0.0
falls_at q (x ∷ y ∷ xs) (suc k) h below =
    let e : suc (k + 1) ≡ suc k + 1 = omega arith in
    rw (← e) (falls_at q (y ∷ xs) k h.1 (omega arith))

module _ (q m : ℕ) (f : IsField q) where
  -- no word of weight 1 or 2
  abbrev pub IsWordFree : List (List ℕ) → Type 0
  IsWordFree xs =
      (u : List ℕ) → IsVector q (length xs) u → 0 < weight u → weight u ≤ 2 → combination q m u xs ≡ zeros m → ⊥

  pub free-tail : (x : List ℕ) (xs : List (List ℕ)) → AreVectors q m (x ∷ xs) → IsWordFree (x ∷ xs) → IsWordFree xs
  free-tail x xs h free u hu some few e =
      free (0 ∷ u)
      (record { len = (let e' = hu.len in omega arith); codes = (omega (arith, f.more_than_one), hu.codes) })
      (rw (weight-none u) some) (rw (weight-none u) few)
      (cc (scale-none q m f x h.0, e, zeros-plus q m f (zeros m) (zeros-vector q m f)))

  free-zero : (x : List ℕ) (xs : List (List ℕ)) → AreVectors q m (x ∷ xs) → IsWordFree (x ∷ xs) → x ≡ zeros m → ⊥
  free-zero x xs h free e =
      let z = zeros-vector q (length xs) f in
      let one : weight (1 ∷ zeros (length xs)) ≡ 1 =
      cc (weight-some 1 (zeros (length xs)) (omega arith), weight-zeros (length xs)) in
      free (1 ∷ zeros (length xs))
      (record { len = (let e' = z.len in omega arith); codes = (f.more_than_one, z.codes) }) (rw one (omega arith))
      (rw one (omega arith))
      (cc (
        scale-one q m f x h.0,
        e,
        none-combination q m f (length xs) xs h.1,
        zeros-plus q m f (zeros m) (zeros-vector q m f),
      ))

  negated : (x : List ℕ) → IsVector q m x → plus q x (plus q (scale q (neg q 1) x) (zeros m)) ≡ zeros m
  negated x h =
      let n = scale-vector q m f (neg q 1) x h in
      cc (
        plus-zero q m f (scale q (neg q 1) x) n,
        scale-one q m f x h,
        ext q m f _ _ (plus-vector q m f _ _ (scale-vector q m f 1 x h) n) (zeros-vector q m f)
            (λ p. dot-plus q f (scale q 1 x) (scale q (neg q 1) x) p
            ∙ ap₂ (add q) (dot-scale q f 1 x p) (dot-scale q f (neg q 1) x p) ∙ sym (add-mul q f 1 (neg q 1) (dot q x p))
            ∙ ap (λ z. mul q z (dot q x p)) (f.add_neg 1) ∙ zero-mul q f (dot q x p) ∙ sym (dot-zeros q f m p)),
      )

  differs : (x : List ℕ) (ys : List (List ℕ)) → IsVector q m x → AreVectors q m ys
      → ((u : List ℕ) → IsVector q (length ys) u → weight u ≡ 1 → plus q x (combination q m u ys) ≡ zeros m → ⊥)
      → AllByRecursion (λ y. x ≡ y → ⊥) ys
  differs x [] hx h free = tt
  differs x (y ∷ ys) hx h free =
      let z = zeros-vector q (length ys) f in (
        (λ e. free (neg q 1 ∷ zeros (length ys))
            (record { len = (let e' = z.len in omega arith); codes = (f.neg_code 1, z.codes) })
            (cc (weight-some (neg q 1) (zeros (length ys)) (neg-positive q f), weight-zeros (length ys)))
            (cc (e, none-combination q m f (length ys) ys h.1, negated x hx))),
        differs x ys hx h.1
            (λ u hu one e. free (0 ∷ u)
            (record { len = (let e' = hu.len in omega arith); codes = (omega (arith, f.more_than_one), hu.codes) })
            (weight-none u ∙ one)
            (cc (
              scale-none q m f y h.0,
              zeros-plus q m f (combination q m u ys) (combination-vector q m f u ys h.1),
              e,
            ))),
      )

  free-differs : (x : List ℕ) (xs : List (List ℕ)) → AreVectors q m (x ∷ xs) → IsWordFree (x ∷ xs)
      → AllByRecursion (λ y. x ≡ y → ⊥) xs
  free-differs x xs h free = differs x xs h.0 h.1 (λ u hu one e.
      let two : weight (1 ∷ u) ≡ 2 = cc (weight-some 1 u (omega arith), one) in
      free (1 ∷ u) (record { len = (let e' = hu.len in omega arith); codes = (f.more_than_one, hu.codes) })
      (rw two (omega arith)) (rw two (omega arith))
      (cc (scale-one q m f x h.0, e)))

  pub free-nonzero : (xs : List (List ℕ)) → AreVectors q m xs → IsWordFree xs → AllByRecursion (λ r. r ≡ zeros m → ⊥) xs
  free-nonzero [] h free = tt
  free-nonzero (x ∷ xs) h free = (free-zero x xs h free, free-nonzero xs h.1 (free-tail x xs h free))

  strict_below : (x : List ℕ) (xs : List (List ℕ)) → IsVector q m x → AreVectors q m xs
      → AllByRecursion (λ y. x ≡ y → ⊥) xs → AllByRecursion (λ y. number q y ≤ number q x) xs
      → AllByRecursion (λ y. number q y < number q x) xs
  strict_below x [] hx h d w = tt
  strict_below x (y ∷ ys) hx h d w =
      let low : number q y ≤ number q x = w.0 in
      let apart : number q x ≡ number q y → ⊥ = λ e. d.0 (number-same q m f x y hx h.0 e) in
      (omega arith, strict_below x ys hx h.1 d.1 w.1)

  pub free-strict : (xs : List (List ℕ)) → AreVectors q m xs → IsWordFree xs → FallsWeakly q xs → FallsStrictly q xs
  free-strict [] h free w = tt
  free-strict (x ∷ xs) h free w =
      (strict_below x xs h.0 h.1 (free-differs x xs h free) w.0, free-strict xs h.1 (free-tail x xs h free) w.1)

  pub free-units : (k j : ℕ) (zs : List (List ℕ)) → AreVectors q m (units_from m k j ++ zs)
      → IsWordFree (units_from m k j ++ zs)
      → IsWordFree zs × ((i : ℕ) → k ≤ i → i < k + j → AllByRecursion (λ y. unit m i ≡ y → ⊥) zs)
  free-units k zero zs h free = (free, λ i low high. absurd (omega arith))
  free-units k (suc j) zs h free =
      let rest = free-units (suc k) j zs h.1 (free-tail (unit m k) (units_from m (suc k) j ++ zs) h free) in
      let here =
      (each-append_parts (λ y. unit m k ≡ y → ⊥) (units_from m (suc k) j) zs
      (free-differs (unit m k) (units_from m (suc k) j ++ zs) h free)).1 in (
        rest.0,
        λ i low high. elim (cases_eq k i) [
          | inl e ↦ rw e at here
          | inr ne ↦
              rest.1 i (omega arith) (omega arith)
        ],
      )

  -- falling rows after the units
  falling_rows : (n s : ℕ) (os ys : List (List ℕ)) → length (units_from m 0 n ++ os) ≡ s → min s m ≡ n
      → AreVectors q m (units_from m 0 n ++ os) → IsWordFree (units_from m 0 n ++ os) → FallsWeakly q os
      → IsFalling q m s ((units_from m 0 n ++ os) ++ ys)
  falling_rows n s os ys len is h free w =
      let split = free-units 0 n os h free in
      let ho : AreVectors q m os = (each-append_parts (λ r. IsVector q m r) (units_from m 0 n) os h).1 in
      let size : n + length os ≡ s =
      (let e = length-append (units_from m 0 n) os in let e' = length-units m 0 n in omega arith) in
      let assoc : (units_from m 0 n ++ os) ++ ys ≡ units_from m 0 n ++ (os ++ ys) =
      append_assoc (units_from m 0 n) os ys in
      let behind : (i : ℕ) → i < length os → row ((units_from m 0 n ++ os) ++ ys) (n + i) ≡ row os i = λ i hi.
      cc (
        assoc,
        length-units m 0 n,
        get_or-append-add (units_from m 0 n) (os ++ ys) i [],
        get_or_append_left os ys [] i hi,
      ) in
      let at : (k : ℕ) → min s m ≤ k → k < min s (length ((units_from m 0 n ++ os) ++ ys))
      → (i : ℕ) × (i < length os) × (k ≡ n + i) = λ k low high. (k - n, omega arith, omega arith) in
      record {
        units = λ k low below. ap (λ z. row z k) assoc ∙ row-units m 0 n k (os ++ ys) (omega arith) ∙ ap (unit m)
            (let e : 0 + k ≡ k = omega arith in e);
        no_zero = λ k low high e.
            (let i = at k low high in
            All-get_or (λ r. r ≡ zeros m → ⊥) os i.0 [] i.1
            (All-from_recursion (λ r. r ≡ zeros m → ⊥) os (free-nonzero os ho split.0))
            (sym (behind i.0 i.1) ∙ ap (row ((units_from m 0 n ++ os) ++ ys)) (sym i.2) ∙ e));
        no_unit = λ k j low high room e.
            (let i = at k low high in
            All-get_or (λ r. unit m j ≡ r → ⊥) os i.0 [] i.1
            (All-from_recursion (λ r. unit m j ≡ r → ⊥) os (split.1 j (omega arith) (omega arith)))
            (sym (sym (behind i.0 i.1) ∙ ap (row ((units_from m 0 n ++ os) ++ ys)) (sym i.2) ∙ e)));
        falls = λ k low high.
            (let i : ℕ = k - n in
            let first : row ((units_from m 0 n ++ os) ++ ys) k ≡ row os i =
            ap (row ((units_from m 0 n ++ os) ++ ys)) (let e : k ≡ n + i = omega arith in e) ∙ behind i
            (omega arith) in
            let second : row ((units_from m 0 n ++ os) ++ ys) (k + 1) ≡ row os (i + 1) =
            ap (row ((units_from m 0 n ++ os) ++ ys)) (let e : k + 1 ≡ n + (i + 1) = omega arith in e) ∙ behind
            (i + 1) (omega arith) in
            rw (first, second) (falls_at q os i (free-strict os ho split.0 w) (omega arith)));
      }

  pub record IsBest (Forbidden : List ℕ → List ℕ → Type 0) (xs ys xs' ys' : List (List ℕ)) : Type 0 where
    pub follows : Follows q m Forbidden xs ys xs' ys'
    pub canonical : IsCanonical q m (length xs') (xs' ++ ys')
    pub falling : IsFalling q m (length xs') (xs' ++ ys')

  -- the laws put together, where the factors may be reordered and each vector of weight 1 or 2 over them is forbidden
  pub falling_exists : (Forbidden : List ℕ → List ℕ → Type 0) (xs ys : List (List ℕ))
      → IsBlind q (length xs) (length ys) Forbidden → IsScalable q (length xs) (length ys) Forbidden
      → IsReorderable q Forbidden
      → (light : (u : List ℕ) → IsVector q (length xs) u → 0 < weight u → weight u ≤ 2
      → Forbidden u (zeros (length ys)))
      → AreVectors q m xs → AreVectors q m ys → IsAllowed q m Forbidden xs ys
      → (xs' : List (List ℕ)) × (ys' : List (List ℕ)) × IsBest Forbidden xs ys xs' ys'
  falling_exists Forbidden xs ys blind closed free light hx hy ok =
      let s : ℕ = length xs in
      let t : ℕ = length ys in
      let up = raise_rank q m f (min s m) s t Forbidden xs ys blind refl refl hx hy (omega arith) in
      let x1 : List (List ℕ) = up.0 in
      let y1 : List (List ℕ) = up.1 in
      let first : Follows q m Forbidden xs ys x1 y1 = up.2.follows in
      let made =
      to_form q m f (x1 ++ y1) (each-append (λ r. IsVector q m r) x1 y1 first.factor_vectors first.block_vectors) in
      let a : List ℕ → List ℕ = made.0 in
      let x2 : List (List ℕ) = map a x1 in
      let y2 : List (List ℕ) = map a y1 in
      let second : Follows q m Forbidden x1 y1 x2 y2 =
      change_follows q m f Forbidden a made.1.change x1 y1 first.factor_vectors first.block_vectors in
      let formed : IsFormedTo m 0 (x2 ++ y2) made.1.rank =
      rw (map-append a x1 y1) at made.1.formed in
      let cs : List ℕ = map (normal_factor q m f) x2 in
      let ds : List ℕ = map (normal_factor q m f) y2 in
      let x3 : List (List ℕ) = scaled q cs x2 in
      let y3 : List (List ℕ) = scaled q ds y2 in
      let ls : length x2 ≡ s = second.factors ∙ first.factors in
      let lt : length y2 ≡ t = second.blocks ∙ first.blocks in
      let closed' : IsScalable q (length x2) (length y2) Forbidden =
      rw ls (subst (λ k. IsScalable q s k Forbidden) (sym lt) closed) in
      let third : Follows q m Forbidden x2 y2 x3 y3 =
      scale_follows q m f Forbidden cs ds x2 y2 closed' (factors-scalars q m f x2 second.factor_vectors)
      (factors-scalars q m f y2 second.block_vectors)
      (length-map x2 (normal_factor q m f)) (length-map y2 (normal_factor q m f)) second.factor_vectors
      second.block_vectors in
      let formed' : IsFormedTo m 0 (x3 ++ y3) made.1.rank =
      rw (scaled-append q m f x2 y2) at (formed-scaled q m f 0 made.1.rank (x2 ++ y2) formed) in
      let normal =
      each-append_parts (λ v. (v ≡ zeros m) ⊎ IsNormal v) x3 y3
      (rw (scaled-append q m f x2 y2) at (each_normal q m f (x2 ++ y2)
      (each-append (λ r. IsVector q m r) x2 y2 second.factor_vectors second.block_vectors))) in
      let split = formed-append m 0 made.1.rank x2 y2 formed in
      let n : ℕ = split.0 in
      let formed_x : IsFormedTo m 0 x3 n = formed-scaled q m f 0 n x2 split.1 in
      let formed_y : IsFormedTo m n y3 made.1.rank = formed-scaled q m f n made.1.rank y2 split.2 in
      let rank_1 : rank_of q m x2 ≡ rank_of q m x1 = rank-change q m f a made.1.change [] x1 tt first.factor_vectors in
      let rank_2 : rank_of q m x2 + 0 ≡ n =
      rank-formed q m f 0 n [] x2 second.factor_vectors (spans-none q m f) split.1 in
      let enough : min s m ≤ rank_of q m x1 = up.2.rank in
      let room : n ≤ m = formed-room m 0 n x3 formed_x (omega arith) in
      let parts : Parted m 0 n x3 = part m 0 n x3 formed_x in
      let sorted = sort_falling q parts.others in
      let os : List (List ℕ) = reordered sorted.0 parts.others in
      let us : List (List ℕ) = units_from m 0 parts.count in
      let behind = reorder_behind us parts.others sorted.0 in
      let ks : List ℕ = parts.swaps ++ behind.0 in
      let is : reordered ks x3 ≡ us ++ os =
      reordered-append parts.swaps behind.0 x3 ∙ ap (reordered behind.0) parts.is ∙ behind.1 in
      let fourth : Follows q m Forbidden x3 y3 (us ++ os) y3 =
      rw is at (reorder_follows q m f Forbidden ks x3 y3 free third.factor_vectors third.block_vectors) in
      let all : Follows q m Forbidden xs ys (us ++ os) y3 =
      follows-trans q m Forbidden xs ys x1 y1 (us ++ os) y3 first
      (follows-trans q m Forbidden x1 y1 x2 y2 (us ++ os) y3 second
      (follows-trans q m Forbidden x2 y2 x3 y3 (us ++ os) y3 third fourth)) in
      let count_is : parts.count ≡ n = (let e = parts.total in omega arith) in
      let formed_4 : IsFormedTo m 0 (us ++ os) n =
      formed-units m 0 parts.count n os parts.total room
      (each-reordered (λ r. IsShort n r) sorted.0 parts.others parts.short) in
      let normal_4 =
      rw is at (each-reordered (λ v. (v ≡ zeros m) ⊎ IsNormal v) ks x3 normal.0) in
      let rank_4 : rank_of q m (us ++ os) + 0 ≡ n =
      rank-formed q m f 0 n [] (us ++ os) all.factor_vectors (spans-none q m f) formed_4 in
      let len : length (us ++ os) ≡ s = all.factors in
      let rank_is : min (length (us ++ os)) m ≡ parts.count =
      (let e = length-append us os in let e' = length-units m 0 parts.count in omega arith) in
      let word_free : IsWordFree (us ++ os) = λ u hu some few e.
      (all.allowed ok).none u (zeros (length y3)) hu (zeros-vector q (length y3) f)
      (rw all.blocks (light u (subst (λ k. IsVector q k u) len hu) some few))
      (ap₂ (plus q) e (none-combination q m f (length y3) y3 all.block_vectors) ∙ zeros-plus q m f (zeros m)
      (zeros-vector q m f)) in (
        us ++ os,
        y3,
        record {
          follows = all;
          canonical =
              formed-canonical q m f (us ++ os) y3 made.1.rank all.factor_vectors all.block_vectors
              (formed-join m 0 n made.1.rank (us ++ os) y3 formed_4 formed_y)
              (each-append (λ v. (v ≡ zeros m) ⊎ IsNormal v) (us ++ os) y3 normal_4 normal.1) (omega arith);
          falling = falling_rows parts.count (length (us ++ os)) os y3 refl rank_is all.factor_vectors word_free
              sorted.1;
        },
      )
