-- Steps from one matrix to another that keep what is allowed and make no more words.
use Rattle.std.proofs.Common.{ℕ, ◌≡◌, ◌<◌, ◌≤◌, ◌+◌, ◌-◌, min, zero, suc, List, [], ◌∷◌, ◌++◌, map, length, refl, sym}
use Rattle.std.proofs.Common.{subst, ◌∙◌, arith, inl, inr, ◌⊎◌, le_trans}
use Rattle.std.specs.List.{AllByRecursion}
use Rattle.std.proofs.lemmas.List.{length-map, map-append}
use Rattle.std.proofs.lemmas.Bool.{cases_eq, cases_lt, cases_Bool}
use Rattle.fx_base.proofs.Lists.{each-append}
use Rattle.fx_designs.specs.Galois.{inv, IsField}
use Rattle.fx_designs.specs.Vectors.{dot, plus, scale, zeros, IsVector}
use Rattle.fx_laws.specs.Spans.{InSpan}
use Rattle.fx_designs.specs.Spans.{in_span, rank_after, rank_of}
use Rattle.fx_laws.specs.Changes.{IsChange, unit, IsShort, IsFormedTo}
use Rattle.fx_laws.specs.Raises.{RaisesAt, IsAllowed, words, IsBlind}
use Rattle.fx_laws.proofs.Linear.{zero-mul, zero-add-code, dot_code, dot_comm, dot-zeros}
use Rattle.fx_laws.proofs.Space.{zeros-vector, plus-vector, combination-vector, AreVectors}
use Rattle.fx_laws.proofs.Separation.{inv-mul, one-mul, more_span}
use Rattle.fx_laws.proofs.Changes.{unit-vector, change-combination, change_keeps_back, to_form, short_more, unit_short}
use Rattle.fx_laws.proofs.Changes.{dot-scale-right}
use Rattle.fx_laws.proofs.Ranks.{map-vectors, rank-formed, rank-change, spans-none, in_span-true}
use Rattle.fx_laws.proofs.Raises.{ZeroAt, fewer_words, raised_by, raised-length, raised-vectors, rank-raised, words_old}
use Rattle.fx_laws.proofs.Raises.{allowed_by_block, allowed_by_other, none-combination}

-- the second matrix has the shape of the first, is allowed if it is, and has no more words of any weight
pub record Follows (q m : ℕ) (Forbidden : List ℕ → List ℕ → Type 0) (f b f' b' : List (List ℕ)) : Type 0 where
  pub factors : length f' ≡ length f
  pub blocks : length b' ≡ length b
  pub factor_vectors : AreVectors q m f'
  pub block_vectors : AreVectors q m b'
  pub allowed : IsAllowed q m Forbidden f b → IsAllowed q m Forbidden f' b'
  pub fewer : (k : ℕ) → words q m f' k ≤ words q m f k

pub follows-trans : (q m : ℕ) (Forbidden : List ℕ → List ℕ → Type 0) (f b f' b' f2 b2 : List (List ℕ))
    → Follows q m Forbidden f b f' b' → Follows q m Forbidden f' b' f2 b2 → Follows q m Forbidden f b f2 b2
follows-trans q m Forbidden f b f' b' f2 b2 h k = record {
  factors = k.factors ∙ h.factors;
  blocks = k.blocks ∙ h.blocks;
  factor_vectors = k.factor_vectors;
  block_vectors = k.block_vectors;
  allowed = λ a. k.allowed (h.allowed a);
  fewer = λ n. le_trans (k.fewer n) (h.fewer n);
}

pub formed-append : (m k n : ℕ) (xs ys : List (List ℕ)) → IsFormedTo m k (xs ++ ys) n
    → (j : ℕ) × IsFormedTo m k xs j × IsFormedTo m j ys n
formed-append m k n [] ys h = (k, refl, h)
formed-append m k n (x ∷ xs) ys h = elim h [
  | inl s ↦ (let r = formed-append m k n xs ys s.1 in (r.0, inl (s.0, r.1), r.2))
  | inr s ↦ (let r = formed-append m (suc k) n xs ys s.2 in (r.0, inr (s.0, s.1, r.1), r.2))
]

pub formed-up : (m k n : ℕ) (xs : List (List ℕ)) → IsFormedTo m k xs n → k ≤ n
formed-up m k n [] h = omega (arith, h)
formed-up m k n (x ∷ xs) h =
    elim h [ inl s ↦ formed-up m k n xs s.1 | inr s ↦ (let e = formed-up m (suc k) n xs s.2 in omega arith) ]

short-up : (k j : ℕ) (v : List ℕ) → IsShort k v → IsShort (j + k) v
short-up k zero v h = subst (λ n. IsShort n v) (let e : k ≡ 0 + k = omega arith in e) h
short-up k (suc j) v h =
    subst (λ n. IsShort n v) (let e : suc (j + k) ≡ suc j + k = omega arith in e)
    (short_more (j + k) v (short-up k j v h))

pub short-le : (k n : ℕ) (v : List ℕ) → k ≤ n → IsShort k v → IsShort n v
short-le k n v h s = subst (λ x. IsShort x v) (let e : (n - k) + k ≡ n = omega arith in e) (short-up k (n - k) v s)

pub formed-short : (m k n : ℕ) (xs : List (List ℕ)) → IsFormedTo m k xs n → AllByRecursion (λ r. IsShort n r) xs
formed-short m k n [] h = tt
formed-short m k n (x ∷ xs) h = elim h [
  | inl s ↦ (short-le k n x (formed-up m k n xs s.1) s.0, formed-short m k n xs s.1)
  | inr s ↦ (
    subst (IsShort n) (sym s.1)
        (short-le (suc k) n (unit m k) (formed-up m (suc k) n xs s.2) (unit_short m k)),
    formed-short m (suc k) n xs s.2,
  )
]

pub short-unit : (q m k : ℕ) (f : IsField q) (v : List ℕ) → IsVector q m v → IsShort k v → dot q v (unit m k) ≡ 0
short-unit q m zero f [] h s = refl
short-unit q m (suc k) f [] h s = refl
short-unit q zero k f (a ∷ v) h s = absurd (let e = h.len in omega arith)
short-unit q (suc m) zero f (a ∷ v) h s =
    rw (s.0, zero-mul q f 1, dot_comm q f v (zeros m), dot-zeros q f m v)
    (f.add_zero 0 (omega (arith, f.more_than_one)))
short-unit q (suc m) (suc k) f (a ∷ v) h s =
    cc (
      f.mul_zero a,
      zero-add-code q f (dot q v (unit m k)) (dot_code q f v (unit m k)),
      short-unit q m k f v (record { len = (let e = h.len in omega arith); codes = h.codes.1 }) s,
    )

pub unit-unit : (q m k : ℕ) (f : IsField q) → k < m → dot q (unit m k) (unit m k) ≡ 1
unit-unit q zero k f h = absurd (omega arith)
unit-unit q (suc m) zero f h =
    rw (f.mul_one 1 f.more_than_one, dot-zeros q f m (zeros m)) (f.add_zero 1 f.more_than_one)
unit-unit q (suc m) (suc k) f h =
    rw (f.mul_zero 0, unit-unit q m k f (omega arith)) (zero-add-code q f 1 f.more_than_one)

module _ (q m : ℕ) (f : IsField q) where
  each-weaker : (P Q : List ℕ → Type 0) (xs : List (List ℕ)) → ((x : List ℕ) → IsVector q m x → P x → Q x)
      → AreVectors q m xs → AllByRecursion P xs → AllByRecursion Q xs
  each-weaker P Q [] h hx hp = tt
  each-weaker P Q (x ∷ xs) h hx hp = (h x hx.0 hp.0, each-weaker P Q xs h hx.1 hp.1)

  -- a change of the run indexes keeps what is allowed
  pub change_follows : (Forbidden : List ℕ → List ℕ → Type 0) (a : List ℕ → List ℕ) → IsChange q m a
      → (xs ys : List (List ℕ)) → AreVectors q m xs → AreVectors q m ys
      → Follows q m Forbidden xs ys (map a xs) (map a ys)
  change_follows Forbidden a h xs ys hx hy = record {
    factors = length-map xs a;
    blocks = length-map ys a;
    factor_vectors = map-vectors q m f a h xs hx;
    block_vectors = map-vectors q m f a h ys hy;
    allowed = λ ok. record {
      none = λ u b hu hb bad e.
          ok.none u b (rw (length-map xs a) at hu)
          (rw (length-map ys a) at hb) bad
          (h.zero_alone _ (plus-vector q m f _ _ (combination-vector q m f u xs hx) (combination-vector q m f b ys hy))
          (cc (
            h.sums _ _ (combination-vector q m f u xs hx) (combination-vector q m f b ys hy),
            change-combination q m f a h u xs hx,
            change-combination q m f a h b ys hy,
            e,
          )));
    };
    fewer = λ k. fewer_words q m f xs (map a xs) k hx (map-vectors q m f a h xs hx) (length-map xs a)
        (λ u hu e. change_keeps_back q m f a h u xs hx e);
  }

  -- a row that the rows before it span, with w added
  pub raise_some : (w : List ℕ) (bs xs : List (List ℕ)) → AreVectors q m bs → AreVectors q m xs
      → rank_after q m bs xs < length xs → (ys : List (List ℕ)) × RaisesAt q m w bs xs ys
  raise_some w bs [] hb hx h = absurd (omega arith)
  raise_some w bs (x ∷ xs) hb hx h =
      elim (cases_Bool (in_span q m bs x)) [
        | inl e ↦ (plus q x w ∷ xs, inr (in_span-true q m f bs x hb hx.0 e, refl, refl))
        | inr e ↦
            let fewer : rank_after q m (bs ++ x ∷ []) xs < length xs = (let h' = rw e at h in omega arith) in
            let rest =
            raise_some w (bs ++ x ∷ []) xs (each-append (λ r. IsVector q m r) bs (x ∷ []) hb (hx.0, tt)) hx.1 fewer
            in
            (x ∷ rest.0, inl (refl, rest.1))
      ]

  pub span-head : (y : List ℕ) (ys : List (List ℕ)) → IsVector q m y → AreVectors q m ys → InSpan q m (y ∷ ys) y
  span-head y ys hy h = more_span q m f y ys y 1 f.more_than_one hy h hy (zeros m)
      (λ p. cc (
        one-mul q f (dot q y p) (dot_code q f y p),
        dot-zeros q f m p,
        f.add_zero (dot q y p) (dot_code q f y p),
      ))
      (record {
        by = zeros (length ys);
        vector = zeros-vector q (length ys) f;
        gives = none-combination q m f (length ys) ys h;
      })

  pub span-tail : (y : List ℕ) (ys : List (List ℕ)) (w : List ℕ) → IsVector q m y → AreVectors q m ys → IsVector q m w
      → InSpan q m ys w → InSpan q m (y ∷ ys) w
  span-tail y ys w hy h hw i = more_span q m f y ys w 0 (omega (arith, f.more_than_one)) hy h hw w
      (λ p. rw (zero-mul q f (dot q y p)) (zero-add-code q f (dot q w p) (dot_code q f w p))) i

  -- the first block row that is not 0 at p
  pub some_block : (p : List ℕ) (ys : List (List ℕ)) → AreVectors q m ys
      → ZeroAt q m f p ys ⊎ ((w : List ℕ) × IsVector q m w × InSpan q m ys w × (dot q w p ≡ 0 → ⊥))
  some_block p [] h = inl tt
  some_block p (y ∷ ys) h =
      elim (cases_eq (dot q y p) 0) [
        | inl e ↦ elim (some_block p ys h.1) [
          | inl z ↦ inl (e, z)
          | inr s ↦ inr (s.0, s.1, span-tail y ys s.0 h.0 h.1 s.1 s.2, s.3)
        ]
        | inr ne ↦ inr (y, h.0, span-head y ys h.0 h.1, ne)
      ]

  pub follows-same : (Forbidden : List ℕ → List ℕ → Type 0) (xs ys : List (List ℕ)) → AreVectors q m xs
      → AreVectors q m ys → Follows q m Forbidden xs ys xs ys
  follows-same Forbidden xs ys hx hy =
      record {
        factors = refl;
        blocks = refl;
        factor_vectors = hx;
        block_vectors = hy;
        allowed = λ a. a;
        fewer = λ k. omega arith;
      }

  -- so does adding w, which is 1 at a point where the factor rows are 0, to a dependent factor row, where the block
  -- rows are 0 at the point or span w
  pub raise_follows : (Forbidden : List ℕ → List ℕ → Type 0) (w p : List ℕ) (xs zs ys : List (List ℕ)) → IsVector q m w
      → dot q w p ≡ 1 → ZeroAt q m f p xs → AreVectors q m xs → AreVectors q m ys → RaisesAt q m w [] xs zs
      → ZeroAt q m f p ys ⊎ (InSpan q m ys w × IsBlind q (length xs) (length ys) Forbidden)
      → Follows q m Forbidden xs ys zs ys
  raise_follows Forbidden w p xs zs ys hw one zx hx hy at case =
      let by = raised_by q m f w [] xs zs at in
      record {
        factors = raised-length q m f w xs zs by;
        blocks = refl;
        factor_vectors = raised-vectors q m f w hw xs zs by hx;
        block_vectors = hy;
        allowed = λ ok. elim case [
          | inl zy ↦ allowed_by_other q m f w hw p one xs zs ys by hx zx Forbidden zy ok
          | inr s ↦ allowed_by_block q m f w hw p one xs zs ys by hx zx Forbidden s.1 hy s.0 ok
        ];
        fewer = λ k. fewer_words q m f xs zs k hx (raised-vectors q m f w hw xs zs by hx)
            (raised-length q m f w xs zs by) (words_old q m f w hw p one xs zs ys by hx zx);
      }

  pub record Raised (s t : ℕ) (Forbidden : List ℕ → List ℕ → Type 0) (xs ys xs' ys' : List (List ℕ)) : Type 0 where
    pub follows : Follows q m Forbidden xs ys xs' ys'
    pub rank : min s m ≤ rank_of q m xs'

  -- until the factor rows have the rank min(s, m)
  pub raise_rank : (n s t : ℕ) (Forbidden : List ℕ → List ℕ → Type 0) (xs ys : List (List ℕ)) → IsBlind q s t Forbidden
      → length xs ≡ s → length ys ≡ t → AreVectors q m xs → AreVectors q m ys
      → min s m ≤ rank_of q m xs + n
      → (xs' : List (List ℕ)) × (ys' : List (List ℕ)) × Raised s t Forbidden xs ys xs' ys'
  raise_rank zero s t Forbidden xs ys blind ex ey hx hy h =
      (xs, ys, record { follows = follows-same Forbidden xs ys hx hy; rank = omega arith })
  raise_rank (suc n) s t Forbidden xs ys blind ex ey hx hy h =
      elim (cases_lt (rank_of q m xs) (min s m)) [
        | inr enough ↦ (xs, ys, record { follows = follows-same Forbidden xs ys hx hy; rank = enough })
        | inl low ↦
            let made = to_form q m f (xs ++ ys) (each-append (λ r. IsVector q m r) xs ys hx hy) in
            let a : List ℕ → List ℕ = made.0 in
            let x1 : List (List ℕ) = map a xs in
            let y1 : List (List ℕ) = map a ys in
            let first = change_follows Forbidden a made.1.change xs ys hx hy in
            let split =
            formed-append m 0 made.1.rank x1 y1
            (rw (map-append a xs ys) at made.1.formed) in
            let j : ℕ = split.0 in
            let rank_1 : rank_of q m x1 ≡ rank_of q m xs = rank-change q m f a made.1.change [] xs tt hx in
            let rank_j : rank_of q m x1 + 0 ≡ j =
            rank-formed q m f 0 j [] x1 first.factor_vectors (spans-none q m f) split.1 in
            let room : j < m = omega arith in
            let p : List ℕ = unit m j in
            let zx : ZeroAt q m f p x1 =
            each-weaker (λ r. IsShort j r) (λ r. dot q r p ≡ 0) x1 (λ x hv s. short-unit q m j f x hv s)
            first.factor_vectors (formed-short m 0 j x1 split.1) in
            let fewer : rank_of q m x1 < length x1 = (let e = first.factors in omega arith) in
            let go : (w p' : List ℕ) → IsVector q m w → dot q w p' ≡ 1 → ZeroAt q m f p' x1
            → ZeroAt q m f p' y1 ⊎ (InSpan q m y1 w × IsBlind q (length x1) (length y1) Forbidden)
            → (xs' : List (List ℕ)) × (ys' : List (List ℕ)) × Raised s t Forbidden xs ys xs' ys' =
            λ w p' hw one zx' case.
            let next = raise_some w [] x1 tt first.factor_vectors fewer in
            let second =
            raise_follows Forbidden w p' x1 next.0 y1 hw one zx' first.factor_vectors first.block_vectors next.1
            case in
            let up = rank-raised q m f w hw p' one [] x1 next.0 next.1 tt first.factor_vectors tt zx' in
            let rest =
            raise_rank n s t Forbidden next.0 y1 blind (second.factors ∙ first.factors ∙ ex) (first.blocks ∙ ey)
            second.factor_vectors first.block_vectors (omega (arith, up)) in (
              rest.0,
              rest.1,
              record {
                follows = follows-trans q m Forbidden xs ys x1 y1 rest.0 rest.1 first
                    (follows-trans q m Forbidden x1 y1 next.0 y1 rest.0 rest.1 second rest.2.follows);
                rank = rest.2.rank;
              },
            ) in
            elim (some_block p y1 first.block_vectors) [
              | inl zy ↦ go p p (unit-vector q m j f) (unit-unit q m j f room) zx (inl zy)
              | inr o ↦
                  let w : List ℕ = o.0 in
                  let c : ℕ = dot q w p in
                  let some : 0 < c = (let out = o.3 in omega arith) in
                  let p' : List ℕ = scale q (inv q c) p in
                  let one : dot q w p' ≡ 1 =
                  dot-scale-right q f (inv q c) w p ∙ inv-mul q f c some (dot_code q f w p) in
                  let zx' : ZeroAt q m f p' x1 =
                  each-weaker (λ r. dot q r p ≡ 0) (λ r. dot q r p' ≡ 0) x1
                  (λ x hv z. cc (dot-scale-right q f (inv q c) x p, z, f.mul_zero (inv q c)))
                  first.factor_vectors zx in
                  go w p' o.1 one zx'
                  (inr (
                    o.2,
                    rw (first.factors ∙ ex) (subst (λ k. IsBlind q s k Forbidden) (sym (first.blocks ∙ ey)) blind),
                  ))
            ]
      ]
