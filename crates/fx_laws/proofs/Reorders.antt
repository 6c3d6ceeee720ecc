-- Reordering the factors reorders each zero sum.
use Rattle.std.proofs.Common.{ℕ, ◌≡◌, ◌<◌, ◌≤◌, ◌+◌, zero, suc, cond, eqb, ◌&&◌, List, [], ◌∷◌, ◌++◌, map, length, refl}
use Rattle.std.proofs.Common.{sym, subst, ◌∙◌, ap, ap₂, arith, inl, inr}
use Rattle.std.specs.Prelude.{nat_lt}
use Rattle.std.specs.List.{AllByRecursion, sum_by}
use Rattle.std.proofs.lemmas.List.Sums.{sum_by-cons}
use Rattle.std.proofs.lemmas.List.Elements.{recursion_from_All}
use Rattle.std.proofs.lemmas.Bool.{cases_lt}
use Rattle.fx_designs.specs.Galois.{IsField, number, codes_of}
use Rattle.fx_designs.specs.Vectors.{plus, scale, combination, IsVector, weight}
use Rattle.fx_designs.specs.Runs.{points}
use Rattle.fx_laws.specs.Changes.{unit, IsShort, IsFormedTo}
use Rattle.fx_laws.specs.Raises.{words}
use Rattle.fx_laws.specs.Reorders.{swapped, reordered, IsReorderable}
use Rattle.fx_laws.proofs.Sums.{sum_by-ext, sum_by-swap}
use Rattle.fx_laws.proofs.Space.{AreVectors}
use Rattle.fx_laws.proofs.Shift.{all-points, points-sum}
use Rattle.fx_laws.proofs.Ranks.{plus-assoc}
use Rattle.fx_laws.proofs.Raises.{sum_by-each}
use Rattle.fx_laws.proofs.Follows.{Follows, follows-trans, follows-same, formed-up, short-le}

pub length-swapped : {X : Type 0} (k : ℕ) (xs : List X) → length (swapped k xs) ≡ length xs
length-swapped zero [] = refl
length-swapped zero (x ∷ []) = refl
length-swapped zero (x ∷ y ∷ xs) = refl
length-swapped (suc k) [] = refl
length-swapped (suc k) (x ∷ xs) = (let e = length-swapped k xs in omega arith)

pub each-swapped : {X : Type 0} (P : X → Type 0) (k : ℕ) (xs : List X) → AllByRecursion P xs
    → AllByRecursion P (swapped k xs)
each-swapped P zero [] h = h
each-swapped P zero (x ∷ []) h = h
each-swapped P zero (x ∷ y ∷ xs) h = (h.1.0, (h.0, h.1.1))
each-swapped P (suc k) [] h = h
each-swapped P (suc k) (x ∷ xs) h = (h.0, each-swapped P k xs h.1)

pub each-reordered : {X : Type 0} (P : X → Type 0) (ks : List ℕ) (xs : List X) → AllByRecursion P xs
    → AllByRecursion P (reordered ks xs)
each-reordered P [] xs h = h
each-reordered P (k ∷ ks) xs h = each-reordered P ks (swapped k xs) (each-swapped P k xs h)

pub plus-comm : (q : ℕ) (f : IsField q) (v w : List ℕ) → plus q v w ≡ plus q w v
plus-comm q f [] [] = refl
plus-comm q f [] (b ∷ w) = refl
plus-comm q f (a ∷ v) [] = refl
plus-comm q f (a ∷ v) (b ∷ w) = rw (f.add_comm a b, plus-comm q f v w) refl

module _ (q m : ℕ) (f : IsField q) where
  pub swapped-combination : (k : ℕ) (u : List ℕ) (rows : List (List ℕ)) → length u ≡ length rows
      → combination q m u (swapped k rows) ≡ combination q m (swapped k u) rows
  swapped-combination zero [] [] e = refl
  swapped-combination zero (a ∷ []) (x ∷ []) e = refl
  swapped-combination zero (a ∷ b ∷ u) (x ∷ y ∷ rows) e =
      cc (
        plus-assoc q f (scale q a y) (scale q b x) (combination q m u rows),
        plus-comm q f (scale q a y) (scale q b x),
        plus-assoc q f (scale q b x) (scale q a y) (combination q m u rows),
      )
  swapped-combination (suc k) [] [] e = refl
  swapped-combination (suc k) (a ∷ u) (x ∷ rows) e =
      ap (plus q (scale q a x)) (swapped-combination k u rows (omega arith))
  swapped-combination k [] (x ∷ rows) e = absurd (omega arith)
  swapped-combination k (a ∷ u) [] e = absurd (omega arith)
  swapped-combination k (a ∷ []) (x ∷ y ∷ rows) e = absurd (omega arith)
  swapped-combination k (a ∷ b ∷ u) (x ∷ []) e = absurd (omega arith)

  pub swapped-weight : (k : ℕ) (u : List ℕ) → weight (swapped k u) ≡ weight u
  swapped-weight zero [] = refl
  swapped-weight zero (a ∷ []) = refl
  swapped-weight zero (a ∷ b ∷ u) =
      let c : ℕ → ℕ = λ c. cond (nat_lt 0 c) 1 0 in
      let e1 = sum_by-cons c b (a ∷ u) in let e2 = sum_by-cons c a u in let e3 = sum_by-cons c a (b ∷ u) in let e4 =
      sum_by-cons c b u in omega arith
  swapped-weight (suc k) [] = refl
  swapped-weight (suc k) (a ∷ u) =
      let c : ℕ → ℕ = λ c. cond (nat_lt 0 c) 1 0 in
      cc (sum_by-cons c a (swapped k u), swapped-weight k u, sum_by-cons c a u)

  pub points-swapped : (k n : ℕ) (g : List ℕ → ℕ) → sum_by (λ p. g (swapped k p)) (points q n) ≡ sum_by g (points q n)
  points-swapped zero zero g = refl
  points-swapped zero (suc zero) g = points-sum q zero (λ p. g (swapped zero p)) ∙ sym (points-sum q zero g)
  points-swapped zero (suc (suc n)) g =
      cc (
        points-sum q (suc n) (λ p. g (swapped zero p)),
        sum_by-ext _ _ (codes_of q) (λ c. points-sum q n (λ p. g (swapped zero (c ∷ p)))),
        sum_by-swap (λ c d. sum_by (λ p. g (d ∷ c ∷ p)) (points q n)) (codes_of q) (codes_of q),
        sum_by-ext _ _ (codes_of q) (λ d. sym (points-sum q n (λ p. g (d ∷ p)))),
        points-sum q (suc n) g,
      )
  points-swapped (suc k) zero g = refl
  points-swapped (suc k) (suc n) g =
      points-sum q n (λ p. g (swapped (suc k) p))
      ∙ sum_by-ext _ _ (codes_of q) (λ c. points-swapped k n (λ p. g (c ∷ p)))
      ∙ sym (points-sum q n g)

  pub swapped-vector : (n k : ℕ) (u : List ℕ) → IsVector q n u → IsVector q n (swapped k u)
  swapped-vector n k u h = record { len = length-swapped k u ∙ h.len; codes = each-swapped (λ c. c < q) k u h.codes }

  swapped_words : (k : ℕ) (rows : List (List ℕ)) (n : ℕ) → words q m (swapped k rows) n ≡ words q m rows n
  unfolding words
  swapped_words k rows n =
      let some : 0 < q = omega (arith, f.more_than_one) in
      let s : ℕ = length rows in
      let test : List ℕ → List ℕ → ℕ = λ v u. cond (eqb (number q v) 0 && eqb (weight u) n) 1 0 in
      subst (λ s'. sum_by (λ u. test (combination q m u (swapped k rows)) u) (points q s')
      ≡ sum_by (λ u. test (combination q m u rows) u) (points q s)) (sym (length-swapped k rows))
      (sum_by-each (λ u. test (combination q m u (swapped k rows)) u)
      (λ u. test (combination q m (swapped k u) rows) (swapped k u)) (points q s)
      (recursion_from_All _ (points q s)
      (all-points q s some
      (λ u. test (combination q m u (swapped k rows)) u ≡ test (combination q m (swapped k u) rows) (swapped k u))
      (λ u hu. cc (swapped-combination k u rows hu.len, swapped-weight k u))))
      ∙ points-swapped k s (λ u. test (combination q m u rows) u))

  -- a swap of neighbouring factors keeps what is allowed
  pub swap_follows : (Forbidden : List ℕ → List ℕ → Type 0) (k : ℕ) (xs ys : List (List ℕ)) → IsReorderable q Forbidden
      → AreVectors q m xs → AreVectors q m ys → Follows q m Forbidden xs ys (swapped k xs) ys
  swap_follows Forbidden k xs ys closed hx hy = record {
    factors = length-swapped k xs;
    blocks = refl;
    factor_vectors = each-swapped (λ r. IsVector q m r) k xs hx;
    block_vectors = hy;
    allowed = λ ok. record {
      none = λ u b hu' hb bad e.
          let hu : IsVector q (length xs) u = rw (length-swapped k xs) at hu' in
          ok.none (swapped k u) b (swapped-vector (length xs) k u hu) hb (closed u b k bad)
          (cc (swapped-combination k u xs hu.len, e));
    };
    fewer = λ n. (let e = swapped_words k xs n in omega arith);
  }

  pub reorder_follows : (Forbidden : List ℕ → List ℕ → Type 0) (ks : List ℕ) (xs ys : List (List ℕ))
      → IsReorderable q Forbidden → AreVectors q m xs → AreVectors q m ys
      → Follows q m Forbidden xs ys (reordered ks xs) ys
  reorder_follows Forbidden [] xs ys closed hx hy = follows-same q m f Forbidden xs ys hx hy
  reorder_follows Forbidden (k ∷ ks) xs ys closed hx hy =
      let one = swap_follows Forbidden k xs ys closed hx hy in
      follows-trans q m Forbidden xs ys (swapped k xs) ys (reordered (k ∷ ks) xs) ys one
      (reorder_follows Forbidden ks (swapped k xs) ys closed one.factor_vectors hy)

pub reordered-inside : {X : Type 0} (x : X) (ks : List ℕ) (xs : List X)
    → reordered (map (λ k. suc k) ks) (x ∷ xs) ≡ x ∷ reordered ks xs
reordered-inside x [] xs = refl
reordered-inside x (k ∷ ks) xs = reordered-inside x ks (swapped k xs)

pub reordered-append : {X : Type 0} (ks js : List ℕ) (xs : List X)
    → reordered (ks ++ js) xs ≡ reordered js (reordered ks xs)
reordered-append [] js xs = refl
reordered-append (k ∷ ks) js xs = reordered-append ks js (swapped k xs)

-- the first element moved after some others
pub move_back : {X : Type 0} (x : X) (us xs : List X) → (ks : List ℕ) × (reordered ks (x ∷ us ++ xs) ≡ us ++ x ∷ xs)
move_back x [] xs = ([], refl)
move_back x (u ∷ us) xs =
    (let r = move_back x us xs in
    (0 ∷ map (λ k. suc k) r.0, cc (reordered-inside u r.0 (x ∷ us ++ xs), r.1)))

-- a reordering after some elements
pub reorder_behind : {X : Type 0} (us xs : List X) (ks : List ℕ)
    → (js : List ℕ) × (reordered js (us ++ xs) ≡ us ++ reordered ks xs)
reorder_behind [] xs ks = (ks, refl)
reorder_behind (u ∷ us) xs ks =
    (let r = reorder_behind us xs ks in (map (λ k. suc k) r.0, cc (reordered-inside u r.0 (us ++ xs), r.1)))

-- unit vectors in order
abbrev pub units_from : ℕ → ℕ → ℕ → List (List ℕ)
units_from m k zero = []
units_from m k (suc j) = unit m k ∷ units_from m (suc k) j

pub record Parted (m k n : ℕ) (xs : List (List ℕ)) : Type 0 where
  pub swaps : List ℕ
  pub count : ℕ
  pub others : List (List ℕ)
  pub total : k + count ≡ n
  pub short : AllByRecursion (λ r. IsShort n r) others
  pub is : reordered swaps xs ≡ units_from m k count ++ others

-- formed rows with the new ones first
pub part : (m k n : ℕ) (xs : List (List ℕ)) → IsFormedTo m k xs n → Parted m k n xs
part m k n [] h = record { swaps = []; count = 0; others = []; total = omega (arith, h); short = tt; is = refl }
part m k n (r ∷ xs) h = elim h [
  | inl s ↦
      let p = part m k n xs s.1 in
      let back = move_back r (units_from m k p.count) p.others in
      record {
        swaps = map (λ k. suc k) p.swaps ++ back.0;
        count = p.count;
        others = r ∷ p.others;
        total = p.total;
        short = (short-le k n r (formed-up m k n xs s.1) s.0, p.short);
        is = cc (
          reordered-append (map (λ k. suc k) p.swaps) back.0 (r ∷ xs),
          reordered-inside r p.swaps xs,
          p.is,
          back.1,
        );
      }
  | inr s ↦
      let p = part m (suc k) n xs s.2 in
      record {
        swaps = map (λ k. suc k) p.swaps;
        count = suc p.count;
        others = p.others;
        total = (let e = p.total in omega arith);
        short = p.short;
        is = reordered-inside r p.swaps xs ∙ ap₂ (λ a z. a ∷ z) s.1 p.is;
      }
]

-- each row's number is at most those before it
abbrev pub FallsWeakly : ℕ → List (List ℕ) → Type 0
FallsWeakly q [] = Unit {0}
FallsWeakly q (x ∷ xs) = AllByRecursion (λ y. number q y ≤ number q x) xs × FallsWeakly q xs

weaker : (q a b : ℕ) (xs : List (List ℕ)) → a ≤ b → AllByRecursion (λ y. number q y ≤ a) xs
    → AllByRecursion (λ y. number q y ≤ b) xs
weaker q a b [] h all = tt
weaker q a b (x ∷ xs) h all = ((let e = all.0 in omega arith), weaker q a b xs h all.1)

put : (q : ℕ) (r : List ℕ) (xs : List (List ℕ)) → FallsWeakly q xs
    → (ks : List ℕ) × FallsWeakly q (reordered ks (r ∷ xs))
put q r [] h = ([], (tt, tt))
put q r (x ∷ xs) h =
    elim (cases_lt (number q r) (number q x)) [
      | inl low ↦
          let p = put q r xs h.1 in (
            0 ∷ map (λ k. suc k) p.0,
            subst (FallsWeakly q) (sym (reordered-inside x p.0 (r ∷ xs)))
                (each-reordered (λ y. number q y ≤ number q x) p.0 (r ∷ xs) (omega arith, h.0), p.1),
          )
      | inr high ↦ ([], ((high, weaker q (number q x) (number q r) xs high h.0), h))
    ]

-- in falling order
pub sort_falling : (q : ℕ) (xs : List (List ℕ)) → (ks : List ℕ) × FallsWeakly q (reordered ks xs)
sort_falling q [] = ([], tt)
sort_falling q (x ∷ xs) =
    let p = sort_falling q xs in
    let r = put q x (reordered p.0 xs) p.1 in (
      map (λ k. suc k) p.0
          ++ r.0,
      subst (FallsWeakly q)
          (sym (cc (reordered-append (map (λ k. suc k) p.0) r.0 (x ∷ xs), reordered-inside x p.0 xs)))
          r.1,
    )
