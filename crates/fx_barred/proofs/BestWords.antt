-- Best words, as rows come.
use Rattle.std.proofs.Common.{ℕ, ◌≡◌, ◌<◌, ◌≤◌, ◌+◌, ◌*◌, ◌^◌, ◌⊎◌, suc, Bool, true, false, cond, eqb, ◌&&◌, List}
use Rattle.std.proofs.Common.{[], ◌∷◌, ◌++◌, take, set, length, slice_index, slice_index_or, Option, Some, None}
use Rattle.std.proofs.Common.{length-append, take-append-drop, drop-cons, refl, sym, subst, ◌∙◌, ap, arith, inl, inr}
use Rattle.std.specs.Prelude.{nat_lt, nat_le}
use Rattle.std.proofs.Math.Nat.{pow-succ', mul-le-mul_left}
use Rattle.std.proofs.lemmas.List.{get_or-set_other, get_or_push, take-append-le, drop_all}
use Rattle.std.proofs.lemmas.Grind.{get_or-set_at}
use Rattle.std.proofs.lemmas.Bool.{cases_eq, cases_lt, eq-eqb, eqb-true, ltb-true, lt-ltb, leb-true, le-leb, both_ways}
use Rattle.std.proofs.lemmas.Bool.{and_parts, and_from, or_left, or_right, or_cases}
use Rattle.fx_base.proofs.Lists.{each-get_or}
use Rattle.fx_designs.specs.Galois.{number, digits, IsField}
use Rattle.fx_designs.specs.Vectors.{IsVector, weight, scale}
use Rattle.fx_designs.specs.Problems.{Dimensions, Requirement}
use Rattle.fx_laws.proofs.Codes.{digits-vector}
use Rattle.fx_laws.proofs.Reorders.{plus-comm}
use Rattle.fx_laws.proofs.Ranks.{plus-assoc}
use Rattle.fx_laws.proofs.Forms.{scale-one}
use Rattle.fx_demands.proofs.Completing.{weight-cons, weight-append, mark-some}
use Rattle.fx_demands.proofs.EffectVectors.{number-push, push-vector}
use Rattle.fx_demands.proofs.Supports.{take-vector}
use Rattle.fx_points.specs.Sums.{sum_of}
use Rattle.fx_points.proofs.Additions.{sum-digits}
use Rattle.fx_barred.specs.FirstWords.{sum_to}
use Rattle.fx_barred.specs.declared.best_words.Best.{Best}
use Rattle.fx_barred.specs.BestWords.{BringsToZero, IsNoWorseWord, IsBestWord, IsBestOf, IsBest, IsWithin, is_better}
use Rattle.fx_barred.specs.BestWords.{preferred, with_code}
use Rattle.fx_barred.proofs.Firsts.{sum-before, with-none}
use Rattle.fx_barred.proofs.EffectBars.{sum-front}

no-worse-follows : (q : ℕ) (u v w : List ℕ) → IsNoWorseWord q u v → IsNoWorseWord q v w → IsNoWorseWord q u w
no-worse-follows q u v w (inl a) (inl b) = inl (omega arith)
no-worse-follows q u v w (inl a) (inr b) = inl (omega arith)
no-worse-follows q u v w (inr a) (inl b) = inl (omega arith)
no-worse-follows q u v w (inr a) (inr b) = inr (a.0 ∙ b.0, omega arith)

-- the same property
pub best-same : (P R : List ℕ → Type 0) (q : ℕ) (o : Option Best) → ((v : List ℕ) → P v → R v)
    → ((v : List ℕ) → R v → P v) → IsBestOf P q o → IsBestOf R q o
best-same P R q None to from h = λ v r. h v (from v r)
best-same P R q (Some b) to from h =
    record {
      word = h.word;
      holds = to h.word h.holds;
      weighs = h.weighs;
      counts = h.counts;
      none_better = λ v r. h.none_better v (from v r);
    }

-- what a comparison says
better-is : (q : ℕ) (a b : Best) (u v : List ℕ) → weight u ≡ a.weight → number q u ≡ a.number → weight v ≡ b.weight
    → number q v ≡ b.number → is_better a b ≡ true → IsNoWorseWord q v u
better-is q a b u v wu nu wv nv is =
    elim (or_cases (nat_lt b.weight a.weight) ((eqb b.weight a.weight) && nat_le a.number b.number) is) [
      | inl less ↦ let l = ltb-true b.weight a.weight less in inl (omega arith)
      | inr same ↦
          let parts = and_parts (eqb b.weight a.weight) (nat_le a.number b.number) same in
          let w = eqb-true b.weight a.weight parts.0 in
          let n = leb-true a.number b.number parts.1 in
          inr (omega arith, omega arith)
    ]

not-better-is : (q : ℕ) (a b : Best) (u v : List ℕ) → weight u ≡ a.weight → number q u ≡ a.number → weight v ≡ b.weight
    → number q v ≡ b.number → is_better a b ≡ false → IsNoWorseWord q u v
not-better-is q a b u v wu nu wv nv is =
    elim (cases_lt b.weight a.weight) [
      | inl less ↦ absurd (both_ways _ is (or_left _ _ (lt-ltb b.weight a.weight less)))
      | inr le ↦
          elim (cases_eq b.weight a.weight) [
            | inr other ↦ inl (omega arith)
            | inl same ↦
                elim (cases_lt b.number a.number) [
                  | inl more ↦ inr (omega arith, omega arith)
                  | inr less ↦
                      absurd (both_ways _ is
                      (or_right (nat_lt b.weight a.weight) _
                      (and_from _ _ (eq-eqb b.weight a.weight same) (le-leb a.number b.number less))))
                ]
          ]
    ]

-- the better of two
module _ (P S R : List ℕ → Type 0) (q : ℕ) (p : (v : List ℕ) → P v → R v) (s : (v : List ℕ) → S v → R v)
    (r : (v : List ℕ) → R v → P v ⊎ S v) where
  pub preferred-best : (a b : Option Best) → IsBestOf P q a → IsBestOf S q b → IsBestOf R q (preferred a b)
  preferred-best None None ha hb = λ v h. elim (r v h) [ inl x ↦ ha v x | inr y ↦ hb v y ]
  preferred-best None (Some b) ha hb =
      record {
        word = hb.word;
        holds = s hb.word hb.holds;
        weighs = hb.weighs;
        counts = hb.counts;
        none_better = λ v h. elim (r v h) [ inl x ↦ absurd (ha v x) | inr y ↦ hb.none_better v y ];
      }
  preferred-best (Some a) None ha hb =
      record {
        word = ha.word;
        holds = p ha.word ha.holds;
        weighs = ha.weighs;
        counts = ha.counts;
        none_better = λ v h. elim (r v h) [ inl x ↦ ha.none_better v x | inr y ↦ absurd (hb v y) ];
      }
  preferred-best (Some a) (Some b) ha hb = go (is_better a b) refl
    where
      go : (t : Bool) → is_better a b ≡ t → IsBestOf R q (cond t (Some b) (Some a))
      go true is =
          let over = better-is q a b ha.word hb.word ha.weighs ha.counts hb.weighs hb.counts is in
          record {
            word = hb.word;
            holds = s hb.word hb.holds;
            weighs = hb.weighs;
            counts = hb.counts;
            none_better = λ v h. elim (r v h)
                [ inl x ↦ no-worse-follows q hb.word ha.word v over (ha.none_better v x) | inr y ↦ hb.none_better v y ];
          }
      go false is =
          let over = not-better-is q a b ha.word hb.word ha.weighs ha.counts hb.weighs hb.counts is in
          record {
            word = ha.word;
            holds = p ha.word ha.holds;
            weighs = ha.weighs;
            counts = ha.counts;
            none_better = λ v h. elim (r v h)
                [ inl x ↦ ha.none_better v x | inr y ↦ no-worse-follows q ha.word hb.word v over (hb.none_better v y) ];
          }

-- one row more
module _ (d : Dimensions) (f : IsField d.q) (wanted : Requirement) (rows : List ℕ) (r : ℕ) (blocks : d.s ≤ length rows)
    (x : ℕ) where
  abbrev q : ℕ
  q = d.q

  abbrev m : ℕ
  m = d.m

  abbrev n : ℕ
  n = length rows

  abbrev longer : List ℕ
  longer = rows ++ r ∷ []

  some : 0 < q
  some = omega arith

  abbrev vec : ℕ → List ℕ
  vec y = digits q m y

  vec-vector : (y : ℕ) → IsVector q m (vec y)
  vec-vector y = digits-vector q m y some

  long : length longer ≡ n + 1
  long = length-append rows (r ∷ [])

  -- the row can be added to the sum or to the point
  turn : (a c : ℕ) → sum_of q 1 m (sum_of q c m a r) x ≡ sum_of q 1 m a (sum_of q c m x r)
  turn a c =
      let row = scale q c (vec r) in
      let one : (y : ℕ) → scale q 1 (vec y) ≡ vec y = λ y. scale-one q m f _ (vec-vector y) in
      cc (
        sum-digits q m f c a r,
        one x,
        plus-assoc q f (vec a) row (vec x),
        plus-comm q f row (vec x),
        sum-digits q m f
            c x r,
        one (sum_of q c m x r),
      )

  sum-last : (u : List ℕ) (c : ℕ) → length u ≡ n
      → sum_to q m longer (u ++ c ∷ []) (length longer) ≡ sum_of q c m (sum_to q m rows u n) r
  sum-last u c len =
      let up : length longer ≡ suc n = omega (arith, long) in
      let code : slice_index (u ++ c ∷ []) n ≡ c =
      cc (get_or_push u c 0 (length u) refl) in
      cc (
        get_or_push rows r 0 (length rows) refl,
        sum-before q m rows r (u ++ c ∷ []) n (omega arith),
        sum-front q m
            rows u (c ∷ []) n (omega arith),
      )

  extend : (c : ℕ) (u : List ℕ) → c < q → BringsToZero d wanted rows (sum_of q c m x r) u
      → BringsToZero d wanted longer x (u ++ c ∷ [])
  extend c u low h = record {
    vector = rw long (push-vector q n u c h.vector low);
    factors = cc (take-append-le d.s u (c ∷ []) (omega arith));
    sum = cc (sum-last u c h.vector.len, turn (sum_to q m rows u n) c);
  }

  record Parts (v : List ℕ) (c : ℕ) : Type 0 where
    pub front : List ℕ
    pub whole : v ≡ front ++ c ∷ []
    pub brings : BringsToZero d wanted rows (sum_of q c m x r) front

  parted : (v : List ℕ) → BringsToZero d wanted longer x v → Parts v (slice_index v n)
  parted v h =
      let c = slice_index v n in
      let u = take n v in
      let len : length v ≡ suc n = omega (arith, long) in
      let rest = drop_all (suc n) v (omega arith) in
      let whole : v ≡ u ++ c ∷ [] =
      cc (take-append-drop n v, drop-cons v n 0 (omega arith)) in
      let vector = take-vector q _ n 1 v h.vector long in
      record {
        front = u;
        whole = whole;
        brings = record {
          vector = vector;
          factors = cc (take-append-le d.s u (c ∷ []) (omega arith));
          sum = cc (turn (sum_to q m rows u n) c, sum-last u c vector.len);
        };
      }

  -- those whose code for the new row is below a bound, or is a code
  abbrev pub Below : ℕ → List ℕ → Type 0
  Below b v = BringsToZero d wanted longer x v × (slice_index v n < b)

  abbrev At : ℕ → List ℕ → Type 0
  At c v = BringsToZero d wanted longer x v × (slice_index v n ≡ c)

  -- the best word with a code
  module _ (c : ℕ) (code : c < q) (a : ℕ) (heavier : (u : List ℕ) → weight (u ++ c ∷ []) ≡ weight u + a)
      (b other : Best) (weighs : other.weight ≡ b.weight + a) (counts : other.number ≡ b.number + c * q ^ n) where
    more : (u : List ℕ) → length u ≡ n → number q (u ++ c ∷ []) ≡ number q u + c * q ^ n
    more u e = cc (number-push q u c)

    raised : (u v : List ℕ) → length u ≡ n → length v ≡ n → IsNoWorseWord q u v
        → IsNoWorseWord q (u ++ c ∷ []) (v ++ c ∷ [])
    raised u v ul vl (inl less) = inl (omega (arith, heavier u, heavier v))
    raised u v ul vl (inr same) =
        inr (omega (arith, heavier u, heavier v), omega (arith, more u ul, more v vl))

    best-at : IsBestWord (BringsToZero d wanted rows (sum_of q c m x r)) q b → IsBestWord (At c) q other
    best-at h =
        let len = h.holds.vector.len in
        record {
          word = h.word ++ c ∷ [];
          holds = (
            extend c h.word code h.holds,
            cc (get_or_push h.word c 0
                (length h.word) refl),
          );
          weighs = omega (arith, heavier h.word);
          counts = omega (arith, more h.word len);
          none_better = λ v hv.
              (let parts = parted v hv.0 in
              let u = parts.front in
              let brings =
              rw hv.1 at parts.brings in
              let whole : v ≡ u ++ c ∷ [] = cc in
              rw whole (raised h.word u len brings.vector.len (h.none_better u brings)));
        }

  none-at : (c : ℕ) → ((u : List ℕ) → BringsToZero d wanted rows (sum_of q c m x r) u → ⊥) → (v : List ℕ) → At c v → ⊥
  none-at c h v hv = let parts = parted v hv.0 in
      h parts.front (rw hv.1 at parts.brings)

  at-code : (c : ℕ) (o : Option Best) → 0 < c → c < q → IsBest d wanted rows (sum_of q c m x r) o
      → IsBestOf (At c) q (with_code o (c * q ^ n))
  at-code c None positive low h = none-at c h
  at-code c (Some b) positive low h =
      best-at c low 1
      (λ u. (let parts = weight-append u (c ∷ []) in let one = weight-cons c [] in let mark = mark-some c positive in
      omega arith)) b (record { weight = b.weight + 1; number = b.number + c * q ^ n }) refl refl h

  at-zero : (o : Option Best) → IsBest d wanted rows (sum_of q 0 m x r) o → IsBestOf (At 0) q o
  at-zero None h = none-at 0 h
  at-zero (Some b) h =
      best-at 0 some 0 (λ u. (let parts = weight-append u (0 ∷ []) in omega arith)) b b (omega arith) (omega arith) h

  pub best-first : (o : Option Best) → x < q ^ m → IsBest d wanted rows x o → IsBestOf (Below 1) q o
  best-first o low h =
      let none : sum_of q 0 m x r ≡ x =
      cc (get_or_push rows r 0 (length rows) refl, with-none q m f longer n x low)
      in
      best-same (At 0) (Below 1) q o (λ v hv. (hv.0, omega arith)) (λ v hv. (hv.0, omega arith))
      (at-zero o (rw (← none) at h))

  pub best-next : (c : ℕ) (found o : Option Best) → 0 < c → c < q → IsBestOf (Below c) q found
      → IsBest d wanted rows (sum_of q c m x r) o
      → IsBestOf (Below (c + 1)) q (preferred found (with_code o (c * q ^ n)))
  best-next c found o positive low so-far h =
      preferred-best (Below c) (At c) (Below (c + 1)) q (λ v hv. (hv.0, omega arith))
      (λ v hv. (hv.0, omega arith))
      (λ v hv. elim (cases_eq (slice_index v n) c)
      [ inl here ↦ inr (hv.0, here) | inr other ↦ inl (hv.0, omega arith) ])
      found (with_code o (c * q ^ n)) so-far (at-code c o positive low h)

  pub best-last : (found : Option Best) → IsBestOf (Below q) q found → IsBest d wanted longer x found
  best-last found h =
      best-same (Below q) (BringsToZero d wanted longer x) q found (λ v hv. hv.0)
      (λ v hv. (hv, each-get_or _ v n 0 hv.vector.codes (omega (arith, long)))) h

-- bounds
pub within-more : (q n : ℕ) (o : Option Best) → 0 < q → IsWithin q n o → IsWithin q (n + 1) o
within-more q n None some h = tt
within-more q n (Some b) some h =
    let up : n + 1 ≡ suc n = omega arith in
    let wide = ap (λ k. q ^ k) up ∙ pow-succ' q n in
    let more = mul-le-mul_left (q ^ n) some in
    (omega arith, omega arith)

pub preferred-within : (q n : ℕ) (a b : Option Best) → IsWithin q n a → IsWithin q n b → IsWithin q n (preferred a b)
preferred-within q n None b ha hb = hb
preferred-within q n (Some a) None ha hb = ha
preferred-within q n (Some a) (Some b) ha hb = go (is_better a b)
  where
    go : (t : Bool) → IsWithin q n (cond t (Some b) (Some a))
    go true = hb
    go false = ha

-- a table that is filled place by place
pub made-next : (P : ℕ → Option Best → Type 0) (tables : List (Option Best)) (first x place : ℕ) (v : Option Best)
    → place ≡ first + x → place < length tables → P x v
    → ((y : ℕ) → y < x → P y (slice_index_or tables (first + y) None)) → (y : ℕ) → y < x + 1
    → P y (slice_index_or (set tables place v) (first + y) None)
made-next P tables first x place v at there here before y low =
    elim (cases_eq y x) [
      | inl last ↦
          subst (P y) (sym (get_or-set_at tables place (first + y) v None (omega arith) there))
          (rw (← last) at here)
      | inr less ↦
          subst (P y)
          (sym (get_or-set_other tables place (first + y) v None (λ e. less (omega arith))))
          (before y (omega arith))
    ]
