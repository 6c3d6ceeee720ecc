-- What counts up to 2 tell of sums.
use Rattle.std.proofs.Common.{ℕ, ◌≡◌, ◌<◌, ◌≤◌, ◌+◌, ◌-◌, ◌*◌, ◌^◌, zero, suc, Bool, true, false, not, cond, eqb, ◌&&◌}
use Rattle.std.proofs.Common.{List, [], ◌∷◌, ◌++◌, length, refl, sym, ◌∙◌, ap, ap₂, arith, inl, inr, eq-eqb}
use Rattle.std.specs.Prelude.{min, nat_lt, count_by}
use Rattle.std.specs.List.{range_with_len, filter}
use Rattle.std.proofs.lemmas.Bool.{cases_lt, ne_eqb, lt-ltb, false_from_ne_true, ltb-true, and_right}
use Rattle.std.proofs.lemmas.List.Sums.{sum_by-cons}
use Rattle.fx_designs.specs.Galois.{IsField, digits, number}
use Rattle.fx_designs.specs.Answers.{falling}
use Rattle.fx_laws.proofs.Codes.{number-digits}
use Rattle.fx_designs.specs.Vectors.{vectors_of}
use Rattle.fx_words.specs.Spreads.{spread, so_far}
use Rattle.fx_words.specs.Tables.{difference}
use Rattle.fx_words.proofs.Levels.{so_far-more, spread-none}
use Rattle.fx_strata.specs.Designs.{Strata}
use Rattle.fx_strata.specs.Clear.{is_live, is_clear_sum}
use Rattle.fx_strata.specs.Spreads.{sums_at}
use Rattle.fx_strata.specs.Floors.{new_words}
use Rattle.fx_strata.proofs.First.{live_by_tallies}
use Rattle.fx_strata.proofs.Spreads.{new_words_by_spreads}
use Rattle.fx_words.proofs.Starts.{spread-start}

pub few-same : (n : ℕ) → n < 2 → min 2 n ≡ n
few-same n low = omega arith

pub many-two : (n : ℕ) → 2 ≤ n → min 2 n ≡ 2
many-two n high = omega arith

zero-same : (n : ℕ) → eqb (min 2 n) 0 ≡ eqb n 0
zero-same n = elim (cases_lt n 2) [
  | inl l ↦ cc (few-same n l)
  | inr g ↦ cc (many-two n (omega arith), ne_eqb n 0 (λ e. omega arith))
]

one-same : (n : ℕ) → eqb (min 2 n) 1 ≡ eqb n 1
one-same n = elim (cases_lt n 2) [
  | inl l ↦ cc (few-same n l)
  | inr g ↦ cc (many-two n (omega arith), ne_eqb n 1 (λ e. omega arith))
]

two-same : (n : ℕ) → nat_lt (min 2 n) 2 ≡ nat_lt n 2
two-same n = elim (cases_lt n 2) [
  | inl l ↦ cc (few-same n l)
  | inr g ↦ cc (many-two n (omega arith), false_from_ne_true (nat_lt n 2) (λ t. omega (arith, ltb-true n 2 t)))
]

-- the sum of counts up to 2, up to 2
pub min-sum : (a b : ℕ) → min 2 (min 2 a + min 2 b) ≡ min 2 (a + b)
min-sum a b = omega arith

module _ (x : Strata) (f : IsField x.q) (room : x.h ≤ x.m) (rows : List ℕ) (r a b : ℕ) (top : r < x.q ^ x.m)
    (one : a ≡ min 2 (sums_at x rows 1 r)) (two : b ≡ min 2 (sums_at x rows 2 r)) where
  abbrev one-less : Bool
  one-less = eqb (sums_at x rows 1 r) 0

  abbrev two-less : Bool
  two-less = nat_lt (sums_at x rows 2 r) 2

  told : is_live x rows (digits x.q x.m r) ≡ (not (nat_lt r (x.q ^ x.h)) && (one-less && two-less))
  told = live_by_tallies x f rows r room top

  pub inside-dead : r < x.q ^ x.h → false ≡ is_live x rows (digits x.q x.m r)
  inside-dead low = cc (told, lt-ltb r _ low)

  outside : x.q ^ x.h ≤ r → nat_lt r (x.q ^ x.h) ≡ false
  outside high =
      false_from_ne_true _ (λ t. omega (arith, ltb-true r _ t))

  pub multiple-dead : x.q ^ x.h ≤ r → (a ≡ 0 → ⊥) → false ≡ is_live x rows (digits x.q x.m r)
  multiple-dead high some =
      cc (told, outside high, zero-same (sums_at x rows 1 r), ne_eqb a 0 some)

  pub others-live : x.q ^ x.h ≤ r → a ≡ 0 → nat_lt b 2 ≡ is_live x rows (digits x.q x.m r)
  others-live high none =
      cc (two-same (sums_at x rows 2 r), told, outside high, zero-same (sums_at x rows 1 r), eq-eqb a 0 none)

  like : number x.q (digits x.q x.m r) ≡ r
  like = number-digits x.q x.m r (omega arith) top

  pub live-clear : is_live x rows (digits x.q x.m r) ≡ true → eqb b 1 ≡ is_clear_sum x rows (digits x.q x.m r)
  live-clear live =
      cc (one-same (sums_at x rows 2 r), like)

-- a row makes a constant word of three factors where a word of two has it as its sum
pub makes-three : (x : Strata) (f : IsField x.q) → x.h ≤ x.m → (rows : List ℕ) (r : ℕ) → r < x.q ^ x.m
    → x.w ≤ length rows
    → nat_lt 0 (new_words x rows r false 3) ≡ nat_lt 0 (sums_at x rows 2 r)
makes-three x f room rows r top long =
    let new =
    (new_words_by_spreads x f rows r 3 room long top (omega arith)).constant in
    cc (times (x.q - 1) (sums_at x rows 2 r) (omega arith))
  where
    times : (c n : ℕ) → 0 < c → nat_lt 0 (c * n) ≡ nat_lt 0 n
    times c zero pos = ap (nat_lt 0) (let e : c * 0 ≡ 0 = omega arith in e)
    times c (suc n) pos =
        let more : c * suc n ≡ c * n + c = grind arith in
        cc (lt-ltb 0 (c * suc n) (omega arith), lt-ltb 0 (suc n) (omega arith))

pub none-start : (q m x : ℕ) → (x ≡ 0 → ⊥) → 0 ≡ min 2 (spread q m [] 0 x)
none-start q m x some =
    cc (spread-start q m 0 x, ne_eqb 0 x (λ e. some (sym e)))

pub zero-start : (q m : ℕ) → 1 ≡ min 2 (spread q m [] 0 0)
zero-start q m = cc (spread-start q m 0 0)

pub heavy-start : (q m k x : ℕ) → 0 ≡ min 2 (spread q m [] (suc k) x)
heavy-start q m k x =
    cc (spread-start q m (suc k) x, and_right (eqb 0 x) _ (ne_eqb 0 (suc k) (λ e. omega arith)))

-- the word of no factor is the same over each rows
pub none-more : (q m : ℕ) → IsField q → (rows : List ℕ) (r n x : ℕ) → x < q ^ m
    → n ≡ min 2 (spread q m (vectors_of q m rows) 0 x) → n ≡ min 2 (spread q m (vectors_of q m (rows ++ r ∷ [])) 0 x)
none-more q m f rows r n x low is = cc (spread-none q m f rows r 0 x refl low)

-- what the entry c for a row adds to a count
pub moved-count : (q m : ℕ) (rows : List ℕ) (r k c y n l : ℕ) → 0 < c
    → n ≡ min 2 (so_far q m rows r (k + 1) y c)
    → l ≡ min 2 (spread q m (vectors_of q m rows) k (difference q m y c r))
    → min 2 (n + l) ≡ min 2 (so_far q m rows r (k + 1) y (c + 1))
moved-count q m rows r k c y n l pos before light =
    let more = so_far-more q m rows r (k + 1) y c (omega arith) pos in
    let less : spread q m (vectors_of q m rows) (k + 1 - 1) (difference q m y c r)
    ≡ spread q m (vectors_of q m rows) k (difference q m y c r) =
    ap (λ j. spread q m (vectors_of q m rows) j (difference q m y c r)) (let e : k + 1 - 1 ≡ k = omega arith in e) in
    ap₂ (λ a b. min 2 (a + b)) before light
    ∙ min-sum (so_far q m rows r (k + 1) y c) (spread q m (vectors_of q m rows) k (difference q m y c r))
    ∙ ap (min 2) (let e : so_far q m rows r (k + 1) y c + spread q m (vectors_of q m rows) k (difference q m y c r)
    ≡ so_far q m rows r (k + 1) y (c + 1) = omega arith in e)

-- counts over one number more
pub count-next : (p : ℕ → Bool) (a n : ℕ)
    → count_by p (range_with_len a (suc n)) ≡ count_by p (range_with_len a n) + cond {A = ℕ} (p (a + n)) 1 0
count-next p a zero =
    let g : ℕ → ℕ = λ r. cond {A = ℕ} (p r) 1 0 in
    sum_by-cons g a [] ∙ (let e : g (a + 0) ≡ g a = ap g (omega arith) in omega arith)
count-next p a (suc n) =
    let g : ℕ → ℕ = λ r. cond {A = ℕ} (p r) 1 0 in
    let one = sum_by-cons g a (range_with_len (a + 1) (suc n)) in
    let two = sum_by-cons g a (range_with_len (a + 1) n) in
    let rest = count-next p (a + 1) n in
    let last : g (a + 1 + n) ≡ g (a + suc n) = ap g (omega arith) in
    omega arith

pub count-true : (p : ℕ → Bool) (n c : ℕ) → c ≡ count_by p (range_with_len 0 n) → p n ≡ true
    → c + 1 ≡ count_by p (range_with_len 0 (n + 1))
count-true p n c is t =
    let next = count-next p 0 n in
    let here : p (0 + n) ≡ p n = ap p (omega arith) in
    let one : cond {A = ℕ} (p (0 + n)) 1 0 ≡ 1 = cc in
    let more : c + 1 ≡ count_by p (range_with_len 0 (suc n)) = omega arith in
    more ∙ ap (λ k. count_by p (range_with_len 0 k)) (let e : suc n ≡ n + 1 = omega arith in e)

pub count-false : (p : ℕ → Bool) (n c : ℕ) → c ≡ count_by p (range_with_len 0 n) → p n ≡ false
    → c ≡ count_by p (range_with_len 0 (n + 1))
count-false p n c is o =
    let next = count-next p 0 n in
    let here : p (0 + n) ≡ p n = ap p (omega arith) in
    let none : cond {A = ℕ} (p (0 + n)) 1 0 ≡ 0 = cc in
    let same : c ≡ count_by p (range_with_len 0 (suc n)) = omega arith in
    same ∙ ap (λ k. count_by p (range_with_len 0 k)) (let e : suc n ≡ n + 1 = omega arith in e)

-- of the rows that pass one test those that pass another
module _ (later spare : ℕ → Bool) (n : ℕ) where
  abbrev counted : ℕ → ℕ
  counted k = count_by spare (filter later (falling k))

  later-more : later n ≡ true → counted (suc n) ≡ cond {A = ℕ} (spare n) 1 0 + counted n
  later-more t =
      cc (sum_by-cons (λ r. cond {A = ℕ} (spare r) 1 0) n (filter later (falling n)))

  pub later-spare : later n ≡ true → spare n ≡ true → counted (suc n) ≡ 1 + counted n
  later-spare t s = cc (later-more t)

  pub later-taking : later n ≡ true → spare n ≡ false → counted (suc n) ≡ counted n
  later-taking t s = later-more t ∙ ap (λ b. cond {A = ℕ} b 1 0 + counted n) s ∙ (omega arith)
