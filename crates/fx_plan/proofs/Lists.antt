-- Steps of loops that map a list.
use Rattle.std.proofs.Common.{ℕ, ◌≡◌, ◌<◌, ◌≤◌, ◌+◌, ◌-◌, Bool, true, false, cond, List, [], ◌∷◌, ◌++◌, length, map}
use Rattle.std.proofs.Common.{filter}
use Rattle.std.proofs.Common.{take, drop, length-drop, get_or, refl, sym, ◌∙◌, ap, arith, append-nil, append_assoc}
use Rattle.std.specs.List.{range_with_len, slice_range}
use Rattle.std.proofs.lemmas.List.{get_or-drop, map-append, take_more}
use Rattle.std.proofs.lemmas.Grind.{flat_map-append}
use Rattle.csv.specs.Writing.{default_writer, row_text}
use Rattle.fx_base.proofs.Ranges.{range_push}
use Rattle.fx_plan.specs.Tables.{text_of}

-- one item more
pub mapped_more : {X Y : Type 0} (f : X → Y) (xs : List X) (i : ℕ) (d : X) → i < length xs
    → map f (take i xs) ++ f (get_or xs i d) ∷ [] ≡ map f (take (i + 1) xs)
mapped_more {X} f xs i d low =
    cc (map-append f (take i xs) (get_or xs i d ∷ []), take_more xs i d low)

pub behind_more : {X Y : Type 0} (before : List Y) (f : X → Y) (xs : List X) (i : ℕ) (d : X) → i < length xs
    → (before ++ map f (take i xs)) ++ f (get_or xs i d) ∷ [] ≡ before ++ map f (take (i + 1) xs)
behind_more {X} {Y} before f xs i d low =
    cc (append_assoc before (map f (take i xs)) (f (get_or xs i d) ∷ []), mapped_more f xs i d low)

filter-append : {X : Type 0} (p : X → Bool) (xs ys : List X) → filter p (xs ++ ys) ≡ filter p xs ++ filter p ys
filter-append p [] ys = refl
filter-append {X} p (x ∷ xs) ys = by_test _ (filter-append p xs ys)
  where
    by_test : (b : Bool) → filter p (xs ++ ys) ≡ filter p xs ++ filter p ys
        → cond b (x ∷ filter p (xs ++ ys)) (filter p (xs ++ ys))
        ≡ cond b (x ∷ filter p xs) (filter p xs) ++ filter p ys
    by_test true rest = cc
    by_test false rest = rest

-- one number more that may pass
pub passing_more : (p : ℕ → Bool) (n : ℕ)
    → filter p (range_with_len 1 (n + 1)) ≡ filter p (range_with_len 1 n) ++ cond (p (n + 1)) ((n + 1) ∷ []) []
passing_more p n =
    cc (range_push 1 n (n + 1) (omega arith), filter-append p (range_with_len 1 n) ((n + 1) ∷ []))

pub from_zero_more : (n : ℕ) → range_with_len 0 n ++ n ∷ [] ≡ range_with_len 0 (n + 1)
from_zero_more n = sym (range_push 0 n n (omega arith))

pub numbers_more : {X : Type 0} (f : ℕ → X) (n : ℕ)
    → map f (range_with_len 0 n) ++ f n ∷ [] ≡ map f (range_with_len 0 (n + 1))
numbers_more f n = cc (map-append f (range_with_len 0 n) (n ∷ []), from_zero_more n)

range_snoc : {X : Type 0} (xs : List X) (a b : ℕ) (d : X) → a ≤ b → b < length xs
    → slice_range xs a (b + 1) ≡ slice_range xs a b ++ get_or xs b d ∷ []
range_snoc {X} xs a b d order low =
    ap (λ n. take n (drop a xs)) (omega arith)
    ∙ take_more (drop a xs) (b - a) d (omega (arith, length-drop a xs))
    ∙ ap (λ x. take (b - a) (drop a xs) ++ x ∷ [])
    (get_or-drop a xs (b - a) d ∙ ap (λ k. get_or xs k d) (omega arith))

-- one line more
pub range_more : (rows : List (List (List ℕ))) (from i : ℕ) → from ≤ i → i < length rows
    → text_of (slice_range rows from i) ++ row_text default_writer (get_or rows i [])
    ≡ text_of (slice_range rows from (i + 1))
range_more rows from i order low =
    let line = row_text default_writer in
    cc (
      append-nil (line (get_or rows i [])),
      flat_map-append line (slice_range rows from i) (get_or rows i [] ∷ []),
      range_snoc rows from i [] order low,
    )
