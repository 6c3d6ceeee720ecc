-- Names of files: when two of them are the same, without regard to case.
use Rattle.std.proofs.Common.{ℕ, ◌≡◌, ◌<◌, ◌≤◌, ◌^◌, ◌∙◌, Bool, true, false, List, [], ◌∷◌, ◌++◌, map, refl, sym}
use Rattle.std.proofs.Common.{ap}
use Rattle.std.proofs.Common.{inl, inr, arith}
use Rattle.std.specs.Prelude.{◌==◌, codes, decimal}
use Rattle.std.specs.List.{list_all, list_any}
use Rattle.std.specs.Char.{to_ascii_lowercase}
use Rattle.std.specs.Str.Parse.{AllDigits, digits_value}
use Rattle.std.proofs.Math.Bool.{or-true}
use Rattle.std.proofs.lemmas.Bool.{and_parts, both_ways, eqb-true, false_from_ne_true, lt-ltb}
use Rattle.std.proofs.lemmas.Bool.Decides.{leb_tells}
use Rattle.std.proofs.lemmas.Fmt.{decimal_is_IsNumeral_wide}
use Rattle.std.proofs.lemmas.List.{append_cancel_right, map-append}
use Rattle.std.proofs.lemmas.List.Folds.{list_any-append}
use Rattle.std.proofs.lemmas.Slice.Eq.{bytes_eq-Decides}
use Rattle.std.proofs.lemmas.Str.Parse.{digit_from_value}
use Rattle.std.proofs.lemmas.Str.Ascii.{lowercase-lowercase, lowercase_is}
use Rattle.fx_lexer.specs.Bytes.{is_word_byte}
use Rattle.fx_text.specs.Names.{IsName, is_same_name}
use Rattle.fx_program.specs.Files.{book_name, file_name, fold_name}

abbrev lower : List ℕ → List ℕ
lower bytes = map to_ascii_lowercase bytes

pub same_from : (a b : List ℕ) → lower a ≡ lower b → is_same_name a b ≡ true
same_from a b e = (bytes_eq-Decides (lower a) (lower b)).1 e

pub lower_from : (a b : List ℕ) → is_same_name a b ≡ true → lower a ≡ lower b
lower_from a b e = (bytes_eq-Decides (lower a) (lower b)).0 e

pub differ_from : (a b : List ℕ) → (lower a ≡ lower b → ⊥) → is_same_name a b ≡ false
differ_from a b none = false_from_ne_true _ (λ e. none (lower_from a b e))

-- digits have no case
low_digit : (c : ℕ) → c ≤ 57 → to_ascii_lowercase c ≡ c
low_digit c low = rw (lt-ltb c 65 (omega arith))

low_digits : (ds : List ℕ) → AllDigits 10 ds → lower ds ≡ ds
low_digits [] h = refl
low_digits (c ∷ ds) h =
    cc ((low_digit c (digit_from_value c h.0).1), low_digits ds h.1)

lower_twice : (a : List ℕ) → lower (lower a) ≡ lower a
lower_twice [] = refl
lower_twice (c ∷ a) = rw (lowercase-lowercase c, lower_twice a)

-- plans of different OUT names
pub plans_differ : (a b : List ℕ) → is_same_name a b ≡ false → is_same_name (file_name a) (file_name b) ≡ false
plans_differ a b apart =
    differ_from _ _ (λ e.
    let left : lower (file_name a) ≡ lower a ++ codes ".csv" =
    cc (map-append to_ascii_lowercase (lower a) (codes ".csv"), lower_twice a)
    in
    let right =
    map-append to_ascii_lowercase (lower b) (codes ".csv") ∙ ap (λ (l : List ℕ). l ++ codes ".csv") (lower_twice b)
    in
    both_ways _ apart
    (same_from a b (append_cancel_right (lower a) (lower b) (codes ".csv") (sym left ∙ e ∙ right))))

-- digits before a byte that is none
cut : (ds es rest more : List ℕ) (stop : ℕ) → AllDigits 10 ds → AllDigits 10 es → stop < 48
    → ds ++ stop ∷ rest ≡ es ++ stop ∷ more → (ds ≡ es) × (rest ≡ more)
cut [] [] rest more stop hd he low e = (refl, cc e)
cut [] (c ∷ es) rest more stop hd he low e =
    absurd (let range = digit_from_value c he.0 in let same : stop ≡ c = cc e in omega arith)
cut (c ∷ ds) [] rest more stop hd he low e =
    absurd (let range = digit_from_value c hd.0 in let same : c ≡ stop = cc e in omega arith)
cut (c ∷ ds) (b ∷ es) rest more stop hd he low e =
    let head : c ≡ b = cc e in
    let later = cut ds es rest more stop hd.1 he.1 low (cc e) in
    (cc, later.1)

numeral : (n : ℕ) → n < 10 ^ 64 → AllDigits 10 (decimal n)
numeral n low = (decimal_is_IsNumeral_wide n low).0.1

value : (n : ℕ) → n < 10 ^ 64 → digits_value 10 (decimal n) ≡ n
value n low = (decimal_is_IsNumeral_wide n low).1

same_number : (m n : ℕ) → m < 10 ^ 64 → n < 10 ^ 64 → decimal m ≡ decimal n → m ≡ n
same_number m n hm hn e = cc (value m hm, value n hn)

-- the name of a book has no case
lower_book : (k q : ℕ) → k < 10 ^ 64 → q < 10 ^ 64
    → lower (book_name k q) ≡ codes "step" ++ (decimal k ++ 45 ∷ (decimal q ++ codes ".book"))
lower_book k q hk hq =
    let tail =
    map-append to_ascii_lowercase (decimal q) (codes ".book") ∙ ap (λ l. l ++ codes ".book")
    (low_digits _ (numeral q hq)) in
    cc (map-append to_ascii_lowercase (decimal k) (45 ∷ (decimal q ++ codes ".book")), low_digits _ (numeral k hk))

-- books of different steps, or of different questions
pub books_differ : (k q j r : ℕ) → k < 10 ^ 64 → q < 10 ^ 64 → j < 10 ^ 64 → r < 10 ^ 64 → ((k ≡ j) × (q ≡ r) → ⊥)
    → is_same_name (book_name k q) (book_name j r) ≡ false
books_differ k q j r hk hq hj hr apart =
    differ_from (book_name k q) (book_name j r) (λ e.
    let whole =
    sym (lower_book k q hk hq) ∙ e ∙ lower_book j r hj hr in
    let behind : decimal k ++ 45 ∷ (decimal q ++ codes ".book") ≡ decimal j ++ 45 ∷ (decimal r ++ codes ".book") =
    cc whole in
    let step =
    cut (decimal k) (decimal j) (decimal q ++ codes ".book") (decimal r ++ codes ".book") 45 (numeral k hk)
    (numeral j hj) (omega arith) behind in
    let question =
    cut _ _ _ _ 46 (numeral q hq) (numeral r hr) (omega arith) step.1
    in
    apart (same_number k j hk hj step.0, same_number q r hq hr question.0))

-- the last byte
last : List ℕ → ℕ
last [] = 0
last (c ∷ []) = c
last (c ∷ b ∷ bytes) = last (b ∷ bytes)

last_behind : (xs : List ℕ) (b : ℕ) (ys : List ℕ) → last (xs ++ b ∷ ys) ≡ last (b ∷ ys)
unfolding last
last_behind [] b ys = refl
last_behind (c ∷ []) b ys = refl
last_behind (c ∷ d ∷ xs) b ys = last_behind (d ∷ xs) b ys

-- a book and a plan
pub book_and_plan_differ : (k q : ℕ) (name : List ℕ) → k < 10 ^ 64 → q < 10 ^ 64
    → is_same_name (book_name k q) (file_name name) ≡ false
unfolding last
book_and_plan_differ k q name hk hq =
    differ_from (book_name k q) (file_name name) (λ e.
    let book =
    ap last (lower_book k q hk hq)
    ∙ last_behind (codes "step" ++ decimal k) 45 (decimal q ++ codes ".book")
    ∙ last_behind (45 ∷ decimal q) 46 (codes "book") in
    let plan =
    ap last (map-append to_ascii_lowercase (lower name) (codes ".csv")) ∙ last_behind (lower (lower name)) 46
    (codes "csv") in
    let same = sym book ∙ ap last e ∙ plan in
    omega arith)

-- a hyphen, which is in the name of each fold-over, and in no OUT name

abbrev has_hyphen : List ℕ → Bool
has_hyphen bytes = list_any (λ b. b == 45) bytes

-- a hyphen has no case, and is no byte of a word
hyphen_only : (b : ℕ) → to_ascii_lowercase b ≡ 45 → b ≡ 45
hyphen_only b low = elim (leb_tells 65 b) [
  | inl from ↦ elim (leb_tells b 90) [
    | inl upto ↦ let letter = (lowercase_is b).0 (from.1, upto.1) in absurd (omega arith)
    | inr past ↦ cc ((lowercase_is b).2 past.1)
  ]
  | inr before ↦ cc ((lowercase_is b).1 before.1)
]

no_word_byte : (b : ℕ) → is_word_byte b ≡ true → to_ascii_lowercase b ≡ 45 → ⊥
no_word_byte b h low = let none : false ≡ true = cc (hyphen_only b low) in cc none

hyphen_behind : (xs ys : List ℕ) → has_hyphen (xs ++ 45 ∷ ys) ≡ true
hyphen_behind [] ys = refl
hyphen_behind (x ∷ xs) ys = cc (hyphen_behind xs ys, or-true (x == 45))

word_byte_low : (b : ℕ) → is_word_byte b ≡ true → (to_ascii_lowercase (to_ascii_lowercase b) == 45) ≡ false
word_byte_low b h = by_test _ refl
  where
    by_test : (e : Bool) → (to_ascii_lowercase (to_ascii_lowercase b) == 45) ≡ e → e ≡ false
    by_test false e = refl
    by_test true e =
        absurd (no_word_byte b h (sym (lowercase-lowercase b) ∙ eqb-true _ 45 e))

no_hyphen : (name : List ℕ) → list_all is_word_byte name ≡ true → has_hyphen (lower (lower name)) ≡ false
no_hyphen [] h = refl
no_hyphen (b ∷ name) h =
    let both = and_parts _ _ h in
    rw (word_byte_low b both.0, no_hyphen name both.1)

-- the name of a fold-over has no case
lower_fold : (k : ℕ) → k < 10 ^ 64 → lower (fold_name k) ≡ codes "step" ++ (decimal k ++ codes "-fold.csv")
lower_fold k hk =
    ap (λ l. codes "step" ++ l)
    (map-append to_ascii_lowercase (decimal k) (codes "-fold.csv")
    ∙ ap (λ l. l ++ codes "-fold.csv") (low_digits _ (numeral k hk)))

-- fold-overs of different steps
pub folds_differ : (k j : ℕ) → k < 10 ^ 64 → j < 10 ^ 64 → (k ≡ j → ⊥)
    → is_same_name (fold_name k) (fold_name j) ≡ false
folds_differ k j hk hj apart =
    differ_from (fold_name k) (fold_name j) (λ e.
    let whole =
    sym (lower_fold k hk) ∙ e ∙ lower_fold j hj in
    apart (same_number k j hk hj (append_cancel_right (decimal k) (decimal j) (codes "-fold.csv") (cc whole))))

-- a book and a fold-over
pub book_and_fold_differ : (k q j : ℕ) → k < 10 ^ 64 → q < 10 ^ 64 → j < 10 ^ 64
    → is_same_name (book_name k q) (fold_name j) ≡ false
unfolding last
book_and_fold_differ k q j hk hq hj =
    differ_from (book_name k q) (fold_name j) (λ e.
    let book =
    ap last (lower_book k q hk hq)
    ∙ last_behind (codes "step" ++ decimal k) 45 (decimal q ++ codes ".book")
    ∙ last_behind (45 ∷ decimal q) 46 (codes "book") in
    let fold =
    ap last (lower_fold j hj) ∙ last_behind (codes "step" ++ decimal j) 45 (codes "fold.csv") in
    let same = sym book ∙ ap last e ∙ fold in
    omega arith)

-- a fold-over and a plan
pub fold_and_plan_differ : (k : ℕ) (name : List ℕ) → k < 10 ^ 64 → IsName name
    → is_same_name (fold_name k) (file_name name) ≡ false
fold_and_plan_differ k name hk is =
    differ_from (fold_name k) (file_name name) (λ e.
    let fold =
    ap has_hyphen (lower_fold k hk) ∙ hyphen_behind (codes "step" ++ decimal k) (codes "fold.csv") in
    let plan : has_hyphen (lower (file_name name)) ≡ false =
    cc (
      map-append to_ascii_lowercase (lower name) (codes ".csv"),
      list_any-append (λ b. b == 45) (lower (lower name))
          (codes ".csv"),
      no_hyphen name is.2,
    ) in
    let same = sym fold ∙ ap has_hyphen e ∙ plan in cc same)
