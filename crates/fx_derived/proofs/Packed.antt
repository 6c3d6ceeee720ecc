-- Packed texts: they can be read again, and stay what they are when more are added.
use Rattle.std.proofs.Common.{ℕ, ◌≡◌, ◌<◌, ◌≤◌, ◌+◌, ◌*◌, ◌/◌, ◌%◌, zero, suc, inl, inr, List, [], ◌∷◌}
use Rattle.std.proofs.Common.{◌++◌, All, length, map, take}
use Rattle.std.proofs.Common.{drop, get_or, replicate, refl, sym, ◌∙◌, ap, arith, append_assoc}
use Rattle.std.specs.List.{AllByRecursion}
use Rattle.std.proofs.lemmas.Bool.{cases_eq, eq-eqb, ne_eqb}
use Rattle.std.proofs.lemmas.List.{drop_more, length-append, map-append}
use Rattle.std.proofs.lemmas.List.Elements.{All-map}
use Rattle.std.proofs.Math.Seq.{take-append_seam, drop-append_seam}
use Rattle.fx_base.proofs.Lists.{each-append}
use Rattle.fx_derived.specs.Texts.{ArePacked, behind_length, first_length, length_bytes, packed, unpacked}

-- the bytes of a length are read again
count_read : (k r : ℕ) (rest : List ℕ) → r < 255 → first_length ((replicate k 255 ++ r ∷ []) ++ rest) ≡ 255 * k + r
count_read zero r rest low = rw (ne_eqb r 255 (omega arith)) (omega arith)
count_read (suc k) r rest low = omega (arith, count_read k r rest low)

rest_read : (k r : ℕ) (rest : List ℕ) → r < 255 → behind_length ((replicate k 255 ++ r ∷ []) ++ rest) ≡ rest
rest_read zero r rest low = rw (ne_eqb r 255 (omega arith))
rest_read (suc k) r rest low = rest_read k r rest low

pub length_read : (n : ℕ) (rest : List ℕ) → first_length (length_bytes n ++ rest) ≡ n
length_read n rest = count_read (n / 255) (n % 255) rest (omega arith) ∙ omega arith

pub behind_read : (n : ℕ) (rest : List ℕ) → behind_length (length_bytes n ++ rest) ≡ rest
behind_read n rest = rest_read (n / 255) (n % 255) rest (omega arith)

-- a length that is read so far, with the next byte, is no more than there are bytes
behind_short : (bytes : List ℕ) → length (behind_length bytes) ≤ length bytes
behind_short [] = omega arith
behind_short (b ∷ bytes) = elim (cases_eq b 255) [
  | inl e ↦ rw (eq-eqb b 255 e) (omega (arith, behind_short bytes))
  | inr ne ↦ rw (ne_eqb b 255 ne) (omega arith)
]

next_low : (b : ℕ) (bytes : List ℕ) → b ≤ first_length (b ∷ bytes)
next_low b bytes = elim (cases_eq b 255) [
  | inl e ↦ rw (eq-eqb b 255 e) (omega arith)
  | inr ne ↦ rw (ne_eqb b 255 ne) (omega arith)
]

pub sum_fits : (bytes : List ℕ) (i count : ℕ) → first_length bytes ≡ count + first_length (drop i bytes)
    → first_length bytes ≤ length (behind_length bytes) → i < length bytes
    → count + get_or bytes i 0 ≤ length bytes
sum_fits bytes i count so_far fits low =
    let next : get_or bytes i 0 ≤ first_length (drop i bytes) =
    rw (drop_more bytes i 0 low) (next_low (get_or bytes i 0) (drop (i + 1) bytes)) in
    omega (arith, behind_short bytes)

pub length-unpacked : (n : ℕ) (bytes : List ℕ) → length (unpacked n bytes) ≡ n
length-unpacked zero bytes = refl
length-unpacked (suc n) bytes =
    cc (length-unpacked n (drop (first_length bytes) (behind_length bytes)))

pub packed-append : (a b : List (List ℕ)) → packed (a ++ b) ≡ packed a ++ packed b
packed-append [] b = refl
packed-append (t ∷ ts) b =
    let head = length_bytes (length t) in
    cc (packed-append ts b, append_assoc t (packed ts) (packed b), append_assoc head (t ++ packed ts) (packed b))

-- each text takes a byte at least
length_packed : (texts : List (List ℕ)) → length texts ≤ length (packed texts)
length_packed [] = omega arith
length_packed (t ∷ ts) =
    let some = length-append (replicate (length t / 255) 255) (length t % 255 ∷ []) in
    omega (
      arith,
      length_packed ts,
      length-append (length_bytes (length t)) (t ++ packed ts),
      length-append t
          (packed ts),
    )

-- the first text is read, and the others are left
one_read : (n : ℕ) (t more : List ℕ) → unpacked (suc n) (length_bytes (length t) ++ (t ++ more)) ≡ t ∷ unpacked n more
one_read n t more =
    rw (length_read (length t) (t ++ more), behind_read (length t) (t ++ more))
    (cc (take-append_seam t more, drop-append_seam t more))

-- packed texts are read again
pub all_read : (texts : List (List ℕ)) → unpacked (length texts) (packed texts) ≡ texts
all_read [] = refl
all_read (t ∷ ts) = cc (one_read (length ts) t (packed ts), all_read ts)

pub none_packed : ArePacked 0 []
none_packed = record { same = refl }

module _ (n : ℕ) (bytes : List ℕ) (h : ArePacked n bytes) where
  -- with more texts behind them
  pub joined : (texts : List (List ℕ)) → unpacked (n + length texts) (bytes ++ packed texts) ≡ unpacked n bytes ++ texts
  joined texts =
      let before : List (List ℕ) = unpacked n bytes in
      let long : n + length texts ≡ length (before ++ texts) =
      omega (arith, length-append before texts, length-unpacked n bytes) in
      let is =
      ap (λ l. l ++ packed texts) (sym h.same) ∙ sym (packed-append before texts) in
      cc (long, is, all_read (before ++ texts))

  pub are_joined : (texts : List (List ℕ)) → ArePacked (n + length texts) (bytes ++ packed texts)
  are_joined texts = record {
    same = cc (joined texts, packed-append (unpacked n bytes) texts);
  }

  pub count_fits : n ≤ length bytes
  count_fits = omega (arith, length_packed (unpacked n bytes), length-unpacked n bytes, ap length h.same)

-- a row of so many texts as it is packed
pub row_packed : (n : ℕ) (texts : List (List ℕ)) → length texts ≡ n → ArePacked n (packed texts)
row_packed n texts long =
    record { same = cc (all_read texts) }

pub row_read : (n : ℕ) (texts : List (List ℕ)) → length texts ≡ n → unpacked n (packed texts) ≡ texts
row_read n texts long = cc (all_read texts)

-- the rows of a table, each packed
module _ (n : ℕ) (rows : List (List ℕ)) where
  pub rows_wide : All (λ (row : List (List ℕ)). length row ≡ n) (map (unpacked n) rows)
  rows_wide =
      All-map (λ (row : List (List ℕ)). length row ≡ n) _ rows
      (λ k d low. length-unpacked n (get_or rows k d))

  pub rows_more : (row : List (List ℕ)) → length row ≡ n
      → map (unpacked n) (rows ++ packed row ∷ []) ≡ map (unpacked n) rows ++ row ∷ []
  rows_more row wide =
      cc (map-append (unpacked n) rows (packed row ∷ []), row_read n row wide)

  pub are_more : (row : List (List ℕ)) → length row ≡ n → AllByRecursion (ArePacked n) rows
      → AllByRecursion (ArePacked n) (rows ++ packed row ∷ [])
  are_more row wide h = each-append _ rows _ h (row_packed n row wide, tt)

-- the first of some texts, and the others
module _ (n : ℕ) (bytes : List ℕ) (h : ArePacked (suc n) bytes) where
  abbrev text : List ℕ
  text = take (first_length bytes) (behind_length bytes)

  abbrev others : List ℕ
  others = drop (first_length bytes) (behind_length bytes)

  first_is : first_length bytes ≡ length text
  first_is = cc (length_read (length text) (text ++ packed (unpacked n others)))

  behind_is : behind_length bytes ≡ text ++ packed (unpacked n others)
  behind_is = cc (behind_read (length text) (text ++ packed (unpacked n others)))

  pub text_fits : first_length bytes ≤ length (behind_length bytes)
  text_fits = omega (arith, first_is, ap length behind_is, length-append text (packed (unpacked n others)))

  pub others_packed : ArePacked n others
  others_packed =
      record { same = cc (first_is, behind_is, drop-append_seam text (packed (unpacked n others))) }
