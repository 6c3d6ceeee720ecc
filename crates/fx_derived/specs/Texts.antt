-- Texts that are packed in one buffer, each behind its length.
use Rattle.std.specs.Prelude.{ℕ, zero, suc, ◌≡◌, ◌+◌, ◌/◌, ◌%◌, ◌==◌, if◌then◌else◌, List, [], ◌∷◌, ◌++◌, length, take}
use Rattle.std.specs.Prelude.{drop, replicate}

-- a length as bytes: a 255 for each 255 in it, and a last byte for the rest
abbrev pub length_bytes : ℕ → List ℕ
length_bytes n = replicate (n / 255) 255 ++ n % 255 ∷ []

-- texts as they are packed
abbrev pub packed : List (List ℕ) → List ℕ
packed [] = []
packed (text ∷ texts) = length_bytes (length text) ++ (text ++ packed texts)

-- the length that bytes begin with
abbrev pub first_length : List ℕ → ℕ
first_length [] = 0
first_length (byte ∷ bytes) = if byte == 255 then 255 + first_length bytes else byte

-- what follows that length
abbrev pub behind_length : List ℕ → List ℕ
behind_length [] = []
behind_length (byte ∷ bytes) = if byte == 255 then behind_length bytes else bytes

-- n texts, of bytes that they are packed in
abbrev pub unpacked : ℕ → List ℕ → List (List ℕ)
unpacked zero bytes = []
unpacked (suc n) bytes =
    take (first_length bytes) (behind_length bytes) ∷ unpacked n (drop (first_length bytes) (behind_length bytes))

-- n texts are packed in the bytes, and nothing else
pub record ArePacked (n : ℕ) (bytes : List ℕ) : Type 0 where
  pub same : packed (unpacked n bytes) ≡ bytes
