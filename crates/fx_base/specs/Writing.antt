-- What a call that writes does to what was written, which an object may expose or not.
use Rattle.std.specs.Prelude.{ℕ, ◌≡◌, ◌++◌, List, take, Option, Some}

-- the bytes were appended
pub record Appends (old new : Option (List ℕ)) (bytes : List ℕ) : Type 0 where
  pub exposed : (text : List ℕ) → old ≡ Some text → new ≡ Some (text ++ bytes)

-- a prefix of the bytes was appended
pub record AppendsPart (old new : Option (List ℕ)) (bytes : List ℕ) : Type 0 where
  pub part : ℕ
  pub appended : Appends old new (take part bytes)

-- a list holds what it held, and after it a prefix of more
pub record HoldsPart {T : Type 0} (old new more : List T) : Type 0 where
  pub part : List T
  pub left : List T
  pub front : part ++ left ≡ more
  pub held : new ≡ old ++ part
