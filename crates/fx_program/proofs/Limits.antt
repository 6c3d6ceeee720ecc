-- Texts that are longer than is read.
use Rattle.std.proofs.Common.{ℕ, ◌≡◌, ◌<◌, ◌+◌, List, length, Option, Some, None, Err, refl, sym, ap, subst, arith}
use Rattle.std.specs.Prelude.{replicate, unwrap_or}
use Rattle.std.proofs.lemmas.Bool.{lt-ltb}
use Rattle.std.proofs.lemmas.List.{length-replicate}
use Rattle.fx_base.specs.Reading.{IsOverLimit}
use Rattle.fx_book.specs.Heads.{book_of}
use Rattle.fx_table_book.specs.Texts as tables
use Rattle.fx_book.specs.declared.fault.FaultKind.TheVariants.{TooLong}

module _ (limit : ℕ) where
  -- a text above the limit: the one that is exposed, or else some one
  pub over_limit : Option (List ℕ) → List ℕ
  over_limit left = unwrap_or left (replicate (limit + 1) 0)

  pub is_over_limit : (left : Option (List ℕ)) → IsOverLimit left limit → limit < length (over_limit left)
  unfolding over_limit
  is_over_limit None over = subst (λ (n : ℕ). limit < n) (sym (length-replicate {A = ℕ} (limit + 1) 0)) (omega arith)
  is_over_limit (Some text) over = over.exposed text refl

  pub same_over_limit : (left : Option (List ℕ)) (known : List ℕ) → left ≡ Some known → known ≡ over_limit left
  unfolding over_limit
  same_over_limit left known e = sym (ap (λ (o : Option (List ℕ)). unwrap_or o (replicate (limit + 1) 0)) e)

-- no book
pub long_book : (text : List ℕ) → 268435456 < length text → book_of text ≡ Err (record { kind = TooLong; line = 1 })
unfolding book_of
long_book text long = rw (lt-ltb 268435456 (length text) long) refl

-- nor one of a table
pub long_table : (text : List ℕ) → 33554432 < length text
    → tables.book_of text ≡ Err (record { kind = TooLong; line = 1 })
unfolding tables.book_of
long_table text long = rw (lt-ltb 33554432 (length text) long) refl
