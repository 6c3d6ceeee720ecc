-- A word among the rows of a table.
use Rattle.std.proofs.Common.{◌≡◌, ℕ, List, map, refl, Bool, true, false, [], ◌∷◌, drop, get_or, length, ◌<◌, ◌+◌, sym}
use Rattle.std.proofs.lemmas.Bool.{eqb-true, eq-eqb, and_parts}
use Rattle.std.specs.Char.{to_ascii_lowercase}
use Rattle.std.proofs.Math.Seq.{drop-cons}
use Rattle.std.proofs.Math.Numerals.{add-one}
use Rattle.fx_language.specs.declared.keyword.Spelling.{Spelling}
use Rattle.fx_language.specs.declared.symbol.Symbol.TheVariants.{Proc}
use Rattle.fx_language.specs.Keywords.{is_same, listed_in}
use Rattle.fx_language.specs.Spellings.{spelling_row}

-- what a list gives after its end
abbrev pub any : Spelling
any = record { letters = record { ref_ptr = (0, 0); now = [] }; symbol = Proc }

same_is : (x y : List ℕ) → is_same x y ≡ true → x ≡ y
same_is [] [] h = refl
same_is [] (b ∷ y) h = absurd (let f = h in cc)
same_is (a ∷ x) [] h = absurd (let f = h in cc)
same_is (a ∷ x) (b ∷ y) h =
    let p = and_parts _ _ h in
    cc (eqb-true a b p.0, same_is x y p.1)

same_self : (x : List ℕ) → is_same x x ≡ true
same_self [] = refl
same_self (a ∷ x) = rw (eq-eqb a a refl, same_self x)

not_same : (x y : List ℕ) → (x ≡ y → ⊥) → is_same x y ≡ false
not_same x y h = go (is_same x y) refl
  where
    go : (b : Bool) → is_same x y ≡ b → is_same x y ≡ false
    go true e = absurd (h (same_is x y e))
    go false e = e

module _ (rows : List Spelling) (i : ℕ) (d : Spelling) (h : i < length rows) (word : List ℕ) where
  pub here : map to_ascii_lowercase word ≡ map to_ascii_lowercase (get_or rows i d).letters.now
      → listed_in (map spelling_row (drop i rows)) word ≡ (get_or rows i d).symbol
  here e = rw (drop-cons rows i d h, e, same_self (map to_ascii_lowercase (get_or rows i d).letters.now))

  pub further : (map to_ascii_lowercase word ≡ map to_ascii_lowercase (get_or rows i d).letters.now → ⊥)
      → listed_in (map spelling_row (drop i rows)) word ≡ listed_in (map spelling_row (drop (i + 1) rows)) word
  further other =
      rw (
        drop-cons rows i d h,
        not_same (map to_ascii_lowercase (get_or rows i d).letters.now)
            (map to_ascii_lowercase word) (λ e. other (sym e)),
        add-one,
      )
