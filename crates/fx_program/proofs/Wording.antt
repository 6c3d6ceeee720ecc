-- What words ask for, by the first of them.
use Rattle.std.proofs.Common.{ℕ, ◌≡◌, List, [], ◌∷◌, length, map, refl, ap, arith}
use Rattle.fx_program.specs.declared.word_fault.WordFaultKind.TheVariants.{NoWord}
use Rattle.fx_program.specs.CommandLine.{command_with, settings_of}
use Rattle.fx_program.specs.Words.{word_fault}

module _ {X : Type 0} (f : X → List ℕ) where
  pub no_word : (xs : List X) → length xs ≡ 0 → settings_of (map f xs) ≡ word_fault NoWord 1
  unfolding settings_of
  no_word [] h = refl
  no_word (x ∷ xs) h = absurd (omega (arith, h))

  pub some_words : (xs : List X) (x : X) (rest : List X) → xs ≡ x ∷ rest
      → settings_of (map f xs) ≡ command_with (f x) (map f rest)
  unfolding settings_of
  some_words xs x rest e = ap (λ (l : List X). settings_of (map f l)) e
