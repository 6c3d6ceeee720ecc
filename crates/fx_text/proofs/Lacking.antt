-- Parts of a statement that lack a symbol.
use Rattle.std.proofs.Common.{ℕ, suc, ◌+◌, arith, take, ◌≡◌, true, false, ◌||◌, List, [], ◌∷◌, ◌++◌, map, refl, ap, ◌∙◌}
use Rattle.std.specs.List.{list_any}
use Rattle.std.proofs.lemmas.Bool.{or_parts}
use Rattle.fx_language.specs.declared.symbol.Symbol.{Symbol}
use Rattle.fx_language.specs.Symbols.{is}
use Rattle.fx_text.specs.Written.{Written}
use Rattle.fx_text.specs.Phrases.{after, preceding, has_symbol}

-- the same of what is written
pub any_written : (t : Symbol) (s : List Written) → has_symbol t s ≡ list_any (is t) (map (λ (w : Written). w.symbol) s)
any_written t [] = refl
any_written t (w ∷ s) = ap (λ b. is t w.symbol || b) (any_written t s)

-- what is after a symbol, behind what lacks it
pub after_part : (t : Symbol) (a b : List Written) → has_symbol t a ≡ false → after t (a ++ b) ≡ after t b
after_part t [] b h = refl
after_part t (w ∷ a) b h =
    let parts = or_parts (is t w.symbol) (has_symbol t a) h in
    rw parts.0 (after_part t a b parts.1)

take_more : (n : ℕ) (w : Written) (xs : List Written) → take (1 + n) (w ∷ xs) ≡ w ∷ take n xs
take_more n w xs = let e : 1 + n ≡ suc n = omega arith in rw e refl

-- what is before a symbol, in front of it
pub before_part : (t : Symbol) (a : List Written) (c : Written) (b : List Written) → has_symbol t a ≡ false
    → is t c.symbol ≡ true → preceding t (a ++ c ∷ b) ≡ a
before_part t [] c b h it = rw it refl
before_part t (w ∷ a) c b h it =
    let parts = or_parts (is t w.symbol) (has_symbol t a) h in
    rw parts.0 (take_more _ w (a ++ c ∷ b) ∙ ap (λ l. w ∷ l) (before_part t a c b parts.1 it))

pub before_none : (t : Symbol) (a : List Written) → has_symbol t a ≡ false → preceding t a ≡ a
before_none t [] h = refl
before_none t (w ∷ a) h =
    let parts = or_parts (is t w.symbol) (has_symbol t a) h in
    rw parts.0 (take_more _ w a ∙ ap (λ l. w ∷ l) (before_none t a parts.1))
