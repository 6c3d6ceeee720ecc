-- The first symbol of a text that the grammar refuses, and its code.
use Rattle.std.specs.Prelude.{ℕ, suc, nat_le, Bool, not, ◌&&◌, unwrap_or, List, [], ◌∷◌, Option, Some, None}
use Rattle.std.specs.Prelude.{if◌then◌else◌}
use Rattle.std.specs.List.{list_any}
use Rattle.fx_language.specs.declared.symbol.Symbol.{Symbol}
use Rattle.fx_language.specs.declared.symbol.Symbol.TheVariants.{Nodes, Nlev, Size, Design, Fraction, Nrunfacs}
use Rattle.fx_language.specs.declared.symbol.Symbol.TheVariants.{Estimate, Nonnegligible, Resolution, Minabs, Nblkfacs}
use Rattle.fx_language.specs.declared.symbol.Symbol.TheVariants.{Nblocks, Aliasing, Out, Nvals, Cvals, End}
use Rattle.fx_language.specs.Symbols.{is_word}
use Rattle.fx_language.specs.Shapes.{Shape, derivative, is_never, fault_code}

-- the number of a rule by which a text is refused
abbrev pub is_rule : ℕ → Bool
is_rule code = nat_le 1 code && nat_le code 36

-- the grammar allows the symbol where it has reached this
abbrev pub allows : Shape → Symbol → Bool
allows left s = not (is_never (derivative s left))

-- where one of these is allowed, a word that is refused is an option that isn't known
abbrev pub options : List Symbol
options =
    Nodes ∷ Nlev ∷ Design ∷ Fraction ∷ Nrunfacs ∷ Estimate ∷ Nonnegligible ∷ Resolution ∷ Minabs
    ∷ Nblkfacs ∷ Nblocks ∷ Size ∷ Aliasing ∷ Out ∷ Nvals ∷ Cvals ∷ []

-- an option is allowed where the grammar has reached this
abbrev pub allows_option : Shape → Bool
allows_option left = list_any (λ option. allows left option) options

-- The code of a symbol that the grammar doesn't allow: the one that the grammar names, else 3 for a word in the place
-- of an option, else 2.
abbrev pub code_of : Shape → Symbol → ℕ
code_of left s = unwrap_or (fault_code s left) (if is_word s && allows_option left then 3 else 2)

-- The first symbol that the grammar doesn't allow: its code, and its index, where the first one has index i and the
-- grammar has reached `left`. The end of the text counts as a symbol.
unfoldable pub refused : ℕ → Shape → List Symbol → Option (ℕ × ℕ)
refused i left [] = if allows left End then None else Some (code_of left End, i)
refused i left (s ∷ rest) =
    if allows left s then refused (suc i) (derivative s left) rest else Some (code_of left s, i)
