-- Descriptions of texts of symbols: which texts a description represents, and what it leaves after a symbol.
use Rattle.std.specs.Prelude.{◌≡◌, ℕ, Bool, true, false, ◌&&◌, ◌||◌, cond, ◌⊎◌, List, [], ◌∷◌, ◌++◌, Option, Some, None}
use Rattle.std.specs.List.{flat_map, AllByRecursion}
use Rattle.std.specs.Option.{option_or}
use Rattle.fx_language.specs.declared.symbol.Symbol.{Symbol}

-- A description of texts: no text, the empty one, one symbol of a sort, one description before another, either of
-- two, one any number of times. A fault represents no text: it names the code of some symbols that are refused at
-- its place.
pub data Shape : Type 0 where
  Never : Shape
  Empty : Shape
  One : (Symbol → Bool) → Shape
  Before : Shape → Shape → Shape
  Either : Shape → Shape → Shape
  Many : Shape → Shape
  Fault : ℕ → (Symbol → Bool) → Shape

-- the text is one of those that the description represents
abbrev pub Matches : Shape → List Symbol → Type 0
Matches Never text = ⊥
Matches Empty text = text ≡ []
Matches (One test) text = (s : Symbol) × (test s ≡ true) × (text ≡ s ∷ [])
Matches (Before a b) text = (x y : List Symbol) × Matches a x × Matches b y × (text ≡ x ++ y)
Matches (Either a b) text = Matches a text ⊎ Matches b text
Matches (Many a) text =
    (parts : List (List Symbol)) × AllByRecursion (Matches a) parts × (text ≡ flat_map (λ part. part) parts)
Matches (Fault code test) text = ⊥

-- the text begins one of those texts
abbrev pub Begins : Shape → List Symbol → Type 0
Begins a text = (rest : List Symbol) × Matches a (text ++ rest)

infixr 35 ◌▸◌
infixr 30 ◌∣◌
-- The texts of a, each with one of b after it, as Before a b. Never and Empty are left out, and sequences group to the
-- right, so that what is left after a symbol stays small.
abbrev pub ◌▸◌ : Shape → Shape → Shape
Never ▸ b = Never
Empty ▸ b = b
(Before a c) ▸ b = Before a (c ▸ b)
(One test) ▸ b = Before (One test) b
(Either a c) ▸ b = Before (Either a c) b
(Many a) ▸ b = Before (Many a) b
(Fault code test) ▸ b = Before (Fault code test) b

-- either of them
abbrev pub ◌∣◌ : Shape → Shape → Shape
a ∣ b = Either a b

-- either of them, where one that has no text is left out
abbrev pub or_else : Shape → Shape → Shape
or_else Never b = b
or_else a Never = a
or_else a b = Either a b

-- at most once
abbrev pub maybe : Shape → Shape
maybe a = Either a Empty

-- the empty text is one of its texts
abbrev pub may_be_empty : Shape → Bool
may_be_empty Never = false
may_be_empty Empty = true
may_be_empty (One test) = false
may_be_empty (Before a b) = may_be_empty a && may_be_empty b
may_be_empty (Either a b) = may_be_empty a || may_be_empty b
may_be_empty (Many a) = true
may_be_empty (Fault code test) = false

-- the derivative by a symbol: what may follow it, where it is first in a text
abbrev pub derivative : Symbol → Shape → Shape
derivative s Never = Never
derivative s Empty = Never
derivative s (One test) = cond (test s) Empty Never
derivative s (Before a b) = cond (may_be_empty a) (or_else (derivative s a ▸ b) (derivative s b)) (derivative s a ▸ b)
derivative s (Either a b) = or_else (derivative s a) (derivative s b)
derivative s (Many a) = derivative s a ▸ Many a
derivative s (Fault code test) = Never

-- it represents no text
abbrev pub is_never : Shape → Bool
is_never Never = true
is_never a = false

-- the code that the description names for a symbol that stands next
abbrev pub fault_code : Symbol → Shape → Option ℕ
fault_code s Never = None
fault_code s Empty = None
fault_code s (One test) = None
fault_code s (Before a b) = option_or (fault_code s a) (cond (may_be_empty a) (fault_code s b) None)
fault_code s (Either a b) = option_or (fault_code s a) (fault_code s b)
fault_code s (Many a) = fault_code s a
fault_code s (Fault code test) = cond (test s) (Some code) None

-- the same texts, where some symbols have this code at each place of them
abbrev pub guarded : ℕ → (Symbol → Bool) → Shape → Shape
guarded code test Never = Never
guarded code test Empty = Empty
guarded code test (One t) = Either (One t) (Fault code test)
guarded code test (Before a b) = Before (guarded code test a) (guarded code test b)
guarded code test (Either a b) = Either (guarded code test a) (guarded code test b)
guarded code test (Many a) = Many (guarded code test a)
guarded code test (Fault c t) = Fault c t
