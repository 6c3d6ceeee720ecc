-- The grammar refuses a symbol by the number of a rule.
use Rattle.std.proofs.Common.{◌≡◌, ℕ, suc, Bool, true, false, ◌&&◌, cond, List, [], ◌∷◌, Option, Some, None, refl}
use Rattle.std.specs.Prelude.{IfSome, unwrap_or, if◌then◌else◌}
use Rattle.std.specs.Option.{option_or}
use Rattle.std.proofs.lemmas.Bool.{and_parts}
use Rattle.fx_language.specs.declared.symbol.Symbol.{Symbol}
use Rattle.fx_language.specs.declared.symbol.Symbol.TheVariants.{End}
use Rattle.fx_language.specs.Shapes.{Shape, Never, Empty, One, Before, Either, Many, Fault, derivative, may_be_empty}
use Rattle.fx_language.specs.Shapes.{or_else, fault_code, ◌▸◌}
use Rattle.fx_language.specs.Refusals.{is_rule, code_of, refused}
use Rattle.fx_language.specs.Grammar.{program}

-- each fault that the description names is that of a rule
abbrev names_rules : Shape → Bool
names_rules Never = true
names_rules Empty = true
names_rules (One test) = true
names_rules (Before a b) = names_rules a && names_rules b
names_rules (Either a b) = names_rules a && names_rules b
names_rules (Many a) = names_rules a
names_rules (Fault code test) = is_rule code

abbrev NamesRules : Shape → Type 0
NamesRules Never = Unit {0}
NamesRules Empty = Unit {0}
NamesRules (One test) = Unit {0}
NamesRules (Before a b) = NamesRules a × NamesRules b
NamesRules (Either a b) = NamesRules a × NamesRules b
NamesRules (Many a) = NamesRules a
NamesRules (Fault code test) = is_rule code ≡ true

by_test : (a : Shape) → names_rules a ≡ true → NamesRules a
by_test Never h = tt
by_test Empty h = tt
by_test (One test) h = tt
by_test (Before a b) h = let p = and_parts _ _ h in (by_test a p.0, by_test b p.1)
by_test (Either a b) h = let p = and_parts _ _ h in (by_test a p.0, by_test b p.1)
by_test (Many a) h = by_test a h
by_test (Fault code test) h = h

-- it stays so where the grammar goes on

before : (a b : Shape) → NamesRules a → NamesRules b → NamesRules (a ▸ b)
before Never b h k = tt
before Empty b h k = k
before (One test) b h k = (tt, k)
before (Before a c) b h k = (h.0, before c b h.1 k)
before (Either a c) b h k = (h, k)
before (Many a) b h k = (h, k)
before (Fault code test) b h k = (h, k)

either : (a b : Shape) → NamesRules a → NamesRules b → NamesRules (or_else a b)
either Never b h k = k
either Empty Never h k = h
either Empty Empty h k = (h, k)
either Empty (One test) h k = (h, k)
either Empty (Before c d) h k = (h, k)
either Empty (Either c d) h k = (h, k)
either Empty (Many c) h k = (h, k)
either Empty (Fault code test) h k = (h, k)
either (One t) Never h k = h
either (One t) Empty h k = (h, k)
either (One t) (One test) h k = (h, k)
either (One t) (Before c d) h k = (h, k)
either (One t) (Either c d) h k = (h, k)
either (One t) (Many c) h k = (h, k)
either (One t) (Fault code test) h k = (h, k)
either (Before a b) Never h k = h
either (Before a b) Empty h k = (h, k)
either (Before a b) (One test) h k = (h, k)
either (Before a b) (Before c d) h k = (h, k)
either (Before a b) (Either c d) h k = (h, k)
either (Before a b) (Many c) h k = (h, k)
either (Before a b) (Fault code test) h k = (h, k)
either (Either a b) Never h k = h
either (Either a b) Empty h k = (h, k)
either (Either a b) (One test) h k = (h, k)
either (Either a b) (Before c d) h k = (h, k)
either (Either a b) (Either c d) h k = (h, k)
either (Either a b) (Many c) h k = (h, k)
either (Either a b) (Fault code test) h k = (h, k)
either (Many a) Never h k = h
either (Many a) Empty h k = (h, k)
either (Many a) (One test) h k = (h, k)
either (Many a) (Before c d) h k = (h, k)
either (Many a) (Either c d) h k = (h, k)
either (Many a) (Many c) h k = (h, k)
either (Many a) (Fault code test) h k = (h, k)
either (Fault f t) Never h k = h
either (Fault f t) Empty h k = (h, k)
either (Fault f t) (One test) h k = (h, k)
either (Fault f t) (Before c d) h k = (h, k)
either (Fault f t) (Either c d) h k = (h, k)
either (Fault f t) (Many c) h k = (h, k)
either (Fault f t) (Fault code test) h k = (h, k)

one_of : (b : Bool) (x y : Shape) → NamesRules x → NamesRules y → NamesRules (cond b x y)
one_of true x y h k = h
one_of false x y h k = k

later : (s : Symbol) (a : Shape) → NamesRules a → NamesRules (derivative s a)
later s Never h = tt
later s Empty h = tt
later s (One test) h = one_of _ Empty Never tt tt
later s (Before a b) h =
    let first = before (derivative s a) b (later s a h.0) h.1 in
    one_of (may_be_empty a) (or_else (derivative s a ▸ b) (derivative s b)) (derivative s a ▸ b)
    (either (derivative s a ▸ b) (derivative s b) first (later s b h.1)) first
later s (Either a b) h = either (derivative s a) (derivative s b) (later s a h.0) (later s b h.1)
later s (Many a) h = before (derivative s a) (Many a) (later s a h) h
later s (Fault code test) h = tt

-- so the code of each symbol that it refuses is that of a rule

first : (a b : Option ℕ) → IfSome a (λ c. is_rule c ≡ true) → IfSome b (λ c. is_rule c ≡ true)
    → IfSome (option_or a b) (λ c. is_rule c ≡ true)
first None b h k = k
first (Some code) b h k = h

named : (s : Symbol) (a : Shape) → NamesRules a → IfSome (fault_code s a) (λ c. is_rule c ≡ true)
named s Never h = tt
named s Empty h = tt
named s (One test) h = tt
named s (Before a b) h =
    first _ _ (named s a h.0)
    (by (may_be_empty a) (named s b h.1))
  where
    by : (e : Bool) → IfSome (fault_code s b) (λ c. is_rule c ≡ true)
        → IfSome (cond e (fault_code s b) None) (λ c. is_rule c ≡ true)
    by true k = k
    by false k = tt
named s (Either a b) h = first _ _ (named s a h.0) (named s b h.1)
named s (Many a) h = named s a h
named s (Fault code test) h = by _
  where
    by : (b : Bool) → IfSome (cond b (Some code) None) (λ c. is_rule c ≡ true)
    by true = h
    by false = tt

coded : (left : Shape) (s : Symbol) → NamesRules left → is_rule (code_of left s) ≡ true
coded left s h = of_named _ (named s left h) _
  where
    of_named : (c : Option ℕ) → IfSome c (λ c. is_rule c ≡ true) → (b : Bool)
        → is_rule (unwrap_or c (if b then 3 else 2)) ≡ true
    of_named (Some code) k b = k
    of_named None k true = refl
    of_named None k false = refl

each : (i : ℕ) (left : Shape) (symbols : List Symbol) → NamesRules left
    → IfSome (refused i left symbols) (λ r. is_rule r.0 ≡ true)
unfolding refused
each i left [] h = by _
  where
    by : (b : Bool) → IfSome (if b then None else Some (code_of left End, i)) (λ (r : ℕ × ℕ). is_rule r.0 ≡ true)
    by true = tt
    by false = coded left End h
each i left (s ∷ rest) h = by _ (each (suc i) (derivative s left) rest (later s left h))
  where
    by : (b : Bool) → IfSome (refused (suc i) (derivative s left) rest) (λ r. is_rule r.0 ≡ true)
        → IfSome (if b then refused (suc i) (derivative s left) rest else Some (code_of left s, i))
        (λ (r : ℕ × ℕ). is_rule r.0 ≡ true)
    by true k = k
    by false k = coded left s h

pub refused_by_a_rule : (symbols : List Symbol) → IfSome (refused 0 program symbols) (λ r. is_rule r.0 ≡ true)
refused_by_a_rule symbols = each 0 program symbols (by_test program refl)
