-- The first refusal of a program is by the number of a rule.
use Rattle.std.proofs.Common.{◌≡◌, ℕ, ◌+◌, Bool, true, false, not, ◌&&◌, List, [], ◌∷◌, Option, Some, None, refl}
use Rattle.std.specs.Prelude.{IfSome, nat_le, if◌then◌else◌}
use Rattle.fx_language.specs.declared.symbol.Symbol.{Symbol}
use Rattle.fx_language.specs.declared.symbol.Symbol.TheVariants.{Proc, Factex}
use Rattle.fx_language.specs.Symbols.{is, is_once}
use Rattle.fx_language.specs.Refusals.{is_rule}
use Rattle.fx_language.proofs.Rules.{refused_by_a_rule}
use Rattle.fx_language.specs.Repeats.{is_start, has_statement, procs, begins_with, awaits_name, is_option_in}
use Rattle.fx_language.specs.Repeats.{has_option, rule_at, or_later, repeated}
use Rattle.fx_language.specs.FirstRefusal.{earlier, first_refusal}

either : (b : Bool) (code : ℕ) (other : Option ℕ) → is_rule code ≡ true → IfSome other (λ c. is_rule c ≡ true)
    → IfSome (if b then Some code else other) (λ c. is_rule c ≡ true)
either true code other h k = h
either false code other h k = k

rules : (seen : List Symbol) (s : Symbol) (rest : List Symbol) → IfSome (rule_at seen s rest) (λ c. is_rule c ≡ true)
rules seen s rest =
    either _ 27 _ refl
    (either (is_start seen && is_once s && has_statement s seen) 26 _ refl
    (either (is_start seen && is Proc s && begins_with Factex rest && nat_le 100 (procs seen)) 32 _ refl
    (either (not (awaits_name seen) && is_option_in seen s && has_option s seen) 28 None refl tt)))

first_of : (i : ℕ) (code : Option ℕ) (more : Option (ℕ × ℕ)) → IfSome code (λ c. is_rule c ≡ true)
    → IfSome more (λ r. is_rule r.0 ≡ true) → IfSome (or_later i code more) (λ r. is_rule r.0 ≡ true)
first_of i None more h k = k
first_of i (Some code) more h k = h

repeats : (seen : List Symbol) (i : ℕ) (symbols : List Symbol)
    → IfSome (repeated seen i symbols) (λ r. is_rule r.0 ≡ true)
repeats seen i [] = tt
repeats seen i (s ∷ rest) =
    first_of i (rule_at seen s rest) (repeated (s ∷ seen) (i + 1) rest) (rules seen s rest)
    (repeats (s ∷ seen) (i + 1) rest)

one_of : (g r : Option (ℕ × ℕ)) → IfSome g (λ x. is_rule x.0 ≡ true) → IfSome r (λ x. is_rule x.0 ≡ true)
    → IfSome (earlier g r) (λ x. is_rule x.0 ≡ true)
one_of None r h k = k
one_of (Some g) None h k = h
one_of (Some g) (Some r) h k = by _
  where
    by : (b : Bool) → IfSome (if b then Some r else Some g) (λ (x : ℕ × ℕ). is_rule x.0 ≡ true)
    by true = k
    by false = h

pub first_by_a_rule : (symbols : List Symbol) → IfSome (first_refusal symbols) (λ r. is_rule r.0 ≡ true)
first_by_a_rule symbols =
    one_of _ _ (refused_by_a_rule symbols) (repeats [] 0 symbols)
