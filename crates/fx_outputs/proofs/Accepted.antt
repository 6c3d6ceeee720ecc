-- An accepted output keeps the limits of its step.
use Rattle.std.proofs.Common.{◌∷◌, ◌≡◌, ◌≢◌, ℕ, ◌≤◌, Bool, true, false, List, [], length}
use Rattle.std.proofs.Common.{Option, Some, None, Result, Ok, Err, refl, sym, arith}
use Rattle.std.specs.Prelude.{if◌then◌else◌}
use Rattle.std.proofs.lemmas.Bool.{leb-true, eqb-true, and_parts}
use Rattle.fx_text.specs.declared.refusal.Refusal.{Refusal}
use Rattle.fx_text.specs.Written.{Written}
use Rattle.fx_text.specs.Names.{place_of}
use Rattle.fx_text.specs.Numbers.{number_of}
use Rattle.fx_text.specs.Refusals.{◌>>=◌}
use Rattle.fx_outputs.specs.declared.context.BlockCount.{BlockCount}
use Rattle.fx_outputs.specs.declared.context.BlockCount.TheVariants as blocks
use Rattle.fx_outputs.specs.declared.earlier.EarlierPlan.{EarlierPlan}
use Rattle.fx_outputs.specs.declared.replication.Rep.TheVariants.{Times}
use Rattle.fx_outputs.specs.Earlier.{plan_names}
use Rattle.fx_outputs.specs.Replications.{plan_at, rep_at, replication_in_range}
use Rattle.fx_outputs.specs.Values.{checked_values, values_if_any}
use Rattle.fx_outputs.specs.BlockColumns.{values_wanted, block_values}

-- What a chain of checks gives is what its last part makes of what its first part gives.
pub through : {A B : Type 0} (r : Result A Refusal) (f : A → Result B Refusal) (y : B) (P : Type 0) → (r >>= f) ≡ Ok y
    → ((x : A) → r ≡ Ok x → f x ≡ Ok y → P) → P
through (Ok x) f y P e k = k x refl e
through (Err refusal) f y P e k = cc e

pub kept_if : {A : Type 0} (b : Bool) (x y : A) (refusal : Refusal) → (if b then Ok x else Err refusal) ≡ Ok y
    → (b ≡ true) × (x ≡ y)
kept_if true x y refusal e = (refl, cc e)
kept_if false x y refusal e = cc e

pub kept_unless : {A : Type 0} (b : Bool) (x y : A) (refusal : Refusal) → (if b then Err refusal else Ok x) ≡ Ok y
    → (b ≡ false) × (x ≡ y)
kept_unless true x y refusal e = cc e
kept_unless false x y refusal e = (refl, cc e)

in_range : (w : Written) (n : Option ℕ) (p : ℕ) → replication_in_range w n ≡ Ok p → 1 ≤ p
in_range w None p e = cc e
in_range w (Some n) p e =
    let kept = kept_if _ n p _ e in
    rw kept.1 at (leb-true 1 n (and_parts _ _ kept.0).0)

times : (given : Result ℕ Refusal) (n : ℕ) → (given >>= λ k. Ok (Times k)) ≡ Ok (Times n) → given ≡ Ok n
times (Ok k) n e = cc e
times (Err refusal) n e = cc e

no_times : (w : Written) (place : Option ℕ) (n : ℕ) → plan_at w place ≡ Ok (Times n) → ⊥
no_times w None n e = cc e
no_times w (Some number) n e = cc e

pub repeated : (earlier : List EarlierPlan) (w : Option Written) (n : ℕ) → rep_at earlier w ≡ Ok (Times n) → 1 ≤ n
repeated earlier None n e = let same : 1 ≡ n = cc e in omega arith
repeated earlier (Some w) n e = by_symbol _ e
  where
    by_symbol : (b : Bool)
        → (if b then (replication_in_range w (number_of w) >>= λ k. Ok (Times k))
        else plan_at w (place_of w.text (plan_names earlier)))
        ≡ Ok (Times n) → 1 ≤ n
    by_symbol true e = in_range w (number_of w) n (times (replication_in_range w (number_of w)) n e)
    by_symbol false e = absurd (no_times w _ n e)

pub as_many : (n : ℕ) (word : Written) (all values : List (List ℕ)) → checked_values (Some n) word all ≡ Ok values
    → length values ≡ n
as_many n word all values e =
    let kept = kept_if _ all values _ e in
    cc (eqb-true _ n kept.0)

-- where there are values, the number of blocks is fixed, and they are as many
abbrev AreForBlocks : BlockCount → List (List ℕ) → Type 0
AreForBlocks count values = values ≢ [] → count ≡ blocks.Fixed (length values)

of_blocks : (count : BlockCount) (word : Written) (all values : List (List ℕ))
    → checked_values (values_wanted count) word all ≡ Ok values → AreForBlocks count values
of_blocks blocks.Without word all values e = cc e
of_blocks blocks.Open word all values e = cc e
of_blocks (blocks.Fixed n) word all values e = λ _. cc (as_many n word all values e)

pub values_of_blocks : (count : BlockCount) (written : List Written) (values : List (List ℕ))
    → block_values count written ≡ Ok values → values ≢ [] → count ≡ blocks.Fixed (length values)
values_of_blocks count [] values e = let none : [] ≡ values = cc e in λ some. absurd (some (sym none))
values_of_blocks count (word ∷ rest) values e = of_blocks count word _ values e

-- where a column has values, they are as many as are wanted
pub wanted_values : (n : ℕ) (written : List Written) (values : List (List ℕ))
    → values_if_any (Some n) written ≡ Ok values → values ≢ [] → length values ≡ n
wanted_values n [] values e = let none : [] ≡ values = cc e in λ some. absurd (some (sym none))
wanted_values n (word ∷ rest) values e = λ some. as_many n word _ values e
