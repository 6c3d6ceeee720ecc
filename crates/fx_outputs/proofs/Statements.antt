-- OUTPUT statements are read one after another.
use Rattle.std.proofs.Common.{◌≡◌, ℕ, suc, ◌<◌, Bool, true, false, ◌&&◌, List, [], ◌∷◌, ◌++◌, length, drop, Ok, refl}
use Rattle.std.proofs.Common.{sym, subst, arith}
use Rattle.std.specs.Prelude.{nat_lt, slice_index_or}
use Rattle.std.proofs.lemmas.Bool.{ltb-true, lt-ltb, and_parts}
use Rattle.fx_language.specs.declared.symbol.Symbol.TheVariants.{Output}
use Rattle.fx_language.specs.Symbols.{is}
use Rattle.fx_text.specs.declared.refusal.ParseStop.{ParseStop}
use Rattle.fx_text.specs.declared.refusal.ParseStop.TheVariants as stop
use Rattle.fx_text.specs.Written.{Written, begins}
use Rattle.fx_text.specs.Refusals.{IsRefused}
use Rattle.fx_outputs.specs.declared.earlier.EarlierPlan.{EarlierPlan}
use Rattle.fx_outputs.specs.declared.output.OutputSpec.{OutputSpec}
use Rattle.fx_outputs.specs.Contexts.{Context}
use Rattle.fx_outputs.specs.Options.{options_of}
use Rattle.fx_outputs.specs.Histories.{built}
use Rattle.fx_outputs.specs.Outputs.{output_spec, outputs_behind, plan_behind}
use Rattle.fx_outputs.proofs.Histories.{built-append}

abbrev pub is_output : List Written → Bool
is_output s = begins Output s && nat_lt 3 (length s)

-- a statement that is long enough, and none of these, begins with another word
other_word : (begun : Bool) (n : ℕ) → (begun && nat_lt 3 (suc (suc (suc (suc n))))) ≡ false → begun ≡ false
other_word true n e = absurd (cc (lt-ltb 3 (suc (suc (suc (suc n)))) (omega arith)))
other_word false n e = refl

module _ (context : Context) (earlier : List EarlierPlan) (outputs : List OutputSpec) (rest : List (List Written)) where
  first_refused : (a b c d : Written) (options : List Written) (reason : ParseStop) → is Output a.symbol ≡ true
      → IsRefused (output_spec context earlier a d (options_of (d ∷ options))) reason
      → IsRefused (outputs_behind context earlier outputs ((a ∷ b ∷ c ∷ d ∷ options) ∷ rest)) reason
  first_refused a b c d options (stop.Refused refusal) begun h = rw (begun, h)
  first_refused a b c d options stop.NoMemory begun h = tt

  first_read : (a b c d : Written) (options : List Written) (output : OutputSpec) → is Output a.symbol ≡ true
      → output_spec context earlier a d (options_of (d ∷ options)) ≡ Ok output
      → outputs_behind context earlier outputs ((a ∷ b ∷ c ∷ d ∷ options) ∷ rest)
      ≡ outputs_behind context (earlier ++ plan_behind context earlier output ∷ []) (outputs ++ output ∷ []) rest
  first_read a b c d options output begun h = rw (begun, h)

  refused_long : (s : List Written) (word name : Written) (reason : ParseStop) → begins Output s ≡ true → 3 < length s
      → word ≡ slice_index_or s 0 word → name ≡ slice_index_or s 3 name
      → IsRefused (output_spec context earlier word name (options_of (drop 3 s))) reason
      → IsRefused (outputs_behind context earlier outputs (s ∷ rest)) reason
  refused_long [] word name reason begun long w n h = absurd (omega arith)
  refused_long (a ∷ []) word name reason begun long w n h = absurd (omega arith)
  refused_long (a ∷ b ∷ []) word name reason begun long w n h = absurd (omega arith)
  refused_long (a ∷ b ∷ c ∷ []) word name reason begun long w n h = absurd (omega arith)
  refused_long (a ∷ b ∷ c ∷ d ∷ options) word name reason begun long w n h =
      first_refused a b c d options reason begun
      (subst (λ v. IsRefused (output_spec context earlier a v (options_of (d ∷ options))) reason) n
      (subst (λ v. IsRefused (output_spec context earlier v name (options_of (d ∷ options))) reason) w h))

  read_long : (s : List Written) (word name : Written) (output : OutputSpec) → begins Output s ≡ true → 3 < length s
      → word ≡ slice_index_or s 0 word → name ≡ slice_index_or s 3 name
      → output_spec context earlier word name (options_of (drop 3 s)) ≡ Ok output
      → outputs_behind context earlier outputs (s ∷ rest)
      ≡ outputs_behind context (earlier ++ plan_behind context earlier output ∷ []) (outputs ++ output ∷ []) rest
  read_long [] word name output begun long w n h = absurd (omega arith)
  read_long (a ∷ []) word name output begun long w n h = absurd (omega arith)
  read_long (a ∷ b ∷ []) word name output begun long w n h = absurd (omega arith)
  read_long (a ∷ b ∷ c ∷ []) word name output begun long w n h = absurd (omega arith)
  read_long (a ∷ b ∷ c ∷ d ∷ options) word name output begun long w n h =
      first_read a b c d options output begun
      (subst (λ v. output_spec context earlier a v (options_of (d ∷ options)) ≡ Ok output) n
      (subst (λ v. output_spec context earlier v name (options_of (d ∷ options)) ≡ Ok output) w h))

  pub refused : (s : List Written) (word name : Written) (reason : ParseStop) → true ≡ is_output s
      → word ≡ slice_index_or s 0 word → name ≡ slice_index_or s 3 name
      → IsRefused (output_spec context earlier word name (options_of (drop 3 s))) reason
      → IsRefused (outputs_behind context earlier outputs (s ∷ rest)) reason
  refused s word name reason t w n h =
      let both = and_parts _ _ (sym t) in
      refused_long s word name reason both.0 (ltb-true 3 _ both.1) w n h

  pub read : (s : List Written) (word name : Written) (output : OutputSpec) → true ≡ is_output s
      → word ≡ slice_index_or s 0 word → name ≡ slice_index_or s 3 name
      → output_spec context earlier word name (options_of (drop 3 s)) ≡ Ok output
      → outputs_behind context earlier outputs (s ∷ rest)
      ≡ outputs_behind context (earlier ++ plan_behind context earlier output ∷ []) (outputs ++ output ∷ []) rest
  read s word name output t w n h =
      let both = and_parts _ _ (sym t) in
      read_long s word name output both.0 (ltb-true 3 _ both.1) w n h

  first_passed : (a b c d : Written) (options : List Written) → is Output a.symbol ≡ false
      → outputs_behind context earlier outputs ((a ∷ b ∷ c ∷ d ∷ options) ∷ rest)
      ≡ outputs_behind context earlier outputs rest
  first_passed a b c d options begun = rw begun

  pub passed : (s : List Written) → false ≡ is_output s
      → outputs_behind context earlier outputs (s ∷ rest) ≡ outputs_behind context earlier outputs rest
  passed [] t = refl
  passed (a ∷ []) t = refl
  passed (a ∷ b ∷ []) t = refl
  passed (a ∷ b ∷ c ∷ []) t = refl
  passed (a ∷ b ∷ c ∷ d ∷ options) t =
      first_passed a b c d options (other_word _ _ (sym t))

-- the plan of one more output stands last
pub one_more_plan : (context : Context) (before earlier : List EarlierPlan) (outputs : List OutputSpec)
    (output : OutputSpec) → earlier ≡ built (plan_behind context) before outputs
    → earlier ++ plan_behind context earlier output ∷ [] ≡ built (plan_behind context) before (outputs ++ output ∷ [])
one_more_plan context before earlier outputs output e =
    rw e (sym (built-append (plan_behind context) before outputs (output ∷ [])))
