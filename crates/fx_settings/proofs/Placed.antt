-- The settings of a step are refused by a rule, at the place of a word or number of the step.
use Rattle.std.proofs.Common.{◌≡◌, ℕ, Bool, true, false, List, [], ◌∷◌, drop, Option, Some, None, refl}
use Rattle.std.specs.Prelude.{IfSome, slice_get, unwrap_or, if◌then◌else◌}
use Rattle.std.specs.List.{AllByRecursion, list_all}
use Rattle.std.proofs.lemmas.Bool.{and_parts}
use Rattle.std.specs.Option.{option_map, option_and_then}
use Rattle.fx_language.specs.declared.symbol.Symbol.{Symbol}
use Rattle.fx_language.specs.declared.symbol.Symbol.TheVariants as symbol
use Rattle.fx_language.specs.Symbols.{is}
use Rattle.fx_language.specs.Refusals.{is_rule}
use Rattle.fx_lexer.specs.declared.place.Place.{Place}
use Rattle.fx_text.specs.Written.{Written}
use Rattle.fx_text.specs.Phrases.{after}
use Rattle.fx_text.specs.Refusals.{place_at}
use Rattle.fx_settings.specs.declared.said.Value.{Value}
use Rattle.fx_settings.specs.declared.said.SizeSaid.{SizeSaid}
use Rattle.fx_settings.specs.declared.said.ModelSaid.{ModelSaid}
use Rattle.fx_settings.specs.declared.said.BlocksSaid.{BlocksSaid}
use Rattle.fx_settings.specs.declared.said.StepSaid.{StepSaid}
use Rattle.fx_settings.specs.declared.rule.Rule.{Rule}
use Rattle.fx_settings.specs.declared.settings.StepSettings.{StepSettings}
use Rattle.fx_settings.specs.Said.{setting_of, size_said, model_said, blocks_said, levels_said}
use Rattle.fx_settings.specs.Said.{nodes_said, step_said}
use Rattle.fx_settings.specs.Rules.{first_refusal, unless_refused}
use Rattle.fx_settings.specs.Settings.{value_place, size_place, resolution_place, minabs_place, blocks_place}
use Rattle.fx_settings.specs.Settings.{block_value_place, rules, undivided, unblocked_of, block_rules, divided}
use Rattle.fx_settings.specs.Settings.{step_settings_of}
use Rattle.fx_text.proofs.Placed as placed
use Rattle.fx_text.proofs.Placed.{ArePlaced, AreAllPlaced, Placed}

-- one of these places
abbrev pub IsPlace : (ℕ → ℕ → Type 0) → Place → Type 0
IsPlace P place = P place.line place.column

-- what is said is at these places
abbrev IsValuePlaced : (ℕ → ℕ → Type 0) → Value → Type 0
IsValuePlaced P value = IsPlace P value.place

abbrev IsSizePlaced : (ℕ → ℕ → Type 0) → SizeSaid → Type 0
IsSizePlaced P size = IsPlace P size.value.place

abbrev IsModelPlaced : (ℕ → ℕ → Type 0) → ModelSaid → Type 0
IsModelPlaced P model = IfSome model.resolution (IsValuePlaced P) × IfSome model.minabs (IsPlace P)

abbrev AreBlocksPlaced : (ℕ → ℕ → Type 0) → BlocksSaid → Type 0
AreBlocksPlaced P blocks = IsPlace P blocks.place × IsPlace P blocks.value.place

pub record IsSaidPlaced (P : ℕ → ℕ → Type 0) (said : StepSaid) : Type 0 where
  pub factors : IsPlace P said.factors
  pub levels : IfSome said.levels (IsValuePlaced P)
  pub nodes : IfSome said.nodes (IsValuePlaced P)
  pub size : IfSome said.size (IsSizePlaced P)
  pub model : IfSome said.model (IsModelPlaced P)
  pub blocks : IfSome said.blocks (AreBlocksPlaced P)

-- what holds of an optional value holds of what is made of it
mapped : {A B : Type 0} {R : A → Type 0} (f : A → B) (Q : B → Type 0) (o : Option A) → IfSome o R
    → ((x : A) → R x → Q (f x)) → IfSome (option_map f o) Q
mapped f Q None h each = tt
mapped f Q (Some x) h each = each x h

chained : {A B : Type 0} {R : A → Type 0} (f : A → Option B) (Q : B → Type 0) (o : Option A) → IfSome o R
    → ((x : A) → R x → IfSome (f x) Q) → IfSome (option_and_then f o) Q
chained f Q None h each = tt
chained f Q (Some x) h each = each x h

module _ (P : ℕ → ℕ → Type 0) where
  setting : (s : List Written) → ArePlaced P s → IfSome (setting_of s) (λ x. IsValuePlaced P x.value)
  setting [] h = tt
  setting (a ∷ []) h = tt
  setting (a ∷ b ∷ []) h = tt
  setting (a ∷ b ∷ c ∷ s) h = h.1.1.0

  second : (s : List Written) → ArePlaced P s → IfSome (setting_of (drop 1 s)) (λ x. IsValuePlaced P x.value)
  second s h = setting _ (placed.dropped P 1 s h)

  sizes : (s : List Written) → ArePlaced P s → IfSome (size_said s) (IsSizePlaced P)
  sizes s h = mapped _ (IsSizePlaced P) _ (second s h) (λ x k. k)

  models : (s : List Written) → ArePlaced P s → IfSome (model_said s) (IsModelPlaced P)
  models s h =
      mapped _ (IsModelPlaced P) _ (second s h)
      (λ x k. (
        resolution (is symbol.Estimate x.word) x.value k,
        mapped place_at (IsPlace P) (slice_get (after symbol.Slash s) 0)
            (placed.at P 0 _ (placed.after_it P symbol.Slash s h)) (λ w at. at),
      ))
    where
      resolution : (b : Bool) (v : Value) → IsValuePlaced P v → IfSome (if b then None else Some v) (IsValuePlaced P)
      resolution true v k = tt
      resolution false v k = k

  in_blocks : (s : List Written) → P 1 1 → ArePlaced P s → IfSome (blocks_said s) (AreBlocksPlaced P)
  in_blocks s front h =
      mapped _ (AreBlocksPlaced P) _ (second s h) (λ x k. (placed.start P s front h, k))

  budget : (s : List Written) → ArePlaced P s → IfSome (nodes_said s) (IsValuePlaced P)
  budget s h =
      mapped _ (IsValuePlaced P) _ (setting (drop 2 s) (placed.dropped P 2 s h)) (λ x k. k)

  levels : (s : List Written) → ArePlaced P s → IfSome (levels_said s) (IsValuePlaced P)
  levels s h =
      mapped _ (IsValuePlaced P) _ (setting (after symbol.Slash s) (placed.after_it P symbol.Slash s h)) (λ x k. k)

  pub said : (proc factors : List Written) (statements : List (List Written)) → P 1 1 → ArePlaced P proc
      → ArePlaced P factors → AreAllPlaced P statements → IsSaidPlaced P (step_said proc factors statements)
  said proc factors statements front in_proc in_factors each =
      let found = λ (word : Symbol). placed.statement P word statements each in
      record {
        factors = placed.start P factors front in_factors;
        levels = levels factors in_factors;
        nodes = budget proc in_proc;
        size = chained size_said _ _ (found symbol.Size) sizes;
        model = chained model_said _ _ (found symbol.Model) models;
        blocks = chained blocks_said _ _ (found symbol.Blocks) (λ s. in_blocks s front);
      }

  first : (all : List Rule) → list_all (λ (r : Rule). is_rule r.code) all ≡ true
      → AllByRecursion (λ (r : Rule). IsPlace P r.place) all → Placed P (first_refusal all)
  first [] codes at = tt
  first (rule ∷ others) codes at =
      let both = and_parts _ _ codes in
      placed.both P rule.applies _ _ (placed.here P rule.code rule.place both.0 at.0) (first others both.1 at.1)

  judged : {A : Type 0} (all : List Rule) (x : A) → list_all (λ (r : Rule). is_rule r.code) all ≡ true
      → AllByRecursion (λ (r : Rule). IsPlace P r.place) all → Placed P (unless_refused all x)
  judged {A} all x codes at = placed.chain P (first_refusal all) _ (first all codes at) (λ none. tt)

  module _ (x : StepSaid) (h : IsSaidPlaced P x) where
    or_factors : (place : Option Place) → IfSome place (IsPlace P) → IsPlace P (unwrap_or place x.factors)
    or_factors None k = h.factors
    or_factors (Some place) k = k

    at_value : (v : Option Value) → IfSome v (IsValuePlaced P) → IsPlace P (value_place x v)
    at_value v k = or_factors _ (mapped _ (IsPlace P) v k (λ v k. k))

    at_size : IsPlace P (size_place x)
    at_size = at_value _ (mapped _ (IsValuePlaced P) x.size h.size (λ size k. k))

    pub unblocked : (s : ℕ) → Placed P (unblocked_of s x)
    unblocked s =
        let levels = at_value x.levels h.levels in
        let nodes = at_value x.nodes h.nodes in
        let resolution = chained _ (IsValuePlaced P) x.model h.model (λ m k. k.0) in
        let model : IsPlace P (resolution_place x) = at_value _ resolution in
        let minabs : IsPlace P (minabs_place x) = or_factors _ (chained _ (IsPlace P) x.model h.model (λ m k. k.1)) in
        let blocks : IsPlace P (blocks_place x) = or_factors _ (mapped _ (IsPlace P) x.blocks h.blocks (λ b k. k.0)) in
        judged (rules s x) (undivided s x) refl
        (levels, (nodes, (at_size, (at_size, (model, (minabs, (blocks, (at_size, tt))))))))

    pub settings : (u : StepSettings) → Placed P (step_settings_of u x)
    settings u =
        let value : IsPlace P (block_value_place x) =
        at_value _ (mapped _ (IsValuePlaced P) x.blocks h.blocks (λ b k. k.1)) in
        judged (block_rules u.q u.size x) (divided u x) refl (value, (value, tt))
