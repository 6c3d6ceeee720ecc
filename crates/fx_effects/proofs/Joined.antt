-- Lists of effects, which are joined.
use Rattle.std.proofs.Common.{◌≡◌, ◌≤◌, ◌<◌, ℕ, Bool, true, false, Ok, get_or, suc, zero, List, [], ◌∷◌, ◌++◌}
use Rattle.std.proofs.Common.{take, drop, length, sym, subst, refl, arith}
use Rattle.std.proofs.lemmas.List.{append_assoc, append-nil}
use Rattle.fx_base.proofs.Lists.{each-append, each-take}
use Rattle.fx_base.proofs.Members.{has-left, has-right}
use Rattle.fx_text.specs.Written.{Written}
use Rattle.fx_demands.specs.Bars.{bars_of, in_order, AreNumbers, IsCause}
use Rattle.fx_demands.proofs.Ordered.{in_order-has, in_order-only, in_order-sorted, sorted-shorter}
use Rattle.fx_demands.proofs.Merging.{in_order-parts}
use Rattle.fx_demands.specs.declared.effect_stop.EffectStop.{EffectStop}
use Rattle.fx_demands.specs.declared.effect_stop.EffectStop.TheVariants.{TooMany, NoMemory}
use Rattle.fx_demands.proofs.Stars.{bars-ordered}
use Rattle.fx_effects.specs.Expressions.{Expression, begins_effect, effect_len, expression_at, expressions_from}
use Rattle.fx_effects.specs.Expressions.{is_joining}
use Rattle.fx_effects.specs.Lists.{effects_written, effects_of, AreSmall}

pub small_drop : (k : ℕ) (all : List Expression) → AreSmall all → AreSmall (drop k all)
small_drop zero all h = h
small_drop (suc k) [] h = tt
small_drop (suc k) (x ∷ all) h = small_drop k all h.1

-- the effects are numbers of 64 bits
pub written_small : (all : List Expression) → AreSmall all → AreNumbers (effects_written all)
written_small [] h = tt
written_small (e ∷ all) h =
    each-append _ _ _
    (bars-ordered e.stars e.upto h.0).numbers (written_small all h.1)

-- two parts
pub written_parts : (k : ℕ) (all : List Expression)
    → effects_written all ≡ effects_written (take k all) ++ effects_written (drop k all)
written_parts zero all = refl
written_parts (suc k) [] = refl
written_parts (suc k) (e ∷ all) =
    cc (
      written_parts k all,
      append_assoc (bars_of e.stars e.upto) (effects_written (take k all))
          (effects_written (drop k all)),
    )

-- a list has no fewer effects than a part of it
module _ (xs ys : List ℕ) (hx : AreNumbers xs) (hy : AreNumbers ys) where
  both : AreNumbers (xs ++ ys)
  both = each-append _ xs ys hx hy

  pub front_shorter : length (in_order xs) ≤ length (in_order (xs ++ ys))
  front_shorter =
      sorted-shorter _ _ (in_order-sorted xs hx) (in_order-sorted _ both)
      (λ u h. in_order-has u _ (has-left u xs ys (in_order-only u xs h)))

  pub back_shorter : length (in_order ys) ≤ length (in_order (xs ++ ys))
  back_shorter =
      sorted-shorter _ _ (in_order-sorted ys hy) (in_order-sorted _ both)
      (λ u h. in_order-has u _ (has-right u xs ys (in_order-only u ys h)))

-- an expression that stands alone
pub only : (all : List Expression) (e : Expression) → length all ≤ 1 → 0 < length all → e ≡ get_or all 0 e
    → all ≡ e ∷ []
only [] e one some is = absurd (omega arith)
only (x ∷ []) e one some is = cc
only (x ∷ y ∷ all) e one some is = absurd (omega arith)

pub one_is : (e : Expression) → AreNumbers e.stars → bars_of e.stars e.upto ≡ effects_of (e ∷ [])
one_is e h = cc ((bars-ordered e.stars e.upto h).ordered, append-nil (bars_of e.stars e.upto))

module _ (factors : List (List ℕ)) (all : List Expression) (joined : Bool) (w : Written) (rest : List Written) where
  pub passed : begins_effect joined w ≡ false
      → expressions_from factors all joined (w ∷ rest) ≡ expressions_from factors all (is_joining w.symbol) rest
  passed none = rw none

  pub read : begins_effect joined w ≡ true → (e : Expression)
      → expression_at factors w (take (effect_len false rest) rest) ≡ Ok e
      → expressions_from factors all joined (w ∷ rest)
      ≡ expressions_from factors (all ++ e ∷ []) (is_joining w.symbol) rest
  read some e is = rw (some, is)

-- what is too many stays so in a longer list
pub cause_more : (xs ys : List ℕ) (why : EffectStop) → length xs ≤ length ys → IsCause xs why → IsCause ys why
cause_more xs ys TooMany h many = omega arith
cause_more xs ys NoMemory h many = tt

-- a list in two parts
module _ (all front back : List Expression) (k : ℕ) (hf : front ≡ take k all) (hb : back ≡ drop k all)
    (small : AreSmall all) where
  pub small_front : AreSmall front
  small_front = subst AreSmall (sym hf) (each-take _ k all small)

  pub small_back : AreSmall back
  small_back = subst AreSmall (sym hb) (small_drop k all small)

  parts : effects_written front ++ effects_written back ≡ effects_written all
  parts = cc (written_parts k all)

  pub joined_is : (xs ys zs : List ℕ) → xs ≡ effects_of front → ys ≡ effects_of back → zs ≡ in_order (xs ++ ys)
      → zs ≡ effects_of all
  joined_is xs ys zs hx hy is =
      cc (
        in_order-parts _ _ (written_small front small_front)
            (written_small back small_back),
        parts,
      )

  pub front_few : length (effects_of front) ≤ length (effects_of all)
  front_few =
      rw parts at (front_shorter _ _ (written_small front small_front)
      (written_small back small_back))

  pub back_few : length (effects_of back) ≤ length (effects_of all)
  back_few =
      rw parts at (back_shorter _ _ (written_small front small_front)
      (written_small back small_back))
