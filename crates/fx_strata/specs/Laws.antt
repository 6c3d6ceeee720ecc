-- What is proved of designs with a base.
use Rattle.std.specs.Prelude.{ℕ, ◌≡◌, ◌<◌, ◌≤◌, ◌==◌, ◌+◌, ◌^◌, ◌&&◌, ◌||◌, ◌↔◌, not, nat_lt, Bool, true, false, List}
use Rattle.std.specs.Prelude.{◌++◌, map, take, length, count_by, All, Option, Some, None}
use Rattle.std.specs.List.{range_with_len}
use Rattle.fx_designs.specs.Galois.{digits}
use Rattle.fx_designs.specs.Vectors.{IsVector, weight, scale, vectors_of}
use Rattle.fx_designs.specs.Runs.{runs_of}
use Rattle.fx_designs.specs.Aliases.{is_aliased}
use Rattle.fx_designs.specs.Patterns.{is_less}
use Rattle.fx_designs.specs.Answers.{before}
use Rattle.fx_laws.specs.Changes.{IsChange}
use Rattle.fx_laws.specs.Reorders.{reordered}
use Rattle.fx_laws.specs.Scalings.{AreScalars, scaled}
use Rattle.fx_strata.specs.Designs.{Strata, Order, key_of, key_of_design, base_of, words_of, unclear_of, clear_of}
use Rattle.fx_strata.specs.Designs.{is_constant_in_groups, is_effect, is_unclear, IsStratified, IsLeast}
use Rattle.fx_strata.specs.Canonical.{base, words, unclear, figures, IsDesign}
use Rattle.fx_strata.specs.Clear.{is_live, is_clear_sum, pairs}
use Rattle.fx_strata.specs.Images.{has_earlier_image}
use Rattle.fx_strata.specs.Stages.{has_units, has_no_room, is_design}
use Rattle.fx_strata.specs.Floors.{unclear_floor, does_not_beat, cannot_beat}
use Rattle.fx_strata.specs.Books.{Claim}
use Rattle.fx_strata.specs.Spreads.{sums_at}

-- whether a key is better than what is to be beaten; where nothing is, each is
abbrev pub is_better : Option (List ℕ) → List ℕ → Bool
is_better None key = true
is_better (Some beat) key = is_less key beat

-- there are enough outside factors to tell all runs apart
abbrev pub HasFactors : Strata → Type 0
HasFactors x = x.m ≤ x.h + x.n

-- a canonical design is a design, with the first h unit vectors for block rows
abbrev pub CanonicalAreDesigns : Strata → Type 0
CanonicalAreDesigns x = (rows : List ℕ)
    → IsDesign x rows
    → IsStratified x (base x) (vectors_of x.q x.m rows)

-- a canonical design with no more words of any kind and weight, and no fewer clear words of two factors
pub record IsNoWorse (x : Strata) (blocks factors : List (List ℕ)) (rows : List ℕ) : Type 0 where
  pub design : IsDesign x rows
  pub words : (confounded : Bool) (k : ℕ)
      → words x rows confounded k ≤ words_of x (base_of x blocks factors) factors confounded k
  pub unclear : unclear x rows ≤ unclear_of x (base_of x blocks factors) factors

-- every design has such a one
abbrev pub CanonicalForEvery : Strata → Type 0
CanonicalForEvery x = (blocks factors : List (List ℕ))
    → HasFactors x
    → IsStratified x blocks factors
    → (rows : List ℕ) × IsNoWorse x blocks factors rows

-- a canonical design that precedes another, with as many words of each kind and weight, and as many clear ones
pub record IsEarlier (x : Strata) (other rows : List ℕ) : Type 0 where
  pub design : IsDesign x other
  pub earlier : before other rows ≡ true
  pub words : (confounded : Bool) (k : ℕ) → words x other confounded k ≡ words x rows confounded k
  pub unclear : unclear x other ≡ unclear x rows

-- each canonical design below a prefix with an earlier image has such a one
abbrev pub EarlierForEach : Strata → Type 0
EarlierForEach x = (c s change : List ℕ)
    → has_earlier_image x change c ≡ true
    → IsDesign x (c ++ s)
    → (other : List ℕ) × IsEarlier x other (c ++ s)

-- a word that is not constant in each group, and with which no main effect and no word of two factors is aliased but
-- its multiples
pub record IsAlone (x : Strata) (base factors : List (List ℕ)) (u : List ℕ) : Type 0 where
  pub varies : is_constant_in_groups x base factors u ≡ false
  pub alone : (v : List ℕ)
      → IsVector x.q (length factors) v
      → is_effect (weight v) ≡ true
      → is_aliased x.q (runs_of x.q x.m factors) u v ≡ true
      → (c : ℕ) × (v ≡ scale x.q c u)

-- the words of two factors that are clear are these
abbrev pub ClearAreAlone : Strata → Type 0
ClearAreAlone x = (base factors : List (List ℕ)) (u : List ℕ)
    → All (λ r. IsVector x.q x.m r) base
    → All (λ r. IsVector x.q x.m r) factors
    → IsVector x.q (length factors) u
    → weight u ≡ 2
    → (is_unclear x base factors u ≡ false) ↔ IsAlone x base factors u

-- a change of the run indexes, another order of the factors, and multiples of their rows leave as many words clear
pub record IsSameClear (x : Strata) (base factors : List (List ℕ)) : Type 0 where
  pub change : (a : List ℕ → List ℕ)
      → IsChange x.q x.m a
      → unclear_of x (map a base) (map a factors) ≡ unclear_of x base factors
  pub order : (ks : List ℕ) → unclear_of x base (reordered ks factors) ≡ unclear_of x base factors
  pub multiples : (cs : List ℕ)
      → AreScalars x.q cs
      → length cs ≡ length factors
      → unclear_of x base (scaled x.q cs factors) ≡ unclear_of x base factors

-- so isomorphic designs have as many clear words
abbrev pub SameClear : Strata → Type 0
SameClear x = (base factors : List (List ℕ))
    → All (λ r. IsVector x.q x.m r) base
    → All (λ r. IsVector x.q x.m r) factors
    → IsSameClear x base factors

-- the words of two factors are clear or not
abbrev pub ClearOrNot : Strata → Type 0
ClearOrNot x = (base factors : List (List ℕ))
    → clear_of x base factors + unclear_of x base factors ≡ pairs x.q (length factors)

-- whether a sum is live is read from the tally of the rows, at weights 1 and 2
abbrev pub LiveByTallies : Strata → Type 0
LiveByTallies x = (rows : List ℕ) (r : ℕ)
    → x.h ≤ x.m
    → r < x.q ^ x.m
    → is_live x rows (digits x.q x.m r)
    ≡ (not (nat_lt r (x.q ^ x.h)) && ((sums_at x rows 1 r == 0) && nat_lt (sums_at x rows 2 r) 2))

-- words of two factors of a canonical design, or of its first rows, are clear that alone have their sum, which is not in
-- the base
abbrev pub ClearByTallies : Strata → Type 0
ClearByTallies x = (rows : List ℕ)
    → count_by (λ r. is_clear_sum x rows (digits x.q x.m r)) (range_with_len 0 (x.q ^ x.m)) + unclear x rows
    ≡ pairs x.q (length rows)

-- each design below a prefix has so many that are not clear; more where it has no constant words of three factors
abbrev pub UnclearBelow : Strata → Type 0
UnclearBelow x = (c s : List ℕ) (none : Bool)
    → IsDesign x (c ++ s)
    → has_units x c ≡ true
    → (none ≡ true → words x (c ++ s) false 3 ≡ 0)
    → unclear_floor x none c ≤ unclear x (c ++ s)

-- no canonical design is below a prefix without room
abbrev pub NoneWithoutRoom : Strata → Type 0
NoneWithoutRoom x = (c s : List ℕ)
    → has_no_room x c ≡ true
    → IsDesign x (c ++ s)
    → ⊥

-- none below a prefix whose key, or floor, is not less than a key has a less one
abbrev pub NoneBelow : Strata → Order → Type 0
NoneBelow x order = (c s key : List ℕ)
    → (does_not_beat x order (Some key) c || cannot_beat x order (Some key) c) ≡ true
    → IsDesign x (c ++ s)
    → is_less (key_of order (figures x (c ++ s))) key ≡ false

-- no design is better than what is claimed
abbrev pub NoneBetter : Claim → Type 0
NoneBetter x = (blocks factors : List (List ℕ))
    → IsStratified x.strata blocks factors
    → is_better x.beat (key_of_design x.strata x.order blocks factors) ≡ false

-- a design with as many words of each kind and weight as another, and as many clear ones
pub record IsAlike (x : Strata) (blocks factors others rows : List (List ℕ)) : Type 0 where
  pub design : IsStratified x others rows
  pub words : (confounded : Bool) (k : ℕ)
      → words_of x (base_of x others rows) rows confounded k ≡ words_of x (base_of x blocks factors) factors confounded k
  pub unclear : unclear_of x (base_of x others rows) rows ≡ unclear_of x (base_of x blocks factors) factors

-- what holds where the run indexes of a design are changed, where its rows are multiplied by codes that are not 0, and
-- with inside factors where it has other block rows
pub record HoldsIsomorphic (x : Strata) (Holds : List (List ℕ) → List (List ℕ) → Type 0)
    (blocks factors : List (List ℕ)) : Type 0 where
  pub change : (a : List ℕ → List ℕ)
      → IsChange x.q x.m a
      → Holds (map a blocks) (map a factors)
  pub multiples : (bs cs : List ℕ)
      → AreScalars x.q bs
      → AreScalars x.q cs
      → length bs ≡ length blocks
      → length cs ≡ length factors
      → Holds (scaled x.q bs blocks) (scaled x.q cs factors)
  pub others : 0 < x.w
      → (others : List (List ℕ))
      → All (λ r. IsVector x.q x.m r) others
      → Holds others factors

-- isomorphic designs are alike
abbrev pub IsomorphicAreAlike : Strata → Type 0
IsomorphicAreAlike x = (blocks factors : List (List ℕ))
    → IsStratified x blocks factors
    → HoldsIsomorphic x (IsAlike x blocks factors) blocks factors

-- so they have one key
abbrev pub AlikeHaveOneKey : Strata → Order → Type 0
AlikeHaveOneKey x order = (blocks factors others rows : List (List ℕ))
    → IsAlike x blocks factors others rows
    → key_of_design x order others rows ≡ key_of_design x order blocks factors

-- and are of least key where one is
abbrev pub IsomorphicAreLeast : Strata → Order → Type 0
IsomorphicAreLeast x order = (blocks factors : List (List ℕ))
    → IsLeast x order blocks factors
    → HoldsIsomorphic x (IsLeast x order) blocks factors

-- what passes the test is a canonical design
abbrev pub DesignsAreTested : Strata → Type 0
DesignsAreTested x = (rows : List ℕ)
    → is_design x rows ≡ true
    → IsDesign x rows

-- rows that pass the test, whose key a good book is about, are a design of least key
abbrev pub LeastOfAll : Claim → Type 0
LeastOfAll x = (rows : List ℕ)
    → is_design x.strata rows ≡ true
    → x.beat ≡ Some (key_of x.order (figures x.strata rows))
    → IsLeast x.strata x.order (base x.strata) (vectors_of x.strata.q x.strata.m rows)

-- designs with another number of factors outside the base
abbrev pub with_outside : Strata → ℕ → Strata
with_outside x n = record { q = x.q; m = x.m; h = x.h; w = x.w; n = n }

-- a design without its last factors is one of fewer factors
abbrev pub FewerFactors : Strata → Type 0
FewerFactors x = (n : ℕ) (blocks factors : List (List ℕ))
    → n ≤ x.n
    → IsStratified x blocks factors
    → IsStratified (with_outside x n) blocks (take (x.w + n) factors)
