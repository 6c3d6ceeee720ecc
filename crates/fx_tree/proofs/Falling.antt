-- Rows that fall after all unit vectors.
use Rattle.std.proofs.Common.{ℕ, ◌≡◌, ◌<◌, ◌+◌, ◌-◌, ◌^◌, Bool, true, false, not, ◌&&◌, ◌||◌, eqb, ltb, min, refl, ap}
use Rattle.std.proofs.Common.{arith}
use Rattle.std.proofs.Math.Dec.{leb}
use Rattle.std.proofs.lemmas.Bool.{lt-ltb, le-ltb, le-leb, lt-leb}
use Rattle.fx_designs.specs.Galois.{digits}
use Rattle.fx_designs.specs.Vectors.{is_normal}
use Rattle.fx_designs.specs.Canonical.{is_unit}
use Rattle.fx_designs.specs.Problems.{Dimensions, Requirement}
use Rattle.fx_tree.specs.declared.front.Front.{Front}
use Rattle.fx_tree.specs.Following.{follows, keeps_order, Falls, may_fall}

turned : (f z u o : Bool) → (f && (z && (u && o))) ≡ ((z && (f && u)) && o)
turned true true u o = refl
turned true false u o = refl
turned false true u o = refl
turned false false u o = refl

or_true : (b c : Bool) → c ≡ true → (b || c) ≡ true
or_true true c h = refl
or_true false c h = h

-- of the tests of a row only that it is a later one, and that it falls, are left
pub may_fall-follows : (d : Dimensions) (wanted : Requirement) (front : Front) (row : ℕ) → Falls d wanted front
    → row < d.q ^ d.m → follows d wanted front row ≡ may_fall d front row
may_fall-follows d wanted front row h below =
    let room : ltb front.count (d.s + d.t) ≡ true = lt-ltb front.count (d.s + d.t) (omega (arith, h.part)) in
    let low : ltb row (d.q ^ d.m) ≡ true = lt-ltb row (d.q ^ d.m) below in
    let inside : ltb row (d.q ^ front.rank) ≡ true = cc (h.rank, low) in
    let least : min d.s d.m ≡ d.m = omega (arith, h.units, h.part) in
    let reach : (ltb d.s (front.count + 1) || leb (min d.s d.m) (front.rank + (d.s - (front.count + 1)))) ≡ true =
    or_true (ltb d.s (front.count + 1)) (leb (min d.s d.m) (front.rank + (d.s - (front.count + 1))))
    (le-leb (min d.s d.m) (front.rank + (d.s - (front.count + 1))) (omega (arith, h.rank, least))) in
    let part : leb d.s front.count ≡ false = lt-leb d.s front.count h.part in
    let past : ltb front.count (min d.s d.m) ≡ false =
    le-ltb front.count (min d.s d.m) (omega (arith, least, h.units)) in
    let count : eqb front.count (min d.s d.m) ≡ eqb front.count d.m = ap (eqb front.count) least in
    let fits : Bool = eqb row 0 || is_normal (digits d.q d.m row) in
    let order : Bool = keeps_order d wanted front.count front.last row in
    let unit : Bool = is_unit d row in
    cc (
      room,
      low,
      inside,
      reach,
      h.order row,
      part,
      past,
      count,
      turned fits (ltb 0 row) (not unit) (eqb front.count d.m || ltb row front.last),
    )
