-- Keys where a word and its multiples count as one.
use Rattle.std.proofs.Common.{ℕ, ◌≡◌, ◌<◌, ◌+◌, ◌-◌, ◌*◌, ◌/◌, ◌%◌, true, ◌&&◌, List, [], ◌∷◌, ◌++◌}
use Rattle.std.proofs.Common.{map, length, take, get_or, slice_index, Some, sym, ◌∙◌, ap}
use Rattle.std.proofs.Common.{arith}
use Rattle.std.proofs.Math.Nat.{div-add-mod, mul_comm, mul-mod_left}
use Rattle.std.proofs.Math.Seq.{take-length}
use Rattle.std.specs.Prelude.{nat_le}
use Rattle.std.proofs.Common.{eqb, ◌||◌}
use Rattle.std.proofs.lemmas.Bool.{and_parts}
use Rattle.std.proofs.lemmas.Bool.Decides.{nat_tests}
use Rattle.std.proofs.lemmas.List.{take_more, map_push, length-append}
use Rattle.std.proofs.lemmas.List.Elements.{All-push}
use Rattle.fx_designs.specs.Galois.{IsField}
use Rattle.fx_strata.specs.Designs as designs
use Rattle.fx_strata.specs.Designs.{Strata, Order}
use Rattle.fx_strata.specs.Stages.{is_proper, is_design}
use Rattle.fx_strata.specs.Laws.{HasFactors}
use Rattle.fx_strata.proofs.Good.{least_of_all}
use Rattle.fx_table_book.specs.declared.order.Part.{Part}
use Rattle.fx_table_book.specs.Tables.{part_of, parts_of, multiplied, IsKey}
use Rattle.fx_strata.specs.Designs.{key_of}
use Rattle.fx_strata.specs.Canonical.{words, figures}
use Rattle.fx_table_book.specs.declared.base.Base.{Base}
use Rattle.fx_table_book.specs.declared.order.Part.TheVariants.{Constant, Confounded, Unclear}
use Rattle.fx_table_book.specs.Tables.{strata_of, IsBase, IsWeight}
use Rattle.fx_table_book.proofs.Bases.{field}
use Rattle.fx_table_check.specs.Goals.{value_at}
use Rattle.fx_table_check.specs.Keys.{IsLeastOf}
use Rattle.fx_table_check.proofs.Counts.{words-false, words-true}
use Rattle.fx_table_check.proofs.Multiples.{unclear-divides}
use Rattle.std.proofs.Common.{◌^◌, ◌≤◌, false}

-- the last row back
pub last-back : (rows : List ℕ) → 0 < length rows
    → take (length rows - 1) rows ++ slice_index rows (length rows - 1) ∷ [] ≡ rows
last-back rows some =
    sym (take_more rows (length rows - 1) 0 (omega arith))
    ∙ ap (λ k. take k rows) (let e : length rows - 1 + 1 ≡ length rows = omega arith in e) ∙ take-length rows

-- one entry more
pub divided-more : (q : ℕ) (f : designs.Part → ℕ) (parts : List Part) (i : ℕ) (d : Part) (key : List ℕ) (value c : ℕ)
    → c ≡ q - 1 → i < length parts → multiplied q key ≡ map f (parts_of (take i parts))
    → value ≡ f (part_of (get_or parts i d)) → value % c ≡ 0
    → multiplied q (key ++ value / c ∷ []) ≡ map f (parts_of (take (i + 1) parts))
divided-more q f parts i d key value c codes low before is whole =
    let part = get_or parts i d in
    let exact : (q - 1) * (value / c) ≡ f (part_of part) =
    cc (none (c * (value / c)) _ whole, div-add-mod value c) in
    cc (
      map_push (λ a. (q - 1) * a) key (value / c),
      take_more parts i d low,
      map_push part_of (take i parts) part,
      map_push f (parts_of (take i parts)) (part_of part),
    )
  where
    none : (a b : ℕ) → b ≡ 0 → a ≡ a + b
    none a b e = omega arith

-- and the key is still one that a book may have
pub valid-more : (q : ℕ) (key : List ℕ) (i value c : ℕ) → c ≡ q - 1 → value % c ≡ 0 → value < 2 ^ 127
    → IsKey q i (Some key) → (more : List ℕ) → more ≡ key ++ value / c ∷ [] → IsKey q (i + 1) (Some more)
valid-more q key i value c codes whole low valid more is =
    let exact : (q - 1) * (value / c) ≡ value =
    cc (none (c * (value / c)) _ whole, div-add-mod value c) in
    rw is (
      length-append key (value / c ∷ []) ∙ ap (λ k. k + 1) valid.0,
      All-push (λ a. (q - 1) * a < 2 ^ 127) key (value / c) valid.1 (rw (← exact) at low),
    )
  where
    none : (a b : ℕ) → b ≡ 0 → a ≡ a + b
    none a b e = omega arith

-- where a good book has the key to beat, the rows are least
pub least : (x : Strata) (f : IsField x.q) → 0 < x.w + x.n → HasFactors x → (order : Order) (rows key : List ℕ)
    → is_design x rows ≡ true → multiplied x.q key ≡ key_of order (figures x rows) → IsLeastOf x order rows (Some key)
least x f some many order rows key design h = λ entries good.
    least_of_all _ f some entries good many rows
    design (ap Some h)

-- what an entry counts is a multiple of q - 1
pub value-divides : (base : Base) → IsBase base → (rows : List ℕ)
    → ((i : ℕ) → i < length rows → slice_index rows i < base.q ^ base.m) → length rows ≤ base.w + base.n
    → (part : Part) → IsWeight (base.w + base.n) part → (k : ℕ) × (value_at base rows part ≡ (base.q - 1) * k)
value-divides base h rows low few (Constant weight) at = (
  _,
  ap (words (strata_of base) rows false) (let e : weight ≡ weight - 1 + 1 = omega arith in e)
      ∙ words-false (strata_of base) (field base h) h.inside rows low few (weight - 1) (omega arith),
)
value-divides base h rows low few (Confounded weight) at = (
  _,
  ap (words (strata_of base) rows true) (let e : weight ≡ weight - 1 + 1 = omega arith in e)
      ∙ words-true (strata_of base) (field base h) h.inside rows low few (weight - 1) (omega arith),
)
value-divides base h rows low few Unclear at = unclear-divides (strata_of base) (field base h) h.inside rows

pub nothing-left : (value c k : ℕ) → value ≡ c * k → value % c ≡ 0
nothing-left value c k is = cc (mul_comm c k, mul-mod_left k c)

-- where the numbers of a design fit, there are enough factors
pub has-factors : (x : Strata) → is_proper x ≡ true → HasFactors x
has-factors x t =
    let one = and_parts (nat_le x.h x.m) (nat_le x.m (x.h + x.n) && (eqb x.w 0 || nat_le x.h x.w)) t in
    let two = and_parts (nat_le x.m (x.h + x.n)) (eqb x.w 0 || nat_le x.h x.w) one.1 in
    let is = two.0 in grind (arith, nat_tests, is)
