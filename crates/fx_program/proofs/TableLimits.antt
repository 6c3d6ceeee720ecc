-- What the limits of a table say of its lines.
use Rattle.std.proofs.Common.{ℕ, eqb, ◌<◌, ◌≤◌, ◌+◌, ◌-◌, ◌^◌, false, inl, inr, refl}
use Rattle.std.proofs.Common.{arith, IsTrue}
use Rattle.std.specs.Prelude.{nat_le}
use Rattle.std.proofs.lemmas.Bool.{cases_Bool, cond-false, cond-true, leb-true}
use Rattle.std.proofs.Math.Nat.{pow-le-pow_right}
use Rattle.fx_designs.specs.Galois.{is_order}
use Rattle.fx_settings.specs.Powers.{greatest}
use Rattle.fx_statements.specs.Valid.{most_factors_of}
use Rattle.fx_vectors.specs.declared.shape.Shape.{Shape}
use Rattle.fx_vectors.proofs.Limits.{words_fit}
use Rattle.fx_table_book.specs.Tables.{IsBase}
use Rattle.fx_program.proofs.CatalogueLines.{at_order, levels, more_than_one, shape_within}
use Rattle.fx_program.specs.declared.table_words.AskedTable.{AskedTable}
use Rattle.fx_program.specs.TableWords.{IsAsked, first_line}
use Rattle.fx_program.specs.Tables.{base_at}

some_factors : (q : ℕ) → IsTrue (is_order q) → 1 ≤ most_factors_of q false
some_factors q h =
    leb-true 1 (most_factors_of q false) (at_order levels (λ q. nat_le 1 (most_factors_of q false)) q refl h)

few_indexes : (q : ℕ) → IsTrue (is_order q) → 1 ≤ greatest q
few_indexes q h = leb-true 1 (greatest q) (at_order levels (λ q. nat_le 1 (greatest q)) q refl h)

-- the words over so many factors are fewer than 2^127
pub all_words_fit : (q : ℕ) → IsTrue (is_order q) → (n : ℕ) → n ≤ most_factors_of q false → q ^ n < 2 ^ 127
all_words_fit q known n within =
    let most : Shape = record { q = q; m = 1; s = most_factors_of q false; t = 0 } in
    words_fit most
    (shape_within q 1 (most_factors_of q false) known (omega arith) (few_indexes q known) (some_factors q known)
    (omega arith))
    n (omega (arith, within))

-- the first line has some factor outside the base
some_outside : (asked : AskedTable) → IsAsked asked → 1 ≤ first_line asked
some_outside asked h =
    elim (cases_Bool (eqb asked.h 0)) [
      | inl none ↦ omega (arith, cond-true (eqb asked.h 0) (asked.m + 1) (asked.m - asked.h) none)
      | inr some ↦
          omega (arith, cond-false (eqb asked.h 0) (asked.m + 1) (asked.m - asked.h) some, h.numbers.groups)
    ]

-- the lines of a table are of designs within the limits
pub base_within : (asked : AskedTable) (n : ℕ) → IsAsked asked → first_line asked ≤ n → n ≤ asked.upto
    → IsBase (base_at asked n)
base_within asked n h low high = record {
  shaped =
      shape_within asked.q asked.m (asked.inside + n) h.numbers.levels h.numbers.indexes.0 h.numbers.indexes.1
      (omega (arith, low, some_outside asked h)) (omega (arith, high, h.factors));
  inside = omega (arith, h.numbers.groups);
  few_words = (let up = pow-le-pow_right {n = asked.q} (more_than_one asked.q h.numbers.levels)
      {i = asked.inside + n} {j = asked.upto + asked.inside} (omega (arith, high)) in
      omega (arith, up, h.few_words));
}
