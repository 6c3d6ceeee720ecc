-- The shapes of rule matrices, and what a change makes of rows.
use Rattle.std.proofs.Common.{ℕ, ◌≡◌, ◌<◌, ◌≤◌, ◌+◌, ◌^◌, List, length, ◌∙◌, arith, inl, inr, eqb}
use Rattle.std.proofs.lemmas.Bool.{cases_Bool, cond-true, cond-false}
use Rattle.std.proofs.lemmas.List.{length-map}
use Rattle.fx_designs.specs.Galois.{IsField, digits}
use Rattle.fx_designs.specs.Vectors.{vectors_of}
use Rattle.fx_designs.specs.Runs.{levels_at}
use Rattle.fx_designs.specs.Problems.{Dimensions}
use Rattle.fx_laws.proofs.Codes.{number-below}
use Rattle.fx_laws.proofs.Space.{scale-vector}
use Rattle.fx_laws.proofs.Forms.{normal_factor}
use Rattle.fx_vectors.specs.Shape.{IsShape}
use Rattle.fx_vectors.proofs.Limits.{indexes_fit}
use Rattle.fx_strata.specs.Changes.{moved}
use Rattle.fx_strata.proofs.Change.{by-vector}
use Rattle.fx_strata.specs.Designs.{Strata}
use Rattle.fx_table_book.specs.declared.base.Base.{Base}
use Rattle.fx_table_book.specs.Tables.{shape_of, strata_of, IsBase}
use Rattle.fx_table_rules.specs.Rules.{block_factors, rule_shape}

pub few-blocks : (x : Strata) → block_factors x ≤ x.h
few-blocks x = elim (cases_Bool (eqb x.w 0)) [
  | inl t ↦ (let e : block_factors x ≡ x.h = cond-true (eqb x.w 0) x.h 0 t in omega arith)
  | inr o ↦ (let e : block_factors x ≡ 0 = cond-false (eqb x.w 0) x.h 0 o in omega arith)
]

pub rule-shape : (base : Base) → IsBase base → (0 < block_factors (strata_of base) → base.w + base.n ≤ 30)
    → IsShape (rule_shape base)
rule-shape base h few = record {
  order = h.shaped.order;
  some_indexes = h.shaped.some_indexes;
  runs = h.shaped.runs;
  some_factors = h.shaped.some_factors;
  factors = h.shaped.factors;
  factors_of_many_levels = h.shaped.factors_of_many_levels;
  block_factors =
      (let short = indexes_fit (shape_of base) h.shaped in
      let less = few-blocks (strata_of base) in
      let inside = h.inside in
      omega arith);
  factors_in_blocks = few;
}

pub moved-below : (d : Dimensions) (f : IsField d.q) (change : List ℕ) → length change ≡ d.m → (row : ℕ)
    → moved d change row < d.q ^ d.m
moved-below d f change count row =
    let v : List ℕ = levels_at d.q (vectors_of d.q d.m change) (digits d.q d.m row) in
    let c : ℕ = normal_factor d.q d.m f v in
    number-below d.q d.m _ (scale-vector d.q d.m f c v
    (by-vector d.q d.m f (vectors_of d.q d.m change) (length-map change (λ r. digits d.q d.m r) ∙ count)
    (digits d.q d.m row)))
