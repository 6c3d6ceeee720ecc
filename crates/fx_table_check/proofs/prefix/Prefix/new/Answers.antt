use Rattle.std.proofs.Common.{◌≡◌, ◌≤◌, ◌+◌, ℕ, [], length, take}
use Rattle.std.proofs.Common.{sym, subst, ap, ◌∙◌, arith}
use Rattle.fx_table_book.specs.Tables.{strata_of}
use Rattle.fx_table_check.specs.Counts.{cosets, confounded_at}
use Rattle.std.proofs.lemmas.List.{get_or-replicate, take_all}
use Rattle.fx_table_book.specs.declared.base.Base.{Base}
use Rattle.fx_points.specs.Sums.{SumsView}
use Rattle.fx_table_check.proofs.prefix.Prefix.new.Goals as goal

pub invariant_of-result : goal.invariant_of-result
invariant_of-result c =
    let r = c.in_ok-rows.ensures in
    let m = c.in_ok-cosets.ensures in record {
      valid = c.requires;
      shape = ap (λ v. v.shape) r ∙ c.shape.ensures.shape;
      others_shape = c.in_ok-of.ensures ∙ c.shape-3.ensures.shape;
      sums_are = c.in_ok-of-2.ensures
          ∙ ap (sums-of c.args.base.m) (c.field.ensures ∙ ap (λ s. s.q) c.shape-4.ensures.shape);
      coset_shape = ap (λ v. v.shape) m ∙ c.shape-2.ensures.shape;
      cosets = ap (λ v. v.rows) m ∙ ap (λ v. cosets (strata_of c.args.base) v.rows)
          (sym r);
      few = subst (λ v. length v.rows ≤ c.args.base.w + c.args.base.n) (sym r) (omega arith);
      inside = λ i at late.
          get_or-replicate 63 i 0 0 (omega (arith, at, c.requires.shaped.factors))
          ∙ none c.args.base i
          ∙ ap (λ v. confounded_at (strata_of c.args.base) (take c.args.base.w v.rows) i) (sym r);
    }
  where
    sums-of : ℕ → ℕ → SumsView
    sums-of m q = record { q = q; m = m }

    take-none : (k : ℕ) → take {A = ℕ} k [] ≡ []
    take-none k = take_all k [] (omega arith)

    none : (base : Base) (i : ℕ) → ◌≡◌ {A = ℕ} 0 (confounded_at (strata_of base) (take base.w []) i)
    none base i =
        (omega arith) ∙ ap (λ l. confounded_at (strata_of base) l i) (sym (take-none base.w))
