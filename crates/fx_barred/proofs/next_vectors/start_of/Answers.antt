use Rattle.std.proofs.Common.{◌*◌, ltb, List, slice_index_or, arith, rules, inl, inr}
use Rattle.std.specs.List.Sorted.{IsNonDecreasingBy}
use Rattle.std.proofs.lemmas.Bool.{ltb-true, cases_lt, lt-ltb, both_ways}
use Rattle.std.proofs.lemmas.List.Sorted.{IsPartitionPoint-from_clause, IsPartitionedBy-ltb}
use Rattle.fx_demands.specs.declared.forbidden_list.ForbiddenVector.{ForbiddenVector}
use Rattle.fx_demands.specs.EffectVectors.{IsInOrder}
use Rattle.fx_barred.proofs.next_vectors.start_of.Goals as goal

classes : (words : List ForbiddenVector) → IsInOrder words → IsNonDecreasingBy (λ w. w.class) words
classes words order i j d le low =
    elim (order i j d le low) [ inl less ↦ omega arith | inr same ↦ omega arith ]

pub returns-clause-before : goal.returns-clause-before
returns-clause-before c =
    let parted = IsPartitionedBy-ltb (λ p. p.class) _ (64 * c.args.last) (classes _ c.requires.order) in
    let point =
    IsPartitionPoint-from_clause (λ p. ltb p.class (64 * c.args.last)) _ _ c.partition_point.ensures.partitioned
    parted (λ a r q k. search rules) in
    λ k d h. ltb-true _ _ (point.0 k d (omega arith) h)

pub returns-clause-after : goal.returns-clause-after
returns-clause-after c =
    let parted = IsPartitionedBy-ltb (λ p. p.class) _ (64 * c.args.last) (classes _ c.requires.order) in
    let point =
    IsPartitionPoint-from_clause (λ p. ltb p.class (64 * c.args.last)) _ _ c.partition_point.ensures.partitioned
    parted (λ a r q k. search rules) in
    λ k d le low. (elim (cases_lt (slice_index_or c.args.words.now k d).class (64 * c.args.last)) [
      | inl less ↦ absurd (both_ways _ (point.1 k d le low) (lt-ltb _ _ less))
      | inr not_less ↦ not_less
    ])
