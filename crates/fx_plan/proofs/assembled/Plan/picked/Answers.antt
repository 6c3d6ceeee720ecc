use Rattle.std.proofs.Common.{rules, ℕ, ◌≡◌, ◌<◌, ◌∷◌, ◌++◌, [], ◌∙◌, List, All, length, map, get_or, refl, sym, ap}
use Rattle.std.proofs.Common.{subst}
use Rattle.std.proofs.Common.{append-nil, append_assoc}
use Rattle.std.specs.Vec.Iter.{into_iter_items, into_iter_len}
use Rattle.std.proofs.lemmas.List.{map-append, nil_from_length}
use Rattle.std.proofs.lemmas.List.Elements.{All-map}
use Rattle.fx_derived.specs.Tables.{TableView}
use Rattle.fx_plan.specs.Parts.{side_by_side}
use Rattle.fx_plan.specs.Products.{picked}
use Rattle.fx_plan.proofs.Parts.{count, long, picked_each, seam_long}
use Rattle.fx_plan.proofs.assembled.Plan.picked.Goals as goal

pub loop-part-init : goal.loop-part-init
loop-part-init c = record { parts = c.new-parts.ensures; whole = refl }

pub picked-requires : goal.picked-requires
picked-requires c =
    let a = c.self.inside in
    let rest = into_iter_items c.next.new.self in
    let next : into_iter_items c.loop-part.part-iterator ≡ c.in-Some.part ∷ rest = search rules in
    let start : into_iter_items c.into_iter-part-iterator.result ≡ a.parts = search rules in
    let all : a.parts ≡ c.loop-part.yielded ++ c.in-Some.part ∷ rest =
    cc c.loop-part.invariant.whole in
    let own : a.len ≡ length c.args.self.rows =
    cc (long a.len a.parts, c.self.view_is) in
    rw (seam_long a.len a.parts c.loop-part.yielded rest c.in-Some.part all c.self.invariant ∙ own) c.requires

pub loop-part-preserved : goal.loop-part-preserved
loop-part-preserved c =
    let by = c.args.by.now in
    let rest = into_iter_items c.next.new.self in
    let next : into_iter_items c.loop-part.part-iterator ≡ c.in-Some.part ∷ rest = search rules in
    let more : c.push.new.self ≡ c.loop-part.parts ++ picked by c.in-Some.part ∷ [] = search rules in
    record {
      parts = cc (c.loop-part.invariant.parts, map-append (picked by) c.loop-part.yielded (c.in-Some.part ∷ []));
      whole = cc (append_assoc c.loop-part.yielded (c.in-Some.part ∷ []) rest, c.loop-part.invariant.whole);
    }

pub invariant_of-result : goal.invariant_of-result
invariant_of-result c =
    let by = c.args.by.now in
    subst (All (λ (t : TableView). length t.rows ≡ length by)) (sym c.loop-part.invariant.parts)
    (All-map (λ (t : TableView). length t.rows ≡ length by) (picked by) c.loop-part.yielded
    (λ k d low.
    let t = get_or c.loop-part.yielded k d in
    count by t (picked by t) refl))

pub returns : goal.returns
returns c =
    let a = c.self.inside in
    let by : List ℕ = c.args.by.now in
    let steps : into_iter_len c.loop-part.part-iterator ≡ length (into_iter_items c.loop-part.part-iterator) =
    search rules in
    let none : into_iter_items c.loop-part.part-iterator ≡ [] =
    nil_from_length (into_iter_items c.loop-part.part-iterator) (sym steps ∙ c.in-None.ensures.steps.0) in
    let start : into_iter_items c.into_iter-part-iterator.result ≡ a.parts = search rules in
    let all : c.loop-part.yielded ≡ a.parts =
    cc (append-nil c.loop-part.yielded, none, c.loop-part.invariant.whole, start) in
    let own =
    sym (long a.len a.parts) ∙ ap (λ t. length t.rows) c.self.view_is in
    let there : All (λ i. i < a.len) by = rw own c.requires in
    ap (side_by_side (length by)) (c.loop-part.invariant.parts ∙ ap (map (picked by)) all)
    ∙ picked_each by a.len a.parts there ∙ ap (picked by) c.self.view_is
