use Rattle.std.proofs.Common.{◌≡◌, ◌<◌, ◌∙◌, length, sym, ap, arith}
use Rattle.std.proofs.lemmas.List.{get_or_default}
use Rattle.csv.proofs.RecordFacts.{cut-length, field-bounds}
use Rattle.fx_derived.proofs.Cutting.{piece_at}
use Rattle.fx_derived.proofs.pieces.Pieces.get.Goals as goal
use Rattle.fx_derived.proofs.pieces.Pieces.get.Goals.{After-self}

low : (c : After-self) → c.args.i < length c.self.inside.ends.items
low c =
    let n : length c.args.self.now ≡ length c.self.inside.ends.items =
    rw (← c.self.view_is) (cut-length 0 c.self.inside.ends.items c.self.inside.bytes.items) in
    omega arith

pub start_of-start-requires : goal.start_of-start-requires
start_of-start-requires c = low c

pub index-requires : goal.index-requires
index-requires c = let here = low (goal.at.index-requires c).After-self in omega arith

pub slice_bounds-result-count : goal.slice_bounds-result-count
slice_bounds-result-count c =
    let here = low (goal.at.slice_bounds-result-count c).After-self in
    let f = field-bounds 0 c.self.inside.ends.items _ c.args.i c.self.invariant.rising
    here in
    let e =
    c.index.ensures ∙ get_or_default c.self.inside.ends.items c.args.i c.index.result.now 0 here in
    omega arith

pub slice_bounds-result-start : goal.slice_bounds-result-start
slice_bounds-result-start c =
    let here = low (goal.at.slice_bounds-result-start c).After-self in
    let f = field-bounds 0 c.self.inside.ends.items _ c.args.i c.self.invariant.rising
    here in
    let e =
    c.index.ensures ∙ get_or_default c.self.inside.ends.items c.args.i c.index.result.now 0 here in
    omega (arith, ap length c.as_slice.ensures.value)

pub slice_bounds-result-end : goal.slice_bounds-result-end
slice_bounds-result-end c =
    let here = low (goal.at.slice_bounds-result-end c).After-self in
    let f = field-bounds 0 c.self.inside.ends.items _ c.args.i c.self.invariant.rising
    here in
    let e =
    c.index.ensures ∙ get_or_default c.self.inside.ends.items c.args.i c.index.result.now 0 here in
    omega (arith, ap length c.as_slice.ensures.value)

pub returns : goal.returns
returns c =
    let here = low (goal.at.returns c).After-self in
    let e =
    c.index.ensures ∙ get_or_default c.self.inside.ends.items c.args.i c.index.result.now 0 here in
    rw (← c.self.view_is, c.as_slice.ensures.value, c.start_of-start.ensures, e)
    (sym (piece_at c.self.inside.bytes.items c.self.inside.ends.items c.args.i here))
