use Rattle.std.proofs.Common.{ℕ, ◌≡◌, ◌+◌, ◌-◌, ◌≤◌, ◌++◌, List, length-drop, take, drop, sym, ap, subst, ◌∙◌, arith}
use Rattle.std.specs.List.{slice_range}
use Rattle.std.proofs.Math.Seq.{take-add}
use Rattle.std.proofs.lemmas.List.{drop-drop, take-append-drop, take_all}
use Rattle.std.proofs.lemmas.Grind.{flat_map-append}
use Rattle.fx_plan.specs.Tables.{text_of}
use Rattle.fx_program.specs.Outside.{Fills, shelf_view}
use Rattle.fx_program.proofs.Filling.{FilledSoFar, filled_all, filled_first, filled_more, filled_none, filled_stopped}
use Rattle.fx_program.proofs.Filling.{filled_then}
use Rattle.fx_program.proofs.streaming.fill_rows.Goals as goal

-- rows from one on, and the next ones
more_rows : (rows : List (List (List ℕ))) (from at next : ℕ) → from ≤ at → at ≤ next
    → text_of (take (at - from) (drop from rows)) ++ text_of (slice_range rows at next)
    ≡ text_of (take (next - from) (drop from rows))
more_rows rows from at next after low =
    let m : ℕ = at - from in
    let n : ℕ = next - at in
    let there : from + m ≡ at = omega arith in
    let all : m + n ≡ next - from = omega arith in
    sym (flat_map-append _ (take m (drop from rows)) (slice_range rows at next))
    ∙ ap (λ (k : ℕ). text_of (take m (drop from rows) ++ take n (drop k rows))) (sym there)
    ∙ ap (λ (l : List (List (List ℕ))). text_of (take m (drop from rows) ++ take n l)) (sym (drop-drop m from rows))
    ∙ ap text_of (sym (take-add m n (drop from rows)))
    ∙ ap (λ (k : ℕ). text_of (take k (drop from rows))) all

-- and all others
other_rows : (rows : List (List (List ℕ))) (from at : ℕ)
    → text_of (take (at - from) (drop from rows)) ++ text_of (drop (at - from) (drop from rows))
    ≡ text_of (drop from rows)
other_rows rows from at =
    sym (flat_map-append _ (take (at - from) (drop from rows)) (drop (at - from) (drop from rows)))
    ∙ ap text_of (take-append-drop (at - from) (drop from rows))

pub loop-at-init : goal.loop-at-init
loop-at-init g c =
    let none : c.args.from - c.args.from ≡ 0 = omega arith in
    record {
      after = omega arith;
      within = c.requires.within;
      filled = rw none (filled_none _ c.requires.begun);
    }

pub loop-at-preserved : goal.loop-at-preserved
loop-at-preserved g c =
    let rows : List (List (List ℕ)) = c.args.plan.now.rows in
    let from : ℕ = c.args.from in
    let at : ℕ = c.loop-at.at in
    let next : ℕ = at + c.min.result in
    let made = c.as_slice.ensures ∙ c.in_ok-text.ensures in
    let after : from ≤ at = c.loop-at.invariant.after in
    record {
      after = omega arith;
      within = omega arith;
      filled =
          subst (λ (l : List ℕ). FilledSoFar l (shelf_view g.F.Shelf c.args.shelf.now) (shelf_view g.F.Shelf c.fill.new.shelf))
          (more_rows rows from at next after (omega arith))
          (filled_more c.loop-at.invariant.filled (rw made at c.in_ok-fill.ensures));
    }

pub returns-in_err-text : goal.returns-in_err-text
returns-in_err-text g c =
    let rows : List (List (List ℕ)) = c.args.plan.now.rows in
    let from : ℕ = c.args.from in
    let at : ℕ = c.loop-at.at in
    let ended = c.from_residual.result in
    subst (λ (l : List ℕ). Fills l (shelf_view g.F.Shelf c.args.shelf.now) (shelf_view g.F.Shelf c.loop-at.shelf) ended)
    (other_rows rows from at)
    (filled_stopped (text_of (drop (at - from) (drop from rows))) c.loop-at.invariant.filled ended
    c.from_residual.ensures.1)

pub returns-in_err-fill : goal.returns-in_err-fill
returns-in_err-fill g c =
    let rows : List (List (List ℕ)) = c.args.plan.now.rows in
    let from : ℕ = c.args.from in
    let at : ℕ = c.loop-at.at in
    let next : ℕ = at + c.min.result in
    let rest : List ℕ = text_of (drop (next - from) (drop from rows)) in
    let made = c.as_slice.ensures ∙ c.in_ok-text.ensures in
    let ended = c.from_residual-in_err-fill.result in
    let after : from ≤ at = c.loop-at.invariant.after in
    subst (λ (l : List ℕ). Fills l (shelf_view g.F.Shelf c.args.shelf.now) (shelf_view g.F.Shelf c.fill.new.shelf) ended)
    (other_rows rows from next)
    (subst (λ (l : List ℕ). Fills (l ++ rest) (shelf_view g.F.Shelf c.args.shelf.now)
    (shelf_view g.F.Shelf c.fill.new.shelf) ended)
    (more_rows rows from at next after (omega arith))
    (filled_first rest c.in_err-fill.field-0.0
    (filled_then c.loop-at.invariant.filled (rw made at c.in_err-fill.ensures)) ended
    c.from_residual-in_err-fill.ensures.1))

pub returns : goal.returns
returns g c =
    let rows : List (List (List ℕ)) = c.args.plan.now.rows in
    let from : ℕ = c.args.from in
    let long = length-drop from rows in
    filled_all tt
    (subst (λ (l : List ℕ). FilledSoFar l (shelf_view g.F.Shelf c.args.shelf.now) (shelf_view g.F.Shelf c.loop-at.shelf))
    (ap text_of (take_all (c.loop-at.at - from) (drop from rows) (omega (arith, long)))) c.loop-at.invariant.filled)
