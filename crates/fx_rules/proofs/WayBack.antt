-- What is printed of the rules of a matrix is read as this matrix.
use Rattle.std.proofs.Common.{ℕ, ◌≡◌, ◌+◌, List, [], ◌∷◌, length, map}
use Rattle.std.proofs.Common.{refl, ◌∙◌, arith, rules, length-append}
use Rattle.std.specs.Prelude.{Result, Ok, Err, codes}
use Rattle.std.specs.List.{range_with_len}
use Rattle.std.proofs.lemmas.List.{length-map}
use Rattle.std.proofs.lemmas.List.FromFn.{length-range_with_len}
use Rattle.fx_vectors.specs.declared.shape.Shape.{Shape}
use Rattle.fx_vectors.specs.Shape.{dimensions_of}
use Rattle.fx_vectors.proofs.Limits.{indexes_fit, order-bounds}
use Rattle.fx_components.specs.Lines.{or_none}
use Rattle.fx_alias.specs.Rules.{block_factor, block_name, block_names, factor, rule_lines, rules_section, subjects}
use Rattle.fx_rules.specs.declared.problem.Problem.{Problem}
use Rattle.fx_rules.specs.declared.reading.Stage.TheVariants as stage
use Rattle.fx_rules.specs.Building.{Built, nothing_built}
use Rattle.fx_rules.specs.Reading.{at_stage, matrix_of_rules, placed, read_on}
use Rattle.fx_rules.specs.Laws.{AreFactors, IsGiven, WayBack}
use Rattle.fx_rules.proofs.Moving.{Moves, closes, letters, moves_on, passes}
use Rattle.fx_rules.proofs.ReadLines.{Completed, Known, Ready, Sound, all_read}
use Rattle.fx_rules.proofs.ReadNames.{subjects_are}

module _ (shape : Shape) (factors : List (List ℕ)) where
  pub front_ready : Ready shape factors (at_stage stage.Front (nothing_built shape)) 0 [] []
  front_ready = record {
    base = nothing_built shape;
    opens = λ place word w e. (rw (w.no_none, e));
    ends = refl;
    shape_is = refl;
    behind = omega arith;
    codes = [];
    last = 0;
    filled = refl;
  }

  -- the keyword
  pub head_read : Moves factors [] (at_stage stage.Head (nothing_built shape)) (codes "rules\n") []
      (at_stage stage.Front (nothing_built shape))
  head_read =
      let head = at_stage stage.Head (nothing_built shape) in
      let front = at_stage stage.Front (nothing_built shape) in
      moves_on factors [] _ [] head head front (codes "rules") (codes "\n")
      (letters factors (codes "rules") head refl)
      (closes factors 114 10 (codes "ules") head front front refl refl refl refl)

  -- that there are no rules
  none_read : Moves factors [] (at_stage stage.Front (nothing_built shape)) (codes "  none\n") []
      (at_stage stage.Nothing (nothing_built shape))
  none_read =
      let front = at_stage stage.Front (nothing_built shape) in
      let nothing = at_stage stage.Nothing (nothing_built shape) in
      moves_on factors [] [] [] front front nothing (codes "  ") (codes "none\n")
      (moves_on factors [] [] [] front front front (codes " ") (codes " ") (passes factors 32 front front refl refl)
      (passes factors 32 front front refl refl))
      (moves_on factors [] _ [] front front nothing (codes "none") (codes "\n")
      (letters factors (codes "none") front refl)
      (closes factors 110 10 (codes "one") front nothing nothing refl refl refl refl))

  -- no problem has no place
  elsewhere : (a b : ℕ) (x : Result Built Problem) (built : Built) → placed a x ≡ Ok built → placed b x ≡ Ok built
  elsewhere a b (Ok y) built e = e
  elsewhere a b (Err p) built e = absurd (search (rules, e))

  lines_read : (lines rows : List ℕ) → Completed shape factors (at_stage stage.Front (nothing_built shape)) lines rows
      → Completed shape factors (at_stage stage.Front (nothing_built shape)) (or_none lines) rows
  lines_read [] rows c = record {
    built = c.built;
    shape_is = c.shape_is;
    rows_are = c.rows_are;
    read = λ at.
        (let m = none_read [] at in
        cc (elsewhere at m.0 _ c.built (c.read at)));
  }
  lines_read (b ∷ lines) rows c = c

  pub way_back : (rows : List ℕ) → AreFactors shape factors → IsGiven shape rows → WayBack shape factors rows
  unfolding matrix_of_rules
  way_back rows names given =
      let sh = given.matrix.shaped in
      let bounds = order-bounds shape.q sh.order in
      let sound : Sound shape factors = record {
        some = omega arith;
        nine = bounds.1;
        ten = indexes_fit shape sh;
      } in
      let subs = subjects factors (block_names shape.t) in
      let many : length subs ≡ shape.s + shape.t =
      length-append (map factor factors) (map block_factor (block_names shape.t))
      ∙ (let a = length-map factors factor in let b = length-map (block_names shape.t) block_factor in
      let c = length-map (range_with_len 1 shape.t) block_name in let e = length-range_with_len 1 shape.t in
      omega arith) in
      let known : Known shape factors 0 [] [] [] = record { long = refl; few = omega arith; mean = tt; less = tt } in
      let all = all_read shape factors sound subs rows 0 [] [] [] (at_stage stage.Front (nothing_built shape))
      (subjects_are shape factors sh names) (omega arith) given.matrix.below given.stepped known
      front_ready in
      let lines = lines_read (rule_lines shape.q shape.m [] subs rows) rows all in
      let text = or_none (rule_lines shape.q shape.m [] subs rows) in
      let front = head_read text 0 in
      let read : read_on factors [] 0 (rules_section (dimensions_of shape) factors rows)
      (at_stage stage.Head (nothing_built shape)) ≡ Ok lines.built = cc (lines.read front.0) in
      cc (read, lines.shape_is, lines.rows_are)
