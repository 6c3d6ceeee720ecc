use Rattle.std.proofs.Common.{◌<◌, ◌≤◌, ◌+◌, ◌-◌, ◌∷◌, [], ◌++◌, Err, refl, arith, sym, subst, ◌∙◌}
use Rattle.fx_program.specs.declared.stop.Stop.TheVariants as stop
use Rattle.fx_program.specs.Listings.{line_given}
use Rattle.fx_program.proofs.Endings.{ends_none}
use Rattle.fx_program.proofs.Listings as lines
use Rattle.fx_program.proofs.Listings.{listing, some_behind, some_lines}
use Rattle.fx_program.proofs.SoFar.{no_source, worse_low}
use Rattle.fx_program.proofs.Stages.{one_more_stage, stages_given, stopped_in_stage}
use Rattle.fx_program.proofs.lister.list_lines.Goals as goal

pub returns-in_err-list : goal.returns-in_err-list
returns-in_err-list g c =
    let members = g.L.Lines in
    let some =
    some_lines (members.some c.args.lines.now) (members.some_line c.args.lines.now) c.args.numbers.first
    (c.args.numbers.last + 1 - c.args.numbers.first)
    (λ k from below. c.requires.numbers k from (omega (arith, from, below))) in
    record {
      output = listing c.args.head.now some.lines;
      given = record { lines = some.lines; are = some.are; is = refl };
      writes = record {
        whatever = λ source.
            lines.stopped_in_head c.args.head.now some.lines c.in_err-list.field-0.0
            (c.in_err-list.ensures.output.whatever source _ c.requires.ended)
            c.from_residual.result c.from_residual.ensures.1;
      };
    }

pub loop-n-init : goal.loop-n-init
loop-n-init g c = record {
  low = omega arith;
  from = omega arith;
  closed = c.requires.ended;
  done = [];
  listed = lines.none_listed c.args.numbers.first c.args.numbers.last;
  given = λ source. lines.head_given c.args.head.now (c.in_ok-list.ensures.output.whatever source _ c.requires.ended);
}

pub line-requires-clause-number : goal.line-requires-clause-number
line-requires-clause-number g c =
    c.requires.numbers c.loop-n.n c.loop-n.invariant.from (omega (arith, c.loop-n-test.true))

pub returns-in_err-line : goal.returns-in_err-line
returns-in_err-line g c =
    let members = g.L.Lines in
    let n = c.loop-n.n in
    let upto : n ≤ c.args.numbers.last = omega (arith, c.loop-n-test.true) in
    let is = c.requires.numbers n c.loop-n.invariant.from upto in
    let one = members.some c.args.lines.now n is in
    let others =
    some_behind (members.some c.args.lines.now) (members.some_line c.args.lines.now) n c.args.numbers.last one
    (members.some_line c.args.lines.now n is) upto
    (λ k from below. c.requires.numbers k (omega (arith, c.loop-n.invariant.from, from)) below) in
    record {
      output = listing c.args.head.now (c.loop-n.invariant.done ++ one ∷ others.lines);
      given = record {
        lines = c.loop-n.invariant.done ++ one ∷ others.lines;
        are = lines.with_behind c.loop-n.invariant.listed one upto others;
        is = refl;
      };
      writes = record {
        whatever = λ source.
            stopped_in_stage ((c.loop-n.invariant.given source).go_on (one ∷ others.lines)) refl stop.NoMemory
            (ends_none _ (Err stop.NoMemory) refl _)
            c.from_residual-in_err-line.result c.from_residual-in_err-line.ensures.1;
      };
    }

pub returns-in_err-ended : goal.returns-in_err-ended
returns-in_err-ended g c =
    let members = g.L.Lines in
    let n = c.loop-n.n in
    let upto : n ≤ c.args.numbers.last = omega (arith, c.loop-n-test.true) in
    let one = line_given c.in_ok-line.line in
    let others =
    some_behind (members.some c.args.lines.now) (members.some_line c.args.lines.now) n c.args.numbers.last one
    c.in_ok-line.ensures.line upto
    (λ k from below. c.requires.numbers k (omega (arith, c.loop-n.invariant.from, from)) below) in
    record {
      output = listing c.args.head.now (c.loop-n.invariant.done ++ one ∷ others.lines);
      given = record {
        lines = c.loop-n.invariant.done ++ one ∷ others.lines;
        are = lines.with_behind c.loop-n.invariant.listed one upto others;
        is = refl;
      };
      writes = record {
        whatever = λ source.
            stopped_in_stage ((c.loop-n.invariant.given source).go_on (one ∷ others.lines)) refl
            c.in_err-ended.field-0.0 (c.in_err-ended.ensures.whatever source)
            c.from_residual-in_err-ended.result c.from_residual-in_err-ended.ensures.1;
      };
    }

pub returns-then-ended-eq-NO_DESIGN : goal.returns-then-ended-eq-NO_DESIGN
returns-then-ended-eq-NO_DESIGN g c =
    let upto : c.loop-n.n ≤ c.args.numbers.last = omega (arith, c.loop-n-test.true) in
    let one = line_given c.in_ok-line.line in
    let ends = c.in_ok-ended.ensures.whatever in
    let status = sym ((ends no_source).gives.same (ends no_source).low) ∙ c.if-ended-eq-NO_DESIGN.true in
    record {
      output = listing c.args.head.now (c.loop-n.invariant.done ++ one ∷ []);
      given = record {
        lines = c.loop-n.invariant.done ++ one ∷ [];
        are = lines.last_listed c.loop-n.invariant.listed one upto c.in_ok-line.ensures.line status;
        is = refl;
      };
      writes = record {
        whatever = λ source.
            stages_given
            (one_more_stage ((c.loop-n.invariant.given source).go_on (one ∷ [])) refl (ends source)
            c.worse-status.ensures)
            refl
            (subst (λ s. s < 4) (sym c.worse-status.ensures)
            (worse_low c.loop-n.status c.in_ok-ended.ended c.loop-n.invariant.low (ends no_source).low))
            (ends no_source).closed;
      };
    }

pub loop-n-preserved : goal.loop-n-preserved
loop-n-preserved g c =
    let upto : c.loop-n.n ≤ c.args.numbers.last = omega (arith, c.loop-n-test.true) in
    let one = line_given c.in_ok-line.line in
    let ends = c.in_ok-ended.ensures.whatever in
    let same = (ends no_source).gives.same (ends no_source).low in
    record {
      low =
          subst (λ s. s < 4) (sym c.worse-status.ensures)
          (worse_low c.loop-n.status c.in_ok-ended.ended c.loop-n.invariant.low (ends no_source).low);
      from = omega (arith, c.loop-n.invariant.from);
      closed = (ends no_source).closed;
      done = c.loop-n.invariant.done ++ one ∷ [];
      listed = lines.one_line_more c.loop-n.invariant.listed one upto c.in_ok-line.ensures.line
          (λ is_one. c.if-ended-eq-NO_DESIGN.false (same ∙ is_one));
      given = λ source.
          lines.line_given c.args.head.now one (c.loop-n.invariant.given source) (ends source) c.worse-status.ensures;
    }

pub returns : goal.returns
returns g c = record {
  output = listing c.args.head.now (c.loop-n.invariant.done ++ []);
  given = record {
    lines = c.loop-n.invariant.done ++ [];
    are = lines.all_listed c.loop-n.invariant.listed (omega (arith, c.loop-n-test.false));
    is = refl;
  };
  writes = record {
    whatever = λ source.
        stages_given ((c.loop-n.invariant.given source).go_on []) refl c.loop-n.invariant.low
        c.loop-n.invariant.closed;
  };
}
