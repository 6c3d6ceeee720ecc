use Rattle.std.proofs.Common.{◌∙◌}
use Rattle.fx_search.proofs.PieceSteps.{ahead-piece}
use Rattle.fx_search.proofs.piece_walk.Walk+Unranked.list_piece.Goals as goal

pub returns-clause-ahead : goal.returns-clause-ahead
returns-clause-ahead c =
    ahead-piece c.args.self.now c.args.round.now.pieces c.args.round.now.after c.requires.ahead c.args.row
    c.requires.next (record { before = c.replace-before.result; prefix = c.with_row.result })
    c.replace-before.ensures.value c.with_row.ensures
    c.push.new.self c.in_ok-push.ensures.ok c.replace-before.new.dest (c.replace-before.ensures.after ∙ c.new.ensures)
