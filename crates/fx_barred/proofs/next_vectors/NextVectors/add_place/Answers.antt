use Rattle.std.proofs.Common.{[], ◌∙◌, length, ap, arith}
use Rattle.fx_demands.specs.declared.forbidden_list.ForbiddenVector.{ForbiddenVector}
use Rattle.fx_barred.proofs.Firsts.{vector-at}
use Rattle.fx_barred.proofs.next_vectors.NextVectors.add_place.Goals as goal

abbrev any : ForbiddenVector
any = record { vector = []; class = 0; number = 0 }

pub is_new-requires-clause-vectors : goal.is_new-requires-clause-vectors
is_new-requires-clause-vectors c = λ x low.
    (let words = c.args.self.now.words.now in
    let is = c.requires.words.each x any low in
    let len =
    ap length (vector-at words x any low) ∙ is.0.len in
    omega arith)
