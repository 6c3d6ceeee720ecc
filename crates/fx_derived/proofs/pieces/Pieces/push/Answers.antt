use Rattle.std.proofs.Common.{◌≡◌, ◌++◌, ◌∷◌, [], ◌∙◌, ap, length, rules, true}
use Rattle.std.specs.Result.{is_ok}
use Rattle.fx_derived.proofs.Cutting.{more, are_more}
use Rattle.fx_derived.proofs.pieces.Pieces.push.Goals as goal
use Rattle.fx_derived.proofs.pieces.Pieces.push.Goals.{Else-is_err-2}

bytes_are : (c : Else-is_err-2) → c.extend_from_slice.new.self.items ≡ c.self.inside.bytes.items ++ c.args.piece.now
bytes_are c = let good : is_ok c.extend_from_slice.result ≡ true = search rules in
    rw good at c.extend_from_slice.ensures.items

ends_are : (c : Else-is_err-2)
    → c.push.new.self.items ≡ c.self.inside.ends.items ++ length (c.self.inside.bytes.items ++ c.args.piece.now) ∷ []
ends_are c =
    let good : is_ok c.push.result ≡ true = search rules in
    let size =
    c.len-end.ensures ∙ c.extend_from_slice.new.self.ok.0 ∙ ap length (bytes_are c) in
    rw (good, size) at c.push.ensures.items

pub invariant_of-self-else-is_err-2 : goal.invariant_of-self-else-is_err-2
invariant_of-self-else-is_err-2 c =
    let w = (goal.at.invariant_of-self-else-is_err-2 c).Else-is_err-2 in
    rw (bytes_are w, ends_are w)
    (are_more c.self.inside.bytes.items c.self.inside.ends.items c.args.piece.now c.self.invariant)

pub returns-clause-ok : goal.returns-clause-ok
returns-clause-ok c =
    let w = (goal.at.returns-clause-ok c).Else-is_err-2 in
    rw (← c.self.view_is, bytes_are w, ends_are w)
    (more c.self.inside.bytes.items c.self.inside.ends.items c.args.piece.now c.self.invariant)
