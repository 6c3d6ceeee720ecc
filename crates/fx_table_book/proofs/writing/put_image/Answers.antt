use Rattle.std.proofs.Common.{◌≡◌, ℕ, List, [], ◌∷◌, ◌++◌, subst, append_assoc}
use Rattle.std.specs.Prelude.{codes}
use Rattle.fx_base.specs.Writing.{HoldsPart}
use Rattle.fx_base.proofs.Held.{at_err, in_first, past_first}
use Rattle.fx_book.specs.Writing.{line_text, spaced}
use Rattle.fx_book.proofs.Lines.{spaced-append}
use Rattle.fx_table_book.proofs.writing.put_image.Goals as goal

by_parts : (row : ℕ) (change : List ℕ)
    → codes "I" ++ (spaced (row ∷ []) ++ (spaced change ++ codes "\n")) ≡ line_text (codes "I") (row ∷ change)
by_parts row change =
    cc (append_assoc (spaced (row ∷ [])) (spaced change) (codes "\n"), spaced-append (row ∷ []) change)

pub returns-in_err-put_after_blank-clause-err : goal.returns-in_err-put_after_blank-clause-err
returns-in_err-put_after_blank-clause-err c =
    at_err c.from_residual-in_err-put_after_blank.result
    (subst (HoldsPart c.args.out.now c.put_after_blank.new.out) (by_parts c.args.row c.args.change.now)
    (past_first _ _ _ _ _ c.in_ok-put.ensures.ok
    (in_first _ _ (spaced (c.args.row ∷ [])) _ (rw c.from.ensures at c.in_err-put_after_blank.ensures.err))))

pub returns-in_err-put_numbers-clause-err : goal.returns-in_err-put_numbers-clause-err
returns-in_err-put_numbers-clause-err c =
    at_err c.from_residual-in_err-put_numbers.result
    (subst (HoldsPart c.args.out.now c.put_numbers.new.out) (by_parts c.args.row c.args.change.now)
    (past_first _ _ _ _ _ c.in_ok-put.ensures.ok
    (past_first _ _ _ (spaced (c.args.row ∷ [])) _ (rw c.from.ensures at c.in_ok-put_after_blank.ensures.ok)
    (in_first _ _ _ _ c.in_err-put_numbers.ensures.err))))
