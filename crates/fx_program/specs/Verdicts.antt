-- What the commands `check` and `upgrade` list of a book.
use Rattle.std.specs.Prelude.{ℕ, List, ◌++◌, codes, decimal}
use Rattle.fx_vectors.specs.declared.book.Head.{Head}
use Rattle.fx_book.specs.declared.fault.BookFault.{BookFault}
use Rattle.fx_book.specs.Faults.{code_of}
use Rattle.fx_book.specs.Writing.{head_text}
use Rattle.fx_checker.specs.declared.verdict.Verdict.{Verdict}
use Rattle.fx_checker.specs.declared.verdict.Verdict.TheVariants.{Accepted, Rejected}
use Rattle.fx_checker.specs.Verdicts as reasons

-- at which line a book is rejected, and the code of the reason: a letter and a number
abbrev pub rejected_line : ℕ → List ℕ → ℕ → List ℕ
rejected_line line letter number =
    codes "rejected line " ++ (decimal line ++ (codes " " ++ (letter ++ (decimal number ++ codes "\n"))))

-- the line of the first fault of a text that is no book
abbrev pub book_fault_line : BookFault → List ℕ
book_fault_line fault = rejected_line fault.line (codes "B") (code_of fault.kind)

-- the lines of a verdict on a book with this head: an accepted book is named by its lines 2 to 4
abbrev pub verdict_lines : Head → Verdict → List ℕ
verdict_lines head Accepted = codes "accepted\n" ++ head_text head
verdict_lines head (Rejected line reason) = rejected_line line (codes "K") (reasons.code_of reason)

-- the status of a verdict
abbrev pub verdict_status : Verdict → ℕ
verdict_status Accepted = 0
verdict_status (Rejected line reason) = 1
