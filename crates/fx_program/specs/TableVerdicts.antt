-- What `check` gives of a book of a table.
use Rattle.std.specs.Prelude.{ℕ, ◌+◌, ◌++◌, List, Result, Ok, Err, codes}
use Rattle.std.specs.Option.{option_map}
use Rattle.fx_book.specs.declared.fault.BookFault.{BookFault}
use Rattle.fx_strata.specs.Books.{Claim}
use Rattle.fx_table_book.specs.Tables.{multiplied, order_of, strata_of}
use Rattle.fx_table_book.specs.Texts.{Contents, base_text, key_text, order_text}
use Rattle.fx_table_check.specs.declared.reason.Reason.{Reason}
use Rattle.fx_table_check.specs.declared.reason.Reason.TheVariants.{NoTurn, Ended, OtherRow, Whole, LowKey}
use Rattle.fx_table_check.specs.declared.reason.Reason.TheVariants.{NoEarlierImage, HasRoom, LowFloor}
use Rattle.fx_table_check.specs.declared.reason.Verdict.{Verdict}
use Rattle.fx_table_check.specs.declared.reason.Verdict.TheVariants.{Accepted, Rejected}
use Rattle.fx_table_check.specs.Checking.{flaw_of, verdict_of}
use Rattle.fx_program.specs.Output.{Output, message}
use Rattle.fx_program.specs.Verdicts.{book_fault_line, rejected_line}

-- the number by which messages name a reason: 1 for K1
abbrev pub code_of : Reason → ℕ
code_of NoTurn = 2
code_of Ended = 6
code_of OtherRow = 1
code_of Whole = 7
code_of LowKey = 5
code_of NoEarlierImage = 8
code_of HasRoom = 10
code_of LowFloor = 11

-- what the text of a book claims
abbrev pub claim_in : Contents → Claim
claim_in x =
    record {
      strata = strata_of x.base;
      order = order_of x.order (strata_of x.base);
      beat = option_map (multiplied x.base.q) x.key;
    }

-- the lines 2 to 4 of a book
abbrev pub front_text : Contents → List ℕ
front_text x = base_text x.base ++ (order_text x.order ++ key_text x.key)

-- the lines of a verdict on a book, whose entries begin in line 5, and its status
abbrev pub verdict_lines : Contents → Verdict → List ℕ
verdict_lines x Accepted = codes "accepted\n" ++ front_text x
verdict_lines x (Rejected place reason) = rejected_line (place + 5) (codes "K") (code_of reason)

abbrev pub verdict_status : Verdict → ℕ
verdict_status Accepted = 0
verdict_status (Rejected place reason) = 1

-- what is given for the book that a text is, or for its first fault
abbrev pub table_verdict : Result Contents BookFault → Output
table_verdict (Ok x) =
    let verdict = verdict_of (flaw_of (claim_in x) x.entries) in
    message (verdict_lines x verdict) (verdict_status verdict)
table_verdict (Err fault) = message (book_fault_line fault) 1
