use Rattle.fx_program.proofs.Reading.{lexical, read, refused}
use Rattle.fx_program.proofs.text.read_program.Goals as goal

pub returns-in-Err-Fault-clause-fault : goal.returns-in-Err-Fault-clause-fault
returns-in-Err-Fault-clause-fault c =
    rw c.in-Err-Fault.fault-is
    (lexical c.args.text.now c.requires c.in-Err-Fault.fault
    (rw c.in-Err-Fault.field-0-is at c.in-Err-Fault.ensures.fault))

pub returns-in-Err-Refused-clause-fault : goal.returns-in-Err-Refused-clause-fault
returns-in-Err-Refused-clause-fault c =
    refused c.args.text.now c.requires c.in-Ok.tokens c.in-Ok.ensures.tokens c.in-Err-Refused.refusal
    (rw c.in-Err-Refused.field-0-is at c.in-Err-Refused.ensures.refused)

pub returns-in-Ok-parse-clause-program : goal.returns-in-Ok-parse-clause-program
returns-in-Ok-parse-clause-program c =
    read c.args.text.now c.requires c.in-Ok.tokens c.in-Ok.ensures.tokens c.in-Ok-parse.program
    c.in-Ok-parse.ensures.program
