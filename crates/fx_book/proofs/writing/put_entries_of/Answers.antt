use Rattle.std.proofs.Common.{arith}
use Rattle.fx_book.proofs.Placing.{weight-drop}
use Rattle.fx_book.proofs.writing.put_entries_of.Goals as goal

pub put_entry_of-requires-clause-room : goal.put_entry_of-requires-clause-room
put_entry_of-requires-clause-room c =
    omega (arith, weight-drop c.loop-i.i c.args.vector.now)
