use Rattle.std.proofs.Common.{◌≡◌, append-nil}
use Rattle.fx_vectors.specs.Marks.{meaning_of}
use Rattle.fx_vectors.specs.Shape.{dimensions_of}
use Rattle.fx_book.specs.declared.version.Version.TheVariants.{Second}
use Rattle.fx_book.specs.Entries.{entry_text}
use Rattle.fx_book.proofs.writing.write_entry.Goals as goal

pub returns-clause-ok : goal.returns-clause-ok
returns-clause-ok c =
    let own = entry_text Second (dimensions_of c.args.shape) (meaning_of c.args.mark) in
    let text : c.as_slice.result.now ≡ own =
    cc (c.as_slice.ensures, c.put_entry.ensures.text, c.new-text.ensures, append-nil own) in
    rw text at c.put.ensures.ok
