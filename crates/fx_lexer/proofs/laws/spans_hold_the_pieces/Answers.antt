use Rattle.fx_lexer.proofs.Spans.{texts_of_text}
use Rattle.fx_lexer.proofs.laws.spans_hold_the_pieces.Goals as goal

pub returns : goal.returns
returns c = texts_of_text c.args.text.now
