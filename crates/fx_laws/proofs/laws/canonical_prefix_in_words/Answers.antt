use Rattle.fx_laws.proofs.Tables.{is_order-field}
use Rattle.fx_laws.proofs.CanonicalTest.{canonical_decides}
use Rattle.fx_laws.proofs.laws.canonical_prefix_in_words.Goals as goal

pub returns : goal.returns
returns c d wanted rows known = canonical_decides d (is_order-field d.q known) rows wanted
