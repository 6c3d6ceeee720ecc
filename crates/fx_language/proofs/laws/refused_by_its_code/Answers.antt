use Rattle.fx_language.proofs.Codes.{refused_by_its_code}
use Rattle.fx_language.proofs.laws.refused_by_its_code.Goals as goal

pub returns : goal.returns
returns c = refused_by_its_code
