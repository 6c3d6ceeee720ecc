-- The grammar with codes has the texts of the one without.
use Rattle.std.proofs.Common.{List}
use Rattle.fx_language.specs.declared.symbol.Symbol.{Symbol}
use Rattle.fx_language.specs.Shapes.{Matches}
use Rattle.fx_language.specs.Grammar.{program}
use Rattle.fx_language.specs.Uncoded.{loose_program, uncoded_program}
use Rattle.fx_language.proofs.Uncoded.{to_uncoded, from_uncoded}
use Rattle.fx_language.proofs.StepEnds.{loose_is_program, program_is_loose}

pub without_codes : (text : List Symbol) → Matches program text → Matches uncoded_program text
without_codes text m = to_uncoded loose_program text (program_is_loose text m)

pub with_codes : (text : List Symbol) → Matches uncoded_program text → Matches program text
with_codes text m = loose_is_program text (from_uncoded loose_program text m)
