use Rattle.std.proofs.Common.{rules}
use Rattle.std.specs.Prelude.{Contains}
use Rattle.std.proofs.lemmas.List.Elements.{All-contains}
use Rattle.fx_derived.specs.Codes.{ArePlaces}
use Rattle.fx_outputs.specs.declared.derived.Derived.{Derived}
use Rattle.fx_program.proofs.output_lines.put_derived_lines.Goals as goal

pub put_derived_line-requires-clause-places : goal.put_derived_line-requires-clause-places
put_derived_line-requires-clause-places c =
    let among : Contains c.args.derived.now c.factor-item.result = search rules in
    All-contains (λ (d : Derived). ArePlaces c.args.matrix.now.shape.s d.places) c.args.derived.now
    c.factor-item.result c.requires.derived.places among
