use Rattle.std.proofs.Common.{◌∙◌, arith, inl, inr}
use Rattle.std.proofs.lemmas.Bool.{cases_eq}
use Rattle.std.proofs.lemmas.Grind.{get_or-set_at}
use Rattle.std.proofs.lemmas.List.{get_or-set_other, length-set}
use Rattle.fx_table_check.proofs.prefix.Prefix.inside_with.Goals as goal

pub loop-i-preserved : goal.loop-i-preserved
loop-i-preserved c =
    record {
      len = length-set c.loop-i.inside c.loop-i.i c.confounded_with.result ∙ c.loop-i.invariant.len;
      same = c.confounded_with.ensures.same ∙ c.loop-i.invariant.same;
      words = λ j low. elim (cases_eq j c.loop-i.i) [
        | inl here ↦
            cc (
              get_or-set_at c.loop-i.inside c.loop-i.i j c.confounded_with.result 0 here
                  (omega arith),
              c.confounded_with.ensures.words,
              c.loop-i.invariant.same,
            )
        | inr other ↦
            get_or-set_other c.loop-i.inside c.loop-i.i j c.confounded_with.result 0 other
            ∙ c.loop-i.invariant.words j (omega arith)
      ];
    }
