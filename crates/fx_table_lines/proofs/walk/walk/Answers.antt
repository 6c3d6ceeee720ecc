use Rattle.std.proofs.Common.{◌≡◌, ◌<◌, ◌≤◌, ◌+◌, ◌^◌, ◌++◌, ◌∷◌, [], length, ap, sym, subst, ◌∙◌}
use Rattle.std.specs.List.{All}
use Rattle.std.proofs.lemmas.List.{length_push}
use Rattle.std.proofs.lemmas.List.Elements.{All-push}
use Rattle.fx_table_book.specs.declared.base.Base.{Base}
use Rattle.fx_table_book.specs.Tables.{IsSmall}
use Rattle.fx_table_check.specs.Goals.{IsGoal}
use Rattle.fx_table_check.specs.Prefixes.{PrefixView}
use Rattle.fx_table_lines.proofs.walk.walk.Goals as goal

pub loop-made-preserved : goal.loop-made-preserved
loop-made-preserved c =
    let turn : c.next_turn.new.self.base ≡ c.args.base = c.in-Some.ensures.base ∙ c.loop-made.invariant.base in
    let improved : c.improves.new.prefix.base ≡ c.args.base =
    ap (λ (v : PrefixView). v.base) c.in_ok-improves.ensures.same ∙ turn in
    let entered : c.entry_of-entry.new.prefix.base ≡ c.args.base =
    ap (λ (v : PrefixView). v.base) c.entry_of-entry.ensures.same ∙ improved in
    let small : IsSmall c.args.base c.entry_of-entry.result =
    subst (λ (b : Base). IsSmall b c.entry_of-entry.result) improved c.entry_of-entry.ensures.entry in
    let pushed : c.push.new.self ≡ c.loop-made.entries ++ c.entry_of-entry.result ∷ [] = c.in_ok-push.ensures.ok in
    record {
      base = c.follow-below.ensures.base ∙ entered;
      room = subst (λ (b : Base). length c.follow-below.new.prefix.rows < b.w + b.n) entered c.follow-below.ensures.room;
      below = subst (λ (b : Base). c.follow-below.result ≤ b.q ^ b.m) entered c.follow-below.ensures.below;
      goal = subst (λ (b : Base). IsGoal (b.w + b.n) c.improves.new.best.goal) turn c.in_ok-improves.ensures.goal;
      entries = subst (All (IsSmall c.args.base)) (sym pushed)
          (All-push (IsSmall c.args.base) c.loop-made.entries c.entry_of-entry.result c.loop-made.invariant.entries small);
      count = ap length pushed ∙ length_push c.loop-made.entries c.entry_of-entry.result
          ∙ ap (λ n. n + 1) c.loop-made.invariant.count;
    }
