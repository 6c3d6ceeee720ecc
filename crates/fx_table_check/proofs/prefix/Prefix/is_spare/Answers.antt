use Rattle.std.proofs.Common.{false, not, ◌&&◌, ◌≡◌, sym, ap, ap₂, ◌∙◌}
use Rattle.std.specs.Prelude.{nat_lt}
use Rattle.fx_designs.specs.Galois.{digits}
use Rattle.fx_strata.specs.Designs.{Strata}
use Rattle.fx_strata.specs.Clear.{is_live}
use Rattle.fx_strata.specs.Floors.{new_words}
use Rattle.fx_strata.specs.Spreads.{sums_at}
use Rattle.fx_table_book.specs.Tables.{strata_of}
use Rattle.fx_table_book.proofs.Bases.{field}
use Rattle.fx_table_check.specs.Effects.{AreEffects}
use Rattle.fx_table_check.proofs.UpToTwo.{makes-three}
use Rattle.fx_table_check.proofs.prefix.Prefix.is_spare.Goals as goal

pub returns : goal.returns
returns c =
    let base = c.args.self.now.base in
    let x : Strata = strata_of base in
    let same : c.base-base.result ≡ base = c.base-base.ensures.base in
    let known = c.base-base.ensures.valid in
    let h : AreEffects c.base-base.result.q c.base-base.result.m c.args.self.now.rows c.args.effects.now =
    rw same c.requires.effects in
    let dead : is_live x c.args.self.now.rows (digits x.q x.m c.args.row) ≡ false =
    cc (same, c.is_live.ensures c.args.self.now.rows h, c.if-is_live.false) in
    let some : c.has_word_of_two.result ≡ nat_lt 0 (sums_at x c.args.self.now.rows 2 c.args.row) =
    cc (c.has_word_of_two.ensures c.args.self.now.rows h, same) in
    ap not (some ∙ sym (makes-three x (field base known) known.inside c.args.self.now.rows c.args.row c.requires.row
    c.requires.second))
    ∙ sym (ap₂ (λ l n. not l && not (n && nat_lt 0 (new_words x c.args.self.now.rows c.args.row false 3))) dead
    c.if-not-none.false)
