use Rattle.std.proofs.Common.{ℕ, ◌≡◌, ◌+◌, ◌&&◌, eqb, true, false, Bool, List, [], length, sym, subst, ap, ap₂, ◌∙◌}
use Rattle.std.proofs.Common.{Some}
use Rattle.std.proofs.lemmas.List.{length-map}
use Rattle.std.proofs.lemmas.Bool.{and_from}
use Rattle.fx_strata.specs.Designs.{Strata, key_of}
use Rattle.fx_strata.specs.Stages.{is_proper, is_design, do_follow}
use Rattle.fx_strata.specs.Canonical.{words, figures}
use Rattle.fx_table_book.specs.Tables.{strata_of, order_of, part_of, parts_of, multiplied, IsKey}
use Rattle.fx_table_book.proofs.Bases.{field}
use Rattle.fx_table_check.proofs.Divided.{least, has-factors}
use Rattle.fx_table_check.proofs.key.key_of_rows.Goals as goal
use Rattle.fx_table_check.proofs.key.key_of_rows.Goals.{After-drop-parts-2}

abbrev follows : Strata → List ℕ → Bool
follows x rows =
    eqb (length rows) (x.w + x.n)
    && (do_follow x [] rows && (eqb (words x rows false 1) 0 && eqb (words x rows false 2) 0))

proper : (c : After-drop-parts-2) → is_proper (strata_of c.args.base) ≡ true
proper c = cc (c.is_proper.ensures, c.if-not-is_proper.false)

design : (c : After-drop-parts-2) → is_design (strata_of c.args.base) c.args.rows.now ≡ true
design c =
    and_from _ _ (proper c)
    (sym (c.is_design.ensures.design
    ∙ ap (λ v. follows (strata_of v.base) c.args.rows.now) c.in_ok-prefix.ensures)
    ∙ c.if-not-is_design.false)

divided : (c : After-drop-parts-2) → multiplied c.args.base.q c.in_ok-key.key
    ≡ key_of (order_of c.args.order (strata_of c.args.base)) (figures (strata_of c.args.base) c.args.rows.now)
divided c =
    let base : c.is_design.new.self.base ≡ c.args.base =
    cc (c.is_design.ensures.base, c.in_ok-prefix.ensures) in
    let order =
    ap parts_of c.as_slice.ensures ∙ c.in_ok-parts.ensures.parts in
    rw base at (c.in_ok-key.ensures.key
    ∙ ap₂ (λ o l. key_of o (figures (strata_of c.is_design.new.self.base) l)) order
    (c.is_design.ensures.rows c.if-not-is_design.false))

pub returns-clause-key : goal.returns-clause-key
returns-clause-key c =
    let a = (goal.at.returns-clause-key c).After-drop-parts-2 in (design a, divided a)

pub returns-clause-least : goal.returns-clause-least
returns-clause-least c =
    let a = (goal.at.returns-clause-least c).After-drop-parts-2 in
    least _ (field c.args.base c.requires) c.requires.shaped.some_factors
    (has-factors (strata_of c.args.base) (proper a)) _ c.args.rows.now
    c.in_ok-key.key (design a) (divided a)

pub returns-clause-valid : goal.returns-clause-valid
returns-clause-valid c =
    let base : c.is_design.new.self.base ≡ c.args.base =
    cc (c.is_design.ensures.base, c.in_ok-prefix.ensures) in
    subst (λ b. IsKey b.q (length (order_of c.args.order (strata_of c.args.base))) (Some c.in_ok-key.key)) base
    (subst (λ n. IsKey c.is_design.new.self.base.q n (Some c.in_ok-key.key))
    (sym (length-map c.as_slice.result.now part_of) ∙ ap length
    (ap parts_of c.as_slice.ensures ∙ c.in_ok-parts.ensures.parts)) c.in_ok-key.ensures.valid)
