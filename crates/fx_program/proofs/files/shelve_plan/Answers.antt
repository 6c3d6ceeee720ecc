use Rattle.std.proofs.Common.{◌≡◌, ◌++◌, ◌∷◌, [], ℕ, List, Option, None, Ok, OnOk, length, get_or, ap₂, sym, subst}
use Rattle.std.proofs.Common.{subst₂, ◌∙◌, append-nil}
use Rattle.std.proofs.Math.Seq.{get_or-append_seam}
use Rattle.fx_derived.specs.Tables.{TableView}
use Rattle.fx_program.specs.Files.{file_of, plan_lines}
use Rattle.fx_program.specs.Outside.{ShelvesFiles, shelf_view}
use Rattle.fx_program.specs.Plans.{AskedView, plan_after, plans_of}
use Rattle.fx_program.proofs.Filing.{shelved_all, shelved_none}
use Rattle.fx_program.proofs.Planned.{last_is}
use Rattle.fx_program.proofs.files.shelve_plan.Goals as goal

-- the plan of the last of the statements that are asked, and that statement
module _ (earlier all : List AskedView) (asked : AskedView) (number : ℕ) (with_it : all ≡ earlier ++ asked ∷ [])
    (is : number ≡ length earlier) where
  made : (seed : ℕ) (plan : Option TableView) → plan ≡ get_or (plans_of seed all) number None
      → plan ≡ plan_after seed earlier asked
  made seed plan at =
      at ∙ ap₂ (λ (l : List AskedView) (k : ℕ). get_or (plans_of seed l) k None) with_it is ∙ last_is seed earlier asked

  last : (d : AskedView) → d ≡ get_or all number d → d ≡ asked
  last d at =
      at ∙ ap₂ (λ (l : List AskedView) (k : ℕ). get_or l k d) with_it is ∙ get_or-append_seam earlier asked [] d

pub returns-in-Some-clause-files : goal.returns-in-Some-clause-files
returns-in-Some-clause-files g c =
    let seed = c.args.session.now.seed in
    let is = c.len-number.ensures in
    let plan =
    sym c.in-Some.is ∙ made c.args.plans.now _ c.args.asked _ (c.as_slice.ensures ∙ c.in_ok-push.ensures.ok) is seed _
    c.in_ok-plan.ensures in
    let own = last c.args.plans.now _ c.args.asked _ c.in_ok-push.ensures.ok is c.get.result.now c.get.ensures in
    let shelf = shelf_view g.F.Shelf in
    subst₂ (λ (a : AskedView) (plan : Option TableView).
    ShelvesFiles {T = Unit {0}} (file_of a.output.name plan) (shelf c.args.shelf.now) (shelf c.shelve_made.new.shelf)
    c.shelve_made.result) own plan c.shelve_made.ensures.files

pub returns-in-Some-clause-lines : goal.returns-in-Some-clause-lines
returns-in-Some-clause-lines g c =
    let seed = c.args.session.now.seed in
    let is = c.len-number.ensures in
    let plan =
    sym c.in-Some.is ∙ made c.args.plans.now _ c.args.asked _ (c.as_slice.ensures ∙ c.in_ok-push.ensures.ok) is seed _
    c.in_ok-plan.ensures in
    let own = last c.args.plans.now _ c.args.asked _ c.in_ok-push.ensures.ok is c.get.result.now c.get.ensures in
    subst₂ (λ (a : AskedView) (plan : Option TableView).
    OnOk c.shelve_made.result (c.shelve_made.new.lines ≡ c.args.lines.now ++ plan_lines seed a plan)) own plan
    c.shelve_made.ensures.lines

pub returns-in-None-clause-files : goal.returns-in-None-clause-files
returns-in-None-clause-files g c =
    let seed = c.args.session.now.seed in
    let plan =
    sym c.in-None.is
    ∙ made c.args.plans.now _ c.args.asked _ (c.as_slice.ensures ∙ c.in_ok-push.ensures.ok) c.len-number.ensures seed _
    c.in_ok-plan.ensures in
    let shelf = shelf_view g.F.Shelf in
    subst (λ (plan : Option TableView).
    ShelvesFiles {T = Unit {0}} (file_of c.args.asked.output.name plan) (shelf c.args.shelf.now) (shelf c.args.shelf.now)
    (Ok tt)) plan (shelved_all tt (shelved_none _ c.requires.ended))

pub returns-in-None-clause-lines : goal.returns-in-None-clause-lines
returns-in-None-clause-lines g c =
    let seed = c.args.session.now.seed in
    let plan =
    sym c.in-None.is
    ∙ made c.args.plans.now _ c.args.asked _ (c.as_slice.ensures ∙ c.in_ok-push.ensures.ok) c.len-number.ensures seed _
    c.in_ok-plan.ensures in
    subst (λ (plan : Option TableView). c.args.lines.now ≡ c.args.lines.now ++ plan_lines seed c.args.asked plan) plan
    (sym (append-nil c.args.lines.now))
