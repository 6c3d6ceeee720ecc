use Rattle.std.proofs.Common.{◌≡◌, ◌∙◌, ◌<◌, ◌-◌, [], ◌∷◌, length, refl, sym, ap, subst, rules}
use Rattle.std.proofs.lemmas.List.{nil_from_length}
use Rattle.std.specs.Vec.Iter.{into_iter_items, into_iter_len}
use Rattle.fx_search.specs.LotWalks.{AreAddable}
use Rattle.fx_search.specs.Walks.{standing_with_best}
use Rattle.fx_search.specs.Pruning.{full_length}
use Rattle.fx_search.specs.declared.ranked.Ranked.{Ranked}
use Rattle.fx_search.proofs.Adding.{adding-start, adding-one, adding-next, adding-many, adding-all}
use Rattle.fx_search.proofs.lot_walk.add_all.Goals as goal

-- the incumbent has another best, or not
abbrev HasSame : Ranked → Ranked → Type 0
HasSame x y = standing_with_best y ≡ record (standing_with_best x) { best = (standing_with_best y).best }

same-on : (x y z : Ranked) → HasSame x y → HasSame y z → HasSame x z
same-on x y z one two = cc

pub loop-end-init : goal.loop-end-init
loop-end-init c =
    let s = standing_with_best c.args.incumbent.now in
    record {
      standing = refl;
      adding = rw (c.into_iter-end-iterator.ensures.into_iter_gives.0 ∙ c.into_vec-end-items.ensures)
          (adding-start s.problem c.args.limit s.prefix c.args.marks.now s.best c.args.ends c.requires.addable
          c.requires.fits);
    }

pub add-requires : goal.add-requires
add-requires c =
    let s = standing_with_best c.args.incumbent.now in
    let v = standing_with_best c.loop-end.incumbent in
    let left = c.args.limit - length c.loop-end.marks in
    let i = c.loop-end.invariant in
    let problem = ap (λ z. z.problem) i.standing in
    let prefix = ap (λ z. z.prefix) i.standing in
    let here = rw c.in-Some.ensures.steps.0 at i.adding in
    record {
      fits = here.fits;
      part = subst (λ z. length v.prefix < full_length z) (sym problem)
          (subst (λ l. length l < full_length s.problem) (sym prefix) c.requires.part);
      rows = cc c.requires.rows;
      addable = subst (λ z. AreAddable z v.prefix left (c.in-Some.end ∷ [])) (sym problem)
          (subst (λ l. AreAddable s.problem l left (c.in-Some.end ∷ [])) (sym prefix)
          (adding-one s.problem c.args.limit s.prefix c.args.marks.now s.best c.args.ends left c.in-Some.end _
          here.addable));
    }

pub loop-end-preserved : goal.loop-end-preserved
loop-end-preserved c =
    let s = standing_with_best c.args.incumbent.now in
    let v = c.loop-end.incumbent in
    let u = c.add.new.incumbent in
    let i = c.loop-end.invariant in
    record {
      standing = same-on c.args.incumbent.now v u i.standing c.in_ok-fits.ensures.standing;
      adding = adding-next s.problem c.args.limit s.prefix c.args.marks.now s.best c.args.ends c.in-Some.end _
          c.loop-end.marks c.add.new.marks (standing_with_best v).best (standing_with_best u).best
          (rw c.in-Some.ensures.steps.0 at i.adding)
          (rw (ap (λ z. z.problem) i.standing, c.if-not-fits.false) at c.in_ok-fits.ensures.added);
    }

pub returns-then-not-fits : goal.returns-then-not-fits
returns-then-not-fits c =
    let s = standing_with_best c.args.incumbent.now in
    let v = c.loop-end.incumbent in
    let u = c.add.new.incumbent in
    let i = c.loop-end.invariant in
    let added = rw (ap (λ z. z.problem) i.standing, c.if-not-fits.true) at c.in_ok-fits.ensures.added in
    record {
      standing = same-on c.args.incumbent.now v u i.standing c.in_ok-fits.ensures.standing;
      added = adding-many s.problem c.args.limit s.prefix c.args.marks.now s.best c.args.ends c.in-Some.end _
          c.loop-end.marks c.add.new.marks (standing_with_best v).best (standing_with_best u).best
          (rw c.in-Some.ensures.steps.0 at i.adding) added;
    }

pub returns : goal.returns
returns c =
    let s = standing_with_best c.args.incumbent.now in
    let i = c.loop-end.invariant in
    let count : into_iter_len c.loop-end.end-iterator ≡ length (into_iter_items c.loop-end.end-iterator) =
    search rules in
    record {
      standing = i.standing;
      added = adding-all s.problem c.args.limit s.prefix c.args.marks.now s.best c.args.ends c.loop-end.marks
          (standing_with_best c.loop-end.incumbent).best
          (rw (nil_from_length _ (sym count ∙ c.in-None.ensures.steps.0)) at i.adding);
    }
