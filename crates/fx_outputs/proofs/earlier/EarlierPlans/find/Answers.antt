use Rattle.std.proofs.Common.{◌≡◌, ap, ◌∙◌}
use Rattle.std.specs.Map.{lookup}
use Rattle.std.specs.Cmp.Lexicographic.{slice_cmp}
use Rattle.std.specs.Ordering.{is_eq, nat_cmp}
use Rattle.std.specs.Str.{bytes_eq}
use Rattle.fx_text.specs.Names.{place_of}
use Rattle.fx_outputs.specs.Earlier.{plan_names}
use Rattle.fx_outputs.proofs.Folded.{same_form}
use Rattle.fx_outputs.proofs.earlier.EarlierPlans.find.Goals as goal
use Rattle.fx_outputs.proofs.earlier.EarlierPlans.find.Goals.{After-get}

-- what the map has at the form is the name's place
found : (c : After-get)
    → lookup (λ x. is_eq (slice_cmp nat_cmp c.as_slice.result.now x.items)) c.self.inside.numbers.entries
    ≡ place_of c.args.name.now (plan_names c.args.self.now)
found c =
    same_form c.as_slice.result.now c.self.inside.numbers.entries
    ∙ ap (λ f. lookup (λ x. bytes_eq f x.items) c.self.inside.numbers.entries)
    (c.as_slice.ensures.value ∙ c.in_ok-key.ensures)
    ∙ c.self.invariant c.args.name.now
    ∙ ap (λ plans. place_of c.args.name.now (plan_names plans)) c.self.view_is

pub returns-in-Some : goal.returns-in-Some
returns-in-Some c = c.in-Some.ensures.value ∙ found (goal.at.returns-in-Some c).After-get

pub returns : goal.returns
returns c = c.in-None.ensures.value ∙ found (goal.at.returns c).After-get
