use Rattle.std.proofs.Common.{◌≡◌, ◌++◌, ℕ, List, append_assoc}
use Rattle.std.specs.Prelude.{codes, decimal}
use Rattle.fx_designs.specs.Patterns.{resolution_of}
use Rattle.fx_catalogue.specs.Listing.{counts_from}
use Rattle.fx_catalogue.proofs.listing.put_least.Goals as goal

regroup : (a b c d : List ℕ) → a ++ b ++ c ++ d ≡ a ++ (b ++ (c ++ d))
regroup a b c d = simp append_assoc

pub returns : goal.returns
returns c =
    let rest =
    codes " resolution " ++ (decimal (resolution_of c.args.pattern.now) ++ counts_from 1 c.args.pattern.now) in
    let e : c.put_number.new.out ++ rest ≡ c.args.out.now ++ (codes "nodes " ++ (decimal c.args.nodes ++ rest)) =
    cc (
      c.in_ok-put_number.ensures.ok,
      c.in_ok-put.ensures.ok,
      c.from.ensures,
      regroup c.args.out.now (codes "nodes ")
          (decimal c.args.nodes) rest,
    ) in
    rw e at c.put_pattern.ensures
