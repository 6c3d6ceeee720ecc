use Rattle.std.proofs.Common.{ℕ, ◌≡◌, ◌-◌, ◌++◌, ◌∷◌, [], List, Bool, false, arith}
use Rattle.std.proofs.Common.{append_assoc}
use Rattle.fx_components.proofs.Enumerating.{begun_with, next_without, next_either}
use Rattle.fx_components.proofs.components.+put_from.Goals as goal

pub returns-then-count-eq0 : goal.returns-then-count-eq0
returns-then-count-eq0 t c =
    let chosen = c.args.chosen.now.items in
    let more = c.args.more in
    let eq : begun_with c.args.q c.extended.result.items 0 (more - 1) ≡ begun_with c.args.q chosen c.args.count more =
    cc (c.extended.ensures, next_without c.args.q chosen more (omega arith), c.if-count-eq0.true) in
    rw eq at c.put_from.ensures

pub returns : goal.returns
returns t c =
    let q : ℕ = c.args.q in
    let chosen : List Bool = c.args.chosen.now.items in
    let count : ℕ = c.args.count in
    let more : ℕ = c.args.more in
    let with : List Bool → ℕ → List (List ℕ) = λ set n. begun_with q set n (more - 1) in
    let eq : c.put_from-2.new.found ++ with c.extended-3.result.items count
    ≡ c.args.found.now ++ begun_with q chosen count more =
    cc (
      c.in_ok-put_from.ensures,
      c.extended-3.ensures,
      append_assoc c.args.found.now
          (with c.extended-2.result.items (count - 1)) (with (chosen ++ false ∷ []) count),
      c.extended-2.ensures,
      next_either q chosen count more (omega arith) (omega arith),
    ) in
    rw eq at c.put_from-3.ensures
