use Rattle.std.proofs.Common.{ℕ, ◌≡◌, ◌≢◌, ◌<◌, ◌+◌, ◌*◌, ◌^◌, ◌++◌, ◌∷◌, ◌∙◌, [], length, slice_index}
use Rattle.std.proofs.Common.{sym, ap, arith, inl, inr}
use Rattle.std.proofs.lemmas.Bool.{cases_eq}
use Rattle.fx_demands.specs.declared.forbidden_list.ForbiddenVector.{ForbiddenVector}
use Rattle.fx_barred.specs.FirstWords.{sum_to, vector_at}
use Rattle.fx_barred.specs.Places.{place_at}
use Rattle.fx_barred.proofs.Firsts.{vector-at}
use Rattle.fx_barred.proofs.Standing.{listed-start, listed-skip, listed-add, listed-end, listed-known}
use Rattle.fx_barred.proofs.next_vectors.NextVectors.places.Goals as goal

abbrev any : ForbiddenVector
any = record { vector = []; class = 0; number = 0 }

pub loop-j-init : goal.loop-j-init
loop-j-init c =
    let r = c.args.self.now.reached.now in
    record {
      len = c.clear.ensures.len;
      kept = c.clear.ensures.kept;
      listed =
          rw c.new-list.ensures (listed-start r.q r.m r.rows c.args.self.now.words.now (length r.rows) c.args.depth
          (place_at c.args.source.now c.args.self.now.start) c.count-count.result (c.len-n.result * c.from-size.result)
          c.clear.new.tables
          (λ y low. c.clear.ensures.zeros y (omega arith)));
    }

pub add_place-requires-clause-known : goal.add_place-requires-clause-known
add_place-requires-clause-known c =
    let r = c.args.self.now.reached.now in
    rw c.from.ensures (listed-known r.q r.m r.rows c.args.self.now.words.now _ c.args.depth _
    c.count-count.result c.loop-j.j _ c.sum_to-sum.result c.loop-j.tables
    c.loop-j.list c.sum_to-sum.ensures.below c.loop-j.invariant.listed)

pub loop-j-preserved : goal.loop-j-preserved
loop-j-preserved c =
    let r = c.args.self.now.reached.now in
    let words = c.args.self.now.words.now in
    let at = place_at c.args.source.now c.args.self.now.start in
    let count = c.count-count.result in
    let j = c.loop-j.j in
    let i = length r.rows in
    let k = c.place-k.result in
    let sum = c.sum_to-sum.result in
    let first = c.len-n.result * c.from-size.result in
    let old = c.loop-j.tables in
    let new = c.add_place.new.tables in
    let stand =
    rw (← c.count-count.ensures) at c.requires.stand in
    let low = c.loop-j-test.true in
    let at_k = sym c.place-k.ensures in
    let has = stand.each j low in
    let there = rw at_k at has.there in
    let total : sum_to r.q r.m r.rows (vector_at words (at j)) c.args.depth ≡ sum =
    cc (vector-at words k c.index-self-k.result there, c.sum_to-sum.ensures.sum) in
    let place = ap (λ (n : ℕ). first + n) c.from.ensures in
    let others : (x : ℕ) → x ≢ first + sum → slice_index new x ≡ slice_index old x =
    λ x apart. c.add_place.ensures.others x (λ e. apart (e ∙ place)) in
    record {
      len = c.add_place.ensures.len ∙ c.loop-j.invariant.len;
      kept = λ x less. c.add_place.ensures.others x (λ e. omega arith) ∙ c.loop-j.invariant.kept x less;
      listed =
          elim c.if-not-add_place.ensures.added [
            | inl known ↦
                let same : (y : ℕ) → y < r.q ^ r.m → slice_index new (first + y) ≡ slice_index old (first + y) =
                λ y _. elim (cases_eq y c.from.result) [
                  | inl here ↦ cc
                  | inr apart ↦ c.add_place.ensures.others (first + y) (λ e. apart (omega arith))
                ] in
                let is =
                rw (← at_k) at (rw place at known.2) in
                rw known.1
                (listed-skip r.q r.m r.rows words i c.args.depth at count j first sum old new c.loop-j.list low
                c.sum_to-sum.ensures.below total is same c.loop-j.invariant.listed)
            | inr added ↦
                let here : slice_index new (first + sum) ≡ at j + 1 =
                cc in
                rw (ap (λ p. c.loop-j.list ++ p ∷ []) at_k ∙ sym added.1) at
                (listed-add r.q r.m r.rows words i c.args.depth at count j first sum old new c.loop-j.list stand low
                c.sum_to-sum.ensures.below total here others c.loop-j.invariant.listed)
          ];
    }

pub returns-clause-stand : goal.returns-clause-stand
returns-clause-stand c = λ _.
    (let r = c.args.self.now.reached.now in
    let words = c.args.self.now.words.now in
    let at = place_at c.args.source.now c.args.self.now.start in
    let count = c.count-count.result in
    let first = c.len-n.result * c.from-size.result in
    let stand =
    rw (← c.count-count.ensures) at c.requires.stand in
    let end : c.loop-j.j ≡ count = omega arith in
    listed-end r.q r.m r.rows words _ c.args.depth at count first c.loop-j.tables c.loop-j.list stand
    (rw end at c.loop-j.invariant.listed))
