use Rattle.std.proofs.Common.{ℕ, ◌≡◌, ◌≢◌, ◌<◌, ◌≤◌, ◌+◌, ◌*◌, ◌^◌, ◌∙◌, List, length, slice_index, inl, inr, sym}
use Rattle.std.proofs.Common.{ap, arith}
use Rattle.std.proofs.lemmas.Bool.{cases_lt}
use Rattle.fx_barred.specs.FirstWords.{sum_to, vector_at, HasSum}
use Rattle.fx_barred.specs.Places.{place_at, place_count}
use Rattle.fx_barred.proofs.Firsts.{vector-at}
use Rattle.fx_barred.proofs.Standing.{stays-some, placed-start, placed-more, placed-end, placed-full}
use Rattle.fx_barred.proofs.next_vectors.NextVectors.fill.Goals as goal

-- the sums that were known, and those found since
known-next : (tables : List ℕ) (first before after : ℕ)
    → ((y : ℕ) → y < before → slice_index tables (first + y) ≢ 0)
    → ((y : ℕ) → before ≤ y → y < after → slice_index tables (first + y) ≢ 0)
    → (y : ℕ) → y < after → slice_index tables (first + y) ≢ 0
known-next tables first before after old new y low =
    elim (cases_lt y before) [ inl less ↦ old y less | inr le ↦ new y le low ]

pub loop-j-init : goal.loop-j-init
loop-j-init c =
    let r = c.args.self.now.reached.now in
    record {
      len = c.clear.ensures.len;
      kept = c.clear.ensures.kept;
      most = omega arith;
      known = λ y low. absurd (omega arith);
      placed =
          placed-start r.q r.m r.rows c.args.self.now.words.now _ _
          (place_count c.args.list.now c.args.self.now.start c.args.self.now.end) _ c.clear.new.tables
          (λ y low. c.clear.ensures.zeros y (omega arith));
    }

pub loop-j-preserved : goal.loop-j-preserved
loop-j-preserved c =
    let r = c.args.self.now.reached.now in
    let words = c.args.self.now.words.now in
    let at = place_at c.args.list.now c.args.self.now.start in
    let count = place_count c.args.list.now c.args.self.now.start c.args.self.now.end in
    let j = c.loop-j.j in
    let k = c.place-k.result in
    let sum = c.sum-sum.result in
    let first = c.len-n.result * c.from-size.result in
    let low : j < count = omega arith in
    let has = c.requires.stand.each j low in
    let at_k = sym c.place-k.ensures in
    let there = rw at_k at has.there in
    let total : sum_to r.q r.m r.rows (vector_at words (at j)) (length r.rows) ≡ sum =
    cc (vector-at words k c.index-self-k.result there, c.sum-sum.ensures.sum) in
    let is : HasSum r.q r.m r.rows words (length r.rows) sum (at j) =
    record { there = has.there; last = has.last; sum = total } in
    let place = ap (λ (n : ℕ). first + n) c.from.ensures in
    let known_some =
    known-next c.loop-j.tables first c.loop-j.known c.first_without-known.result c.loop-j.invariant.known
    c.first_without-known.ensures.known in
    record {
      len = c.put_first.ensures.len ∙ c.loop-j.invariant.len;
      kept = λ x low. c.put_first.ensures.others x (λ e. omega arith) ∙ c.loop-j.invariant.kept x low;
      most = c.first_without-known.ensures.most;
      known = λ y less.
          stays-some (first + c.from.result) k (first + y) c.loop-j.tables c.put_first.new.tables
          c.put_first.ensures.others c.put_first.ensures.here (known_some y less);
      placed =
          placed-more r.q r.m r.rows words _ at count j first sum c.loop-j.tables c.put_first.new.tables
          c.requires.stand low is c.sum-sum.ensures.below
          (λ x apart. c.put_first.ensures.others x (λ e. apart (e ∙ place)))
          (rw (place, ← at_k) at c.put_first.ensures.here) c.loop-j.invariant.placed;
    }

pub returns-then-known-size-clause-full : goal.returns-then-known-size-clause-full
returns-then-known-size-clause-full c =
    let r = c.args.self.now.reached.now in
    let words = c.args.self.now.words.now in
    let first = c.len-n.result * c.from-size.result in
    let place : first ≡ length r.rows * r.q ^ r.m =
    cc (c.len-n.ensures.count, c.from-size.ensures, c.size.ensures.points) in
    let known =
    known-next c.loop-j.tables first c.loop-j.known c.first_without-known.result c.loop-j.invariant.known
    c.first_without-known.ensures.known in
    rw place at (placed-full r.q r.m r.rows words _ _
    (place_count c.args.list.now c.args.self.now.start c.args.self.now.end) c.loop-j.j first c.loop-j.tables
    (λ y low. known y (omega arith))
    c.loop-j.invariant.placed)

pub returns-then-known-size-clause-all : goal.returns-then-known-size-clause-all
returns-then-known-size-clause-all c = λ _. returns-then-known-size-clause-full c

pub returns-clause-all : goal.returns-clause-all
returns-clause-all c = λ most.
    (let r = c.args.self.now.reached.now in
    let words = c.args.self.now.words.now in
    let at = place_at c.args.list.now c.args.self.now.start in
    let count = place_count c.args.list.now c.args.self.now.start c.args.self.now.end in
    let first = c.len-n.result * c.from-size.result in
    let end : c.loop-j.j ≡ count = omega arith in
    let place : first ≡ length r.rows * r.q ^ r.m =
    cc (c.len-n.ensures.count, c.from-size.ensures, c.size.ensures.points) in
    rw place at (placed-end r.q r.m r.rows words _ at count first c.loop-j.tables c.requires.stand
    (rw end at c.loop-j.invariant.placed)))
