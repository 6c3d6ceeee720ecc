use Rattle.std.proofs.Common.{◌≡◌, ◌<◌, ◌+◌, ◌^◌, ◌∙◌, ℕ, [], Some, None, length, slice_index_or, sym}
use Rattle.std.proofs.Common.{subst, ap, arith, inl, inr}
use Rattle.std.specs.Prelude.{All}
use Rattle.std.proofs.lemmas.Bool.{cases_eq}
use Rattle.std.proofs.lemmas.List.{get_or_default}
use Rattle.fx_designs.specs.Galois.{number}
use Rattle.fx_designs.specs.Vectors.{IsVector}
use Rattle.fx_laws.proofs.Tables.{is_order-field}
use Rattle.fx_demands.proofs.Completing.{weight-length}
use Rattle.fx_points.proofs.Additions.{minus_of}
use Rattle.fx_barred.specs.FirstWords.{sum_to}
use Rattle.fx_barred.specs.declared.best_words.Best.{Best}
use Rattle.fx_barred.specs.BestWords.{IsWithin}
use Rattle.fx_barred.proofs.BestWords.{preferred-within}
use Rattle.fx_barred.proofs.ListedWords.{listed-first, listed-here, listed-elsewhere, best-listed}
use Rattle.fx_barred.proofs.best_words.fill_listed.Goals as goal

pub loop-v-init : goal.loop-v-init
loop-v-init c =
    let q = c.args.reached.now.q in
    let m = c.args.reached.now.m in
    let rows = c.args.reached.now.rows in
    let f = is_order-field q c.q-known.ensures.known in
    let none : (x : ℕ) → x < q ^ m → slice_index_or c.clear.new.tables (c.args.first + x) None ≡ None =
    λ x low. c.clear.ensures.none x (omega arith) in
    record {
      len = c.clear.ensures.len;
      kept = c.clear.ensures.kept;
      within = λ x low. rw (none x low) tt;
      best = λ x low. rw (none x low) (listed-first q m f rows c.args.vectors.now x);
    }

pub loop-v-preserved : goal.loop-v-preserved
loop-v-preserved c =
    let q = c.args.reached.now.q in
    let m = c.args.reached.now.m in
    let rows = c.args.reached.now.rows in
    let vectors = c.args.vectors.now in
    let i = c.loop-v.v-index in
    let v = c.v-item.result in
    let f = is_order-field q c.q-known.ensures.known in
    let is = get_or_default vectors i [] v c.loop-v-test.true ∙ sym c.v-item.is in
    let vector : IsVector q c.args.reached.now.room v =
    subst (IsVector q c.args.reached.now.room) (sym c.v-item.is) (c.requires.vectors i v c.loop-v-test.true) in
    let x0 = c.from-in-loop-v.result in
    let at : x0 ≡ minus_of q m f (sum_to q m rows v (length rows)) =
    cc (c.from-in-loop-v.ensures, c.minus-x.ensures.negative, c.sum.ensures.sum) in
    let b : Best = record { weight = c.weight.result; number = c.number.result } in
    let len = vector.len ∙ sym c.requires.all in
    let light = weight-length v in
    let value = c.number.ensures.number ∙ ap (λ k. number k v) c.field.ensures in
    let low_number =
    rw len at (rw c.field.ensures at c.number.ensures.below) in
    let few : IsWithin q (length rows) (Some b) = (omega arith, low_number) in
    let tables = c.put.new.tables in
    record {
      len = c.put.ensures.len ∙ c.loop-v.invariant.len;
      kept = λ k low. c.put.ensures.others k (λ e. omega arith) ∙ c.loop-v.invariant.kept k low;
      within = λ x low.
          elim (cases_eq x x0) [
            | inl here ↦
                rw here (rw (← c.put.ensures.here) at
                (preferred-within q (length rows) (slice_index_or c.loop-v.tables (c.args.first + x0) None) (Some b)
                (c.loop-v.invariant.within x0 (omega arith)) few))
            | inr other ↦
                rw (c.put.ensures.others (c.args.first + x) (λ e. other (omega arith)))
                (c.loop-v.invariant.within x low)
          ];
      best = λ x low.
          elim (cases_eq x x0) [
            | inl here ↦
                rw here (rw (← c.put.ensures.here) at
                (listed-here q m f rows vectors i x0 v (slice_index_or c.loop-v.tables (c.args.first + x0) None) b
                is at
                (sym c.weight.ensures.count) (cc) (c.loop-v.invariant.best x0 (omega arith))))
            | inr other ↦
                rw (c.put.ensures.others (c.args.first + x) (λ e. other (omega arith)))
                (listed-elsewhere q m f rows vectors i x v (slice_index_or c.loop-v.tables (c.args.first + x) None)
                low
                is (λ e. other (e ∙ sym at)) (c.loop-v.invariant.best x low))
          ];
    }

pub returns-clause-best : goal.returns-clause-best
returns-clause-best c d wanted eq em all lists x low =
    let q = c.args.reached.now.q in
    let m = c.args.reached.now.m in
    let rows = c.args.reached.now.rows in
    let vectors = c.args.vectors.now in
    let o = slice_index_or c.loop-v.tables (c.args.first + x) None in
    let size : d.q ^ d.m ≡ q ^ m = cc in
    let ends : c.loop-v.v-index ≡ length vectors = omega arith in
    let best =
    rw ends at (c.loop-v.invariant.best x (omega arith)) in
    let best' =
    rw (← eq) at (rw (← em) at best) in
    let each : All (IsVector d.q d.s) vectors =
    λ k v there. rw (sym c.requires.all ∙ all) at (rw (← eq) at (c.requires.vectors k v there)) in
    best-listed d wanted rows vectors x o all each lists best'

pub number-requires-clause-fits : goal.number-requires-clause-fits
number-requires-clause-fits c =
    let v = c.v-item.result in
    let i = c.loop-v.v-index in
    let vector : IsVector c.args.reached.now.q c.args.reached.now.room v =
    subst (IsVector c.args.reached.now.q c.args.reached.now.room) (sym c.v-item.is)
    (c.requires.vectors i v c.loop-v-test.true) in
    rw (c.field.ensures, vector.len) c.room-words.ensures.words
