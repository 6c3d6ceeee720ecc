use Rattle.std.proofs.Common.{◌≡◌, ◌≤◌, ◌<◌, ◌+◌, ◌++◌, ◌∙◌, ℕ, List, length, drop, get_or, slice_index_or, append-nil}
use Rattle.std.proofs.Common.{sym, ap, arith, add-one, drop-cons}
use Rattle.std.specs.Prelude.{◌==◌, if◌then◌else◌}
use Rattle.std.proofs.Math.ListN.{drop_of_length-le}
use Rattle.fx_catalogue.specs.Listing.{count_text, counts_from}
use Rattle.fx_catalogue.proofs.listing.put_counts.Goals as goal

-- the counts from one weight on begin with that weight's
one_more : (a : List ℕ) (i : ℕ) → i < length a
    → counts_from (i + 1) (drop i a)
    ≡ (if get_or a i 0 == 0
    then counts_from (i + 1 + 1) (drop (i + 1) a)
    else count_text (i + 1) (get_or a i 0) ++ counts_from (i + 1 + 1) (drop (i + 1) a))
one_more a i low = rw (add-one i, drop-cons a i 0 low)

pub loop-i-preserved : goal.loop-i-preserved
loop-i-preserved c =
    let a = c.args.pattern.now in
    let here =
    ap (λ (v : List ℕ). slice_index_or v c.loop-i.i 0) c.as_slice-words.ensures in
    cc (
      c.in_ok-put_count.ensures (counts_from (c.loop-i.i + 1 + 1) (drop (c.loop-i.i + 1) a)),
      one_more a c.loop-i.i
          (omega (arith, ap length c.as_slice-words.ensures)),
      c.loop-i.invariant,
    )

pub returns : goal.returns
returns c =
    let past : length c.args.pattern.now ≤ c.loop-i.i = omega (arith, ap length c.as_slice-words.ensures) in
    sym (append-nil c.loop-i.out) ∙ ap (λ l. c.loop-i.out ++ counts_from (c.loop-i.i + 1) l)
    (sym (drop_of_length-le c.args.pattern.now past)) ∙ c.loop-i.invariant
