use Rattle.std.proofs.Common.{ℕ, List, ◌≡◌, ◌+◌, ◌-◌, ◌++◌, suc, ◌∙◌, sym, ap, append_assoc, arith}
use Rattle.std.specs.List.{flat_map, range_with_len}
use Rattle.fx_table_book.specs.Tables.{parts_of}
use Rattle.fx_table_lines.specs.Figures.{count_text, words_in}
use Rattle.fx_table_lines.proofs.figures.put_counts.Goals as goal

pub loop-k-preserved : goal.loop-k-preserved
loop-k-preserved c =
    let k : ℕ = c.loop-k.k in
    let factors : ℕ = c.args.factors in
    let count : ℕ → List ℕ =
    λ k. count_text c.args.confounded k (words_in (parts_of c.args.parts.now) c.args.key.now c.args.confounded k) in
    let left : factors + 1 - k ≡ suc (factors + 1 - (k + 1)) = omega (arith, c.loop-k-test.true) in
    let later : List ℕ = flat_map count (range_with_len (k + 1) (factors + 1 - (k + 1))) in
    let next : flat_map count (range_with_len k (factors + 1 - k)) ≡ count k ++ later =
    ap (λ n. flat_map count (range_with_len k n)) left in
    let put : c.put_count.new.out ≡ c.loop-k.out ++ count k =
    c.in_ok-put_count.ensures
    ∙ ap (λ n. c.loop-k.out ++ count_text c.args.confounded k n) c.words_in.ensures in
    ap (λ (l : List ℕ). l ++ later) put
    ∙ append_assoc c.loop-k.out (count k) later
    ∙ ap (λ (l : List ℕ). c.loop-k.out ++ l) (sym next)
    ∙ c.loop-k.invariant
