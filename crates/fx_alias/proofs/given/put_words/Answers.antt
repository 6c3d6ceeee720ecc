use Rattle.std.proofs.Common.{◌≡◌, ◌≤◌, ◌<◌, ◌+◌, ◌++◌, ◌∙◌, ℕ, List, length, drop, get_or, slice_index_or, append-nil}
use Rattle.std.proofs.Common.{sym, ap, arith, add-one, drop-cons}
use Rattle.std.specs.Prelude.{◌==◌, if◌then◌else◌, codes, decimal}
use Rattle.std.proofs.Math.ListN.{drop_of_length-le}
use Rattle.fx_alias.specs.Given.{block_words_text}
use Rattle.fx_alias.proofs.given.put_words.Goals as goal

-- the words of a weight, and behind them what follows
abbrev before : ℕ → ℕ → List ℕ → List ℕ
before k x rest = if x == 0 then rest else codes " B" ++ (decimal k ++ (codes " " ++ (decimal x ++ rest)))

-- the words from one weight on begin with that weight's
one_more : (b : List ℕ) (i : ℕ) → i < length b
    → block_words_text (i + 1) (drop i b)
    ≡ before (i + 1) (get_or b i 0) (block_words_text (i + 1 + 1) (drop (i + 1) b))
one_more b i low = rw (add-one i, drop-cons b i 0 low)

pub loop-i-preserved : goal.loop-i-preserved
loop-i-preserved c =
    let b = c.args.words.now in
    let here =
    ap (λ (v : List ℕ). slice_index_or v c.loop-i.i 0) c.as_slice-words.ensures in
    let rest = block_words_text (c.loop-i.i + 1 + 1) (drop (c.loop-i.i + 1) b) in
    cc (
      c.in_ok-put_weight.ensures rest,
      one_more b c.loop-i.i (omega (arith, ap length c.as_slice-words.ensures)),
      c.loop-i.invariant,
    )

pub returns : goal.returns
returns c =
    let past : length c.args.words.now ≤ c.loop-i.i = omega (arith, ap length c.as_slice-words.ensures) in
    sym (append-nil c.loop-i.out) ∙ ap (λ l. c.loop-i.out ++ block_words_text (c.loop-i.i + 1) l)
    (sym (drop_of_length-le c.args.words.now past)) ∙ c.loop-i.invariant
