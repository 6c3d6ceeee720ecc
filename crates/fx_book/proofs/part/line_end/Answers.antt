use Rattle.std.proofs.Common.{◌≡◌, ◌+◌, ◌-◌, suc, ◌∷◌, ◌++◌, length, take, drop}
use Rattle.std.proofs.Common.{arith, drop-cons}
use Rattle.std.proofs.lemmas.Bool.{eqb-true, false_from_ne_true}
use Rattle.std.proofs.lemmas.List.{drop-drop, take-append-drop, take_all, take_rest}
use Rattle.fx_book.proofs.Back.{split_last, split_line}
use Rattle.fx_book.proofs.Stops.{without_take}
use Rattle.fx_book.proofs.part.line_end.Goals as goal

pub returns-in-Some-clause-more : goal.returns-in-Some-clause-more
returns-in-Some-clause-more c more =
    let text = c.args.text.now in
    let at = c.args.at in
    let n = c.in-Some.length in
    let rest = drop at text in
    let found = rw (take_rest text at) at c.in-Some.ensures in
    let own = without_take 10 rest n
    (λ k low inside. false_from_ne_true _ (found.0.before k (omega arith) low)) in
    let cut : rest ≡ take n rest ++ 10 ∷ drop (suc n) rest =
    cc (take-append-drop n rest, drop-cons rest n 0 found.0.high, eqb-true _ 10 found.1) in
    let there : at + suc n ≡ at + n + 1 = omega arith in
    let part : at + n - at ≡ n = omega arith in
    cc (split_line 10 _ (drop (suc n) rest) own, drop-drop (suc n) at text)

pub returns-in-None-clause-last : goal.returns-in-None-clause-last
returns-in-None-clause-last c all =
    let rest = drop c.args.at c.args.text.now in
    let found = rw (take_rest c.args.text.now c.args.at) at c.in-None.ensures in
    let own = without_take 10 rest (length rest)
    (λ k low inside. false_from_ne_true _ (found k (omega arith) low)) in
    split_last 10 rest (rw (take_all (length rest) rest (omega arith)) at own)
