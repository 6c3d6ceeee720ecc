use Rattle.std.proofs.Common.{◌≡◌, ◌++◌, ◌∙◌, List, ℕ, append_assoc, ap, ap₂}
use Rattle.std.specs.Prelude.{codes, decimal}
use Rattle.fx_alias.specs.Given.{pairs_name}
use Rattle.fx_alias.proofs.given.put_counts.Goals as goal

grouped : (out front some of s between pairs all blank name end : List ℕ)
    → ((((((out ++ front) ++ (some ++ (of ++ s))) ++ between) ++ (pairs ++ (of ++ all))) ++ blank) ++ name) ++ end
    ≡ out
    ++ (front ++ (some ++ (of ++ (s ++ (between ++ (pairs ++ (of ++ (all ++ (blank ++ (name ++ end))))))))))
grouped out front some of s between pairs all blank name end = simp append_assoc

pub returns : goal.returns
returns c =
    let out = c.args.out.now in
    let front = codes "clear " in
    let of = codes " of " in
    let between = codes " factors, " in
    let blank = codes " " in
    let end = codes "\n" in
    let some = decimal c.args.counts.factors in
    let pairs = decimal c.args.counts.pairs in
    let all = decimal c.args.counts.all_pairs in
    let s = decimal c.args.shape.s in
    let first : c.put_share.new.out ≡ (out ++ front) ++ (some ++ (of ++ s)) =
    cc (c.in_ok-put_share.ensures, c.in_ok-put.ensures.ok, c.from.ensures) in
    let second : c.put_share-2.new.out
    ≡ (((out ++ front) ++ (some ++ (of ++ s))) ++ between) ++ (pairs ++ (of ++ all)) =
    cc (c.in_ok-put_share-2.ensures, c.in_ok-put-2.ensures.ok) in
    let last =
    ap (λ l. l ++ end)
    (c.in_ok-put-4.ensures.ok
    ∙ ap₂ (λ l n. l ++ n)
    (c.in_ok-put-3.ensures.ok ∙ ap (λ l. l ++ blank) second) c.pairs_name.ensures)
    ∙ grouped out front some of s between pairs all blank (pairs_name c.args.shape.q) end in
    rw last at c.put-5.ensures.ok
