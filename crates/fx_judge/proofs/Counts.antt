-- How often each value comes in the first items of a list.
use Rattle.std.proofs.Common.{ℕ, ◌≡◌, ◌<◌, ◌≤◌, ◌+◌, eqb, List, [], length, replicate, map, take, set, get_or}
use Rattle.std.proofs.Common.{get_or-set_other, get_or-set_same, sym, ◌∙◌, ap, arith, inl, inr}
use Rattle.std.proofs.lemmas.List.{take_all, get_or-map, length-replicate, get_or-replicate, length-take}
use Rattle.std.proofs.Math.ListN.{length-set}
use Rattle.std.proofs.lemmas.List.Sums.{count_by_more_no, count_by_more_yes, count_by-le-length}
use Rattle.std.proofs.lemmas.Bool.{cases_eq, eq-eqb, ne_eqb}
use Rattle.fx_judge.specs.Tallies.{AreValueCounts}

-- one more item, whose value is v
pub counted_more : (n : ℕ) (values counts : List ℕ) (k v : ℕ) → k < length values → get_or values k 0 ≡ v → v < n
    → AreValueCounts n (take k values) counts
    → AreValueCounts n (take (k + 1) values) (set counts v (get_or counts v 0 + 1))
counted_more n values counts k v h is low c = record {
  len = simp length-set c.len;
  each = λ y small. elim (cases_eq y v) [
    | inl e ↦
        let room : v < length counts = omega arith in
        let yes = count_by_more_yes (λ z. eqb z y) values k 0 h (eq-eqb _ _ (is ∙ sym e)) in
        rw (e, get_or-set_same) (ap (λ n. n + 1) (rw e at (c.each y small)) ∙ sym (rw e at yes))
    | inr ne ↦
        let other = ne in
        let miss = count_by_more_no (λ z. eqb z y) values k 0 h (ne_eqb _ _ (λ e. ne (sym e ∙ is))) in
        rw get_or-set_other (cc (c.each y small))
  ];
}

-- a count of the first k items is at most k
pub counted_low : (n : ℕ) (values counts : List ℕ) (k v : ℕ) → v < n → AreValueCounts n (take k values) counts
    → get_or counts v 0 ≤ k
counted_low n values counts k v low c =
    omega (arith, c.each v low, count_by-le-length (λ z. eqb z v) (take k values), length-take k values)

-- after all items
pub counted_all : (n : ℕ) (values counts : List ℕ) (k : ℕ) → length values ≤ k → AreValueCounts n (take k values) counts
    → AreValueCounts n values counts
counted_all n values counts k past c = rw (take_all k values past) at c

-- the value of a row
pub value_at : (f : List ℕ → ℕ) (rows : List (List ℕ)) (k : ℕ) (d : List ℕ) → k < length rows
    → get_or (map f rows) k 0 ≡ f (get_or rows k d)
value_at f rows k d h = get_or-map f rows k d 0 h

-- before the first item
pub counted_none : (n : ℕ) → AreValueCounts n [] (replicate n 0)
counted_none n = record { len = length-replicate n 0; each = λ y h. get_or-replicate n y 0 0 h }
