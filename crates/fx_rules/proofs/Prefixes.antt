-- How many bytes in front pass a test.
use Rattle.std.proofs.Common.{ℕ, ◌≡◌, ◌<◌, ◌≤◌, ◌+◌, suc, Bool, true, false, List, [], ◌∷◌, length, drop, get_or}
use Rattle.std.proofs.Common.{refl, ap, ◌∙◌, arith, drop-cons, length-drop}
use Rattle.std.specs.List.{prefix_len}

pub passes_on : (test : ℕ → Bool) (text : List ℕ) (i : ℕ) → i < length text → test (get_or text i 0) ≡ true
    → i + 1 + prefix_len test (drop (i + 1) text) ≡ i + prefix_len test (drop i text)
passes_on test text i low is =
    let here : prefix_len test (drop i text) ≡ 1 + prefix_len test (drop (suc i) text) =
    ap (prefix_len test) (drop-cons text i 0 low) ∙ rw is in
    let next : prefix_len test (drop (i + 1) text) ≡ prefix_len test (drop (suc i) text) =
    (let e : i + 1 ≡ suc i = omega arith in cc) in
    omega arith

pub stops : (test : ℕ → Bool) (text : List ℕ) (i : ℕ) → i < length text → test (get_or text i 0) ≡ false
    → prefix_len test (drop i text) ≡ 0
stops test text i low is = ap (prefix_len test) (drop-cons text i 0 low) ∙ rw is

pub all_pass : (test : ℕ → Bool) (text : List ℕ) (i : ℕ) → length text ≤ i → prefix_len test (drop i text) ≡ 0
all_pass test text i high = none _ (let l = length-drop i text in omega arith)
  where
    none : (l : List ℕ) → length l ≡ 0 → prefix_len test l ≡ 0
    none [] e = refl
    none (a ∷ l) e = absurd (omega arith)
