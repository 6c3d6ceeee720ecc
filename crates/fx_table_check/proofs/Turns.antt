-- How the prefixes have their turn.
use Rattle.std.proofs.Common.{ℕ, ◌≡◌, ◌<◌, ◌≤◌, ◌+◌, ◌^◌, zero, suc}
use Rattle.std.proofs.Common.{List, [], ◌∷◌, ◌++◌, map, length, take, drop, slice_index, get_or, Option, Some, None}
use Rattle.std.proofs.Common.{refl, sym, ◌∙◌, ap, ap₂, arith}
use Rattle.std.specs.List.{filter}
use Rattle.std.proofs.lemmas.List.{length_push, take-append-le, take-take, get_or-take, take_all, drop_more}
use Rattle.std.proofs.lemmas.List.{length-take-le}
use Rattle.std.proofs.Math.Seq.{get_or-append_seam}
use Rattle.fx_designs.specs.Answers.{falling}
use Rattle.fx_strata.specs.Designs.{Strata}
use Rattle.fx_strata.specs.Stages.{may_follow}
use Rattle.fx_strata.specs.Books.{Claim, Entry, children, turns_after}
use Rattle.fx_table_check.specs.declared.reason.Reason.{Reason}
use Rattle.fx_table_check.specs.declared.reason.Reason.TheVariants.{NoTurn, Ended}
use Rattle.fx_table_check.specs.Checking.{flaw, Flaw, or_later, first_flaw, children_below, after, pending}

module _ (x : Strata) where
  after-take : (k j : ℕ) (rows : List ℕ) → j ≤ k → after x (take k rows) j ≡ after x rows j
  after-take k zero rows le = refl
  after-take k (suc j) rows le =
      cc (take-take j k rows (omega arith), get_or-take k rows j 0 (omega arith), after-take k j rows (omega arith))

  -- all children of a prefix are done
  pub popped-turns : (rows : List ℕ) (below n k : ℕ) → filter (may_follow x rows) (falling below) ≡ []
      → length rows ≡ k + 1 → n ≡ slice_index rows k
      → pending x rows below ≡ pending x (take k rows) n
  popped-turns rows below n k none len is =
      ap (λ l. map (λ r. rows ++ r ∷ []) l ++ after x rows (length rows)) none
      ∙ ap (after x rows) (let e : length rows ≡ suc k = omega arith in e)
      ∙ ap₂ (λ b a. children_below x (take k rows) b ++ a) (sym is) (sym (after-take k k rows (omega arith)))
      ∙ ap (λ j. children_below x (take k rows) n ++ after x (take k rows) j)
      (sym (length-take-le k rows (omega arith)))

  -- a branch is entered
  pub entered : (rows : List ℕ) (row n : ℕ) → n ≡ x.q ^ x.m
      → children x (rows ++ row ∷ []) ++ pending x rows row ≡ pending x (rows ++ row ∷ []) n
  entered rows row n is =
      let k = length rows in
      let longer : List ℕ = rows ++ row ∷ [] in
      let front =
      take-append-le k rows (row ∷ []) (omega arith) ∙ take_all k rows (omega arith) in
      let rest : after x longer k ≡ after x rows k =
      cc (after-take k k longer (omega arith)) in
      ap₂ (λ a b. children_below x longer a ++ b) (sym is)
      (ap₂ (λ a b. a ++ b) (ap₂ (children_below x) (sym front) (sym (get_or-append_seam rows row [] 0))) (sym rest))
      ∙ ap (λ j. children_below x longer n ++ after x longer j)
      (let e : suc k ≡ length longer = omega (arith, length_push rows row) in e)

module _ (x : Claim) (turns : List (List ℕ)) (i : ℕ) (entries : List Entry) (whole : Option Flaw)
    (so : first_flaw x turns i (drop i entries) ≡ whole) where
  -- what the entry at i does where a prefix has its turn
  pub no-turn : turns ≡ [] → (e : Entry) → i < length entries → whole ≡ Some (record { place = i; reason = NoTurn })
  unfolding first_flaw
  no-turn none e low =
      cc (drop_more entries i e low)

  pub all-done : turns ≡ [] → length entries ≤ i → whole ≡ None
  unfolding first_flaw
  all-done none past = cc (drop-past entries i past)
    where
      drop-past : (l : List Entry) (i : ℕ) → length l ≤ i → drop i l ≡ []
      drop-past [] zero h = refl
      drop-past [] (suc i) h = refl
      drop-past (e ∷ l) zero h = absurd (omega arith)
      drop-past (e ∷ l) (suc i) h = drop-past l i (omega arith)

  module _ (c : List ℕ) (others : List (List ℕ)) (next : turns ≡ c ∷ others) where
    pub ended-early : length entries ≤ i → whole ≡ Some (record { place = i; reason = Ended })
    unfolding first_flaw
    ended-early past = cc (drop-past entries i past)
      where
        drop-past : (l : List Entry) (i : ℕ) → length l ≤ i → drop i l ≡ []
        drop-past [] zero h = refl
        drop-past [] (suc i) h = refl
        drop-past (e ∷ l) zero h = absurd (omega arith)
        drop-past (e ∷ l) (suc i) h = drop-past l i (omega arith)

    step : (e : Entry) → i < length entries → e ≡ get_or entries i e
        → whole ≡ or_later i (flaw x c e) (first_flaw x (turns_after x c e others) (i + 1) (drop (i + 1) entries))
    unfolding first_flaw
    step e low is =
        cc (drop_more entries i e low)

    pub flawed : (e : Entry) → i < length entries → e ≡ get_or entries i e → (r : Reason) → flaw x c e ≡ Some r
        → whole ≡ Some (record { place = i; reason = r })
    flawed e low is r bad =
        cc (step e low is)

    pub goes-on : (e : Entry) → i < length entries → e ≡ get_or entries i e → flaw x c e ≡ None
        → first_flaw x (turns_after x c e others) (i + 1) (drop (i + 1) entries) ≡ whole
    goes-on e low is good =
        cc (step e low is)
