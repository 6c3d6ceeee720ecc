-- A step has no more factors than its limit.
use Rattle.std.proofs.Common.{ℕ, ◌≡◌, ◌≤◌, ◌+◌, List, [], ◌∷◌, ◌++◌, length, Ok, subst, arith, length-append}
use Rattle.std.specs.Prelude.{nat_lt}
use Rattle.std.proofs.lemmas.Bool.{ltb-false}
use Rattle.fx_text.specs.Refusals.{refusal_at}
use Rattle.fx_text.specs.Written.{Written}
use Rattle.fx_text.proofs.Chains.{bind_ok, same_ok, unless_ok}
use Rattle.fx_settings.specs.Items.{Item, items_of, names_of}
use Rattle.fx_settings.specs.Factors.{added, all_added, are_known, names_of_factors}

module _ (limit : ℕ) where
  added_within : (names : List (List ℕ)) (item : Item) (more : List (List ℕ)) → added limit names item ≡ Ok more
      → length more ≤ limit
  added_within names item more e =
      let regular = unless_ok _ _ more _ e in
      let few = unless_ok (nat_lt limit (length names + length (names_of item))) _ more (refusal_at 10 item.first)
      regular.1 in
      let new = unless_ok (are_known (names_of item) names) _ more (refusal_at 5 item.first) few.1 in
      let room = ltb-false limit (length names + length (names_of item)) few.0 in
      let long = length-append names (names_of item) in
      subst (λ l. length l ≤ limit) (same_ok (names ++ names_of item) more new.1)
      (omega (arith, room, long))

  pub all_within : (names : List (List ℕ)) (items : List Item) (all : List (List ℕ)) → length names ≤ limit
      → all_added limit names items ≡ Ok all → length all ≤ limit
  all_within names [] all few e = rw (same_ok names all e) at few
  all_within names (item ∷ items) all few e =
      let first = bind_ok _ _ all e in
      all_within first.0 items all (added_within names item first.0 first.1) first.2

  pub factors_within : (statement : List Written) (all : List (List ℕ)) → names_of_factors limit statement ≡ Ok all
      → length all ≤ limit
  factors_within statement all e = all_within [] (items_of statement) all (omega arith) e
