-- The entries of an order, one turn of weights after another.
use Rattle.std.proofs.Common.{◌≡◌, ℕ, zero, suc, ◌+◌, ◌-◌, ◌*◌, ◌≤◌, List, [], ◌∷◌, ◌++◌, map, sym, ap, ◌∙◌, arith}
use Rattle.std.proofs.Common.{append_assoc, append-nil, All, true, false, subst}
use Rattle.std.specs.Prelude.{Result, Ok, Err, IfOk}
use Rattle.std.specs.List.{range_with_len, flat_map, AllByRecursion}
use Rattle.std.proofs.lemmas.Bool.{and_parts, leb-true}
use Rattle.std.proofs.lemmas.Grind.{flat_map-append}
use Rattle.std.proofs.lemmas.List.Elements.{filter-append, filter_passes, recursion_from_All, All-from_recursion}
use Rattle.fx_strata.specs.Designs.{Strata, Part, Words}
use Rattle.fx_strata.specs.Designs as designs
use Rattle.fx_strata.specs.Orders.{compared, is_compared, weights}
use Rattle.fx_table_book.specs.declared.order.Part as book
use Rattle.fx_table_book.specs.declared.order.Part.TheVariants.{Constant, Confounded, Unclear}
use Rattle.fx_table_book.specs.declared.order.Order.{Order}
use Rattle.fx_table_book.specs.declared.order.Order.TheVariants.{FactorsFirst, ChengWuFirst, ChengWuSecond}
use Rattle.fx_table_book.specs.declared.order.Order.TheVariants.{SitterChenFeder, MostClear}
use Rattle.fx_table_book.specs.Tables.{IsWeight, order_of, parts_of, part_of}

range-more : (a n k : ℕ) → a + n ≡ k → range_with_len a (suc n) ≡ range_with_len a n ++ k ∷ []
range-more a zero k e = let same : a ≡ k = omega arith in cc
range-more a (suc n) k e = cc (range-more (a + 1) n k (omega arith))

module _ (x : Strata) where
  pub compared-append : (xs ys : List Part) → compared x (xs ++ ys) ≡ compared x xs ++ compared x ys
  compared-append xs ys = filter-append _ xs ys

  -- two parts that are put one after the other
  pub two : (old : List Part) (a b : Part)
      → (old ++ compared x (a ∷ [])) ++ compared x (b ∷ []) ≡ old ++ compared x (a ∷ b ∷ [])
  two old a b =
      cc (append_assoc old (compared x (a ∷ [])) (compared x (b ∷ [])), compared-append (a ∷ []) (b ∷ []))

  pub three : (old : List Part) (a b c : Part)
      → ((old ++ compared x (a ∷ [])) ++ compared x (b ∷ [])) ++ compared x (c ∷ [])
      ≡ old ++ compared x (a ∷ b ∷ c ∷ [])
  three old a b c =
      cc (
        two old a b,
        append_assoc old (compared x (a ∷ b ∷ [])) (compared x (c ∷ [])),
        compared-append (a ∷ b ∷ [])
            (c ∷ []),
      )

  -- the parts of the turns before one
  abbrev pub turns_before : (ℕ → List Part) → ℕ → List Part
  turns_before f k = compared x (flat_map f (range_with_len 1 (k - 1)))

  -- and with that turn
  pub turn_more : (start old new : List Part) (f : ℕ → List Part) (k next : ℕ)
      → 1 ≤ k
      → next ≡ k + 1
      → old ≡ start ++ turns_before f k
      → new ≡ old ++ compared x (f k)
      → new ≡ start ++ turns_before f next
  turn_more start old new f zero next some is was now = absurd (omega arith)
  turn_more start old new f (suc n) next some is was now =
      let before = range_with_len 1 n in
      let less : suc n - 1 ≡ n = omega arith in
      let more : next - 1 ≡ suc n = omega arith in
      let range : range_with_len 1 (next - 1) ≡ before ++ suc n ∷ [] =
      cc (range-more 1 n (suc n) (omega arith)) in
      let before_it : turns_before f (suc n) ≡ compared x (flat_map f before) =
      cc in
      let turns =
      flat_map-append f before (suc n ∷ [])
      ∙ ap (λ l. flat_map f before ++ l) (append-nil (f (suc n))) in
      cc (
        append_assoc start (compared x (flat_map f before)) (compared x (f (suc n))),
        compared-append
            (flat_map f before) (f (suc n)),
      )

  -- what is compared has a weight of so many factors
  each_weight : (parts : List book.Part)
      → AllByRecursion (λ p. is_compared x p ≡ true) (parts_of parts)
      → AllByRecursion (IsWeight (x.w + x.n)) parts
  each_weight [] h = tt
  each_weight (part ∷ parts) h = (own part h.0, each_weight parts h.1)
    where
      own : (part : book.Part) → is_compared x (part_of part) ≡ true → IsWeight (x.w + x.n) part
      own (Constant k) h =
          let p = and_parts _ _ h in
          (omega (arith, leb-true 3 k p.0), leb-true k _ p.1)
      own (Confounded k) h =
          let p = and_parts _ _ (and_parts _ _ h).1 in
          (omega (arith, leb-true 2 k p.0), leb-true k _ p.1)
      own Unclear h = tt

  -- the parts of which an order has those that are compared
  abbrev all_of : Order → List Part
  all_of FactorsFirst = map (Words false) (weights x) ++ map (Words true) (weights x)
  all_of ChengWuFirst = flat_map (λ k. Words false (2 * k - 1) ∷ Words false (2 * k) ∷ Words true k ∷ []) (weights x)
  all_of ChengWuSecond =
      flat_map (λ k. Words false (2 * k - 2) ∷ Words false (2 * k - 1) ∷ Words true k ∷ []) (weights x)
  all_of SitterChenFeder = flat_map (λ k. Words false (k + 1) ∷ Words true k ∷ []) (weights x)
  all_of MostClear =
      Words false 3 ∷ designs.Unclear ∷ map (λ k. Words false (3 + k)) (weights x) ++ map (Words true) (weights x)

  passes : (order : Order) → All (λ p. is_compared x p ≡ true) (order_of order x)
  passes FactorsFirst = filter_passes (is_compared x) (all_of FactorsFirst)
  passes ChengWuFirst = filter_passes (is_compared x) (all_of ChengWuFirst)
  passes ChengWuSecond = filter_passes (is_compared x) (all_of ChengWuSecond)
  passes SitterChenFeder = filter_passes (is_compared x) (all_of SitterChenFeder)
  passes MostClear = filter_passes (is_compared x) (all_of MostClear)

  pub weights_of : {E : Type 0} (order : Order) (r : Result (List book.Part) E)
      → IfOk r (λ (parts : List book.Part). parts_of parts ≡ order_of order x)
      → IfOk r (λ (parts : List book.Part). All (IsWeight (x.w + x.n)) parts)
  weights_of order (Err e) h = tt
  weights_of order (Ok parts) h =
      All-from_recursion _ parts
      (each_weight parts (recursion_from_All (λ p. is_compared x p ≡ true) _
      (subst (All (λ p. is_compared x p ≡ true)) (sym h) (passes order))))
