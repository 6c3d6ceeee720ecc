-- The runs as a table that holds each text once.
use Rattle.std.proofs.Common.{ℕ, zero, suc, ◌≡◌, ◌<◌, ◌^◌, ◌==◌, Bool, true, false, cond, List, [], ◌∷◌, ◌++◌, length}
use Rattle.std.proofs.Common.{map}
use Rattle.std.proofs.Common.{get_or, refl, sym, ◌∙◌, ap, arith}
use Rattle.std.specs.List.{range_with_len}
use Rattle.std.proofs.lemmas.List.{get_or-map, length-map}
use Rattle.std.proofs.lemmas.List.FromFn.{fill_by_all, get_or-map-range_with_len, length-map-range_with_len}
use Rattle.fx_runs.specs.Runs.{AreRuns, RunsView}
use Rattle.fx_runs.specs.RunBlocks.{block_of, run_at}
use Rattle.fx_derived.specs.Codes.{derived_level}
use Rattle.fx_plan.specs.Columns.{codes_of}
use Rattle.fx_plan.specs.Coded.{block_fields, row_codes}
use Rattle.fx_plan.specs.Products.{own_fields}
use Rattle.fx_plan.specs.Tables.{block_field, coded_row}
use Rattle.fx_plan.proofs.Repeating.{block_low}

-- a row has a text for each number
pub coded_long : (texts : List (List (List ℕ))) (numbers : List ℕ)
    → length (coded_row texts numbers) ≡ length numbers
coded_long texts numbers =
    length-map-range_with_len (λ i. get_or (get_or texts i []) (get_or numbers i 0) []) 0 _

pub coded_at : (texts : List (List (List ℕ))) (numbers : List ℕ) (i : ℕ) → i < length numbers
    → get_or (coded_row texts numbers) i [] ≡ get_or (get_or texts i []) (get_or numbers i 0) []
coded_at texts numbers i low =
    get_or-map-range_with_len (λ i. get_or (get_or texts i []) (get_or numbers i 0) []) 0 _ i i [] low
    (omega arith)

-- a column in front
behind_one : (text : List (List ℕ)) (number : ℕ) (texts : List (List (List ℕ))) (numbers : List ℕ)
    → coded_row (text ∷ texts) (number ∷ numbers) ≡ get_or text number [] ∷ coded_row texts numbers
behind_one text number texts numbers =
    sym (fill_by_all (λ i. get_or (get_or (text ∷ texts) i []) (get_or (number ∷ numbers) i 0) [])
    _ _ [] (ap suc (coded_long texts numbers)) each)
  where
    each : (k : ℕ) → k < suc (length numbers)
        → get_or (get_or text number [] ∷ coded_row texts numbers) k []
        ≡ get_or (get_or (text ∷ texts) k []) (get_or (number ∷ numbers) k 0) []
    each zero low = refl
    each (suc k) low = coded_at texts numbers k (omega arith)

of_row : (b : Bool) (text : List (List ℕ)) (number : ℕ) (field : List ℕ) (texts : List (List (List ℕ)))
    (numbers : List ℕ) → get_or text number [] ≡ field
    → coded_row (cond b [] (text ∷ []) ++ texts) (cond b [] (number ∷ []) ++ numbers)
    ≡ cond b [] (field ∷ []) ++ coded_row texts numbers
of_row true text number field texts numbers e = refl
of_row false text number field texts numbers e =
    cc (behind_one text number texts numbers)

mapped_twice : {X Y Z : Type 0} (f : Y → Z) (g : X → Y) (xs : List X) → map (λ x. f (g x)) xs ≡ map f (map g xs)
mapped_twice f g [] = refl
mapped_twice {Z = Z} f g (x ∷ xs) = cc (mapped_twice f g xs)

module _ (runs : RunsView) (h : AreRuns runs.shape runs.rows) (block_values columns : List (List ℕ))
    (values : List (List (List ℕ))) where
  abbrev n : ℕ
  n = length runs.rows

  abbrev blocks : ℕ
  blocks = runs.shape.q ^ runs.shape.t

  abbrev texts : List (List (List ℕ))
  texts = cond (runs.shape.t == 0) [] (block_fields block_values blocks ∷ []) ++ values

  row : (k : ℕ) → k < n → coded_row texts (row_codes runs columns k) ≡ own_fields runs block_values columns values k
  row k low =
      let codes = codes_of runs.shape.q columns (run_at runs k) in
      cc (
        of_row (runs.shape.t == 0) _ _
            _ values codes
            (get_or-map-range_with_len (block_field block_values) 0 blocks _ (block_of runs k) []
            (block_low runs h k low) (omega arith)),
        length-map columns
            (λ places. derived_level runs.shape.q places (run_at runs k)),
      )

  -- the rows of the runs, by the numbers of their fields
  pub coded_is : {V : Type 0} (f : V → List ℕ) (rows : List V)
      → map f rows ≡ map (row_codes runs columns) (range_with_len 0 n)
      → map (λ r. coded_row texts (f r)) rows
      ≡ map (own_fields runs block_values columns values) (range_with_len 0 n)
  coded_is f rows e =
      cc (
        mapped_twice (coded_row texts) f rows,
        fill_by_all (own_fields runs block_values columns values)
            _ n []
            (length-map (map (row_codes runs columns) (range_with_len 0 n)) (coded_row texts)
            ∙ length-map-range_with_len (row_codes runs columns) 0 n)
            (λ k low.
            let long = length-map-range_with_len (row_codes runs columns) 0 n in
            get_or-map (coded_row texts) (map (row_codes runs columns) (range_with_len 0 n)) k [] [] (omega arith)
            ∙ ap (coded_row texts) (get_or-map-range_with_len (row_codes runs columns) 0 n k k [] low (omega arith))
            ∙ row k low),
      )
