-- The OUTPUT statements of a step are refused by a rule, at the place of one of their words or numbers.
use Rattle.std.proofs.Common.{ℕ, zero, suc, ◌*◌, ◌^◌, Bool, true, false, not, ◌&&◌, ◌||◌, List, [], ◌∷◌, ◌++◌, length}
use Rattle.std.proofs.Common.{drop}
use Rattle.std.proofs.Common.{take, Option, Some, None, refl}
use Rattle.std.specs.List.{list_any}
use Rattle.fx_text.specs.Phrases.{after, preceding}
use Rattle.std.specs.Prelude.{codes, is_some, nat_le, nat_lt, IfSome, slice_get, ◌==◌, if◌then◌else◌}
use Rattle.fx_language.specs.declared.symbol.Symbol.{Symbol}
use Rattle.fx_language.specs.declared.symbol.Symbol.TheVariants as symbol
use Rattle.fx_language.specs.Symbols.{is, is_output_option}
use Rattle.fx_text.specs.Written.{Written, begins}
use Rattle.fx_text.specs.Names.{place_of}
use Rattle.fx_text.specs.Numbers.{number_of}
use Rattle.fx_outputs.specs.declared.derived.Derived.{Derived}
use Rattle.fx_outputs.specs.declared.earlier.EarlierPlan.{EarlierPlan}
use Rattle.fx_outputs.specs.declared.output.OutputSpec.{OutputSpec}
use Rattle.fx_outputs.specs.declared.replication.Rep.{Rep}
use Rattle.fx_outputs.specs.declared.columns.Columns.{Columns}
use Rattle.fx_outputs.specs.declared.context.BlockCount.{BlockCount}
use Rattle.fx_outputs.specs.Contexts.{Context}
use Rattle.fx_outputs.specs.Options.{option_of, options_of}
use Rattle.fx_outputs.proofs.OptionParts as parts
use Rattle.fx_outputs.specs.Earlier.{file_columns, plan_names, rep_columns, rep_rows}
use Rattle.fx_outputs.specs.Replications.{check_number, check_rows, plan_at, rep_at, replication_in_range, reps_of}
use Rattle.fx_outputs.specs.Shuffles.{seed_in_range, seeded, seed_written, shuffle_of}
use Rattle.fx_outputs.specs.Values.{checked_values, values_if_any, values_of}
use Rattle.fx_outputs.specs.BlockColumns.{has_blocks, check_blockname, check_free, check_column}
use Rattle.fx_outputs.specs.BlockColumns.{block_values, name_or_empty}
use Rattle.fx_outputs.specs.Columns.{check_name, check_names, check_size, column_of, columns_behind}
use Rattle.fx_outputs.specs.Columns.{columns_of, derived_name, derived_names, derived_of, factor_at, is_used, named}
use Rattle.fx_outputs.specs.Columns.{places_behind}
use Rattle.fx_outputs.specs.Columns.{recode_at, recode_of, unused_place}
use Rattle.fx_outputs.specs.OwnColumns.{other_columns, own_columns}
use Rattle.fx_outputs.specs.FileColumns.{check_columns, check_plan, meet}
use Rattle.fx_outputs.specs.Outputs.{check_new_name, output_spec, outputs_behind, outputs_of, plan_behind}
use Rattle.fx_text.proofs.Placed as placed
use Rattle.fx_text.proofs.Placed.{IsPlaced, ArePlaced, AreAllPlaced, Placed}

module _ (P : ℕ → ℕ → Type 0) where
  from : (word : Symbol) (all : List (List Written)) → AreAllPlaced P all → ArePlaced P (option_of word all)
  from word all h = parts.option (IsPlaced P) word all h

  new_name : (earlier : List (List ℕ)) (w : Written) → IsPlaced P w → Placed P (check_new_name earlier w)
  new_name earlier w h = placed.both P (is_some (place_of w.text earlier)) _ _ (placed.written P 18 w refl h) tt

  in_range : (w : Written) (n : Option ℕ) → IsPlaced P w → Placed P (replication_in_range w n)
  in_range w None h = placed.written P 20 w refl h
  in_range w (Some n) h = placed.both P (nat_le 1 n && nat_le n 200000) _ _ tt (placed.written P 20 w refl h)

  number : (w : Option Written) → IfSome w (IsPlaced P) → Placed P (check_number w)
  number None h = tt
  number (Some w) h =
      placed.both P (is symbol.Whole w.symbol) _ _
      (placed.chain P (replication_in_range w (number_of w)) _ (in_range w (number_of w) h) (λ n. tt)) tt

  rep : (earlier : List EarlierPlan) (w : Option Written) → IfSome w (IsPlaced P) → Placed P (rep_at earlier w)
  rep earlier None h = tt
  rep earlier (Some w) h =
      placed.both P (is symbol.Whole w.symbol) _ _
      (placed.chain P (replication_in_range w (number_of w)) _ (in_range w (number_of w) h) (λ n. tt))
      (of_place (place_of w.text (plan_names earlier)))
    where
      of_place : (place : Option ℕ) → Placed P (plan_at w place)
      of_place None = placed.written P 33 w refl h
      of_place (Some n) = tt

  reps : (earlier : List EarlierPlan) (s : List (List Written)) → AreAllPlaced P s → Placed P (reps_of earlier s)
  reps earlier s h =
      let point = slice_get (option_of symbol.Pointrep s) 2 in
      let design = slice_get (option_of symbol.Designrep s) 2 in
      let at_point = placed.at P 2 _ (from symbol.Pointrep s h) in
      let at_design = placed.at P 2 _ (from symbol.Designrep s h) in
      placed.chain P (check_number point) _ (number point at_point) (λ u.
      placed.chain P (check_number design) _ (number design at_design) (λ v.
      placed.chain P (rep_at earlier point) _ (rep earlier point at_point) (λ pointrep.
      placed.chain P (rep_at earlier design) _ (rep earlier design at_design) (λ designrep. tt))))

  few_rows : (runs pointrep designrep : ℕ) (w : Written) → IsPlaced P w
      → Placed P (check_rows runs pointrep designrep w)
  few_rows runs pointrep designrep w h =
      placed.both P (nat_le (runs * pointrep * designrep) 200000) _ _ tt (placed.written P 21 w refl h)

  shuffle : (s : List (List Written)) → AreAllPlaced P s → Placed P (shuffle_of s)
  shuffle s h =
      placed.both P (begins symbol.Randomize seed) _ _
      (of_written (not (begins symbol.Novalran (option_of symbol.Novalran s))) _ in_seed) tt
    where
      seed : List Written
      seed = option_of symbol.Randomize s

      in_seed : IfSome (seed_written seed) (IsPlaced P)
      in_seed = by_test _
        where
          by_test : (b : Bool) → IfSome (if b then slice_get seed 2 else None) (IsPlaced P)
          by_test true = placed.at P 2 seed (from symbol.Randomize s h)
          by_test false = tt

      of_number : (values : Bool) (w : Written) (n : Option ℕ) → IsPlaced P w → Placed P (seed_in_range values w n)
      of_number values w None h = placed.written P 19 w refl h
      of_number values w (Some n) h = placed.both P (nat_lt n (2 ^ 64)) _ _ tt (placed.written P 19 w refl h)

      of_written : (values : Bool) (w : Option Written) → IfSome w (IsPlaced P) → Placed P (seeded values w)
      of_written values None h = tt
      of_written values (Some w) h = of_number values w (number_of w) h

  with_blocks : (count : BlockCount) (w : Option Written) → IfSome w (IsPlaced P) → Placed P (check_blockname count w)
  with_blocks count None h = tt
  with_blocks count (Some w) h = placed.both P (has_blocks count) _ _ tt (placed.written P 31 w refl h)

  free : (factors : List (List ℕ)) (name : List ℕ) (w : Written) → IsPlaced P w → Placed P (check_free factors name w)
  free factors name w h = placed.both P (is_some (place_of name factors)) _ _ (placed.written P 5 w refl h) tt

  column : (context : Context) (output : Written) (w : Option Written) → IsPlaced P output → IfSome w (IsPlaced P)
      → Placed P (check_column context output w)
  column context output None at h =
      placed.both P (has_blocks context.blocks) _ _ (free context.factors (codes "BLOCK") output at) tt
  column context output (Some w) at h = free context.factors w.text w h

  as_many : (wanted : Option ℕ) (w : Written) (values : List (List ℕ)) → IsPlaced P w
      → Placed P (checked_values wanted w values)
  as_many None w values h = placed.written P 17 w refl h
  as_many (Some wanted) w values h = placed.both P (length values == wanted) _ _ tt (placed.written P 17 w refl h)

  begun : (wanted : Option ℕ) (s : List Written) → ArePlaced P s → Placed P (values_if_any wanted s)
  begun wanted [] h = tt
  begun wanted (w ∷ rest) h = as_many wanted w _ h.0

  factor : (name : Written) (place : Option ℕ) → IsPlaced P name → Placed P (factor_at name place)
  factor name None h = placed.written P 4 name refl h
  factor name (Some i) h = tt

  unused : (used : Bool) (name : Written) (place : ℕ) → IsPlaced P name → Placed P (unused_place used name place)
  unused used name place h = placed.both P used _ _ (placed.written P 28 name refl h) tt

  recode : (context : Context) (done : Columns) (name w : Written) (rest : List Written) → IsPlaced P name
      → IsPlaced P w → Placed P (recode_of context done name w rest)
  recode context done name w rest at_name at_w =
      placed.chain P (factor_at name (place_of name.text context.factors)) _
      (factor name (place_of name.text context.factors) at_name) (λ place.
      placed.chain P (unused_place (is_used done place) name place) _
      (unused (is_used done place) name place at_name) (λ own.
      placed.chain P (checked_values (Some context.q) w (values_of rest)) _
      (as_many (Some context.q) w (values_of rest) at_w)
      (λ given. tt)))

  names : (context : Context) (done : Columns) (earlier : List ℕ) (s : List Written) → ArePlaced P s
      → Placed P (places_behind context done earlier s)
  names context done earlier [] h = tt
  names context done earlier (name ∷ rest) h =
      placed.chain P (factor_at name (place_of name.text context.factors)) _
      (factor name (place_of name.text context.factors) h.0) (λ place.
      placed.chain P (unused_place (is_used done place || list_any (λ p. p == place) earlier) name place) _
      (unused (is_used done place || list_any (λ p. p == place) earlier) name place h.0) (λ own.
      names context done (earlier ++ own ∷ []) rest h.1))

  front : (n : ℕ) (s : List Written) → ArePlaced P s → ArePlaced P (take n s)
  front zero s h = tt
  front (suc n) [] h = tt
  front (suc n) (w ∷ rest) h = (h.0, front n rest h.1)

  behind : (s : List Written) → ArePlaced P s → ArePlaced P (after symbol.CloseBracket s)
  behind [] h = tt
  behind (w ∷ rest) h = by_test _ (behind rest h.1)
    where
      by_test : (b : Bool) → ArePlaced P (after symbol.CloseBracket rest)
          → ArePlaced P (if b then rest else after symbol.CloseBracket rest)
      by_test true later = h.1
      by_test false later = later

  derived : (context : Context) (done : Columns) (bracket : Written) (rest : List Written) → IsPlaced P bracket
      → ArePlaced P rest → Placed P (derived_of context done bracket rest)
  derived context done bracket rest at h =
      let inside = preceding symbol.CloseBracket rest in
      let others = after symbol.CloseBracket rest in
      placed.chain P (check_size context.q (length inside) bracket) _
      (placed.both P (nat_le 2 (length inside) && nat_le (length inside) 4 && nat_le (context.q ^ length inside) 64) _ _
      tt (placed.written P 35 bracket refl at)) (λ u.
      placed.chain P (places_behind context done [] inside) _ (names context done [] inside (front _ rest h)) (λ places.
      placed.chain P (values_if_any (Some (context.q ^ length inside)) (drop 2 others)) _
      (begun (Some (context.q ^ length inside)) _ (placed.dropped P 2 others (behind rest h)))
      (λ given. tt)))

  recoded : (context : Context) (done : Columns) (name : Written) (rest : List Written) → IsPlaced P name
      → ArePlaced P rest → Placed P (recode_at context done name rest)
  recoded context done name [] at h = tt
  recoded context done name (w ∷ rest) at h =
      placed.chain P (recode_of context done name w rest) _ (recode context done name w rest at h.0) (λ r. tt)

  option : (context : Context) (done : Columns) (s : List Written) → ArePlaced P s → Placed P (column_of context done s)
  option context done [] h = tt
  option context done (w ∷ rest) h =
      placed.both P (is symbol.OpenBracket w.symbol) _ _
      (placed.chain P (derived_of context done w rest) _ (derived context done w rest h.0 h.1) (λ d. tt))
      (placed.both P (is_output_option w.symbol) _ _ tt (recoded context done w rest h.0 h.1))

  columns : (context : Context) (done : Columns) (all : List (List Written)) → AreAllPlaced P all
      → Placed P (columns_behind context done all)
  columns context done [] h = tt
  columns context done (o ∷ all) h =
      placed.chain P (column_of context done o) _ (option context done o h.0) (λ now. columns context now all h.1)

  its_name : (o : List Written) → ArePlaced P o → IfSome (derived_name o) (IsPlaced P)
  its_name o h = by_test _
    where
      by_test : (b : Bool) → IfSome (if b then slice_get (after symbol.CloseBracket o) 1 else None) (IsPlaced P)
      by_test true = placed.at P 1 (after symbol.CloseBracket o) (behind o h)
      by_test false = tt

  naming : (names : List (List ℕ)) (name : Option Written) (later : List (List ℕ)) → IfSome name (IsPlaced P)
      → Placed P (named names name later)
  naming names None later h = tt
  naming names (Some w) later h =
      placed.chain P (check_name names w later) _
      (placed.both P (is_some (place_of w.text names) || is_some (place_of w.text later)) _ _
      (placed.written P 34 w refl h) tt) (λ u. tt)

  differing : (names : List (List ℕ)) (all : List (List Written)) → AreAllPlaced P all
      → Placed P (check_names names all)
  differing names [] h = tt
  differing names (o ∷ all) h =
      placed.chain P (named names (derived_name o) (derived_names all)) _
      (naming names _ (derived_names all) (its_name o h.0)) (λ more. differing more all h.1)

  plan : (w : Option Written) (columns own others : List (List ℕ)) → IfSome w (IsPlaced P)
      → Placed P (check_plan w columns own others)
  plan None columns own others h = tt
  plan (Some w) columns own others h =
      placed.both P (meet columns own || meet columns others) _ _ (placed.written P 34 w refl h) tt

  all_columns : (context : Context) (earlier : List EarlierPlan) (reps : Rep × Rep) (block_name : List ℕ)
      (derived : List Derived) (s : List (List Written)) → AreAllPlaced P s
      → Placed P (check_columns context earlier reps block_name derived s)
  all_columns context earlier reps block_name derived s h =
      let point = rep_columns (file_columns earlier) reps.0 in
      let design = rep_columns (file_columns earlier) reps.1 in
      let own = own_columns context block_name derived in
      placed.chain P (check_names (other_columns context block_name derived ++ point ++ design) s) _
      (differing (other_columns context block_name derived ++ point ++ design) s h) (λ u.
      placed.chain P (check_plan (slice_get (option_of symbol.Pointrep s) 2) point own design) _
      (plan (slice_get (option_of symbol.Pointrep s) 2) point own design (placed.at P 2 _ (from symbol.Pointrep s h)))
      (λ v.
      plan (slice_get (option_of symbol.Designrep s) 2) design own point
      (placed.at P 2 _ (from symbol.Designrep s h))))

  output : (context : Context) (earlier : List EarlierPlan) (word name : Written) (s : List (List Written))
      → IsPlaced P word
      → IsPlaced P name → AreAllPlaced P s → Placed P (output_spec context earlier word name s)
  output context earlier word name s at_word at_name h =
      placed.chain P (check_new_name (plan_names earlier) name) _ (new_name (plan_names earlier) name at_name) (λ u.
      placed.chain P (reps_of earlier s) _ (reps earlier s h) (λ repeated.
      placed.chain P (check_rows context.runs (rep_rows earlier repeated.0) (rep_rows earlier repeated.1) name) _
      (few_rows context.runs (rep_rows earlier repeated.0) (rep_rows earlier repeated.1) name at_name) (λ v.
      placed.chain P (shuffle_of s) _ (shuffle s h) (λ shuffled.
      placed.chain P (check_blockname context.blocks (slice_get (option_of symbol.Blockname s) 0)) _
      (with_blocks context.blocks _ (placed.at P 0 _ (from symbol.Blockname s h))) (λ x.
      placed.chain P (check_column context word (slice_get (option_of symbol.Blockname s) 2)) _
      (column context word _ at_word (placed.at P 2 _ (from symbol.Blockname s h))) (λ y.
      placed.chain P
      (block_values context.blocks (drop 3 (option_of symbol.Blockname s))) _
      (begun _ (drop 3 (option_of symbol.Blockname s)) (placed.dropped P 3 _ (from symbol.Blockname s h)))
      (λ given.
      placed.chain P (columns_of context s) _
      (columns context (record { recodes = []; derived = [] }) s h) (λ read.
      placed.chain P
      (check_columns context earlier repeated (name_or_empty (slice_get (option_of symbol.Blockname s) 2))
      read.derived s) _
      (all_columns context earlier repeated (name_or_empty (slice_get (option_of symbol.Blockname s) 2)) read.derived
      s h)
      (λ v. tt)))))))))

  all : (context : Context) (earlier : List EarlierPlan) (outputs : List OutputSpec) (statements : List (List Written))
      → AreAllPlaced P statements → Placed P (outputs_behind context earlier outputs statements)
  all context earlier outputs [] h = tt
  all context earlier outputs ([] ∷ rest) h = all context earlier outputs rest h.1
  all context earlier outputs ((a ∷ []) ∷ rest) h = all context earlier outputs rest h.1
  all context earlier outputs ((a ∷ b ∷ []) ∷ rest) h = all context earlier outputs rest h.1
  all context earlier outputs ((a ∷ b ∷ c ∷ []) ∷ rest) h = all context earlier outputs rest h.1
  all context earlier outputs ((a ∷ b ∷ c ∷ d ∷ opts) ∷ rest) h =
      placed.both P (is symbol.Output a.symbol) _ _
      (placed.chain P (output_spec context earlier a d (options_of (d ∷ opts))) _
      (output context earlier a d _ h.0.0 h.0.1.1.1.0
      (parts.options (IsPlaced P) [] false (d ∷ opts) tt h.0.1.1.1))
      (λ o. all context (earlier ++ plan_behind context earlier o ∷ []) (outputs ++ o ∷ []) rest h.1))
      (all context earlier outputs rest h.1)

  pub outputs : (context : Context) (earlier : List EarlierPlan) (statements : List (List Written))
      → AreAllPlaced P statements → Placed P (outputs_of context earlier statements)
  outputs context earlier statements h = all context earlier [] statements h
