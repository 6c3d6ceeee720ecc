-- A fault of the words of `tables` is at one of them, or where one more would be.
use Rattle.std.proofs.Common.{ℕ, ◌≤◌, ◌+◌, ◌^◌, true, false, List, [], ◌∷◌, length, suc, arith}
use Rattle.std.specs.Prelude.{nat_le, ◌&&◌, Option, Some, None, Result, Ok, Err, IfSome, codes}
use Rattle.std.specs.Option.{option_map}
use Rattle.fx_settings.specs.Powers.{greatest}
use Rattle.fx_statements.specs.Valid.{most_factors_of}
use Rattle.fx_table_book.specs.declared.order.Order.{Order}
use Rattle.fx_program.specs.declared.table_options.Groups.{Groups}
use Rattle.fx_program.specs.declared.table_options.Inside.{Inside}
use Rattle.fx_program.specs.declared.table_options.TableOptions.{TableOptions}
use Rattle.fx_program.specs.declared.table_words.AskedTable.{AskedTable}
use Rattle.fx_program.specs.declared.word_fault.WordFault.{WordFault}
use Rattle.fx_program.specs.declared.word_fault.WordFaultKind.TheVariants.{InvalidNumber, MissingNumber}
use Rattle.fx_program.specs.CommandLine.{IsWordFault}
use Rattle.fx_program.specs.TableWords as tables
use Rattle.fx_program.specs.Words.{after_prefix, number_at, once, order_at, order_of, within, word_fault}
use Rattle.fx_program.proofs.WordPlaces.{Within, either, fault_here, once_within, value_within}

module _ (last : ℕ) where
  -- options before so many more words
  record AreBefore (rest : ℕ) (given : TableOptions) : Type 0 where
    pub from : 1 ≤ given.next
    pub to : given.next + rest ≤ last
    pub inside : IfSome given.inside (λ x. (1 ≤ x.word) × (x.word ≤ last))

  abbrev Before : ℕ → Result TableOptions WordFault → Type 0
  Before rest (Ok given) = AreBefore rest given
  Before rest (Err fault) = IsWordFault last fault

  abbrev Inner : Result Inside WordFault → Type 0
  Inner (Ok x) = (1 ≤ x.word) × (x.word ≤ last)
  Inner (Err fault) = IsWordFault last fault

  module _ (given : TableOptions) (rest : ℕ) (h : AreBefore (suc rest) given) where
    here : given.next ≤ last
    here = omega (arith, h.to)

    groups_before : (r : Result Groups WordFault) → Within last r → Before rest (tables.add_groups given r)
    groups_before (Ok x) w = record { from = omega (arith, h.from); to = omega (arith, h.to); inside = h.inside }
    groups_before (Err fault) w = w

    inside_before : (r : Result Inside WordFault) → Inner r → Before rest (tables.add_inside given r)
    inside_before (Ok x) w = record { from = omega (arith, h.from); to = omega (arith, h.to); inside = w }
    inside_before (Err fault) w = w

    order_before : (r : Result Order WordFault) → Within last r → Before rest (tables.add_order given r)
    order_before (Ok x) w = record { from = omega (arith, h.from); to = omega (arith, h.to); inside = h.inside }
    order_before (Err fault) w = w

    nodes_before : (r : Result ℕ WordFault) → Within last r → Before rest (tables.add_nodes given r)
    nodes_before (Ok x) w = record { from = omega (arith, h.from); to = omega (arith, h.to); inside = h.inside }
    nodes_before (Err fault) w = w

    inner : (earlier : Option Inside) (n : Option ℕ)
        → Inner (once given.next earlier (option_map (tables.inside_with given.next) n))
    inner (Some x) n = fault_here last given.next h.from here
    inner None (Some n) = (h.from, here)
    inner None None = fault_here last given.next h.from here

    by_nodes_before : (digits : Option (List ℕ)) → Before rest (tables.by_nodes given digits)
    by_nodes_before (Some digits) =
        nodes_before _ (once_within last given.next h.from here given.nodes (within 1 5000000 digits))
    by_nodes_before None = fault_here last given.next h.from here

    by_order_before : (word : List ℕ) (name : Option (List ℕ)) → Before rest (tables.by_order given word name)
    by_order_before word (Some name) =
        order_before _ (once_within last given.next h.from here given.order (tables.order_named name))
    by_order_before word None = by_nodes_before (after_prefix (codes "--nodes=") word)

    by_inside_before : (word : List ℕ) (digits : Option (List ℕ)) → Before rest (tables.by_inside given word digits)
    by_inside_before word (Some digits) = inside_before _ (inner given.inside (within 1 63 digits))
    by_inside_before word None = by_order_before word (after_prefix (codes "--order=") word)

    module _ (q m : ℕ) where
      by_whole_before : (word : List ℕ) (digits : Option (List ℕ))
          → Before rest (tables.by_whole_plots q m given word digits)
      by_whole_before word (Some digits) =
          groups_before _ (once_within last given.next h.from here given.groups (tables.groups_of q m true digits))
      by_whole_before word None = by_inside_before word (after_prefix (codes "--inside=") word)

      by_blocks_before : (word : List ℕ) (digits : Option (List ℕ))
          → Before rest (tables.by_blocks q m given word digits)
      by_blocks_before word (Some digits) =
          groups_before _ (once_within last given.next h.from here given.groups (tables.groups_of q m false digits))
      by_blocks_before word None = by_whole_before word (after_prefix (codes "--whole-plots=") word)

  behind : (q m : ℕ) (r : Result TableOptions WordFault) (words : List (List ℕ)) → Before (length words) r
      → Before 0 (tables.options_behind q m r words)
  behind q m (Err fault) words h = h
  behind q m (Ok given) [] h = h
  behind q m (Ok given) (word ∷ words) h =
      behind q m (tables.with_option q m given word) words
      (by_blocks_before given (length words) h q m word (after_prefix (codes "--blocks=") word))

  limited_within : (asked : AskedTable) → 4 ≤ last → Within last (tables.limited asked)
  limited_within asked fits =
      either {T = AskedTable} last
      (nat_le (tables.first_line asked) asked.upto
      && (nat_le (asked.upto + asked.inside) (most_factors_of asked.q false)
      && nat_le (asked.q ^ (asked.upto + asked.inside)) (2 ^ 120)))
      (Ok asked) (word_fault InvalidNumber 4) tt (fault_here last 4 (omega arith) fits)

  module _ (q m most : ℕ) (fits : 4 ≤ last) (given : TableOptions) (h : AreBefore 0 given) where
    missing : IsWordFault last (record { kind = MissingNumber; word = given.next })
    missing = fault_here last given.next h.from (omega (arith, h.to))

    inside_within : (d : ℕ) (inside : Option Inside) → IfSome inside (λ x. (1 ≤ x.word) × (x.word ≤ last))
        → Within last (tables.with_inside q m most given d inside)
    inside_within d None w = missing
    inside_within d (Some x) w =
        either last (tables.can_span q d x.count) (tables.limited (tables.asked_by q m most given d x.count))
        (word_fault InvalidNumber x.word) (limited_within (tables.asked_by q m most given d x.count) fits)
        (fault_here last x.word w.0 w.1)

    outside_within : (d : ℕ) (inside : Option Inside) → Within last (tables.without_inside q m most given d inside)
    outside_within d None = limited_within (tables.asked_by q m most given d 0) fits
    outside_within d (Some x) = missing

    groups_within : (groups : Option Groups) → Within last (tables.by_groups q m most given groups)
    groups_within None = outside_within 0 given.inside
    groups_within (Some x) =
        either last x.are_whole_plots (tables.with_inside q m most given x.h given.inside)
        (tables.without_inside q m most given x.h given.inside) (inside_within x.h given.inside h.inside)
        (outside_within x.h given.inside)

  options_within : (q m most : ℕ) → 4 ≤ last → (r : Result TableOptions WordFault) → Before 0 r
      → Within last (tables.by_options q m most r)
  options_within q m most fits (Ok given) h = groups_within q m most fits given h given.groups
  options_within q m most fits (Err fault) h = h

  factors_within : (q m : ℕ) (options : List (List ℕ)) (r : Result ℕ WordFault) → length options + 5 ≤ last
      → Within last r → Within last (tables.behind_factors q m options r)
  factors_within q m options (Err fault) fits h = h
  factors_within q m options (Ok most) fits h =
      options_within q m most (omega (arith, fits)) (tables.options_behind q m (Ok tables.no_options) options)
      (behind q m (Ok tables.no_options) options (record { from = omega arith; to = omega (arith, fits); inside = tt }))

  with_indexes_within : (q m : ℕ) (words : List (List ℕ)) → length words + 4 ≤ last
      → Within last (tables.with_indexes q m words)
  with_indexes_within q m [] fits = fault_here last 4 (omega arith) (omega (arith, fits))
  with_indexes_within q m (word ∷ options) fits =
      factors_within q m options (number_at 4 1 (most_factors_of q false) word) (omega (arith, fits))
      (value_within last 4 (omega arith) (omega (arith, fits)) (within 1 (most_factors_of q false) word))

  indexes_within : (q : ℕ) (words : List (List ℕ)) (r : Result ℕ WordFault) → length words + 4 ≤ last
      → Within last r → Within last (tables.behind_indexes q words r)
  indexes_within q words (Err fault) fits h = h
  indexes_within q words (Ok m) fits h = with_indexes_within q m words fits

  with_levels_within : (q : ℕ) (words : List (List ℕ)) → length words + 3 ≤ last
      → Within last (tables.with_levels q words)
  with_levels_within q [] fits = fault_here last 3 (omega arith) (omega (arith, fits))
  with_levels_within q (word ∷ words) fits =
      indexes_within q words (number_at 3 1 (greatest q) word) (omega (arith, fits))
      (value_within last 3 (omega arith) (omega (arith, fits)) (within 1 (greatest q) word))

  levels_within : (words : List (List ℕ)) (r : Result ℕ WordFault) → length words + 3 ≤ last → Within last r
      → Within last (tables.behind_levels words r)
  levels_within words (Err fault) fits h = h
  levels_within words (Ok q) fits h = with_levels_within q words fits

  asked_within : (words : List (List ℕ)) → length words + 2 ≤ last → Within last (tables.asked_of words)
  asked_within [] fits = fault_here last 2 (omega arith) (omega (arith, fits))
  asked_within (word ∷ words) fits =
      levels_within words (order_at 2 word) (omega (arith, fits))
      (value_within last 2 (omega arith) (omega (arith, fits)) (order_of word))

  table_within : (r : Result AskedTable WordFault) → Within last r → Within last (tables.table_for r)
  table_within (Ok asked) h = tt
  table_within (Err fault) h = h

  pub tables_within : (words : List (List ℕ)) → length words + 2 ≤ last → Within last (tables.tables_with words)
  tables_within words fits = table_within (tables.asked_of words) (asked_within words fits)
