-- What the words of `tables` ask for: numbers, and then options.
use Rattle.std.specs.Prelude.{ℕ, ◌≡◌, ◌==◌, ◌<◌, ◌≤◌, ◌+◌, ◌-◌, ◌*◌, ◌^◌, ◌&&◌, nat_lt, nat_le, Bool, true, false}
use Rattle.std.specs.Prelude.{if◌then◌else◌}
use Rattle.std.specs.Prelude.{List, [], ◌∷◌, Option, Some, None, Result, Ok, Err, codes, find, is_some, unwrap_or}
use Rattle.std.specs.Prelude.{IfSome, IsTrue}
use Rattle.std.specs.List.{range_with_len}
use Rattle.std.specs.Option.{option_map}
use Rattle.std.specs.Str.{bytes_eq}
use Rattle.fx_designs.specs.Galois.{is_order}
use Rattle.fx_settings.specs.Powers.{greatest}
use Rattle.fx_statements.specs.Valid.{most_factors_of}
use Rattle.fx_table_book.specs.declared.order.Order.{Order}
use Rattle.fx_table_book.specs.declared.order.Order.TheVariants.{FactorsFirst, ChengWuFirst, ChengWuSecond}
use Rattle.fx_table_book.specs.declared.order.Order.TheVariants.{SitterChenFeder, MostClear}
use Rattle.fx_program.specs.Words.{after_prefix, number_at, once, order_at, within, word_fault}
use Rattle.fx_program.specs.declared.word_fault.WordFault.{WordFault}
use Rattle.fx_program.specs.declared.word_fault.WordFaultKind.TheVariants.{UnknownOption, InvalidNumber, MissingNumber}
use Rattle.fx_program.specs.declared.table_options.Groups.{Groups}
use Rattle.fx_program.specs.declared.table_options.Inside.{Inside}
use Rattle.fx_program.specs.declared.table_options.TableOptions.{TableOptions}
use Rattle.fx_program.specs.declared.table_words.AskedTable.{AskedTable}
use Rattle.fx_program.specs.declared.words.Settings.{Settings}
use Rattle.fx_program.specs.declared.words.Settings.TheVariants.{Tables}

-- no options before word 5
abbrev pub no_options : TableOptions
no_options = record { next = 5; groups = None; inside = None; order = None; nodes = None }

-- the dimension h of a base with q^h groups: it has at least one, and the run indexes have more
abbrev pub dimension : ℕ → ℕ → Option ℕ → Option ℕ
dimension q m None = None
dimension q m (Some n) = find (λ h. (q ^ h) == n) (range_with_len 1 (m - 1))

abbrev pub groups_with : Bool → ℕ → Groups
groups_with whole h = record { are_whole_plots = whole; h = h }

-- the groups of so many, blocks or whole plots
abbrev pub groups_of : ℕ → ℕ → Bool → List ℕ → Option Groups
groups_of q m whole digits = option_map (groups_with whole) (dimension q m (within 1 1024 digits))

abbrev pub inside_with : ℕ → ℕ → Inside
inside_with place n = record { count = n; word = place }

-- the factors inside, by the word at this place
abbrev pub inside_of : ℕ → List ℕ → Option Inside
inside_of place digits = option_map (inside_with place) (within 1 63 digits)

-- the order of a name
abbrev pub order_named : List ℕ → Option Order
order_named name =
    (if bytes_eq name (codes "FF")
    then Some FactorsFirst
    else (if bytes_eq name (codes "W1")
    then Some ChengWuFirst
    else (if bytes_eq name (codes "W2")
    then Some ChengWuSecond
    else (if bytes_eq name (codes "SCF")
    then Some SitterChenFeder
    else (if bytes_eq name (codes "CLEAR") then Some MostClear else None)))))

-- the options with one more
abbrev pub add_groups : TableOptions → Result Groups WordFault → Result TableOptions WordFault
add_groups given (Err fault) = Err fault
add_groups given (Ok x) =
    Ok
    (record { next = given.next + 1; groups = Some x; inside = given.inside; order = given.order; nodes = given.nodes })

abbrev pub add_inside : TableOptions → Result Inside WordFault → Result TableOptions WordFault
add_inside given (Err fault) = Err fault
add_inside given (Ok x) =
    Ok
    (record { next = given.next + 1; groups = given.groups; inside = Some x; order = given.order; nodes = given.nodes })

abbrev pub add_order : TableOptions → Result Order WordFault → Result TableOptions WordFault
add_order given (Err fault) = Err fault
add_order given (Ok x) =
    Ok
    (record {
      next = given.next + 1;
      groups = given.groups;
      inside = given.inside;
      order = Some x;
      nodes = given.nodes;
    })

abbrev pub add_nodes : TableOptions → Result ℕ WordFault → Result TableOptions WordFault
add_nodes given (Err fault) = Err fault
add_nodes given (Ok x) =
    Ok
    (record {
      next = given.next + 1;
      groups = given.groups;
      inside = given.inside;
      order = given.order;
      nodes = Some x;
    })

-- the options with that of the next word, by what follows a name in it, or a fault where it begins
-- with none of the names
abbrev pub by_nodes : TableOptions → Option (List ℕ) → Result TableOptions WordFault
by_nodes given (Some digits) = add_nodes given (once given.next given.nodes (within 1 5000000 digits))
by_nodes given None = word_fault UnknownOption given.next

abbrev pub by_order : TableOptions → List ℕ → Option (List ℕ) → Result TableOptions WordFault
by_order given word (Some name) = add_order given (once given.next given.order (order_named name))
by_order given word None = by_nodes given (after_prefix (codes "--nodes=") word)

abbrev pub by_inside : TableOptions → List ℕ → Option (List ℕ) → Result TableOptions WordFault
by_inside given word (Some digits) = add_inside given (once given.next given.inside (inside_of given.next digits))
by_inside given word None = by_order given word (after_prefix (codes "--order=") word)

abbrev pub by_whole_plots : ℕ → ℕ → TableOptions → List ℕ → Option (List ℕ) → Result TableOptions WordFault
by_whole_plots q m given word (Some digits) =
    add_groups given (once given.next given.groups (groups_of q m true digits))
by_whole_plots q m given word None = by_inside given word (after_prefix (codes "--inside=") word)

abbrev pub by_blocks : ℕ → ℕ → TableOptions → List ℕ → Option (List ℕ) → Result TableOptions WordFault
by_blocks q m given word (Some digits) =
    add_groups given (once given.next given.groups (groups_of q m false digits))
by_blocks q m given word None = by_whole_plots q m given word (after_prefix (codes "--whole-plots=") word)

abbrev pub with_option : ℕ → ℕ → TableOptions → List ℕ → Result TableOptions WordFault
with_option q m given word = by_blocks q m given word (after_prefix (codes "--blocks=") word)

-- the options with those of these words
abbrev pub options_behind : ℕ → ℕ → Result TableOptions WordFault → List (List ℕ) → Result TableOptions WordFault
options_behind q m (Err fault) words = Err fault
options_behind q m (Ok given) [] = Ok given
options_behind q m (Ok given) (word ∷ words) = options_behind q m (with_option q m given word) words

-- how many options are given
abbrev pub option_count : TableOptions → ℕ
option_count given =
    (if is_some given.groups then 1 else 0)
    + (if is_some given.inside then 1 else 0)
    + (if is_some given.order then 1 else 0)
    + (if is_some given.nodes then 1 else 0)

pub record AreOptions (m : ℕ) (given : TableOptions) : Type 0 where
  pub counted : given.next ≡ 5 + option_count given
  pub dimension : IfSome given.groups (λ x. (1 ≤ x.h) × (x.h < m))
  pub factors : IfSome given.inside (λ x. (1 ≤ x.count) × (x.count ≤ 63))
  pub budget : IfSome given.nodes (λ n. (1 ≤ n) × (n ≤ 5000000))

-- the number of factors outside the base of the first line: with fewer the runs would be copies of others
abbrev pub first_line : AskedTable → ℕ
first_line asked = (if asked.h == 0 then asked.m + 1 else asked.m - asked.h)

-- a table whose last line is within the limits, and not before the first
abbrev pub limited : AskedTable → Result AskedTable WordFault
limited asked =
    (if nat_le (first_line asked) asked.upto
    && (nat_le (asked.upto + asked.inside) (most_factors_of asked.q false)
    && nat_le (asked.q ^ (asked.upto + asked.inside)) (2 ^ 120))
    then Ok asked
    else word_fault InvalidNumber 4)

-- with these options, and 1,000,000 entries where no option says it
abbrev pub asked_by : ℕ → ℕ → ℕ → TableOptions → ℕ → ℕ → AskedTable
asked_by q m most given h inside =
    record {
      q = q;
      m = m;
      upto = most;
      h = h;
      inside = inside;
      order = unwrap_or given.order FactorsFirst;
      entries = unwrap_or given.nodes 1000000;
    }

-- whether n factors, no two alike, can span a base of dimension h: n is from h to (q^h - 1) / (q - 1)
abbrev pub can_span : ℕ → ℕ → ℕ → Bool
can_span q h n = nat_le h n && nat_lt (n * (q - 1)) (q ^ h)

-- whole plots have factors inside
abbrev pub with_inside : ℕ → ℕ → ℕ → TableOptions → ℕ → Option Inside → Result AskedTable WordFault
with_inside q m most given h None = word_fault MissingNumber given.next
with_inside q m most given h (Some inside) =
    (if can_span q h inside.count
    then limited (asked_by q m most given h inside.count) else word_fault InvalidNumber inside.word)

-- others do not
abbrev pub without_inside : ℕ → ℕ → ℕ → TableOptions → ℕ → Option Inside → Result AskedTable WordFault
without_inside q m most given h None = limited (asked_by q m most given h 0)
without_inside q m most given h (Some inside) = word_fault MissingNumber given.next

abbrev pub by_groups : ℕ → ℕ → ℕ → TableOptions → Option Groups → Result AskedTable WordFault
by_groups q m most given None = without_inside q m most given 0 given.inside
by_groups q m most given (Some x) =
    (if x.are_whole_plots
    then with_inside q m most given x.h given.inside
    else without_inside q m most given x.h given.inside)

abbrev pub by_options : ℕ → ℕ → ℕ → Result TableOptions WordFault → Result AskedTable WordFault
by_options q m most (Err fault) = Err fault
by_options q m most (Ok given) = by_groups q m most given given.groups

abbrev pub behind_factors : ℕ → ℕ → List (List ℕ) → Result ℕ WordFault → Result AskedTable WordFault
behind_factors q m options (Err fault) = Err fault
behind_factors q m options (Ok most) = by_options q m most (options_behind q m (Ok no_options) options)

abbrev pub with_indexes : ℕ → ℕ → List (List ℕ) → Result AskedTable WordFault
with_indexes q m [] = word_fault MissingNumber 4
with_indexes q m (word ∷ options) = behind_factors q m options (number_at 4 1 (most_factors_of q false) word)

abbrev pub behind_indexes : ℕ → List (List ℕ) → Result ℕ WordFault → Result AskedTable WordFault
behind_indexes q words (Err fault) = Err fault
behind_indexes q words (Ok m) = with_indexes q m words

abbrev pub with_levels : ℕ → List (List ℕ) → Result AskedTable WordFault
with_levels q [] = word_fault MissingNumber 3
with_levels q (word ∷ words) = behind_indexes q words (number_at 3 1 (greatest q) word)

abbrev pub behind_levels : List (List ℕ) → Result ℕ WordFault → Result AskedTable WordFault
behind_levels words (Err fault) = Err fault
behind_levels words (Ok q) = with_levels q words

-- the numbers of levels, of run indexes and of the most factors outside the base, and then the options
abbrev pub asked_of : List (List ℕ) → Result AskedTable WordFault
asked_of [] = word_fault MissingNumber 2
asked_of (word ∷ words) = behind_levels words (order_at 2 word)

abbrev pub table_for : Result AskedTable WordFault → Result Settings WordFault
table_for (Ok asked) = Ok (Tables asked)
table_for (Err fault) = Err fault

-- the settings of `tables`
abbrev pub tables_with : List (List ℕ) → Result Settings WordFault
tables_with words = table_for (asked_of words)

-- the numbers of a table
pub record AreNumbers (asked : AskedTable) : Type 0 where
  pub levels : IsTrue (is_order asked.q)
  pub indexes : (1 ≤ asked.m) × (asked.m ≤ greatest asked.q)
  pub groups : asked.h < asked.m
  pub inside : asked.inside ≤ 63
  pub whole_plots : 0 < asked.inside → (0 < asked.h) × (asked.h ≤ asked.inside)
  pub budget : (1 ≤ asked.entries) × (asked.entries ≤ 5000000)

-- the last line is not before the first, and of designs within the limits
pub record IsAsked (asked : AskedTable) : Type 0 where
  pub numbers : AreNumbers asked
  pub lines : first_line asked ≤ asked.upto
  pub factors : asked.upto + asked.inside ≤ most_factors_of asked.q false
  pub few_words : asked.q ^ (asked.upto + asked.inside) ≤ 2 ^ 120
