-- The key of a design as text: its words of each weight, whatever the order of the key.
use Rattle.std.specs.Prelude.{ℕ, ◌==◌, ◌+◌, ◌-◌, ◌*◌, ◌/◌, not, Bool, true, false, if◌then◌else◌, List, [], ◌∷◌, ◌++◌}
use Rattle.std.specs.Prelude.{codes, decimal, find, flat_map, Option, Some, None}
use Rattle.std.specs.List.{range_with_len}
use Rattle.fx_strata.specs.Designs.{Part, Words, Unclear, Order}
use Rattle.fx_strata.specs.Orders.{are_words}
use Rattle.fx_table_book.specs.declared.base.Base.{Base}
use Rattle.fx_table_book.specs.declared.order.Order as named
use Rattle.fx_table_book.specs.declared.order.Order.TheVariants.{FactorsFirst, ChengWuFirst, ChengWuSecond}
use Rattle.fx_table_book.specs.declared.order.Order.TheVariants.{SitterChenFeder, MostClear}
use Rattle.fx_table_book.specs.Tables.{order_of, strata_of}

abbrev pub are_unclear : Part → Bool
are_unclear (Words confounded k) = false
are_unclear Unclear = true

-- the first entry of a key for such a part of the order, or 0 where there is none
abbrev pub entry_of : (Part → Bool) → Order → List ℕ → ℕ
entry_of is [] key = 0
entry_of is (part ∷ order) [] = 0
entry_of is (part ∷ order) (a ∷ key) = (if is part then a else entry_of is order key)

-- A_k (false) or B_k (true)
abbrev pub words_in : Order → List ℕ → Bool → ℕ → ℕ
words_in order key confounded k = entry_of (are_words confounded k) order key

-- the least weight of constant words of at most s factors
abbrev pub resolution_in : Order → List ℕ → ℕ → Option ℕ
resolution_in order key s = find (λ k. not (words_in order key false k == 0)) (range_with_len 1 s)

abbrev pub resolution_text : Option ℕ → List ℕ
resolution_text None = codes " no defining words"
resolution_text (Some k) = codes " resolution " ++ decimal k

abbrev pub letter : Bool → List ℕ
letter false = codes " A"
letter true = codes " B"

-- the words of a weight, where there are some
abbrev pub count_text : Bool → ℕ → ℕ → List ℕ
count_text confounded k words =
    (if words == 0 then [] else letter confounded ++ (decimal k ++ (codes " " ++ decimal words)))

-- the same for so many weights from k on
abbrev pub counts_text : Order → List ℕ → Bool → ℕ → ℕ → List ℕ
counts_text order key confounded k count =
    flat_map (λ k. count_text confounded k (words_in order key confounded k)) (range_with_len k count)

-- how many components of interactions of two of s factors are clear: all but those of the key
abbrev pub clear_count : ℕ → ℕ → ℕ → ℕ
clear_count q s unclear = s * (s - 1) / 2 * (q - 1) - unclear

abbrev pub clear_text : named.Order → ℕ → ℕ → ℕ → List ℕ
clear_text FactorsFirst q s unclear = []
clear_text ChengWuFirst q s unclear = []
clear_text ChengWuSecond q s unclear = []
clear_text SitterChenFeder q s unclear = []
clear_text MostClear q s unclear = codes " clear " ++ decimal (clear_count q s unclear)

-- what is said of a design with this key
abbrev pub figures_text : Base → named.Order → List ℕ → List ℕ
figures_text base order key =
    let parts = order_of order (strata_of base) in
    let s = base.w + base.n in
    resolution_text (resolution_in parts key s)
    ++ (clear_text order base.q s (entry_of are_unclear parts key)
    ++ (counts_text parts key false 1 s ++ counts_text parts key true 1 s))
