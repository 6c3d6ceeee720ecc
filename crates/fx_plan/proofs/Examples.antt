-- Plans.
use Rattle.std.proofs.Common.{ℕ, ◌≡◌, List, [], ◌∷◌, refl}
use Rattle.std.specs.Prelude.{codes}
use Rattle.std.specs.Fmt.{digits}
use Rattle.csv.specs.Writing.{escaped, fields_text, is_blank}
use Rattle.fx_plan.specs.Draws.{drawn, shuffled}
use Rattle.fx_derived.specs.Tables.{TableView}
use Rattle.fx_outputs.specs.declared.derived.Derived.{Derived}
use Rattle.fx_plan.specs.Plans.{values_at}
use Rattle.fx_plan.specs.Columns.{codes_of, column_names, column_places, values_or_codes}
use Rattle.fx_plan.specs.Products.{repeats, replicated}
use Rattle.fx_plan.specs.Tables.{block_field, text_of}

-- a table of the runs 4 and 7, and one with the rows a and b
runs : TableView
runs = record { names = codes "r" ∷ []; rows = (codes "4" ∷ []) ∷ (codes "7" ∷ []) ∷ [] }

named : TableView
named = record { names = codes "n" ∷ []; rows = (codes "a" ∷ []) ∷ (codes "b" ∷ []) ∷ [] }

-- each run in succession, and then the whole list again
replications : (replicated runs (repeats 2) (repeats 2)).rows
    ≡ (codes "4" ∷ []) ∷ (codes "4" ∷ []) ∷ (codes "7" ∷ []) ∷ (codes "7" ∷ [])
    ∷ (codes "4" ∷ []) ∷ (codes "4" ∷ []) ∷ (codes "7" ∷ []) ∷ (codes "7" ∷ []) ∷ []
unfolding runs
replications = refl

-- a plan that POINTREP names changes fastest, and one that DESIGNREP names slowest
named_plans :
    ((replicated runs named (repeats 1)).rows
    ≡ (codes "4" ∷ codes "a" ∷ []) ∷ (codes "4" ∷ codes "b" ∷ [])
    ∷ (codes "7" ∷ codes "a" ∷ []) ∷ (codes "7" ∷ codes "b" ∷ []) ∷ [])
    × ((replicated runs (repeats 1) named).rows
    ≡ (codes "4" ∷ codes "a" ∷ []) ∷ (codes "7" ∷ codes "a" ∷ [])
    ∷ (codes "4" ∷ codes "b" ∷ []) ∷ (codes "7" ∷ codes "b" ∷ []) ∷ [])
unfolding runs named
named_plans = (refl, refl)

-- a factor that is recoded has its own values
values :
    (values_at 2 (record { place = 2; values = codes "low" ∷ codes "high" ∷ [] } ∷ []) 1 ≡ codes "-1" ∷ codes "1" ∷ [])
    × (values_at 2 (record { place = 2; values = codes "low" ∷ codes "high" ∷ [] } ∷ []) 2
    ≡ codes "low" ∷ codes "high" ∷ [])
values = (refl, refl)

-- of A, B and C, of which B and C stand in brackets, the derived factor D of C and B
derived : List Derived
derived = record { places = 3 ∷ 2 ∷ []; name = codes "D"; values = [] } ∷ []

-- the columns are those of the factors in no brackets, and then the derived ones; C is the higher digit
columns :
    (column_places 3 derived ≡ (1 ∷ []) ∷ (3 ∷ 2 ∷ []) ∷ [])
    × (column_names (codes "A" ∷ codes "B" ∷ codes "C" ∷ []) derived ≡ codes "A" ∷ codes "D" ∷ [])
    × (codes_of 2 (column_places 3 derived) (1 ∷ 0 ∷ 1 ∷ []) ≡ 1 ∷ 2 ∷ [])
unfolding derived
columns = (refl, refl, refl)

-- a derived factor without values has its codes for them
default_codes : values_or_codes 4 [] ≡ codes "0" ∷ codes "1" ∷ codes "2" ∷ codes "3" ∷ []
unfolding digits
default_codes = refl

-- blocks are numbered from 1, and their values are in the order of these numbers
blocks :
    (block_field [] 0 ≡ codes "1")
    × (block_field (codes "Mo" ∷ codes "Tu" ∷ []) 1 ≡ codes "Tu")
unfolding digits
blocks = (refl, refl)

-- a draw takes the upper part of a word, not its remainder; a list is shuffled from its last item on
draws :
    ((drawn (record { state = 5; increment = 1 }) 10).0 ≡ 8)
    × ((shuffled {X = ℕ} (record { state = 5; increment = 1 }) (0 ∷ 1 ∷ 2 ∷ 3 ∷ 4 ∷ [])).0 ≡ 0 ∷ 3 ∷ 1 ∷ 2 ∷ 4 ∷ [])
unfolding drawn
draws = (refl, refl)

-- fields with a comma or a quote are quoted, and an empty one is not
lines : text_of ((codes "lo,w" ∷ [] ∷ codes "h\"i" ∷ []) ∷ (codes "1" ∷ codes "-2.5" ∷ codes "a b" ∷ []) ∷ [])
    ≡ codes "\"lo,w\",,\"h\"\"i\"\n1,-2.5,a b\n"
unfolding escaped fields_text is_blank
lines = refl
