-- The texts of a table: its head, its lines, and the rules of a design.
use Rattle.std.specs.Prelude.{ℕ, ◌==◌, ◌+◌, ◌-◌, ◌^◌, nat_lt, if◌then◌else◌, Bool, List, [], ◌∷◌, ◌++◌, map}
use Rattle.std.specs.Prelude.{codes, decimal, length}
use Rattle.std.specs.List.{list_all, list_any, range_with_len}
use Rattle.fx_designs.specs.Galois.{digits}
use Rattle.fx_components.specs.Products.{product}
use Rattle.fx_vectors.specs.declared.shape.Shape.{Shape}
use Rattle.fx_vectors.specs.Matrix.{MatrixView}
use Rattle.fx_table_book.specs.declared.base.Base.{Base}
use Rattle.fx_table_book.specs.declared.order.Order.{Order}
use Rattle.fx_table_book.specs.declared.order.Order.TheVariants.{FactorsFirst, ChengWuFirst, ChengWuSecond}
use Rattle.fx_table_book.specs.declared.order.Order.TheVariants.{SitterChenFeder, MostClear}
use Rattle.fx_table_lines.specs.declared.line.TableLine.{TableLine}
use Rattle.fx_table_lines.specs.declared.line.TableLine.TheVariants.{Least, Nothing, Open}
use Rattle.fx_table_lines.specs.Figures.{figures_text}

-- the order, where it is not that of factors first, behind these signs
abbrev pub order_text : List ℕ → Order → List ℕ
order_text signs FactorsFirst = []
order_text signs ChengWuFirst = signs ++ codes "W1"
order_text signs ChengWuSecond = signs ++ codes "W2"
order_text signs SitterChenFeder = signs ++ codes "SCF"
order_text signs MostClear = signs ++ codes "CLEAR"

abbrev pub whole_plots_text : Base → List ℕ
whole_plots_text base =
    codes " whole plots " ++ (decimal (base.q ^ base.h) ++ (codes " inside " ++ decimal base.w))

-- the groups of the runs, where there is a base
abbrev pub groups_text : Base → List ℕ
groups_text base =
    (if base.h == 0
    then []
    else (if base.w == 0 then codes " blocks " ++ decimal (base.q ^ base.h) else whole_plots_text base))

-- the first line of a table of such designs, whatever the number of factors outside the base
abbrev pub head_text : Base → Order → List ℕ
head_text base order =
    codes "table levels "
    ++ (decimal base.q
    ++ (codes " runs "
    ++ (decimal (base.q ^ base.m) ++ (groups_text base ++ (order_text (codes " order ") order ++ codes "\n")))))

abbrev pub inside_text : ℕ → List ℕ
inside_text inside = (if inside == 0 then [] else decimal inside ++ codes " ")

-- the factors of a line: those inside the base, where there are some, and those outside
abbrev pub factors_text : Base → List ℕ
factors_text base = codes "factors " ++ (inside_text base.w ++ (decimal base.n ++ codes " "))

-- the name of the row at k, counted from 0, of s factors and then block factors
abbrev pub row_name : ℕ → ℕ → List ℕ
row_name s k = (if nat_lt k s then codes "X" ++ decimal (k + 1) else codes "[" ++ (decimal (k - s + 1) ++ codes "]"))

-- the place of the first of these rows, or their number where it is none
abbrev pub place_of : ℕ → List ℕ → ℕ
place_of row [] = 0
place_of row (first ∷ rows) = (if row == first then 0 else place_of row rows + 1)

-- the names of the first rows that are the unit vectors
abbrev pub unit_names : MatrixView → List (List ℕ)
unit_names matrix =
    map (λ j. row_name matrix.shape.s (place_of (matrix.shape.q ^ j) matrix.rows)) (range_with_len 0 matrix.shape.m)

abbrev pub is_unit : ℕ → ℕ → ℕ → Bool
is_unit q m row = list_any (λ j. (q ^ j) == row) (range_with_len 0 m)

-- the rule of the row at k, a product of the rows that are unit vectors and have these names; these need none
abbrev pub rule_of : List (List ℕ) → Shape → ℕ → ℕ → List ℕ
rule_of names shape k row =
    codes " " ++ (row_name shape.s k ++ (codes "=" ++ product names (digits shape.q shape.m row)))

abbrev pub rule_text : List (List ℕ) → Shape → ℕ → ℕ → List ℕ
rule_text names shape k row = (if is_unit shape.q shape.m row then [] else rule_of names shape k row)

-- the rules of rows, of which the first is at k
abbrev pub rules_from : List (List ℕ) → Shape → ℕ → List ℕ → List ℕ
rules_from names shape k [] = []
rules_from names shape k (row ∷ rows) = rule_text names shape k row ++ rules_from names shape (k + 1) rows

abbrev pub some_rules : MatrixView → List ℕ
some_rules matrix =
    (if list_all (is_unit matrix.shape.q matrix.shape.m) matrix.rows
    then codes " none"
    else rules_from (unit_names matrix) matrix.shape 0 matrix.rows)

-- a rule for each row that is no unit vector
abbrev pub rules_text : MatrixView → List ℕ
rules_text matrix = codes "rules" ++ (some_rules matrix ++ codes "\n")

-- the number of entries of a book
abbrev pub entries_text : ℕ → List ℕ
entries_text count = codes "entries " ++ decimal count

-- the key and the rules of a design
abbrev pub design_text : Base → Order → List ℕ → MatrixView → List ℕ
design_text base order key rules = figures_text base order key ++ (codes "\n" ++ rules_text rules)

-- what a line has after its factors
abbrev pub ending_text : Base → Order → TableLine → List ℕ
ending_text base order (Least rows rules key book) =
    entries_text (length book.entries) ++ design_text base order key rules
ending_text base order (Nothing book) = entries_text (length book.entries) ++ codes " none\n"
ending_text base order (Open entries rows) = codes "open after " ++ (decimal entries ++ codes " entries\n")

-- a line, and its rules where it has a design
abbrev pub line_text : Base → Order → TableLine → List ℕ
line_text base order line = factors_text base ++ ending_text base order line
