-- Heads and lines of tables, as those in `tables` have them.
use Rattle.std.proofs.Common.{◌≡◌, ℕ, List, [], ◌∷◌, None, refl}
use Rattle.std.specs.Prelude.{codes}
use Rattle.std.specs.Fmt.{digits}
use Rattle.fx_vectors.specs.Matrix.{MatrixView}
use Rattle.fx_table_book.specs.declared.base.Base.{Base}
use Rattle.fx_table_book.specs.declared.order.Order.TheVariants.{FactorsFirst, ChengWuFirst, ChengWuSecond}
use Rattle.fx_table_book.specs.declared.order.Order.TheVariants.{SitterChenFeder, MostClear}
use Rattle.fx_table_lines.specs.declared.line.TableLine.TheVariants.{Nothing, Open}
use Rattle.fx_table_lines.specs.Figures.{clear_text, figures_text}
use Rattle.fx_table_lines.specs.Listing.{design_text, factors_text, head_text, line_text, rules_text}

abbrev base_of : ℕ → ℕ → ℕ → ℕ → ℕ → Base
base_of q m h w n = record { q = q; m = m; h = h; w = w; n = n }

-- ordinary designs, designs in blocks and split plots; each order but the first is named
heads :
    (head_text (base_of 2 3 0 0 4) FactorsFirst ≡ codes "table levels 2 runs 8\n")
    × (head_text (base_of 3 3 2 0 4) FactorsFirst ≡ codes "table levels 3 runs 27 blocks 9\n")
    × (head_text (base_of 2 3 2 3 1) FactorsFirst ≡ codes "table levels 2 runs 8 whole plots 4 inside 3\n")
    × (head_text (base_of 2 3 1 0 4) ChengWuFirst ≡ codes "table levels 2 runs 8 blocks 2 order W1\n")
    × (head_text (base_of 2 3 1 0 4) ChengWuSecond ≡ codes "table levels 2 runs 8 blocks 2 order W2\n")
    × (head_text (base_of 2 3 1 0 4) SitterChenFeder ≡ codes "table levels 2 runs 8 blocks 2 order SCF\n")
    × (head_text (base_of 2 4 0 0 5) MostClear ≡ codes "table levels 2 runs 16 order CLEAR\n")
unfolding digits
heads = (refl, refl, refl, refl, refl, refl, refl)

factors :
    (factors_text (base_of 2 3 1 0 4) ≡ codes "factors 4 ")
    × (factors_text (base_of 2 3 2 3 1) ≡ codes "factors 3 1 ")
unfolding digits
factors = (refl, refl)

-- the keys of the orders; clear ones are counted for their own order alone, also where there are none
figures :
    (figures_text (base_of 2 3 1 0 3) FactorsFirst (0 ∷ 0 ∷ 1 ∷ []) ≡ codes " no defining words B3 1")
    × (figures_text (base_of 2 3 1 0 4) FactorsFirst (0 ∷ 1 ∷ 2 ∷ 0 ∷ 0 ∷ []) ≡ codes " resolution 4 A4 1 B2 2")
    × (figures_text (base_of 2 3 1 0 4) ChengWuFirst (0 ∷ 1 ∷ 2 ∷ 0 ∷ 0 ∷ []) ≡ codes " resolution 4 A4 1 B2 2")
    × (figures_text (base_of 2 3 1 0 4) ChengWuSecond (0 ∷ 2 ∷ 1 ∷ 0 ∷ 0 ∷ []) ≡ codes " resolution 4 A4 1 B2 2")
    × (figures_text (base_of 2 3 1 0 4) SitterChenFeder (0 ∷ 2 ∷ 1 ∷ 0 ∷ 0 ∷ []) ≡ codes " resolution 4 A4 1 B2 2")
    × (figures_text (base_of 2 4 0 0 5) MostClear (0 ∷ 0 ∷ 0 ∷ 1 ∷ []) ≡ codes " resolution 5 clear 10 A5 1")
    × (figures_text (base_of 2 4 0 0 6) MostClear (0 ∷ 15 ∷ 3 ∷ 0 ∷ 0 ∷ []) ≡ codes " resolution 4 clear 0 A4 3")
    × (figures_text (base_of 3 2 0 0 3) FactorsFirst (1 ∷ []) ≡ codes " resolution 3 A3 1")
    × (clear_text MostClear 3 4 5 ≡ codes " clear 7")
unfolding digits
figures = (refl, refl, refl, refl, refl, refl, refl, refl, refl)

abbrev matrix : ℕ → ℕ → ℕ → ℕ → List ℕ → MatrixView
matrix q m s t rows = record { shape = record { q = q; m = m; s = s; t = t }; rows = rows }

-- a rule for each factor and block factor that is no run index; run indexes have the names of their factors
rules :
    (rules_text (matrix 2 3 3 0 (1 ∷ 2 ∷ 4 ∷ [])) ≡ codes "rules none\n")
    × (rules_text (matrix 2 3 4 1 (1 ∷ 2 ∷ 4 ∷ 7 ∷ 6 ∷ [])) ≡ codes "rules X4=X1*X2*X3 [1]=X2*X3\n")
    × (rules_text (matrix 2 3 5 1 (1 ∷ 2 ∷ 3 ∷ 4 ∷ 7 ∷ 6 ∷ []))
    ≡ codes "rules X3=X1*X2 X5=X1*X2*X4 [1]=X2*X4\n")
    × (rules_text (matrix 3 2 2 1 (1 ∷ 3 ∷ 5 ∷ [])) ≡ codes "rules [1]=X1^2*X2\n")
unfolding digits
rules = (refl, refl, refl, refl)

-- what a line has where it has a design
design :
    design_text (base_of 2 3 1 0 4) FactorsFirst (0 ∷ 1 ∷ 2 ∷ 0 ∷ 0 ∷ []) (matrix 2 3 4 1 (1 ∷ 2 ∷ 4 ∷ 7 ∷ 6 ∷ []))
    ≡ codes " resolution 4 A4 1 B2 2\nrules X4=X1*X2*X3 [1]=X2*X3\n"
unfolding digits
design = refl

-- a line without a design, and one that is not proved
others :
    (line_text (base_of 2 3 1 0 7) FactorsFirst
    (Nothing (record { base = base_of 2 3 1 0 7; order = FactorsFirst; key = None; entries = [] }))
    ≡ codes "factors 7 entries 0 none\n")
    × (line_text (base_of 2 3 2 3 9) FactorsFirst (Open 50 None) ≡ codes "factors 3 9 open after 50 entries\n")
unfolding digits
others = (refl, refl)
