-- The lines of a table, one after another, and what is given for all of them.
use Rattle.std.proofs.Common.{ℕ, zero, suc, ◌≡◌, ◌+◌, ◌-◌, true, false, List, [], ◌∷◌, ◌++◌, length, inl, inr}
use Rattle.std.proofs.Common.{refl, sym, ap, ap₂, ◌∙◌, arith}
use Rattle.std.specs.Prelude.{None}
use Rattle.std.proofs.lemmas.Bool.{cases_Bool, cond-true, cond-false}
use Rattle.fx_base.specs.Acts.{Event, Piece}
use Rattle.fx_catalogue.specs.Catalogues.{up_to}
use Rattle.fx_table_lines.specs.declared.line.TableLine.{TableLine}
use Rattle.fx_table_lines.specs.declared.line.TableLine.TheVariants.{Least, Nothing, Open}
use Rattle.fx_program.specs.Output.{Output, message, worse}
use Rattle.fx_program.specs.Listings.{AreLines, IsListing, in_turn}
use Rattle.fx_program.proofs.Listings.{SomeLines, listing, some_lines}
use Rattle.fx_program.specs.declared.table_words.AskedTable.{AskedTable}
use Rattle.fx_program.specs.TableWords.{first_line}
use Rattle.fx_program.specs.Tabulating.{IsGiven, IsOfTable, line_output, line_status, lines_output, open_given}
use Rattle.fx_program.specs.Tabulating.{table_head}
use Rattle.fx_program.specs.Tables.{AllHold, base_at, is_nothing}

-- the status of a line tells whether it is the last
of_last : (line : TableLine) → is_nothing line ≡ true → line_status line ≡ 1
of_last (Least rows rules key book) e = absurd (cc e)
of_last (Nothing book) e = refl
of_last (Open entries rows) e = absurd (cc e)

of_other : (line : TableLine) → is_nothing line ≡ false → line_status line ≡ 1 → ⊥
of_other (Least rows rules key book) e one = omega (arith, one)
of_other (Nothing book) e one = cc e
of_other (Open entries rows) e one = omega (arith, one)

-- lines that are open before anything is searched
abbrev opens : ℕ → List TableLine
opens zero = []
opens (suc n) = Open 0 None ∷ opens n

length-opens : (n : ℕ) → length (opens n) ≡ n
length-opens zero = refl
length-opens (suc n) = ap suc (length-opens n)

module _ (asked : AskedTable) where
  opens_hold : (s n : ℕ) → AllHold asked s (opens n)
  opens_hold s zero = tt
  opens_hold s (suc n) = ((open_given asked s).holds, opens_hold (s + 1) n)

  -- lines that a table can have from the n-th on, no more than so many, of which these are the outputs
  record AreOf (n most : ℕ) (outputs : List Output) : Type 0 where
    lines : List TableLine
    all : List TableLine
    count : length all ≡ most
    hold : AllHold asked n all
    listed : lines ≡ up_to is_nothing all
    given : (events : List Event) (status : ℕ)
        → in_turn events status outputs ≡ lines_output asked n events status lines

  of_lines : (n most : ℕ) (outputs : List Output) → AreLines (IsGiven asked) n most outputs → AreOf n most outputs
  of_lines n zero outputs are = record {
    lines = [];
    all = [];
    count = refl;
    hold = tt;
    listed = refl;
    given = λ events status. ap (in_turn events status) are;
  }
  of_lines n (suc most) [] are = absurd are
  of_lines n (suc most) (given ∷ outputs) are =
      let line = are.0.line in
      let own = line_output (base_at asked n) asked.order line in
      let status = ap (λ (o : Output). o.status) are.0.is in
      elim (cases_Bool (is_nothing line)) [
        | inl last ↦ record {
          lines = line ∷ [];
          all = line ∷ opens most;
          count = ap suc (length-opens most);
          hold = (are.0.holds, opens_hold (n + 1) most);
          listed = ap (λ (l : List TableLine). line ∷ l)
              (sym (cond-true (is_nothing line) [] (up_to is_nothing (opens most)) last));
          given = λ events status.
              ap₂ (λ (o : Output) (l : List Output). in_turn events status (o ∷ l)) are.0.is
              (are.1.0 (ap (λ (o : Output). o.status) are.0.is ∙ of_last line last));
        }
        | inr other ↦
            let later = of_lines (n + 1) most outputs (are.1.1 (λ one. of_other line other (sym status ∙ one))) in
            record {
              lines = line ∷ later.lines;
              all = line ∷ later.all;
              count = ap suc later.count;
              hold = (are.0.holds, later.hold);
              listed = ap (λ (l : List TableLine). line ∷ l)
                  (later.listed ∙ sym (cond-false (is_nothing line) [] (up_to is_nothing later.all) other));
              given = λ events status.
                  ap (λ (o : Output). in_turn events status (o ∷ outputs)) are.0.is
                  ∙ later.given (events ++ own.events) (worse status own.status);
            }
      ]

  -- what is given for a head and such lines is what is given for a table
  pub of_table : (head : List ℕ) → head ≡ table_head asked → (given : Output)
      → IsListing head (IsGiven asked) (first_line asked) asked.upto given
      → IsOfTable asked given
  of_table head named given is =
      let own = of_lines (first_line asked) (asked.upto + 1 - first_line asked) is.lines is.are in
      record {
        lines = own.lines;
        hold = record { all = own.all; count = own.count; hold = own.hold; listed = own.listed };
        is = is.is
            ∙ ap (λ (h : List ℕ). in_turn [] 0 (message h 0 ∷ is.lines)) named
            ∙ own.given (Piece (table_head asked) ∷ []) 0;
      }

  pub open_lines : SomeLines (IsGiven asked) (first_line asked) (asked.upto + 1 - first_line asked)
  open_lines =
      some_lines {IsNumber = λ n. Unit {0}} (λ n is. line_output (base_at asked n) asked.order (Open 0 None))
      (λ n is. open_given asked n) (first_line asked) (asked.upto + 1 - first_line asked) (λ k from upto. tt)

  -- a table of which all lines are open
  abbrev pub open_output : Output
  open_output = listing (table_head asked) open_lines.lines

  pub open_table : IsOfTable asked open_output
  open_table =
      of_table (table_head asked) refl open_output
      (record { lines = open_lines.lines; are = open_lines.are; is = refl })
