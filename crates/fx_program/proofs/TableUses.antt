-- Which lists of lines are no tables: a claim that is weakened does not exclude them.
use Rattle.std.proofs.Common.{ℕ, ◌≡◌, List, [], ◌∷◌, refl, arith}
use Rattle.std.specs.Prelude.{◌≤◌, length, if◌then◌else◌}
use Rattle.fx_catalogue.specs.Catalogues.{up_to}
use Rattle.fx_table_lines.specs.declared.line.TableLine.{TableLine}
use Rattle.fx_program.specs.declared.table_words.AskedTable.{AskedTable}
use Rattle.fx_program.specs.TableWords.{first_line}
use Rattle.fx_program.specs.Tables.{IsTable, is_nothing}

not_empty : (line : TableLine) (rest : List TableLine) → [] ≡ line ∷ rest → ⊥
not_empty line rest e = cc e

none_listed : (all : List TableLine) → [] ≡ up_to is_nothing all → length all ≡ 0
none_listed [] e = refl
none_listed (line ∷ all) e = absurd (not_empty line (if is_nothing line then [] else up_to is_nothing all) e)

-- one without a line, where some are asked
without_lines : (asked : AskedTable) → first_line asked ≤ asked.upto → IsTable asked [] → ⊥
without_lines asked some table =
    let none = none_listed table.all table.listed in
    let count = table.count in
    omega (arith, none, count, some)
