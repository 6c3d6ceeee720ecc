-- The fields of a plan, and the lines of its file.
use Rattle.std.specs.Prelude.{ℕ, ◌≡◌, ◌+◌, false, List, [], ◌∷◌, length, map, Some, Vec, slice_index, slice_index_or, decimal}
use Rattle.std.specs.Global.{Global}
use Rattle.std.specs.List.{flat_map, range_with_len}
use Rattle.csv.specs.Writing.{default_writer, row_text, writer_setup, fields_written, has_written, text_written}
use Rattle.csv.specs.declared.writer.Writer.{Writer}
use Rattle.fx_derived.specs.Tables.{TableView}

-- the field of a block, counted from 0: its value, or its number from 1 where the text has no values
abbrev pub block_field : List (List ℕ) → ℕ → List ℕ
block_field [] z = decimal (z + 1)
block_field (value ∷ values) z = slice_index_or (value ∷ values) z []

-- the fields of codes: in each of some columns the value of its code
abbrev pub level_fields : ℕ → List (List (List ℕ)) → List ℕ → List (List ℕ)
level_fields columns values codes =
    map (λ i. slice_index_or (slice_index_or values i []) (slice_index codes i) []) (range_with_len 0 columns)

-- the texts of some numbers: in each of some columns that of its number
abbrev pub coded_row : List (List (List ℕ)) → List ℕ → List (List ℕ)
coded_row texts numbers = level_fields (length numbers) texts numbers

-- the bytes of records
abbrev pub text_of : List (List (List ℕ)) → List ℕ
text_of records = flat_map (λ fields. row_text default_writer fields) records

-- the bytes of a table: the head line, and a line for each row
abbrev pub text_of_table : TableView → List ℕ
text_of_table table = text_of (table.names ∷ table.rows)

-- the writer has written whole records, and this is their text
pub record HasWritten (writer : Writer (Vec ℕ Global)) (written : List ℕ) : Type 0 where
  pub setup : writer_setup writer ≡ default_writer
  pub fields : fields_written writer ≡ 0
  pub bytes : has_written writer ≡ false
  pub text : text_written (λ (v : Vec ℕ Global). Some v.items) writer ≡ Some written
