-- The lines of a book, one at a time.
use Rattle.std.proofs.Common.{◌≡◌, ℕ, ◌+◌, ◌<◌, Bool, true, false, cond, eqb, List, [], ◌∷◌, ◌++◌, length, drop, Result}
use Rattle.std.proofs.Common.{Ok, Err, refl, ◌∙◌, arith, append_assoc, None}
use Rattle.std.proofs.lemmas.Bool.{cond-true, cond-false, ne_eqb}
use Rattle.fx_designs.specs.Problems.{Dimensions}
use Rattle.fx_designs.specs.Nodes as nodes
use Rattle.fx_vectors.specs.Marks.{meaning_of}
use Rattle.fx_vectors.specs.declared.mark.Mark.{Mark}
use Rattle.fx_book.specs.declared.fault.BookFault.{BookFault}
use Rattle.fx_book.specs.declared.version.Version.{Version}
use Rattle.fx_book.specs.declared.version.Version.TheVariants.{First, Second}
use Rattle.fx_book.specs.Parts.{split, parts_after, put_first, number_of}
use Rattle.fx_book.specs.Words.{word_written, entry_from, by_entries, entries_of_parts}
use Rattle.fx_book.specs.Entries.{entry_of, word_entry, entry_text, entries_text}
use Rattle.std.specs.Prelude.{codes, decimal}
use Rattle.fx_book.specs.Writing.{spaced}
use Rattle.fx_book.specs.Heads.{shape_of, with_line}
use Rattle.std.specs.Str.{bytes_eq}
use Rattle.fx_book.specs.declared.fault.FaultKind.TheVariants.{Form, Trailing}
use Rattle.fx_book.specs.Faults.{fault}
use Rattle.fx_book.specs.Reading.{entries, after_entry, is_nothing, onto}
use Rattle.fx_book.proofs.Splits.{some_parts}

-- a line of more than two parts is the entry of a word
pub with_parts : (version : Version) (d : Dimensions) (b : Bool) (x y : List ℕ) (parts : List (List ℕ))
    → 0 < length parts
    → entry_of version d b (x ∷ y ∷ parts) ≡ word_entry d x (number_of y) (word_written version d parts)
with_parts version d b x y [] h = absurd (omega arith)
with_parts version d b x y (part ∷ parts) h = refl

-- bytes are left
pub something : (stop b : ℕ) (bytes : List ℕ) → is_nothing (split stop (b ∷ bytes)) ≡ false
something stop b bytes =
    elim (eqb b stop) as (λ c. is_nothing (cond c ([] ∷ split stop bytes) (put_first b (split stop bytes))) ≡ false) [
      | true ↦ more _ (some_parts stop bytes)
      | false ↦ own b (split stop bytes)
    ]
  where
    more : (parts : List (List ℕ)) → 0 < length parts → is_nothing ([] ∷ parts) ≡ false
    more [] h = absurd (omega arith)
    more (part ∷ parts) h = refl

    own : (b : ℕ) (parts : List (List ℕ)) → is_nothing (put_first b parts) ≡ false
    own b [] = refl
    own b (part ∷ []) = ne_eqb _ 0 (λ e. omega arith)
    own b (part ∷ next ∷ parts) = refl

pub something_left : (stop : ℕ) (bytes : List ℕ) → 0 < length bytes → is_nothing (split stop bytes) ≡ false
something_left stop [] h = absurd (omega arith)
something_left stop (b ∷ bytes) h = something stop b bytes

-- a part more after the number of a word
pub too_many : (d : Dimensions) (x : List ℕ) (parts : List (List ℕ)) → 0 < length parts
    → word_written First d (x ∷ parts) ≡ Err Form
too_many d x [] h = absurd (omega arith)
too_many d x (part ∷ parts) h = refl

-- a third number in an entry of a word
pub no_entry : (x y : List ℕ) (parts : List (List ℕ)) → 0 < length parts → entry_from (x ∷ y ∷ parts) ≡ None
no_entry x y [] h = absurd (omega arith)
no_entry x y (part ∷ parts) h = refl

-- parts of a word that are more than one are its entries
pub placed_parts : (d : Dimensions) (x : List ℕ) (parts : List (List ℕ)) → 0 < length parts
    → word_written Second d (x ∷ parts) ≡ by_entries d (entries_of_parts (x ∷ parts))
placed_parts d x [] h = absurd (omega arith)
placed_parts d x (part ∷ parts) h = refl

-- there are parts before the end of a line
pub some_after : (line : List ℕ) (end : ℕ) → end < length line → parts_after end line ≡ split 32 (drop (end + 1) line)
some_after line end more = cond-false _ _ _ (ne_eqb end (length line) (λ e. omega arith))

module _ (version : Version) (d : Dimensions) (b : Bool) (n : ℕ) (line : List ℕ) where
  step : (rest : List (List ℕ)) → 0 < length rest
      → entries version d b n (line ∷ rest)
      ≡ cond (bytes_eq line (codes "END")) (cond (is_nothing rest) (Ok []) (Err (fault Trailing (n + 1))))
      (after_entry n (entry_of version d b (split 32 line)) (entries version d b (n + 1) rest))
  step [] h = absurd (omega arith)
  step (next ∷ lines) h = refl

  pub end_followed : (rest : List (List ℕ)) → 0 < length rest → bytes_eq line (codes "END") ≡ true
      → is_nothing rest ≡ false → entries version d b n (line ∷ rest) ≡ Err (fault Trailing (n + 1))
  end_followed rest h e more =
      step rest h ∙ cond-true _ _ _ e ∙ cond-false _ _ _ more

  pub at_entry : (rest : List (List ℕ)) → 0 < length rest → bytes_eq line (codes "END") ≡ false
      → entries version d b n (line ∷ rest)
      ≡ after_entry n (entry_of version d b (split 32 line)) (entries version d b (n + 1) rest)
  at_entry rest h e = step rest h ∙ cond-false _ _ _ e

pub onto_after : (marks : List nodes.Mark) (n : ℕ) (mark : Mark) (read : Result (List nodes.Mark) BookFault)
    → onto marks (after_entry n (Ok mark) read) ≡ onto (marks ++ meaning_of mark ∷ []) read
onto_after marks n mark (Ok more) = cc (append_assoc marks (meaning_of mark ∷ []) more)
onto_after marks n mark (Err stop) = refl

-- entries after others
pub entries-append : (version : Version) (d : Dimensions) (marks more : List nodes.Mark)
    → entries_text version d (marks ++ more) ≡ entries_text version d marks ++ entries_text version d more
entries-append version d [] more = refl
entries-append version d (mark ∷ marks) more =
    cc (
      entries-append version d marks more,
      append_assoc (entry_text version d mark) (entries_text version d marks)
          (entries_text version d more),
    )

pub no_shape : (version : Version) (x y z v w : List ℕ) (parts : List (List ℕ)) → 0 < length parts
    → shape_of version (x ∷ y ∷ z ∷ v ∷ w ∷ parts) ≡ None
no_shape version x y z v w [] h = absurd (omega arith)
no_shape version x y z v w (part ∷ parts) h = refl

-- a line that is ended has lines after it
pub line_more : {T : Type 0} (none : T) (make : List ℕ → List (List ℕ) → T) (line : List ℕ) (rest : List (List ℕ))
    → 0 < length rest → with_line none make (line ∷ rest) ≡ make line rest
line_more none make line [] h = absurd (omega arith)
line_more none make line (next ∷ lines) h = refl

-- numbers after others
pub spaced-append : (ns more : List ℕ) → spaced (ns ++ more) ≡ spaced ns ++ spaced more
spaced-append [] more = refl
spaced-append (n ∷ ns) more =
    cc (
      spaced-append ns more,
      append_assoc (decimal n) (spaced ns) (spaced more),
      append_assoc (codes " ")
          (decimal n ++ spaced ns) (spaced more),
    )

-- five pieces after what there was, of which the second to the fourth came together
pub joined : (old title shape demands beat entries end : List ℕ)
    → (((old ++ title) ++ (shape ++ (demands ++ beat))) ++ entries) ++ end
    ≡ old ++ (title ++ (shape ++ (demands ++ (beat ++ (entries ++ end)))))
joined old title shape demands beat entries end =
    cc (
      append_assoc ((old ++ title) ++ (shape ++ (demands ++ beat))) entries end,
      append_assoc (old ++ title)
          (shape ++ (demands ++ beat)) (entries ++ end),
      append_assoc old title
          ((shape ++ (demands ++ beat)) ++ (entries ++ end)),
      append_assoc shape (demands ++ beat) (entries ++ end),
      append_assoc demands beat (entries ++ end),
    )
