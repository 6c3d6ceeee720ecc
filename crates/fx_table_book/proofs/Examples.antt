-- Books and their texts, computed.
use Rattle.std.proofs.Common.{◌≡◌, ℕ, true, false, List, [], ◌∷◌, ◌++◌, length, refl, Option, Some, None, Ok}
use Rattle.std.proofs.Common.{Err}
use Rattle.std.specs.Prelude.{codes}
use Rattle.std.specs.Fmt.{digits}
use Rattle.fx_book.specs.declared.fault.BookFault.{BookFault}
use Rattle.fx_book.specs.declared.fault.FaultKind.TheVariants as kind
use Rattle.fx_book.specs.Faults.{fault}
use Rattle.fx_strata.specs.Books as books
use Rattle.fx_strata.specs.Designs as designs
use Rattle.fx_table_book.specs.declared.base.Base.{Base}
use Rattle.fx_table_book.specs.declared.order.Order.{Order}
use Rattle.fx_table_book.specs.declared.order.Order.TheVariants.{FactorsFirst, ChengWuFirst, ChengWuSecond}
use Rattle.fx_table_book.specs.declared.order.Order.TheVariants.{SitterChenFeder, MostClear}
use Rattle.fx_table_book.specs.Tables.{strata_of, order_of}
use Rattle.fx_table_book.specs.Texts.{Contents, text_of, first_text, is_base, book_of}

-- four factors in two blocks of four runs
abbrev two_blocks : Base
two_blocks = record { q = 2; m = 3; h = 1; w = 0; n = 4 }

-- an entry of each kind
abbrev own : List books.Entry
own = books.Branch 1 ∷ books.Image 7 (1 ∷ 2 ∷ 7 ∷ []) ∷ books.NoRoom 0 ∷ books.Floor 6 ∷ books.Worse 5 ∷ []

abbrev said : Order → Option (List ℕ) → Contents
said order key = record { base = two_blocks; order = order; key = key; entries = own }

abbrev lines : List ℕ
lines = codes "O 1\nI 7 1 2 7\nR 0\nF 6\nP 5\nEND\n"

abbrev five : List ℕ
five = 0 ∷ 1 ∷ 2 ∷ 0 ∷ 1 ∷ []

abbrev first : List ℕ
first = codes "factex-table 2\nbase 2 3 1 0 4\n"

-- a text of a book in each order, and one without a key
written :
    (text_of (said FactorsFirst (Some five)) ≡ first ++ (codes "order FF\nkey 0 1 2 0 1\n" ++ lines))
    × (text_of (said ChengWuFirst (Some five)) ≡ first ++ (codes "order W1\nkey 0 1 2 0 1\n" ++ lines))
    × (text_of (said ChengWuSecond (Some five)) ≡ first ++ (codes "order W2\nkey 0 1 2 0 1\n" ++ lines))
    × (text_of (said SitterChenFeder None) ≡ first ++ (codes "order SCF\nkey none\n" ++ lines))
    × (text_of (said MostClear (Some (0 ∷ five))) ≡ first ++ (codes "order CLEAR\nkey 0 0 1 2 0 1\n" ++ lines))
unfolding digits
written = (refl, refl, refl, refl, refl)

read :
    (book_of (first ++ (codes "order FF\nkey 0 1 2 0 1\n" ++ lines)) ≡ Ok (said FactorsFirst (Some five)))
    × (book_of (first ++ (codes "order W1\nkey 0 1 2 0 1\n" ++ lines)) ≡ Ok (said ChengWuFirst (Some five)))
    × (book_of (first ++ (codes "order W2\nkey 0 1 2 0 1\n" ++ lines)) ≡ Ok (said ChengWuSecond (Some five)))
    × (book_of (first ++ (codes "order SCF\nkey none\n" ++ lines)) ≡ Ok (said SitterChenFeder None))
    × (book_of (first ++ (codes "order CLEAR\nkey 0 0 1 2 0 1\n" ++ lines)) ≡ Ok (said MostClear (Some (0 ∷ five))))
unfolding book_of
read = (refl, refl, refl, refl, refl)

-- the entries of each order for these designs
orders :
    (order_of FactorsFirst (strata_of two_blocks)
    ≡ designs.Words false 3 ∷ designs.Words false 4 ∷ designs.Words true 2 ∷ designs.Words true 3
    ∷ designs.Words true 4 ∷ [])
    × (order_of ChengWuSecond (strata_of two_blocks)
    ≡ designs.Words false 3 ∷ designs.Words true 2 ∷ designs.Words false 4 ∷ designs.Words true 3
    ∷ designs.Words true 4 ∷ [])
    × (order_of MostClear (strata_of two_blocks)
    ≡ designs.Words false 3 ∷ designs.Unclear ∷ designs.Words false 4 ∷ designs.Words true 2 ∷ designs.Words true 3
    ∷ designs.Words true 4 ∷ [])
orders = (refl, refl, refl)

-- both sides of each limit of a base
abbrev limit : ℕ → ℕ → ℕ → ℕ → ℕ → Base
limit q m h w n = record { q = q; m = m; h = h; w = w; n = n }

levels : (is_base (limit 9 1 0 0 2) ≡ true) × (is_base (limit 6 1 0 0 2) ≡ false) × (is_base (limit 10 1 0 0 2) ≡ false)
levels = (refl, refl, refl)

runs :
    (is_base (limit 2 1 0 0 2) ≡ true) × (is_base (limit 2 0 0 0 2) ≡ false) × (is_base (limit 2 10 0 0 10) ≡ true)
    × (is_base (limit 2 11 0 0 11) ≡ false) × (is_base (limit 3 6 0 0 6) ≡ true) × (is_base (limit 3 7 0 0 7) ≡ false)
runs = (refl, refl, refl, refl, refl, refl)

factors :
    (is_base (limit 2 6 2 3 60) ≡ true) × (is_base (limit 2 6 2 3 61) ≡ false) × (is_base (limit 8 3 0 0 40) ≡ true)
    × (is_base (limit 7 3 0 0 41) ≡ false) × (is_base (limit 9 3 0 0 37) ≡ true) × (is_base (limit 9 3 0 0 38) ≡ false)
factors = (refl, refl, refl, refl, refl, refl)

-- enough other factors, and whole-plot factors that span a base space that is not zero
proper :
    (is_base (limit 2 4 2 0 2) ≡ true) × (is_base (limit 2 4 2 0 1) ≡ false) × (is_base (limit 2 3 3 0 3) ≡ true)
    × (is_base (limit 2 3 4 0 3) ≡ false) × (is_base (limit 2 4 2 2 2) ≡ true) × (is_base (limit 2 4 2 1 2) ≡ false)
    × (is_base (limit 2 4 0 1 4) ≡ false)
proper = (refl, refl, refl, refl, refl, refl, refl)

-- the first fault of a text
abbrev Fails : List ℕ → BookFault → Type 0
Fails text stop = book_of text ≡ Err stop

-- no first line, and another one
titles :
    Fails (codes "factex-table 2") (fault kind.Title 1)
    × Fails (codes "factex-table 3\nbase 2 3 1 0 4\n") (fault kind.Title 1)
    × Fails (codes "factex-book 2\nbase 2 3 1 0 4\n") (fault kind.Title 1)
unfolding book_of
titles = (refl, refl, refl)

-- a text of one byte more than 33,554,432 is no book, whatever it says
too_long : (text : List ℕ) → length text ≡ 33554433 → Fails text (fault kind.TooLong 1)
unfolding book_of
too_long text long = rw long refl

-- four numbers and six, a part that is no number, another word, and no such base
bases :
    Fails (codes "factex-table 2\nbase 2 3 1 0\n") (fault kind.Form 2)
    × Fails (codes "factex-table 2\nbase 2 3 1 0 4 0\n") (fault kind.Form 2)
    × Fails (codes "factex-table 2\nbase 2 3 1 x 4\n") (fault kind.Form 2)
    × Fails (codes "factex-table 2\nsize 2 3 1 0 4\n") (fault kind.Form 2)
    × Fails (codes "factex-table 2\nbase 2 3 4 0 4\n") (fault kind.Range 2)
    × Fails (codes "factex-table 2\nbase 2 3 1 1000000000000000000000000000000000000000 4\n") (fault kind.Range 2)
unfolding book_of
bases = (refl, refl, refl, refl, refl, refl)

-- no name and two, another word, and unknown names
names :
    Fails (first ++ codes "order\n") (fault kind.Form 3)
    × Fails (first ++ codes "order FF W1\n") (fault kind.Form 3)
    × Fails (first ++ codes "sort FF\n") (fault kind.Form 3)
    × Fails (first ++ codes "order ff\n") (fault kind.Range 3)
    × Fails (first ++ codes "order \n") (fault kind.Range 3)
unfolding book_of
names = (refl, refl, refl, refl, refl)

abbrev second : List ℕ
second = first ++ codes "order FF\n"

-- an entry less and one more than the order has, and what is no number
keys :
    Fails (second ++ codes "key 0 1 2 0\n") (fault kind.Form 4)
    × Fails (second ++ codes "key 0 1 2 0 1 0\n") (fault kind.Form 4)
    × Fails (second ++ codes "key 0 1 2 0 01\n") (fault kind.Form 4)
    × Fails (second ++ codes "key none 1\n") (fault kind.Form 4)
    × Fails (second ++ codes "key\n") (fault kind.Form 4)
    × Fails (first ++ codes "order CLEAR\nkey 0 1 2 0 1\n") (fault kind.Form 4)
unfolding book_of
keys = (refl, refl, refl, refl, refl, refl)

-- both sides of the limit of a key, with two levels and with three
greatest :
    (book_of (second ++ codes "key 0 0 0 0 170141183460469231731687303715884105727\nEND\n")
    ≡ Ok (record {
      base = two_blocks;
      order = FactorsFirst;
      key = Some (0 ∷ 0 ∷ 0 ∷ 0 ∷ 170141183460469231731687303715884105727 ∷ []);
      entries = [];
    }))
    × Fails (second ++ codes "key 0 0 0 0 170141183460469231731687303715884105728\nEND\n") (fault kind.Range 4)
    × (book_of (codes "factex-table 2\nbase 3 2 0 0 3\norder FF\nkey 85070591730234615865843651857942052863\nEND\n")
    ≡ Ok (record {
      base = limit 3 2 0 0 3;
      order = FactorsFirst;
      key = Some (85070591730234615865843651857942052863 ∷ []);
      entries = [];
    }))
    × Fails (codes "factex-table 2\nbase 3 2 0 0 3\norder FF\nkey 85070591730234615865843651857942052864\nEND\n")
    (fault kind.Range 4)
unfolding book_of
greatest = (refl, refl, refl, refl)

-- fewer than three factors without blocks are compared by nothing
nothing : book_of (codes "factex-table 2\nbase 2 2 0 0 2\norder FF\nkey\nEND\n")
    ≡ Ok (record { base = limit 2 2 0 0 2; order = FactorsFirst; key = Some []; entries = [] })
unfolding book_of
nothing = refl

abbrev front : List ℕ
front = second ++ codes "key 0 1 2 0 1\n"

-- an image with two and with four numbers in place of three, a part that is no number, and rows that are none
forms :
    Fails (front ++ codes "I 7 1 2\nEND\n") (fault kind.Form 5)
    × Fails (front ++ codes "I 7 1 2 4 1\nEND\n") (fault kind.Form 5)
    × Fails (front ++ codes "O 1\nI 7 1 x 4\nEND\n") (fault kind.Form 6)
    × Fails (front ++ codes "I 7 1 2 4 \nEND\n") (fault kind.Form 5)
    × Fails (front ++ codes "I\nEND\n") (fault kind.Form 5)
    × Fails (front ++ codes "R\nEND\n") (fault kind.Form 5)
    × Fails (front ++ codes "R 6 1\nEND\n") (fault kind.Form 5)
    × Fails (front ++ codes "F 06\nEND\n") (fault kind.Form 5)
    × Fails (front ++ codes "X 6\nEND\n") (fault kind.Form 5)
unfolding book_of
forms = (refl, refl, refl, refl, refl, refl, refl, refl, refl)

-- numbers that no vector has
ranges :
    Fails (front ++ codes "I 8 1 2 4\nEND\n") (fault kind.Range 5)
    × Fails (front ++ codes "I 7 1 2 8\nEND\n") (fault kind.Range 5)
    × Fails (front ++ codes "I 7 1000000000000000000000000000000000000000 2 4\nEND\n") (fault kind.Range 5)
    × Fails (front ++ codes "O 8\nEND\n") (fault kind.Range 5)
    × Fails (front ++ codes "P 8\nEND\n") (fault kind.Range 5)
    × Fails (front ++ codes "R 8\nEND\n") (fault kind.Range 5)
    × Fails (front ++ codes "F 8\nEND\n") (fault kind.Range 5)
unfolding book_of
ranges = (refl, refl, refl, refl, refl, refl, refl)

-- lines that are not ended, and text after the last
ends :
    Fails (codes "factex-table 2\nbase 2 3 1 0 4") (fault kind.Unfinished 2)
    × Fails (first ++ codes "order FF") (fault kind.Unfinished 3)
    × Fails (second ++ codes "key none") (fault kind.Unfinished 4)
    × Fails front (fault kind.Unfinished 5)
    × Fails (front ++ codes "I 7 1 2 4\nEND") (fault kind.Unfinished 6)
    × Fails (front ++ codes "END\nEND\n") (fault kind.Trailing 6)
unfolding book_of
ends = (refl, refl, refl, refl, refl, refl)

-- texts of the first version, and the books without blocks that they are
abbrev plain : Base
plain = record { q = 2; m = 3; h = 0; w = 0; n = 5 }

abbrev earlier : List ℕ
earlier = codes "factex-table 1\nsize 2 3 5 0\nresolution 3\n"

first_read :
    (book_of (earlier ++ (codes "pattern 0 0 2 1 0\n" ++ lines))
    ≡ Ok (record { base = plain; order = FactorsFirst; key = Some (2 ∷ 1 ∷ 0 ∷ []); entries = own }))
    × (book_of (earlier ++ (codes "pattern none\n" ++ lines))
    ≡ Ok (record { base = plain; order = FactorsFirst; key = None; entries = own }))
unfolding book_of
first_read = (refl, refl)

first_written :
    first_text (record { base = plain; order = FactorsFirst; key = Some (2 ∷ 1 ∷ 0 ∷ []); entries = own })
    ≡ earlier ++ (codes "pattern 0 0 2 1 0\n" ++ lines)
unfolding digits
first_written = refl

-- three numbers, block factors and too few runs; another resolution and effects; a pattern of another length, and with
-- words of one factor or of two; an entry of a word
first_faults :
    Fails (codes "factex-table 1\nsize 2 3 5\n") (fault kind.Form 2)
    × Fails (codes "factex-table 1\nbase 2 3 5 0\n") (fault kind.Form 2)
    × Fails (codes "factex-table 1\nsize 2 3 5 1\n") (fault kind.Range 2)
    × Fails (codes "factex-table 1\nsize 2 3 2 0\n") (fault kind.Range 2)
    × Fails (codes "factex-table 1\nsize 2 3 5 0\nresolution 4\n") (fault kind.Range 3)
    × Fails (codes "factex-table 1\nsize 2 3 5 0\neffects 1 2 /\n") (fault kind.Range 3)
    × Fails (earlier ++ codes "pattern 0 0 2 1\n") (fault kind.Form 4)
    × Fails (earlier ++ codes "pattern 0 0 2 1 0 0\n") (fault kind.Form 4)
    × Fails (earlier ++ codes "key 0 0 2 1 0\n") (fault kind.Form 4)
    × Fails (earlier ++ codes "pattern 1 0 2 1 0\n") (fault kind.Range 4)
    × Fails (earlier ++ codes "pattern 0 1 2 1 0\n") (fault kind.Range 4)
    × Fails (earlier ++ codes "pattern none\nW 3 1:1 2:1 4:1\nEND\n") (fault kind.Range 5)
unfolding book_of
first_faults = (refl, refl, refl, refl, refl, refl, refl, refl, refl, refl, refl, refl)

first_ends :
    Fails (codes "factex-table 1\nsize 2 3 5 0") (fault kind.Unfinished 2)
    × Fails (codes "factex-table 1\nsize 2 3 5 0\nresolution 3") (fault kind.Unfinished 3)
    × Fails (earlier ++ codes "pattern none") (fault kind.Unfinished 4)
    × Fails (earlier ++ codes "pattern none\n") (fault kind.Unfinished 5)
unfolding book_of
first_ends = (refl, refl, refl, refl)
