-- The first four lines of a book, and the whole.
use Rattle.std.specs.Prelude.{ℕ, ◌≡◌, ◌==◌, ◌^◌, ◌&&◌, ◌||◌, nat_lt, nat_le, Bool, if◌then◌else◌, List, [], ◌∷◌, length}
use Rattle.std.specs.Prelude.{codes, drop, Option, Some, None, Result, Ok, Err}
use Rattle.std.specs.Option.{is_some}
use Rattle.std.specs.Str.{bytes_eq}
use Rattle.fx_designs.specs.Galois.{is_order}
use Rattle.fx_designs.specs.Nodes as nodes
use Rattle.fx_vectors.specs.Shape.{dimensions_of}
use Rattle.fx_vectors.specs.Question.{is_resolution, requirement_of}
use Rattle.fx_vectors.specs.declared.shape.Shape.{Shape}
use Rattle.fx_vectors.specs.declared.question.Demands as demands
use Rattle.fx_vectors.specs.declared.book.Book.{Book}
use Rattle.fx_vectors.specs.declared.book.Head.{Head}
use Rattle.fx_vectors.specs.declared.shape.TheConstants.{MOST_FACTORS_IN_BLOCKS}
use Rattle.fx_book.specs.declared.fault.BookFault.{BookFault}
use Rattle.fx_book.specs.declared.fault.BookStop.{BookStop}
use Rattle.fx_book.specs.declared.fault.BookStop.TheVariants.{Fault, NoMemory}
use Rattle.fx_book.specs.declared.fault.FaultKind.TheVariants.{TooLong, Title, Size, Demands, Pattern}
use Rattle.fx_book.specs.declared.front.Front.{Front}
use Rattle.fx_book.specs.declared.version.Version.{Version}
use Rattle.fx_book.specs.Faults.{fault}
use Rattle.fx_book.specs.Versions.{version_of, most_factors_in}
use Rattle.fx_book.specs.Parts.{lines_of, parts_of, number_of, numbers_of_parts}
use Rattle.fx_book.specs.Demands.{demands_of}
use Rattle.fx_book.specs.Reading.{entries}

-- within the limits of a shape
abbrev pub is_shape : Version → ℕ → ℕ → ℕ → ℕ → Bool
is_shape version q m s t =
    is_order q
    && (nat_le 1 m
    && (nat_le m 10
    && (nat_le (q ^ m) 1024
    && (nat_le 1 s
    && (nat_le s (most_factors_in version q) && (nat_le t 10 && ((t == 0) || nat_le s MOST_FACTORS_IN_BLOCKS)))))))

abbrev pub shape_from : Version → Option ℕ → Option ℕ → Option ℕ → Option ℕ → Option Shape
shape_from version None m s t = None
shape_from version (Some q) None s t = None
shape_from version (Some q) (Some m) None t = None
shape_from version (Some q) (Some m) (Some s) None = None
shape_from version (Some q) (Some m) (Some s) (Some t) =
    (if is_shape version q m s t then Some (record { q = q; m = m; s = s; t = t }) else None)

-- the shape of the parts of line 2
abbrev pub shape_of : Version → List (List ℕ) → Option Shape
shape_of version [] = None
shape_of version (word ∷ []) = None
shape_of version (word ∷ q ∷ []) = None
shape_of version (word ∷ q ∷ m ∷ []) = None
shape_of version (word ∷ q ∷ m ∷ s ∷ []) = None
shape_of version (word ∷ q ∷ m ∷ s ∷ t ∷ []) =
    (if bytes_eq word (codes "size")
    then shape_from version (number_of q) (number_of m) (number_of s) (number_of t) else None)
shape_of version (word ∷ q ∷ m ∷ s ∷ t ∷ other ∷ others) = None

-- whether there may be a pattern to beat: under a resolution, without block factors
abbrev pub may_be_beaten : Shape → demands.Demands → Bool
may_be_beaten shape asked = (shape.t == 0) && is_resolution (requirement_of asked)

-- a pattern of s entries
abbrev pub whole_pattern : ℕ → Option (List ℕ) → Option (Option (List ℕ))
whole_pattern s None = None
whole_pattern s (Some pattern) = (if length pattern == s then Some (Some pattern) else None)

abbrev pub beat_from : ℕ → Bool → List (List ℕ) → Option (Option (List ℕ))
beat_from s allowed [] = None
beat_from s allowed (word ∷ parts) =
    (if bytes_eq word (codes "pattern") && allowed then whole_pattern s (numbers_of_parts 0 (2 ^ 127) parts) else None)

-- the pattern to beat of line 4: none, or one of entries below 2^127, where it is allowed
abbrev pub beat_of : ℕ → Bool → List ℕ → Option (Option (List ℕ))
beat_of s allowed line =
    (if bytes_eq line (codes "pattern none") then Some None else beat_from s allowed (parts_of line))

-- what is made of a first line that is ended and the lines after it
abbrev pub with_line : {T : Type 0} → T → (List ℕ → List (List ℕ) → T) → List (List ℕ) → T
with_line none make [] = none
with_line none make (line ∷ []) = none
with_line none make (line ∷ next ∷ lines) = make line (next ∷ lines)

-- what is read of the lines that say what a book is about: a head, and the lines after these
abbrev pub with_beat : Shape → demands.Demands → List (List ℕ) → Option (Option (List ℕ))
    → Result (Head × List (List ℕ)) BookFault
with_beat shape asked lines None = Err (fault Pattern 4)
with_beat shape asked lines (Some beat) =
    Ok (record { question = record { shape = shape; demands = asked; least = is_some beat }; beat = beat }, lines)

abbrev pub from_beat : Shape → demands.Demands → List (List ℕ) → Result (Head × List (List ℕ)) BookFault
from_beat shape asked lines =
    with_line (Err (fault Pattern 4))
    (λ line rest. with_beat shape asked rest (beat_of shape.s (may_be_beaten shape asked) line)) lines

abbrev pub with_demands : Shape → List (List ℕ) → Option demands.Demands → Result (Head × List (List ℕ)) BookFault
with_demands shape lines None = Err (fault Demands 3)
with_demands shape lines (Some asked) = from_beat shape asked lines

abbrev pub from_demands : Shape → List (List ℕ) → Result (Head × List (List ℕ)) BookFault
from_demands shape lines =
    with_line (Err (fault Demands 3)) (λ line rest. with_demands shape rest (demands_of shape (parts_of line))) lines

abbrev pub with_shape : List (List ℕ) → Option Shape → Result (Head × List (List ℕ)) BookFault
with_shape lines None = Err (fault Size 2)
with_shape lines (Some shape) = from_demands shape lines

-- the head that lines 2 to 4 say, and the lines after them, or the first fault
abbrev pub head_of : Version → List (List ℕ) → Result (Head × List (List ℕ)) BookFault
head_of version lines =
    with_line (Err (fault Size 2)) (λ line rest. with_shape rest (shape_of version (parts_of line))) lines

-- just what is read of the lines of a text, unless memory ran out
abbrev pub IsHeadOf : List ℕ → Result (Head × List (List ℕ)) BookFault → Result Front BookStop → Type 0
IsHeadOf text read (Ok front) = read ≡ Ok (front.head, lines_of (drop front.from text))
IsHeadOf text read (Err (Fault stop)) = read ≡ Err stop
IsHeadOf text read (Err NoMemory) = Unit {0}

abbrev pub with_marks : Head → Result (List nodes.Mark) BookFault → Result Book BookFault
with_marks head (Err stop) = Err stop
with_marks head (Ok marks) = Ok (record { head = head; marks = marks })

abbrev pub with_head : Version → Result (Head × List (List ℕ)) BookFault → Result Book BookFault
with_head version (Err stop) = Err stop
with_head version (Ok read) =
    with_marks read.0 (entries version (dimensions_of read.0.question.shape) (is_some read.0.beat) 5 read.1)

abbrev pub with_version : List (List ℕ) → Option Version → Result Book BookFault
with_version lines None = Err (fault Title 1)
with_version lines (Some version) = with_head version (head_of version lines)

abbrev pub from_title : List (List ℕ) → Result Book BookFault
from_title lines = with_line (Err (fault Title 1)) (λ line rest. with_version rest (version_of line)) lines

-- the book that a text is, or its first fault
unfoldable pub book_of : List ℕ → Result Book BookFault
book_of text = (if nat_lt 268435456 (length text) then Err (fault TooLong 1) else from_title (lines_of text))
