-- How long the text of a book may be.
use Rattle.std.proofs.Common.{ℕ, ◌≡◌, ◌<◌, ◌≤◌, ◌+◌, ◌*◌, ◌^◌, List, [], ◌∷◌, ◌++◌, length, Option, Some, None}
use Rattle.std.proofs.Common.{arith, length-append, lit<, Bool, inl, inr, sym, subst}
use Rattle.std.proofs.lemmas.Bool.{cases_Bool, leb-true, cases_lt, cond-true, cond-false, eq-eqb, ne_eqb}
use Rattle.std.specs.Prelude.{codes, decimal, map}
use Rattle.std.specs.List.{AllByRecursion}
use Rattle.std.proofs.Math.Nat.{pow-le-pow_right, suc-mul}
use Rattle.std.proofs.lemmas.Fmt.{length-decimal-le_wide}
use Rattle.std.proofs.lemmas.List.{length-map}
use Rattle.std.proofs.lemmas.List.Elements.{recursion_from_All}
use Rattle.fx_base.proofs.Lists.{each-weaker}
use Rattle.fx_designs.specs.Problems.{Dimensions}
use Rattle.fx_designs.specs.Vectors.{weight}
use Rattle.fx_laws.proofs.Codes.{digits-vector}
use Rattle.fx_laws.proofs.Weights.{weight-none, weight-some}
use Rattle.fx_designs.specs.Nodes.{Mark, Branch, Word, Worse}
use Rattle.fx_vectors.specs.Effects.{AreEffects, numbers_of}
use Rattle.fx_vectors.specs.Question.{CanBeAsked, requirement_of}
use Rattle.fx_vectors.specs.Shape.{IsShape, dimensions_of}
use Rattle.fx_vectors.specs.declared.effect.Effect.{Effect}
use Rattle.fx_vectors.specs.declared.shape.Shape.{Shape}
use Rattle.fx_vectors.specs.declared.question.Demands.{Demands}
use Rattle.fx_vectors.specs.declared.question.Demands.TheVariants.{Resolution, Effects}
use Rattle.fx_vectors.specs.declared.book.Book.{Book}
use Rattle.fx_vectors.proofs.Limits.{indexes_fit, order-bounds, rows_fit, words_fit}
use Rattle.fx_vectors.specs.declared.shape.TheConstants.{MOST_FACTORS}
use Rattle.fx_book.specs.declared.version.Version.TheVariants.{Second}
use Rattle.fx_book.specs.Words.{after_blanks, entries_from, entry_part, is_short, vector_of, word_parts}
use Rattle.fx_book.specs.Entries.{entry_text, entries_text}
use Rattle.fx_book.specs.Valid.{AreFew, IsBeat, IsEntry, IsValidBook}
use Rattle.fx_book.specs.Writing.{beat_text, book_text, demands_text, shape_text, spaced}

short : (k n : ℕ) → 0 < k → n < 10 ^ k → n < 2 ^ 128 → length (decimal n) ≤ k
short k n some low small =
    length-decimal-le_wide k n some low (let top : 2 ^ 128 < 10 ^ 64 = lit< tt in omega (arith, small, top))

-- numbers of at most k digits, with a blank before each
spaced_short : (k : ℕ) (numbers : List ℕ) → 0 < k → AllByRecursion (λ n. (n < 10 ^ k) × (n < 2 ^ 128)) numbers
    → length (spaced numbers) ≤ length numbers * (k + 1)
spaced_short k [] some low = omega arith
spaced_short k (n ∷ numbers) some low =
    let own = short k n some low.0.0 low.0.1 in
    let rest = spaced_short k numbers some low.1 in
    let joined = length-append (decimal n) (spaced numbers) in
    let blank = length-append (codes " ") (decimal n ++ spaced numbers) in
    let more = suc-mul (length numbers) (k + 1) in
    omega arith

-- the places and the codes of a word, with a blank before each
places_short : (q place : ℕ) (v : List ℕ) → q ≤ 9 → place + length v ≤ 100 → AllByRecursion (λ c. c < q) v
    → length (after_blanks (map entry_part (entries_from place v))) ≤ 5 * weight v
places_short q place [] small long low = omega arith
places_short q place (code ∷ v) small long low =
    let rest = places_short q (place + 1) v small (omega arith) low.1 in
    let later = entries_from (place + 1) v in
    let tail = after_blanks (map entry_part later) in
    elim (cases_lt 0 code) [
      | inr none ↦
          let zero : code ≡ 0 = omega arith in
          let same : weight (code ∷ v) ≡ weight v = cc (weight-none v) in
          rw same (rw (← (cond-true _ later ((place, code) ∷ later) (eq-eqb code 0 zero))) at rest)
      | inl some ↦
          let first = short 2 place (omega arith) (omega arith) (omega arith) in
          let second = short 1 code (omega arith) (omega arith) (omega arith) in
          let own : length (after_blanks (map entry_part ((place, code) ∷ later))) ≤ 5 * (1 + weight v) =
          omega (
            arith,
            length-append (codes " ") (entry_part (place, code) ++ tail),
            length-append
                (entry_part (place, code)) tail,
            length-append (decimal place) (codes ":" ++ decimal code),
            length-append
                (codes ":") (decimal code),
          ) in
          rw (weight-some code v some)
          (subst (λ l. length (after_blanks (map entry_part l)) ≤ 5 * (1 + weight v))
          (sym (cond-false _ later ((place, code) ∷ later) (ne_eqb code 0 (λ e. absurd (omega arith))))) own)
    ]

-- a word with the blanks before its parts
word_short : (d : Dimensions) (word : ℕ) → 0 < d.q → d.q ≤ 9 → d.s + d.t ≤ 99 → word < 2 ^ 127
    → length (after_blanks (word_parts Second d word)) ≤ 41
word_short d word some small few low =
    let v = vector_of d word in
    let is = digits-vector d.q (d.s + d.t) word some in
    elim (cases_Bool (is_short d word)) [
      | inl light ↦
          let places = places_short d.q 1 v small (omega arith) is.codes in
          let few_places = leb-true _ 8 light in
          rw light (omega arith)
      | inr heavy ↦
          let top : 2 ^ 127 < 10 ^ 39 = lit< tt in
          let own = short 39 word (omega arith) (omega arith) (omega arith) in
          rw heavy (omega (
            arith,
            length-append (codes " ") ((codes "#" ++ decimal word) ++ []),
            length-append
                (codes "#" ++ decimal word) [],
            length-append (codes "#") (decimal word),
          ))
    ]

-- a line of at most 48 bytes for each entry
module _ (d : Dimensions) (some : 0 < d.q) (small : d.q ≤ 9) (rows : d.s + d.t ≤ 99) (few : d.q ^ d.m ≤ 1024)
    (words : d.q ^ (d.s + d.t) < 2 ^ 127) (beaten : Bool) where
  entry_short : (mark : Mark) → IsEntry d beaten mark → length (entry_text Second d mark) ≤ 48
  entry_short (Branch row) h =
      let own = short 4 row (omega arith) (omega arith) (omega arith) in
      omega (
        arith,
        length-append (codes "O ") (decimal row ++ codes "\n"),
        length-append (decimal row)
            (codes "\n"),
      )
  entry_short (Word row word) h =
      let own = short 4 row (omega arith) (omega arith) (omega arith) in
      let parts = after_blanks (word_parts Second d word) in
      let other = word_short d word some small rows (omega arith) in
      omega (
        arith,
        length-append (codes "W ") (decimal row ++ (parts ++ codes "\n")),
        length-append (decimal row)
            (parts ++ codes "\n"),
        length-append parts (codes "\n"),
      )
  entry_short (Worse row) h =
      let own = short 4 row (omega arith) (omega arith) (omega arith) in
      omega (
        arith,
        length-append (codes "P ") (decimal row ++ codes "\n"),
        length-append (decimal row)
            (codes "\n"),
      )

  entries_short : (marks : List Mark) → AllByRecursion (IsEntry d beaten) marks
      → length (entries_text Second d marks) ≤ 48 * length marks
  entries_short [] h = omega arith
  entries_short (mark ∷ marks) h =
      let own = entry_short mark h.0 in
      let rest = entries_short marks h.1 in
      omega (arith, length-append (entry_text Second d mark) (entries_text Second d marks))

shape_short : (shape : Shape) → IsShape shape → length (shape_text shape) ≤ 100
shape_short shape h =
    let numbers : List ℕ = shape.q ∷ shape.m ∷ shape.s ∷ shape.t ∷ [] in
    let q = (order-bounds shape.q h.order).1 in
    let m = indexes_fit shape h in
    let all = spaced_short 4 numbers (omega arith) (
      (omega arith, omega arith),
      (
        (omega arith, omega arith),
        (
          (omega arith, omega arith),
          ((omega arith, omega arith), tt),
        ),
      ),
    ) in
    let count : length numbers ≡ 4 = omega arith in
    let bound : length numbers * (4 + 1) ≡ 20 = cc in
    omega (
      arith,
      length-append (codes "size") (spaced numbers ++ codes "\n"),
      length-append
          (spaced numbers) (codes "\n"),
    )

effects_short : (s : ℕ) (effects : List Effect) → s ≤ MOST_FACTORS → AreEffects s (numbers_of effects)
    → length effects ≤ 100000 → length (spaced (numbers_of effects)) ≤ 2000000
effects_short s effects few h count =
    let top : 2 ^ s ≤ 2 ^ MOST_FACTORS = pow-le-pow_right (omega arith) few in
    let low : 2 ^ MOST_FACTORS < 10 ^ 19 = lit< tt in
    let all = spaced_short 19 (numbers_of effects) (omega arith)
    (each-weaker (λ n. (0 < n) × (n < 2 ^ s)) (λ n. (n < 10 ^ 19) × (n < 2 ^ 128)) (numbers_of effects)
    (λ n own. (omega (arith, own.1, top, low), omega (arith, own.1, top)))
    (recursion_from_All (λ n. (0 < n) × (n < 2 ^ s)) (numbers_of effects) h.each)) in
    let long = length-map effects (λ e. e.0) in
    omega arith

demands_short : (shape : Shape) (demands : Demands) → shape.s ≤ MOST_FACTORS
    → CanBeAsked (dimensions_of shape) (requirement_of demands) → AreFew demands
    → length (demands_text demands) ≤ 4100000
demands_short shape (Resolution r) small h few =
    let own = short 4 r (omega arith) (omega arith) (omega arith) in
    omega (
      arith,
      length-append (codes "resolution") (spaced (r ∷ []) ++ codes "\n"),
      length-append
          (spaced (r ∷ [])) (codes "\n"),
      length-append (codes " ") (decimal r ++ []),
      length-append (decimal r) [],
    )
demands_short shape (Effects estimate others) small h few =
    let mine = effects_short shape.s estimate small h.estimated few.0 in
    let theirs = effects_short shape.s others small h.others few.1 in
    let e = spaced (numbers_of estimate) in
    let o = spaced (numbers_of others) in
    omega (
      arith,
      length-append (codes "effects") (e ++ (codes " /" ++ (o ++ codes "\n"))),
      length-append e
          (codes " /" ++ (o ++ codes "\n")),
      length-append (codes " /") (o ++ codes "\n"),
      length-append o (codes "\n"),
    )

beat_short : (s : ℕ) (least : Bool) (beat : Option (List ℕ)) → s ≤ MOST_FACTORS → IsBeat s least beat
    → length (beat_text beat) ≤ 3000
beat_short s least None small h = omega arith
beat_short s least (Some pattern) small h =
    let top : 2 ^ 127 < 10 ^ 39 = lit< tt in
    let all = spaced_short 39 pattern (omega arith)
    (each-weaker (λ a. a < 2 ^ 127) (λ n. (n < 10 ^ 39) × (n < 2 ^ 128)) pattern
    (λ n low. (omega (arith, low, top), omega (arith, low))) (recursion_from_All (λ a. a < 2 ^ 127) pattern h.2)) in
    omega (
      arith,
      length-append (codes "pattern") (spaced pattern ++ codes "\n"),
      length-append
          (spaced pattern) (codes "\n"),
    )

-- a book of at most 5,000,000 nodes is within the limit
pub book_short : (book : Book) → IsValidBook book → length book.marks ≤ 5000000 → length (book_text book) ≤ 268435456
book_short book valid few =
    let shape = book.head.question.shape in
    let own = valid.question.shaped in
    let bounds = order-bounds shape.q own.order in
    let rows = rows_fit shape own in
    let first = shape_short shape own in
    let second = demands_short shape book.head.question.demands own.factors valid.question.asked valid.few_effects in
    let third = beat_short shape.s book.head.question.least book.head.beat own.factors valid.beat in
    let rest =
    entries_short (dimensions_of shape) (omega arith) bounds.1 (omega arith) own.runs
    (words_fit shape own (shape.s + shape.t) (omega arith)) _
    book.marks
    (recursion_from_All _ book.marks valid.marks) in
    let s = shape_text shape in
    let d = demands_text book.head.question.demands in
    let b = beat_text book.head.beat in
    let e = entries_text Second (dimensions_of shape) book.marks in
    omega (
      arith,
      length-append (codes "factex-book 2") (codes "\n" ++ (s ++ (d ++ (b ++ (e ++ codes "END\n"))))),
      length-append (codes "\n") (s ++ (d ++ (b ++ (e ++ codes "END\n")))),
      length-append s
          (d ++ (b ++ (e ++ codes "END\n"))),
      length-append d (b ++ (e ++ codes "END\n")),
      length-append b
          (e ++ codes "END\n"),
      length-append e (codes "END\n"),
    )
