-- The rules of a line of `tables` are read as its matrix.
use Rattle.std.proofs.Common.{ℕ, ◌≡◌, ◌<◌, ◌≤◌, ◌+◌, ◌^◌, zero, suc, Bool, true, false, List, [], ◌∷◌, ◌++◌, length}
use Rattle.std.proofs.Common.{map}
use Rattle.std.proofs.Common.{take, drop, get_or, refl, sym, ap, ◌∙◌, subst, arith, append_assoc, append-nil}
use Rattle.std.proofs.Common.{length-append, length-drop, take-suc}
use Rattle.std.specs.Prelude.{Ok, ◌&&◌, codes}
use Rattle.std.proofs.lemmas.Bool.{and_parts}
use Rattle.std.specs.List.{range_with_len, AllByRecursion}
use Rattle.std.proofs.lemmas.List.{take-append-drop, length-map}
use Rattle.std.proofs.lemmas.List.FromFn.{length-range_with_len}
use Rattle.std.specs.Fmt.{digits as fmt_digits}
use Rattle.fx_lexer.specs.Bytes.{is_white}
use Rattle.fx_designs.specs.Galois.{digits}
use Rattle.fx_components.specs.Products.{product}
use Rattle.fx_vectors.specs.declared.shape.Shape.{Shape}
use Rattle.fx_vectors.specs.Shape.{IsShape}
use Rattle.fx_vectors.proofs.Limits.{order-bounds}
use Rattle.fx_rules.specs.declared.reading.Stage.TheVariants as stage
use Rattle.fx_rules.specs.declared.reading.Reading.{Reading}
use Rattle.fx_rules.specs.Building.{nothing_built}
use Rattle.fx_rules.specs.Reading.{at_stage, is_formed, is_name_byte, matrix_in, matrix_of_rules}
use Rattle.fx_rules.specs.TableLines.{IsOfTable, MeanNumbers, TableWayBack, factor_name, first_names, rule_text}
use Rattle.fx_rules.specs.TableLines.{rules_from}
use Rattle.fx_rules.proofs.Moving.{closes, is_one, letters, moves_on}
use Rattle.fx_rules.proofs.ReadProducts.{IsWord, Mean}
use Rattle.fx_rules.proofs.ReadLines.{Completed, Ready, Reached, at_end, over_line, short_rule_read, unsaid}
use Rattle.fx_rules.proofs.ReadNames.{each_passes, each_below}
use Rattle.fx_rules.proofs.WayBack.{front_ready}

-- one rule, with the byte behind it
abbrev chunk : ℕ → ℕ → ℕ → ℕ → ℕ → List ℕ
chunk q m k row mark = factor_name k ++ (61 ∷ (product (first_names m) (digits q m row) ++ mark ∷ []))

-- the rules of factor k and those after it, with blanks between them and a line feed at the end
chunks : ℕ → ℕ → ℕ → List ℕ → List ℕ
chunks q m k [] = []
chunks q m k (row ∷ []) = chunk q m k row 10
chunks q m k (row ∷ next ∷ rows) = chunk q m k row 32 ++ chunks q m (k + 1) (next ∷ rows)

regroup : (a p c : List ℕ) (x : ℕ) → (a ++ (61 ∷ p)) ++ (x ∷ c) ≡ (a ++ (61 ∷ (p ++ x ∷ []))) ++ c
regroup a p c x =
    cc (append_assoc a (61 ∷ p) (x ∷ c), append_assoc p (x ∷ []) c, append_assoc a (61 ∷ (p ++ x ∷ [])) c)

same_text : (q m k row : ℕ) (rows : List ℕ)
    → rules_from q m k (row ∷ rows) ++ codes "\n" ≡ 32 ∷ chunks q m k (row ∷ rows)
unfolding chunks
same_text q m k row [] =
    let p = product (first_names m) (digits q m row) in
    cc (
      append-nil (rule_text q m k row),
      regroup (factor_name k) p [] 10,
      append-nil
          (factor_name k ++ (61 ∷ (p ++ 10 ∷ []))),
    )
same_text q m k row (next ∷ rows) =
    cc (
      append_assoc (rule_text q m k row) (rules_from q m (k + 1) (next ∷ rows)) (codes "\n"),
      same_text q m (k + 1)
          next rows,
      regroup (factor_name k) (product (first_names m) (digits q m row)) (chunks q m (k + 1) (next ∷ rows))
          32,
    )

-- the names of 63 factors are words
abbrev is_word : ℕ → Bool
is_word k = is_one (factor_name (k + 1)) && is_formed (factor_name (k + 1))

all_words : each_below 63 is_word ≡ true
unfolding fmt_digits
all_words = refl

name_word : (k : ℕ) → k < 63 → IsWord (factor_name (k + 1))
name_word k low = record {
  some = omega arith;
  bytes = (and_parts _ _ (each_passes is_word 63 k all_words low)).0;
  formed = (and_parts _ _ (each_passes is_word 63 k all_words low)).1;
  no_zero = refl;
  no_none = refl;
  no_run = refl;
}

-- the unit vectors, and the places of their factors
units : ℕ → ℕ → List ℕ
units q zero = []
units q (suc n) = units q n ++ q ^ n ∷ []

places : ℕ → List ℕ
places zero = []
places (suc n) = places n ++ n ∷ []

module _ (shape : Shape) (factors : List (List ℕ)) where
  length-units : (n : ℕ) → length (units shape.q n) ≡ n
  unfolding units
  length-units zero = refl
  length-units (suc n) =
      let a = length-append (units shape.q n) (shape.q ^ n ∷ []) in let b = length-units n in omega arith

  length-places : (n : ℕ) → length (places n) ≡ n
  unfolding places
  length-places zero = refl
  length-places (suc n) = let a = length-append (places n) (n ∷ []) in let b = length-places n in omega arith

  -- the first n factors have no rule
  ready_units : (n : ℕ) → n ≤ shape.m → n ≤ shape.s + shape.t
      → Ready shape factors (at_stage stage.Front (nothing_built shape)) n (units shape.q n) (places n)
  unfolding units places
  ready_units zero low fits = front_ready shape factors
  ready_units (suc n) low fits =
      let front = at_stage stage.Front (nothing_built shape) in
      let a = length-units n in
      let b = length-places n in
      let before = ready_units n (omega (arith, low)) (omega (arith, fits)) in
      let next =
      unsaid shape factors front n (units shape.q n) (places n) a (omega (arith, b, low)) (omega (arith, fits))
      before in
      let count : n + 1 ≡ suc n = omega arith in
      rw (← count)
      (subst (λ (k : ℕ). Ready shape factors front (n + 1) (units shape.q n ++ shape.q ^ k ∷ []) (places n ++ n ∷ []))
      b
      next)

  mean_numbers : (n low : ℕ) → MeanNumbers shape factors → low + n ≤ shape.s → shape.s ≤ 63
      → Mean shape factors low (map factor_name (range_with_len (low + 1) n)) (range_with_len low n)
  mean_numbers zero low h fits few = tt
  mean_numbers (suc n) low h fits few = (
    omega arith,
    name_word low (omega arith),
    h low (omega arith),
    mean_numbers n (low + 1) h (omega arith) few,
  )

  places_are : (n : ℕ) → places n ≡ range_with_len 0 n
  unfolding places
  places_are zero = refl
  places_are (suc n) = cc (places_are n, range_more 0 n n (omega arith))
    where
      range_more : (a n k : ℕ) → a + n ≡ k → range_with_len a (suc n) ≡ range_with_len a n ++ k ∷ []
      range_more a zero k e = let same : a ≡ k = omega arith in cc
      range_more a (suc n) k e = cc (range_more (a + 1) n k (omega arith))

  units_are : (q n : ℕ) (rows : List ℕ) → n ≤ length rows → ((k : ℕ) → k < n → get_or rows k 0 ≡ q ^ k)
      → take n rows ≡ units q n
  unfolding units
  units_are q zero rows fits h = refl
  units_are q (suc n) rows fits h =
      cc (
        take-suc rows n 0 (omega arith),
        units_are q n rows (omega arith) (λ k low. h k (omega arith)),
        h n
            (omega arith),
      )

  one_read : (row p mark : ℕ) (rows firsts : List ℕ) (r : Reading) → IsShape shape → MeanNumbers shape factors
      → Mean shape factors 0 (first_names shape.m) firsts → shape.t ≡ 0 → length rows ≡ p → p < shape.s
      → is_name_byte mark ≡ false → is_white mark ≡ true → row < shape.q ^ shape.m → Ready shape factors r p rows firsts
      → Reached shape factors r (chunk shape.q shape.m (p + 1) row mark) (p + 1) (rows ++ row ∷ []) firsts
  one_read row p mark rows firsts r sh numbers mean blocks long low out white below h =
      let bounds = order-bounds shape.q sh.order in
      let names =
      length-map (range_with_len 1 shape.m) factor_name ∙ length-range_with_len 1 shape.m in
      short_rule_read shape factors r p row shape.m mark rows firsts _ _
      (name_word p (omega arith)) out white (numbers p low) mean long (omega arith)
      (omega arith) bounds.1 (rw (← names) at below) (omega arith)
      h

  -- the rules of the factors from place p on
  rules_read : (left : List ℕ) (p : ℕ) (rows firsts : List ℕ) (r : Reading) → IsShape shape → MeanNumbers shape factors
      → Mean shape factors 0 (first_names shape.m) firsts → shape.t ≡ 0 → length rows ≡ p
      → p + length left ≡ shape.s → AllByRecursion (λ x. x < shape.q ^ shape.m) left
      → Ready shape factors r p rows firsts
      → Completed shape factors r (chunks shape.q shape.m (p + 1) left) (rows ++ left)
  unfolding chunks
  rules_read [] p rows firsts r sh numbers mean blocks long fits below h =
      subst (λ (l : List ℕ). Completed shape factors r [] l) (sym (append-nil rows))
      (at_end shape factors r p rows firsts (omega (arith, fits, blocks)) h)
  rules_read (row ∷ []) p rows firsts r sh numbers mean blocks long fits below h =
      let one = one_read row p 10 rows firsts r sh numbers mean blocks long (omega (arith, fits)) refl refl below.0 h in
      let end = at_end shape factors one.reading (p + 1) (rows ++ row ∷ []) firsts (omega (arith, fits, blocks))
      one.ready in
      let text = chunk shape.q shape.m (p + 1) row 10 in
      subst (λ (t : List ℕ). Completed shape factors r t (rows ++ row ∷ [])) (append-nil text)
      (over_line shape factors r text [] (rows ++ row ∷ []) (rows ++ row ∷ []) firsts (p + 1) one end)
  rules_read (row ∷ next ∷ left) p rows firsts r sh numbers mean blocks long fits below h =
      let one = one_read row p 32 rows firsts r sh numbers mean blocks long (omega (arith, fits)) refl refl below.0 h in
      let count : length (rows ++ row ∷ []) ≡ p + 1 = let l = length-append rows (row ∷ []) in omega (arith, l, long) in
      let rest = rules_read (next ∷ left) (p + 1) (rows ++ row ∷ []) firsts one.reading sh numbers mean blocks count
      (omega (arith, fits)) below.1 one.ready in
      let text = chunk shape.q shape.m (p + 1) row 32 in
      let join : (rows ++ row ∷ []) ++ next ∷ left ≡ rows ++ row ∷ next ∷ left =
      append_assoc rows (row ∷ []) (next ∷ left) in
      subst (λ (l : List ℕ). Completed shape factors r (text ++ chunks shape.q shape.m (p + 1 + 1) (next ∷ left)) l)
      join
      (over_line shape factors r text (chunks shape.q shape.m (p + 1 + 1) (next ∷ left)) (rows ++ row ∷ [])
      ((rows ++ row ∷ []) ++ next ∷ left) firsts (p + 1) one rest)

  all_drop : (n : ℕ) (rows : List ℕ) → AllByRecursion (λ x. x < shape.q ^ shape.m) rows
      → AllByRecursion (λ x. x < shape.q ^ shape.m) (drop n rows)
  all_drop zero rows h = h
  all_drop (suc n) [] h = tt
  all_drop (suc n) (row ∷ rows) h = all_drop n rows h.1

  headed : (mark : ℕ) → is_name_byte mark ≡ false → is_white mark ≡ true → (text rows : List ℕ)
      → Completed shape factors (at_stage stage.Front (nothing_built shape)) text rows
      → Completed shape factors (at_stage stage.Head (nothing_built shape)) (codes "rules" ++ (mark ∷ text)) rows
  headed mark out white text rows c =
      let head = at_stage stage.Head (nothing_built shape) in
      let front = at_stage stage.Front (nothing_built shape) in
      let moves =
      moves_on factors [] _ [] head head front (codes "rules") (mark ∷ [])
      (letters factors (codes "rules") head refl)
      (closes factors 114 mark (codes "ules") head front front out refl refl (rw (out, white))) in
      record {
        built = c.built;
        shape_is = c.shape_is;
        rows_are = c.rows_are;
        read = λ at. (let m = moves text at in m.1 ∙ c.read m.0);
      }

  -- behind the word `rules` stands a blank, or a line feed where there are none
  text_read : (left rows : List ℕ)
      → Completed shape factors (at_stage stage.Front (nothing_built shape)) (chunks shape.q shape.m (shape.m + 1) left)
      rows
      → Completed shape factors (at_stage stage.Head (nothing_built shape))
      (codes "rules" ++ (rules_from shape.q shape.m (shape.m + 1) left ++ codes "\n")) rows
  unfolding chunks
  text_read [] rows c = headed 10 refl refl [] rows c
  text_read (row ∷ left) rows c =
      rw (same_text shape.q shape.m (shape.m + 1) row left) (headed 32 refl refl _ rows c)

  pub table_way_back : (rows : List ℕ) → MeanNumbers shape factors → IsOfTable shape rows
      → TableWayBack shape factors rows
  unfolding matrix_of_rules
  table_way_back rows numbers table =
      let sh = table.matrix.shaped in
      let m = shape.m in
      let left = drop m rows in
      let split : units shape.q m ++ left ≡ rows =
      cc ((units_are shape.q m rows (omega arith) table.units), take-append-drop m rows) in
      let fits : m + length left ≡ shape.s =
      let l = length-drop m rows in omega arith in
      let mean =
      rw (← (places_are m)) at (mean_numbers m 0 numbers (omega arith) sh.factors) in
      let ready = ready_units m (omega arith) (omega arith) in
      let all = rules_read left m (units shape.q m) (places m) _ sh numbers
      mean
      table.unblocked (length-units m) fits (all_drop m rows table.matrix.below) ready in
      let read = text_read left (units shape.q m ++ left) all in
      ap matrix_in (read.read 0)
      ∙ (ap (λ z. Ok (record { shape = z; rows = read.built.rows })) read.shape_is
      ∙ ap (λ l. Ok (record { shape = shape; rows = l })) (read.rows_are ∙ split))
