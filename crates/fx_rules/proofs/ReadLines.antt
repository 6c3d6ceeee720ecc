-- The reader over the lines of rules as they are printed.
use Rattle.std.proofs.Common.{ℕ, ◌≡◌, ◌<◌, ◌≤◌, ◌⊎◌, ◌+◌, ◌-◌, ◌^◌, zero, suc, Bool, true, false, List, [], ◌∷◌, ◌++◌}
use Rattle.std.proofs.Common.{length}
use Rattle.std.proofs.Common.{refl, sym, ap, ◌∙◌, subst, arith, lit<, inl, inr, append_assoc, append-nil, length-append}
use Rattle.std.specs.Prelude.{Result, Ok, Err, Option, Some, None, ◌==◌, ◌&&◌, nat_le, nat_lt, codes, decimal}
use Rattle.std.specs.Prelude.{if◌then◌else◌}
use Rattle.std.specs.List.{AllByRecursion}
use Rattle.std.specs.Str.{bytes_eq}
use Rattle.std.proofs.lemmas.Bool.{cases_Bool, eqb-true, eqb-false, ne_eqb, le-leb, lt-ltb, le-ltb, leb-true, cases_lt}
use Rattle.std.specs.Fmt.{digits as fmt_digits}
use Rattle.std.proofs.lemmas.Fmt.{decimal_digit}
use Rattle.std.proofs.lemmas.Slice.Eq.{bytes_eq-Decides}
use Rattle.fx_designs.specs.Galois.{digits, number}
use Rattle.fx_designs.specs.Vectors.{zeros}
use Rattle.std.proofs.Math.Nat.{pow-le-pow_right}
use Rattle.fx_laws.proofs.Codes.{number-digits}
use Rattle.fx_vectors.specs.declared.shape.Shape.{Shape}
use Rattle.fx_components.specs.Products.{product}
use Rattle.fx_alias.specs.Rules.{Subject, left_side, rule_lines, rule_of, run_factor_line}
use Rattle.fx_rules.specs.declared.problem.Problem.{Problem}
use Rattle.fx_rules.specs.declared.reading.Stage.TheVariants as stage
use Rattle.fx_rules.specs.declared.reading.Reading.{Reading}
use Rattle.fx_rules.specs.Building.{Built, and_then, begun, completed, ruled, with_index, with_indexes}
use Rattle.fx_lexer.specs.Bytes.{is_white}
use Rattle.fx_rules.specs.Naming.{place_in}
use Rattle.fx_rules.specs.Stepped.{IsStepped}
use Rattle.fx_rules.specs.Reading.{is_formed, is_name_byte, is_next, at_stage, ended_at, read_on, signed, then_at}
use Rattle.fx_rules.specs.Reading.{worded_at}
use Rattle.fx_rules.proofs.Moving.{Moves, closes, letters, moves_on, passes}
use Rattle.fx_rules.proofs.ReadProducts.{AllLess, IsWord, Mean, after_rule, bd, behind_equals, digit_byte, digit_formed}
use Rattle.fx_rules.proofs.ReadProducts.{digit_name, less_more, less_snoc}

cases_result : (x : Result Built Problem) → ((b : Built) × (x ≡ Ok b)) ⊎ ((e : Problem) × (x ≡ Err e))
cases_result (Ok b) = inl (b, refl)
cases_result (Err e) = inr (e, refl)

unit_right : (x : Result Built Problem) → and_then x (with_indexes 0) ≡ x
unit_right (Ok b) = refl
unit_right (Err e) = refl

-- the last of several factors that introduce run indexes
indexes_snoc : (n : ℕ) (b : Built) → with_indexes (suc n) b ≡ and_then (with_indexes n b) with_index
indexes_snoc zero b = unit_right _
indexes_snoc (suc n) b = elim (cases_result (with_index b)) [
  | inl h ↦ rw h.1 (indexes_snoc n h.0)
  | inr h ↦ rw h.1
]

-- as many names as places
as_many : (shape : Shape) (factors : List (List ℕ)) (low : ℕ) (names : List (List ℕ)) (places : List ℕ)
    → Mean shape factors low names places → length names ≡ length places
as_many shape factors low [] [] h = refl
as_many shape factors low [] (place ∷ places) h = absurd h
as_many shape factors low (name ∷ names) [] h = absurd h
as_many shape factors low (name ∷ names) (place ∷ places) h =
    cc (as_many shape factors (place + 1) names places h.3)

mean_snoc : (shape : Shape) (factors : List (List ℕ)) (low p : ℕ) (name : List ℕ) (names : List (List ℕ))
    (places : List ℕ) → low ≤ p → AllLess p places → IsWord name → place_in shape factors name ≡ Some p
    → Mean shape factors low names places → Mean shape factors low (names ++ name ∷ []) (places ++ p ∷ [])
mean_snoc shape factors low p name [] [] at less w e h = (at, w, e, tt)
mean_snoc shape factors low p name [] (place ∷ places) at less w e h = absurd h
mean_snoc shape factors low p name (n ∷ names) [] at less w e h = absurd h
mean_snoc shape factors low p name (n ∷ names) (place ∷ places) at less w e h = (
  h.0,
  h.1,
  h.2,
  mean_snoc shape factors (place + 1) p name names places (omega arith) less.1 w e h.3,
)

of_ten : IsWord (decimal 10)
unfolding fmt_digits
of_ten = record { some = lit< tt; bytes = refl; formed = refl; no_zero = refl; no_none = refl; no_run = refl }

and_false : (a : Bool) → (a && false) ≡ false
and_false true = refl
and_false false = refl

one_digit : (i : ℕ) → 0 < i → i < 10 → IsWord ((48 + i) ∷ [])
one_digit i some low =
    let other =
    ne_eqb (48 + i) 48 (λ e. omega arith) in
    record {
      some = lit< tt;
      bytes = rw (digit_name _ (digit_byte i low));
      formed = digit_formed i low;
      no_zero = rw other;
      no_none = and_false _;
      no_run = and_false _;
    }

module _ (shape : Shape) (factors : List (List ℕ)) where
  -- Where a line of rules may begin, behind p rows, these rows and places of those that introduced run indexes are
  -- known, once those that have no line have introduced theirs.
  pub record Ready (r : Reading) (p : ℕ) (rows firsts : List ℕ) : Type 0 where
    pub base : Built
    pub opens : (place : ℕ) (word : List ℕ) → IsWord word → place_in shape factors word ≡ Some place
        → worded_at r.stage factors word r.building ≡ then_at stage.Equals (begun place base)
    pub ends : ended_at r.stage r.building ≡ completed base
    pub shape_is : base.shape ≡ shape
    pub behind : length base.rows ≤ p
    pub codes : List ℕ
    pub last : ℕ
    pub filled : with_indexes (p - length base.rows) base ≡ Ok (bd shape factors rows firsts codes last)

  index_is : (rows firsts codes : List ℕ) (last : ℕ) → length firsts < shape.m → length rows < shape.s + shape.t
      → with_index (bd shape factors rows firsts codes last)
      ≡ Ok (bd shape factors (rows ++ shape.q ^ length firsts ∷ []) (firsts ++ length rows ∷ [])
      (zeros (length (firsts ++ length rows ∷ []))) last)
  index_is rows firsts codes last few room =
      let b = lt-ltb _ _ room in
      rw (lt-ltb _ shape.m few, b)

  -- a factor without a rule
  pub unsaid : (r : Reading) (p : ℕ) (rows firsts : List ℕ) → length rows ≡ p → length firsts < shape.m
      → p < shape.s + shape.t → Ready r p rows firsts
      → Ready r (p + 1) (rows ++ shape.q ^ length firsts ∷ []) (firsts ++ p ∷ [])
  unsaid r p rows firsts long few room h =
      let more : p + 1 - length h.base.rows ≡ suc (p - length h.base.rows) = omega arith in
      let filled =
      ap (λ n. with_indexes n h.base) more
      ∙ (indexes_snoc (p - length h.base.rows) h.base ∙
      (ap (λ x. and_then x with_index) h.filled ∙ (index_is rows firsts h.codes h.last few (omega arith)))) in
      record {
        base = h.base;
        opens = h.opens;
        ends = h.ends;
        shape_is = h.shape_is;
        behind = (omega arith);
        codes = zeros (length (firsts ++ length rows ∷ []));
        last = h.last;
        filled = cc;
      }

  -- behind the rule of a row
  pub behind_rule : (o : Option Bool) (rows firsts digits : List ℕ) (last row p : ℕ) → length rows ≡ p
      → p < shape.s + shape.t → number shape.q digits ≡ row
      → Ready (at_stage (after_rule o) (bd shape factors rows firsts digits last)) (p + 1) (rows ++ row ∷ []) firsts
  behind_rule o rows firsts digits last row p long room is =
      let b = bd shape factors rows firsts digits last in
      let next = bd shape factors (rows ++ row ∷ []) firsts digits last in
      let e : ruled b ≡ Ok next = rw (lt-ltb (length rows) (shape.s + shape.t) (omega arith), is) in
      let count : length (rows ++ row ∷ []) ≡ p + 1 = let l = length-append rows (row ∷ []) in omega arith in
      let none : p + 1 - length (rows ++ row ∷ []) ≡ 0 = omega arith in
      record {
        base = next;
        opens = λ place word w at. opened o b next e place word at;
        ends = ending o b next e;
        shape_is = refl;
        behind = omega arith;
        codes = digits;
        last = last;
        filled = cc;
      }
    where
      opened : (o : Option Bool) (b next : Built) → ruled b ≡ Ok next → (place : ℕ) (word : List ℕ)
          → place_in b.shape factors word ≡ Some place
          → worded_at (after_rule o) factors word b ≡ then_at stage.Equals (begun place next)
      opened None b next e place word at = rw (e, at)
      opened (Some true) b next e place word at = rw (e, at)
      opened (Some false) b next e place word at = rw (e, at)

      ending : (o : Option Bool) (b next : Built) → ruled b ≡ Ok next → ended_at (after_rule o) b ≡ completed next
      ending None b next e = rw e
      ending (Some true) b next e = rw e
      ending (Some false) b next e = rw e

  -- a left side, behind which the product begins
  left_side_read : (r : Reading) (p : ℕ) (rows firsts : List ℕ) (name : List ℕ) → IsWord name
      → place_in shape factors name ≡ Some p → Ready r p rows firsts
      → (last : ℕ) × Moves factors [] r (left_side name) []
      (at_stage stage.First (bd shape factors rows firsts (zeros (length firsts)) last))
  left_side_read r p rows firsts [] w at h = absurd (let k = w.some in omega arith)
  left_side_read r p rows firsts (c ∷ name) w at h =
      let now = bd shape factors rows firsts (zeros (length firsts)) h.last in
      let low : nat_lt p (length h.base.rows) ≡ false = (le-ltb p _ h.behind) in
      let begins : begun p h.base ≡ Ok now = rw (low, h.filled) in
      let equals = at_stage stage.Equals now in
      let first = at_stage stage.First now in (
        h.last,
        moves_on factors [] [] [] r r first (codes "  ") ((c ∷ name) ++ codes " = ")
            (moves_on factors [] [] [] r r r (codes " ") (codes " ") (passes factors 32 r r refl refl)
            (passes factors 32 r r refl refl))
            (moves_on factors [] (c ∷ name) [] r r first (c ∷ name) (codes " = ") (letters factors _ r w.bytes)
            (moves_on factors (c ∷ name) [] [] r equals first (codes " ") (codes "= ")
            (closes factors c 32 name r equals equals refl w.formed (cc (h.opens p (c ∷ name) w at)) refl)
            (moves_on factors [] [] [] equals first first (codes "=") (codes " ")
            (passes factors 61 equals first refl refl) (passes factors 32 first first refl refl)))),
      )

  -- where the reader comes to, over this text
  pub record Reached (r : Reading) (text : List ℕ) (p : ℕ) (rows firsts : List ℕ) : Type 0 where
    pub reading : Reading
    pub moves : Moves factors [] r text [] reading
    pub ready : Ready reading p rows firsts

  -- the line of a rule
  rule_read : (r : Reading) (p row m : ℕ) (rows firsts : List ℕ) (name : List ℕ) (names : List (List ℕ)) → IsWord name
      → place_in shape factors name ≡ Some p → Mean shape factors 0 names firsts → length rows ≡ p
      → p < shape.s + shape.t → 0 < shape.q → shape.q ≤ 9 → row < shape.q ^ length names → length names ≤ m
      → Ready r p rows firsts
      → Reached r (rule_of names name (digits shape.q m row)) (p + 1) (rows ++ row ∷ []) firsts
  rule_read r p row m rows firsts name names w at mean long room some nine below fits h =
      let q = shape.q in
      let left = left_side_read r p rows firsts name w at h in
      let many = as_many shape factors 0 names firsts mean in
      let o = behind_equals shape factors rows firsts some nine 10 refl refl names firsts [] [] m row 0 left.0 mean refl
      tt refl fits in
      let start = at_stage stage.First (bd shape factors rows firsts (zeros (length firsts)) left.0) in
      let end = at_stage (after_rule o.stage) (bd shape factors rows firsts (digits q (length names) row) o.last) in
      let text : List ℕ = product names (digits q m row) ++ codes "\n" in
      let over : Moves factors [] start text [] end =
      subst (λ (k : ℕ). Moves factors [] (at_stage stage.First (bd shape factors rows firsts (zeros k) left.0)) text []
      end)
      many o.moves in
      record {
        reading = end;
        moves = moves_on factors [] [] [] r start end (left_side name) text left.1 over;
        ready = behind_rule o.stage rows firsts (digits q (length names) row) o.last row p long room
            (number-digits q (length names) row some below);
      }

  -- a small number as a word
  pub number_word : (i : ℕ) → 0 < i → i ≤ 10 → IsWord (decimal i)
  number_word i some few = elim (cases_lt i 10) [
    | inl low ↦
        subst IsWord (sym (decimal_digit i low)) (one_digit i some low)
    | inr high ↦ let ten : i ≡ 10 = omega arith in rw ten of_ten
  ]

  same_bytes : (w : List ℕ) → bytes_eq w w ≡ true
  same_bytes w = (bytes_eq-Decides w w).1 refl

  -- the line of a block factor that introduces a run index
  run_factor_read : (r : Reading) (p : ℕ) (rows firsts : List ℕ) (name : List ℕ) → IsWord name
      → place_in shape factors name ≡ Some p → length rows ≡ p
      → p < shape.s + shape.t → shape.s ≤ p → length firsts < shape.m → shape.m ≤ 10 → Ready r p rows firsts
      → Reached r (run_factor_line name (length firsts + 1)) (p + 1) (rows ++ shape.q ^ length firsts ∷ [])
      (firsts ++ p ∷ [])
  run_factor_read r p rows firsts name w at long room block few ten h =
      let i = length firsts + 1 in
      let left = left_side_read r p rows firsts name w at h in
      let b = bd shape factors rows firsts (zeros (length firsts)) left.0 in
      let first = at_stage stage.First b in
      let run = at_stage stage.RunFactor b in
      let number = at_stage stage.RunNumber b in
      let next = bd shape factors (rows ++ shape.q ^ length firsts ∷ []) (firsts ++ length rows ∷ [])
      (zeros (length (firsts ++ length rows ∷ []))) left.0 in
      let end = at_stage stage.Between next in
      let index =
      index_is rows firsts (zeros (length firsts)) left.0 few (omega arith) in
      let same = same_bytes (decimal i) in
      let follows : is_next (decimal i) b ≡ true = rw (lt-ltb _ shape.m few, same) in
      let over =
      moves_on factors [] [] [] first number end (codes "run factor ") (decimal i ++ codes "\n")
      (moves_on factors [] (codes "run") [] first first number (codes "run") (codes " factor ")
      (letters factors (codes "run") first refl)
      (moves_on factors (codes "run") [] [] first run number (codes " ") (codes "factor ")
      (closes factors 114 32 (codes "un") first run run refl refl (rw (le-leb shape.s (length rows) (omega arith)))
      refl)
      (moves_on factors [] (codes "factor") [] run run number (codes "factor") (codes " ")
      (letters factors (codes "factor") run refl)
      (closes factors 102 32 (codes "actor") run number number refl refl refl refl))))
      (moves_on factors [] (decimal i) [] number number end (decimal i) (codes "\n")
      (letters factors (decimal i) number (number_word i (omega arith) (omega arith)).bytes)
      (ended (decimal i) number end (number_word i (omega arith) (omega arith)).some
      (number_word i (omega arith) (omega arith)).formed (rw (follows, index)) refl)) in
      let count : length (rows ++ shape.q ^ length firsts ∷ []) ≡ p + 1 =
      let l = length-append rows (shape.q ^ length firsts ∷ []) in omega arith in
      let zero : p + 1 - length (rows ++ shape.q ^ length firsts ∷ []) ≡ 0 = omega arith in
      record {
        reading = end;
        moves = moves_on factors [] [] [] r first end (left_side name)
            (codes "run factor " ++ (decimal i ++ codes "\n"))
            left.1 over;
        ready = record {
          base = next;
          opens = λ place word w e. (rw e);
          ends = refl;
          shape_is = refl;
          behind = omega arith;
          codes = zeros (length (firsts ++ length rows ∷ []));
          last = left.0;
          filled = cc;
        };
      }
    where
      ended : (word : List ℕ) (r after : Reading) → 0 < length word → is_formed word ≡ true
          → worded_at r.stage factors word r.building ≡ Ok after → signed 10 after ≡ Ok after
          → Moves factors word r (codes "\n") [] after
      ended [] r after some formed e f = absurd (omega arith)
      ended (c ∷ word) r after some formed e f = closes factors c 10 word r after after refl formed e f

  -- these are the subjects from place p on
  abbrev pub From : ℕ → List Subject → Type 0
  From p [] = p ≡ shape.s + shape.t
  From p (x ∷ later) =
      IsWord x.name × (place_in shape factors x.name ≡ Some p) × (x.is_block ≡ nat_le shape.s p) × From (p + 1) later

  -- all lines are read
  pub record Completed (r : Reading) (text rows : List ℕ) : Type 0 where
    pub built : Built
    pub shape_is : built.shape ≡ shape
    pub rows_are : built.rows ≡ rows
    pub read : (at : ℕ) → read_on factors [] at text r ≡ Ok built

  -- what is known of the rows that were read
  pub record Known (p : ℕ) (rows firsts : List ℕ) (names : List (List ℕ)) : Type 0 where
    pub long : length rows ≡ p
    pub few : length firsts ≤ shape.m
    pub mean : Mean shape factors 0 names firsts
    pub less : AllLess p firsts

  pub record Sound : Type 0 where
    pub some : 0 < shape.q
    pub nine : shape.q ≤ 9
    pub ten : shape.m ≤ 10

  pub over_line : (r : Reading) (text more rows all firsts : List ℕ) (p : ℕ) (t : Reached r text p rows firsts)
      → Completed t.reading more all → Completed r (text ++ more) all
  over_line r text more rows all firsts p t c = record {
    built = c.built;
    shape_is = c.shape_is;
    rows_are = c.rows_are;
    read = λ at. (let m = t.moves more at in cc (c.read m.0));
  }

  from_bound : (p : ℕ) (subs : List Subject) → From p subs → p + length subs ≡ shape.s + shape.t
  from_bound p [] h = omega arith
  from_bound p (x ∷ later) h = let e = from_bound (p + 1) later h.3 in omega arith

  strictly : (a b : ℕ) → a ≤ b → (a ≡ b → ⊥) → a < b
  strictly a b low apart = elim (cases_lt a b) [
    | inl less ↦ less
    | inr high ↦ absurd (apart (omega arith))
  ]

  fewer : (n row : ℕ) → 0 < shape.q → row ≡ shape.q ^ n → row < shape.q ^ shape.m → n < shape.m
  fewer n row some unit below = elim (cases_lt n shape.m) [
    | inl less ↦ less
    | inr high ↦
        let more : shape.q ^ shape.m ≤ shape.q ^ n = pow-le-pow_right (omega (arith, some)) high in
        absurd (omega (arith, more, unit, below))
  ]

  -- where no rule follows
  pub at_end : (r : Reading) (p : ℕ) (rows firsts : List ℕ) → p ≡ shape.s + shape.t → Ready r p rows firsts
      → Completed r [] rows
  at_end r p rows firsts from h =
      let b = h.base in
      let end = sym from in
      let same = h.shape_is in
      let filled =
      ap (λ z. with_indexes (z.s + z.t - length b.rows) b) same
      ∙ (ap (λ n. with_indexes (n - length b.rows) b) end ∙ h.filled) in
      let ends = h.ends ∙ filled in
      record {
        built = bd shape factors rows firsts h.codes h.last;
        shape_is = refl;
        rows_are = refl;
        read = λ at. (rw ends refl);
      }

  -- a rule without blanks, and the byte behind it
  pub short_rule_read : (r : Reading) (p row m mark : ℕ) (rows firsts : List ℕ) (name : List ℕ) (names : List (List ℕ))
      → IsWord name → is_name_byte mark ≡ false → is_white mark ≡ true
      → place_in shape factors name ≡ Some p → Mean shape factors 0 names firsts → length rows ≡ p
      → p < shape.s + shape.t → 0 < shape.q → shape.q ≤ 9 → row < shape.q ^ length names → length names ≤ m
      → Ready r p rows firsts
      → Reached r (name ++ (61 ∷ (product names (digits shape.q m row) ++ mark ∷ []))) (p + 1) (rows ++ row ∷ []) firsts
  short_rule_read r p row m mark rows firsts [] names w out white at mean long room some nine below fits h =
      absurd (let k = w.some in omega arith)
  short_rule_read r p row m mark rows firsts (c ∷ name) names w out white at mean long room some nine below fits h =
      let q = shape.q in
      let b = h.base in
      let now = bd shape factors rows firsts (zeros (length firsts)) h.last in
      let low : nat_lt p (length b.rows) ≡ false = (let k = h.behind in le-ltb p (length b.rows) k) in
      let f = h.filled in
      let begins : begun p b ≡ Ok now = rw (low, f) in
      let word : worded_at r.stage factors (c ∷ name) r.building ≡ Ok (at_stage stage.Equals now) =
      cc (h.opens p (c ∷ name) w at, begins) in
      let equals = at_stage stage.Equals now in
      let first = at_stage stage.First now in
      let many = as_many shape factors 0 names firsts mean in
      let o = behind_equals shape factors rows firsts some nine mark out white names firsts [] [] m row 0 h.last mean
      refl tt
      refl fits in
      let end = at_stage (after_rule o.stage) (bd shape factors rows firsts (digits q (length names) row) o.last) in
      let text : List ℕ = product names (digits q m row) ++ mark ∷ [] in
      let over : Moves factors [] first text [] end =
      subst (λ (k : ℕ). Moves factors [] (at_stage stage.First (bd shape factors rows firsts (zeros k) h.last)) text []
      end)
      many o.moves in
      record {
        reading = end;
        moves = moves_on factors [] (c ∷ name) [] r r end (c ∷ name) (61 ∷ text) (letters factors (c ∷ name) r w.bytes)
            (moves_on factors (c ∷ name) [] [] r first end (61 ∷ []) text
            (closes factors c 61 name r equals first refl w.formed word refl)
            over);
        ready = behind_rule o.stage rows firsts (digits q (length names) row) o.last row p long room
            (number-digits q (length names) row some below);
      }

  pub all_read : (s : Sound) (subs : List Subject) (left : List ℕ) (p : ℕ) (rows firsts : List ℕ)
      (names : List (List ℕ)) (r : Reading)
      → From p subs → length left ≡ length subs → AllByRecursion (λ (x : ℕ). x < shape.q ^ shape.m) left
      → IsStepped shape.q (length firsts) left → Known p rows firsts names → Ready r p rows firsts
      → Completed r (rule_lines shape.q shape.m names subs left) (rows ++ left)
  all_read s [] [] p rows firsts names r from count below stepped k h =
      let b = h.base in
      let end : shape.s + shape.t ≡ p = sym from in
      let same = h.shape_is in
      let filled : completed b ≡ Ok (bd shape factors rows firsts h.codes h.last) =
      ap (λ (z : Shape). with_indexes (z.s + z.t - length b.rows) b) same
      ∙ (ap (λ (n : ℕ). with_indexes (n - length b.rows) b) end ∙ h.filled) in
      let ends = h.ends ∙ filled in
      record {
        built = bd shape factors rows firsts h.codes h.last;
        shape_is = refl;
        rows_are = sym (append-nil rows);
        read = λ at. (rw ends refl);
      }
  all_read s [] (row ∷ left) p rows firsts names r from count below stepped k h = absurd (omega (arith, count))
  all_read s (x ∷ later) [] p rows firsts names r from count below stepped k h = absurd (omega (arith, count))
  all_read s (x ∷ later) (row ∷ left) p rows firsts names r from count below stepped k h =
      let q = shape.q in
      let n : ℕ = length firsts in
      let many = as_many shape factors 0 names firsts k.mean in
      let end = from_bound (p + 1) later from.3 in
      let room : p < shape.s + shape.t = omega (arith, end) in
      let long = k.long in
      let join : (rows ++ row ∷ []) ++ left ≡ rows ++ row ∷ left = append_assoc rows (row ∷ []) left in
      let long_more : length (rows ++ row ∷ []) ≡ p + 1 = let l = length-append rows (row ∷ []) in
      omega (arith, l, long) in
      let rest_count : length left ≡ length later = omega (arith, count) in
      elim (cases_Bool (row == q ^ n)) [
        | inl is ↦
            let unit : row ≡ q ^ n = eqb-true row (q ^ n) is in
            let named : (row == q ^ length names) ≡ true = subst (λ (z : ℕ). (row == q ^ z) ≡ true) (sym many) is in
            let few = fewer n row s.some unit below.0 in
            let firsts_more : length (firsts ++ p ∷ []) ≡ n + 1 = let l = length-append firsts (p ∷ []) in
            omega (arith, l) in
            let next_step : IsStepped q (length (firsts ++ p ∷ [])) left =
            subst (λ (z : ℕ). IsStepped q z left) (sym firsts_more)
            (subst (λ (b : Bool). IsStepped q (if b then n + 1 else n) left) is stepped.1) in
            let known : Known (p + 1) (rows ++ row ∷ []) (firsts ++ p ∷ []) (names ++ x.name ∷ []) = record {
              long = long_more;
              few = omega (arith, firsts_more, few);
              mean = mean_snoc shape factors 0 p x.name names firsts (omega arith) k.less from.0 from.1 k.mean;
              less = less_snoc (p + 1) p firsts (omega arith) (less_more p (p + 1) firsts (omega arith) k.less);
            } in
            let later_lines = rule_lines q shape.m (names ++ x.name ∷ []) later left in
            elim (cases_Bool x.is_block) [
              | inl block ↦
                  let behind : shape.s ≤ p = leb-true shape.s p (sym from.2 ∙ block) in
                  let here = run_factor_read r p rows firsts x.name from.0 from.1 long room behind few s.ten h in
                  let ready =
                  subst (λ (z : ℕ). Ready here.reading (p + 1) (rows ++ z ∷ []) (firsts ++ p ∷ [])) (sym unit)
                  here.ready in
                  let reached : Reached r (run_factor_line x.name (n + 1)) (p + 1) (rows ++ row ∷ [])
                  (firsts ++ p ∷ []) =
                  record { reading = here.reading; moves = here.moves; ready = ready } in
                  let rest = all_read s later left (p + 1) (rows ++ row ∷ []) (firsts ++ p ∷ []) (names ++ x.name ∷ [])
                  here.reading from.3 rest_count below.1 next_step known ready in
                  let text : run_factor_line x.name (n + 1) ++ later_lines
                  ≡ rule_lines q shape.m names (x ∷ later) (row ∷ left) =
                  let m = sym many in
                  ap (λ (z : ℕ). run_factor_line x.name (z + 1) ++ later_lines) m ∙ rw (named, block) refl in
                  subst (λ (t : List ℕ). Completed r t (rows ++ row ∷ left)) text
                  (subst (λ (l : List ℕ). Completed r (run_factor_line x.name (n + 1) ++ later_lines) l) join
                  (over_line r (run_factor_line x.name (n + 1)) later_lines (rows ++ row ∷ [])
                  ((rows ++ row ∷ []) ++ left)
                  (firsts ++ p ∷ []) (p + 1) reached rest))
              | inr plain ↦
                  let ready = subst (λ (z : ℕ). Ready r (p + 1) (rows ++ z ∷ []) (firsts ++ p ∷ [])) (sym unit)
                  (unsaid r p rows firsts long few room h) in
                  let rest = all_read s later left (p + 1) (rows ++ row ∷ []) (firsts ++ p ∷ []) (names ++ x.name ∷ [])
                  r from.3 rest_count below.1 next_step known ready in
                  let text : later_lines ≡ rule_lines q shape.m names (x ∷ later) (row ∷ left) =
                  rw (named, plain) refl in
                  subst (λ (t : List ℕ). Completed r t (rows ++ row ∷ left)) text
                  (subst (λ (l : List ℕ). Completed r later_lines l) join rest)
            ]
        | inr other ↦
            let apart = eqb-false row (q ^ n) other in
            let named : (row == q ^ length names) ≡ false =
            subst (λ (z : ℕ). (row == q ^ z) ≡ false) (sym many) other in
            let lower : row < q ^ n = strictly row (q ^ n) stepped.0 apart in
            let low : row < q ^ length names = subst (λ (z : ℕ). row < q ^ z) (sym many) lower in
            let fits : length names ≤ shape.m = let f = k.few in omega (arith, many, f) in
            let here =
            rule_read r p row shape.m rows firsts x.name names from.0 from.1 k.mean long room s.some s.nine low
            fits h in
            let next_step : IsStepped q n left =
            subst (λ (b : Bool). IsStepped q (if b then n + 1 else n) left) other stepped.1 in
            let known : Known (p + 1) (rows ++ row ∷ []) firsts names = record {
              long = long_more;
              few = k.few;
              mean = k.mean;
              less = less_more p (p + 1) firsts (omega arith) k.less;
            } in
            let rest =
            all_read s later left (p + 1) (rows ++ row ∷ []) firsts names here.reading from.3 rest_count below.1
            next_step known here.ready in
            let line = rule_of names x.name (digits q shape.m row) in
            let later_lines = rule_lines q shape.m names later left in
            let text : line ++ later_lines ≡ rule_lines q shape.m names (x ∷ later) (row ∷ left) = rw named refl in
            subst (λ (t : List ℕ). Completed r t (rows ++ row ∷ left)) text
            (subst (λ (l : List ℕ). Completed r (line ++ later_lines) l) join
            (over_line r line later_lines (rows ++ row ∷ []) ((rows ++ row ∷ []) ++ left) firsts (p + 1) here rest))
      ]
