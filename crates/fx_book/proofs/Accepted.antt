-- A whole text that is read as a book is what is written of it.
use Rattle.std.proofs.Common.{◌≡◌, ℕ, ◌+◌, ◌^◌, ◌<◌, ◌≤◌, inl, inr, Bool, true, ◌&&◌, cond, eqb, ltb, leb, List, []}
use Rattle.std.proofs.Common.{◌∷◌, ◌++◌, map, length, Option, Some, None, Result, Ok, Err, refl, sym, ap, ◌∙◌, arith}
use Rattle.std.proofs.Common.{append_assoc}
use Rattle.std.specs.Prelude.{codes, decimal}
use Rattle.std.specs.Option.{is_some}
use Rattle.std.specs.Str.{bytes_eq}
use Rattle.std.proofs.lemmas.Bool.{cond-true, cond-false, cases_Bool, and_parts, or_cases, eqb-true, ltb-true, leb-true}
use Rattle.std.proofs.Math.Nat.{pow-le-pow_right}
use Rattle.fx_designs.specs.Nodes as nodes
use Rattle.fx_vectors.specs.Shape.{IsShape, dimensions_of}
use Rattle.fx_vectors.specs.Effects.{numbers_of}
use Rattle.fx_vectors.specs.declared.shape.Shape.{Shape}
use Rattle.fx_vectors.specs.declared.book.Book.{Book}
use Rattle.fx_vectors.specs.declared.book.Head.{Head}
use Rattle.fx_vectors.specs.declared.question.Demands.{Demands}
use Rattle.fx_vectors.specs.declared.question.Demands.TheVariants.{Resolution, Effects}
use Rattle.fx_vectors.proofs.Limits.{order-bounds, words_fit}
use Rattle.fx_vectors.specs.declared.shape.TheConstants.{MOST_FACTORS, MOST_FACTORS_OF_MANY_LEVELS}
use Rattle.fx_vectors.specs.declared.shape.TheConstants.{MOST_FACTORS_IN_BLOCKS}
use Rattle.fx_book.specs.declared.demands.EffectLists.{EffectLists}
use Rattle.fx_book.specs.declared.fault.BookFault.{BookFault}
use Rattle.fx_book.specs.declared.fault.FaultKind.TheVariants as kind
use Rattle.fx_book.specs.Faults.{fault}
use Rattle.fx_book.specs.declared.version.Version.{Version}
use Rattle.fx_book.specs.declared.version.Version.TheVariants.{First, Second}
use Rattle.fx_book.specs.Versions.{title_of, version_of, most_factors_in}
use Rattle.fx_book.specs.Parts.{split, number_of, numbers_of_parts}
use Rattle.fx_book.specs.Reading.{entries}
use Rattle.fx_book.specs.Demands.{demands_of, resolution_demands, resolution_within, numbered_effects, as_effects}
use Rattle.fx_book.specs.Demands.{after_stroke}
use Rattle.fx_book.specs.Demands.{with_effect, lists_of, may_be_asked, asked_for}
use Rattle.fx_book.specs.Heads.{book_of, is_shape, shape_from, shape_of, may_be_beaten, whole_pattern, beat_from}
use Rattle.fx_book.specs.Heads.{beat_of, with_version, with_head, head_of, from_demands, from_beat}
use Rattle.fx_book.specs.Heads.{with_line}
use Rattle.fx_book.specs.Heads.{with_shape, with_demands, with_beat, with_marks}
use Rattle.fx_book.specs.Writing.{spaced, shape_text, demands_text, beat_text, text_in}
use Rattle.fx_book.proofs.Numerals.{part_is, parts_are}
use Rattle.fx_book.proofs.Texts.{joined, joined_more, join_split, text_of, joined_spaced, joined_lists, same_bytes}
use Rattle.fx_book.proofs.Texts.{entries_are}

abbrev title : List ℕ
title = codes "factex-book 1"

abbrev end : List ℕ
end = codes "END\n"

-- the first line, where something is made of it
pub line_taken : {T : Type 0} (f : BookFault) (make : List ℕ → List (List ℕ) → Result T BookFault)
    (lines : List (List ℕ)) (read : T) → with_line (Err f) make lines ≡ Ok read
    → (line : List ℕ) × (rest : List (List ℕ)) × (lines ≡ line ∷ rest) × (0 < length rest) × (make line rest ≡ Ok read)
line_taken f make [] read h = cc h
line_taken f make (line ∷ []) read h = cc h
line_taken f make (line ∷ next ∷ lines) read h = (line, next ∷ lines, refl, omega arith, h)

-- a line of spaced numbers with its end
pub ended : (word : List ℕ) (ns rest : List ℕ)
    → (word ++ spaced ns) ++ 10 ∷ rest ≡ (word ++ (spaced ns ++ codes "\n")) ++ rest
ended word ns rest =
    cc (
      append_assoc word (spaced ns) (10 ∷ rest),
      append_assoc word (spaced ns ++ codes "\n") rest,
      append_assoc
          (spaced ns) (10 ∷ []) rest,
    )

few_factors : (version : Version) (q s : ℕ) → s ≤ most_factors_in version q
    → (s ≤ MOST_FACTORS) × (3 < q → s ≤ MOST_FACTORS_OF_MANY_LEVELS)
few_factors First q s h = (omega arith, λ many. h)
few_factors Second q s h =
    elim (cases_Bool (leb q 3)) [
      | inl few ↦ let low =
          rw (cond-true _ MOST_FACTORS MOST_FACTORS_OF_MANY_LEVELS few) at h in
          (low, λ many. absurd (let z = leb-true q 3 few in omega arith))
      | inr many ↦ let low =
          rw (cond-false _ MOST_FACTORS MOST_FACTORS_OF_MANY_LEVELS many) at h in
          (omega arith, λ more. low)
    ]

module _ (version : Version) (shape : Shape) where
  shape_taken : (q m s t : Option ℕ) → shape_from version q m s t ≡ Some shape
      → (q ≡ Some shape.q) × (m ≡ Some shape.m) × (s ≡ Some shape.s) × (t ≡ Some shape.t)
      × (is_shape version shape.q shape.m shape.s shape.t ≡ true)
  shape_taken None m s t h = cc h
  shape_taken (Some q) None s t h = cc h
  shape_taken (Some q) (Some m) None t h = cc h
  shape_taken (Some q) (Some m) (Some s) None h = cc h
  shape_taken (Some q) (Some m) (Some s) (Some t) h =
      elim (cases_Bool (is_shape version q m s t)) [
        | inl in' ↦
            let own : Shape = record { q = q; m = m; s = s; t = t } in
            let z = sym (cond-true _ (Some own) None in') ∙ h in
            let e : own ≡ shape = cc z in (
              cc,
              cc,
              cc,
              cc,
              rw (← e) in',
            )
        | inr out ↦ let z =
            sym (cond-false _ (Some (record { q = q; m = m; s = s; t = t })) None out) ∙ h in
            cc z
      ]

  -- the limits of a shape that was read
  pub record AreLimits : Type 0 where
    pub order : 2 ≤ shape.q
    pub q : shape.q ≤ 9
    pub m : shape.m ≤ 10
    pub runs : shape.q ^ shape.m ≤ 1024
    pub s : shape.s ≤ MOST_FACTORS
    pub t : shape.t ≤ 10
    pub rows : shape.s + shape.t ≤ MOST_FACTORS
    pub shaped : IsShape shape

  limits : is_shape version shape.q shape.m shape.s shape.t ≡ true → AreLimits
  limits h =
      let a = and_parts _ _ h in
      let b = and_parts _ _ a.1 in
      let c = and_parts _ _ b.1 in
      let d = and_parts _ _ c.1 in
      let e = and_parts _ _ d.1 in
      let f = and_parts _ _ e.1 in
      let g = and_parts _ _ f.1 in
      let most = few_factors version shape.q shape.s (leb-true _ _ f.0) in
      let s = most.0 in
      let blocks : 0 < shape.t → shape.s ≤ MOST_FACTORS_IN_BLOCKS =
      λ some. elim (or_cases _ _ g.1) [
        | inl none ↦ absurd (let z : shape.t ≡ 0 = eqb-true _ _ none in omega arith)
        | inr few ↦
            leb-true _ _ few
      ] in
      let t : shape.t ≤ 10 = leb-true _ _ g.0 in
      record {
        order = (order-bounds shape.q a.0).0;
        q = (order-bounds shape.q a.0).1;
        m = leb-true _ _ c.0;
        runs = leb-true _ _ d.0;
        s = s;
        t = t;
        rows = elim (or_cases _ _ g.1) [
          | inl none ↦ (let z : shape.t ≡ 0 = eqb-true _ _ none in omega arith)
          | inr few ↦
              (let z : shape.s ≤ MOST_FACTORS_IN_BLOCKS = leb-true _ _ few in omega arith)
        ];
        shaped = record {
          order = a.0;
          some_indexes = leb-true _ _ b.0;
          runs = leb-true _ _ d.0;
          some_factors = leb-true _ _ e.0;
          factors = s;
          factors_of_many_levels = most.1;
          block_factors = t;
          factors_in_blocks = blocks;
        };
      }

  pub shape_is : (parts : List (List ℕ)) → shape_of version parts ≡ Some shape
      → AreLimits × (parts ≡ codes "size" ∷ map decimal (shape.q ∷ shape.m ∷ shape.s ∷ shape.t ∷ []))
  shape_is [] h = cc h
  shape_is (word ∷ []) h = cc h
  shape_is (word ∷ q ∷ []) h = cc h
  shape_is (word ∷ q ∷ m ∷ []) h = cc h
  shape_is (word ∷ q ∷ m ∷ s ∷ []) h = cc h
  shape_is (word ∷ q ∷ m ∷ s ∷ t ∷ []) h =
      elim (cases_Bool (bytes_eq word (codes "size"))) [
        | inl is ↦
            let k = shape_taken (number_of q) (number_of m) (number_of s) (number_of t)
            (sym (cond-true _ _ _ is) ∙ h) in
            let l = limits k.4 in (
              l,
              cc (
                same_bytes word _ is,
                part_is q shape.q k.0 (omega arith),
                part_is m shape.m k.1 (omega arith),
                part_is s shape.s k.2 (omega arith),
                part_is t shape.t k.3 (omega arith),
              ),
            )
        | inr out ↦ let z =
            sym (cond-false _
            (shape_from version (number_of q) (number_of m) (number_of s) (number_of t)) None out) ∙ h in cc z
      ]
  shape_is (word ∷ q ∷ m ∷ s ∷ t ∷ other ∷ others) h = cc h

-- the line of a resolution
resolution_taken : (o : Option ℕ) (asked : Demands) → resolution_within o ≡ Some asked
    → (r : ℕ) × (o ≡ Some r) × (r < 2 ^ 127) × (Resolution r ≡ asked)
resolution_taken None asked h = cc h
resolution_taken (Some r) asked h =
    elim (cases_Bool (leb 3 r && leb r 99)) [
      | inl in' ↦
          let z : Some (Resolution r) ≡ Some asked = sym (cond-true _ _ None in') ∙ h in
          let e : Resolution r ≡ asked = cc z in
          let high : r ≤ 99 = leb-true _ _ (and_parts _ _ in').1 in
          (r, refl, omega arith, e)
      | inr out ↦ let z =
          sym (cond-false _ (Some (Resolution r)) None out) ∙ h in cc z
    ]

resolution_is : (parts : List (List ℕ)) (asked : Demands) (rest : List ℕ) → resolution_demands parts ≡ Some asked
    → joined 32 (codes "resolution" ∷ parts) ++ 10 ∷ rest ≡ demands_text asked ++ rest
resolution_is [] asked rest h = cc h
resolution_is (part ∷ []) asked rest h =
    let k = resolution_taken _ asked h in
    ap (λ p. joined 32 (codes "resolution" ∷ p ∷ []) ++ 10 ∷ rest) (part_is part k.0 k.1 k.2)
    ∙ ap (λ l. l ++ 10 ∷ rest) (joined_spaced (codes "resolution") (k.0 ∷ [])) ∙ ended (codes "resolution") (k.0 ∷ [])
    rest
    ∙ ap (λ d. demands_text d ++ rest) k.3
resolution_is (part ∷ other ∷ others) asked rest h = cc h

pub numbers-effects : (ns : List ℕ) → numbers_of (numbered_effects ns) ≡ ns
numbers-effects [] = refl
numbers-effects (n ∷ ns) = cc (numbers-effects ns)

pub stroke_taken : (o : Option (List ℕ)) (lists : EffectLists) → after_stroke (as_effects o) ≡ Some lists
    → (ns : List ℕ) × (o ≡ Some ns) × (record { estimate = []; nonnegligible = numbered_effects ns } ≡ lists)
stroke_taken None lists h = cc h
stroke_taken (Some ns) lists h = (ns, refl, cc h)

effect_taken : (limit : ℕ) (o : Option ℕ) (r : Option EffectLists) (lists : EffectLists)
    → with_effect limit o r ≡ Some lists
    → (n : ℕ) × (more : EffectLists) × (o ≡ Some n) × (r ≡ Some more) × (n < limit)
    × (record { estimate = record { 0 = n } ∷ more.estimate; nonnegligible = more.nonnegligible } ≡ lists)
effect_taken limit None r lists h = cc h
effect_taken limit (Some n) None lists h = cc h
effect_taken limit (Some n) (Some more) lists h =
    let own : EffectLists =
    record { estimate = record { 0 = n } ∷ more.estimate; nonnegligible = more.nonnegligible } in
    elim (cases_Bool (leb 1 n && ltb n limit)) [
      | inl in' ↦
          let z = sym (cond-true _ (Some own) None in') ∙ h in
          let e : own ≡ lists = cc z in
          (n, more, refl, refl, ltb-true _ _ (and_parts _ _ in').1, e)
      | inr out ↦ let z = sym (cond-false _ (Some own) None out) ∙ h in cc z
    ]

abbrev lists_parts : EffectLists → List (List ℕ)
lists_parts lists = map decimal (numbers_of lists.estimate) ++ codes "/" ∷ map decimal (numbers_of lists.nonnegligible)

lists_are : (limit : ℕ) (parts : List (List ℕ)) (lists : EffectLists) → limit ≤ 2 ^ 127
    → lists_of limit parts ≡ Some lists → parts ≡ lists_parts lists
lists_are limit [] lists top h = cc h
lists_are limit (part ∷ parts) lists top h =
    elim (cases_Bool (bytes_eq part (codes "/"))) [
      | inl is ↦
          let k = stroke_taken (numbers_of_parts 1 limit parts) lists
          (sym (cond-true _ _ _ is) ∙ h) in
          cc (same_bytes part _ is, parts_are 1 limit parts k.0 top k.1, numbers-effects k.0)
      | inr other ↦
          let k = effect_taken limit (number_of part) (lists_of limit parts) lists
          (sym (cond-false _ (after_stroke (as_effects (numbers_of_parts 1 limit parts)))
          _ other) ∙ h) in
          ap (λ p. p ∷ parts) (part_is part k.0 k.2 (omega (arith, k.4))) ∙ ap (λ ps. decimal k.0 ∷ ps)
          (lists_are limit parts k.1 top k.3) ∙ ap lists_parts k.5
    ]

asked_taken : (q : ℕ) (o : Option EffectLists) (asked : Demands) → asked_for q o ≡ Some asked
    → (lists : EffectLists) × (o ≡ Some lists) × (Effects lists.estimate lists.nonnegligible ≡ asked)
asked_taken q None asked h = cc h
asked_taken q (Some lists) asked h =
    elim (cases_Bool (may_be_asked q (numbers_of lists.estimate) (numbers_of lists.nonnegligible))) [
      | inl may ↦
          let z : Some (Effects lists.estimate lists.nonnegligible) ≡ Some asked =
          sym (cond-true _ _ None may) ∙
          h in
          (lists, refl, cc z)
      | inr out ↦
          let z =
          sym (cond-false _
          (Some (Effects lists.estimate lists.nonnegligible)) None out) ∙ h in cc z
    ]

effects_line : (ns ms rest : List ℕ)
    → (codes "effects" ++ (spaced ns ++ (codes " /" ++ spaced ms))) ++ 10 ∷ rest
    ≡ (codes "effects" ++ (spaced ns ++ (codes " /" ++ (spaced ms ++ codes "\n")))) ++ rest
effects_line ns ms rest =
    cc (
      append_assoc (spaced ns) (codes " /" ++ spaced ms) (10 ∷ rest),
      append_assoc (spaced ns)
          (codes " /" ++ (spaced ms ++ codes "\n")) rest,
      append_assoc (spaced ms) (10 ∷ []) rest,
    )

demands_are : (shape : Shape) (parts : List (List ℕ)) (asked : Demands) (rest : List ℕ) → shape.s ≤ MOST_FACTORS
    → demands_of shape parts ≡ Some asked → joined 32 parts ++ 10 ∷ rest ≡ demands_text asked ++ rest
demands_are shape [] asked rest short h = cc h
demands_are shape (word ∷ parts) asked rest short h =
    let effects : Option Demands = asked_for shape.q (lists_of (2 ^ shape.s) parts) in
    elim (cases_Bool (bytes_eq word (codes "resolution"))) [
      | inl is ↦
          cc (
            same_bytes word (codes "resolution") is,
            resolution_is parts asked rest
                (cc (cond-true (bytes_eq word (codes "resolution")) (resolution_demands parts)
                (cond (bytes_eq word (codes "effects")) effects None) is)),
          )
      | inr other ↦
          let h' = sym
          (cond-false (bytes_eq word (codes "resolution")) (resolution_demands parts)
          (cond (bytes_eq word (codes "effects")) effects None) other) ∙ h in
          elim (cases_Bool (bytes_eq word (codes "effects"))) [
            | inl is ↦
                let k = asked_taken shape.q (lists_of (2 ^ shape.s) parts) asked
                (sym (cond-true (bytes_eq word (codes "effects")) effects None is) ∙ h') in
                let top : 2 ^ shape.s ≤ 2 ^ 63 = pow-le-pow_right (omega arith) short in
                ap (λ w. joined 32 (w ∷ parts) ++ 10 ∷ rest) (same_bytes word (codes "effects") is)
                ∙ ap (λ ps. joined 32 (codes "effects" ∷ ps) ++ 10 ∷ rest)
                (lists_are (2 ^ shape.s) parts k.0 (omega arith) k.1)
                ∙ ap (λ l. l ++ 10 ∷ rest)
                (joined_lists (codes "effects") (numbers_of k.0.estimate) (numbers_of k.0.nonnegligible))
                ∙ effects_line (numbers_of k.0.estimate) (numbers_of k.0.nonnegligible) rest
                ∙ ap (λ d. demands_text d ++ rest) k.2
            | inr out ↦ let z =
                sym (cond-false (bytes_eq word (codes "effects")) effects None out) ∙ h' in cc z
          ]
    ]

whole_taken : (s : ℕ) (o : Option (List ℕ)) (beat : Option (List ℕ)) → whole_pattern s o ≡ Some beat
    → (pattern : List ℕ) × (o ≡ Some pattern) × (Some pattern ≡ beat)
whole_taken s None beat h = cc h
whole_taken s (Some pattern) beat h =
    elim (cases_Bool (eqb (length pattern) s)) [
      | inl long ↦
          let z =
          sym (cond-true _ (Some (Some pattern)) None long) ∙ h in
          (pattern, refl, cc z)
      | inr out ↦ let z =
          sym (cond-false _ (Some (Some pattern)) None out) ∙ h in cc z
    ]

pattern_is : (s : ℕ) (allowed : Bool) (parts : List (List ℕ)) (beat : Option (List ℕ))
    → beat_from s allowed parts ≡ Some beat
    → (pattern : List ℕ) × (parts ≡ codes "pattern" ∷ map decimal pattern) × (Some pattern ≡ beat)
pattern_is s allowed [] beat h = cc h
pattern_is s allowed (word ∷ parts) beat h =
    elim (cases_Bool (bytes_eq word (codes "pattern") && allowed)) [
      | inl is ↦
          let k = whole_taken s (numbers_of_parts 0 (2 ^ 127) parts) beat
          (sym (cond-true _ _ None is) ∙ h) in (
            k.0,
            cc (
              same_bytes word (codes "pattern") (and_parts _ _ is).0,
              parts_are 0 (2 ^ 127) parts k.0 (omega arith)
                  k.1,
            ),
            k.2,
          )
      | inr out ↦ let z =
          sym (cond-false _
          (whole_pattern s (numbers_of_parts 0 (2 ^ 127) parts)) None out) ∙ h in cc z
    ]

beat_is : (s : ℕ) (allowed : Bool) (line : List ℕ) (beat : Option (List ℕ)) (rest : List ℕ)
    → beat_of s allowed line ≡ Some beat → line ++ 10 ∷ rest ≡ beat_text beat ++ rest
beat_is s allowed line beat rest h =
    elim (cases_Bool (bytes_eq line (codes "pattern none"))) [
      | inl none ↦
          let z =
          sym (cond-true _ (Some None) (beat_from s allowed (split 32 line))
          none) ∙ h in
          let e : None ≡ beat = cc z in
          cc (same_bytes line _ none)
      | inr other ↦
          let k = pattern_is s allowed _ beat
          (sym (cond-false _ (Some None) (beat_from s allowed (split 32 line))
          other) ∙ h) in
          cc (text_of 32 line _ k.1, joined_spaced (codes "pattern") k.0, ended (codes "pattern") k.0 rest)
    ]

-- the text of lines 2 to 4, and of those after them
module _ (head : Head) (after : List (List ℕ)) where
  pub beat_taken : (shape : Shape) (asked : Demands) (lines : List (List ℕ)) (o : Option (Option (List ℕ)))
      → with_beat shape asked lines o ≡ Ok (head, after)
      → (beat : Option (List ℕ)) × (o ≡ Some beat)
      × (record { question = record { shape = shape; demands = asked; least = is_some beat }; beat = beat } ≡ head)
      × (lines ≡ after)
  beat_taken shape asked lines None h = cc h
  beat_taken shape asked lines (Some beat) h =
      let own : Head =
      record { question = record { shape = shape; demands = asked; least = is_some beat }; beat = beat } in
      let e : (own, lines) ≡ (head, after) = cc h in
      (beat, refl, ap (λ (x : Head × List (List ℕ)). x.0) e, ap (λ (x : Head × List (List ℕ)). x.1) e)

  from_beat_text : (shape : Shape) (asked : Demands) (lines : List (List ℕ))
      → from_beat shape asked lines ≡ Ok (head, after)
      → (head.question.shape ≡ shape) × (head.question.demands ≡ asked)
      × (joined 10 lines ≡ beat_text head.beat ++ joined 10 after)
  from_beat_text shape asked lines h =
      let k = line_taken (fault kind.Pattern 4)
      (λ line rest. with_beat shape asked rest (beat_of shape.s (may_be_beaten shape asked) line)) lines
      (head, after) h in
      let b = beat_taken shape asked k.1 (beat_of shape.s (may_be_beaten shape asked) k.0) k.4 in (
        ap (λ (x : Head). x.question.shape) (sym b.2),
        ap (λ (x : Head). x.question.demands) (sym b.2),
        ap (joined 10) k.2 ∙ joined_more 10 k.0 k.1 k.3 ∙ ap (λ r. k.0 ++ 10 ∷ joined 10 r) b.3
            ∙ beat_is shape.s (may_be_beaten shape asked) k.0 b.0 (joined 10 after) b.1
            ∙ ap (λ (x : Head). beat_text x.beat ++ joined 10 after) b.2,
      )

  pub demands_taken : (shape : Shape) (lines : List (List ℕ)) (o : Option Demands)
      → with_demands shape lines o ≡ Ok (head, after)
      → (asked : Demands) × (o ≡ Some asked) × (from_beat shape asked lines ≡ Ok (head, after))
  demands_taken shape lines None h = cc h
  demands_taken shape lines (Some asked) h = (asked, refl, h)

  from_demands_text : (shape : Shape) (lines : List (List ℕ)) → shape.s ≤ MOST_FACTORS
      → from_demands shape lines ≡ Ok (head, after)
      → (head.question.shape ≡ shape)
      × (joined 10 lines ≡ demands_text head.question.demands ++ (beat_text head.beat ++ joined 10 after))
  from_demands_text shape lines short h =
      let k = line_taken (fault kind.Demands 3)
      (λ line rest. with_demands shape rest (demands_of shape (split 32 line))) lines (head, after) h in
      let d = demands_taken shape k.1 (demands_of shape (split 32 k.0)) k.4 in
      let b = from_beat_text shape d.0 k.1 d.2 in
      let R : List ℕ = beat_text head.beat ++ joined 10 after in (
        b.0,
        ap (joined 10) k.2 ∙ joined_more 10 k.0 k.1 k.3 ∙ ap (λ r. k.0 ++ 10 ∷ r) b.2 ∙ ap (λ line. line ++ 10 ∷ R)
            (sym (join_split 32 k.0))
            ∙ demands_are shape (split 32 k.0) d.0 R short d.1 ∙ ap (λ x. demands_text x ++ R) (sym b.1),
      )

  pub size_taken : (lines : List (List ℕ)) (o : Option Shape) → with_shape lines o ≡ Ok (head, after)
      → (shape : Shape) × (o ≡ Some shape) × (from_demands shape lines ≡ Ok (head, after))
  size_taken lines None h = cc h
  size_taken lines (Some shape) h = (shape, refl, h)

  -- what is read of lines 2 to 4 is what is written of it, and its shape is within the limits
  pub head_text_is : (version : Version) (lines : List (List ℕ)) → head_of version lines ≡ Ok (head, after)
      → (AreLimits version head.question.shape)
      × (joined 10 lines
      ≡ shape_text head.question.shape
      ++ (demands_text head.question.demands ++ (beat_text head.beat ++ joined 10 after)))
  head_text_is version lines h =
      let k = line_taken _ (λ line rest. with_shape rest (shape_of version (split 32 line))) lines
      (head, after) h in
      let s = size_taken k.1 _ k.4 in
      let shape = s.0 in
      let i = shape_is version shape _ s.1 in
      let d = from_demands_text shape k.1 i.0.s s.2 in
      let numbers : List ℕ = shape.q ∷ shape.m ∷ shape.s ∷ shape.t ∷ [] in
      let R = demands_text head.question.demands ++ (beat_text head.beat ++ joined 10 after) in (
        rw d.0 i.0,
        ap (joined 10) k.2 ∙ joined_more 10 k.0 k.1 k.3 ∙ ap (λ r. k.0 ++ 10 ∷ r) d.1
            ∙ ap (λ line. line ++ 10 ∷ R)
            (text_of 32 k.0 (codes "size" ∷ map decimal numbers) i.1 ∙ joined_spaced (codes "size") numbers)
            ∙ ended (codes "size") numbers R ∙ ap (λ x. shape_text x ++ R) (sym d.0),
      )

pub marks_taken : (head : Head) (r : Result (List nodes.Mark) BookFault) (book : Book) → with_marks head r ≡ Ok book
    → (marks : List nodes.Mark) × (r ≡ Ok marks) × (record { head = head; marks = marks } ≡ book)
marks_taken head (Err stop) book h = cc h
marks_taken head (Ok marks) book h = (marks, refl, cc h)

pub head_taken : (version : Version) (r : Result (Head × List (List ℕ)) BookFault) (book : Book)
    → with_head version r ≡ Ok book
    → (lines : List (List ℕ)) × (r ≡ Ok (book.head, lines))
    × (entries version (dimensions_of book.head.question.shape) (is_some book.head.beat) 5 lines ≡ Ok book.marks)
head_taken version (Err stop) book h = cc h
head_taken version (Ok read) book h =
    let head = read.0 in
    let m = marks_taken head _ book h
    in
    let is : head ≡ book.head = cc in (
      read.1,
      ap (λ x. Ok (x, read.1)) is,
      rw (← m.2) m.1,
    )

pub version_taken : (lines : List (List ℕ)) (o : Option Version) (book : Book) → with_version lines o ≡ Ok book
    → (version : Version) × (o ≡ Some version) × (with_head version (head_of version lines) ≡ Ok book)
version_taken lines None book h = cc h
version_taken lines (Some version) book h = (version, refl, h)

title_is : (line : List ℕ) (version : Version) → version_of line ≡ Some version → line ≡ title_of version
title_is line version h =
    elim (cases_Bool (bytes_eq line (codes "factex-book 1"))) [
      | inl one ↦
          let z =
          sym (cond-true _ (Some First)
          (cond (bytes_eq line (codes "factex-book 2")) (Some Second) None) one) ∙ h in
          let e : First ≡ version = cc z in
          cc (same_bytes line _ one)
      | inr other ↦
          let h' = sym
          (cond-false _ (Some First)
          (cond (bytes_eq line (codes "factex-book 2")) (Some Second) None) other) ∙ h in
          elim (cases_Bool (bytes_eq line (codes "factex-book 2"))) [
            | inl two ↦
                let z =
                sym (cond-true _ (Some Second) None two) ∙ h' in
                let e : Second ≡ version = cc z in
                cc (same_bytes line _ two)
            | inr out ↦ let z =
                sym (cond-false _ (Some Second) None out) ∙ h' in cc z
          ]
    ]

pub read_is_written : (text : List ℕ) (book : Book) → book_of text ≡ Ok book
    → (version : Version) × (text ≡ text_in version book)
unfolding book_of
read_is_written text book h =
    elim (cases_Bool (ltb 268435456 (length text))) [
      | inl long ↦ let z = sym (cond-true _ _ _ long) ∙ h in cc z
      | inr short ↦
          let k = line_taken (fault kind.Title 1) (λ line rest. with_version rest (version_of line)) (split 10 text)
          book (sym (cond-false (ltb 268435456 (length text)) _ _ short) ∙ h) in
          let v = version_taken k.1 (version_of k.0) book k.4 in
          let a = head_taken v.0 (head_of v.0 k.1) book v.2 in
          let b = head_text_is book.head a.0 v.0 k.1 a.1 in
          let l = b.0 in
          let shape = book.head.question.shape in
          let rest =
          entries_are v.0 (dimensions_of shape) (is_some book.head.beat) (omega (arith, l.order)) (omega (arith, l.q))
          (omega arith) l.runs (words_fit shape l.shaped _ (omega arith)) 5 a.0 book.marks
          a.2 in (
            v.0,
            cc (join_split 10 text, joined_more 10 k.0 k.1 k.3, title_is k.0 v.0 v.1),
          )
    ]
