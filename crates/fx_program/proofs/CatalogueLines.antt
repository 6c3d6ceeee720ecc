-- The lines of a catalogue, one after another, and what is given for all of them.
use Rattle.std.proofs.Common.{eqb, ℕ, ◌≡◌, ◌<◌, ◌≤◌, ◌+◌, ◌-◌, ◌^◌, Bool, true, false, List, [], ◌∷◌, ◌++◌, map, refl}
use Rattle.std.proofs.Common.{sym, ap, inl, inr, ap₂, subst, ◌∙◌, arith, zero, suc, append_assoc, append-nil, IsTrue}
use Rattle.std.proofs.Common.{Option, Some, None, length}
use Rattle.std.specs.Prelude.{nat_lt, nat_le, if◌then◌else◌, ◌||◌}
use Rattle.std.specs.List.{flat_map, list_all, list_any, range_with_len}
use Rattle.std.proofs.lemmas.Bool.{and_parts, both_ways, cases_Bool, cond-true, cond-false, eqb-true, leb-true}
use Rattle.std.proofs.lemmas.Bool.{or_cases}
use Rattle.std.proofs.Math.Nat.{pow-le-pow_right}
use Rattle.fx_base.specs.Acts.{Event, Piece}
use Rattle.fx_designs.specs.Answers.{answer}
use Rattle.fx_designs.specs.Galois.{is_order}
use Rattle.fx_designs.specs.Nodes.{nodes}
use Rattle.fx_settings.specs.Powers.{greatest}
use Rattle.fx_statements.specs.Valid.{most_factors_of}
use Rattle.fx_vectors.specs.declared.shape.Shape.{Shape}
use Rattle.fx_vectors.specs.Shape.{IsShape}
use Rattle.fx_catalogue.specs.Catalogues.{Entry, catalogue_events, entries, entries_status, entry_at, entry_events}
use Rattle.fx_catalogue.specs.Catalogues.{is_budget, is_nothing, shape_at, up_to}
use Rattle.fx_catalogue.specs.Lines.{line_by, line_of, problem_at}
use Rattle.fx_catalogue.specs.Listing.{head_text}
use Rattle.fx_catalogue.specs.declared.line.Line.{Line}
use Rattle.fx_catalogue.specs.declared.line.Line.TheVariants.{Least, Nothing, Budget}
use Rattle.fx_program.specs.Cataloguing.{HasShapedBook, catalogue_output, entry_output, line_status}
use Rattle.fx_program.specs.CommandLine.{IsCatalogue}
use Rattle.fx_program.specs.Listings.{AreLines, IsListing, in_turn}
use Rattle.fx_program.specs.Output.{Output, message, worse}

-- shapes of the lines
abbrev pub levels : List ℕ
levels = 2 ∷ 3 ∷ 4 ∷ 5 ∷ 7 ∷ 8 ∷ 9 ∷ []

-- what holds at each of some numbers of levels holds at one of them
pub at_order : (levels : List ℕ) (P : ℕ → Bool) (q : ℕ) → list_all P levels ≡ true
    → list_any (λ x. eqb q x) levels ≡ true
    → P q ≡ true
at_order [] P q all among = absurd (both_ways _ refl among)
at_order (x ∷ levels) P q all among =
    let both = and_parts (P x) (list_all P levels) all in
    elim (cases_Bool (eqb q x)) [
      | inl same ↦ subst (λ y. P y ≡ true) (sym (eqb-true q x same)) both.0
      | inr other ↦ at_order levels P q both.1 (ap (λ b. b || list_any (λ x. eqb q x) levels) (sym other) ∙ among)
    ]

most_runs : (q : ℕ) → IsTrue (is_order q) → q ^ greatest q ≤ 1024
most_runs q h = leb-true (q ^ greatest q) 1024 (at_order levels (λ q. nat_le (q ^ greatest q) 1024) q refl h)

pub more_than_one : (q : ℕ) → IsTrue (is_order q) → 1 ≤ q
more_than_one q h = leb-true 1 q (at_order levels (λ q. nat_le 1 q) q refl h)

few_of_many : (q : ℕ) → IsTrue (is_order q) → 3 < q → most_factors_of q false ≤ 40
few_of_many q h many =
    elim (or_cases (nat_le q 3) _ (at_order levels (λ q. nat_le q 3 || nat_le (most_factors_of q false) 40) q refl h)) [
      | inl few ↦ absurd (omega (arith, leb-true q 3 few, many))
      | inr most ↦ leb-true (most_factors_of q false) 40 most
    ]

pub few_factors : (q : ℕ) → IsTrue (is_order q) → most_factors_of q false ≤ 63
few_factors q h =
    leb-true (most_factors_of q false) 63 (at_order levels (λ q. nat_le (most_factors_of q false) 63) q refl h)

-- a shape with so many levels, run indexes and factors
pub shape_within : (q m s : ℕ) → IsTrue (is_order q) → 1 ≤ m → m ≤ greatest q → 1 ≤ s → s ≤ most_factors_of q false
    → IsShape (record { q = q; m = m; s = s; t = 0 })
shape_within q m s known some few any within = record {
  order = known;
  some_indexes = some;
  runs = (let up = pow-le-pow_right {n = q} (more_than_one q known) {i = m} {j = greatest q} few in
      omega (arith, up, most_runs q known));
  some_factors = any;
  factors = omega (arith, within, few_factors q known);
  factors_of_many_levels = λ many. omega (arith, within, few_of_many q known many);
  block_factors = omega arith;
  factors_in_blocks = λ some. absurd (omega (arith, some));
}

module _ {q m most budget : ℕ} (h : IsCatalogue q m most budget) where
  pub line_shape : (s : ℕ) → m < s → s ≤ most → IsShape (shape_at q m s)
  line_shape s more upto =
      shape_within q m s h.order h.some h.runs (omega (arith, more)) (omega (arith, upto, h.factors))

-- the shape of a line's book is that of the line
by_shaped : (shape : Shape) → IsShape shape → (found : Option (List ℕ)) → HasShapedBook (line_by shape found)
by_shaped shape h None = h
by_shaped shape h (Some rows) = h

pub shaped_book : (shape : Shape) (budget : ℕ) → IsShape shape → HasShapedBook (line_of shape budget)
unfolding line_of
shaped_book shape budget h =
    let more : Bool = nat_lt budget (length (nodes (problem_at shape))) in
    let own : Line = line_by shape (answer (problem_at shape)) in
    elim (cases_Bool more) [
      | inl past ↦ subst HasShapedBook (sym (cond-true more Budget own past)) tt
      | inr inside ↦
          subst HasShapedBook (sym (cond-false more Budget own inside)) (by_shaped shape h (answer (problem_at shape)))
    ]

-- the status of a line tells whether it is the last
of_last : (line : Line) → is_nothing line ≡ true → line_status line ≡ 1
of_last (Least matrix pattern nodes book) e = absurd (cc e)
of_last (Nothing nodes book) e = refl
of_last Budget e = absurd (cc e)

of_other : (line : Line) → is_nothing line ≡ false → line_status line ≡ 1 → ⊥
of_other (Least matrix pattern nodes book) e one = omega (arith, one)
of_other (Nothing nodes book) e one = cc e
of_other Budget e one = omega (arith, one)

-- the greatest of the statuses of lines
worse_zero : (a : ℕ) → worse a 0 ≡ a
worse_zero a = grind (arith, worse)

zero_worse : (a : ℕ) → worse 0 a ≡ a
zero_worse a = grind (arith, worse)

worse_assoc : (a b c : ℕ) → worse (worse a b) c ≡ worse a (worse b c)
worse_assoc a b c = grind (arith, worse)

of_first : (line : Line) (b n : Bool)
    → worse (line_status line) (if b then 2 else (if n then 1 else 0))
    ≡ (if is_budget line || b then 2 else (if is_nothing line || n then 1 else 0))
of_first (Least matrix pattern nodes book) true n = refl
of_first (Least matrix pattern nodes book) false true = refl
of_first (Least matrix pattern nodes book) false false = refl
of_first (Nothing nodes book) true n = refl
of_first (Nothing nodes book) false true = refl
of_first (Nothing nodes book) false false = refl
of_first Budget true n = refl
of_first Budget false true = refl
of_first Budget false false = refl

together : (budget : ℕ) (events : List Event) (status : ℕ) (list : List Entry)
    → in_turn events status (map (entry_output budget) list)
    ≡ record { events = events ++ flat_map (entry_events budget) list; status = worse status (entries_status list) }
together budget events status [] =
    ap₂ (λ (l : List Event) (n : ℕ). record { events = l; status = n }) (sym (append-nil events))
    (sym (worse_zero status))
together budget events status (e ∷ list) =
    together budget (events ++ entry_events budget e) (worse status (line_status e.line)) list
    ∙ ap₂ (λ (l : List Event) (n : ℕ). record { events = l; status = n })
    (append_assoc events (entry_events budget e) (flat_map (entry_events budget) list))
    (worse_assoc status (line_status e.line) (entries_status list) ∙ ap (worse status) (of_first e.line _ _))

module _ (q m most budget : ℕ) where
  abbrev IsLine : ℕ → Output → Type 0
  IsLine s given = given ≡ entry_output budget (entry_at q m budget s)

  -- the lines for s factors and more, no more than so many
  abbrev lines_from : ℕ → ℕ → List Entry
  lines_from s n = up_to (λ (e : Entry). is_nothing e.line) (map (entry_at q m budget) (range_with_len s n))

  of_lines : (s n : ℕ) (lines : List Output) → AreLines IsLine s n lines
      → lines ≡ map (entry_output budget) (lines_from s n)
  of_lines s zero lines are = are
  of_lines s (suc n) [] are = absurd are
  of_lines s (suc n) (line ∷ lines) are =
      let own = line_of (shape_at q m s) budget in
      let status = ap (λ (o : Output). o.status) are.0 in
      ap₂ (λ (o : Output) (l : List Output). o ∷ l) are.0
      (elim (cases_Bool (is_nothing own)) [
        | inl last ↦
            are.1.0 (status ∙ of_last own last)
            ∙ sym (ap (map (entry_output budget)) (cond-true (is_nothing own) [] (lines_from (s + 1) n) last))
        | inr other ↦
            of_lines (s + 1) n lines (are.1.1 (λ one. of_other own other (sym status ∙ one)))
            ∙ sym (ap (map (entry_output budget)) (cond-false (is_nothing own) [] (lines_from (s + 1) n) other))
      ])

  -- what is given for a head and such lines is what is given for a catalogue
  pub of_catalogue : (head : List ℕ) → head ≡ head_text q m → (given : Output)
      → IsListing head IsLine (m + 1) most given
      → given ≡ catalogue_output q m most budget
  unfolding entries
  of_catalogue head named given is =
      let count : most + 1 - (m + 1) ≡ most - m = omega arith in
      let lines = of_lines (m + 1) (most + 1 - (m + 1)) is.lines is.are ∙ ap
      (λ n. map (entry_output budget) (lines_from (m + 1) n)) count in
      is.is
      ∙ ap₂ (λ (h : List ℕ) (l : List Output). in_turn [] 0 (message h 0 ∷ l)) named lines
      ∙ together budget (Piece (head_text q m) ∷ []) 0 (entries q m most budget)
      ∙ ap (λ n. record { events = catalogue_events q m most budget; status = n })
      (zero_worse (entries_status (entries q m most budget)))
