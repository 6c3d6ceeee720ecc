-- The line of one row among the rules of a matrix.
use Rattle.std.proofs.Common.{ℕ, ◌≡◌, ◌<◌, ◌≤◌, ◌+◌, ◌^◌, zero, suc, true, false, List, [], ◌∷◌, ◌++◌, map, length}
use Rattle.std.proofs.Common.{take, drop}
use Rattle.std.proofs.Common.{refl, sym, ap, ◌∙◌, subst, inl, inr, arith, append_assoc, append-nil, drop-cons, take-suc}
use Rattle.std.specs.Prelude.{◌==◌, nat_le, slice_index, slice_index_or}
use Rattle.std.proofs.lemmas.Bool.{cases_Bool, leb-true, leb-false}
use Rattle.std.proofs.lemmas.List.{length-map, length-append, map-append, take-append-drop}
use Rattle.std.specs.List.{range_with_len}
use Rattle.std.proofs.lemmas.List.FromFn.{length-range_with_len}
use Rattle.fx_designs.specs.Galois.{IsField, digits}
use Rattle.fx_designs.specs.Vectors.{IsVector, dot, vectors_of}
use Rattle.fx_designs.specs.Runs.{levels_at}
use Rattle.fx_designs.specs.Problems.{Dimensions, Requirement}
use Rattle.fx_designs.specs.Canonical.{is_canonical}
use Rattle.fx_tree.specs.Introduced.{introduced, introducing}
use Rattle.fx_tree.proofs.RuleLevels.{levels}
use Rattle.fx_tree.proofs.Walks.{canonical-fronts}
use Rattle.fx_alias.specs.Rules.{Subject, block_names, HasItsRule, introduction, row_names, rule_line, rule_lines}
use Rattle.fx_alias.specs.Rules.{rule_of, subjects}
use Rattle.fx_alias.proofs.Subjects.{subjects-from}

-- only the items of the rows count
introducing-front : {A : Type 0} (q j : ℕ) (rows : List ℕ) (xs ys : List A) → length rows ≤ length xs
    → introducing q j rows (xs ++ ys) ≡ introducing q j rows xs
introducing-front q j [] xs ys fits = refl
introducing-front q j (row ∷ rows) [] ys fits = absurd (omega arith)
introducing-front q j (row ∷ rows) (x ∷ xs) ys fits =
    rw (
      introducing-front q (j + 1) rows xs ys (omega arith),
      introducing-front q j rows xs ys (omega arith),
    )

abbrev names : List Subject → List (List ℕ)
names subs = map (λ s. s.name) subs

subject-names : (factors blocks : List (List ℕ)) → names (subjects factors blocks) ≡ factors ++ blocks
subject-names [] [] = refl
subject-names [] (name ∷ blocks) = cc (subject-names [] blocks)
subject-names (name ∷ factors) blocks = cc (subject-names factors blocks)

-- a list of lines has the line of this subject and row, where the rows before it introduce these
record Listed (q m : ℕ) (before : List (List ℕ)) (subject : Subject) (row : ℕ) (lines : List ℕ) : Type 0 where
  pub front : List ℕ
  pub back : List ℕ
  pub is : lines ≡ front ++ (rule_line q m before subject row ++ back)

module _ (q m : ℕ) where
  first : (old : List (List ℕ)) (subject : Subject) (subs : List Subject) (row : ℕ) (rows : List ℕ)
      → Listed q m old subject row (rule_lines q m old (subject ∷ subs) (row ∷ rows))
  first old subject subs row rows = elim (cases_Bool (row == q ^ length old)) [
    | inl is ↦ record {
      front = [];
      back = rule_lines q m (old ++ subject.name ∷ []) subs rows;
      is = rw is;
    }
    | inr other ↦ record { front = []; back = rule_lines q m old subs rows; is = rw other }
  ]

  -- a line is listed with lines before it
  behind : (before : List (List ℕ)) (subject : Subject) (row : ℕ) (own lines : List ℕ)
      → Listed q m before subject row lines → Listed q m before subject row (own ++ lines)
  behind before subject row own lines l = record {
    front = own ++ l.front;
    back = l.back;
    is = ap (λ x. own ++ x) l.is ∙ sym (append_assoc own l.front _);
  }

  listed : (old : List (List ℕ)) (subs later : List Subject) (rows after : List ℕ) (k : ℕ) (subject : Subject) (row : ℕ)
      → drop k subs ≡ subject ∷ later → drop k rows ≡ row ∷ after
      → Listed q m (old ++ introducing q (length old) (take k rows) (names subs)) subject row
      (rule_lines q m old subs rows)
  listed old subs later rows after zero subject row es er =
      rw (append-nil old) (subst (λ x. Listed q m old subject row (rule_lines q m old x rows)) (sym es)
      (subst (λ x. Listed q m old subject row (rule_lines q m old (subject ∷ later) x)) (sym er)
      (first old subject later row after)))
  listed old [] later rows after (suc k) subject row es er = absurd (omega (arith, ap length es))
  listed old (s ∷ subs) later [] after (suc k) subject row es er = absurd (omega (arith, ap length er))
  listed old (s ∷ subs) later (r ∷ rows) after (suc k) subject row es er = elim (cases_Bool (r == q ^ length old)) [
    | inl is ↦
        let new : List (List ℕ) = old ++ s.name ∷ [] in
        let those : new ++ introducing q (length new) (take k rows) (names subs)
        ≡ old ++ (s.name ∷ introducing q (length old + 1) (take k rows) (names subs)) =
        append_assoc old (s.name ∷ []) _
        ∙ ap (λ n. old ++ (s.name ∷ introducing q n (take k rows) (names subs))) (length-append old (s.name ∷ [])) in
        let all = behind _ subject row (introduction s (length old + 1)) _
        (listed new subs later rows after k subject row es er) in
        rw is (rw those at all)
    | inr other ↦
        rw other (behind _ subject row (rule_of old s.name (digits q m r)) _
        (listed old subs later rows after k subject row es er))
  ]

-- where row k introduces no run index, the levels of the rows before it that do give its own
abbrev pub HasItsLevel : Dimensions → List ℕ → ℕ → Type 0
HasItsLevel d rows k = (slice_index rows k == d.q ^ introduced d.q 0 (take k rows)) ≡ false
    → (p : List ℕ) → IsVector d.q d.m p
    → dot d.q (digits d.q d.m (slice_index rows k))
    (introducing d.q 0 (take k rows) (levels_at d.q (vectors_of d.q d.m (take k rows)) p))
    ≡ dot d.q (digits d.q d.m (slice_index rows k)) p

-- such a row has its rule
pub with_level : (d : Dimensions) (factors : List (List ℕ)) (rows : List ℕ) (k : ℕ)
    → length rows ≡ d.s + d.t → length factors ≡ d.s → k < d.s + d.t → HasItsLevel d rows k
    → HasItsRule d factors rows k
with_level d factors rows k long count low own =
    let blocks = block_names d.t in
    let many : length blocks ≡ d.t = length-map (range_with_len 1 d.t) _ ∙ length-range_with_len 1 d.t in
    let subs = subjects factors blocks in
    let row = slice_index rows k in
    let is_block = nat_le d.s k in
    let subject : Subject = record { name = slice_index_or (row_names d factors) k []; is_block = is_block } in
    let at_subject =
    subjects-from factors blocks k is_block (omega arith)
    (λ e. omega (arith, leb-true d.s k e)) (λ e. omega (arith, leb-false d.s k e)) in
    let line = listed d.q d.m [] subs _ rows _ k subject row at_subject (drop-cons rows k 0 (omega arith)) in
    let named : introducing d.q 0 (take k rows) (names subs) ≡ introducing d.q 0 (take k rows) (row_names d factors) =
    cc (subject-names factors blocks) in
    let levels_of : List ℕ → List ℕ → List ℕ = λ l p. levels_at d.q (vectors_of d.q d.m l) p in
    record {
      before = line.front;
      after = line.back;
      printed = cc;
      level = λ none p h.
          let start = take k rows in
          let split : levels_of rows p ≡ levels_of start p ++ levels_of (drop k rows) p =
          cc (
            take-append-drop k rows,
            map-append (digits d.q d.m) start (drop k rows),
            map-append (λ v. dot d.q v p)
                (vectors_of d.q d.m start) (vectors_of d.q d.m (drop k rows)),
          ) in
          let short : length start ≤ length (levels_of start p) =
          omega (
            arith,
            length-map (vectors_of d.q d.m start) (λ v. dot d.q v p),
            length-map start (digits d.q d.m),
          ) in
          cc (introducing-front d.q 0 _ _ (levels_of (drop k rows) p) short, own none p h);
    }

-- each row of a canonical matrix has its rule
pub its_rule : (d : Dimensions) (f : IsField d.q) (wanted : Requirement) (factors : List (List ℕ)) (rows : List ℕ)
    (k : ℕ)
    → is_canonical d wanted rows ≡ true → length rows ≡ d.s + d.t → length factors ≡ d.s → k < d.s + d.t
    → HasItsRule d factors rows k
its_rule d f wanted factors rows k can long count low =
    let row = slice_index rows k in
    let front =
    rw (take-suc rows k 0 (omega arith)) at (canonical-fronts d f wanted (drop (suc k) rows) (take (suc k) rows)
    (rw (take-append-drop (suc k) rows) can)) in
    with_level d factors rows k long count low (λ none p h. levels d f wanted _ row p front none h)
