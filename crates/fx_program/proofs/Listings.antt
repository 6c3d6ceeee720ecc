-- Lists of lines, and how they go on.
use Rattle.std.proofs.Common.{ℕ, zero, suc, ◌≡◌, ◌<◌, ◌≤◌, ◌+◌, ◌-◌, List, [], ◌∷◌, ◌++◌, refl, sym, ap, subst}
use Rattle.std.proofs.Common.{arith}
use Rattle.std.proofs.Common.{append_assoc, inl, inr, ◌⊎◌, Ok, Err, Result}
use Rattle.std.specs.Prelude.{IsErrAnd}
use Rattle.fx_program.specs.declared.stop.Stop.{Stop}
use Rattle.fx_program.specs.Listings.{AreLines, in_turn}
use Rattle.fx_program.specs.Output.{Output, message, worse}
use Rattle.fx_program.specs.Outside.{Ends, Outside}
use Rattle.fx_program.proofs.Stages.{StagesSoFar, before_stages, one_more_stage, stopped_in_stage}

-- a line has no design, or has one
either : (status : ℕ) → (status ≡ 1) ⊎ (status ≡ 1 → ⊥)
either zero = inr (λ e. omega (arith, e))
either (suc zero) = inl refl
either (suc (suc n)) = inr (λ e. omega (arith, e))

-- such lines, and those behind a line
pub record SomeLines (IsLine : ℕ → Output → Type 0) (n most : ℕ) : Type 0 where
  pub lines : List Output
  pub are : AreLines IsLine n most lines

pub record Behind (IsLine : ℕ → Output → Type 0) (n most : ℕ) (line : Output) : Type 0 where
  pub lines : List Output
  pub are : AreLines IsLine n (suc most) (line ∷ lines)

-- these lines, of which each has a design, are those before n
pub record ListedSoFar (IsLine : ℕ → Output → Type 0) (first last n : ℕ) (done : List Output) : Type 0 where
  pub go_on : (later : List Output) → AreLines IsLine n (last + 1 - n) later
      → AreLines IsLine first (last + 1 - first) (done ++ later)

module _ {IsLine : ℕ → Output → Type 0} where
  behind : (n most : ℕ) (line : Output) → IsLine n line → SomeLines IsLine (n + 1) most → Behind IsLine n most line
  behind n most line is later = elim (either line.status) [
    | inl one ↦ record { lines = []; are = (is, (λ e. refl, λ other. absurd (other one))) }
    | inr other ↦ record { lines = later.lines; are = (is, (λ one. absurd (other one), λ e. later.are)) }
  ]

  -- where something may be given for each number, there are lines
  module _ {IsNumber : ℕ → Type 0} (some : (n : ℕ) → IsNumber n → Output)
      (some_line : (n : ℕ) (is : IsNumber n) → IsLine n (some n is)) where
    pub some_lines : (n most : ℕ) → ((k : ℕ) → n ≤ k → k < n + most → IsNumber k) → SomeLines IsLine n most
    some_lines n zero numbers = record { lines = []; are = refl }
    some_lines n (suc most) numbers =
        let is = numbers n (omega arith) (omega arith) in
        let later =
        some_lines (n + 1) most (λ k from upto. numbers k (omega (arith, from)) (omega (arith, upto))) in
        let others = behind n most (some n is) (some_line n is) later in
        record { lines = some n is ∷ others.lines; are = others.are }

    pub some_behind : (n last : ℕ) (line : Output) → IsLine n line → n ≤ last
        → ((k : ℕ) → n ≤ k → k ≤ last → IsNumber k)
        → Behind IsLine n (last - n) line
    some_behind n last line is upto numbers =
        behind n (last - n) line is
        (some_lines (n + 1) (last - n)
        (λ k from below. numbers k (omega (arith, from)) (omega (arith, below, upto))))

  pub none_listed : (first last : ℕ) → ListedSoFar IsLine first last first []
  none_listed first last = record { go_on = λ later are. are }

  module _ {first last n : ℕ} {done : List Output} (so_far : ListedSoFar IsLine first last n done) where
    pub all_listed : last < n → AreLines IsLine first (last + 1 - first) (done ++ [])
    all_listed past =
        let none : 0 ≡ last + 1 - n = omega (arith, past) in
        so_far.go_on [] (subst (λ most. AreLines IsLine n most []) none refl)

    module _ (line : Output) (upto : n ≤ last) where
      pub with_behind : (others : Behind IsLine n (last - n) line)
          → AreLines IsLine first (last + 1 - first) (done ++ line ∷ others.lines)
      with_behind others =
          let one_more : suc (last - n) ≡ last + 1 - n = omega (arith, upto) in
          so_far.go_on (line ∷ others.lines)
          (subst (λ most. AreLines IsLine n most (line ∷ others.lines)) one_more others.are)

      pub last_listed : IsLine n line → line.status ≡ 1
          → AreLines IsLine first (last + 1 - first) (done ++ line ∷ [])
      last_listed is one =
          with_behind (record { lines = []; are = (is, (λ e. refl, λ other. absurd (other one))) })

      pub one_line_more : IsLine n line → (line.status ≡ 1 → ⊥)
          → ListedSoFar IsLine first last (n + 1) (done ++ line ∷ [])
      one_line_more is other = record {
        go_on = λ later are.
            let same : last + 1 - (n + 1) ≡ last - n = omega arith in
            subst (AreLines IsLine first (last + 1 - first)) (sym (append_assoc done (line ∷ []) later))
            (with_behind (record {
              lines = later;
              are = (
                is,
                (
                  λ one. absurd (other one),
                  λ e. subst (λ most. AreLines IsLine (n + 1) most later) same are,
                ),
              );
            }));
      }

-- what is given for a head and lines
module _ (head : List ℕ) where
  abbrev pub listing : List Output → Output
  listing lines = in_turn [] 0 (message head 0 ∷ lines)

  pub stopped_in_head : (lines : List Output) {old now : Outside} (why : Stop) → Ends (message head 0) old now (Err why)
      → (ended : Result ℕ Stop) → IsErrAnd ended (λ e. e ≡ why)
      → Ends (listing lines) old now ended
  stopped_in_head lines {old} why ends ended h =
      stopped_in_stage (before_stages old (message head 0 ∷ lines)) refl why ends ended h

  -- the head and these lines are given, whatever comes then
  pub record GivenSoFar (old now : Outside) (status : ℕ) (done : List Output) : Type 0 where
    pub go_on : (later : List Output) → StagesSoFar old now (listing (done ++ later)) status later

  pub head_given : {old now : Outside} {ended : ℕ} → Ends (message head 0) old now (Ok ended)
      → GivenSoFar old now 0 []
  head_given {old} ends = record {
    go_on = λ later.
        one_more_stage (before_stages old (message head 0 ∷ later)) refl ends
        (sym (ap (worse 0) (ends.gives.same ends.low)));
  }

  pub line_given : {old mid now : Outside} {status ended later : ℕ} {done : List Output} (line : Output)
      → GivenSoFar old mid status done
      → Ends line mid now (Ok ended)
      → later ≡ worse status ended
      → GivenSoFar old now later (done ++ line ∷ [])
  line_given {old} {mid} {now} {status} {ended} {later} {done} line given ends greater = record {
    go_on = λ lines.
        subst (λ l. StagesSoFar old now (listing l) later lines) (sym (append_assoc done (line ∷ []) lines))
        (one_more_stage (given.go_on (line ∷ lines)) refl ends greater);
  }
