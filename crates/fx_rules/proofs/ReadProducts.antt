-- The reader over a product as it is printed.
use Rattle.std.proofs.Common.{ℕ, ◌≡◌, ◌<◌, ◌≤◌, ◌+◌, ◌-◌, ◌%◌, ◌/◌, zero, suc, Bool, true, false, List, [], ◌∷◌, ◌++◌}
use Rattle.std.proofs.Common.{length}
use Rattle.std.proofs.Common.{refl, sym, ◌∙◌, subst, arith, inl, inr, append_assoc, length-append}
use Rattle.std.specs.Prelude.{Ok, Option, Some, None, ◌==◌, ◌||◌, not, codes, position, slice_index}
use Rattle.std.specs.Prelude.{slice_set}
use Rattle.std.specs.List.{prefix_len}
use Rattle.std.specs.Str.{bytes_eq}
use Rattle.std.proofs.lemmas.Bool.{cases_Bool, eqb-true, eqb-false, eq-eqb, ne_eqb, le-leb, lt-ltb}
use Rattle.std.proofs.lemmas.Fmt.{decimal_digit}
use Rattle.std.proofs.Math.Nat.{mod-lt}
use Rattle.std.proofs.Math.Seq.{get_or-append_seam, set-append_seam}
use Rattle.fx_lexer.specs.Bytes.{begins_word, is_digit, is_white}
use Rattle.fx_designs.specs.Galois.{digits}
use Rattle.fx_text.specs.Names.{is_same_name}
use Rattle.fx_designs.specs.Vectors.{zeros}
use Rattle.fx_vectors.specs.declared.shape.Shape.{Shape}
use Rattle.fx_components.specs.Products.{remaining, term, terms}
use Rattle.fx_rules.specs.declared.reading.Stage.{Stage}
use Rattle.fx_rules.specs.declared.reading.Stage.TheVariants as stage
use Rattle.fx_rules.specs.declared.reading.Reading.{Reading}
use Rattle.fx_rules.specs.Building.{Built, times}
use Rattle.fx_rules.specs.Naming.{place_in}
use Rattle.fx_rules.specs.Reading.{at_stage, is_formed, is_name_byte, signed, worded_at}
use Rattle.fx_rules.proofs.Moving.{Moves, closes, is_one, letters, moves_on, stays}

-- a word that has no meaning of its own in a listing
pub record IsWord (w : List ℕ) : Type 0 where
  pub some : 0 < length w
  pub bytes : is_one w ≡ true
  pub formed : is_formed w ≡ true
  pub no_zero : bytes_eq w (codes "0") ≡ false
  pub no_none : is_same_name w (codes "none") ≡ false
  pub no_run : is_same_name w (codes "run") ≡ false

-- these names mean these places, which rise from this one on
abbrev pub Mean : Shape → List (List ℕ) → ℕ → List (List ℕ) → List ℕ → Type 0
Mean shape factors low [] [] = Unit {0}
Mean shape factors low [] (place ∷ places) = ⊥
Mean shape factors low (name ∷ names) [] = ⊥
Mean shape factors low (name ∷ names) (place ∷ places) =
    (low ≤ place) × IsWord name × (place_in shape factors name ≡ Some place)
    × Mean shape factors (place + 1) names places

-- each is less
abbrev pub AllLess : ℕ → List ℕ → Type 0
AllLess n [] = Unit {0}
AllLess n (k ∷ ks) = (k < n) × AllLess n ks

pub less_more : (n m : ℕ) (ks : List ℕ) → n ≤ m → AllLess n ks → AllLess m ks
less_more n m [] low h = tt
less_more n m (k ∷ ks) low h = (omega arith, less_more n m ks low h.1)

pub less_snoc : (n k : ℕ) (ks : List ℕ) → k < n → AllLess n ks → AllLess n (ks ++ k ∷ [])
less_snoc n k [] low h = (low, tt)
less_snoc n k (j ∷ ks) low h = (h.0, less_snoc n k ks low h.1)

-- the place behind lesser ones
prefix_behind : (p : ℕ) (pre post : List ℕ) → AllLess p pre
    → prefix_len (λ (f : ℕ). not (f == p)) (pre ++ p ∷ post) ≡ length pre
prefix_behind p [] post h = rw (eq-eqb p p refl)
prefix_behind p (k ∷ pre) post h =
    let other = ne_eqb k p (λ e. omega arith) in
    let rest = prefix_behind p pre post h.1 in
    rw (other, rest) (omega arith)

place_behind : (p : ℕ) (pre post : List ℕ) → AllLess p pre
    → position (λ (f : ℕ). f == p) (pre ++ p ∷ post) ≡ Some (length pre)
place_behind p pre post h =
    let long = length-append pre (p ∷ post) in
    let there =
    lt-ltb (length pre) (length (pre ++ p ∷ post)) (omega arith) in
    rw (prefix_behind p pre post h, there)

abbrev pub stage_of : Bool → Stage
stage_of true = stage.First
stage_of false = stage.Next

abbrev pub after_rule : Option Bool → Stage
after_rule None = stage.Whole
after_rule (Some true) = stage.Powered
after_rule (Some false) = stage.Factor

pub digit_byte : (c : ℕ) → c < 10 → is_digit (48 + c) ≡ true
digit_byte c low =
    let less = le-leb (48 + c) 57 (omega arith) in
    rw (le-leb 48 (48 + c) (omega arith), less)

middle_true : (a b d : Bool) → b ≡ true → ((a || b) || d) ≡ true
middle_true true b d h = refl
middle_true false b d h = rw h

pub digit_name : (b : ℕ) → is_digit b ≡ true → is_name_byte b ≡ true
digit_name b h = middle_true _ _ _ h

right_or : (a b : Bool) → b ≡ true → (a || b) ≡ true
right_or true b h = refl
right_or false b h = h

pub digit_formed : (c : ℕ) → c < 10 → is_formed ((48 + c) ∷ []) ≡ true
digit_formed c low =
    let other =
    ne_eqb (48 + c) 91 (λ e. omega arith) in
    rw other (right_or (begins_word (48 + c)) _ (digit_byte c low))

digit_back : (c : ℕ) → 48 + c - 48 ≡ c
digit_back c = omega arith

module _ (shape : Shape) (factors : List (List ℕ)) (rows firsts : List ℕ) where
  -- what is built, with these codes of the product
  abbrev pub bd : List ℕ → ℕ → Built
  bd codes last = record { shape = shape; rows = rows; firsts = firsts; codes = codes; last = last }

  -- the reader has this word open, which ends with this built
  record Pending (word : List ℕ) (r : Reading) (b : Built) : Type 0 where
    pub powered : Bool
    pub head : ℕ
    pub tail : List ℕ
    pub word_is : word ≡ head ∷ tail
    pub formed : is_formed (head ∷ tail) ≡ true
    pub ends : worded_at r.stage factors (head ∷ tail) r.building ≡ Ok (at_stage (after_rule (Some powered)) b)

  -- a factor that is not yet in the product
  times_is : (p j : ℕ) (codes : List ℕ) (last : ℕ) → position (λ (f : ℕ). f == p) firsts ≡ Some j
      → slice_index codes j ≡ 0 → times p (bd codes last) ≡ Ok (bd (slice_set codes j 1) j)
  times_is p j codes last e h = rw (e, h)

  factor_word : (first : Bool) (name : List ℕ) (p j : ℕ) (codes : List ℕ) (last : ℕ) → IsWord name
      → place_in shape factors name ≡ Some p → position (λ (f : ℕ). f == p) firsts ≡ Some j → slice_index codes j ≡ 0
      → worded_at (stage_of first) factors name (bd codes last)
      ≡ Ok (at_stage stage.Factor (bd (slice_set codes j 1) j))
  factor_word true name p j codes last w at e h =
      let t = times_is p j codes last e h in
      rw (w.no_zero, w.no_run, at, t)
  factor_word false name p j codes last w at e h =
      let t = times_is p j codes last e h in
      rw (at, t)

  power_word : (c j : ℕ) (codes : List ℕ) → 0 < c → c < shape.q → c < 10 → j < length codes
      → worded_at stage.Power factors ((48 + c) ∷ []) (bd codes j)
      ≡ Ok (at_stage stage.Powered (bd (slice_set codes j c) j))
  power_word c j codes some low ten there =
      let back = digit_back c in
      let a = lt-ltb 0 c some in
      let b = lt-ltb c shape.q low in
      let d = lt-ltb j _ there in
      rw (digit_byte c ten, back, a, b, d)

  star : (word : List ℕ) (r : Reading) (b : Built) → Pending word r b
      → Moves factors word r (codes "*") [] (at_stage stage.Next b)
  star word r b p =
      rw p.word_is (closes factors p.head 42 p.tail r _ _ refl
      p.formed p.ends
      (starred p.powered))
    where
      starred : (powered : Bool) → signed 42 (at_stage (after_rule (Some powered)) b) ≡ Ok (at_stage stage.Next b)
      starred true = refl
      starred false = refl

  line_end : (end : ℕ) → is_name_byte end ≡ false → is_white end ≡ true → (word : List ℕ) (r : Reading) (b : Built)
      (p : Pending word r b)
      → Moves factors word r (end ∷ []) [] (at_stage (after_rule (Some p.powered)) b)
  line_end end out white word r b p =
      rw p.word_is (closes factors p.head end p.tail r _
      (at_stage (after_rule (Some p.powered)) b)
      out p.formed p.ends (rw (out, white)))

  -- one more factor of a product, of which the codes `done` are read
  record Term (first : Bool) (name : List ℕ) (done zs : List ℕ) (c last : ℕ) : Type 0 where
    pub word : List ℕ
    pub reading : Reading
    pub moves : Moves factors [] (at_stage (stage_of first) (bd (done ++ 0 ∷ zs) last)) (term name c) word reading
    pub pending : Pending word reading (bd (done ++ c ∷ zs) (length done))

  at_word : (first : Bool) (name : List ℕ) (p : ℕ) (pre post done zs : List ℕ) (last : ℕ) → IsWord name
      → place_in shape factors name ≡ Some p → firsts ≡ pre ++ p ∷ post → AllLess p pre → length pre ≡ length done
      → worded_at (stage_of first) factors name (bd (done ++ 0 ∷ zs) last)
      ≡ Ok (at_stage stage.Factor (bd (done ++ 1 ∷ zs) (length done)))
  at_word first name p pre post done zs last w at e less same =
      let there : position (λ (f : ℕ). f == p) firsts ≡ Some (length done) =
      cc (place_behind p pre post less) in
      cc (factor_word first name p _ _ last w at there (get_or-append_seam done 0 zs 0), set-append_seam done 0 zs 1)

  plain_term : (first : Bool) (name : List ℕ) (done zs : List ℕ) (last : ℕ) → IsWord name
      → worded_at (stage_of first) factors name (bd (done ++ 0 ∷ zs) last)
      ≡ Ok (at_stage stage.Factor (bd (done ++ 1 ∷ zs) (length done)))
      → Term first name done zs 1 last
  plain_term first [] done zs last w e = absurd (let h = w.some in omega arith)
  plain_term first (b ∷ name) done zs last w e = record {
    word = b ∷ name;
    reading = at_stage (stage_of first) (bd (done ++ 0 ∷ zs) last);
    moves = moves_on factors [] (b ∷ name) (b ∷ name) _ _ _ (b ∷ name) []
        (letters factors _ (at_stage (stage_of first) (bd (done ++ 0 ∷ zs) last)) w.bytes)
        (stays factors (b ∷ name) (at_stage (stage_of first) (bd (done ++ 0 ∷ zs) last)));
    pending = record { powered = false; head = b; tail = name; word_is = refl; formed = w.formed; ends = e };
  }

  term_to_power : (first : Bool) (name : List ℕ) (done zs : List ℕ) (c last : ℕ) → IsWord name
      → (c == 1) ≡ false → 0 < c → c < shape.q → c < 10
      → worded_at (stage_of first) factors name (bd (done ++ 0 ∷ zs) last)
      ≡ Ok (at_stage stage.Factor (bd (done ++ 1 ∷ zs) (length done)))
      → Term first name done zs c last
  term_to_power first [] done zs c last w other some low ten e = absurd (let h = w.some in omega arith)
  term_to_power first (b ∷ name) done zs c last w other some low ten e =
      let before = at_stage (stage_of first) (bd (done ++ 0 ∷ zs) last) in
      let power = at_stage stage.Power (bd (done ++ 1 ∷ zs) (length done)) in
      let digit = decimal_digit c ten in
      let over =
      moves_on factors [] (b ∷ name) ((48 + c) ∷ []) before before power (b ∷ name) (codes "^" ++ ((48 + c) ∷ []))
      (letters factors (b ∷ name) before w.bytes)
      (moves_on factors (b ∷ name) [] ((48 + c) ∷ []) before power power (codes "^") ((48 + c) ∷ [])
      (closes factors b 94 name before (at_stage stage.Factor (bd (done ++ 1 ∷ zs) (length done))) power refl w.formed e
      refl)
      (letters factors ((48 + c) ∷ []) power (rw (digit_name (48 + c) (digit_byte c ten))))) in
      let long : length done < length (done ++ 1 ∷ zs) = let h = length-append done (1 ∷ zs) in omega arith in
      let text : (b ∷ name) ++ (codes "^" ++ ((48 + c) ∷ [])) ≡ term (b ∷ name) c = rw (other, digit) in
      record {
        word = (48 + c) ∷ [];
        reading = power;
        moves = subst (λ t. Moves factors [] before t ((48 + c) ∷ []) power) text over;
        pending = record {
          powered = true;
          head = 48 + c;
          tail = [];
          word_is = refl;
          formed = digit_formed c ten;
          ends = cc (power_word c _ _ some low ten long, set-append_seam done 1 zs c);
        };
      }

  -- the reader comes over the rest of a rule's line, of which the codes `done` are read
  pub record Over (word : List ℕ) (r : Reading) (text done : List ℕ) (n c : ℕ) : Type 0 where
    pub stage : Option Bool
    pub last : ℕ
    pub moves : Moves factors word r text []
        (at_stage (after_rule stage) (bd (done ++ digits shape.q n c) last))

  -- behind the product stands this byte
  module _ (some : 0 < shape.q) (nine : shape.q ≤ 9) (mark : ℕ) (out : is_name_byte mark ≡ false)
      (white : is_white mark ≡ true) where
    a_term : (first : Bool) (name : List ℕ) (names : List (List ℕ)) (place : ℕ) (post pre done zs : List ℕ)
        (m c low last : ℕ)
        → Mean shape factors low (name ∷ names) (place ∷ post) → firsts ≡ pre ++ place ∷ post → AllLess low pre
        → length pre ≡ length done → (c % shape.q == 0) ≡ false → Term first name done zs (c % shape.q) last
    a_term first name names place post pre done zs m c low last mean e less same other =
        let code = c % shape.q in
        let below = mod-lt c some in
        let at = at_word first name place pre post done zs last mean.1 mean.2 e
        (less_more low place pre mean.0 less) same in
        elim (cases_Bool (code == 1)) [
          | inl is ↦
              rw (eqb-true code 1 is) (plain_term first name done zs last mean.1 at)
          | inr more ↦
              term_to_power first name done zs code last mean.1 more
              (let no_zero = eqb-false code 0 other in grind (arith, no_zero)) below (omega arith) at
        ]

    behind_star : (names : List (List ℕ)) (post pre done : List ℕ) (m c low last : ℕ) (word : List ℕ) (r : Reading)
        → Mean shape factors low names post → firsts ≡ pre ++ post → AllLess low pre → length pre ≡ length done
        → length names ≤ m → Pending word r (bd (done ++ zeros (length names)) last)
        → Over word r (remaining false (terms names (digits shape.q m c)) ++ (mark ∷ [])) done (length names) c
    behind_star [] [] pre done m c low last word r mean e less same long p =
        record { stage = Some p.powered; last = last; moves = line_end mark out white word r _ p }
    behind_star [] (place ∷ post) pre done m c low last word r mean e less same long p = absurd mean
    behind_star (name ∷ names) [] pre done m c low last word r mean e less same long p = absurd mean
    behind_star (name ∷ names) (place ∷ post) pre done zero c low last word r mean e less same long p =
        absurd (omega arith)
    behind_star (name ∷ names) (place ∷ post) pre done (suc m) c low last word r mean e less same long p =
        let n = length names in
        let code = c % shape.q in
        let rest = terms names (digits shape.q m (c / shape.q)) in
        let more : List ℕ = done ++ code ∷ [] in
        let whole =
        append_assoc done (code ∷ []) (digits shape.q n (c / shape.q)) in
        let split = e ∙ sym (append_assoc pre (place ∷ []) post) in
        let lower =
        less_snoc (place + 1) place pre (omega arith) (less_more low _ pre (omega arith) less) in
        let count : length (pre ++ place ∷ []) ≡ length more =
        let a = length-append pre (place ∷ []) in let b = length-append done (code ∷ []) in omega arith in
        elim (cases_Bool (code == 0)) [
          | inl is ↦
              let at : done ++ zeros (suc n) ≡ more ++ zeros n =
              cc ((eqb-true code 0 is), append_assoc done (code ∷ []) (zeros n)) in
              let now = rw at at p in
              let o = behind_star names post (pre ++ place ∷ []) more m (c / shape.q) (place + 1) last word r mean.3
              split
              lower
              count (omega arith) now in
              let text : remaining false rest ≡ remaining false (terms (name ∷ names) (digits shape.q (suc m) c)) =
              rw is in
              record {
                stage = o.stage;
                last = o.last;
                moves = rw text at (rw whole at o.moves);
              }
          | inr other ↦
              let here = a_term false name names place post pre done (zeros n) m c low last mean e less same other in
              let now = rw (sym (append_assoc done (code ∷ []) (zeros n))) at here.pending in
              let o = behind_star names post (pre ++ place ∷ []) more m (c / shape.q) (place + 1) (length done)
              here.word
              here.reading mean.3 split lower count (omega arith) now in
              let end = at_stage (after_rule o.stage) (bd (more ++ digits shape.q n (c / shape.q)) o.last) in
              let over =
              moves_on factors word [] [] r _ end (codes "*")
              (term name code ++ (remaining false rest ++ (mark ∷ [])))
              (star word r (bd (done ++ 0 ∷ zeros n) last) p)
              (moves_on factors [] here.word [] _ here.reading end (term name code)
              (remaining false rest ++ (mark ∷ []))
              here.moves o.moves) in
              let text : codes "*" ++ (term name code ++ (remaining false rest ++ (mark ∷ [])))
              ≡ remaining false (terms (name ∷ names) (digits shape.q (suc m) c)) ++ (mark ∷ []) =
              rw other (cc (append_assoc (term name code) (remaining false rest) ((mark ∷ [])))) in
              record {
                stage = o.stage;
                last = o.last;
                moves = rw (← text) (subst (λ l. Moves factors word r
                    (codes "*" ++ (term name code ++ (remaining false rest ++ (mark ∷ [])))) []
                    (at_stage (after_rule o.stage) (bd l o.last))) whole over);
              }
        ]

    -- a whole product, behind `=`
    pub behind_equals : (names : List (List ℕ)) (post pre done : List ℕ) (m c low last : ℕ)
        → Mean shape factors low names post → firsts ≡ pre ++ post → AllLess low pre → length pre ≡ length done
        → length names ≤ m
        → Over [] (at_stage stage.First (bd (done ++ zeros (length names)) last))
        (remaining true (terms names (digits shape.q m c)) ++ (mark ∷ [])) done (length names) c
    behind_equals [] [] pre done m c low last mean e less same long =
        let start = at_stage stage.First (bd (done ++ []) last) in
        record {
          stage = None;
          last = last;
          moves = moves_on factors [] _ [] start start _
              (codes "0")
              ((mark ∷ [])) (letters factors (codes "0") start refl)
              (closes factors 48 mark [] start (at_stage stage.Whole (bd (done ++ []) last))
              (at_stage stage.Whole (bd (done ++ []) last)) out refl refl (rw (out, white)));
        }
    behind_equals [] (place ∷ post) pre done m c low last mean e less same long = absurd mean
    behind_equals (name ∷ names) [] pre done m c low last mean e less same long = absurd mean
    behind_equals (name ∷ names) (place ∷ post) pre done zero c low last mean e less same long =
        absurd (omega arith)
    behind_equals (name ∷ names) (place ∷ post) pre done (suc m) c low last mean e less same long =
        let n = length names in
        let code = c % shape.q in
        let rest = terms names (digits shape.q m (c / shape.q)) in
        let more : List ℕ = done ++ code ∷ [] in
        let whole =
        append_assoc done (code ∷ []) (digits shape.q n (c / shape.q)) in
        let split = e ∙ sym (append_assoc pre (place ∷ []) post) in
        let lower =
        less_snoc (place + 1) place pre (omega arith) (less_more low _ pre (omega arith) less) in
        let count : length (pre ++ place ∷ []) ≡ length more =
        let a = length-append pre (place ∷ []) in let b = length-append done (code ∷ []) in omega arith in
        let start = at_stage stage.First (bd (done ++ 0 ∷ zeros n) last) in
        elim (cases_Bool (code == 0)) [
          | inl is ↦
              let at : more ++ zeros n ≡ done ++ zeros (suc n) =
              cc (append_assoc done (code ∷ []) (zeros n), (eqb-true code 0 is)) in
              let o = behind_equals names post (pre ++ place ∷ []) more m (c / shape.q) (place + 1) last mean.3 split
              lower
              count (omega arith) in
              let text : remaining true rest ≡ remaining true (terms (name ∷ names) (digits shape.q (suc m) c)) =
              rw is in
              record {
                stage = o.stage;
                last = o.last;
                moves = rw text at (rw whole at (rw at at o.moves));
              }
          | inr other ↦
              let here = a_term true name names place post pre done (zeros n) m c low last mean e less same other in
              let now = rw (sym (append_assoc done (code ∷ []) (zeros n))) at here.pending in
              let o = behind_star names post _ more m (c / shape.q) _ _ here.word
              here.reading mean.3 split lower count (omega arith) now in
              let end = at_stage (after_rule o.stage) (bd (more ++ digits shape.q n (c / shape.q)) o.last) in
              let over = moves_on factors [] here.word [] start here.reading end (term name code)
              _ here.moves o.moves in
              let text : term name code ++ (remaining false rest ++ (mark ∷ []))
              ≡ remaining true (terms (name ∷ names) (digits shape.q (suc m) c)) ++ (mark ∷ []) =
              rw other (sym (append_assoc (term name code) (remaining false rest) ((mark ∷ [])))) in
              record {
                stage = o.stage;
                last = o.last;
                moves = rw (← text) (subst (λ l. Moves factors [] start
                    (term name code ++ (remaining false rest ++ (mark ∷ []))) []
                    (at_stage (after_rule o.stage) (bd l o.last))) whole over);
              }
        ]
