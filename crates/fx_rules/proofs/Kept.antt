-- What the reader builds can be given by rules.
use Rattle.std.proofs.Common.{ℕ, ◌≡◌, ◌<◌, ◌≤◌, ◌+◌, ◌-◌, ◌^◌, zero, suc, true, false, List, [], ◌∷◌, ◌++◌, length}
use Rattle.std.proofs.Common.{refl, sym, ap, subst, arith, inl, inr, length-append, length-set}
use Rattle.std.specs.Prelude.{Result, Ok, Err, Option, Some, None, IfOk, ◌==◌, ◌&&◌, ◌||◌, nat_lt, slice_index}
use Rattle.std.specs.Prelude.{slice_set}
use Rattle.std.specs.Prelude.{if◌then◌else◌, codes, position}
use Rattle.std.specs.List.{AllByRecursion, list_all}
use Rattle.std.proofs.lemmas.Bool.{and_parts, cases_Bool, eq-eqb, ne_eqb, ltb-true}
use Rattle.std.specs.Str.{bytes_eq}
use Rattle.std.proofs.lemmas.Result.{IfOk-weaker}
use Rattle.fx_lexer.specs.Bytes.{is_digit, is_white}
use Rattle.fx_text.specs.Names.{is_same_name}
use Rattle.fx_designs.specs.Galois.{number}
use Rattle.fx_designs.specs.Vectors.{IsVector, zeros}
use Rattle.fx_laws.proofs.Codes.{number-below}
use Rattle.fx_tree.specs.Introduced.{introduced}
use Rattle.fx_vectors.specs.declared.shape.Shape.{Shape}
use Rattle.fx_vectors.specs.Shape.{IsShape}
use Rattle.fx_vectors.proofs.Limits.{order-bounds}
use Rattle.fx_rules.specs.declared.problem.Problem.{Problem}
use Rattle.fx_rules.specs.declared.problem.RulesFault.{RulesFault}
use Rattle.fx_rules.specs.declared.reading.Stage.{Stage}
use Rattle.fx_rules.specs.declared.reading.Stage.TheVariants as stage
use Rattle.fx_rules.specs.declared.reading.Reading.{Reading}
use Rattle.fx_rules.specs.Building.{Built, and_then, begun, completed, ruled, to_power, with_factor, with_index}
use Rattle.fx_rules.specs.Building.{nothing_built, with_indexes, with_product, with_row}
use Rattle.fx_rules.specs.Reading.{begun_by, goes_on, is_formed}
use Rattle.fx_rules.specs.Reading.{at_stage, ended_at, equals_at, factor_at, first_at, front_at, is_name_byte, is_next}
use Rattle.fx_rules.specs.Reading.{keyword, left_side_at}
use Rattle.fx_rules.specs.Reading.{matrix_in, matrix_of_rules, on_read, placed, power_at, power_in, read_on, run_number}
use Rattle.fx_rules.specs.Reading.{says_run}
use Rattle.fx_rules.specs.Reading.{signed, star_at, stepped, then_at, worded, worded_at}
use Rattle.fx_rules.specs.Laws.{IsOfRules}
use Rattle.fx_rules.specs.Stepped.{IsStepped}
use Rattle.fx_rules.proofs.Bounds.{number_in, unit_below}
use Rattle.fx_rules.proofs.Stepping.{introduced_snoc}

-- one after the other keeps what each keeps
pub in_turn : {A B : Type 0} (P : A → Type 0) (Q : B → Type 0) (x : Result A Problem) (f : A → Result B Problem)
    → IfOk x P → ((a : A) → P a → IfOk (f a) Q) → IfOk (and_then x f) Q
in_turn P Q (Ok a) f h g = g a h
in_turn P Q (Err e) f h g = tt

pub stepped_snoc : (q k : ℕ) (rows : List ℕ) (row : ℕ) → IsStepped q k rows → row ≤ q ^ introduced q k rows
    → IsStepped q k (rows ++ row ∷ [])
stepped_snoc q k [] row h low = (low, tt)
stepped_snoc q k (r ∷ rows) row h low = (h.0, stepped_snoc q (if r == q ^ k then k + 1 else k) rows row h.1 low)

all_snoc : (P : ℕ → Type 0) (rows : List ℕ) (row : ℕ) → AllByRecursion P rows → P row
    → AllByRecursion P (rows ++ row ∷ [])
all_snoc P [] row h p = (p, tt)
all_snoc P (r ∷ rows) row h p = (h.0, all_snoc P rows row h.1 p)

set_code : (q n : ℕ) (v : List ℕ) (j c : ℕ) → c < q → IsVector q n v → IsVector q n (slice_set v j c)
set_code q n v j c low h = record { len = cc (length-set v j c); codes = all_set v j h.codes }
  where
    all_set : (v : List ℕ) (j : ℕ) → AllByRecursion (λ x. x < q) v → AllByRecursion (λ x. x < q) (slice_set v j c)
    all_set [] j h = tt
    all_set (a ∷ v) zero h = (low, h.1)
    all_set (a ∷ v) (suc j) h = (h.0, all_set v j h.1)

-- what holds all the time
pub record IsSound (shape : Shape) (b : Built) : Type 0 where
  pub shape_is : b.shape ≡ shape
  pub below : AllByRecursion (λ r. r < shape.q ^ shape.m) b.rows
  pub long : length b.rows ≤ shape.s + shape.t
  pub stepped : IsStepped shape.q 0 b.rows
  pub count : introduced shape.q 0 b.rows ≡ length b.firsts
  pub few : length b.firsts ≤ shape.m
  pub vector : IsVector shape.q (length b.firsts) b.codes

zeros_vector : (q n : ℕ) → 0 < q → IsVector q n (zeros n)
zeros_vector q zero some = record { len = refl; codes = tt }
zeros_vector q (suc n) some =
    let rest = zeros_vector q n some in
    record { len = (omega arith); codes = (some, rest.codes) }

module _ (shape : Shape) (sh : IsShape shape) where
  abbrev Sound : Built → Type 0
  Sound b = IsSound shape b

  positive : 0 < shape.q
  positive = let b = order-bounds shape.q sh.order in omega arith

  -- one more row
  kept_row : (b : Built) (row : ℕ) (firsts codes : List ℕ) (last : ℕ) → Sound b → row < shape.q ^ shape.m
      → row ≤ shape.q ^ length b.firsts → length firsts ≤ shape.m → IsVector shape.q (length firsts) codes
      → (if row == shape.q ^ length b.firsts then length b.firsts + 1 else length b.firsts) ≡ length firsts
      → IfOk (with_row row (record b { firsts = firsts; codes = codes; last = last })) Sound
  kept_row b row firsts codes last h below low few vector count =
      elim (cases_Bool (nat_lt (length b.rows) (b.shape.s + b.shape.t))) [
        | inl room ↦
            let fits =
            rw h.shape_is at (ltb-true _ _ room) in
            let long : length (b.rows ++ row ∷ []) ≤ shape.s + shape.t =
            let l = length-append b.rows (row ∷ []) in omega arith in
            rw room (record {
              shape_is = h.shape_is;
              below = all_snoc _ b.rows row h.below below;
              long = long;
              stepped = stepped_snoc shape.q 0 b.rows row h.stepped (rw h.count low);
              count = cc (introduced_snoc shape.q 0 b.rows row);
              few = few;
              vector = vector;
            })
        | inr full ↦ rw full tt
      ]

  kept_index : (b : Built) → Sound b → IfOk (with_index b) Sound
  kept_index b h = elim (cases_Bool (nat_lt (length b.firsts) b.shape.m)) [
    | inl room ↦
        let few =
        rw h.shape_is at (ltb-true _ b.shape.m room) in
        let firsts : List ℕ = b.firsts ++ length b.rows ∷ [] in
        let count : length firsts ≡ length b.firsts + 1 =
        let l = length-append b.firsts (length b.rows ∷ []) in omega arith in
        let own : (shape.q ^ length b.firsts == shape.q ^ length b.firsts) ≡ true = eq-eqb _ _ refl in
        let row = kept_row b _ firsts _ b.last h
        (unit_below shape _ sh few) (omega arith) (omega arith)
        (zeros_vector shape.q (length firsts) positive) (rw own (cc)) in
        rw room (subst (λ z. IfOk (with_row (z.q ^ length b.firsts)
        (record b { firsts = firsts; codes = zeros (length firsts) })) Sound) (sym h.shape_is) row)
    | inr full ↦ rw full tt
  ]

  kept_indexes : (n : ℕ) (b : Built) → Sound b → IfOk (with_indexes n b) Sound
  kept_indexes zero b h = h
  kept_indexes (suc n) b h = in_turn Sound Sound _ _ (kept_index b h) (kept_indexes n)

  kept_product : (b : Built) → Sound b → Sound (with_product b)
  kept_product b h = record {
    shape_is = h.shape_is;
    below = h.below;
    long = h.long;
    stepped = h.stepped;
    count = h.count;
    few = h.few;
    vector = zeros_vector shape.q _ positive;
  }

  kept_codes : (b : Built) (codes : List ℕ) (last : ℕ) → Sound b → IsVector shape.q (length b.firsts) codes
      → Sound (record b { codes = codes; last = last })
  kept_codes b codes last h v = record {
    shape_is = h.shape_is;
    below = h.below;
    long = h.long;
    stepped = h.stepped;
    count = h.count;
    few = h.few;
    vector = v;
  }

  kept_ruled : (b : Built) → Sound b → IfOk (ruled b) Sound
  kept_ruled b h =
      let small = number-below shape.q (length b.firsts) b.codes h.vector in
      let n : ℕ = number shape.q b.codes in
      let other : (n == shape.q ^ length b.firsts) ≡ false =
      ne_eqb n (shape.q ^ length b.firsts)
      (λ e. let same = e in omega arith) in
      let row = kept_row b n b.firsts b.codes b.last h (number_in shape (length b.firsts) n sh h.few small)
      (omega arith)
      h.few h.vector (rw other) in
      let back : shape ≡ b.shape = cc in
      subst (λ z. IfOk (with_row (number z.q b.codes) b) Sound) back row

  kept_begun : (p : ℕ) (b : Built) → Sound b → IfOk (begun p b) Sound
  kept_begun p b h = elim (cases_Bool (nat_lt p (length b.rows))) [
    | inl is ↦ rw is tt
    | inr other ↦ rw other (in_turn Sound Sound _ (λ f. Ok (with_product f))
        (kept_indexes (p - length b.rows) b h) (λ f s. kept_product f s))
  ]

  kept_factor : (o : Option ℕ) (b : Built) → Sound b → IfOk (with_factor o b) Sound
  kept_factor None b h = tt
  kept_factor (Some j) b h = elim (cases_Bool (slice_index b.codes j == 0)) [
    | inl is ↦
        rw is (kept_codes b _ j h
        (set_code shape.q _ b.codes j 1 more_than_one h.vector))
    | inr other ↦ rw other tt
  ]
    where
      more_than_one : 1 < shape.q
      more_than_one = let b = order-bounds shape.q sh.order in omega arith

  kept_power : (c : ℕ) (b : Built) → Sound b → IfOk (to_power c b) Sound
  kept_power c b h = elim (cases_Bool (nat_lt 0 c && (nat_lt c b.shape.q && nat_lt b.last (length b.codes)))) [
    | inl is ↦
        let parts = and_parts _ _ is in
        let more = and_parts _ _ parts.1 in
        let low = rw h.shape_is at (ltb-true c b.shape.q more.0) in
        rw is (kept_codes b _ b.last h
        (set_code shape.q _ b.codes b.last c low h.vector))
    | inr other ↦ rw other tt
  ]

  abbrev SoundReading : Reading → Type 0
  SoundReading r = Sound r.building

  kept_at : (next : Stage) (x : Result Built Problem) → IfOk x Sound → IfOk (then_at next x) SoundReading
  kept_at next x h = in_turn Sound SoundReading x (λ b. Ok (at_stage next b)) h (λ b s. s)

  kept_left : (o : Option ℕ) (b : Built) → Sound b → IfOk (left_side_at o b) SoundReading
  kept_left None b h = tt
  kept_left (Some p) b h = kept_at stage.Equals _ (kept_begun p b h)

  kept_front : (o : Option ℕ) (w : List ℕ) (b : Built) → Sound b → IfOk (front_at o w b) SoundReading
  kept_front o w b h = elim (cases_Bool (is_same_name w (codes "none"))) [
    | inl is ↦ rw is h
    | inr other ↦ rw other (kept_left o b h)
  ]

  kept_times : (o : Option ℕ) (b : Built) → Sound b → IfOk (factor_at o b) SoundReading
  kept_times None b h = tt
  kept_times (Some p) b h =
      kept_at stage.Factor _ (kept_factor (position (λ first. first == p) b.firsts) b h)

  kept_first : (o : Option ℕ) (w : List ℕ) (b : Built) → Sound b → IfOk (first_at o w b) SoundReading
  kept_first o w b h = elim (cases_Bool (says_run w b)) [
    | inl is ↦ rw is h
    | inr other ↦ rw other (kept_times o b h)
  ]

  kept_keyword : (expected w : List ℕ) (following : Stage) (b : Built) → Sound b
      → IfOk (keyword expected following w b) SoundReading
  kept_keyword expected w following b h = elim (cases_Bool (is_same_name w expected)) [
    | inl is ↦ rw is h
    | inr other ↦ rw other tt
  ]

  kept_power_word : (w : List ℕ) (b : Built) → Sound b → IfOk (power_in w b) SoundReading
  kept_power_word [] b h = tt
  kept_power_word (c ∷ []) b h = elim (cases_Bool (is_digit c)) [
    | inl is ↦ rw is (kept_at stage.Powered _ (kept_power (c - 48) b h))
    | inr other ↦ rw other tt
  ]
  kept_power_word (c ∷ d ∷ w) b h = tt

  kept_number : (w : List ℕ) (b : Built) → Sound b → IfOk (run_number w b) SoundReading
  kept_number w b h = elim (cases_Bool (is_next w b)) [
    | inl is ↦ rw is (kept_at stage.Between _ (kept_index b h))
    | inr other ↦ elim (cases_Bool (list_all is_digit w)) [
      | inl number ↦ rw (other, number) tt
      | inr none ↦ rw (other, none) tt
    ]
  ]

  kept_next : (o : Option ℕ) (b : Built) → Sound b → IfOk (and_then (ruled b) (left_side_at o)) SoundReading
  kept_next o b h = in_turn Sound SoundReading _ _ (kept_ruled b h) (kept_left o)

  kept_word : (s : Stage) (factors : List (List ℕ)) (w : List ℕ) (b : Built) → Sound b
      → IfOk (worded_at s factors w b) SoundReading
  kept_word stage.Head factors w b h = kept_keyword (codes "rules") w stage.Front b h
  kept_word stage.Front factors w b h = kept_front _ w b h
  kept_word stage.Between factors w b h = kept_left _ b h
  kept_word stage.Equals factors w b h = tt
  kept_word stage.First factors w b h = elim (cases_Bool (bytes_eq w (codes "0"))) [
    | inl is ↦ rw is h
    | inr other ↦ rw other (kept_first _ w b h)
  ]
  kept_word stage.Factor factors w b h = kept_next _ b h
  kept_word stage.Next factors w b h = kept_times _ b h
  kept_word stage.Power factors w b h = kept_power_word w b h
  kept_word stage.Powered factors w b h = kept_next _ b h
  kept_word stage.Whole factors w b h = kept_next _ b h
  kept_word stage.RunFactor factors w b h = kept_keyword (codes "factor") w stage.RunNumber b h
  kept_word stage.RunNumber factors w b h = kept_number w b h
  kept_word stage.Nothing factors w b h = tt

  kept_equals : (s : Stage) (b : Built) → Sound b → IfOk (equals_at s b) SoundReading
  kept_equals stage.Equals b h = h
  kept_equals _ b h = tt

  kept_star : (s : Stage) (b : Built) → Sound b → IfOk (star_at s b) SoundReading
  kept_star stage.Factor b h = h
  kept_star stage.Powered b h = h
  kept_star _ b h = tt

  kept_hat : (s : Stage) (b : Built) → Sound b → IfOk (power_at s b) SoundReading
  kept_hat stage.Factor b h = h
  kept_hat _ b h = tt

  kept_sign : (c : ℕ) (r : Reading) → SoundReading r → IfOk (signed c r) SoundReading
  kept_sign c r h = elim (cases_Bool (is_name_byte c || is_white c)) [
    | inl is ↦ rw is h
    | inr a ↦ elim (cases_Bool (c == 61)) [
      | inl is ↦ rw (a, is) (kept_equals r.stage r.building h)
      | inr b ↦ elim (cases_Bool (c == 42)) [
        | inl is ↦ rw (a, b, is) (kept_star r.stage r.building h)
        | inr d ↦ elim (cases_Bool (c == 94)) [
          | inl is ↦ rw (a, b, d, is) (kept_hat r.stage r.building h)
          | inr e ↦ rw (a, b, d, e) tt
        ]
      ]
    ]
  ]

  -- how many rows there are more
  longer_row : (b : Built) (row : ℕ) (firsts codes : List ℕ) (last : ℕ)
      → IfOk (with_row row (record b { firsts = firsts; codes = codes; last = last }))
      (λ c. length c.rows ≡ length b.rows + 1)
  longer_row b row firsts codes last = elim (cases_Bool (nat_lt (length b.rows) (b.shape.s + b.shape.t))) [
    | inl room ↦ rw room (let l = length-append b.rows (row ∷ []) in omega arith)
    | inr full ↦ rw full tt
  ]

  longer_index : (b : Built) → IfOk (with_index b) (λ c. length c.rows ≡ length b.rows + 1)
  longer_index b = elim (cases_Bool (nat_lt (length b.firsts) b.shape.m)) [
    | inl room ↦ rw room (longer_row b _ _
        _ b.last)
    | inr full ↦ rw full tt
  ]

  longer_indexes : (n : ℕ) (b : Built) → IfOk (with_indexes n b) (λ c. length c.rows ≡ length b.rows + n)
  longer_indexes zero b = omega arith
  longer_indexes (suc n) b =
      in_turn (λ (c : Built). length c.rows ≡ length b.rows + 1) (λ (c : Built). length c.rows ≡ length b.rows + suc n)
      (with_index b) (with_indexes n) (longer_index b) (λ c e. IfOk-weaker (with_indexes n c) _ _
      (λ d k. let g : length d.rows ≡ length c.rows + n = k in omega (arith, e, g)) (longer_indexes n c))

  record IsWhole (b : Built) : Type 0 where
    pub sound : Sound b
    pub whole : length b.rows ≡ shape.s + shape.t

  both : {A : Type 0} (x : Result A Problem) (P Q : A → Type 0) → IfOk x P → IfOk x Q → IfOk x (λ a. P a × Q a)
  both (Ok a) P Q h k = (h, k)
  both (Err e) P Q h k = tt

  kept_completed : (b : Built) → Sound b → IfOk (completed b) IsWhole
  kept_completed b h =
      let n = b.shape.s + b.shape.t - length b.rows in
      let all : length b.rows + n ≡ shape.s + shape.t =
      let e = ap (λ z. z.s + z.t - length b.rows) h.shape_is in omega arith in
      IfOk-weaker _ _ IsWhole (λ c k. record { sound = k.0; whole = cc })
      (both _ Sound _ (kept_indexes n b h)
      (longer_indexes n b))

  kept_end : (s : Stage) (b : Built) → Sound b → IfOk (ended_at s b) IsWhole
  kept_end stage.Front b h = kept_completed b h
  kept_end stage.Between b h = kept_completed b h
  kept_end stage.Nothing b h = kept_completed b h
  kept_end stage.Factor b h = in_turn Sound IsWhole _ completed (kept_ruled b h) kept_completed
  kept_end stage.Powered b h = in_turn Sound IsWhole _ completed (kept_ruled b h) kept_completed
  kept_end stage.Whole b h = in_turn Sound IsWhole _ completed (kept_ruled b h) kept_completed
  kept_end _ b h = tt

  kept_placed : {A : Type 0} (P : A → Type 0) (at : ℕ) (x : Result A Problem) → IfOk x P → IfOk (placed at x) P
  kept_placed P at (Ok a) h = h
  kept_placed P at (Err e) h = tt

  read_in_turn : {A B : Type 0} (P : A → Type 0) (Q : B → Type 0) (x : Result A RulesFault)
      (f : A → Result B RulesFault)
      → IfOk x P → ((a : A) → P a → IfOk (f a) Q) → IfOk (on_read x f) Q
  read_in_turn P Q (Ok a) f h g = g a h
  read_in_turn P Q (Err e) f h g = tt

  kept_worded : (factors : List (List ℕ)) (w : List ℕ) (at : ℕ) (r : Reading) → SoundReading r
      → IfOk (worded factors w at r) SoundReading
  kept_worded factors [] at r h = h
  kept_worded factors (c ∷ w) at r h =
      kept_placed SoundReading _ _
      (elim (cases_Bool (is_formed (c ∷ w))) [
        | inl is ↦ rw is (kept_word r.stage factors _ r.building h)
        | inr other ↦ rw other tt
      ])

  kept_text : (factors : List (List ℕ)) (text w : List ℕ) (at : ℕ) (r : Reading) → SoundReading r
      → IfOk (read_on factors w at text r) IsWhole
  kept_text factors [] w at r h =
      read_in_turn SoundReading IsWhole _ (λ last. placed at (ended_at last.stage last.building))
      (kept_worded factors w at r h)
      (λ last s. kept_placed IsWhole at _ (kept_end last.stage last.building s))
  kept_text factors (b ∷ text) w at r h = elim (cases_Bool (goes_on w b)) [
    | inl is ↦ rw is (kept_text factors text (w ++ b ∷ []) (at + 1) r h)
    | inr other ↦
        rw other (read_in_turn SoundReading IsWhole _ _
        (read_in_turn SoundReading SoundReading _ (λ next. placed at (signed b next))
        (kept_worded factors w at r h)
        (λ next s. kept_placed SoundReading at _ (kept_sign b next s)))
        (λ next s. kept_text factors text (begun_by b) (at + 1) next s))
  ]

  of_whole : (x : Result Built RulesFault) → IfOk x IsWhole → IfOk (matrix_in x) (IsOfRules shape)
  of_whole (Ok b) h = record {
    shape_is = h.sound.shape_is;
    given = record {
      matrix = record { shaped = sh; len = h.sound.long; below = h.sound.below };
      whole = h.whole;
      stepped = h.sound.stepped;
    };
  }
  of_whole (Err e) h = tt

  pub read_is_given : (factors : List (List ℕ)) (text : List ℕ)
      → IfOk (matrix_of_rules shape factors text) (IsOfRules shape)
  unfolding matrix_of_rules
  read_is_given factors text =
      of_whole _
      (kept_text factors text [] 0 (at_stage stage.Head (nothing_built shape)) (record {
        shape_is = refl;
        below = tt;
        long = omega arith;
        stepped = tt;
        count = refl;
        few = omega arith;
        vector = record { len = refl; codes = tt };
      }))
