-- The text of `make`, step by step, and that it is short.
use Rattle.std.proofs.Common.{ℕ, Bool, true, false, ◌≡◌, ◌≤◌, ◌<◌, ◌+◌, ◌*◌, ◌%◌, List, [], ◌∷◌, ◌++◌, length, refl}
use Rattle.std.proofs.Common.{sym, ap, subst, ◌∙◌, arith, zero, suc, append_assoc}
use Rattle.std.specs.Prelude.{decimal, codes, if◌then◌else◌, ◌==◌}
use Rattle.std.specs.List.{flat_map, range_with_len}
use Rattle.std.proofs.Math.Numerals.{add-one}
use Rattle.std.proofs.lemmas.Fmt.{length-decimal-le}
use Rattle.std.proofs.lemmas.Grind.{flat_map-append}
use Rattle.std.proofs.lemmas.List.{append-nil, length-append, map-id}
use Rattle.std.proofs.lemmas.List.FromFn.{map-range_with_len_more}
use Rattle.fx_base.specs.Writing.{HoldsPart}
use Rattle.fx_base.proofs.Held.{in_first}
use Rattle.fx_program.specs.Making.{made_factors, factors_line, made_levels, made_text, model_line, made_runs}
use Rattle.fx_program.specs.Making.{size_line}
use Rattle.fx_program.specs.Making.{step_text}

-- one text behind another
pub joined : (out text : List ℕ) (whole rest : List ℕ) → whole ≡ out ++ text → whole ++ rest ≡ out ++ (text ++ rest)
joined out text whole rest e = ap (λ (l : List ℕ). l ++ rest) e ∙ append_assoc out text rest

counting : (n : ℕ) → range_with_len 1 (n + 1) ≡ range_with_len 1 n ++ (n + 1) ∷ []
counting n =
    sym (map-id (range_with_len 1 (n + 1)))
    ∙ map-range_with_len_more (λ (k : ℕ). k) 1 n (n + 1) (omega arith)
    ∙ ap (λ (l : List ℕ). l ++ (n + 1) ∷ []) (map-id (range_with_len 1 n))

-- no step
pub no_steps : made_text 0 ≡ []
unfolding made_text
no_steps = refl

-- one step more
pub one_step_more : (n : ℕ) → made_text (n + 1) ≡ made_text n ++ step_text (n + 1)
unfolding made_text
one_step_more n =
    ap (flat_map step_text) (counting n)
    ∙ flat_map-append step_text (range_with_len 1 n) ((n + 1) ∷ [])
    ∙ ap (λ (l : List ℕ). flat_map step_text (range_with_len 1 n) ++ l) (append-nil (step_text (n + 1)))

-- what holds a prefix of the text of some steps holds one of the text of more steps
pub held_by_more : (old new : List ℕ) (i more : ℕ) → HoldsPart old new (made_text i)
    → HoldsPart old new (made_text (i + more))
held_by_more old new i zero h = let same : i ≡ i + 0 = omega arith in
    subst (λ (n : ℕ). HoldsPart old new (made_text n)) same h
held_by_more old new i (suc more) h =
    let same : i + more + 1 ≡ i + suc more = omega arith in
    subst (λ (n : ℕ). HoldsPart old new (made_text n)) same
    (subst (HoldsPart old new) (sym (one_step_more (i + more)))
    (in_first old new (made_text (i + more)) (step_text (i + more + 1)) (held_by_more old new i more h)))

either : (c : Bool) (a b n : ℕ) → a < n → b < n → (if c then a else b) < n
either true a b n first second = first
either false a b n first second = second

model_short : (c : Bool)
    → length (if c then codes "model resolution=max / minabs;\n" else codes "model resolution=max;\n") ≤ 31
model_short true = omega arith
model_short false = omega arith

number_short : (n : ℕ) → n < 100 → length (decimal n) ≤ 2
number_short n few = length-decimal-le 2 n (omega arith) few (omega arith)

factors_line_short : (factors levels : ℕ) → factors < 100 → levels < 100
    → length (codes "factors X1-X" ++ (decimal factors ++ (codes " / nlev=" ++ (decimal levels ++ codes ";\n")))) ≤ 26
factors_line_short factors levels few_factors few_levels =
    omega (
      arith,
      number_short factors few_factors,
      number_short levels few_levels,
      length-append (decimal factors) (codes " / nlev=" ++ (decimal levels ++ codes ";\n")),
      length-append (decimal levels) (codes ";\n"),
    )

size_line_short : (runs : ℕ) → runs < 100 → length (codes "size design=" ++ (decimal runs ++ codes ";\n")) ≤ 16
size_line_short runs few = omega (arith, number_short runs few, length-append (decimal runs) (codes ";\n"))

step_short : (k : ℕ) → length (step_text k) ≤ 150
step_short k =
    let few_levels : made_levels k < 100 = either (k % 3 == 0) 3 2 100 (omega arith) (omega arith) in
    let few_runs : made_runs k < 100 =
    either (k % 3 == 0) 27 (if k % 2 == 0 then 16 else 32) 100 (omega arith)
    (either (k % 2 == 0) 16 32 100 (omega arith) (omega arith)) in
    omega (
      arith,
      factors_line_short (made_factors k) (made_levels k) (omega arith) few_levels,
      size_line_short (made_runs k) few_runs,
      model_short (k % 4 == 0),
      length-append (factors_line k) (size_line k ++ (model_line k ++ codes "run;\n")),
      length-append (size_line k) (model_line k ++ codes "run;\n"),
      length-append (model_line k) (codes "run;\n"),
    )

within : (a b c d n : ℕ) → a ≤ n * 150 → b ≤ 150 → c ≡ a + b → d ≡ c → d ≤ suc n * 150
within a b c d n ha hb hc hd = omega arith

-- the text is short
pub made_text_short : (n : ℕ) → length (made_text n) ≤ n * 150
made_text_short zero = rw no_steps (omega arith)
made_text_short (suc n) =
    let h : length (made_text n) ≤ n * 150 = made_text_short n in
    let more : length (made_text (n + 1)) ≡ length (made_text n) + length (step_text (n + 1)) =
    ap length (one_step_more n) ∙ length-append (made_text n) (step_text (n + 1)) in
    let same : length (made_text (suc n)) ≡ length (made_text (n + 1)) =
    ap (λ (k : ℕ). length (made_text k)) (sym (add-one n)) in
    let short : length (step_text (n + 1)) ≤ 150 = step_short (n + 1) in
    within (length (made_text n)) (length (step_text (n + 1))) (length (made_text (n + 1))) (length (made_text (suc n)))
    n h short more same
