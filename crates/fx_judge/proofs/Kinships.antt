-- Counts of pairs of values tell whether two components are aliased or orthogonal.
use Rattle.std.proofs.Common.{ℕ, zero, suc, ◌≡◌, ◌<◌, ◌≤◌, ◌+◌, ◌-◌, ◌*◌, Bool, true, false, cond, ◌&&◌, eqb, List, []}
use Rattle.std.proofs.Common.{◌∷◌, length, map, get_or, refl, sym, subst, ◌∙◌, ap₂, arith, inl, inr}
use Rattle.std.specs.Prelude.{count_by}
use Rattle.std.specs.Bool.{Decides}
use Rattle.std.specs.List.{list_all, range_with_len, AllByRecursion}
use Rattle.std.proofs.lemmas.Bool.{cases_eq, eq-eqb, eqb-true, and_parts, and_from, false_from_ne_true, cond-true}
use Rattle.std.proofs.lemmas.Bool.{cond-false}
use Rattle.std.proofs.lemmas.List.Sums.{sum_by-cons, get_or-le-sum_by}
use Rattle.std.proofs.lemmas.List.{get_or-map, length-map}
use Rattle.std.proofs.lemmas.List.Folds.{list_any_at}
use Rattle.std.proofs.lemmas.List.FromFn.{length-range_with_len, get_or-range_with_len}
use Rattle.std.proofs.lemmas.List.Elements.{All-get_or, All-from_get_or}
use Rattle.fx_designs.specs.Galois.{IsField, add, mul, neg, codes_of}
use Rattle.fx_designs.specs.Vectors.{dot, minus, scale}
use Rattle.fx_designs.specs.Runs.{count_of, is_constant}
use Rattle.fx_designs.specs.Aliases.{is_aliased}
use Rattle.fx_laws.proofs.Linear.{dot_code, dot-plus, dot-scale}
use Rattle.fx_laws.proofs.Constant.{constant_decides}
use Rattle.fx_laws.proofs.Tests.{bool_same, range_decides, some_item}
use Rattle.fx_laws.proofs.Sums.{sum_by_map, sum_by-ext}
use Rattle.fx_judge.specs.Tallies.{AreValueCounts, AreExpected, HasLine}
use Rattle.fx_judge.specs.Kinships.{are_orthogonal, kinship, joint_count}
use Rattle.fx_judge.specs.declared.kinship.Kinship.TheVariants.{Aliased, Orthogonal, Partial}

-- two numbers are told from 9 times the one and the other, which is below 9
same_pair : (x y a b : ℕ) → y < 9 → b < 9 → eqb (9 * x + y) (9 * a + b) ≡ (eqb x a && eqb y b)
same_pair x y a b hy hb =
    bool_same _ _
    (λ e. let n = eqb-true _ _ e in
    and_from _ _ (eq-eqb x a (omega arith)) (eq-eqb y b (omega arith)))
    (λ e. let parts = and_parts _ _ e in
    eq-eqb _ _ (omega (arith, eqb-true x a parts.0, eqb-true y b parts.1)))

-- an item that passes is counted
pub counted_once : {X : Type 0} (p : X → Bool) (xs : List X) (i : ℕ) (d : X) → i < length xs → p (get_or xs i d) ≡ true
    → 1 ≤ count_by p xs
counted_once p xs i d h e =
    subst (λ n. n ≤ count_by p xs) (cond-true (p (get_or xs i d)) 1 0 e)
    (get_or-le-sum_by (λ x. cond (p x) 1 0) xs i d h)

-- where none passes
pub counted_never : {X : Type 0} (p : X → Bool) (xs : List X)
    → ((i : ℕ) (d : X) → i < length xs → p (get_or xs i d) ≡ false) → count_by p xs ≡ 0
counted_never p [] h = refl
counted_never p (x ∷ xs) h =
    let miss = cond-false (p x) 1 0 (h 0 x (omega arith)) in
    let rest = counted_never p xs (λ i d l. h (suc i) d (omega arith)) in
    sum_by-cons (λ x. cond (p x) 1 0) x xs ∙ ap₂ (λ (a b : ℕ). a + b) miss rest

module _ (q : ℕ) (f : IsField q) where
  pub less : (y : ℕ) → y < q → add q y (mul q (neg q 1) y) ≡ 0
  less y h =
      cc (f.mul_one y h, f.mul_comm (neg q 1) y, f.distributes y 1 (neg q 1), f.add_neg 1, f.mul_zero y)

  -- what is added and taken off again
  pub cancelled : (k y : ℕ) → k < q → y < q → add q (add q k y) (mul q (neg q 1) y) ≡ k
  cancelled k y hk hy = cc (f.add_assoc k y (mul q (neg q 1) y), less y hy, f.add_zero k hk)

  pub back : (a y k : ℕ) → a < q → y < q → add q a (mul q (neg q 1) y) ≡ k → a ≡ add q k y
  back a y k ha hy e =
      sym (cc (f.add_assoc a (mul q (neg q 1) y) y, f.add_comm (mul q (neg q 1) y) y, less y hy, f.add_zero a ha))

  -- the value of u - c v
  pub dot-minus : (u v : List ℕ) (c : ℕ) (x : List ℕ)
      → dot q (minus q u (scale q c v)) x ≡ add q (dot q u x) (mul q (neg q 1) (mul q c (dot q v x)))
  dot-minus u v c x =
      cc (
        dot-plus q f u (scale q (neg q 1) (scale q c v)) x,
        dot-scale q f (neg q 1) (scale q c v) x,
        dot-scale q f c v x,
      )

  range_codes : (a n : ℕ) → 0 < a → a + n ≤ q → AllByRecursion (λ c. (0 < c) × (c < q)) (range_with_len a n)
  range_codes a zero h k = tt
  range_codes a (suc n) h k = ((h, omega arith), range_codes (a + 1) n (omega arith) (omega arith))

  -- how often a value comes
  value_is : (rows : List (List ℕ)) (w counts : List ℕ) → q ≤ 9 → AreValueCounts 9 (map (λ x. dot q w x) rows) counts
      → (a : ℕ) → a < q → get_or counts a 0 ≡ count_of q w a rows
  value_is rows w counts small told a h =
      told.each a (omega arith) ∙ sum_by_map (λ z. cond (eqb z a) 1 0) (dot q w) rows

  module _ (small : q ≤ 9) (rows : List (List ℕ)) (u v pairs : List ℕ)
      (told : AreValueCounts 81 (map (λ x. 9 * dot q u x + dot q v x) rows) pairs) where
    abbrev both : List ℕ → ℕ
    both x = 9 * dot q u x + dot q v x

    abbrev off : ℕ → List ℕ
    off c = minus q u (scale q c v)

    pair_is : (a b : ℕ) → a < q → b < q → get_or pairs (9 * a + b) 0 ≡ joint_count q rows u v a b
    pair_is a b ha hb =
        cc (
          told.each (9 * a + b) (omega arith),
          sum_by_map (λ z. cond (eqb z (9 * a + b)) 1 0) both rows,
          sum_by-ext
              (λ x. cond (eqb (both x) (9 * a + b)) 1 0) (λ x. cond (eqb (dot q u x) a && eqb (dot q v x) b) 1 0)
              rows
              (λ x. cc (same_pair (dot q u x) (dot q v x) a b (omega (arith, dot_code q f v x)) (omega arith))),
        )

    -- orthogonal, by the counts
    pub orthogonal_decides : (runs : ℕ) (left right : List ℕ) → length rows ≡ runs
        → AreValueCounts 9 (map (λ x. dot q u x) rows) left → AreValueCounts 9 (map (λ x. dot q v x) rows) right
        → Decides (are_orthogonal q rows u v) (AreExpected q runs left right pairs)
    unfolding are_orthogonal
    orthogonal_decides runs left right len l r =
        let at : ℕ → ℕ → Bool =
        λ a b. eqb (length rows * joint_count q rows u v a b) (count_of q u a rows * count_of q v b rows) in
        let outer = range_decides (λ a. list_all (at a) (codes_of q)) q in (
          λ e. record {
            each = λ a b ha hb.
                cc (
                  pair_is a b ha hb,
                  eqb-true _ _ ((range_decides (at a) q).0 (outer.0 e a ha) b hb),
                  value_is rows u left small l a ha,
                  value_is rows v right small r b hb,
                );
          },
          λ h. outer.1 (λ a ha. (range_decides (at a) q).1 (λ b hb. eq-eqb _ _
              (ap₂ (λ x y. x * y) len (sym (pair_is a b ha hb)) ∙ h.each a b ha hb ∙ ap₂ (λ x y. x * y)
              (value_is rows u left small l a ha) (value_is rows v right small r b hb)))),
        )

    -- all pairs of values on one line
    on_line : (h : HasLine q pairs) (i : ℕ) → i < length rows → dot q (off h.factor) (get_or rows i []) ≡ h.constant
    on_line h i low =
        let x = get_or rows i [] in
        let y = mul q h.factor (dot q v x) in
        elim (cases_eq (dot q u x) (add q h.constant y)) [
          | inl e ↦ cc (dot-minus u v h.factor x, cancelled h.constant y h.value (f.mul_code h.factor (dot q v x)))
          | inr ne ↦
              let none =
              h.line.none (dot q u x) (dot q v x) (dot_code q f u x) (dot_code q f v x) ne in
              let some =
              counted_once (λ z. eqb z (both x)) _ i 0 (rw (length-map rows both) low)
              (eq-eqb _ _ (get_or-map both rows i [] 0 low)) in
              absurd (omega (arith, told.each (both x) (omega (arith, dot_code q f u x, dot_code q f v x))))
        ]

    -- aliased, by the counts
    pub aliased_decides : 1 ≤ length rows → Decides (is_aliased q rows u v) (HasLine q pairs)
    unfolding is_aliased
    aliased_decides some =
        let test : ℕ → Bool = λ c. is_constant q (off c) rows in (
          λ e.
              let found =
              some_item test _ _
              (range_codes 1 (q - 1) (omega arith) (omega arith)) e in
              let con = (constant_decides q f (off found.0) rows).0 found.2 in
              let value : (x : List ℕ) (i : ℕ) → i < length rows → get_or rows i x ≡ x → dot q (off found.0) x ≡ con.0 =
              λ x i low is. rw is at (All-get_or (λ x. dot q (off found.0) x ≡ con.0) rows i x low con.1) in
              record {
                factor = found.0;
                constant = con.0;
                nonzero = found.1.0;
                code = found.1.1;
                value = rw (All-get_or (λ x. dot q (off found.0) x ≡ con.0) rows 0 [] some con.1) at
                    (dot_code q f (off found.0)
                    (get_or rows 0 []));
                line = record {
                  none = λ a b ha hb ne.
                      pair_is a b ha hb
                      ∙ counted_never (λ x. eqb (dot q u x) a && eqb (dot q v x) b) rows
                      (λ i d low. false_from_ne_true _ (λ t.
                      let x = get_or rows i d in
                      let parts = and_parts (eqb (dot q u x) a) (eqb (dot q v x) b) t in
                      let is = All-get_or (λ x. dot q (off found.0) x ≡ con.0) rows i d low con.1 in
                      let off_is =
                      back (dot q u x) (mul q found.0 (dot q v x)) con.0 (dot_code q f u x)
                      (f.mul_code found.0 (dot q v x))
                      (sym (dot-minus u v found.0 x) ∙ is) in
                      ne (cc (eqb-true _ _ parts.0, eqb-true _ _ parts.1))));
                };
              },
          λ h.
              list_any_at test (range_with_len 1 (q - 1)) (h.factor - 1) 0
              (omega (arith, length-range_with_len 1 (q - 1)))
              (subst (λ c. test c ≡ true)
              (sym (get_or-range_with_len 1 (q - 1) (h.factor - 1) 0 (omega arith) ∙ omega
              arith))
              ((constant_decides q f (off h.factor) rows).1
              (h.constant, All-from_get_or (λ x. dot q (off h.factor) x ≡ h.constant) rows [] (on_line h)))),
        )

    pub kinship_aliased : 1 ≤ length rows → HasLine q pairs → Aliased ≡ kinship q rows u v
    kinship_aliased some h =
        sym (cond-true (is_aliased q rows u v) Aliased (cond (are_orthogonal q rows u v) Orthogonal Partial)
        ((aliased_decides some).1 h))

    not_aliased : 1 ≤ length rows → (HasLine q pairs → ⊥)
        → kinship q rows u v ≡ cond (are_orthogonal q rows u v) Orthogonal Partial
    not_aliased some none =
        cond-false _ Aliased _
        (false_from_ne_true _ (λ e. none ((aliased_decides some).0 e)))

    pub kinship_orthogonal : 1 ≤ length rows → (HasLine q pairs → ⊥) → are_orthogonal q rows u v ≡ true
        → Orthogonal ≡ kinship q rows u v
    kinship_orthogonal some none e =
        cc (not_aliased some none, cond-true _ Orthogonal Partial e)

    pub kinship_partial : 1 ≤ length rows → (HasLine q pairs → ⊥) → (are_orthogonal q rows u v ≡ true → ⊥)
        → Partial ≡ kinship q rows u v
    kinship_partial some none e =
        cc (not_aliased some none, cond-false (are_orthogonal q rows u v) Orthogonal Partial (false_from_ne_true _ e))
