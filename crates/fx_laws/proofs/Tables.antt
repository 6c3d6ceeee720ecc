-- The laws of the seven fields, each computed over its whole table.
use Rattle.std.proofs.Common.{ℕ, ◌≡◌, ◌<◌, ◌%◌, Bool, true, eqb, ltb, cond, refl, sym, arith, zero-add, length, subst}
use Rattle.std.proofs.Common.{inl, inr}
use Rattle.std.specs.Prelude.{IsTrue}
use Rattle.std.specs.List.{range_with_len, list_all}
use Rattle.std.proofs.lemmas.Bool.{eqb-true, cases_eq}
use borrow.Author.Tests.{ltb-true}
use Rattle.std.proofs.lemmas.Bool.Decides.{nat_tests}
use Rattle.std.proofs.lemmas.List.Sums.{AllPass-from_list_all}
use Rattle.std.proofs.lemmas.List.FromFn.{length-range_with_len, get_or-range_with_len}
use Rattle.std.proofs.Math.Nat.{mod-mod, mod-lt}
use Rattle.fx_designs.specs.Galois.{add, mul, neg, inv, IsField, prime_of, degree_of, reduction_of, is_order}

abbrev pub all_below : ℕ → (ℕ → Bool) → Bool
all_below n p = list_all p (range_with_len 0 n)

all_below-at : (n : ℕ) (p : ℕ → Bool) (k : ℕ) → k < n → all_below n p ≡ true → p k ≡ true
all_below-at n p k below all =
    let there : k < length (range_with_len 0 n) = simp length-range_with_len below in
    rw (get_or-range_with_len 0 n k 0 below, zero-add k) at (AllPass-from_list_all p (range_with_len 0 n) all k 0 there)

-- an operation reads its arguments modulo q
add-mod : (q a b : ℕ) → add q a b ≡ add q (a % q) (b % q)
unfolding add
add-mod q a b = simp mod-mod

mul-mod : (q a b : ℕ) → mul q a b ≡ mul q (a % q) (b % q)
unfolding mul
mul-mod q a b = simp mod-mod

neg-mod : (q a : ℕ) → neg q a ≡ neg q (a % q)
unfolding neg
neg-mod q a = simp mod-mod

inv-mod : (q a : ℕ) → inv q a ≡ inv q (a % q)
unfolding inv mul
inv-mod q a = simp mod-mod

abbrev pub all_pairs : ℕ → (ℕ → ℕ → Bool) → Bool
all_pairs q p = all_below q (λ a. all_below q (λ b. p a b))

abbrev pub all_triples : ℕ → (ℕ → ℕ → ℕ → Bool) → Bool
all_triples q p = all_below q (λ a. all_pairs q (λ b c. p a b c))

pub record IsTable (q : ℕ) : Type 0 where
  pub more_than_one : ltb 1 q ≡ true
  pub add_code : all_pairs q (λ a b. ltb (add q a b) q) ≡ true
  pub mul_code : all_pairs q (λ a b. ltb (mul q a b) q) ≡ true
  pub neg_code : all_below q (λ a. ltb (neg q a) q) ≡ true
  pub inv_code : all_below q (λ a. ltb (inv q a) q) ≡ true
  pub add_comm : all_pairs q (λ a b. eqb (add q a b) (add q b a)) ≡ true
  pub add_assoc : all_triples q (λ a b c. eqb (add q (add q a b) c) (add q a (add q b c))) ≡ true
  pub mul_comm : all_pairs q (λ a b. eqb (mul q a b) (mul q b a)) ≡ true
  pub mul_assoc : all_triples q (λ a b c. eqb (mul q (mul q a b) c) (mul q a (mul q b c))) ≡ true
  pub distributes : all_triples q (λ a b c. eqb (mul q a (add q b c)) (add q (mul q a b) (mul q a c))) ≡ true
  pub add_zero : all_below q (λ a. eqb (add q a 0) a) ≡ true
  pub mul_zero : all_below q (λ a. eqb (mul q a 0) 0) ≡ true
  pub mul_one : all_below q (λ a. eqb (mul q a 1) a) ≡ true
  pub add_neg : all_below q (λ a. eqb (add q a (neg q a)) 0) ≡ true
  pub mul_inv : all_below q (λ a. cond (eqb a 0) true (eqb (mul q a (inv q a)) 1)) ≡ true

pub table_2 : IsTable 2
unfolding add mul neg inv prime_of degree_of reduction_of
table_2 = record {
  more_than_one = refl;
  add_code = refl;
  mul_code = refl;
  neg_code = refl;
  inv_code = refl;
  add_comm = refl;
  add_assoc = refl;
  mul_comm = refl;
  mul_assoc = refl;
  distributes = refl;
  add_zero = refl;
  mul_zero = refl;
  mul_one = refl;
  add_neg = refl;
  mul_inv = refl;
}

pub table_3 : IsTable 3
unfolding add mul neg inv prime_of degree_of reduction_of
table_3 = record {
  more_than_one = refl;
  add_code = refl;
  mul_code = refl;
  neg_code = refl;
  inv_code = refl;
  add_comm = refl;
  add_assoc = refl;
  mul_comm = refl;
  mul_assoc = refl;
  distributes = refl;
  add_zero = refl;
  mul_zero = refl;
  mul_one = refl;
  add_neg = refl;
  mul_inv = refl;
}

pub table_4 : IsTable 4
unfolding add mul neg inv prime_of degree_of reduction_of
table_4 = record {
  more_than_one = refl;
  add_code = refl;
  mul_code = refl;
  neg_code = refl;
  inv_code = refl;
  add_comm = refl;
  add_assoc = refl;
  mul_comm = refl;
  mul_assoc = refl;
  distributes = refl;
  add_zero = refl;
  mul_zero = refl;
  mul_one = refl;
  add_neg = refl;
  mul_inv = refl;
}

pub table_5 : IsTable 5
unfolding add mul neg inv prime_of degree_of reduction_of
table_5 = record {
  more_than_one = refl;
  add_code = refl;
  mul_code = refl;
  neg_code = refl;
  inv_code = refl;
  add_comm = refl;
  add_assoc = refl;
  mul_comm = refl;
  mul_assoc = refl;
  distributes = refl;
  add_zero = refl;
  mul_zero = refl;
  mul_one = refl;
  add_neg = refl;
  mul_inv = refl;
}

pub table_7 : IsTable 7
unfolding add mul neg inv prime_of degree_of reduction_of
table_7 = record {
  more_than_one = refl;
  add_code = refl;
  mul_code = refl;
  neg_code = refl;
  inv_code = refl;
  add_comm = refl;
  add_assoc = refl;
  mul_comm = refl;
  mul_assoc = refl;
  distributes = refl;
  add_zero = refl;
  mul_zero = refl;
  mul_one = refl;
  add_neg = refl;
  mul_inv = refl;
}

pub table_8 : IsTable 8
unfolding add mul neg inv prime_of degree_of reduction_of
table_8 = record {
  more_than_one = refl;
  add_code = refl;
  mul_code = refl;
  neg_code = refl;
  inv_code = refl;
  add_comm = refl;
  add_assoc = refl;
  mul_comm = refl;
  mul_assoc = refl;
  distributes = refl;
  add_zero = refl;
  mul_zero = refl;
  mul_one = refl;
  add_neg = refl;
  mul_inv = refl;
}

pub table_9 : IsTable 9
unfolding add mul neg inv prime_of degree_of reduction_of
table_9 = record {
  more_than_one = refl;
  add_code = refl;
  mul_code = refl;
  neg_code = refl;
  inv_code = refl;
  add_comm = refl;
  add_assoc = refl;
  mul_comm = refl;
  mul_assoc = refl;
  distributes = refl;
  add_zero = refl;
  mul_zero = refl;
  mul_one = refl;
  add_neg = refl;
  mul_inv = refl;
}

at_pair : (q : ℕ) (p : ℕ → ℕ → Bool) (a b : ℕ) → a < q → b < q → all_pairs q p ≡ true → p a b ≡ true
at_pair q p a b ha hb all = all_below-at q (λ y. p a y) b hb (all_below-at q (λ x. all_below q (λ y. p x y)) a ha all)

at_triple : (q : ℕ) (p : ℕ → ℕ → ℕ → Bool) (a b c : ℕ) → a < q → b < q → c < q → all_triples q p ≡ true → p a b c ≡ true
at_triple q p a b c ha hb hc all =
    at_pair q (p a) b c hb hc (all_below-at q (λ x. all_pairs q (λ y z. p x y z)) a ha all)

add-left : (q a b : ℕ) → add q a b ≡ add q (a % q) b
unfolding add
add-left q a b = simp mod-mod

add-right : (q a b : ℕ) → add q a b ≡ add q a (b % q)
unfolding add
add-right q a b = simp mod-mod

mul-left : (q a b : ℕ) → mul q a b ≡ mul q (a % q) b
unfolding mul
mul-left q a b = simp mod-mod

mul-right : (q a b : ℕ) → mul q a b ≡ mul q a (b % q)
unfolding mul
mul-right q a b = simp mod-mod

-- the laws at all numbers from those at the codes
pub field_from_table : (q : ℕ) → IsTable q → IsField q
field_from_table q t =
    let big : 1 < q = ltb-true 1 q t.more_than_one in
    let code : (x : ℕ) → x % q < q = λ x. mod-lt x (omega arith) in
    record {
      more_than_one = big;
      add_code =
          λ a b. rw (add-mod q a b)
          (ltb-true _ _ (at_pair q (λ a b. ltb (add q a b) q) (a % q) (b % q) (code a) (code b) t.add_code));
      mul_code =
          λ a b. rw (mul-mod q a b)
          (ltb-true _ _ (at_pair q (λ a b. ltb (mul q a b) q) (a % q) (b % q) (code a) (code b) t.mul_code));
      neg_code =
          λ a. rw (neg-mod q a) (ltb-true _ _ (all_below-at q (λ a. ltb (neg q a) q) (a % q) (code a) t.neg_code));
      inv_code =
          λ a. rw (inv-mod q a) (ltb-true _ _ (all_below-at q (λ a. ltb (inv q a) q) (a % q) (code a) t.inv_code));
      add_comm =
          λ a b. rw (add-mod q a b, add-mod q b a)
          (eqb-true _ _
          (at_pair q (λ a b. eqb (add q a b) (add q b a)) (a % q) (b % q) (code a) (code b) t.add_comm));
      add_assoc = λ a b c.
          rw (add-right q (add q a b) c, add-mod q a b, add-left q a (add q b c), add-mod q b c)
          (eqb-true _ _
          (at_triple q (λ a b c. eqb (add q (add q a b) c) (add q a (add q b c))) (a % q) (b % q) (c % q) (code a)
          (code b) (code c) t.add_assoc));
      mul_comm =
          λ a b. rw (mul-mod q a b, mul-mod q b a)
          (eqb-true _ _
          (at_pair q (λ a b. eqb (mul q a b) (mul q b a)) (a % q) (b % q) (code a) (code b) t.mul_comm));
      mul_assoc = λ a b c.
          rw (mul-right q (mul q a b) c, mul-mod q a b, mul-left q a (mul q b c), mul-mod q b c)
          (eqb-true _ _
          (at_triple q (λ a b c. eqb (mul q (mul q a b) c) (mul q a (mul q b c))) (a % q) (b % q) (c % q) (code a)
          (code b) (code c) t.mul_assoc));
      distributes = λ a b c.
          rw (mul-left q a (add q b c), add-mod q b c, mul-mod q a b, mul-mod q a c)
          (eqb-true _ _
          (at_triple q (λ a b c. eqb (mul q a (add q b c)) (add q (mul q a b) (mul q a c))) (a % q) (b % q) (c % q)
          (code a) (code b) (code c) t.distributes));
      add_zero = λ a h. eqb-true _ _ (all_below-at q (λ a. eqb (add q a 0) a) a h t.add_zero);
      mul_zero =
          λ a. rw (mul-left q a 0) (eqb-true _ _ (all_below-at q (λ a. eqb (mul q a 0) 0) (a % q) (code a) t.mul_zero));
      mul_one = λ a h. eqb-true _ _ (all_below-at q (λ a. eqb (mul q a 1) a) a h t.mul_one);
      add_neg = λ a.
          rw (add-left q a (neg q a), neg-mod q a)
          (eqb-true _ _ (all_below-at q (λ a. eqb (add q a (neg q a)) 0) (a % q) (code a) t.add_neg));
      mul_inv = λ a some h.
          let e : cond (eqb a 0) true (eqb (mul q a (inv q a)) 1) ≡ true =
          all_below-at q (λ a. cond (eqb a 0) true (eqb (mul q a (inv q a)) 1)) a h t.mul_inv in
          grind (arith, nat_tests);
    }

-- a known order is that of a field
pub is_order-field : (q : ℕ) → IsTrue (is_order q) → IsField q
is_order-field q known =
    elim (cases_eq q 2) [
      | inl e ↦ subst IsField (sym e) (field_from_table 2 table_2)
      | inr n2 ↦
          elim (cases_eq q 3) [
            | inl e ↦ subst IsField (sym e) (field_from_table 3 table_3)
            | inr n3 ↦
                elim (cases_eq q 4) [
                  | inl e ↦ subst IsField (sym e) (field_from_table 4 table_4)
                  | inr n4 ↦
                      elim (cases_eq q 5) [
                        | inl e ↦ subst IsField (sym e) (field_from_table 5 table_5)
                        | inr n5 ↦
                            elim (cases_eq q 7) [
                              | inl e ↦ subst IsField (sym e) (field_from_table 7 table_7)
                              | inr n7 ↦
                                  elim (cases_eq q 8) [
                                    | inl e ↦ subst IsField (sym e) (field_from_table 8 table_8)
                                    | inr n8 ↦
                                        elim (cases_eq q 9) [
                                          | inl e ↦ subst IsField (sym e) (field_from_table 9 table_9)
                                          | inr n9 ↦
                                              absurd (grind (arith, nat_tests))
                                        ]
                                  ]
                            ]
                      ]
                ]
          ]
    ]
