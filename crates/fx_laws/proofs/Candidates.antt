-- The candidates under a prefix are those of the subtrees of its children.
use Rattle.std.proofs.Common.{◌≡◌, ℕ, suc, ◌+◌, ◌-◌, ◌<◌, Bool, true, false, ◌||◌, cond, eqb, List, [], ◌∷◌, ◌++◌, map}
use Rattle.std.proofs.Common.{length, take, refl, sym, ap, ◌∙◌, ◌⊎◌, inl, inr, append_assoc, append-nil, arith}
use Rattle.std.proofs.Common.{length-append, eq-eqb, ne_eqb}
use Rattle.std.specs.List.{filter, flat_map}
use Rattle.std.proofs.lemmas.List.{map-append}
use Rattle.std.proofs.lemmas.List.Elements.{filter-append}
use Rattle.std.proofs.lemmas.Bool.{cond-true, cond-false, cases_Bool, false_from_ne_true, and_left, and_right, and_from}
use Rattle.std.proofs.lemmas.Bool.{or_left, or_right, or_from}
use Rattle.fx_base.proofs.Lists.{each-map, each-all, each-weaker}
use Rattle.fx_designs.specs.Answers.{falling, lists}
use Rattle.fx_designs.specs.Nodes.{parent}
use Rattle.fx_laws.specs.Trees.{Tree, IsTree, children_of}
use Rattle.fx_laws.specs.Walks.{is_candidate, under, subtree}
use Rattle.fx_laws.proofs.Order.{nonempty}
use Rattle.fx_laws.proofs.Through.{filter-none}

take-left : (c s : List ℕ) (k : ℕ) → take (length c + k) (c ++ s) ≡ c ++ take k s
take-left [] s k = ap (λ n. take n s) (omega arith)
take-left (x ∷ c) s k = let e : length (x ∷ c) + k ≡ suc (length c + k) = omega arith in
    rw e (cc (take-left c s k))

pub parent-append : (c : List ℕ) (r : ℕ) (s : List ℕ) → parent (c ++ r ∷ s) ≡ c ++ parent (r ∷ s)
parent-append c r s =
    let e : length (c ++ r ∷ s) - 1 ≡ length c + (length (r ∷ s) - 1) = omega (arith, length-append c (r ∷ s)) in
    cc (e, take-left c (r ∷ s) (length (r ∷ s) - 1))

pub parent-push : (p : List ℕ) (r : ℕ) → parent (p ++ r ∷ []) ≡ p
parent-push p r = parent-append p r [] ∙ append-nil p

push-append : (c : List ℕ) (r : ℕ) (s : List ℕ) → (c ++ r ∷ []) ++ s ≡ c ++ r ∷ s
push-append c r s = append_assoc c (r ∷ []) s

map-push : (p : List ℕ) (r : ℕ) (ls : List (List ℕ))
    → map (λ s. p ++ s) (map (λ s. r ∷ s) ls) ≡ map (λ s. (p ++ r ∷ []) ++ s) ls
map-push p r [] = refl
map-push p r (l ∷ ls) = cc (push-append p r l, map-push p r ls)

-- what holds of a list holds without its last items
pub closed-append : (P : List ℕ → Bool) → ((p : List ℕ) (r : ℕ) → P (p ++ r ∷ []) ≡ true → P p ≡ true) → (c s : List ℕ)
    → P (c ++ s) ≡ true → P c ≡ true
closed-append P closed c [] h = rw (append-nil c) at h
closed-append P closed c (r ∷ s) h =
    closed c r (closed-append P closed (c ++ r ∷ []) s (rw (push-append c r s) h))

no_append : (P : List ℕ → Bool) → ((p : List ℕ) (r : ℕ) → P (p ++ r ∷ []) ≡ true → P p ≡ true) → (c s : List ℕ)
    → P c ≡ false → P (c ++ s) ≡ false
no_append P closed c s h =
    false_from_ne_true (P (c ++ s)) (λ e. let k = closed-append P closed c s e in absurd (cc (h, k)))

module _ (t : Tree) (law : IsTree t) where
  candidate-push : (p : List ℕ) (r : ℕ) → (length p ≡ 0) ⊎ (t.allowed p ≡ true)
      → is_candidate t (p ++ r ∷ []) ≡ t.canonical (p ++ r ∷ [])
  candidate-push p r ok =
      let both : (eqb (length p) 0 || t.allowed p) ≡ true =
      elim ok [ inl e ↦ or_left _ _ (eq-eqb (length p) 0 e) | inr e ↦ or_right _ _ e ] in
      let q : (eqb (length (parent (p ++ r ∷ []))) 0 || t.allowed (parent (p ++ r ∷ []))) ≡ true =
      rw parent-push both in
      elim (cases_Bool (t.canonical (p ++ r ∷ []))) [
        | inl e ↦ and_from _ _ e q ∙ sym e
        | inr e ↦ and_left _ _ e ∙ sym e
      ]

  not_candidate : (c s : List ℕ) → 0 < length c → t.allowed c ≡ false → 0 < length s → is_candidate t (c ++ s) ≡ false
  not_candidate c [] some fails h = absurd (omega arith)
  not_candidate c (r ∷ s) some fails h =
      let e = parent-append c r s in
      let long : eqb (length (c ++ parent (r ∷ s))) 0 ≡ false =
      ne_eqb _ _ (λ z. omega (arith, length-append c (parent (r ∷ s)), z)) in
      let closed : t.allowed (c ++ parent (r ∷ s)) ≡ false = no_append t.allowed law.allowed c (parent (r ∷ s)) fails in
      and_right (t.canonical (c ++ r ∷ s)) _ (rw e (or_from _ _ long closed))

  pub under-none : (k : ℕ) (c : List ℕ) → 0 < length c → t.allowed c ≡ false → under t k c ≡ []
  unfolding under
  under-none k c some fails =
      filter-none (is_candidate t) (map (λ s. c ++ s) (lists t.rows k))
      (each-map (λ q. is_candidate t q ≡ false) (λ s. c ++ s) (lists t.rows k)
      (each-weaker (λ s. 0 < length s) _ (lists t.rows k) (λ s h. not_candidate c s some fails h)
      (nonempty t.rows k)))

  under-odd : (k : ℕ) (c : List ℕ) → t.canonical c ≡ false → under t k c ≡ []
  unfolding under
  under-odd k c fails =
      filter-none (is_candidate t) (map (λ s. c ++ s) (lists t.rows k))
      (each-map (λ q. is_candidate t q ≡ false) (λ s. c ++ s) (lists t.rows k)
      (each-all _ (lists t.rows k) (λ s. and_left _ _ (no_append t.canonical law.canonical c s fails))))

  one : (p : List ℕ) (k r : ℕ) → (length p ≡ 0) ⊎ (t.allowed p ≡ true) →
      let c = p ++ r ∷ [] in
      filter (is_candidate t) (map (λ s. p ++ s) (map (λ s. r ∷ s) ([] ∷ lists t.rows k)))
      ≡ cond (t.canonical c) (subtree t k c) []
  unfolding under
  one p k r ok =
      let c : List ℕ = p ++ r ∷ [] in
      let long : 0 < length c = omega (arith, length-append p (r ∷ [])) in
      let e : filter (is_candidate t) (map (λ s. p ++ s) (map (λ s. r ∷ s) (lists t.rows k))) ≡ under t k c =
      ap (filter (is_candidate t)) (map-push p r (lists t.rows k)) in
      let m = candidate-push p r ok in
      elim (cases_Bool (t.canonical c)) [
        | inl holds ↦
            cond-true (is_candidate t c) _ _ (m ∙ holds) ∙ ap (λ l. c ∷ l) e
            ∙ (elim (cases_Bool (t.allowed c)) [
              | inl a ↦ cc (cond-true (t.allowed c) (under t k c) [] a)
              | inr a ↦ cc (under-none k c long a, cond-false (t.allowed c) (under t k c) [] a)
            ])
            ∙ sym (cond-true (t.canonical c) (subtree t k c) [] holds)
        | inr fails ↦
            cc (
              cond-false (is_candidate t c) _ _ (m ∙ fails),
              e,
              under-odd k c fails,
              cond-false (t.canonical c) (subtree t k c) [] fails,
            )
      ]

  flat-filter : (P : ℕ → Bool) (f : ℕ → List (List ℕ)) (r : ℕ) (rs : List ℕ)
      → cond (P r) (f r) [] ++ flat_map f (filter P rs) ≡ flat_map f (filter P (r ∷ rs))
  flat-filter P f r rs =
      elim (P r) as
      (λ b. cond b (f r) [] ++ flat_map f (filter P rs) ≡ flat_map f (cond b (r ∷ filter P rs) (filter P rs)))
      [ true ↦ refl | false ↦ refl ]

  over : (p : List ℕ) (k : ℕ) (rs : List ℕ) → (length p ≡ 0) ⊎ (t.allowed p ≡ true) →
      filter (is_candidate t) (map (λ s. p ++ s) (flat_map (λ r. map (λ s. r ∷ s) ([] ∷ lists t.rows k)) rs))
      ≡ flat_map (λ r. subtree t k (p ++ r ∷ [])) (filter (λ r. t.canonical (p ++ r ∷ [])) rs)
  over p k [] ok = refl
  over p k (r ∷ rs) ok =
      let ls : List (List ℕ) = map (λ s. r ∷ s) ([] ∷ lists t.rows k) in
      let more : List (List ℕ) = flat_map (λ x. map (λ s. x ∷ s) ([] ∷ lists t.rows k)) rs in
      cc (
        map-append (λ s. p ++ s) ls more,
        filter-append (is_candidate t) (map (λ s. p ++ s) ls) (map (λ s. p ++ s) more),
        one p k r ok,
        over p k rs ok,
        flat-filter (λ x. t.canonical (p ++ x ∷ [])) (λ x. subtree t k (p ++ x ∷ [])) r rs,
      )

  -- the candidates under p are those of its children's subtrees, in order
  pub under-step : (p : List ℕ) (k : ℕ) → (length p ≡ 0) ⊎ (t.allowed p ≡ true)
      → under t (suc k) p ≡ flat_map (λ r. subtree t k (p ++ r ∷ [])) (children_of t p)
  unfolding under lists
  under-step p k ok = over p k (falling t.rows) ok
