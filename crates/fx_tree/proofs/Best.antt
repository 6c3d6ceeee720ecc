-- The better of two bests is that of both parts.
use Rattle.std.proofs.Common.{◌≡◌, ℕ, Bool, true, false, ◌||◌, List, Option, Some, None, refl, sym, ◌∙◌, ◌⊎◌, inl, inr}
use Rattle.std.proofs.Common.{subst, ⊎_elim}
use Rattle.std.proofs.lemmas.Bool.{cond-true, cond-false, cases_Bool, or_cases, or_left, or_right, false_from_ne_true}
use Rattle.fx_designs.specs.Answers.{before}
use Rattle.fx_laws.proofs.Order.{before-not}
use Rattle.fx_tree.specs.Ranked.{Ranked, IsRanked, IsFirstLeast, IsPartBest, better}

pub clash : {A : Type 0} (b : Bool) → b ≡ true → b ≡ false → A
clash b h k = let z = sym h ∙ k in cc z

-- two tests that agree have one best
pub same_tests : (x : Ranked) (P Q : List ℕ → Bool) → ((d : List ℕ) → P d ≡ Q d) → (o : Option (List ℕ))
    → IsFirstLeast x P o → IsFirstLeast x Q o
same_tests x P Q h None k = λ d z. k d (h d ∙ z)
same_tests x P Q h (Some b) k = (sym (h b) ∙ k.0, λ d z. k.1 d (h d ∙ z), λ d z first. k.2 d (h d ∙ z) first)

module _ (x : Ranked) (law : IsRanked x) (P Q : List ℕ → Bool)
    (order : (d e : List ℕ) → P d ≡ true → Q e ≡ true → (P e ≡ true) ⊎ (before d e ≡ true)) where
  abbrev both : List ℕ → Bool
  both d = P d || Q d

  -- nothing of the later part is less
  keeps : (b : List ℕ) → IsFirstLeast x P (Some b) → ((d : List ℕ) → Q d ≡ true → x.less d b ≡ false)
      → IsFirstLeast x both (Some b)
  keeps b h late = (
    or_left _ _ h.0,
    λ d k. ⊎_elim (h.1 d) (late d) (or_cases (P d) (Q d) k),
    λ d k first. ⊎_elim (λ z. h.2 d z first)
        (λ z. ⊎_elim (λ w. h.2 d w first) (λ w. clash (before d b) first (before-not b d w)) (order b d h.0 z))
        (or_cases (P d) (Q d) k),
  )

  -- the best of the later part is less
  takes : (b c : List ℕ) → IsFirstLeast x P (Some b) → IsFirstLeast x Q (Some c) → x.less c b ≡ true
      → IsFirstLeast x both (Some c)
  takes b c h k less = (
    or_right _ _ k.0,
    λ d z. ⊎_elim
        (λ w. false_from_ne_true (x.less d c)
        (λ v. clash (x.less d b) (law.apart d c b v (law.not_both c b less)) (h.1 d w)))
        (k.1 d)
        (or_cases (P d) (Q d) z),
    λ d z first. ⊎_elim (λ w. law.apart c b d less (h.1 d w)) (λ w. k.2 d w first) (or_cases (P d) (Q d) z),
  )

  only_late : (c : List ℕ) → ((d : List ℕ) → P d ≡ true → ⊥) → IsFirstLeast x Q (Some c) → IsFirstLeast x both (Some c)
  only_late c none k = (
    or_right _ _ k.0,
    λ d z. ⊎_elim (λ w. absurd (none d w)) (k.1 d) (or_cases (P d) (Q d) z),
    λ d z first. ⊎_elim (λ w. absurd (none d w)) (λ w. k.2 d w first) (or_cases (P d) (Q d) z),
  )

  own_least : (start : Option (List ℕ)) (c : List ℕ) → IsPartBest x Q start (Some c) → IsFirstLeast x Q (Some c)
  own_least None c h = h
  own_least (Some s) c h = h.0

  -- not less than one of the earlier part, so not less than the best
  not_less : (b s d : List ℕ) → IsFirstLeast x P (Some b) → P s ≡ true → x.less d s ≡ false → x.less d b ≡ false
  not_less b s d h in' k = false_from_ne_true (x.less d b) (λ z. clash (x.less d s) (law.apart d b s z (h.1 s in')) k)

  late : (b c : List ℕ) → IsFirstLeast x P (Some b) → IsFirstLeast x Q (Some c)
      → IsFirstLeast x both (better x (Some b) (Some c))
  late b c h own =
      elim (cases_Bool (x.less c b)) [
        | inl a ↦ subst (IsFirstLeast x both) (sym (cond-true (x.less c b) (Some c) (Some b) a)) (takes b c h own a)
        | inr a ↦ subst (IsFirstLeast x both) (sym (cond-false (x.less c b) (Some c) (Some b) a))
            (keeps b h
            (λ d z. false_from_ne_true (x.less d b) (λ v. clash (x.less d c) (law.apart d b c v a) (own.1 d z))))
      ]

  -- the later part tells its best only where it is less than one of the earlier part
  pub joins : (start now own : Option (List ℕ)) → IsFirstLeast x P now → ((b : List ℕ) → start ≡ Some b → P b ≡ true)
      → IsPartBest x Q start own → IsFirstLeast x both (better x now own)
  joins None None None h in' k = λ d z. ⊎_elim (h d) (k d) (or_cases (P d) (Q d) z)
  joins None (Some b) None h in' k = keeps b h (λ d z. absurd (k d z))
  joins (Some s) None None h in' k = absurd (h s (in' s refl))
  joins (Some s) (Some b) None h in' k = keeps b h (λ d z. not_less b s d h (in' s refl) (k d z))
  joins start None (Some c) h in' k = only_late c h (own_least start c k)
  joins start (Some b) (Some c) h in' k = late b c h (own_least start c k)

  -- both parts tell their best
  pub joins_both : (now own : Option (List ℕ)) → IsFirstLeast x P now → IsFirstLeast x Q own
      → IsFirstLeast x both (better x now own)
  joins_both now own h k = joins None now own h (λ b e. absurd (cc e)) k
