-- Lists that are cut after the first item that passes, and what is found in a list of two parts.
use Rattle.std.proofs.Common.{◌≡◌, Bool, true, false, ◌||◌, cond, List, [], ◌∷◌, ◌++◌, Some, None, refl, ◌∙◌}
use Rattle.std.specs.List.{filter, list_any, find, AllByRecursion}
use Rattle.std.proofs.lemmas.Bool.{cond-false}
use Rattle.fx_laws.specs.Walks.{through}

module _ {X : Type 0} (D : X → Bool) where
  -- no item passes: nothing is cut
  pub through-none : (xs : List X) → list_any D xs ≡ false → through D xs ≡ xs
  through-none [] h = refl
  through-none (x ∷ xs) h = elim (D x) as (λ b. (b || list_any D xs) ≡ false → x ∷ cond b [] (through D xs) ≡ x ∷ xs) [
    | true ↦ λ e. absurd (cc e)
    | false ↦ λ e. cc (through-none xs e)
  ] h

  pub through-left : (xs ys : List X) → list_any D xs ≡ true → through D (xs ++ ys) ≡ through D xs
  through-left [] ys h = absurd (cc h)
  through-left (x ∷ xs) ys h =
      elim (D x) as
      (λ b. (b || list_any D xs) ≡ true → x ∷ cond b [] (through D (xs ++ ys)) ≡ x ∷ cond b [] (through D xs)) [
        | true ↦ λ e. refl
        | false ↦ λ e. cc (through-left xs ys e)
      ] h

  pub through-right : (xs ys : List X) → list_any D xs ≡ false → through D (xs ++ ys) ≡ xs ++ through D ys
  through-right [] ys h = refl
  through-right (x ∷ xs) ys h =
      elim (D x) as
      (λ b. (b || list_any D xs) ≡ false → x ∷ cond b [] (through D (xs ++ ys)) ≡ x ∷ (xs ++ through D ys)) [
        | true ↦ λ e. absurd (cc e)
        | false ↦ λ e. cc (through-right xs ys e)
      ] h

  pub find-right : (xs ys : List X) → list_any D xs ≡ false → find D (xs ++ ys) ≡ find D ys
  find-right [] ys h = refl
  find-right (x ∷ xs) ys h =
      elim (D x) as (λ b. (b || list_any D xs) ≡ false → cond b (Some x) (find D (xs ++ ys)) ≡ find D ys) [
        | true ↦ λ e. absurd (cc e)
        | false ↦ λ e. find-right xs ys e
      ] h

  pub find-left : (xs ys : List X) (x : X) → find D xs ≡ Some x → find D (xs ++ ys) ≡ Some x
  find-left [] ys x h = absurd (cc h)
  find-left (y ∷ xs) ys x h =
      elim (D y) as (λ b. cond b (Some y) (find D xs) ≡ Some x → cond b (Some y) (find D (xs ++ ys)) ≡ Some x) [
        | true ↦ λ e. e
        | false ↦ λ e. find-left xs ys x e
      ] h

  pub any-found : (xs : List X) (x : X) → find D xs ≡ Some x → list_any D xs ≡ true
  any-found [] x h = absurd (cc h)
  any-found (y ∷ xs) x h = elim (D y) as (λ b. cond b (Some y) (find D xs) ≡ Some x → (b || list_any D xs) ≡ true) [
    | true ↦ λ e. refl
    | false ↦ λ e. any-found xs x e
  ] h

  pub find-none : (xs : List X) → list_any D xs ≡ false → find D xs ≡ None
  find-none [] h = refl
  find-none (x ∷ xs) h = elim (D x) as (λ b. (b || list_any D xs) ≡ false → cond b (Some x) (find D xs) ≡ None) [
    | true ↦ λ e. absurd (cc e)
    | false ↦ λ e. find-none xs e
  ] h

  pub any-append : (xs ys : List X) → list_any D xs ≡ false → list_any D ys ≡ false → list_any D (xs ++ ys) ≡ false
  any-append [] ys h k = k
  any-append (x ∷ xs) ys h k =
      elim (D x) as (λ b. (b || list_any D xs) ≡ false → (b || list_any D (xs ++ ys)) ≡ false) [
        | true ↦ λ e. absurd (cc e)
        | false ↦ λ e. any-append xs ys e k
      ] h

  pub filter-none : (xs : List X) → AllByRecursion (λ x. D x ≡ false) xs → filter D xs ≡ []
  filter-none [] h = refl
  filter-none (x ∷ xs) h = cond-false (D x) (x ∷ filter D xs) (filter D xs) h.0 ∙ filter-none xs h.1
