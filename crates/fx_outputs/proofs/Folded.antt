-- Names that are found by their lowercase forms.
use Rattle.std.proofs.Common.{◌≡◌, ℕ, ◌+◌, ◌++◌, ◌∷◌, [], Bool, true, false, cond, List, Vec, length, Option, Some}
use Rattle.std.proofs.Common.{None}
use Rattle.std.proofs.Common.{refl, sym, ap, ap₂, ◌∙◌, arith}
use Rattle.std.specs.Map.{lookup}
use Rattle.std.specs.List.{position_from}
use Rattle.std.specs.Option.{option_or}
use Rattle.std.specs.Str.{bytes_eq, str_to_ascii_lowercase}
use Rattle.std.specs.Ordering.{is_eq, nat_cmp, match_ordering}
use Rattle.std.specs.declared.cmp.Ordering.{Ordering}
use Rattle.std.specs.declared.cmp.Ordering.TheVariants.{Less, Equal, Greater}
use Rattle.std.specs.Cmp.Lexicographic.{slice_cmp}
use Rattle.std.specs.BTreeMap.{insert_entry}
use Rattle.std.proofs.lemmas.Bool.{both_ways}
use Rattle.std.proofs.lemmas.Iterator.Adapters.{position_from-zero}
use Rattle.std.proofs.lemmas.Map.Text.{is_eq-slice_cmp}
use Rattle.std.proofs.lemmas.Slice.Eq.{bytes_eq-Decides}
use Rattle.fx_text.specs.Names.{is_same_name, place_of}
use Rattle.fx_outputs.specs.Earlier.{AreNumbered}

-- the value of a form among some, and among these with one more
module _ {A : Type 0} (form : List ℕ) (key : Vec ℕ A) (number : ℕ) where
  abbrev is_it : Vec ℕ A → Bool
  is_it x = bytes_eq form x.items

  abbrev order : Vec ℕ A → Vec ℕ A → Ordering
  order x y = slice_cmp nat_cmp x.items y.items

  is_form : (x : Vec ℕ A) → is_it x ≡ true → form ≡ x.items
  is_form x e = (bytes_eq-Decides form x.items).0 e

  twice : (b : Bool) (v w : ℕ) (o : Option ℕ) → cond b (Some v) o ≡ cond b (Some v) (cond b (Some w) o)
  twice true v w o = refl
  twice false v w o = refl

  -- the form is not both of two keys that differ
  other_first : (b c : Bool) (v w : ℕ) (o : Option ℕ) → (b ≡ true → c ≡ true → ⊥)
      → cond b (Some w) (cond c (Some v) o) ≡ cond c (Some v) (cond b (Some w) o)
  other_first true true v w o apart = absurd (apart refl refl)
  other_first true false v w o apart = refl
  other_first false c v w o apart = refl

  by_order : (x : Vec ℕ A) (w : ℕ) (entries : List (Vec ℕ A × ℕ)) (o : Ordering) → order key x ≡ o
      → lookup is_it (insert_entry order entries key number) ≡ cond (is_it key) (Some number) (lookup is_it entries)
      → lookup is_it
      (match_ordering o ((key, number) ∷ (x, w) ∷ entries) ((x, number) ∷ entries)
      ((x, w) ∷ insert_entry order entries key number))
      ≡ cond (is_it key) (Some number) (cond (is_it x) (Some w) (lookup is_it entries))
  by_order x w entries Less is rest = refl
  by_order x w entries Equal is rest =
      let same : key.items ≡ x.items =
      (bytes_eq-Decides key.items x.items).0 (sym (is_eq-slice_cmp key.items x.items) ∙ ap is_eq is) in
      let alike : is_it key ≡ is_it x = cc in
      rw alike (twice (is_it x) number w (lookup is_it entries))
  by_order x w entries Greater is rest =
      rw rest
      (other_first _ _ number w _
      (λ one two. both_ways _ (sym (is_eq-slice_cmp key.items x.items) ∙ ap is_eq is)
      ((bytes_eq-Decides key.items x.items).1 (sym (is_form key two) ∙ is_form x one))))

  pub inserted : (entries : List (Vec ℕ A × ℕ))
      → lookup is_it (insert_entry order entries key number) ≡ cond (is_it key) (Some number) (lookup is_it entries)
  inserted [] = refl
  inserted ((x, w) ∷ entries) = by_order x w entries _ refl (inserted entries)

-- the place of a name among some with one more
module _ (p : List ℕ → Bool) where
  behind : (i : ℕ) (xs : List (List ℕ)) (y : List ℕ)
      → position_from p i (xs ++ y ∷ []) ≡ option_or (position_from p i xs) (cond (p y) (Some (i + length xs)) None)
  behind i [] y = ap (λ n. cond (p y) (Some n) None) (omega arith)
  behind i (x ∷ xs) y = by_test _ (behind (i + 1) xs y)
    where
      by_test : (b : Bool)
          → position_from p (i + 1) (xs ++ y ∷ [])
          ≡ option_or (position_from p (i + 1) xs) (cond (p y) (Some (i + 1 + length xs)) None)
          → cond b (Some i) (position_from p (i + 1) (xs ++ y ∷ []))
          ≡ option_or (cond b (Some i) (position_from p (i + 1) xs)) (cond (p y) (Some (i + length (x ∷ xs))) None)
      by_test true later = refl
      by_test false later =
          later ∙ ap (λ n. option_or (position_from p (i + 1) xs) (cond (p y) (Some n) None)) (omega arith)

place-more : (q : List ℕ) (names : List (List ℕ)) (name : List ℕ)
    → place_of q (names ++ name ∷ [])
    ≡ option_or (place_of q names) (cond (is_same_name q name) (Some (length names)) None)
place-more q names name =
    position_from-zero (is_same_name q) (names ++ name ∷ [])
    ∙ behind (is_same_name q) 0 names name
    ∙ ap₂ (λ o n. option_or o (cond (is_same_name q name) (Some n) None))
    (sym (position_from-zero (is_same_name q) names)) (omega arith)

joined : (b : Bool) (o : Option ℕ) (n : ℕ) → (b ≡ true → o ≡ None)
    → cond b (Some n) o ≡ option_or o (cond b (Some n) None)
joined true o n h = rw (h refl)
joined false None n h = refl
joined false (Some i) n h = refl

-- one more name
pub numbered-more : {A : Type 0} (names : List (List ℕ)) (entries : List (Vec ℕ A × ℕ)) (name : List ℕ) (key : Vec ℕ A)
    → key.items ≡ str_to_ascii_lowercase name → place_of name names ≡ None → AreNumbered names entries
    → AreNumbered (names ++ name ∷ [])
    (insert_entry (λ (x y : Vec ℕ A). slice_cmp nat_cmp x.items y.items) entries key (length names))
numbered-more {A = A} names entries name key is new h = λ q.
    cc (
      inserted (str_to_ascii_lowercase q) key (length names) entries,
      h q,
      joined _ _ (length names) (absent q),
      place-more q names name,
    )
  where
    -- the same name is as new
    absent : (q : List ℕ) → is_same_name q name ≡ true → place_of q names ≡ None
    absent q same =
        let forms : str_to_ascii_lowercase q ≡ str_to_ascii_lowercase name =
        (bytes_eq-Decides (str_to_ascii_lowercase q) (str_to_ascii_lowercase name)).0 same in
        sym (h q)
        ∙ ap (λ f. lookup (λ (x : Vec ℕ A). bytes_eq f x.items) entries) forms
        ∙ h name
        ∙ new

-- a name is looked for by its form
pub same_form : {A : Type 0} (form : List ℕ) (entries : List (Vec ℕ A × ℕ))
    → lookup (λ (x : Vec ℕ A). is_eq (slice_cmp nat_cmp form x.items)) entries
    ≡ lookup (λ (x : Vec ℕ A). bytes_eq form x.items) entries
same_form form [] = refl
same_form form ((x, n) ∷ entries) =
    cc (is_eq-slice_cmp form x.items, same_form form entries)
