-- Where components are listed, a place asks for them.
use Rattle.std.proofs.Common.{◌≡◌, ℕ, ◌≤◌, Bool, true, false, ◌||◌, List, [], ◌∷◌, Option, Some, None, Result, Ok, Err}
use Rattle.std.proofs.Common.{refl, sym, ap₂, ◌∙◌}
use Rattle.std.specs.Prelude.{nat_lt, min, if◌then◌else◌, ◌&&◌}
use Rattle.std.proofs.lemmas.Bool.{ltb-false}
use Rattle.fx_designs.specs.Components.{listed_count}
use Rattle.fx_designs.specs.Problems.{Requirement}
use Rattle.fx_lexer.specs.declared.place.Place.{Place}
use Rattle.fx_language.specs.declared.symbol.Symbol.TheVariants.{Aliasing, Blocked, Examine}
use Rattle.fx_language.specs.Symbols.{is}
use Rattle.fx_text.specs.declared.refusal.Refusal.{Refusal}
use Rattle.fx_text.specs.Phrases.{has_symbol}
use Rattle.fx_text.specs.Refusals.{place_at, refused_at}
use Rattle.fx_text.specs.Written.{Written, begins}
use Rattle.fx_statements.specs.Components.{check_components, components_asked, components_place, first_components}
use Rattle.fx_statements.specs.Components.{listed_factors, place_or}
use Rattle.fx_statements.specs.Steps.{asks, examine_of}
use Rattle.fx_statements.specs.Valid.{HasFewComponents}

-- a statement without either word asks for no listing
no_word : (s : List Written) → first_components s ≡ None
    → (has_symbol Aliasing s ≡ false) × (has_symbol Blocked s ≡ false)
no_word [] e = (refl, refl)
no_word (w ∷ rest) e = by_word (is Aliasing w.symbol) (is Blocked w.symbol) refl refl (no_word rest)
  where
    by_word : (a b : Bool) → is Aliasing w.symbol ≡ a → is Blocked w.symbol ≡ b
        → (first_components rest ≡ None → (has_symbol Aliasing rest ≡ false) × (has_symbol Blocked rest ≡ false))
        → (has_symbol Aliasing (w ∷ rest) ≡ false) × (has_symbol Blocked (w ∷ rest) ≡ false)
    by_word true b ha hb later =
        absurd (let found : Some (place_at w)
        ≡ None = cc
        in cc)
    by_word false true ha hb later =
        absurd (let found : Some (place_at w)
        ≡ None = cc in cc)
    by_word false false ha hb later =
        let none = later (sym (ap₂ (λ x y. if x || y then Some (place_at w) else first_components rest) ha hb) ∙ e) in
        (cc, cc)

none_asked : (s : List Written) → components_asked s ≡ None
    → ((begins Examine s && has_symbol Aliasing s) ≡ false) × ((begins Examine s && has_symbol Blocked s) ≡ false)
none_asked s e = by_start _ e
  where
    by_start : (b : Bool) → (if b then first_components s else None) ≡ None
        → ((b && has_symbol Aliasing s) ≡ false) × ((b && has_symbol Blocked s) ≡ false)
    by_start true e = no_word s e
    by_start false e = (refl, refl)

neither : (found : Option Place) (rest : Option Place) → place_or found rest ≡ None → (found ≡ None) × (rest ≡ None)
neither None rest e = (refl, e)
neither (Some place) rest e = cc e

none_listed : (statements : List (List Written)) → components_place statements ≡ None
    → (asks Aliasing statements ≡ false) × (asks Blocked statements ≡ false)
none_listed [] e = (refl, refl)
none_listed (s ∷ statements) e =
    let parts = neither _ _ e in
    let here = none_asked s parts.0 in
    let later = none_listed statements parts.1 in
    (cc, cc)

pub few_components : (q s : ℕ) (requirement : Requirement) (statements : List (List Written))
    → check_components q s requirement (components_place statements) ≡ Ok tt
    → HasFewComponents q s requirement (examine_of statements)
few_components q s requirement statements e asked = by_place _ refl e
  where
    by_place : (place : Option Place) → components_place statements ≡ place
        → check_components q s requirement place ≡ Ok tt
        → listed_count q s (min s (listed_factors requirement)) ≤ 100000
    by_place None none e =
        let nothing = none_listed statements none in
        absurd (let f : false ≡ true = cc in cc)
    by_place (Some place) found e =
        by_count _ refl e
      where
        by_count : (b : Bool) → nat_lt 100000 (listed_count q s (min s (listed_factors requirement))) ≡ b
            → ◌≡◌ {A = Result (Unit {0}) Refusal} (if b then Err (refused_at 23 place) else Ok tt) (Ok tt)
            → listed_count q s (min s (listed_factors requirement)) ≤ 100000
        by_count true many e = cc e
        by_count false few e = ltb-false 100000 _ few
