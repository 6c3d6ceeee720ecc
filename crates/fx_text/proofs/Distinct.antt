-- Names that differ from one another, without regard to case.
use Rattle.std.proofs.Common.{◌≡◌, ℕ, Bool, true, false, not, cond, List, [], ◌∷◌, ◌++◌, length, map, Some, None, refl}
use Rattle.std.proofs.Common.{sym, ◌∙◌, arith}
use Rattle.std.specs.Prelude.{is_some, nat_lt}
use Rattle.std.specs.Bool.{one_answer}
use Rattle.std.specs.Char.{to_ascii_lowercase}
use Rattle.std.specs.List.{AllByRecursion, IsDistinct, position_or_len}
use Rattle.std.proofs.lemmas.Bool.{ltb-false, not-true}
use Rattle.std.proofs.lemmas.List.Elements.{recursion_from_All}
use Rattle.std.proofs.lemmas.List.Sums.{prefix_len_passes}
use Rattle.std.proofs.lemmas.Slice.Eq.{bytes_eq-Decides}
use Rattle.fx_base.proofs.Lists.{each-append}
use Rattle.fx_text.specs.Names.{is_same_name, place_of}

pub same_turned : (a b : List ℕ) → is_same_name a b ≡ is_same_name b a
same_turned a b =
    let d = bytes_eq-Decides (map to_ascii_lowercase b) (map to_ascii_lowercase a) in
    one_answer _ _ (bytes_eq-Decides (map to_ascii_lowercase a) (map to_ascii_lowercase b))
    ((λ t. sym (d.0 t)), λ e. d.1 (sym e))

-- the name differs from each of the others
abbrev pub IsNew : List (List ℕ) → List ℕ → Type 0
IsNew names name = AllByRecursion (λ other. is_same_name name other ≡ false) names

pub not_found : (names : List (List ℕ)) (name : List ℕ) → is_some (place_of name names) ≡ false → IsNew names name
not_found names name e =
    let far = ltb-false (position_or_len (is_same_name name) names) (length names)
    (no_place (nat_lt (position_or_len (is_same_name name) names) (length names)) _ e) in
    recursion_from_All (λ other. is_same_name name other ≡ false) names
    (λ i d h. not-true _ (prefix_len_passes (λ other. not (is_same_name name other)) names i d (omega (arith, h, far))))
  where
    no_place : (b : Bool) (n : ℕ) → is_some (cond b (Some n) None) ≡ false → b ≡ false
    no_place true n e = e
    no_place false n e = refl

-- what differs from a name and from those after it
apart : (x : List ℕ) (names new : List (List ℕ)) → AllByRecursion (IsNew (x ∷ names)) new
    → IsNew new x × AllByRecursion (IsNew names) new
apart x names [] h = (tt, tt)
apart x names (name ∷ new) h =
    let rest = apart x names new h.1 in
    ((same_turned x name ∙ h.0.0, rest.0), (h.0.1, rest.1))

pub joined_differ : (names new : List (List ℕ)) → IsDistinct is_same_name names → IsDistinct is_same_name new
    → AllByRecursion (IsNew names) new
    → IsDistinct is_same_name (names ++ new)
unfolding IsDistinct
joined_differ [] new h k e = k
joined_differ (x ∷ names) new h k e =
    let each = apart x names new e in
    (each-append (λ other. is_same_name x other ≡ false) names new h.0 each.0, joined_differ names new h.1 k each.1)

pub one_differs : (name : List ℕ) → IsDistinct is_same_name (name ∷ [])
unfolding IsDistinct
one_differs name = (tt, tt)

pub none_differ : IsDistinct is_same_name []
unfolding IsDistinct
none_differ = tt

-- those behind others
pub behind_differ : (names new : List (List ℕ)) → IsDistinct is_same_name (names ++ new) → IsDistinct is_same_name new
unfolding IsDistinct
behind_differ [] new h = h
behind_differ (x ∷ names) new h = behind_differ names new h.1
