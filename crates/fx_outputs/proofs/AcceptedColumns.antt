-- The recoded and derived factors of an accepted output: each factor is in one of them at most.
use Rattle.std.proofs.Common.{◌≡◌, ◌≢◌, ℕ, ◌+◌, ◌^◌, ◌≤◌, Bool, true, false, ◌||◌, List, [], ◌∷◌, ◌++◌, length}
use Rattle.std.proofs.Common.{get_or}
use Rattle.std.proofs.Common.{Option, Some, None, Ok, refl, sym, subst, ◌∙◌, arith, drop, All}
use Rattle.std.specs.Prelude.{◌==◌, slice_get, if◌then◌else◌}
use Rattle.std.specs.List.{AllByRecursion, list_any}
use Rattle.std.proofs.lemmas.Bool.{leb-true, eq-eqb, eqb-true, and_parts, or_parts}
use Rattle.std.proofs.lemmas.List.{length-append}
use Rattle.std.proofs.lemmas.List.Elements.{All-nil, All-push, recursion_from_All}
use Rattle.std.proofs.lemmas.List.Quantifiers.{all_pairs_push, position-Some}
use Rattle.std.proofs.lemmas.List.Folds.{list_any_at, list_any-append}
use Rattle.fx_derived.specs.Codes.{ArePlaces}
use Rattle.fx_language.specs.declared.symbol.Symbol.TheVariants.{CloseBracket}
use Rattle.fx_language.specs.Symbols.{is}
use Rattle.fx_text.specs.Written.{Written}
use Rattle.fx_text.specs.Names.{place_of, is_same_name}
use Rattle.fx_text.specs.Phrases.{after, preceding}
use Rattle.fx_text.specs.Refusals.{refusal_at, ◌>>=◌}
use Rattle.fx_outputs.specs.declared.recode.Recode.{Recode}
use Rattle.fx_outputs.specs.declared.derived.Derived.{Derived}
use Rattle.fx_outputs.specs.declared.columns.Columns.{Columns}
use Rattle.fx_outputs.specs.Contexts.{Context}
use Rattle.fx_outputs.specs.Values.{values_of, checked_values, values_if_any}
use Rattle.fx_outputs.specs.BlockColumns.{name_or_empty}
use Rattle.fx_outputs.specs.DerivedFactors.{AreDerived, AreFree, is_bracketed}
use Rattle.fx_outputs.specs.Columns.{check_size, column_of, columns_behind, columns_of, derived_of, factor_at}
use Rattle.fx_outputs.specs.Columns.{has_values}
use Rattle.fx_outputs.specs.Columns.{is_used, places_behind, recode_at, recode_of, unused_place, with_derived}
use Rattle.fx_outputs.specs.Columns.{with_recode}
use Rattle.fx_outputs.specs.Validity.{IsRecode, AreRecodes}
use Rattle.fx_outputs.proofs.Accepted.{through, kept_if, kept_unless, as_many, wanted_values}

is_factor : (name : Written) (place : Option ℕ) (p : ℕ) → factor_at name place ≡ Ok p
    → (i : ℕ) × (place ≡ Some i) × (i + 1 ≡ p)
is_factor name None p e = cc e
is_factor name (Some i) p e = (i, refl, cc e)

module _ (context : Context) where
  -- columns that were accepted
  pub record AreColumns (done : Columns) : Type 0 where
    pub recodes : AreRecodes context done.recodes
    pub derived : AreDerived context.q (length context.factors) done.derived
    pub free : AreFree done.derived done.recodes

  -- a recoded factor that is accepted, and that was in no column before
  record IsNext (done : Columns) (recode : Recode) : Type 0 where
    factor : IsRecode context recode
    unused : is_used done recode.place ≡ false

  next : (done : Columns) (name word : Written) (rest : List Written) (recode : Recode)
      → recode_of context done name word rest ≡ Ok recode → IsNext done recode
  next done name word rest recode e =
      let place = place_of name.text context.factors in
      through (factor_at name place) _ recode (IsNext done recode) e (λ factor told e.
      through (unused_place (is_used done factor) name factor) _ recode (IsNext done recode) e (λ new fresh e.
      through (checked_values (Some context.q) word (values_of rest)) _ recode (IsNext done recode) e
      (λ values enough e.
      let at = is_factor name place factor told in
      let inside = (position-Some (is_same_name name.text) context.factors at.0 [] at.1).0 in
      let first = kept_unless (is_used done factor) factor new (refusal_at 28 name) fresh in
      let made : Recode = record { place = new; values = values } in
      let same : made ≡ recode = cc e in
      let sure : IsNext done made = record {
        factor =
            record {
              from_1 = omega (arith, at.2, first.1);
              a_factor = omega arith;
              each_level = as_many context.q word _ values enough;
            };
        unused = rw first.1 at first.0;
      } in
      subst (IsNext done) same sure)))

  true_false : (b : Bool) → b ≡ true → b ≡ false → ⊥
  true_false b h k = let e = sym h ∙ k in cc e

  one_recode : (done : Columns) (recode : Recode) → AreColumns done → IsNext done recode
      → AreColumns (with_recode done recode)
  one_recode done recode h is_next =
      let parts =
      or_parts (has_values done.recodes recode.place) (is_bracketed done.derived recode.place) is_next.unused in
      record {
        recodes = record {
          each = All-push (IsRecode context) done.recodes recode h.recodes.each is_next.factor;
          once = all_pairs_push (λ (a b : Recode). a.place ≢ b.place) done.recodes recode h.recodes.once
              (λ k d low same. true_false (has_values done.recodes recode.place)
              (list_any_at (λ (r : Recode). r.place == recode.place) done.recodes k d low
              (eq-eqb (get_or done.recodes k d).place recode.place same)) parts.0);
        };
        derived = h.derived;
        free = All-push (λ (r : Recode). is_bracketed done.derived r.place ≢ true) done.recodes recode h.free
            (λ taken. true_false (is_bracketed done.derived recode.place) taken parts.1);
      }

  -- different places of factors that are in no column yet
  record AreUnused (done : Columns) (places : List ℕ) : Type 0 where
    different : ArePlaces (length context.factors) places
    unused : All (λ p. is_used done p ≡ false) places

  no_places : (done : Columns) → AreUnused done []
  no_places done = record {
    different = record {
      from_1 = All-nil _;
      factors = All-nil _;
      different = λ i j d low high. absurd (omega arith);
    };
    unused = All-nil _;
  }

  one_place : (done : Columns) (places : List ℕ) (p : ℕ) → 1 ≤ p → p ≤ length context.factors
      → is_used done p ≡ false → list_any (λ x. x == p) places ≡ false → AreUnused done places
      → AreUnused done (places ++ p ∷ [])
  one_place done places p low high fresh other h = record {
    different = record {
      from_1 = All-push (λ x. 1 ≤ x) places p h.different.from_1 low;
      factors = All-push (λ x. x ≤ length context.factors) places p h.different.factors high;
      different = all_pairs_push (λ (a b : ℕ). a ≢ b) places p h.different.different (λ k d below same.
          true_false _
          (list_any_at (λ x. x == p) places k d below (eq-eqb _ p same)) other);
    };
    unused = All-push (λ x. is_used done x ≡ false) places p h.unused fresh;
  }

  record ArePlacesOf (done : Columns) (earlier : List ℕ) (names : List Written) (all : List ℕ) : Type 0 where
    unused : AreUnused done all
    count : length all ≡ length earlier + length names

  all_places : (done : Columns) (names : List Written) (earlier all : List ℕ) → AreUnused done earlier
      → places_behind context done earlier names ≡ Ok all → ArePlacesOf done earlier names all
  all_places done [] earlier all h e =
      let same : earlier ≡ all = cc e in
      subst (ArePlacesOf done earlier []) same (record { unused = h; count = omega arith })
  all_places done (name ∷ names) earlier all h e =
      let place = place_of name.text context.factors in
      let Goal : Type 0 = ArePlacesOf done earlier (name ∷ names) all in
      through _ _ all Goal e (λ factor told e.
      through _ _ all Goal e
      (λ own fresh e.
      let at = is_factor name place factor told in
      let inside = (position-Some _ context.factors at.0 [] at.1).0 in
      let first =
      kept_unless (is_used done factor || list_any (λ p. p == factor) earlier) factor own (refusal_at 28 name) fresh in
      let parts = or_parts (is_used done factor) (list_any (λ p. p == factor) earlier) first.0 in
      let added =
      one_place done earlier own (omega (arith, at.2, first.1)) (omega (arith, at.2, first.1, inside))
      (rw first.1 at parts.0)
      (rw first.1 at parts.1) h in
      let rest = all_places done names (earlier ++ own ∷ []) all added e in
      record { unused = rest.unused; count = omega (arith, length-append earlier (own ∷ [])) }))

  -- a derived factor that is accepted
  record IsNextDerived (done : Columns) (d : Derived) : Type 0 where
    unused : AreUnused done d.places
    some : 2 ≤ length d.places
    few : length d.places ≤ 4
    levels : context.q ^ length d.places ≤ 64
    values : d.values ≢ [] → length d.values ≡ context.q ^ length d.places

  sized : (count : ℕ) (bracket : Written) (u : Unit {0}) → check_size context.q count bracket ≡ Ok u
      → (2 ≤ count) × (count ≤ 4) × (context.q ^ count ≤ 64)
  sized count bracket u e =
      let kept = kept_if _ tt u
      _ e in
      let all = and_parts _ _ kept.0 in
      let few = and_parts _ _ all.0 in
      (leb-true 2 count few.0, leb-true count 4 few.1, leb-true _ 64 all.1)

  next_derived : (done : Columns) (bracket : Written) (rest : List Written) (d : Derived)
      → derived_of context done bracket rest ≡ Ok d → IsNextDerived done d
  next_derived done bracket rest d e =
      let names = preceding CloseBracket rest in
      let behind = after CloseBracket rest in
      let Goal : Type 0 = IsNextDerived done d in
      through (check_size context.q (length names) bracket) _ d Goal e (λ u size e.
      through (places_behind context done [] names) _ d Goal e (λ places told e.
      through (values_if_any (Some (context.q ^ length names)) (drop 2 behind)) _ d Goal e
      (λ values given e.
      let known = all_places done names [] places (no_places done) told in
      let count : length places ≡ length names = omega arith in
      let limits = sized (length names) bracket u size in
      let made : Derived = record { places = places; name = name_or_empty (slice_get behind 1); values = values } in
      let same : made ≡ d = cc e in
      let sure : IsNextDerived done made = record {
        unused = known.unused;
        some = rw count limits.0;
        few = rw count limits.1;
        levels = rw count limits.2;
        values = rw count (wanted_values _ _ values given);
      } in
      subst (IsNextDerived done) same sure)))

  -- a factor that has values stands in none of these places
  not_among : (done : Columns) (places : List ℕ) (r : Recode) → AllByRecursion (λ p. is_used done p ≡ false) places
      → has_values done.recodes r.place ≡ true → list_any (λ p. p == r.place) places ≡ true → ⊥
  not_among done [] r h has found = cc found
  not_among done (p ∷ places) r h has found =
      by_test (not_among done places r h.1 has) (p == r.place) refl
    where
      by_test : (list_any (λ x. x == r.place) places ≡ true → ⊥) → (b : Bool) → (p == r.place) ≡ b → ⊥
      by_test later true same =
          true_false _ has
          (rw (eqb-true p r.place same) at (or_parts (has_values done.recodes p) (is_bracketed done.derived p) h.0).0)
      by_test later false other = later (rw other at found)

  one_derived : (done : Columns) (d : Derived) → AreColumns done → IsNextDerived done d
      → AreColumns (with_derived done d)
  one_derived done d h is_next = record {
    recodes = h.recodes;
    derived = record {
      places = All-push (λ (x : Derived). ArePlaces (length context.factors) x.places) done.derived d
          h.derived.places is_next.unused.different;
      some = All-push (λ (x : Derived). 2 ≤ length x.places) done.derived d h.derived.some is_next.some;
      few = All-push (λ (x : Derived). length x.places ≤ 4) done.derived d h.derived.few is_next.few;
      levels = All-push (λ (x : Derived). context.q ^ length x.places ≤ 64) done.derived d h.derived.levels
          is_next.levels;
      values = All-push (λ (x : Derived). x.values ≢ [] → length x.values ≡ context.q ^ length x.places) done.derived d
          h.derived.values is_next.values;
    };
    free = λ k r low taken.
        let recode = get_or done.recodes k r in
        let own =
        list_any_at (λ (x : Recode). x.place == recode.place) done.recodes k r low
        (eq-eqb recode.place recode.place refl) in
        not_both done d is_next recode own (h.free k r low) taken;
  }
    where
      not_both : (done : Columns) (d : Derived) → IsNextDerived done d → (r : Recode)
          → has_values done.recodes r.place ≡ true → is_bracketed done.derived r.place ≢ true
          → is_bracketed (done.derived ++ d ∷ []) r.place ≢ true
      not_both done d is_next r own free taken =
          by_test (is_bracketed done.derived r.place) refl
          (cc (list_any-append (λ (x : Derived). list_any (λ p. p == r.place) x.places) done.derived (d ∷ [])))
        where
          by_test : (b : Bool) → is_bracketed done.derived r.place ≡ b
              → (is_bracketed done.derived r.place || (list_any (λ p. p == r.place) d.places || false)) ≡ true → ⊥
          by_test true is e = free is
          by_test false is e = last (list_any (λ p. p == r.place) d.places) refl (rw is at e)
            where
              last : (b : Bool) → list_any (λ p. p == r.place) d.places ≡ b → (b || false) ≡ true → ⊥
              last true found e = not_among done d.places r
                  (recursion_from_All _ d.places is_next.unused.unused) own found
              last false found e = cc e

  of_recode : (done now : Columns) (name : Written) (rest : List Written) → AreColumns done
      → recode_at context done name rest ≡ Ok now → AreColumns now
  of_recode done now name [] h e = let same : done ≡ now = cc e in subst AreColumns same h
  of_recode done now name (word ∷ rest) h e =
      through _ _ now _ e (λ recode read e.
      let same : with_recode done recode ≡ now = cc e in
      subst AreColumns same (one_recode done recode h (next done name word rest recode read)))

  of_column : (done now : Columns) (option : List Written) → AreColumns done
      → column_of context done option ≡ Ok now → AreColumns now
  of_column done now [] h e = let same : done ≡ now = cc e in subst AreColumns same h
  of_column done now (first ∷ rest) h e = by_test _ _ e
    where
      by_test : (b option : Bool)
          → (if b then (derived_of context done first rest >>= λ d. Ok (with_derived done d))
          else (if option then Ok done else recode_at context done first rest)) ≡ Ok now
          → AreColumns now
      by_test true option e =
          through _ _ now _ e (λ d read e.
          let same : with_derived done d ≡ now = cc e in
          subst AreColumns same (one_derived done d h (next_derived done first rest d read)))
      by_test false true e = let same : done ≡ now = cc e in subst AreColumns same h
      by_test false false e = of_recode done now first rest h e

  of_columns : (done all : Columns) (options : List (List Written)) → AreColumns done
      → columns_behind context done options ≡ Ok all → AreColumns all
  of_columns done all [] h e = let same : done ≡ all = cc e in subst AreColumns same h
  of_columns done all (option ∷ options) h e =
      through _ _ all _ e
      (λ now read e. of_columns now all options (of_column done now option h read) e)

  none_yet : AreColumns (record { recodes = []; derived = [] })
  none_yet = record {
    recodes = record { each = All-nil _; once = λ i j d low high. absurd (omega arith) };
    derived =
        record { places = All-nil _; some = All-nil _; few = All-nil _; levels = All-nil _; values = All-nil _ };
    free = All-nil _;
  }

  pub all_columns : (options : List (List Written)) (all : Columns)
      → columns_of context options ≡ Ok all → AreColumns all
  all_columns options all e = of_columns _ all options none_yet e
