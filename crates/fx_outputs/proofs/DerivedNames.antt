-- The names of derived factors: they are those that are written, and differ from one another and from other columns.
use Rattle.std.proofs.Common.{◌≡◌, Bool, true, false, List, [], ◌∷◌, ◌++◌, map, Option, Some, None, Ok, refl, sym, ap}
use Rattle.std.proofs.Common.{◌∙◌}
use Rattle.std.proofs.Common.{append_assoc, inl, inr}
use Rattle.std.specs.Prelude.{◌||◌, ◌^◌, ℕ, drop, length, is_some, if◌then◌else◌, not, ◌&&◌, slice_get}
use Rattle.std.specs.List.{AllByRecursion, IsDistinct, flat_map}
use Rattle.std.proofs.lemmas.Bool.{or_parts}
use Rattle.std.proofs.lemmas.List.{append-nil, map-append}
use Rattle.fx_base.proofs.Lists.{each-append_parts, each-weaker}
use Rattle.fx_language.specs.declared.symbol.Symbol.{Symbol}
use Rattle.fx_language.specs.declared.symbol.Symbol.TheVariants.{Blockname, CloseBracket, Designrep, Novalran}
use Rattle.fx_language.specs.declared.symbol.Symbol.TheVariants.{OpenBracket}
use Rattle.fx_language.specs.declared.symbol.Symbol.TheVariants.{Pointrep, Randomize}
use Rattle.fx_language.specs.Symbols.{is, is_output_option, is_word}
use Rattle.fx_language.specs.Grammar as grammar
use Rattle.fx_text.specs.Names.{is_same_name, place_of}
use Rattle.fx_text.specs.Refusals.{refusal_at, ◌>>=◌}
use Rattle.fx_text.specs.Phrases.{after, preceding}
use Rattle.fx_text.specs.Written.{Written, begins}
use Rattle.fx_text.proofs.ByLexemes.{Reads}
use Rattle.fx_text.proofs.Distinct.{IsNew, not_found}
use Rattle.fx_outputs.specs.declared.columns.Columns.{Columns}
use Rattle.fx_outputs.specs.declared.derived.Derived.{Derived}
use Rattle.fx_outputs.specs.Contexts.{Context}
use Rattle.fx_outputs.specs.BlockColumns.{name_or_empty}
use Rattle.fx_outputs.specs.Columns.{check_name, check_names, check_size, column_of, columns_behind, derived_name}
use Rattle.fx_outputs.specs.Columns.{derived_names, derived_of, named, places_behind, recode_at, recode_of}
use Rattle.fx_outputs.specs.Columns.{with_derived}
use Rattle.fx_outputs.specs.Columns.{with_name, with_recode}
use Rattle.fx_outputs.specs.Values.{values_if_any}
use Rattle.fx_outputs.proofs.Accepted.{kept_unless, through}
use Rattle.fx_outputs.proofs.OptionCuts.{apart}

abbrev names_in : List Derived → List (List ℕ)
names_in derived = map (λ (d : Derived). d.name) derived

-- where the option begins with `[`, a name is written behind `]` and `=`
abbrev pub HasDerivedName : List Written → Type 0
HasDerivedName o = begins OpenBracket o ≡ true → (w : Written) × (slice_get (after CloseBracket o) 1 ≡ Some w)

another : (o : List Written) (w : Written) (more : List Written) (test : Symbol → Bool) → test w.symbol ≡ true
    → test OpenBracket ≡ false → o ≡ w ∷ more → HasDerivedName o
another o w more test it other all begun =
    absurd (let f : false ≡ true = sym (apart OpenBracket test w.symbol other it) ∙ (rw all at begun) in cc)

words_passed : (parts : List (List Written)) (rest : List Written) → AllByRecursion (Reads grammar.name) parts
    → after CloseBracket (flat_map (λ part. part) parts ++ rest) ≡ after CloseBracket rest
words_passed [] rest each = refl
words_passed (part ∷ parts) rest each =
    let (w, it, is) = each.0 in
    rw (is, apart CloseBracket is_word w.symbol refl it) (words_passed parts rest each.1)

pub has_derived_name : (o : List Written) → Reads grammar.option o → HasDerivedName o
has_derived_name o (inl (x, y, (w, hw, ew), h, i)) = another o w y (is Pointrep) hw refl (rw ew at i)
has_derived_name o (inr (inl (x, y, (w, hw, ew), h, i))) = another o w y (is Designrep) hw refl (rw ew at i)
has_derived_name o (inr (inr (inl (x, y, (w, hw, ew), h, i)))) = another o w y (is Randomize) hw refl (rw ew at i)
has_derived_name o (inr (inr (inr (inl (w, hw, ew))))) = another o w [] (is Novalran) hw refl ew
has_derived_name o (inr (inr (inr (inr (inl (x, y, (w, hw, ew), h, i)))))) =
    another o w y (is Blockname) hw refl (rw ew at i)
has_derived_name o (inr (inr (inr (inr (inr (inl (x, y, (w, hw, ew), h, i))))))) =
    another o w y (λ s. is_word s && not (is_output_option s)) hw refl (rw ew at i)
has_derived_name o
    (inr (inr (inr (inr (inr (inr (
      x1,
      y1,
      (b, hb, eb),
      (
        x2,
        y2,
        (n, hn, en),
        (
          x3,
          y3,
          (parts, each, ep),
          (x4, y4, (c, hc, ec), (x5, y5, (e, he, ee), (x6, y6, (w, hw, ew), v, i6), i5), i4),
          i3,
        ),
        i2,
      ),
      i1,
    ))))))) =
    λ begun.
    let whole = rw (eb, i2, en, i3, ep, i4, ec, i5, ee, i6, ew) at i1 in (
      w,
      rw (
        whole,
        apart CloseBracket (is OpenBracket) b.symbol refl hb,
        apart CloseBracket is_word n.symbol refl hn,
        words_passed parts (c ∷ e ∷ w ∷ y6) each,
        hc,
      ) refl,
    )

module _ (context : Context) where
  of_derived : (done : Columns) (bracket : Written) (rest : List Written) (d : Derived) (w : Written)
      → slice_get (after CloseBracket rest) 1 ≡ Some w
      → derived_of context done bracket rest ≡ Ok d → d.name ≡ w.text
  of_derived done bracket rest d w written e =
      let names = preceding CloseBracket rest in
      let behind = after CloseBracket rest in
      through (check_size context.q (length names) bracket) _ d (d.name ≡ w.text) e (λ u one e.
      through (places_behind context done [] names) _ d (d.name ≡ w.text) e (λ places two e.
      through (values_if_any (Some (context.q ^ length names)) (drop 2 behind)) _ d (d.name ≡ w.text) e
      (λ values three e.
      let made : Derived = record { places = places; name = name_or_empty (slice_get behind 1); values = values } in
      let same : made ≡ d = cc e in
      ap (λ (x : Derived). x.name) (sym same) ∙ ap name_or_empty written)))

  of_recode : (done now : Columns) (name : Written) (rest : List Written) → recode_at context done name rest ≡ Ok now
      → done.derived ≡ now.derived
  of_recode done now name [] e = let same : done ≡ now = cc e in ap (λ (c : Columns). c.derived) same
  of_recode done now name (word ∷ rest) e =
      through (recode_of context done name word rest) _ now (done.derived ≡ now.derived) e (λ recode read e.
      let same : with_recode done recode ≡ now = cc e in ap (λ (c : Columns). c.derived) same)

  of_column : (done now : Columns) (option : List Written) → HasDerivedName option
      → column_of context done option ≡ Ok now
      → names_in now.derived ≡ names_in done.derived ++ with_name (derived_name option) []
  of_column done now [] has e =
      let same : done ≡ now = cc e in ap (λ (c : Columns). names_in c.derived) (sym same) ∙ sym (append-nil _)
  of_column done now (first ∷ rest) has e =
      by_test (is OpenBracket first.symbol) (is_output_option first.symbol) refl e
    where
      by_test : (b option : Bool) → is OpenBracket first.symbol ≡ b
          → (if b then (derived_of context done first rest >>= λ d. Ok (with_derived done d))
          else (if option then Ok done else recode_at context done first rest)) ≡ Ok now
          → names_in now.derived
          ≡ names_in done.derived
          ++ with_name (if b then slice_get (after CloseBracket (first ∷ rest)) 1 else None) []
      by_test true option is_it e =
          let (w, written) = has is_it in
          let behind : slice_get (after CloseBracket rest) 1 ≡ Some w =
          rw (apart CloseBracket (is OpenBracket) first.symbol refl is_it) at written in
          through (derived_of context done first rest) _ now _ e (λ d read e.
          let same : with_derived done d ≡ now = cc e in
          let name = of_derived done first rest d w behind read in
          rw (written, ← same, ← name) (map-append (λ (d : Derived). d.name) done.derived (d ∷ [])))
      by_test false true is_it e =
          let same : done ≡ now = cc e in ap (λ (c : Columns). names_in c.derived) (sym same) ∙ sym (append-nil _)
      by_test false false is_it e = ap names_in (sym (of_recode done now first rest e)) ∙ sym (append-nil _)

  with_names : (o : Option Written) (names : List (List ℕ)) → with_name o [] ++ names ≡ with_name o names
  with_names None names = refl
  with_names (Some w) names = refl

  -- the derived factors have the names that are written, in order
  pub names_written : (done all : Columns) (options : List (List Written)) → AllByRecursion HasDerivedName options
      → columns_behind context done options ≡ Ok all
      → names_in all.derived ≡ names_in done.derived ++ derived_names options
  names_written done all [] each e =
      let same : done ≡ all = cc e in ap (λ (c : Columns). names_in c.derived) (sym same) ∙ sym (append-nil _)
  names_written done all (option ∷ options) each e =
      through (column_of context done option) _ all _ e (λ now read e.
      names_written now all options each.1 e
      ∙ ap (λ l. l ++ derived_names options) (of_column done now option each.0 read)
      ∙ append_assoc (names_in done.derived) (with_name (derived_name option) []) (derived_names options)
      ∙ ap (λ l. names_in done.derived ++ l) (with_names (derived_name option) (derived_names options)))

-- names that are none of these columns, and differ from one another
pub record AreOthers (columns names : List (List ℕ)) : Type 0 where
  pub differ : IsDistinct is_same_name names
  pub others : AllByRecursion (IsNew columns) names

-- the names of derived factors are such, where they pass their test
pub names_pass : (columns : List (List ℕ)) (options : List (List Written)) → check_names columns options ≡ Ok tt
    → AreOthers columns (derived_names options)
unfolding IsDistinct
names_pass columns [] e = record { differ = tt; others = tt }
names_pass columns (option ∷ options) e =
    by_name (λ all e. names_pass all options e) (derived_name option) e
  where
    by_name : ((all : List (List ℕ)) → check_names all options ≡ Ok tt → AreOthers all (derived_names options))
        → (o : Option Written)
        → (named columns o (derived_names options) >>= λ all. check_names all options) ≡ Ok tt
        → AreOthers columns (with_name o (derived_names options))
    by_name later None e = later columns e
    by_name further (Some w) e =
        let Goal : Type 0 = AreOthers columns (w.text ∷ derived_names options) in
        through (named columns (Some w) (derived_names options)) _ tt Goal e (λ all read e.
        through (check_name columns w (derived_names options)) _ all Goal read (λ u passed read.
        let free = kept_unless (is_some (place_of w.text columns) || is_some (place_of w.text (derived_names options)))
        tt u (refusal_at 34 w) passed in
        let parts =
        or_parts (is_some (place_of w.text columns)) (is_some (place_of w.text (derived_names options))) free.0 in
        let same : columns ++ w.text ∷ [] ≡ all = cc read in
        let later = further (columns ++ w.text ∷ []) (rw (← same) at e) in
        record {
          differ = (not_found (derived_names options) w.text parts.1, later.differ);
          others = (
            not_found columns w.text parts.0,
            each-weaker (IsNew (columns ++ w.text ∷ [])) (IsNew columns) (derived_names options)
                (λ name new. (each-append_parts (λ other. is_same_name name other ≡ false) columns (w.text ∷ []) new).0)
                later.others,
          );
        }))
