-- The names of the outputs that are accepted.
use Rattle.std.proofs.Common.{◌≡◌, ◌≢◌, ℕ, Bool, true, false, List, [], ◌∷◌, ◌++◌, None, Result, Ok}
use Rattle.std.proofs.Common.{Err, refl, sym, ap, ap₂, subst, ◌∙◌, inl, inr, ◌⊎◌, append_assoc, arith}
use Rattle.std.specs.Prelude.{All, codes, is_some, if◌then◌else◌, not, ◌&&◌, slice_get}
use Rattle.std.specs.List.{AllByRecursion, IsDistinct}
use Rattle.std.proofs.lemmas.List.{append-nil, map-append}
use Rattle.std.proofs.lemmas.List.Elements.{All-nil, All-push}
use Rattle.fx_base.proofs.Lists.{each-all}
use Rattle.fx_language.specs.declared.symbol.Symbol.{Symbol}
use Rattle.fx_language.specs.declared.symbol.Symbol.TheVariants.{Output, Blockname, Designrep, Novalran, OpenBracket}
use Rattle.fx_language.specs.declared.symbol.Symbol.TheVariants.{Pointrep, Randomize}
use Rattle.fx_language.specs.Symbols.{is, is_output_option, is_word}
use Rattle.fx_text.specs.declared.refusal.Refusal.{Refusal}
use Rattle.fx_text.specs.Names.{IsName, is_same_name, place_of}
use Rattle.fx_text.specs.Refusals.{◌>>=◌}
use Rattle.fx_text.specs.Sentences.{HasNames, IsAccepted, symbols_in}
use Rattle.fx_language.specs.Shapes.{Matches}
use Rattle.fx_language.specs.Grammar as grammar
use Rattle.fx_text.specs.Written.{Written, begins}
use Rattle.fx_outputs.specs.declared.earlier.EarlierPlan.{EarlierPlan}
use Rattle.fx_outputs.specs.declared.output.OutputSpec.{OutputSpec}
use Rattle.fx_outputs.specs.Contexts.{Context}
use Rattle.fx_outputs.specs.Histories.{built}
use Rattle.fx_outputs.specs.Options.{option_of, options_of}
use Rattle.fx_outputs.specs.Earlier.{plan_names}
use Rattle.fx_outputs.specs.BlockColumns.{check_blockname, check_column, check_free, has_blocks, name_or_empty}
use Rattle.fx_outputs.specs.BlockColumns.{column_name}
use Rattle.fx_outputs.specs.Outputs.{names_of, output_spec, outputs_behind, outputs_of, plan_behind}
use Rattle.fx_outputs.specs.Validity.{HasItsNames}
use Rattle.fx_text.proofs.Distinct as distinct
use Rattle.fx_text.proofs.ByLexemes.{Reads, reads}
use Rattle.fx_outputs.proofs.OptionCuts.{apart, options_law}
use Rattle.fx_outputs.proofs.OptionParts as parts
use Rattle.fx_outputs.proofs.Taken.{not_found, taken, unless}

-- What holds before the first statement, and after each OUTPUT statement that is read, holds of all.
module _ (context : Context) (Q : List Written → Type 0) (P : List EarlierPlan → List OutputSpec → Type 0)
    (read : (earlier : List EarlierPlan) (outputs : List OutputSpec) (a b c d : Written) (options : List Written)
    (output : OutputSpec)
    → Q (a ∷ b ∷ c ∷ d ∷ options) → is Output a.symbol ≡ true
    → output_spec context earlier a d (options_of (d ∷ options)) ≡ Ok output
    → P earlier outputs → P (earlier ++ plan_behind context earlier output ∷ []) (outputs ++ output ∷ [])) where
  one : (earlier : List EarlierPlan) (outputs all : List OutputSpec) (flag : Bool) (given : Result OutputSpec Refusal)
      (later : OutputSpec → Result (List OutputSpec) Refusal) (passed : Result (List OutputSpec) Refusal)
      → ((output : OutputSpec) → flag ≡ true → given ≡ Ok output
      → P (earlier ++ plan_behind context earlier output ∷ []) (outputs ++ output ∷ []))
      → ((output : OutputSpec) → P (earlier ++ plan_behind context earlier output ∷ []) (outputs ++ output ∷ [])
      → later output ≡ Ok all
      → (last : List EarlierPlan) × P last all)
      → (passed ≡ Ok all → (last : List EarlierPlan) × P last all)
      → (if flag then (given >>= later) else passed) ≡ Ok all → (last : List EarlierPlan) × P last all
  one earlier outputs all false given later passed here go pass e = pass e
  one earlier outputs all true (Err refusal) later passed here go pass e = cc e
  one earlier outputs all true (Ok output) later passed here go pass e = go output (here output refl refl) e

  pub holds_of_all : (statements : List (List Written)) (earlier : List EarlierPlan) (outputs all : List OutputSpec)
      → AllByRecursion Q statements → P earlier outputs
      → outputs_behind context earlier outputs statements ≡ Ok all → (last : List EarlierPlan) × P last all
  holds_of_all [] earlier outputs all each h e = let same : outputs ≡ all = cc e in (earlier, subst (P earlier) same h)
  holds_of_all ([] ∷ rest) earlier outputs all each h e = holds_of_all rest earlier outputs all each.1 h e
  holds_of_all ((a ∷ []) ∷ rest) earlier outputs all each h e = holds_of_all rest earlier outputs all each.1 h e
  holds_of_all ((a ∷ b ∷ []) ∷ rest) earlier outputs all each h e = holds_of_all rest earlier outputs all each.1 h e
  holds_of_all ((a ∷ b ∷ c ∷ []) ∷ rest) earlier outputs all each h e = holds_of_all rest earlier outputs all each.1 h e
  holds_of_all ((a ∷ b ∷ c ∷ d ∷ options) ∷ rest) earlier outputs all each h e =
      one earlier outputs all _ _
      _
      _
      (λ output begun taken. read earlier outputs a b c d options output each.0 begun taken h)
      (λ output good more. holds_of_all rest (earlier ++ plan_behind context earlier output ∷ [])
      (outputs ++ output ∷ []) all each.1 good more)
      (holds_of_all rest earlier outputs all each.1 h) e

-- BLOCKNAME, `=` and a name
record HasBlockName (written : List Written) : Type 0 where
  word : Written
  equals : Written
  name : Written
  rest : List Written
  all : written ≡ word ∷ equals ∷ name ∷ rest
  is_name : is_word name.symbol ≡ true

another : (o : List Written) (w : Written) (more : List Written) (test : Symbol → Bool) → test w.symbol ≡ true
    → test Blockname ≡ false → o ≡ w ∷ more → begins Blockname o ≡ true → HasBlockName o
another o w more test it other all begun =
    absurd (let f : false ≡ true = sym (apart Blockname test w.symbol other it) ∙ (rw all at begun) in cc)

block_option : (o : List Written) → Reads grammar.option o → begins Blockname o ≡ true → HasBlockName o
block_option o (inl (x, y, (w, hw, ew), h, i)) = another o w y (is Pointrep) hw refl (rw ew at i)
block_option o (inr (inl (x, y, (w, hw, ew), h, i))) = another o w y (is Designrep) hw refl (rw ew at i)
block_option o (inr (inr (inl (x, y, (w, hw, ew), h, i)))) = another o w y (is Randomize) hw refl (rw ew at i)
block_option o (inr (inr (inr (inl (w, hw, ew))))) = another o w [] (is Novalran) hw refl ew
block_option o
    (inr (inr (inr (inr (inl (x1, y1, (b, hb, eb), (x2, y2, (e, he, ee), (x3, y3, (w, hw, ew), v, i3), i2), i1)))))) =
    λ begun. record { word = b; equals = e; name = w; rest = y3; all = rw (eb, i2, ee, i3, ew) at i1; is_name = hw }
block_option o (inr (inr (inr (inr (inr (inl (x, y, (w, hw, ew), h, i))))))) =
    another o w y (λ s. is_word s && not (is_output_option s)) hw refl (rw ew at i)
block_option o (inr (inr (inr (inr (inr (inr (x, y, (w, hw, ew), h, i))))))) =
    another o w y (is OpenBracket) hw refl (rw ew at i)

block_found : (options : List (List Written)) → AllByRecursion (λ o. Matches grammar.option (symbols_in o)) options
    → (option_of Blockname options ≡ []) ⊎ HasBlockName (option_of Blockname options)
block_found [] each = inl refl
block_found (o ∷ options) each = by_test _ refl (block_found options each.1)
  where
    by_test : (b : Bool) → begins Blockname o ≡ b
        → (option_of Blockname options ≡ []) ⊎ HasBlockName (option_of Blockname options)
        → ((if b then o else option_of Blockname options) ≡ [])
        ⊎ HasBlockName (if b then o else option_of Blockname options)
    by_test true begun later = inr (block_option o (reads grammar.option o _ refl each.0) begun)
    by_test false other later = later

is_free : (factors : List (List ℕ)) (name : List ℕ) (w : Written) → check_free factors name w ≡ Ok tt
    → place_of name factors ≡ None
is_free factors name w e =
    not_found _ (unless _ _ e)

pub its_names : (context : Context) (earlier : List EarlierPlan) (a b c d : Written) (options : List Written)
    (output : OutputSpec)
    → IsAccepted (a ∷ b ∷ c ∷ d ∷ options) → is Output a.symbol ≡ true
    → output_spec context earlier a d (options_of (d ∷ options)) ≡ Ok output → HasItsNames context output
its_names context earlier a b c d options output accepted begun e =
    let all = options_of (d ∷ options) in
    let t = taken context earlier a d all output e in
    let r = options_law (a ∷ b ∷ c ∷ d ∷ options) (accepted.by_its_word.output begun) in
    let here : d ≡ r.name = cc r.statement in
    let others : options ≡ r.options = cc r.statement in
    let name =
    accepted.names.1.1.1.0 (rw (← here) at r.is_name) in
    let found =
    block_found all
    (subst (λ l. AllByRecursion (λ o. Matches grammar.option (symbols_in o)) (options_of l))
    (sym (ap₂ (λ (w : Written) (l : List Written). w ∷ l) here others)) r.each) in
    let names =
    parts.option (λ w. is_word w.symbol ≡ true → IsName w.text) Blockname all
    (parts.options (λ w. is_word w.symbol ≡ true → IsName w.text) [] false (d ∷ options) tt accepted.names.1.1.1) in
    record {
      name = subst IsName (sym t.name_is) name;
      block_name =
          rw t.block_name_is (block_name _ names found);
      column = λ with_blocks. rw t.block_name_is (column _ names found with_blocks t.free);
      no_column = λ without. cc (no_column _ without t.named);
    }
  where
    block_name : (f : List Written) → HasNames f → (f ≡ []) ⊎ HasBlockName f → name_or_empty (slice_get f 2) ≢ []
        → IsName (name_or_empty (slice_get f 2))
    block_name f names (inl empty) some = absurd (some (ap (λ l. name_or_empty (slice_get l 2)) empty))
    block_name f names (inr h) some =
        let named = subst HasNames h.all names in
        (rw h.all (named.1.1.0 h.is_name))

    same_column : (n : List ℕ) → IsName n → column_name n ≡ n
    same_column [] named = absurd (omega arith)
    same_column (x ∷ n) named = refl

    column : (f : List Written) → HasNames f → (f ≡ []) ⊎ HasBlockName f → has_blocks context.blocks ≡ true
        → check_column context a (slice_get f 2) ≡ Ok tt
        → place_of (column_name (name_or_empty (slice_get f 2))) context.factors ≡ None
    column f names (inl empty) with_blocks free =
        let nothing = rw empty at free in
        let tested =
        rw with_blocks at nothing
        in
        subst (λ l. place_of (column_name (name_or_empty (slice_get l 2))) context.factors ≡ None)
        (sym empty) (is_free context.factors (codes "BLOCK") a tested)
    column f names (inr h) with_blocks free =
        let named = subst HasNames h.all names in
        let tested = rw h.all at free in
        rw h.all (rw (← (same_column h.name.text (named.1.1.0 h.is_name))) at
        (is_free context.factors h.name.text h.name tested))

    no_column : (f : List Written) → has_blocks context.blocks ≡ false
        → check_blockname context.blocks (slice_get f 0) ≡ Ok tt → name_or_empty (slice_get f 2) ≡ []
    no_column [] without named = refl
    no_column (w ∷ f) without named =
        absurd (let refused = rw without at named in
        cc refused)

pub all_have_names : (context : Context) (earlier : List EarlierPlan) (statements : List (List Written))
    (outputs : List OutputSpec) → AllByRecursion IsAccepted statements
    → outputs_of context earlier statements ≡ Ok outputs → All (HasItsNames context) outputs
all_have_names context earlier statements outputs each e =
    (holds_of_all context IsAccepted (λ before done. All (HasItsNames context) done)
    (λ before done a b c d options output accepted begun taken h. All-push (HasItsNames context) done output h
    (its_names context before a b c d options output accepted begun taken))
    statements earlier [] outputs each (All-nil _) e).1

-- a name that is new differs from each of the others
separate : (earlier : List (List ℕ)) (name : List ℕ) → IsDistinct is_same_name earlier
    → is_some (place_of name earlier) ≡ false → IsDistinct is_same_name (earlier ++ name ∷ [])
separate earlier name h new =
    distinct.joined_differ earlier (name ∷ []) h (distinct.one_differs name) (distinct.not_found earlier name new, tt)

-- the names of the plans so far
record AreNamed (earlier before : List EarlierPlan) (done : List OutputSpec) : Type 0 where
  differ : IsDistinct is_same_name (plan_names before)
  are : plan_names before ≡ plan_names earlier ++ names_of done

pub all_differ : (context : Context) (earlier : List EarlierPlan) (statements : List (List Written))
    (outputs : List OutputSpec) → IsDistinct is_same_name (plan_names earlier)
    → outputs_of context earlier statements ≡ Ok outputs
    → IsDistinct is_same_name (plan_names earlier ++ names_of outputs)
all_differ context earlier statements outputs h e =
    let last =
    holds_of_all context _ (AreNamed earlier)
    (λ before done a b c d options output accepted begun e kept.
    let t = taken context before a d (options_of (d ∷ options)) output e in
    let all =
    map-append (λ p. p.name) before (plan_behind context before output ∷ []) in
    record {
      differ =
          subst (IsDistinct is_same_name) (sym all)
          (rw (← t.name_is) at (separate _ d.text kept.differ (unless _ _ t.fresh)));
      are = cc (
        append_assoc (plan_names earlier) (names_of done) (output.name ∷ []),
        map-append (λ o. o.name) done
            (output ∷ []),
      );
    })
    statements earlier [] outputs (each-all (λ x. Unit {0}) statements (λ x. tt))
    (record { differ = h; are = sym (append-nil (plan_names earlier)) }) e in
    subst (IsDistinct is_same_name) last.1.are last.1.differ

-- the names of the plans after some outputs
pub built_names : (context : Context) (earlier : List EarlierPlan) (outputs : List OutputSpec)
    → plan_names (built (plan_behind context) earlier outputs) ≡ plan_names earlier ++ names_of outputs
built_names context earlier [] = sym (append-nil (plan_names earlier))
built_names context earlier (output ∷ outputs) =
    cc (
      built_names context (earlier ++ plan_behind context earlier output ∷ []) outputs,
      map-append (λ p. p.name)
          earlier (plan_behind context earlier output ∷ []),
      append_assoc (plan_names earlier) (output.name ∷ [])
          (names_of outputs),
    )
