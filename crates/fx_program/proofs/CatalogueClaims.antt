-- What the lines of a catalogue claim holds.
use Rattle.std.proofs.Common.{ℕ, ◌≡◌, ◌<◌, ◌≤◌, ◌+◌, ◌-◌, Bool, true, false, zero, suc, List, [], ◌∷◌, ◌++◌, map}
use Rattle.std.proofs.Common.{refl, sym, ap, subst, ◌∙◌, arith, Result, Ok}
use Rattle.std.specs.Prelude.{IfOk, if◌then◌else◌, ◌||◌}
use Rattle.std.specs.List.{AllByRecursion, list_any, range_with_len}
use Rattle.std.proofs.lemmas.List.Elements.{All-from_recursion}
use Rattle.fx_designs.specs.Matrices.{NoneMeets}
use Rattle.fx_designs.specs.Problems.{AtResolution}
use Rattle.fx_vectors.specs.declared.shape.Shape.{Shape}
use Rattle.fx_vectors.specs.Shape.{dimensions_of}
use Rattle.fx_catalogue.specs.Catalogues.{Entry, entries, entries_status, entry_at, is_nothing, shape_at}
use Rattle.fx_catalogue.specs.Catalogues.{up_to}
use Rattle.fx_catalogue.specs.Laws.{Holds}
use Rattle.fx_catalogue.specs.Lines.{line_of}
use Rattle.fx_catalogue.specs.declared.line.Line.{Line}
use Rattle.fx_catalogue.specs.declared.line.Line.TheVariants.{Least, Nothing, Budget}
use Rattle.fx_catalogue.proofs.Claimed.{holds}
use Rattle.fx_catalogue.proofs.Fewer.{none-above}
use Rattle.fx_program.specs.Claims.{CatalogueHolds, EndsWithNone}
use Rattle.fx_program.specs.CommandLine.{HasShapes, IsCatalogue}
use Rattle.fx_program.specs.Commands.{command_for}
use Rattle.fx_program.specs.Output.{Output}
use Rattle.fx_program.specs.Outside.{IsCarriedOut, Outside}
use Rattle.fx_program.specs.Stops.{exit_status}
use Rattle.fx_program.specs.declared.stop.Stop.{Stop}
use Rattle.fx_program.specs.declared.words.Settings.{Settings}
use Rattle.fx_program.specs.declared.words.Settings.TheVariants.{Catalogue}
use Rattle.fx_program.specs.declared.word_fault.WordFault.{WordFault}
use Rattle.fx_program.proofs.CatalogueLines.{line_shape}

-- a line without a design claims that there is none
none_claimed : (shape : Shape) (budget : ℕ) (line : Line) → Holds shape budget line → is_nothing line ≡ true
    → NoneMeets (dimensions_of shape) (AtResolution 3)
none_claimed shape budget (Least matrix pattern nodes book) h e = absurd (cc e)
none_claimed shape budget (Nothing nodes book) h e = h.none
none_claimed shape budget Budget h e = absurd (cc e)

-- status 1 comes of a line without a design
some_nothing : (b n : Bool) → ◌≡◌ {A = ℕ} (if b then 2 else (if n then 1 else 0)) 1 → n ≡ true
some_nothing true n e = absurd (omega (arith, e))
some_nothing false true e = refl
some_nothing false false e = absurd (omega (arith, e))

module _ (q m budget : ℕ) where
  abbrev list_from : ℕ → ℕ → List Entry
  list_from s n = up_to (λ (e : Entry). is_nothing e.line) (map (entry_at q m budget) (range_with_len s n))

  -- what holds of each line for some numbers of factors
  pub each_line : (P : Entry → Type 0) (n s : ℕ) → ((x : ℕ) → s ≤ x → x < s + n → P (entry_at q m budget x))
      → AllByRecursion P (list_from s n)
  each_line P zero s h = tt
  each_line P (suc n) s h = (
    h s (omega arith) (omega arith),
    elim (is_nothing (line_of (shape_at q m s) budget)) as
        (λ b. AllByRecursion P (if b then [] else list_from (s + 1) n)) [
          | true ↦ tt
          | false ↦ each_line P n (s + 1) (λ x from upto. h x (omega (arith, from)) (omega (arith, upto)))
        ],
  )

  -- the last line, where one has no design
  record Last (list : List Entry) (s n : ℕ) : Type 0 where
    pub earlier : List Entry
    pub factors : ℕ
    pub behind : list ≡ earlier ++ entry_at q m budget factors ∷ []
    pub nothing : is_nothing (line_of (shape_at q m factors) budget) ≡ true
    pub from : s ≤ factors
    pub upto : factors < s + n

  abbrev has_nothing : List Entry → Bool
  has_nothing list = list_any (λ (e : Entry). is_nothing e.line) list

  last_by : (n s : ℕ) (b : Bool) → is_nothing (line_of (shape_at q m s) budget) ≡ b
      → (has_nothing (list_from (s + 1) n) ≡ true → Last (list_from (s + 1) n) (s + 1) n)
      → (b || has_nothing (if b then [] else list_from (s + 1) n)) ≡ true
      → Last (entry_at q m budget s ∷ (if b then [] else list_from (s + 1) n)) s (suc n)
  last_by n s true is later h = record {
    earlier = [];
    factors = s;
    behind = refl;
    nothing = is;
    from = omega arith;
    upto = omega arith;
  }
  last_by n s false is later h =
      let last = later h in
      record {
        earlier = entry_at q m budget s ∷ last.earlier;
        factors = last.factors;
        behind = ap (λ (l : List Entry). entry_at q m budget s ∷ l) last.behind;
        nothing = last.nothing;
        from = omega (arith, last.from);
        upto = omega (arith, last.upto);
      }

  last_of : (n s : ℕ) → has_nothing (list_from s n) ≡ true → Last (list_from s n) s n
  last_of zero s some = absurd (cc some)
  last_of (suc n) s some =
      last_by n s (is_nothing (line_of (shape_at q m s) budget)) refl (last_of n (s + 1)) some

module _ {q m most budget : ℕ} (h : IsCatalogue q m most budget) where
  line_holds : (s : ℕ) → m < s → s ≤ most → Holds (shape_at q m s) budget (line_of (shape_at q m s) budget)
  line_holds s more upto = holds (shape_at q m s) (line_shape h s more upto) refl budget

  ends_with_none : entries_status (entries q m most budget) ≡ 1 → EndsWithNone q m (entries q m most budget)
  unfolding entries
  ends_with_none one =
      let last = last_of q m budget (most - m) (m + 1) (some_nothing _ _ one) in
      let upto : last.factors ≤ most = omega (arith, last.upto, h.dependent) in
      let more : m < last.factors = omega (arith, last.from) in
      record {
        earlier = last.earlier;
        last = entry_at q m budget last.factors;
        behind = last.behind;
        nothing = last.nothing;
        none =
            none-above (dimensions_of (shape_at q m last.factors)) h.order 3
            (none_claimed _ budget _ (line_holds last.factors more upto) last.nothing);
      }

  pub catalogue_holds : (status : ℕ) → status ≡ entries_status (entries q m most budget)
      → CatalogueHolds q m most budget status
  unfolding entries
  catalogue_holds status is = record {
    lines =
        All-from_recursion _ (entries q m most budget)
        (each_line q m budget (λ (e : Entry). Holds (shape_at q m e.factors) budget e.line) (most - m) (m + 1)
        (λ x from upto. line_holds x (omega (arith, from)) (omega (arith, upto, h.dependent))));
    none = λ one. ends_with_none (sym is ∙ one);
  }

-- where the command `catalogue` ends
pub catalogued : {asked : Result Settings WordFault} {old new : Outside} {ended : Result ℕ Stop}
    (q m most threads budget : ℕ) → asked ≡ Ok (Catalogue q m most threads budget) → IfOk asked HasShapes
    → IsCarriedOut (command_for asked) old new ended → exit_status ended < 3
    → CatalogueHolds q m most budget (exit_status ended)
catalogued {asked} {old} {new} {ended} q m most threads budget is shapes done low =
    let numbers = subst (λ (a : Result Settings WordFault). IfOk a HasShapes) is shapes in
    let own = subst (λ (a : Result Settings WordFault). IsCarriedOut (command_for a) old new ended) is done in
    catalogue_holds numbers (exit_status ended)
    (own.ends.gives.same (omega (arith, low)) ∙ ap (λ (o : Output). o.status) own.given)
