-- The first records of a text, as a reader gives them one after another.
use Rattle.std.proofs.Common.{ℕ, zero, suc, ◌≡◌, ◌<◌, ◌≤◌, ◌+◌, ◌-◌, ◌⊎◌, Bool, true, false, cond, List, [], ◌∷◌, ◌++◌}
use Rattle.std.proofs.Common.{length, take, Option, Some, None, refl, sym, ◌∙◌, arith, inl, inr}
use Rattle.std.proofs.Common.{zero-add, append-nil}
use Rattle.std.proofs.lemmas.List.{take_all, take_at}
use Rattle.csv.specs.Machine.{Read, next_record, step, fields_after, field_after}
use Rattle.csv.specs.Reading.{Reached, records_from, records, default_config, strip_bom}
use Rattle.csv.specs.declared.parser.Config.{Config}
use Rattle.csv.specs.declared.parser.State.{State}
use Rattle.csv.specs.declared.parser.State.TheVariants as st
use Rattle.fx_judge.specs.Reading.{csv_records}

-- what is left after a record is shorter than this, or nothing
abbrev Shorter : ℕ → Read → Type 0
Shorter n p = (length p.2 < n) ⊎ ((p.1 ≡ st.StartRecord) × (p.2 ≡ []))

last_read : (t : Bool) (fields : List (List ℕ)) (p : Read) → cond t (Some (fields, st.StartRecord, [])) None ≡ Some p
    → (p.1 ≡ st.StartRecord) × (p.2 ≡ [])
last_read true fields p e =
    let d : ◌≡◌ {A = Read} (fields, st.StartRecord, []) p = cc in
    (cc, cc)
last_read false fields p e = cc e

one_less : (t : Bool) (fields : List (List ℕ)) (s : State) (rest : List ℕ) (p : Read) (o : Option Read)
    → (o ≡ Some p → Shorter (length rest) p) → cond t (Some (fields, s, rest)) o ≡ Some p → Shorter (length rest + 1) p
one_less true fields s rest p o more e =
    let d : ◌≡◌ {A = Read} (fields, s, rest) p = cc in
    let same : length rest ≡ length p.2 = cc in
    inl (omega arith)
one_less false fields s rest p o more e = elim (more e) [ inl h ↦ inl (omega arith) | inr h ↦ inr h ]

shorter : (cfg : Config) (s : State) (fields : List (List ℕ)) (field : List ℕ) (xs : List ℕ) (p : Read)
    → next_record cfg s fields field xs ≡ Some p → Shorter (length xs) p
unfolding next_record
shorter cfg s fields field [] p e = inr (last_read _ _ p e)
shorter cfg s fields field (c ∷ rest) p e =
    let one : length rest + 1 ≡ suc (length rest) = omega arith in
    rw one at (one_less _ _ (step cfg s c).0 rest p
    _
    (shorter cfg (step cfg s c).0 (fields_after (step cfg s c).1 fields field) (field_after (step cfg s c).1 c field)
    rest p) e)

none_left : (cfg : Config) → next_record cfg st.StartRecord [] [] [] ≡ None
unfolding next_record
none_left cfg = refl

no_more : (cfg : Config) (rows : List (List (List ℕ))) (s2 : State) (ys : List ℕ)
    → Reached cfg st.StartRecord [] rows s2 ys → length rows ≡ 0
unfolding Reached
no_more cfg [] s2 ys h = refl
no_more cfg (r ∷ rows) s2 ys h = let e = sym (none_left cfg) ∙ h.1 in cc e

-- there are at most as many records as bytes, and one
few : (cfg : Config) (s : State) (xs : List ℕ) (rows : List (List (List ℕ))) (s2 : State) (ys : List ℕ)
    → Reached cfg s xs rows s2 ys → length rows ≤ length xs + 1
unfolding Reached
few cfg s xs [] s2 ys h = omega arith
few cfg s xs (r ∷ rows) s2 ys h =
    elim (shorter cfg s [] [] xs h.0 h.1) [
      | inl l ↦ omega (arith, few cfg h.0.1 h.0.2 rows s2 ys h.3)
      | inr z ↦
          omega (arith, no_more cfg rows s2 ys (rw z.0 at (rw z.1 at h.3)))
    ]

-- the records that were reached, and then those that are left
joined : (cfg : Config) (s : State) (xs : List ℕ) (rows : List (List (List ℕ))) (s2 : State) (ys : List ℕ) (k : ℕ)
    → Reached cfg s xs rows s2 ys → records_from cfg (length rows + k) s xs ≡ rows ++ records_from cfg k s2 ys
unfolding Reached records_from
joined cfg s xs [] s2 ys k h =
    cc (zero-add k)
joined cfg s xs (r ∷ rows) s2 ys k h =
    let one : suc (length rows) + k ≡ suc (length rows + k) = omega arith in
    cc (h.1, h.2, joined cfg h.0.1 h.0.2 rows s2 ys k h.3)

ended : (cfg : Config) (s : State) (ys : List ℕ) (k : ℕ) → next_record cfg s [] [] ys ≡ None
    → records_from cfg k s ys ≡ []
unfolding records_from
ended cfg s ys zero e = refl
ended cfg s ys (suc k) e = cc

-- the records of a text are those that were reached, and then those that are left
all_records : (cfg : Config) (xs : List ℕ) (rows : List (List (List ℕ))) (s2 : State) (ys : List ℕ)
    → Reached cfg st.StartRecord xs rows s2 ys
    → records cfg xs ≡ rows ++ records_from cfg (length xs + 1 - length rows) s2 ys
all_records cfg xs rows s2 ys h =
    let room = few cfg st.StartRecord xs rows s2 ys h in
    let split : length xs + 1 ≡ length rows + (length xs + 1 - length rows) = omega arith in
    cc (joined cfg st.StartRecord xs rows s2 ys (length xs + 1 - length rows) h)

-- where none is left
pub whole_text : (text : List ℕ) (rows : List (List (List ℕ))) (s2 : State) (ys : List ℕ) (n : ℕ)
    → Reached default_config st.StartRecord (strip_bom text) rows s2 ys
    → next_record default_config s2 [] [] ys ≡ None → length rows < n → rows ≡ take n (csv_records text)
unfolding csv_records
whole_text text rows s2 ys n h none few =
    let all : records default_config (strip_bom text) ≡ rows =
    cc (
      all_records default_config _ rows s2 ys h,
      ended default_config s2 ys (length (strip_bom text) + 1 - length rows) none,
      append-nil rows,
    ) in
    sym (cc (take_all n rows (omega arith)))

-- where enough were reached
pub front_of_text : (text : List ℕ) (rows : List (List (List ℕ))) (s2 : State) (ys : List ℕ) (n : ℕ)
    → Reached default_config st.StartRecord (strip_bom text) rows s2 ys
    → length rows ≡ n → rows ≡ take n (csv_records text)
unfolding csv_records
front_of_text text rows s2 ys n h len =
    sym (cc (
      all_records default_config _ rows s2 ys h,
      take_at rows (records_from default_config (length (strip_bom text) + 1 - length rows) s2 ys) n len,
    ))
