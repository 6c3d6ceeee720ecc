-- Lists of places, as rows come and go.
use Rattle.std.proofs.Common.{ℕ, ◌≡◌, ◌<◌, ◌≤◌, ◌+◌, ◌-◌, ◌*◌, List, [], ◌∷◌, ◌++◌, take, replicate}
use Rattle.std.proofs.Common.{length, length-append, length-take, slice_index, slice_index_or, slice_set, sym, subst}
use Rattle.std.proofs.Common.{ap, ◌∙◌, arith, inl, inr}
use Rattle.std.proofs.lemmas.Bool.{cases_eq, cases_lt}
use Rattle.std.proofs.lemmas.List.{get_or-replicate, length-replicate, length-set, get_or-set_other}
use Rattle.std.proofs.lemmas.Grind.{get_or-set_at}
use Rattle.fx_demands.specs.declared.forbidden_list.ForbiddenVector.{ForbiddenVector}
use Rattle.fx_barred.specs.FirstWords.{sum_to, vector_at, AreWords}
use Rattle.fx_barred.specs.Reached.{ReachedView}
use Rattle.fx_barred.specs.Places.{StandFor, IsRange, IsList, AreLists, place_at, place_count}
use Rattle.fx_barred.proofs.Firsts.{last-of-class, sum-before}
use Rattle.fx_barred.proofs.Standing.{stand-later, stand-range}
use Rattle.fx_barred.proofs.Tables.{all-but-last}
use Rattle.fx_vectors.specs.declared.shape.TheConstants.{MOST_FACTORS}

-- a list, or all places where it is empty, stands for all
pub stands-at : (reached : ReachedView) (words : List ForbiddenVector) (i l d start end : ℕ) (list : List ℕ)
    → IsRange words i start end → IsList reached words i l list → i - (16 - 4 * l) ≤ d → d ≤ i
    → StandFor reached.q reached.m reached.rows words i d (place_at list start) (place_count list start end)
stands-at reached words i l d start end [] range h le low =
    stand-range reached.q reached.m reached.rows words i d start end range.le range.within range.has
stands-at reached words i l d start end (p ∷ list) range h le low =
    stand-later reached.q reached.m reached.rows words i _ d _
    _ le low (h.stand (let some : 0 < length (p ∷ list) = omega arith in some))

-- the list at a place
pub stands-in : (reached : ReachedView) (words : List ForbiddenVector) (i l d start end : ℕ) (lists : List (List ℕ))
    (place : ℕ) (other : List ℕ) → IsRange words i start end → AreLists reached words lists → i < reached.room → l < 4
    → place ≡ 4 * i + l → i - (16 - 4 * l) ≤ d → d ≤ i
    → slice_index_or lists place other ≡ slice_index_or lists place []
    → StandFor reached.q reached.m reached.rows words i d (place_at (slice_index_or lists place other) start)
    (place_count (slice_index_or lists place other) start end)
stands-in reached words i l d start end lists place other range h room few at le low same =
    rw (same ∙ ap (λ k. slice_index_or lists k []) at)
    (stands-at reached words i l d start end _ range (h.each i l room few) le low)

abbrev any : ForbiddenVector
any = record { vector = []; class = 0; number = 0 }

-- where the classes put them
pub range-is : (q s : ℕ) (words : List ForbiddenVector) (i start end : ℕ) → AreWords q s words → s ≤ MOST_FACTORS
    → start ≤ length words → end ≤ length words
    → ((k : ℕ) (d : ForbiddenVector) → k < start → (slice_index_or words k d).class < 64 * (i + 1))
    → ((k : ℕ) (d : ForbiddenVector) → start ≤ k → k < length words
    → 64 * (i + 1) ≤ (slice_index_or words k d).class)
    → ((k : ℕ) (d : ForbiddenVector) → k < end → (slice_index_or words k d).class < 64 * (i + 2))
    → ((k : ℕ) (d : ForbiddenVector) → end ≤ k → k < length words
    → 64 * (i + 2) ≤ (slice_index_or words k d).class)
    → IsRange words i start end
range-is q s words i start end are small start_low end_low before after before_end after_end =
    record {
      le = elim (cases_lt end start) [
        | inl less ↦
            let a = before end any less in
            let b = after_end end any (let le : end ≤ end = omega arith in le) (omega arith) in
            absurd (omega arith)
        | inr le ↦ le
      ];
      within = λ k h.
          (let at = last-of-class q s words k any are small h.there in
          let last = h.last in (
            elim (cases_lt k start) [
              | inl less ↦ let a = before k any less in absurd (omega arith)
              | inr le ↦ le
            ],
            elim (cases_lt k end) [
              | inl less ↦ less
              | inr le ↦ let a = after_end k any le h.there in absurd (omega arith)
            ],
          ));
      has = λ k le less.
          (let low : k < length words = omega arith in
          let at = last-of-class q s words k any are small low in
          let a = after k any le low in
          let b = before_end k any less in
          record { there = low; last = omega arith });
    }

-- a new list for all rows
pub lists-set : (reached : ReachedView) (words : List ForbiddenVector) (l : ℕ) (lists : List (List ℕ)) (made : List ℕ)
    → AreLists reached words lists → length reached.rows < reached.room → 0 < l → l < 4
    → (0 < length made → StandFor reached.q reached.m reached.rows words (length reached.rows)
    (length reached.rows - (16 - 4 * l)) (slice_index made) (length made))
    → AreLists reached words (slice_set lists (4 * length reached.rows + l) made)
lists-set reached words l lists made h room some few stand =
    record {
      len = cc (length-set lists (4 * length reached.rows + l) made);
      each = λ i k low small.
          elim (cases_eq (4 * i + k) (4 * length reached.rows + l)) [
            | inl same ↦
                let i_is : i ≡ length reached.rows = omega arith in
                let k_is : k ≡ l = omega arith in
                rw (get_or-set_at lists _ _ made [] same (let len = h.len in omega arith))
                (subst (λ j. IsList reached words j k made) (sym i_is)
                (subst (λ j. IsList reached words (length reached.rows) j made) (sym k_is)
                (record { some = λ _. some; within = λ _. (omega arith); stand = stand })))
            | inr apart ↦
                rw (get_or-set_other lists (4 * length reached.rows + l) (4 * i + k) made [] apart)
                (h.each i k low small)
          ];
    }

-- the same sums over the first d rows
pub stand-rows : (q m : ℕ) (rows other : List ℕ) (words : List ForbiddenVector) (i d : ℕ) (at : ℕ → ℕ) (count : ℕ)
    → ((v : List ℕ) → sum_to q m other v d ≡ sum_to q m rows v d) → StandFor q m rows words i d at count
    → StandFor q m other words i d at count
stand-rows q m rows other words i d at count same h =
    record {
      each = h.each;
      rising = h.rising;
      all = λ k has.
          (let s = h.all k has in
          record {
            index = s.index;
            low = s.low;
            before = s.before;
            alike =
                record {
                  sum = cc (same (vector_at words (at s.index)), s.alike.sum, same (vector_at words k));
                  codes = s.alike.codes;
                };
          });
    }

-- with one row more
pub lists-push : (reached : ReachedView) (x : ℕ) (words : List ForbiddenVector) (lists : List (List ℕ))
    → AreLists reached words lists
    → AreLists (record reached { rows = reached.rows ++ x ∷ [] }) words lists
lists-push reached x words lists h =
    record {
      len = h.len;
      each = λ i l low few.
          (let is = h.each i l low few in
          let long = length-append reached.rows (x ∷ []) in
          record {
            some = is.some;
            within = λ full. (let w = is.within full in omega arith);
            stand = λ full.
                (let w = is.within full in
                stand-rows reached.q reached.m reached.rows _ words i _
                _ _
                (λ v. sum-before reached.q reached.m reached.rows x v (i - (16 - 4 * l)) (omega arith))
                (is.stand full));
          });
    }

-- with one row less, where the lists that took it into their sums are emptied
pub lists-pop : (reached : ReachedView) (words : List ForbiddenVector) (lists other : List (List ℕ))
    → 0 < length reached.rows → AreLists reached words lists → length other ≡ length lists
    → ((k : ℕ) → 0 < length (slice_index_or other k []) → slice_index_or other k [] ≡ slice_index_or lists k [])
    → ((l : ℕ) → 0 < l → l < 4 → slice_index_or other (4 * (length reached.rows + (16 - 4 * l)) + l) [] ≡ [])
    → AreLists (record reached { rows = take (length reached.rows - 1) reached.rows }) words other
lists-pop reached words lists other some h len kept dropped =
    record {
      len = cc;
      each = λ i l low few.
          (let old = h.each i l low few in
          let n = length reached.rows - 1 in
          let front = take n reached.rows in
          let last = slice_index reached.rows n in
          let whole = all-but-last reached.rows some in
          let short : length front ≡ n = length-take n reached.rows ∙ (omega arith) in
          let list = slice_index_or other (4 * i + l) [] in
          let same = kept (4 * i + l) in
          let full_old : 0 < length list → 0 < length (slice_index_or lists (4 * i + l) []) =
          λ full. rw (same full) at full in
          let within : 0 < length list → i ≤ n + (16 - 4 * l) =
          λ full.
          (let w = old.within (full_old full) in
          let up = old.some (full_old full) in
          elim (cases_eq i (length reached.rows + (16 - 4 * l))) [
            | inl late ↦
                let gone : list ≡ [] =
                cc (dropped l up few) in
                let none = ap length gone in
                absurd (omega arith)
            | inr early ↦ (omega arith)
          ]) in
          record {
            some = λ full. old.some (full_old full);
            within = λ full. (let w = within full in omega arith);
            stand = λ full.
                (let w = within full in
                rw (same full) (stand-rows reached.q reached.m reached.rows front words i _
                _ _
                (λ v. sym (sum-before reached.q reached.m front last v (i - (16 - 4 * l)) (omega arith))
                ∙ ap (λ r. sum_to reached.q reached.m r v (i - (16 - 4 * l))) whole)
                (old.stand (full_old full))));
          });
    }

-- empty lists
pub lists-start : (reached : ReachedView) (words : List ForbiddenVector) (lists : List (List ℕ)) (count : ℕ)
    → count ≡ 4 * reached.room → lists ≡ replicate count [] → AreLists reached words lists
lists-start reached words lists count is empty =
    record {
      len = ap length empty ∙ length-replicate count [] ∙ is;
      each = λ i l low few.
          (let none : slice_index_or lists (4 * i + l) [] ≡ [] =
          ap (λ (x : List (List ℕ)). slice_index_or x (4 * i + l) []) empty
          ∙ get_or-replicate count (4 * i + l) [] [] (omega arith) in
          let len : length (slice_index_or lists (4 * i + l) []) ≡ 0 = ap length none in
          record {
            some = λ full. absurd (omega arith);
            within = λ full. absurd (omega arith);
            stand = λ full. absurd (omega arith);
          });
    }
