-- The values of components on the runs of a plan.
use Rattle.std.proofs.Common.{ℕ, ◌≡◌, ◌<◌, ◌+◌, List, [], ◌∷◌, ◌++◌, length, map, take, drop, get_or, sym}
use Rattle.std.proofs.Common.{◌∙◌, ap, ap₂, arith, append_assoc}
use Rattle.std.specs.List.{flat_map}
use Rattle.std.proofs.lemmas.List.{drop-map, drop_more, map-append, take_more}
use Rattle.std.proofs.lemmas.Simd.{map-map}
use Rattle.std.proofs.lemmas.Grind.{flat_map-append}
use Rattle.fx_designs.specs.Vectors.{dot}
use Rattle.fx_laws.proofs.Linear.{dot_code}
use Rattle.fx_laws.proofs.Tables.{is_order-field}
use Rattle.fx_vectors.proofs.Limits.{order-bounds}
use Rattle.fx_judge.specs.declared.pairs.Column.{Column}
use Rattle.fx_judge.specs.declared.pairs.Pairs.{Pairs}
use Rattle.fx_judge.specs.Columns.{HasPairs, IsColumn}
use Rattle.fx_judge.specs.Listing.{kinship_in, line_in, pairs_in}
use Rattle.fx_judge.specs.Plans.{IsPlan, PlanView}
use Rattle.fx_judge.proofs.Counts.{value_at}

pub column_value : (plan : PlanView) (u : Column) → IsColumn plan u → (i : ℕ) → i < length plan.rows
    → get_or u.values i 0 ≡ dot plan.q u.component (get_or plan.rows i [])
column_value plan u h i low =
    cc (h.values, value_at (dot plan.q u.component) plan.rows i [] low)

pub column_code : (plan : PlanView) → IsPlan plan → (u : Column) → IsColumn plan u → (i : ℕ) → i < length plan.rows
    → get_or u.values i 0 < 9
column_code plan p u h i low =
    omega (
      arith,
      column_value plan u h i low,
      (order-bounds plan.q p.order).1,
      dot_code plan.q
          (is_order-field plan.q p.order) u.component (get_or plan.rows i []),
    )

-- pairs, and more of them
joined : (plan : PlanView) (xs ys : List (List ℕ × List ℕ)) (old now new : Pairs) → HasPairs plan xs old now
    → HasPairs plan ys now new → HasPairs plan (xs ++ ys) old new
joined plan xs ys old now new a b = record {
  kinds = cc (
    b.kinds,
    a.kinds,
    append_assoc old.kinds (map (kinship_in plan) xs) (map (kinship_in plan) ys),
    map-append (kinship_in plan) xs ys,
  );
  lines = cc (
    b.lines,
    a.lines,
    append_assoc old.lines (flat_map (line_in plan) xs) (flat_map (line_in plan) ys),
    flat_map-append (line_in plan) xs ys,
  );
}

-- one pair more
pub pairs_more : (plan : PlanView) (all : List (List ℕ × List ℕ)) (k : ℕ) (d pair : List ℕ × List ℕ)
    (old now new : Pairs)
    → k < length all → pair ≡ get_or all k d → HasPairs plan (take k all) old now → HasPairs plan (pair ∷ []) now new
    → HasPairs plan (take (k + 1) all) old new
pairs_more plan all k d pair old now new low is before one =
    let next : take (k + 1) all ≡ take k all ++ pair ∷ [] =
    cc (take_more all k d low) in
    rw next (joined plan _ _ old now new before one)

-- the pairs of the column at i and each later one, and then those of the later ones
pub pairs_at : (columns : List Column) (components : List (List ℕ)) (i : ℕ) (u : Column) (later : List Column)
    → map (λ (c : Column). c.component) columns ≡ components → i < length columns → u ≡ get_or columns i u
    → later ≡ drop (i + 1) columns
    → map (λ (v : Column). (u.component, v.component)) later ++ pairs_in (drop (i + 1) components)
    ≡ pairs_in (drop i components)
pairs_at columns components i u later is low at from =
    let component : Column → List ℕ = λ c. c.component in
    let a : List ℕ = u.component in
    let here : drop i components ≡ a ∷ drop (i + 1) components =
    ap (drop i) (sym is) ∙ drop-map component i columns ∙ ap (map component) (drop_more columns i u low)
    ∙ ap₂ (λ (c : Column) (l : List (List ℕ)). component c ∷ l) (sym at)
    (cc (drop-map component (i + 1) columns, is)) in
    let pairs : map (λ (v : Column). (a, component v)) later ≡ map (λ y. (a, y)) (drop (i + 1) components) =
    ap (map (λ (v : Column). (a, component v))) from ∙ sym (map-map (λ y. (a, y)) component (drop (i + 1) columns))
    ∙ ap (map (λ y. (a, y))) (sym (drop-map component (i + 1) columns) ∙ ap (drop (i + 1)) is) in
    ap (λ l. l ++ pairs_in (drop (i + 1) components)) pairs ∙ sym (ap pairs_in here)

-- what is left after some pairs were added
pub kinds_left : (plan : PlanView) (added rest all : List (List ℕ × List ℕ)) (old new : Pairs)
    → HasPairs plan added old new
    → added ++ rest ≡ all → new.kinds ++ map (kinship_in plan) rest ≡ old.kinds ++ map (kinship_in plan) all
kinds_left plan added rest all old new h is =
    cc (
      h.kinds,
      append_assoc old.kinds (map (kinship_in plan) added) (map (kinship_in plan) rest),
      map-append (kinship_in plan) added rest,
    )

pub lines_left : (plan : PlanView) (added rest all : List (List ℕ × List ℕ)) (old new : Pairs)
    → HasPairs plan added old new
    → added ++ rest ≡ all → new.lines ++ flat_map (line_in plan) rest ≡ old.lines ++ flat_map (line_in plan) all
lines_left plan added rest all old new h is =
    cc (
      h.lines,
      append_assoc old.lines (flat_map (line_in plan) added) (flat_map (line_in plan) rest),
      flat_map-append (line_in plan) added rest,
    )
