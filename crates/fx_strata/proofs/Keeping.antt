-- An exchange of the run indexes that keeps the base.
use Rattle.std.proofs.Common.{ℕ, ◌≡◌, ◌<◌, ◌≤◌, ◌+◌, ◌^◌, zero, suc, true, List, [], ◌∷◌, ◌++◌, map, length, refl}
use Rattle.std.proofs.Common.{sym, subst, ◌∙◌, arith, inl, inr, cond}
use Rattle.std.specs.List.{AllByRecursion}
use Rattle.std.proofs.lemmas.Bool.{cases_lt, cases_Bool}
use Rattle.std.proofs.Math.Nat.{pow-le-pow_right}
use Rattle.std.proofs.lemmas.List.{map-append}
use Rattle.fx_base.proofs.Lists.{each-append}
use Rattle.fx_designs.specs.Galois.{IsField, digits}
use Rattle.fx_designs.specs.Vectors.{IsVector, scale, combination, vectors_of}
use Rattle.fx_designs.specs.Runs.{levels_at}
use Rattle.fx_designs.specs.Spans.{in_span}
use Rattle.fx_laws.specs.Changes.{IsChange, unit, IsShort}
use Rattle.fx_laws.proofs.Codes.{digits-vector, number-digits}
use Rattle.fx_laws.proofs.Linear.{levels-scale}
use Rattle.fx_laws.proofs.Space.{AreVectors, scale-vector, combination-vector}
use Rattle.fx_laws.proofs.Tests.{bool_same}
use Rattle.fx_laws.proofs.Changes.{change-combination, unit-vector}
use Rattle.fx_laws.proofs.Ranks.{number-same, short-scale, change-injective, spans-none, in_span-true}
use Rattle.fx_laws.proofs.Prefixes.{number-short, number-unit}
use Rattle.fx_laws.proofs.Reorders.{units_from}
use Rattle.fx_laws.proofs.Forms.{normal_factor, rank-snoc}
use Rattle.fx_strata.specs.Changes.{moved}
use Rattle.fx_strata.proofs.Lists.{IsMember}
use Rattle.fx_strata.proofs.Exchanges.{member-left, any_member, all_range, invertible, units-vectors, many}
use Rattle.fx_strata.proofs.Change.{rank-lifted}
use Rattle.fx_strata.specs.Designs.{Strata}
use Rattle.fx_strata.specs.Canonical.{base}
use Rattle.fx_strata.specs.Images.{brings}
use Rattle.fx_strata.proofs.Moved.{d, in-base, base-in, base-spans}
use Rattle.fx_strata.proofs.Short.{rank-short}
use Rattle.fx_laws.proofs.Ranks.{short-combination}

pub member-right : (x : ℕ) (xs ys : List ℕ) → IsMember x ys → IsMember x (xs ++ ys)
member-right x [] ys h = h
member-right x (y ∷ xs) ys h = inr (member-right x xs ys h)

module _ (x : Strata) (f : IsField x.q) (room : x.h ≤ x.m) (change : List ℕ) (count : length change ≡ x.m) where
  abbrev pub by : List ℕ → List ℕ
  by v = levels_at x.q (vectors_of x.q x.m change) v

  -- each of these unit vectors is what becomes of one of the rows
  pub brought : (from len : ℕ) (rows : List ℕ) → brings x change from len rows ≡ true → (i : ℕ) → from ≤ i
      → i < from + len → IsMember (x.q ^ i) (map (moved (d x f room) change) rows)
  brought from len rows h i low high =
      any_member _ _ rows
      (all_range _ from len h i low high)

  module _ (ins os : List ℕ)
      (first : (i : ℕ) → i < x.h → IsMember (x.q ^ i) (map (moved (d x f room) change) ins))
      (second : (i : ℕ) → x.h ≤ i → i < x.m → IsMember (x.q ^ i) (map (moved (d x f room) change) os)) where
    pub is-change : IsChange x.q x.m by
    is-change = invertible (d x f room) f change count (ins ++ os) (λ i low. elim (cases_lt i x.h) [
      | inl less ↦ subst (IsMember (x.q ^ i)) (sym (map-append (moved (d x f room) change) ins os))
          (member-left _ _ (map (moved (d x f room) change) os)
          (first i less))
      | inr past ↦ subst (IsMember (x.q ^ i)) (sym (map-append (moved (d x f room) change) ins os))
          (member-right _ (map (moved (d x f room) change) ins) _
          (second i past low))
    ])

    -- the rows for the base are of it
    module _ (low : AllByRecursion (λ r. r < x.q ^ x.h) ins) where
      preimage : (i : ℕ) (rows : List ℕ) → i < x.m → AllByRecursion (λ r. r < x.q ^ x.h) rows
          → IsMember (x.q ^ i) (map (moved (d x f room) change) rows)
          → (w : List ℕ) × IsVector x.q x.m w × IsShort x.h w × (by w ≡ unit x.m i)
      preimage i [] small lows h = absurd h
      preimage i (r ∷ rows) small lows (inr h) = preimage i rows small lows.1 h
      preimage i (r ∷ rows) small lows (inl e) =
          let pos : 0 < x.q = omega arith in
          let v = digits x.q x.m r in
          let hv = digits-vector x.q x.m r pos in
          let c = normal_factor x.q x.m f (by v) in
          let wide = pow-le-pow_right pos room in
          let short = number-short x.q x.m x.h f v hv (omega (arith, number-digits x.q x.m r pos (omega arith))) in (
            scale x.q c v,
            scale-vector x.q x.m f c v hv,
            short-scale x.q x.h c f v short,
            (levels-scale x.q f (vectors_of x.q x.m change) c v) ∙ number-same x.q x.m f _ _
                (scale-vector x.q x.m f c _ (is-change.vector v hv)) (unit-vector x.q x.m i f)
                (e ∙ sym (number-unit x.q x.m i small)),
          )

      preimages : (k j : ℕ) → k + j ≤ x.h
          → (ws : List (List ℕ)) × AreVectors x.q x.m ws × AllByRecursion (λ w. IsShort x.h w) ws
          × (map by ws ≡ units_from x.m k j)
      preimages k zero fits = ([], tt, tt, refl)
      preimages k (suc j) fits =
          let one = preimage k ins (omega arith) low (first k (omega arith)) in
          let more = preimages (suc k) j (omega arith) in
          (one.0 ∷ more.0, (one.1, more.1), (one.2, more.2), cc)

      from : (v : List ℕ) → IsVector x.q x.m v → IsShort x.h (by v) → IsShort x.h v
      from v hv s =
          let span = (base-spans x f room).all (by v) (is-change.vector v hv) s in
          let ws = preimages 0 x.h (omega arith) in
          let is : by (combination x.q x.m span.by ws.0) ≡ by v =
          cc (
            change-combination x.q x.m f by is-change span.by ws.0 ws.1,
            (units-vectors (d x f room) f 0 x.h (omega arith) ∙ sym ws.3),
          ) in
          subst (IsShort x.h)
          (change-injective x.q x.m f by is-change _ v
          (combination-vector x.q x.m f span.by ws.0 ws.1) hv is)
          (short-combination x.q x.m x.h f span.by ws.0 ws.2)

      -- and the base goes into itself
      into : (v : List ℕ) → IsVector x.q x.m v → IsShort x.h v → IsShort x.h (by v)
      into v hv s =
          let ws = preimages 0 x.h (omega arith) in
          let rank =
          rank-lifted x.q x.m f _ (many (d x f room) f change count) 0 x.h [] ws.0
          (omega arith)
          tt ws.1 (spans-none x.q x.m f) ws.3 in
          let most =
          rank-short x.q x.m x.h f _ room
          (each-append _ ws.0 (v ∷ []) ws.1 (hv, tt))
          (each-append _ ws.0 (v ∷ []) ws.2 (s, tt)) in
          let more = rank-snoc x.q x.m f [] ws.0 v in
          let inside : in_span x.q x.m ws.0 v ≡ true =
          elim (cases_Bool (in_span x.q x.m ws.0 v)) [
            | inl t ↦ t
            | inr out ↦ absurd
                (let one : cond {A = ℕ} (in_span x.q x.m ws.0 v) 0 1 ≡ 1 = cc in
                omega arith)
          ] in
          let span = in_span-true x.q x.m f ws.0 v ws.1 hv inside in
          let is : combination x.q x.m span.by (base x) ≡ by v =
          cc (
            (units-vectors (d x f room) f 0 x.h (omega arith) ∙ sym ws.3),
            change-combination x.q x.m f by is-change
                span.by ws.0 ws.1,
          ) in
          subst (IsShort x.h) is
          (short-combination x.q x.m x.h f span.by _ (base-spans x f room).short)

      pub keeps : (v : List ℕ) → IsVector x.q x.m v
          → in_span x.q x.m (base x) (by v) ≡ in_span x.q x.m (base x) v
      keeps v hv =
          let hb = is-change.vector v hv in
          bool_same _ _
          (λ e. base-in x f room v hv (from v hv (in-base x f room _ hb e)))
          (λ e. base-in x f room _ hb (into v hv (in-base x f room v hv e)))
