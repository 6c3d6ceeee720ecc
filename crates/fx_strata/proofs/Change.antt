-- A change of the run indexes that takes some rows to the unit vectors is invertible.
use Rattle.std.proofs.Common.{ℕ, ◌≡◌, ◌<◌, ◌≤◌, ◌+◌, zero, suc, true, cond, List, [], ◌∷◌, ◌++◌, map, length}
use Rattle.std.proofs.Common.{refl, sym, subst, ◌∙◌, ap, arith, inl, inr}
use Rattle.std.proofs.lemmas.Bool.{cases_Bool}
use Rattle.std.proofs.lemmas.List.{length-map, map-append}
use Rattle.fx_designs.specs.Galois.{add, mul, IsField}
use Rattle.fx_designs.specs.Vectors.{plus, scale, zeros, combination, IsVector}
use Rattle.fx_designs.specs.Runs.{levels_at}
use Rattle.fx_designs.specs.Spans.{in_span, rank_of, rank_after}
use Rattle.fx_laws.specs.Changes.{IsChange, unit, IsShort}
use Rattle.fx_laws.proofs.Linear.{levels-plus, levels-scale, levels-zeros}
use Rattle.fx_laws.proofs.Blocks.{levels-vector}
use Rattle.fx_laws.proofs.Space.{AreVectors}
use Rattle.fx_laws.proofs.Changes.{to_form}
use Rattle.fx_laws.proofs.Ranks.{Spans, spans-none, spans-new, spans-short, unit-long, in_span-none, in_span-true}
use Rattle.fx_laws.proofs.Ranks.{rank-formed, rank-change, map-vectors, zeros-plus}
use Rattle.fx_laws.proofs.Raises.{none-combination}
use Rattle.fx_laws.proofs.Forms.{rank-snoc}
use Rattle.fx_laws.proofs.Reorders.{units_from}
use Rattle.fx_base.proofs.Lists.{each-append}
use Rattle.fx_laws.proofs.Falling.{formed-room}

-- what the levels of a combination of rows are
pub combination-levels : (q : ℕ) (f : IsField q) (m : ℕ) (a : List (List ℕ)) (u : List ℕ) (rows : List (List ℕ))
    → combination q (length a) u (map (levels_at q a) rows) ≡ levels_at q a (combination q m u rows)
combination-levels q f m a [] rows = sym (levels-zeros q f a m)
combination-levels q f m a (c ∷ u) [] = sym (levels-zeros q f a m)
combination-levels q f m a (c ∷ u) (r ∷ rows) =
    rw (
      levels-plus q f a (scale q c r)
          (combination q m u rows),
      levels-scale q f a c r,
      combination-levels q f m a u rows,
    )

-- no rank is above the length of the rows
pub rank-most : (q m : ℕ) (f : IsField q) (rows : List (List ℕ)) → AreVectors q m rows → rank_of q m rows ≤ m
rank-most q m f rows h =
    let made = to_form q m f rows h in
    let same = rank-change q m f made.0 made.1.change [] rows tt h in
    let is =
    rank-formed q m f 0 made.1.rank [] _ (map-vectors q m f made.0 made.1.change rows h)
    (spans-none q m f) made.1.formed in
    omega (arith, formed-room m 0 made.1.rank _ made.1.formed (omega arith))

-- the sum of the unit vectors, each times an entry
unit-onto : (q m k a : ℕ) (f : IsField q) (v : List ℕ) → a < q → k < m → IsVector q m (zeros (suc k) ++ v)
    → plus q (scale q a (unit m k)) (zeros (suc k) ++ v) ≡ zeros k ++ a ∷ v
unit-onto q zero k a f v low room h = absurd (omega arith)
unit-onto q (suc m) zero a f v low room h =
    let hv : IsVector q m v = record { len = (let e = h.len in omega arith); codes = h.codes.1 } in
    let first : add q (mul q a 1) 0 ≡ a = cc (f.mul_one a low, f.add_zero a low) in
    let none = scaled-zeros m in
    rw (first, none, zeros-plus q m f v hv)
  where
    scaled-zeros : (n : ℕ) → scale q a (zeros n) ≡ zeros n
    scaled-zeros zero = refl
    scaled-zeros (suc n) = rw (f.mul_zero a, scaled-zeros n)
unit-onto q (suc m) (suc k) a f v low room h =
    let hv : IsVector q m (zeros (suc k) ++ v) = record { len = (let e = h.len in omega arith); codes = h.codes.1 } in
    let first : add q (mul q a 0) 0 ≡ 0 = cc (f.mul_zero a, f.add_zero 0 (omega arith)) in
    cc (unit-onto q m k a f v low (omega arith) hv)

zeros-on : (q m k : ℕ) (f : IsField q) (v : List ℕ) → IsVector q m v → IsVector q (k + m) (zeros k ++ v)
zeros-on q m zero f v h = rw (let e : m ≡ 0 + m = omega arith in e) at h
zeros-on q m (suc k) f v h =
    let rest = zeros-on q m k f v h in
    record { len = (let e = rest.len in omega arith); codes = (omega arith, rest.codes) }

no-more : (n : ℕ) → zeros n ≡ zeros n ++ []
no-more zero = refl
no-more (suc n) = cc (no-more n)

pub combination-units : (q m k j : ℕ) (f : IsField q) (v : List ℕ) → k + j ≡ m → IsVector q j v
    → combination q m v (units_from m k j) ≡ zeros k ++ v
combination-units q m k zero f [] e h = ap zeros (let e' : m ≡ k = omega arith in e') ∙ no-more k
combination-units q m k zero f (a ∷ v) e h = absurd (let e' = h.len in omega arith)
combination-units q m k (suc j) f [] e h = absurd (let e' = h.len in omega arith)
combination-units q m k (suc j) f (a ∷ v) e h =
    let hv : IsVector q j v = record { len = (let e' = h.len in omega arith); codes = h.codes.1 } in
    let full =
    rw (let e' : suc k + j ≡ m = omega arith in e') at (zeros-on q j (suc k) f v hv) in
    cc (combination-units q m (suc k) j f v (omega arith) hv, unit-onto q m k a f v h.codes.0 (omega arith) full)

module _ (q m : ℕ) (f : IsField q) (rows : List (List ℕ)) (len : length rows ≡ m) where
  abbrev pub by : List ℕ → List ℕ
  by v = levels_at q rows v

  pub by-vector : (v : List ℕ) → IsVector q m (by v)
  by-vector v = rw len at (levels-vector q f rows v)

  pub by-combination : (u : List ℕ) (ws : List (List ℕ)) → combination q m u (map by ws) ≡ by (combination q m u ws)
  by-combination u ws = rw len at (combination-levels q f m rows u ws)

  -- what is taken to unit vectors is independent
  pub rank-lifted : (k j : ℕ) (bs ws : List (List ℕ)) → k + j ≤ m → AreVectors q m bs → AreVectors q m ws
      → Spans q m k (map by bs) → map by ws ≡ units_from m k j → rank_after q m bs ws ≡ j
  rank-lifted k zero bs [] e hb hw h is = refl
  rank-lifted k zero bs (w ∷ ws) e hb hw h is = cc is
  rank-lifted k (suc j) bs [] e hb hw h is = cc is
  rank-lifted k (suc j) bs (w ∷ ws) e hb hw h is =
      let first : by w ≡ unit m k = cc is in
      let room : k < m = omega arith in
      let out = in_span-none q m f bs w hb hw.0 (λ s.
      unit-long m k room (subst (IsShort k) first (spans-short q m f k _ (by w) h
      (record {
        by = s.by;
        vector = rw (length-map bs by) s.vector;
        gives =
            cc (by-combination s.by bs);
      })))) in
      let next : Spans q m (suc k) (map by (bs ++ w ∷ [])) =
      subst (Spans q m (suc k)) (sym (map-append by bs (w ∷ []) ∙ ap (λ z. map by bs ++ z ∷ []) first))
      (spans-new q m f k _ room h) in
      rw out (omega (
        arith,
        rank-lifted (suc k) j (bs ++ w ∷ []) ws (omega arith)
            (each-append _ bs _ hb (hw.0, tt)) hw.1 next (cc is),
      ))

  module _ (ws : List (List ℕ)) (hw : AreVectors q m ws) (is : map by ws ≡ units_from m 0 m) where
    alone : (u : List ℕ) → IsVector q m u → by u ≡ zeros m → u ≡ zeros m
    alone u hu none =
        let rank = rank-lifted 0 m [] ws (omega arith) tt hw (spans-none q m f) is in
        let most =
        rank-most q m f _ (each-append _ ws (u ∷ []) hw (hu, tt)) in
        let more =
        rank-snoc q m f [] ws u in
        let inside : in_span q m ws u ≡ true =
        elim (cases_Bool (in_span q m ws u)) [
          | inl t ↦ t
          | inr out ↦ absurd
              (let one : cond {A = ℕ} (in_span q m ws u) 0 1 ≡ 1 =
              cc in omega arith)
        ] in
        let s = in_span-true q m f ws u hw hu inside in
        let count : length ws ≡ m = cc (length-map ws by, many 0 m) in
        let none' : combination q m s.by (units_from m 0 m) ≡ zeros m = cc (by-combination s.by ws) in
        let zero_by = sym
        (combination-units q m 0 m f s.by (omega arith) (rw count at s.vector)) ∙ none' in
        cc (s.gives, none-combination q m f m ws hw)
      where
        many : (k j : ℕ) → length (units_from m k j) ≡ j
        many k zero = refl
        many k (suc j) = (omega (arith, many (suc k) j))

    pub is-change : IsChange q m by
    is-change = record {
      vector = λ v hv. by-vector v;
      sums = λ v w hv hw. levels-plus q f rows v w;
      multiples = λ c v hv. levels-scale q f rows c v;
      zero_alone = alone;
    }
