-- Short vectors have no higher rank than their length.
use Rattle.std.proofs.Common.{ℕ, ◌≡◌, ◌≤◌, ◌+◌, ◌-◌, zero, suc, List, [], ◌∷◌, ◌++◌, map, length, take, refl}
use Rattle.std.proofs.Common.{sym, ◌∙◌, ap, ap₂, arith, length-append}
use Rattle.std.specs.List.{AllByRecursion}
use Rattle.std.proofs.lemmas.List.{length-map, map-append}
use Rattle.fx_base.proofs.Lists.{each-append}
use Rattle.fx_designs.specs.Galois.{IsField}
use Rattle.fx_designs.specs.Vectors.{IsVector, plus, scale, zeros, combination}
use Rattle.fx_designs.specs.Spans.{in_span, rank_of, rank_after}
use Rattle.fx_laws.specs.Changes.{IsShort}
use Rattle.fx_laws.proofs.Space.{AreVectors, zeros-vector, combination-vector}
use Rattle.fx_laws.proofs.Changes.{short-zeros}
use Rattle.fx_laws.proofs.Tests.{bool_same}
use Rattle.fx_laws.proofs.Ranks.{in_span-true, in_span-holds}
use Rattle.fx_strata.proofs.Change.{rank-most}

module _ (q h j : ℕ) (f : IsField q) where
  -- with zeros behind
  abbrev lift : List ℕ → List ℕ
  lift v = v ++ zeros j

  zeros-sum : (c : ℕ) → plus q (scale q c (zeros j)) (zeros j) ≡ zeros j
  zeros-sum c = go j
    where
      go : (n : ℕ) → plus q (scale q c (zeros n)) (zeros n) ≡ zeros n
      go zero = refl
      go (suc n) =
          cc (f.mul_zero c, f.add_zero 0 (omega arith), go n)

  lift-sum : (n c : ℕ) (v w : List ℕ) → length v ≡ n → length w ≡ n
      → plus q (scale q c (lift v)) (lift w) ≡ lift (plus q (scale q c v) w)
  lift-sum n c [] [] e e' = zeros-sum c
  lift-sum n c [] (b ∷ w) e e' = absurd (omega arith)
  lift-sum n c (a ∷ v) [] e e' = absurd (omega arith)
  lift-sum zero c (a ∷ v) (b ∷ w) e e' = absurd (omega arith)
  lift-sum (suc n) c (a ∷ v) (b ∷ w) e e' =
      cc (lift-sum n c v w (omega arith) (omega arith))

  zeros-lift : (n : ℕ) → zeros (n + j) ≡ zeros n ++ zeros j
  zeros-lift zero = ap zeros (let e : 0 + j ≡ j = omega arith in e)
  zeros-lift (suc n) = ap zeros (let e : suc n + j ≡ suc (n + j) = omega arith in e) ∙ ap (λ l. 0 ∷ l) (zeros-lift n)

  lift-combination : (u : List ℕ) (rows : List (List ℕ)) → AreVectors q h rows
      → combination q (h + j) u (map lift rows) ≡ lift (combination q h u rows)
  lift-combination [] rows hr = zeros-lift h
  lift-combination (a ∷ u) [] hr = zeros-lift h
  lift-combination (a ∷ u) (r ∷ rows) hr =
      cc (
        lift-combination u rows hr.1,
        lift-sum h a r (combination q h u rows) hr.0.len (let v = combination-vector q h f u rows hr.1 in v.len),
      )

  lift-vector : (n : ℕ) (v : List ℕ) → IsVector q n v → IsVector q (n + j) (lift v)
  lift-vector n v hv = record {
    len = length-append v (zeros j) ∙ ap₂ (λ a b. a + b) hv.len (let z = zeros-vector q j f in z.len);
    codes = each-append _ v _ hv.codes (let z = zeros-vector q j f in z.codes);
  }

  lift-vectors : (rows : List (List ℕ)) → AreVectors q h rows → AreVectors q (h + j) (map lift rows)
  lift-vectors [] hr = tt
  lift-vectors (r ∷ rows) hr = (lift-vector h r hr.0, lift-vectors rows hr.1)

  lift-back : (n : ℕ) (v w : List ℕ) → length v ≡ n → length w ≡ n → lift v ≡ lift w → v ≡ w
  lift-back n [] [] e e' is = refl
  lift-back n [] (b ∷ w) e e' is = absurd (omega arith)
  lift-back n (a ∷ v) [] e e' is = absurd (omega arith)
  lift-back zero (a ∷ v) (b ∷ w) e e' is = absurd (omega arith)
  lift-back (suc n) (a ∷ v) (b ∷ w) e e' is =
      let first : a ≡ b = cc is in
      cc (lift-back n v w (omega arith) (omega arith) (cc is))

  span-same : (bs : List (List ℕ)) (r : List ℕ) → AreVectors q h bs → IsVector q h r
      → in_span q (h + j) (map lift bs) (lift r) ≡ in_span q h bs r
  span-same bs r hb hr = bool_same _ _
      (λ e. let s = in_span-true q _ f _ _ (lift-vectors bs hb) (lift-vector h r hr) e in
      in_span-holds q h f bs r (record {
        by = s.by;
        vector = rw (length-map bs lift) at s.vector;
        gives = lift-back h _ r (let v = combination-vector q h f s.by bs hb in v.len) hr.len
            (sym (lift-combination s.by bs hb) ∙ s.gives);
      }))
      (λ e. let s = in_span-true q h f bs r hb hr e in
      in_span-holds q (h + j) f (map lift bs) (lift r) (record {
        by = s.by;
        vector = rw (length-map bs lift) s.vector;
        gives = cc (lift-combination s.by bs hb);
      }))

  rank-same : (bs rows : List (List ℕ)) → AreVectors q h bs → AreVectors q h rows
      → rank_after q (h + j) (map lift bs) (map lift rows) ≡ rank_after q h bs rows
  rank-same bs [] hb hr = refl
  rank-same bs (r ∷ rows) hb hr =
      cc (
        span-same bs r hb hr.0,
        map-append lift bs (r ∷ []),
        rank-same (bs ++ r ∷ []) rows (each-append _ bs _ hb (hr.0, tt)) hr.1,
      )

-- a short vector is its first entries and zeros
short-is : (q h j : ℕ) (v : List ℕ) → IsVector q (h + j) v → IsShort h v
    → (v ≡ take h v ++ zeros j) × IsVector q h (take h v)
short-is q zero j [] hv s =
    (ap zeros (let e : 0 ≡ j = (let l = hv.len in omega arith) in e), record { len = refl; codes = tt })
short-is q zero j (a ∷ v) hv s = (
  short-zeros j _ (let l = hv.len in omega arith) s,
  record { len = refl; codes = tt },
)
short-is q (suc h) j [] hv s = absurd (let l = hv.len in omega arith)
short-is q (suc h) j (a ∷ v) hv s =
    let r = short-is q h j v (record { len = (let l = hv.len in omega arith); codes = hv.codes.1 }) s in (
      cc r.0,
      record { len = (let e = r.1.len in omega arith); codes = (hv.codes.0, (r.1.codes)) },
    )

pub rank-short : (q m h : ℕ) (f : IsField q) (rows : List (List ℕ)) → h ≤ m → AreVectors q m rows
    → AllByRecursion (λ r. IsShort h r) rows → rank_of q m rows ≤ h
rank-short q m h f rows room hr short =
    let j = m - h in
    let e : h + j ≡ m = omega arith in
    let cut = all rows (rw e hr) short in
    let same : rank_of q (h + j) rows ≡ rank_of q h (map (take h) rows) =
    cc (cut.0, rank-same q h j f [] _ tt cut.1) in
    let most = rank-most q h f _ cut.1 in
    let last : rank_of q m rows ≡ rank_of q (h + j) rows = cc in
    omega arith
  where
    all : (rows : List (List ℕ)) → AreVectors q (h + (m - h)) rows → AllByRecursion (λ r. IsShort h r) rows
        → (rows ≡ map (λ v. v ++ zeros (m - h)) (map (take h) rows)) × AreVectors q h (map (take h) rows)
    all [] hr s = (refl, tt)
    all (r ∷ rows) hr s =
        let one = short-is q h _ r hr.0 s.0 in
        let more = all rows hr.1 s.1 in
        (cc, (one.1, more.1))
