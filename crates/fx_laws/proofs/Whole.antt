-- For rows that are allowed there are canonical ones that are allowed, with no more words.
use Rattle.std.proofs.Common.{ℕ, ◌≡◌, ◌≤◌, ◌+◌, min, List, [], ◌∷◌, ◌++◌, map, length, refl, sym, subst, ◌∙◌, arith}
use Rattle.std.proofs.lemmas.List.{length-map, map-append}
use Rattle.fx_base.proofs.Lists.{each-append}
use Rattle.fx_designs.specs.Galois.{IsField}
use Rattle.fx_designs.specs.Vectors.{IsVector}
use Rattle.fx_designs.specs.Spans.{rank_of}
use Rattle.fx_laws.specs.Changes.{IsFormedTo}
use Rattle.fx_laws.specs.Canonical.{IsCanonical}
use Rattle.fx_laws.specs.Raises.{IsBlind}
use Rattle.fx_laws.specs.Scalings.{AreScalars, scaled, IsScalable}
use Rattle.fx_laws.proofs.Space.{AreVectors}
use Rattle.fx_laws.proofs.Changes.{to_form}
use Rattle.fx_laws.proofs.Ranks.{rank-formed, rank-change, spans-none}
use Rattle.fx_laws.proofs.Scalings.{scaled-length, scaled-vectors, scaled_words, scaled_allowed}
use Rattle.fx_laws.proofs.Follows.{Follows, follows-trans, formed-append, change_follows, raise_rank}
use Rattle.fx_laws.proofs.Forms.{normal_factor, factors-scalars, formed-scaled, each_normal, formed-canonical}

module _ (q m : ℕ) (f : IsField q) where
  -- nonzero multiples of rows keep what is allowed
  pub scale_follows : (Forbidden : List ℕ → List ℕ → Type 0) (cs ds : List ℕ) (xs ys : List (List ℕ))
      → IsScalable q (length xs) (length ys) Forbidden → AreScalars q cs → AreScalars q ds → length cs ≡ length xs
      → length ds ≡ length ys
      → AreVectors q m xs → AreVectors q m ys → Follows q m Forbidden xs ys (scaled q cs xs) (scaled q ds ys)
  scale_follows Forbidden cs ds xs ys closed hc hd e e' hx hy = record {
    factors = scaled-length q f cs xs e;
    blocks = scaled-length q f ds ys e';
    factor_vectors = scaled-vectors q f m cs xs hx;
    block_vectors = scaled-vectors q f m ds ys hy;
    allowed = λ ok. scaled_allowed q f m Forbidden cs ds xs ys hc hd e e' closed ok;
    fewer = λ k. (let same = scaled_words q f m cs xs k hc e in omega arith);
  }

  pub scaled-append : (xs ys : List (List ℕ))
      → scaled q (map (normal_factor q m f) (xs ++ ys)) (xs ++ ys)
      ≡ scaled q (map (normal_factor q m f) xs) xs ++ scaled q (map (normal_factor q m f) ys) ys
  scaled-append [] ys = refl
  scaled-append (x ∷ xs) ys = cc (scaled-append xs ys)

  pub record IsBetter (Forbidden : List ℕ → List ℕ → Type 0) (xs ys xs' ys' : List (List ℕ)) : Type 0 where
    pub follows : Follows q m Forbidden xs ys xs' ys'
    pub canonical : IsCanonical q m (length xs') (xs' ++ ys')

  -- the laws put together, where the factors keep their order
  pub canonical_exists : (Forbidden : List ℕ → List ℕ → Type 0) (xs ys : List (List ℕ))
      → IsBlind q (length xs) (length ys) Forbidden → IsScalable q (length xs) (length ys) Forbidden → AreVectors q m xs
      → AreVectors q m ys
      → (xs' : List (List ℕ)) × (ys' : List (List ℕ)) × IsBetter Forbidden xs ys xs' ys'
  canonical_exists Forbidden xs ys blind closed hx hy =
      let s : ℕ = length xs in
      let t : ℕ = length ys in
      let up = raise_rank q m f (min s m) s t Forbidden xs ys blind refl refl hx hy (omega arith) in
      let x1 : List (List ℕ) = up.0 in
      let y1 : List (List ℕ) = up.1 in
      let first : Follows q m Forbidden xs ys x1 y1 = up.2.follows in
      let made =
      to_form q m f (x1 ++ y1) (each-append (λ r. IsVector q m r) x1 y1 first.factor_vectors first.block_vectors) in
      let a : List ℕ → List ℕ = made.0 in
      let x2 : List (List ℕ) = map a x1 in
      let y2 : List (List ℕ) = map a y1 in
      let second : Follows q m Forbidden x1 y1 x2 y2 =
      change_follows q m f Forbidden a made.1.change x1 y1 first.factor_vectors first.block_vectors in
      let formed : IsFormedTo m 0 (x2 ++ y2) made.1.rank =
      rw (map-append a x1 y1) at made.1.formed in
      let cs : List ℕ = map (normal_factor q m f) x2 in
      let ds : List ℕ = map (normal_factor q m f) y2 in
      let x3 : List (List ℕ) = scaled q cs x2 in
      let y3 : List (List ℕ) = scaled q ds y2 in
      let ls : length x2 ≡ s = second.factors ∙ first.factors in
      let lt : length y2 ≡ t = second.blocks ∙ first.blocks in
      let closed' : IsScalable q (length x2) (length y2) Forbidden =
      rw ls (subst (λ k. IsScalable q s k Forbidden) (sym lt) closed) in
      let third : Follows q m Forbidden x2 y2 x3 y3 =
      scale_follows Forbidden cs ds x2 y2 closed' (factors-scalars q m f x2 second.factor_vectors)
      (factors-scalars q m f y2 second.block_vectors)
      (length-map x2 (normal_factor q m f)) (length-map y2 (normal_factor q m f)) second.factor_vectors
      second.block_vectors in
      let formed' : IsFormedTo m 0 (x3 ++ y3) made.1.rank =
      rw (scaled-append x2 y2) at (formed-scaled q m f 0 made.1.rank (x2 ++ y2) formed) in
      let normal =
      rw (scaled-append x2 y2) at (each_normal q m f (x2 ++ y2)
      (each-append (λ r. IsVector q m r) x2 y2 second.factor_vectors second.block_vectors)) in
      let split = formed-append m 0 made.1.rank x2 y2 formed in
      let split' = formed-append m 0 made.1.rank x3 y3 formed' in
      let rank_1 : rank_of q m x2 ≡ rank_of q m x1 = rank-change q m f a made.1.change [] x1 tt first.factor_vectors in
      let rank_2 : rank_of q m x2 + 0 ≡ split.0 =
      rank-formed q m f 0 split.0 [] x2 second.factor_vectors (spans-none q m f) split.1 in
      let rank_3 : rank_of q m x3 + 0 ≡ split.0 =
      rank-formed q m f 0 split.0 [] x3 third.factor_vectors (spans-none q m f)
      (formed-scaled q m f 0 split.0 x2 split.1) in
      let enough : min s m ≤ rank_of q m x1 = up.2.rank in
      let l3 : length x3 ≡ s = third.factors ∙ ls in (
        x3,
        y3,
        record {
          follows = follows-trans q m Forbidden xs ys x1 y1 x3 y3 first
              (follows-trans q m Forbidden x1 y1 x2 y2 x3 y3 second third);
          canonical =
              formed-canonical q m f x3 y3 made.1.rank third.factor_vectors third.block_vectors formed' normal
              (omega arith);
        },
      )
