-- A vector outside the span, added to a dependent factor row, raises the rank and makes no new zero sum that counts.
use Rattle.std.proofs.Common.{ℕ, ◌≡◌, ◌<◌, ◌≤◌, ◌+◌, Bool, true, false, cond, eqb, ◌&&◌, List, [], ◌∷◌, ◌++◌, length}
use Rattle.std.proofs.Common.{refl, sym, subst, ◌∙◌, ap, arith, inl, inr}
use Rattle.std.specs.List.{AllByRecursion, sum_by}
use Rattle.std.proofs.lemmas.List.Sums.{sum_by-cons}
use Rattle.std.proofs.lemmas.List.Elements.{recursion_from_All}
use Rattle.std.proofs.lemmas.Bool.{eq-eqb, eqb-true}
use Rattle.fx_base.proofs.Lists.{each-append}
use Rattle.fx_designs.specs.Galois.{add, mul, IsField, number}
use Rattle.fx_designs.specs.Vectors.{dot, plus, scale, zeros, combination, IsVector, weight}
use Rattle.fx_designs.specs.Runs.{levels_at, points}
use Rattle.fx_laws.specs.Spans.{InSpan}
use Rattle.fx_designs.specs.Spans.{in_span, rank_after}
use Rattle.fx_laws.specs.Raises.{RaisesAt, RaisedBy, IsAllowed, words, IsBlind}
use Rattle.fx_laws.proofs.Codes.{number-zeros}
use Rattle.fx_laws.proofs.Linear.{zero-mul, zero-add-code, dot_code, dot-plus, dot-scale, dot-zeros, dot-levels}
use Rattle.fx_laws.proofs.Space.{ext, zeros-vector, plus-vector, scale-vector, combination-vector, AreVectors}
use Rattle.fx_laws.proofs.Shift.{all-points}
use Rattle.fx_laws.proofs.Ranks.{in_span-true, in_span-holds, in_span-none, plus-zero, number-same}

module _ (q m : ℕ) (f : IsField q) where
  -- the rows are 0 at p
  abbrev pub ZeroAt : List ℕ → List (List ℕ) → Type 0
  ZeroAt p rows = AllByRecursion (λ r. dot q r p ≡ 0) rows

  pub zero-combination : (p u : List ℕ) (rows : List (List ℕ)) → ZeroAt p rows → dot q (combination q m u rows) p ≡ 0
  zero-combination p [] rows h = dot-zeros q f m p
  zero-combination p (a ∷ u) [] h = dot-zeros q f m p
  zero-combination p (a ∷ u) (r ∷ rows) h =
      cc (
        dot-plus q f (scale q a r) (combination q m u rows) p,
        dot-scale q f a r p,
        h.0,
        f.mul_zero a,
        zero-combination p u rows h.1,
        f.add_zero 0 (omega (arith, f.more_than_one)),
      )

  pub none-combination : (n : ℕ) (rows : List (List ℕ)) → AreVectors q m rows → combination q m (zeros n) rows ≡ zeros m
  none-combination n rows h = ext q m f _ _ (combination-vector q m f (zeros n) rows h) (zeros-vector q m f)
      (λ p. cc (dot-levels q f m (zeros n) rows p, dot-zeros q f n (levels_at q rows p), dot-zeros q f m p))

  pub plus-combination : (u v : List ℕ) (rows : List (List ℕ)) (p : List ℕ)
      → dot q (combination q m (plus q u v) rows) p
      ≡ add q (dot q (combination q m u rows) p) (dot q (combination q m v rows) p)
  plus-combination u v rows p =
      cc (
        dot-levels q f m (plus q u v) rows p,
        dot-plus q f u v (levels_at q rows p),
        dot-levels q f m u rows p,
        dot-levels q f m v rows p,
      )

  pub scale-combination : (c : ℕ) (u : List ℕ) (rows : List (List ℕ)) (p : List ℕ)
      → dot q (combination q m (scale q c u) rows) p ≡ mul q c (dot q (combination q m u rows) p)
  scale-combination c u rows p =
      cc (dot-levels q f m (scale q c u) rows p, dot-scale q f c u (levels_at q rows p), dot-levels q f m u rows p)

  module _ (w : List ℕ) where
    -- a sum over the new rows is the old sum and c times w
    pub raised-sum : (xs ys : List (List ℕ)) (u : List ℕ) → RaisedBy q w xs ys → IsVector q (length xs) u
        → (c : ℕ) × (c < q)
        × ((p : List ℕ) → dot q (combination q m u ys) p ≡ add q (dot q (combination q m u xs) p) (mul q c (dot q w p)))
    raised-sum [] ys u h hu = absurd h
    raised-sum (x ∷ xs) [] u h hu = absurd h
    raised-sum (x ∷ xs) (y ∷ ys) [] h hu = absurd (let e = hu.len in omega arith)
    raised-sum (x ∷ xs) (y ∷ ys) (a ∷ u) h hu =
        let hu' : IsVector q (length xs) u = record { len = (let e = hu.len in omega arith); codes = hu.codes.1 } in
        elim h [
          | inl s ↦
              let rest = raised-sum xs ys u s.1 hu' in (
                rest.0,
                rest.1,
                λ p.
                    cc (
                      dot-plus q f (scale q a y) (combination q m u ys) p,
                      s.0,
                      rest.2 p,
                      f.add_assoc (dot q (scale q a x) p) (dot q (combination q m u xs) p) (mul q rest.0 (dot q w p)),
                      dot-plus q f (scale q a x) (combination q m u xs) p,
                    ),
              )
          | inr s ↦ (
            a,
            hu.codes.0,
            λ p.
                let t : ℕ = dot q (combination q m u xs) p in
                cc (
                  dot-plus q f (scale q a y) (combination q m u ys) p,
                  dot-scale q f a y p,
                  s.0,
                  dot-plus q f x w p,
                  f.distributes a (dot q x p) (dot q w p),
                  s.1,
                  f.add_assoc (mul q a (dot q x p)) (mul q a (dot q w p)) t,
                  f.add_comm (mul q a (dot q w p)) t,
                  f.add_assoc (mul q a (dot q x p)) t (mul q a (dot q w p)),
                  dot-plus q f (scale q a x) (combination q m u xs) p,
                  dot-scale q f a x p,
                ),
          )
        ]

    pub raised-length : (xs ys : List (List ℕ)) → RaisedBy q w xs ys → length ys ≡ length xs
    raised-length [] ys h = absurd h
    raised-length (x ∷ xs) [] h = absurd h
    raised-length (x ∷ xs) (y ∷ ys) h =
        elim h [
          | inl s ↦ (let e = raised-length xs ys s.1 in omega arith)
          | inr s ↦
              (let e = ap length s.1 in omega arith)
        ]

    pub raised-vectors : IsVector q m w → (xs ys : List (List ℕ)) → RaisedBy q w xs ys → AreVectors q m xs
        → AreVectors q m ys
    raised-vectors hw [] ys h hx = absurd h
    raised-vectors hw (x ∷ xs) [] h hx = absurd h
    raised-vectors hw (x ∷ xs) (y ∷ ys) h hx = elim h [
      | inl s ↦ (subst (IsVector q m) s.0 hx.0, raised-vectors hw xs ys s.1 hx.1)
      | inr s ↦ (subst (IsVector q m) (sym s.0) (plus-vector q m f x w hx.0 hw), subst (AreVectors q m) s.1 hx.1)
    ]

    raised-snoc : (xs ys : List (List ℕ)) (r : List ℕ) → RaisedBy q w xs ys → RaisedBy q w (xs ++ r ∷ []) (ys ++ r ∷ [])
    raised-snoc [] ys r h = absurd h
    raised-snoc (x ∷ xs) [] r h = absurd h
    raised-snoc (x ∷ xs) (y ∷ ys) r h =
        elim h [ inl s ↦ inl (s.0, raised-snoc xs ys r s.1) | inr s ↦ inr (s.0, cc s.1) ]

    raised-end : (bs : List (List ℕ)) (x : List ℕ) → RaisedBy q w (bs ++ x ∷ []) (bs ++ plus q x w ∷ [])
    raised-end [] x = inr (refl, refl)
    raised-end (b ∷ bs) x = inl (refl, raised-end bs x)

    pub raised_by : (bs xs ys : List (List ℕ)) → RaisesAt q m w bs xs ys → RaisedBy q w xs ys
    raised_by bs [] ys h = absurd h
    raised_by bs (x ∷ xs) [] h = absurd h
    raised_by bs (x ∷ xs) (y ∷ ys) h =
        elim h [ inl s ↦ inl (s.0, raised_by (bs ++ x ∷ []) xs ys s.1) | inr s ↦ inr (s.1, s.2) ]

    -- w is 1 at p0
    module _ (hw : IsVector q m w) (p0 : List ℕ) (one : dot q w p0 ≡ 1) where
      -- a factor c that is 0
      no_factor : (c : ℕ) (v v' : List ℕ) → c < q → dot q v p0 ≡ 0 → dot q v' p0 ≡ 0
          → dot q v' p0 ≡ add q (dot q v p0) (mul q c (dot q w p0)) → c ≡ 0
      no_factor c v v' hc hv hv' e =
          sym (rw (hv, one, f.mul_one c hc) (zero-add-code q f c hc)) ∙ sym e ∙ hv'

      unraised : (c : ℕ) (v v' : List ℕ) → IsVector q m v → IsVector q m v' → c ≡ 0
          → ((p : List ℕ) → dot q v' p ≡ add q (dot q v p) (mul q c (dot q w p))) → v' ≡ v
      unraised c v v' hv hv' none e = ext q m f v' v hv' hv
          (λ p. cc (e p, none, zero-mul q f (dot q w p), f.add_zero (dot q v p) (dot_code q f v p)))

      less_new : (b c : Bool) → (b ≡ true → c ≡ true) → cond c 0 1 ≤ cond b 0 1
      less_new true c h = (let e = h refl in rw e (omega arith))
      less_new false true h = omega arith
      less_new false false h = omega arith

      -- what is spanned by the new rows before was spanned by the old ones
      rank-later : (bs bs' rows : List (List ℕ)) → RaisedBy q w bs bs' → AreVectors q m bs → AreVectors q m rows
          → ZeroAt p0 bs → ZeroAt p0 rows → rank_after q m bs rows ≤ rank_after q m bs' rows
      rank-later bs bs' [] h hb hr zb zr = omega arith
      rank-later bs bs' (r ∷ rows) h hb hr zb zr =
          let hb' = raised-vectors hw bs bs' h hb in
          let old : in_span q m bs' r ≡ true → in_span q m bs r ≡ true = λ e.
          let s = in_span-true q m f bs' r hb' hr.0 e in
          let hu : IsVector q (length bs) s.by = rw (raised-length bs bs' h) at s.vector in
          let sum = raised-sum bs bs' s.by h hu in
          let is : (p : List ℕ) → dot q r p ≡ add q (dot q (combination q m s.by bs) p) (mul q sum.0 (dot q w p)) =
          λ p. cc (s.gives, sum.2 p) in
          let none : sum.0 ≡ 0 =
          no_factor sum.0 (combination q m s.by bs) r sum.1 (zero-combination p0 s.by bs zb) zr.0 (is p0) in
          in_span-holds q m f bs r
          (record {
            by = s.by;
            vector = hu;
            gives = sym
                (unraised sum.0 (combination q m s.by bs) r (combination-vector q m f s.by bs hb) hr.0 none is);
          }) in
          let first = less_new _ _ old in
          let rest =
          rank-later (bs ++ r ∷ []) (bs' ++ r ∷ []) rows (raised-snoc bs bs' r h)
          (each-append (λ r. IsVector q m r) bs (r ∷ []) hb (hr.0, tt)) hr.1
          (each-append (λ r. dot q r p0 ≡ 0) bs (r ∷ []) zb (zr.0, tt)) zr.1 in
          omega (arith, first, rest)

      -- the rank rises
      pub rank-raised : (bs xs ys : List (List ℕ)) → RaisesAt q m w bs xs ys → AreVectors q m bs → AreVectors q m xs
          → ZeroAt p0 bs → ZeroAt p0 xs → rank_after q m bs xs + 1 ≤ rank_after q m bs ys
      rank-raised bs [] ys h hb hx zb zx = absurd h
      rank-raised bs (x ∷ xs) [] h hb hx zb zx = absurd h
      rank-raised bs (x ∷ xs) (y ∷ ys) h hb hx zb zx =
          let hb' = each-append (λ r. IsVector q m r) bs (x ∷ []) hb (hx.0, tt) in
          let zb' = each-append (λ r. dot q r p0 ≡ 0) bs (x ∷ []) zb (zx.0, tt) in
          elim h [
            | inl s ↦
                let rest = rank-raised (bs ++ x ∷ []) xs ys s.1 hb' hx.1 zb' zx.1 in
                subst (λ z. rank_after q m bs (x ∷ xs) + 1 ≤ rank_after q m bs (z ∷ ys)) s.0 (omega (arith, rest))
            | inr s ↦
                let was = in_span-holds q m f bs x s.0 in
                let at_y : dot q y p0 ≡ 1 =
                ap (λ v. dot q v p0) s.1 ∙ dot-plus q f x w p0 ∙
                (rw (zx.0, one) (zero-add-code q f 1 f.more_than_one)) in
                let hy : IsVector q m y = subst (IsVector q m) (sym s.1) (plus-vector q m f x w hx.0 hw) in
                let now : in_span q m bs y ≡ false =
                in_span-none q m f bs y hb hy
                (λ i. (let bad : 0
                ≡ 1 = sym (ap (λ v. dot q v p0) (sym i.gives) ∙ zero-combination p0 i.by bs zb) ∙ at_y in
                omega arith)) in
                let later : rank_after q m (bs ++ x ∷ []) xs ≤ rank_after q m (bs ++ y ∷ []) ys =
                rw (← s.1) at (subst (λ z. rank_after q m (bs ++ x ∷ []) xs ≤ rank_after q m (bs ++ plus q x w ∷ []) z)
                s.2
                (rank-later (bs ++ x ∷ []) (bs ++ plus q x w ∷ []) xs (raised-end bs x) hb' hx.1 zb' zx.1)) in
                rw (was, now) (omega (arith, later))
          ]

      module _ (xs ys blocks : List (List ℕ)) (h : RaisedBy q w xs ys) (hx : AreVectors q m xs)
          (zx : ZeroAt p0 xs) where
        -- a word of the new factor rows is one of the old
        pub words_old : (u : List ℕ) → IsVector q (length xs) u → combination q m u ys ≡ zeros m
            → combination q m u xs ≡ zeros m
        words_old u hu e =
            let sum = raised-sum xs ys u h hu in
            let none =
            no_factor sum.0 (combination q m u xs) (combination q m u ys) sum.1 (zero-combination p0 u xs zx)
            (cc (e, dot-zeros q f m p0)) (sum.2 p0) in
            sym (unraised sum.0 (combination q m u xs) (combination q m u ys) (combination-vector q m f u xs hx)
            (combination-vector q m f u ys (raised-vectors hw xs ys h hx)) none sum.2) ∙ e

        -- first case: w is a combination of the block rows
        pub allowed_by_block : (Forbidden : List ℕ → List ℕ → Type 0) → IsBlind q (length xs) (length blocks) Forbidden
            → AreVectors q m blocks → InSpan q m blocks w → IsAllowed q m Forbidden xs blocks
            → IsAllowed q m Forbidden ys blocks
        allowed_by_block Forbidden blind hb s ok = record {
          none = λ u b hu' hbv bad e.
              let hu : IsVector q (length xs) u = rw (raised-length xs ys h) at hu' in
              let hy = raised-vectors hw xs ys h hx in
              let sum = raised-sum xs ys u h hu in
              let same_old : combination q m u ys ≡ combination q m u xs → ⊥ =
              λ same. ok.none u b hu hbv bad (cc (same, e)) in
              elim (blind u b bad) [
                | inl no_b ↦
                    let b_none : combination q m b blocks ≡ zeros m =
                    cc (no_b, none-combination (length blocks) blocks hb) in
                    let word : combination q m u ys ≡ zeros m =
                    cc (b_none, plus-zero q m f (combination q m u ys) (combination-vector q m f u ys hy), e) in
                    same_old (word ∙ sym (words_old u hu word))
                | inr more ↦ elim more [
                  | inl no_u ↦
                      same_old (cc (no_u, none-combination (length xs) ys hy, none-combination (length xs) xs hx))
                  | inr all ↦
                      let c : ℕ = sum.0 in
                      let b' : List ℕ = plus q b (scale q c s.by) in
                      let hb' : IsVector q (length blocks) b' =
                      plus-vector q (length blocks) f b (scale q c s.by) hbv
                      (scale-vector q (length blocks) f c s.by s.vector) in
                      ok.none u b' hu hb' (all b' hb')
                      (ext q m f _ _
                      (plus-vector q m f _ _ (combination-vector q m f u xs hx)
                      (combination-vector q m f b' blocks hb)) (zeros-vector q m f)
                      (λ p.
                      let x : ℕ = dot q (combination q m u xs) p in
                      let y : ℕ = dot q (combination q m b blocks) p in
                      let z : ℕ = mul q c (dot q w p) in
                      let new : add q (add q x z) y ≡ 0 =
                      cc (
                        sum.2 p,
                        dot-plus q f (combination q m u ys) (combination q m b blocks) p,
                        e,
                        dot-zeros q f m p,
                      ) in
                      cc (
                        dot-plus q f (combination q m u xs) (combination q m b' blocks) p,
                        plus-combination b (scale q c s.by) blocks p,
                        scale-combination c s.by blocks p,
                        s.gives,
                        f.add_comm y z,
                        f.add_assoc x z y,
                        new,
                        dot-zeros q f m p,
                      )))
                ]
              ];
        }

        -- second case: the block rows are 0 where w is 1
        pub allowed_by_other : (Forbidden : List ℕ → List ℕ → Type 0) → ZeroAt p0 blocks
            → IsAllowed q m Forbidden xs blocks → IsAllowed q m Forbidden ys blocks
        allowed_by_other Forbidden zb ok = record {
          none = λ u b hu' hbv bad e.
              let hu : IsVector q (length xs) u = rw (raised-length xs ys h) at hu' in
              let sum = raised-sum xs ys u h hu in
              let at_new : dot q (combination q m u ys) p0 ≡ 0 =
              cc (
                zero-combination p0 b blocks zb,
                f.add_zero _ (dot_code q f (combination q m u ys) p0),
                dot-plus q f (combination q m u ys) (combination q m b blocks) p0,
                e,
                dot-zeros q f m p0,
              ) in
              let none =
              no_factor sum.0 (combination q m u xs) (combination q m u ys) sum.1 (zero-combination p0 u xs zx)
              at_new (sum.2 p0) in
              let same =
              unraised sum.0 (combination q m u xs) (combination q m u ys) (combination-vector q m f u xs hx)
              (combination-vector q m f u ys (raised-vectors hw xs ys h hx)) none sum.2 in
              ok.none u b hu hbv bad (cc (same, e));
        }

pub sum_by-le : {X : Type 0} (g h : X → ℕ) (xs : List X) → AllByRecursion (λ x. g x ≤ h x) xs
    → sum_by g xs ≤ sum_by h xs
sum_by-le g h [] all = omega arith
sum_by-le g h (x ∷ xs) all =
    let rest = sum_by-le g h xs all.1 in
    let here : g x ≤ h x = all.0 in
    let e = sum_by-cons g x xs in
    let e' = sum_by-cons h x xs in
    omega arith

pub sum_by-each : {X : Type 0} (g h : X → ℕ) (xs : List X) → AllByRecursion (λ x. g x ≡ h x) xs
    → sum_by g xs ≡ sum_by h xs
sum_by-each g h [] all = refl
sum_by-each g h (x ∷ xs) all = rw (sum_by-cons g x xs, sum_by-cons h x xs, all.0, sum_by-each g h xs all.1) refl

implied : (a b c : Bool) → (a ≡ true → b ≡ true) → cond (a && c) 1 0 ≤ cond (b && c) 1 0
implied true b c h = (let e = h refl in rw e (omega arith))
implied false true true h = omega arith
implied false true false h = omega arith
implied false false c h = omega arith

-- the words of a list of factor rows, each of which is one of another list
pub fewer_words : (q m : ℕ) (f : IsField q) (xs ys : List (List ℕ)) (k : ℕ) → AreVectors q m xs → AreVectors q m ys
    → length ys ≡ length xs
    → ((u : List ℕ) → IsVector q (length xs) u → combination q m u ys ≡ zeros m → combination q m u xs ≡ zeros m)
    → words q m ys k ≤ words q m xs k
unfolding words
fewer_words q m f xs ys k hx hy len old =
    let some : 0 < q = omega (arith, f.more_than_one) in
    let test : List (List ℕ) → List ℕ → Bool =
    λ rows u. eqb (number q (combination q m u rows)) 0 && eqb (weight u) k in
    subst (λ n. sum_by (λ u. cond (test ys u) 1 0) (points q n)
    ≤ sum_by (λ u. cond (test xs u) 1 0) (points q (length xs))) (sym len)
    (sum_by-le _ _ (points q (length xs))
    (recursion_from_All _ _
    (all-points q (length xs) some (λ u. cond (test ys u) 1 0 ≤ cond (test xs u) 1 0) (λ u hu.
    let zero_is : eqb (number q (combination q m u ys)) 0 ≡ true → eqb (number q (combination q m u xs)) 0 ≡ true = λ e.
    let none : combination q m u ys ≡ zeros m =
    number-same q m f _ _ (combination-vector q m f u ys hy) (zeros-vector q m f)
    (eqb-true _ _ e ∙ sym (number-zeros q m)) in
    eq-eqb _ _ (cc (old u hu none, number-zeros q m)) in
    implied (eqb (number q (combination q m u ys)) 0) (eqb (number q (combination q m u xs)) 0) (eqb (weight u) k)
    zero_is))))
