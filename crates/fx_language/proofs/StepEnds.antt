-- The grammar in which a step may be followed by anything that begins a statement of the program has the same programs.
use Rattle.std.proofs.Common.{◌≡◌, List, [], ◌∷◌, ◌++◌, refl, sym, ap, ◌∙◌, append_assoc, inl, inr}
use Rattle.std.specs.List.{flat_map, AllByRecursion}
use Rattle.fx_base.proofs.Lists.{each-append}
use Rattle.fx_language.specs.declared.symbol.Symbol.{Symbol}
use Rattle.fx_language.specs.declared.symbol.Symbol.TheVariants.{Semicolon, Run, Quit, End}
use Rattle.fx_language.specs.Shapes.{Shape, Many, maybe, Matches, ◌▸◌, ◌∣◌}
use Rattle.fx_language.specs.Grammar.{key, step, proc, statement, between, program, unknown}
use Rattle.fx_language.specs.Uncoded.{loose_program}
use Rattle.fx_language.proofs.Derivatives.{parts_of, sequence_of}

abbrev pub top : Shape
top = key Semicolon ∣ key Run ▸ key Semicolon ∣ key Quit ▸ key Semicolon ∣ step

abbrev sep : Shape
sep = key Semicolon ∣ key Run ▸ key Semicolon ∣ key Quit ▸ key Semicolon

abbrev block : Shape
block = step ▸ maybe (key Quit ▸ key Semicolon ▸ between)

abbrev Text : Type 0
Text = List Symbol

abbrev pub flat : List Text → Text
flat parts = flat_map (λ part. part) parts

cat : (a b : Shape) (x y : Text) → Matches a x → Matches b y → Matches (a ▸ b) (x ++ y)
cat a b x y p q = sequence_of a b _ (x, y, p, q, refl)

pub flat_cat : (a b : List Text) → flat (a ++ b) ≡ flat a ++ flat b
flat_cat [] b = refl
flat_cat (p ∷ a) b = cc (flat_cat a b, append_assoc p (flat a) (flat b))

record Outside (text : Text) : Type 0 where
  gaps : List Text
  blocks : List Text
  each_gap : AllByRecursion (Matches sep) gaps
  each_block : AllByRecursion (Matches block) blocks
  is : text ≡ flat gaps ++ flat blocks

record Inside (text : Text) : Type 0 where
  statements : List Text
  last : Text
  blocks : List Text
  each_statement : AllByRecursion (Matches statement) statements
  ends : Matches (maybe (key Quit ▸ key Semicolon ▸ between)) last
  each_block : AllByRecursion (Matches block) blocks
  is : text ≡ flat statements ++ (last ++ flat blocks)

gap : (p text : Text) → Matches sep p → Outside text → Outside (p ++ text)
gap p text h o = record {
  gaps = p ∷ o.gaps;
  blocks = o.blocks;
  each_gap = (h, o.each_gap);
  each_block = o.each_block;
  is = cc (append_assoc p (flat o.gaps) (flat o.blocks));
}

regroup : (p text x own st last m : Text) → p ≡ x ++ own → text ≡ st ++ (last ++ m)
    → p ++ text ≡ ((x ++ (own ++ st)) ++ last) ++ m
regroup p text x own st last m e f = rw (e, f) (simp append_assoc)

-- a step takes in what follows it
opened : (p text : Text) → Matches step p → Inside text
    → (b : Text) × (m : List Text) × Matches block b × AllByRecursion (Matches block) m × (p ++ text ≡ b ++ flat m)
opened p text h o =
    let s = parts_of proc (Many statement) p h in
    let own = s.3.0 in
    let x = s.0 in
    let whole : Matches (Many statement) (flat own ++ flat o.statements) = (
      own ++ o.statements,
      each-append (Matches statement) own o.statements s.3.1 o.each_statement,
      sym
          (flat_cat own o.statements),
    ) in
    let body = cat proc (Many statement) x (flat own ++ flat o.statements) s.2 whole in
    let b : Text = (x ++ (flat own ++ flat o.statements)) ++ o.last in
    let e = s.4 ∙ ap (λ l. x ++ l) s.3.2 in (
      b,
      o.blocks,
      cat step (maybe (key Quit ▸ key Semicolon ▸ between)) _ o.last
          body o.ends,
      o.each_block,
      regroup p text x _ _ o.last _ e o.is,
    )

started : (p text : Text) → Matches step p → Inside text → Outside (p ++ text)
started p text h o =
    let r = opened p text h o in
    record { gaps = []; blocks = r.0 ∷ r.1; each_gap = tt; each_block = (r.2, r.3); is = r.4 }

again : (p text : Text) → Matches step p → Inside text → Inside (p ++ text)
again p text h o =
    let r = opened p text h o in
    record {
      statements = [];
      last = [];
      blocks = r.0 ∷ r.1;
      each_statement = tt;
      ends = inr refl;
      each_block = (r.2, r.3);
      is = r.4;
    }

one_more : (p text : Text) → Matches statement p → Inside text → Inside (p ++ text)
one_more p text h o = record {
  statements = p ∷ o.statements;
  last = o.last;
  blocks = o.blocks;
  each_statement = (h, o.each_statement);
  ends = o.ends;
  each_block = o.each_block;
  is = cc (append_assoc p (flat o.statements) (o.last ++ flat o.blocks));
}

closed : (p text : Text) → Matches (key Quit ▸ key Semicolon) p → Outside text → Inside (p ++ text)
closed p text (x, y, q, s, e) o = record {
  statements = [];
  last = p ++ flat o.gaps;
  blocks = o.blocks;
  each_statement = tt;
  ends =
      inl (
        x,
        y ++ flat o.gaps,
        q,
        (y, flat o.gaps, s, (o.gaps, o.each_gap, refl), refl),
        rw e
            (append_assoc x y (flat o.gaps)),
      );
  each_block = o.each_block;
  is = ap (λ (l : Text). p ++ l) o.is ∙ sym (append_assoc p (flat o.gaps) (flat o.blocks));
}

mutual
  outside : (parts : List Text) → AllByRecursion (Matches top) parts → Outside (flat parts)
  outside [] h = record { gaps = []; blocks = []; each_gap = tt; each_block = tt; is = refl }
  outside (p ∷ parts) (inl s, hs) = gap p (flat parts) (inl s) (outside parts hs)
  outside (p ∷ parts) (inr (inl r), hs) = gap p (flat parts) (inr (inl r)) (outside parts hs)
  outside (p ∷ parts) (inr (inr (inl q)), hs) = gap p (flat parts) (inr (inr q)) (outside parts hs)
  outside (p ∷ parts) (inr (inr (inr st)), hs) = started p (flat parts) st (inside parts hs)

  inside : (parts : List Text) → AllByRecursion (Matches top) parts → Inside (flat parts)
  inside [] h = record {
    statements = [];
    last = [];
    blocks = [];
    each_statement = tt;
    ends = inr refl;
    each_block = tt;
    is = refl;
  }
  inside (p ∷ parts) (inl s, hs) = one_more p (flat parts) (inl s) (inside parts hs)
  inside (p ∷ parts) (inr (inl r), hs) = one_more p (flat parts) (inr (inl r)) (inside parts hs)
  inside (p ∷ parts) (inr (inr (inl q)), hs) = closed p (flat parts) q (outside parts hs)
  inside (p ∷ parts) (inr (inr (inr st)), hs) = again p (flat parts) st (inside parts hs)

pub loose_is_program : (text : Text) → Matches loose_program text → Matches program text
loose_is_program text (x, y, (parts, each, e), last, f) =
    let o = outside parts each in (
      flat o.gaps,
      flat o.blocks ++ y,
      (o.gaps, o.each_gap, refl),
      (flat o.blocks, y, (o.blocks, o.each_block, refl), inl last, refl),
      cc (append_assoc (flat o.gaps) (flat o.blocks) y),
    )

-- and the other way
sep_top : (parts : List Text) → AllByRecursion (Matches sep) parts → AllByRecursion (Matches top) parts
sep_top [] h = tt
sep_top (p ∷ parts) (inl s, hs) = (inl s, sep_top parts hs)
sep_top (p ∷ parts) (inr (inl r), hs) = (inr (inl r), sep_top parts hs)
sep_top (p ∷ parts) (inr (inr q), hs) = (inr (inr (inl q)), sep_top parts hs)

record Tops (text : Text) : Type 0 where
  parts : List Text
  each : AllByRecursion (Matches top) parts
  is : text ≡ flat parts

quit_tops : (r text : Text) → Matches (maybe (key Quit ▸ key Semicolon ▸ between)) r → Tops text
    → Tops (r ++ text)
quit_tops r text (inr e) o = record { parts = o.parts; each = o.each; is = rw e o.is }
quit_tops r text (inl (u, v, q, (w, z, s, (gaps, each, e), f), g)) o =
    record {
      parts = (u ++ w) ∷ (gaps ++ o.parts);
      each = (inr (inr (inl (u, w, q, s, refl))), each-append _ gaps o.parts (sep_top gaps each) o.each);
      is =
          cc (spread r text u v w z _ _ g f e o.is, flat_cat gaps o.parts);
    }
  where
    spread : (r text u v w z a b : Text) → r ≡ u ++ v → v ≡ w ++ z → z ≡ a → text ≡ b
        → r ++ text ≡ (u ++ w) ++ (a ++ b)
    spread r text u v w z a b p q s t = rw (p, q, s, t) (simp append_assoc)

blocks_tops : (blocks : List Text) → AllByRecursion (Matches block) blocks → Tops (flat blocks)
blocks_tops [] h = record { parts = []; each = tt; is = refl }
blocks_tops (b ∷ blocks) h =
    let x = parts_of step (maybe (key Quit ▸ key Semicolon ▸ between)) b h.0 in
    let o = quit_tops x.1 _ x.3 (blocks_tops blocks h.1) in
    record {
      parts = x.0 ∷ o.parts;
      each = (inr (inr (inr x.2)), o.each);
      is = ap (λ l. l ++ flat blocks) x.4 ∙ append_assoc x.0 x.1 (flat blocks) ∙ ap (λ l. x.0 ++ l)
          o.is;
    }

pub program_is_loose : (text : Text) → Matches program text → Matches loose_program text
program_is_loose text (x, y, (gaps, each, e), (z, w, (blocks, all, f), last, g), i) =
    let o = blocks_tops blocks all in (
      flat (gaps ++ o.parts),
      w,
      (gaps ++ o.parts, each-append _ gaps o.parts (sep_top gaps each) o.each, refl),
      ended last,
      cc (join x y z w _ _ e g (f ∙ o.is), flat_cat gaps o.parts),
    )
  where
    join : (x y z w a b : Text) → x ≡ a → y ≡ z ++ w → z ≡ b → x ++ y ≡ (a ++ b) ++ w
    join x y z w a b p q r = rw (p, q, r) (sym (append_assoc a b w))

    ended : {w : Text} → Matches (key End ∣ unknown) w → Matches (key End) w
    ended (inl h) = h
    ended (inr (inl h)) = absurd h
    ended (inr (inr h)) = absurd h
