use Rattle.std.proofs.Common.{rules, ◌≡◌, ◌+◌, ◌^◌, ◌++◌, ◌∷◌, [], ◌∙◌, true, false, map, length, add-one}
use Rattle.std.proofs.Common.{ap, arith}
use Rattle.std.specs.Prelude.{◌==◌, nat_le}
use Rattle.std.proofs.lemmas.Bool.{cond-true, leb-true, leb-false}
use Rattle.std.proofs.lemmas.List.{length-map, map-append}
use Rattle.fx_designs.specs.Galois.{digits}
use Rattle.fx_alias.specs.Rules.{introduction, rule_of}
use Rattle.fx_alias.proofs.Subjects.{introducing-rule, other-rule, remaining-lines}
use Rattle.fx_alias.proofs.rules.put_rule_lines.Goals as goal

pub loop-k-preserved-then-is_next_unit : goal.loop-k-preserved-then-is_next_unit
loop-k-preserved-then-is_next_unit c =
    let view = c.args.matrix.now in
    let q = view.shape.q in
    let name = c.name_of-name.result.now in
    let items = c.loop-k.introduced.items in
    let names = map (λ n. n.now) items in
    let is_block = nat_le c.len-then-is_next_unit.result c.loop-k.k in
    let count : length names ≡ length items = length-map items _ in
    let same : c.shape-shape.result.q ≡ q = cc c.shape-shape.ensures.shape in
    let len : c.len.result ≡ length items = omega arith in
    let power : q ^ length names ≡ c.shape-shape.result.q ^ c.len.result = rw (count, same, len) in
    let unit : (c.row-row.result == q ^ length names) ≡ true =
    cc (c.is_next_unit.ensures, c.if-is_next_unit.true) in
    let next =
    introducing-rule q view.shape.m names c.args.factors.now c.args.blocks.now view.rows c.loop-k.k c.row-row.result
    name is_block
    c.requires (omega arith)
    c.row-row.ensures.row c.name_of-name.ensures
    (λ e. omega (arith, leb-true _ _ e))
    (λ e. omega (arith, leb-false _ _ e)) unit in
    let pushed = c.push.ensures.items ∙ cond-true _ _ _ c.if-is_err.ensures.negation in
    let named : map (λ n. n.now) c.push.new.self.items ≡ names ++ name ∷ [] =
    ap (map (λ n. n.now)) pushed ∙ map-append _ items _ in
    let next_index : c.len-then-is_next_unit-2.result ≡ length items =
    omega arith in
    let listed : c.put_introduction.new.out
    ≡ c.loop-k.out ++ introduction (record { name = name; is_block = is_block }) (length names + 1) =
    cc c.in_ok-put_introduction.ensures
    in
    let later = remaining-lines _ _ _ _ _ _ next listed c.loop-k.invariant.lines in
    record {
      lines = rw (named, add-one c.loop-k.k) later;
      few = search rules;
    }

pub loop-k-preserved : goal.loop-k-preserved
loop-k-preserved c =
    let view = c.args.matrix.now in
    let q = view.shape.q in
    let row = c.row-row.result in
    let name = c.name_of-name.result.now in
    let items = c.loop-k.introduced.items in
    let names = map (λ n. n.now) items in
    let count : length names ≡ length items = length-map items _ in
    let same : c.shape-shape.result.q ≡ q = cc c.shape-shape.ensures.shape in
    let len : c.len.result ≡ length items = omega arith in
    let power : q ^ length names ≡ c.shape-shape.result.q ^ c.len.result = rw (count, same, len) in
    let other : (row == q ^ length names) ≡ false =
    cc (c.is_next_unit.ensures, c.if-is_next_unit.false) in
    let next =
    other-rule q view.shape.m names c.args.factors.now c.args.blocks.now view.rows c.loop-k.k row name
    (nat_le (length c.args.factors.now) c.loop-k.k) c.requires (omega arith)
    c.row-row.ensures.row c.name_of-name.ensures
    (leb-true _ _) (leb-false _ _) other in
    let listed : c.put_rule.new.out ≡ c.loop-k.out ++ rule_of names name (digits q view.shape.m row) =
    c.in_ok-put_rule.ensures
    ∙ ap (λ l. c.loop-k.out
    ++ rule_of (map (λ n. n.now) l) name (digits c.shape-shape.result.q c.shape-shape.result.m row))
    c.as_slice.ensures.value
    ∙ ap (λ z. c.loop-k.out ++ rule_of names name (digits z.q z.m row)) c.shape-shape.ensures.shape in
    record {
      lines = rw (add-one c.loop-k.k) (remaining-lines _ _ _ _ _ _ next listed c.loop-k.invariant.lines);
      few = c.loop-k.invariant.few;
    }
