use Rattle.std.proofs.Common.{Bor, List, ℕ, ◌≡◌, ◌+◌, ◌∙◌, refl, rules, inl, inr, true, map, length, Some, ◌∷◌, []}
use Rattle.std.proofs.Common.{arith, lit<}
use Rattle.std.specs.Result.{is_ok}
use Rattle.std.proofs.lemmas.List.{map-append, length_push, length-map}
use Rattle.csv.specs.Reading.{Reached, default_config, strip_bom}
use Rattle.csv.specs.Records.{fields_of}
use Rattle.csv.specs.declared.parser.State.TheVariants as st
use Rattle.csv.proofs.ReadFacts.{rows-end, rows-more}
use Rattle.fx_judge.proofs.Reached.{whole_text, front_of_text}
use Rattle.fx_judge.proofs.records.read_records.Goals as goal

pub loop-record-init : goal.loop-record-init
unfolding Reached
loop-record-init c =
    let fr = c.from_reader-rdr.ensures in
    let e = c.has_headers.ensures in
    let g = c.flexible.ensures in
    let start = c.into_iter-record-iterator.ensures.into_iter_gives ∙ refl in
    rw (start, c.into_byte_records-record-items.ensures.rdr, c.new-records.ensures.items) (
      rw (g, e) at fr.trim ∙ c.new.ensures.trim,
      inr (inr (rw (g, e) at fr.has_headers, fr.headers)),
      c.into_byte_records-record-items.ensures.left,
      rw (g, e) at fr.config ∙ c.new.ensures.config,
      strip_bom c.args.text.now,
      fr.source,
      (cc, refl),
      lit< tt,
    )

pub loop-record-preserved : goal.loop-record-preserved
loop-record-preserved c =
    let inv = c.loop-record.invariant in
    let s = rw (c.in-Some.is, c.in-Ok.is) at ((c.next.ensures.steps inv.2 inv.0).0 inv.1) in
    let good : is_ok c.push.result ≡ true = search rules in
    let items = rw good at c.push.ensures.items in
    let m = rows-more (λ (s : Bor (List ℕ)). Some s.now) c.loop-record.record-iterator.rdr c.next.new.self.rdr
    (fields_of c.in-Ok.record) default_config st.StartRecord (strip_bom c.args.text.now) inv.4
    (map fields_of c.loop-record.records.items) inv.3 inv.5 inv.6 s.0 in
    let long : length c.push.new.self.items ≡ length c.loop-record.records.items + 1 =
    cc (length_push c.loop-record.records.items c.in-Ok.record) in (
      cc,
      inl s.1,
      s.2,
      cc,
      m.0,
      m.1,
      rw (items, map-append fields_of c.loop-record.records.items (c.in-Ok.record ∷ [])) m.2,
      omega arith,
    )

pub returns-then-len-eq4098 : goal.returns-then-len-eq4098
returns-then-len-eq4098 c =
    let inv = c.loop-record.invariant in
    let s = rw (c.in-Some.is, c.in-Ok.is) at ((c.next.ensures.steps inv.2 inv.0).0 inv.1) in
    let good : is_ok c.push.result ≡ true = search rules in
    let items = rw good at c.push.ensures.items in
    let m = rows-more (λ (s : Bor (List ℕ)). Some s.now) c.loop-record.record-iterator.rdr c.next.new.self.rdr
    (fields_of c.in-Ok.record) default_config st.StartRecord (strip_bom c.args.text.now) inv.4
    (map fields_of c.loop-record.records.items) inv.3 inv.5 inv.6 s.0 in
    front_of_text c.args.text.now (map fields_of c.push.new.self.items) c.next.new.self.rdr.state m.0 4098
    (rw (items, map-append fields_of c.loop-record.records.items (c.in-Ok.record ∷ [])) m.2)
    (length-map c.push.new.self.items fields_of ∙ omega arith)

pub returns : goal.returns
returns c =
    let inv = c.loop-record.invariant in
    let s = rw c.in-None.is at ((c.next.ensures.steps inv.2 inv.0).0 inv.1) in
    let none =
    rows-end (λ (s : Bor (List ℕ)). Some s.now) c.loop-record.record-iterator.rdr c.next.new.self.rdr []
    default_config inv.4 inv.3 inv.5 s in
    whole_text c.args.text.now _ c.loop-record.record-iterator.rdr.state inv.4
    4098 inv.6 none
    (omega (arith, length-map c.loop-record.records.items fields_of))
