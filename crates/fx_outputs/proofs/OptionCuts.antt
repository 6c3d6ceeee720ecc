-- The options of an OUTPUT statement are those of the grammar.
use Rattle.std.proofs.Common.{◌≡◌, suc, Bool, true, false, List, [], ◌∷◌, ◌++◌, length, refl, sym, ap, ◌∙◌}
use Rattle.std.proofs.Common.{inl, inr}
use Rattle.std.proofs.Common.{append_assoc}
use Rattle.std.specs.Prelude.{◌&&◌, ◌||◌}
use Rattle.std.specs.List.{AllByRecursion, flat_map}
use Rattle.std.proofs.lemmas.Bool.{and_parts, cases_Bool}
use Rattle.std.proofs.lemmas.List.{append-nil, take_at}
use Rattle.fx_language.specs.declared.symbol.Symbol.{Symbol}
use Rattle.fx_language.specs.declared.symbol.Symbol.TheVariants as symbol
use Rattle.fx_language.specs.Symbols.{is, is_word, is_output_option}
use Rattle.fx_language.specs.Shapes.{Shape, Empty, One, Before, Either, Many, Matches}
use Rattle.fx_language.specs.Grammar as grammar
use Rattle.fx_language.proofs.SameSymbol.{symbol_is}
use Rattle.fx_text.specs.Written.{Written}
use Rattle.fx_text.specs.Sentences.{IsStatement, symbols_in}
use Rattle.fx_outputs.specs.Options.{are_open_behind, begins_option, is_first, option_len, options_behind}
use Rattle.fx_outputs.specs.Readings.{AreOptionsRead}
use Rattle.fx_text.proofs.ByLexemes.{Reads, by_lexemes, matches, before_end, semicolon}

-- a symbol that passes the test is not this one
pub apart : (t : Symbol) (test : Symbol → Bool) (s : Symbol) → test t ≡ false → test s ≡ true → is t s ≡ false
apart t test s fails passes = elim (cases_Bool (is t s)) [
  | inl it ↦ absurd (let f = sym fails ∙ ap test (sym (symbol_is t s it)) ∙ passes in cc)
  | inr differs ↦ differs
]

-- a lexeme that begins no option, and behind which one may begin
record IsQuiet (w : Written) : Type 0 where
  bracket : is symbol.OpenBracket w.symbol ≡ false
  option : is_output_option w.symbol ≡ false
  word : is_word w.symbol ≡ false
  sign : is symbol.Equals w.symbol ≡ false

quiet : (a : Symbol) (w : Written) → is a w.symbol ≡ true → is symbol.OpenBracket a ≡ false → is_output_option a ≡ false
    → is_word a ≡ false → is symbol.Equals a ≡ false → IsQuiet w
quiet a w it b o d e =
    let same = symbol_is a w.symbol it in
    record { bracket = rw same b; option = rw same o; word = rw same d; sign = rw same e }

-- none of these begins an option, and one may begin behind them
abbrev Quiet : Bool → Written → List Written → List Written → Type 0
Quiet inside before [] rest = (are_open_behind inside before ≡ false) × (is symbol.Equals before.symbol ≡ false)
Quiet inside before (w ∷ more) rest =
    (begins_option (are_open_behind inside before) before (w ∷ more ++ rest) ≡ false)
    × Quiet (are_open_behind inside before) w more rest

none : (b : Bool) → (b && false) ≡ false
none true = refl
none false = refl

-- nothing begins at what is no beginning
passed : (within : Bool) (before w : Written) (rest : List Written) → is_first w rest ≡ false
    → begins_option within before (w ∷ rest) ≡ false
passed within before w rest h = rw h (none _)

-- what is behind `=` is a name
behind_sign : (within : Bool) (before w : Written) (rest : List Written) → before.symbol ≡ symbol.Equals
    → begins_option within before (w ∷ rest) ≡ false
behind_sign true before w rest sign = refl
behind_sign false before w rest sign = rw sign

abbrev Starts : List Written → Type 0
Starts [] = Unit {0}
Starts (w ∷ rest) = is_first w rest ≡ true

len : (inside : Bool) (before : Written) (more rest : List Written) → Quiet inside before more rest → Starts rest
    → option_len inside (before ∷ more ++ rest) ≡ suc (length more)
len inside before [] [] q s = refl
len inside before [] (x ∷ rest) q s = rw (q.0, q.1, s)
len inside before (w ∷ more) rest q s = rw q.0 (cc (len (are_open_behind inside before) w more rest q.1 s))

-- where the search has come to
record Reached (done : List (List Written)) (inside : Bool) (s rest : List Written) : Type 0 where
  within : Bool
  last : Written
  closed : are_open_behind within last ≡ false
  plain : is symbol.Equals last.symbol ≡ false
  same : options_behind done inside s ≡ options_behind done within (last ∷ rest)

further : (done : List (List Written)) (inside : Bool) (before : Written) (rest : List Written)
    → begins_option (are_open_behind inside before) before rest ≡ false
    → options_behind done inside (before ∷ rest) ≡ options_behind done (are_open_behind inside before) rest
further done inside before rest h =
    let within = are_open_behind inside before in
    cc

pass : (done : List (List Written)) (inside : Bool) (before : Written) (more rest : List Written)
    → Quiet inside before more rest → Reached done inside (before ∷ more ++ rest) rest
pass done inside before [] rest q = record { within = inside; last = before; closed = q.0; plain = q.1; same = refl }
pass done inside before (w ∷ more) rest q =
    let later = pass done (are_open_behind inside before) w more rest q.1 in
    record {
      within = later.within;
      last = later.last;
      closed = later.closed;
      plain = later.plain;
      same = cc (further done inside before _ q.0);
    }

-- an option, which begins by its first lexeme alone
record IsPart (part rest : List Written) : Type 0 where
  first : Written
  more : List Written
  all : part ≡ first ∷ more
  begins_it : is_first first (more ++ rest) ≡ true
  goes_on : Quiet false first more rest

-- lexemes that are quiet
all_quiet : (inside : Bool) (before : Written) (more rest : List Written) → are_open_behind inside before ≡ false
    → is symbol.Equals before.symbol ≡ false → AllByRecursion IsQuiet more → Quiet inside before more rest
all_quiet inside before [] rest closed plain each = (closed, plain)
all_quiet inside before (w ∷ more) rest closed plain each = (
  passed (are_open_behind inside before) before w (more ++ rest)
      (rw (each.0.bracket, each.0.option, each.0.word) refl),
  all_quiet (are_open_behind inside before) w more rest (rw (closed, each.0.bracket)) each.0.sign each.1,
)

both : (x y : List Written) → AllByRecursion IsQuiet x → AllByRecursion IsQuiet y → AllByRecursion IsQuiet (x ++ y)
both [] y h k = k
both (w ∷ x) y h k = (h.0, both x y h.1 k)

flat : (a : Shape) → ((x : List Written) → Reads a x → AllByRecursion IsQuiet x) → (parts : List (List Written))
    → AllByRecursion (Reads a) parts → AllByRecursion IsQuiet (flat_map (λ part. part) parts)
flat a f [] h = tt
flat a f (part ∷ parts) h = both part _ (f part h.0) (flat a f parts h.1)

one_key : (a : Symbol) (x : List Written) → is symbol.OpenBracket a ≡ false → is_output_option a ≡ false
    → is_word a ≡ false → is symbol.Equals a ≡ false → Reads (One (is a)) x → AllByRecursion IsQuiet x
one_key a x b o d e (w, it, all) = rw all (quiet a w it b o d e, tt)

value_quiet : (x : List Written) → Reads grammar.value x → AllByRecursion IsQuiet x
value_quiet x (y, z, inl minus, inl n, i) =
    rw i (both y z (one_key symbol.Minus y refl refl refl refl minus) (one_key symbol.Whole z refl refl refl refl n))
value_quiet x (y, z, inl minus, inr n, i) =
    rw i (both y z (one_key symbol.Minus y refl refl refl refl minus) (one_key symbol.Decimal z refl refl refl refl n))
value_quiet x (y, z, inr e, inl n, i) = rw (i, e) (one_key symbol.Whole z refl refl refl refl n)
value_quiet x (y, z, inr e, inr n, i) = rw (i, e) (one_key symbol.Decimal z refl refl refl refl n)

-- NVALS or CVALS, `=` and what is quiet
record HasValues (x : List Written) : Type 0 where
  word : Written
  sign : Written
  first : Written
  more : List Written
  all : x ≡ word ∷ sign ∷ first ∷ more
  word_is : is_first word (sign ∷ []) ≡ false
  no_sign : is symbol.Equals word.symbol ≡ false
  no_bracket : is symbol.OpenBracket word.symbol ≡ false
  sign_is : sign.symbol ≡ symbol.Equals
  each : AllByRecursion IsQuiet (first ∷ more)

values_of : (k : Symbol) (a : Shape) → ((x : List Written) → Reads a x → AllByRecursion IsQuiet x)
    → is symbol.OpenBracket k ≡ false → is_output_option k ≡ false → is symbol.Equals k ≡ false → (x : List Written)
    → Reads (Before (One (is k)) (Before (One (is symbol.Equals)) (Before (One (is symbol.Open)) a))) x → HasValues x
values_of k a f b o n x
    (x1, y1, (w, hw, ew), (x2, y2, (e, he, ee), (x3, y3, (p, hp, ep), inner, i3), i2), i1) =
    let same = symbol_is k w.symbol hw in
    let sign = symbol_is symbol.Equals e.symbol he in
    record {
      word = w;
      sign = e;
      first = p;
      more = y3;
      all = rw (ew, i2, ee, i3, ep) at i1;
      word_is = rw (same, sign, b, o) (none _);
      no_sign = rw same n;
      no_bracket = rw same b;
      sign_is = sign;
      each = (quiet symbol.Open p hp refl refl refl refl, f y3 inner);
    }

-- up to `)`
ended : (a : Shape) → ((x : List Written) → Reads a x → AllByRecursion IsQuiet x) → (x y : List Written)
    → AllByRecursion IsQuiet x → Reads (Before (Many a) (One (is symbol.Close))) y → AllByRecursion IsQuiet (x ++ y)
ended a f x y h (u, v, (parts, each, fl), c, i) =
    rw (i, fl) (both x _ h
    (both _ v (flat a f parts each) (one_key symbol.Close v refl refl refl refl c)))

values_read : (x : List Written) → Reads grammar.values x → HasValues x
values_read x (inl h) =
    values_of symbol.Nvals
    (Before (Either (One (is symbol.Minus)) Empty)
    (Before (Either grammar.n (One (is symbol.Decimal))) (Before (Many grammar.value) (One (is symbol.Close)))))
    numbers refl refl refl x h
  where
    numbers : (x : List Written)
        → Reads (Before (Either (One (is symbol.Minus)) Empty) (Before (Either grammar.n (One (is symbol.Decimal)))
        (Before (Many grammar.value) (One (is symbol.Close))))) x → AllByRecursion IsQuiet x
    numbers x (u, y, m, (v, z, k, more, j), i) =
        rw (i, j, sym (append_assoc u v z)) (ended grammar.value value_quiet _ z
        (value_quiet (u ++ v) (u, v, m, k, refl)) more)
values_read x (inr h) =
    values_of symbol.Cvals
    (Before (One (is symbol.Quoted)) (Before (Many (One (is symbol.Quoted))) (One (is symbol.Close)))) texts refl refl
    refl x h
  where
    text : (x : List Written) → Reads (One (is symbol.Quoted)) x → AllByRecursion IsQuiet x
    text x h = one_key symbol.Quoted x refl refl refl refl h

    texts : (x : List Written)
        → Reads (Before (One (is symbol.Quoted)) (Before (Many (One (is symbol.Quoted))) (One (is symbol.Close)))) x
        → AllByRecursion IsQuiet x
    texts x (u, y, q, more, i) = rw i (ended (One (is symbol.Quoted)) text u y (text u q) more)

-- values go on with what they stand behind
values_go_on : (inside : Bool) (before : Written) (x rest : List Written) → are_open_behind inside before ≡ false
    → HasValues x → Quiet inside before x rest
values_go_on inside before x rest closed h =
    rw h.all (
      passed _ before h.word (h.sign ∷ h.first ∷ h.more ++ rest) h.word_is,
      (
        passed _ h.word h.sign (h.first ∷ h.more ++ rest) (rw h.sign_is),
        (
          passed _ h.sign h.first (h.more ++ rest) (rw (h.each.0.bracket, h.each.0.option, h.each.0.word)),
          all_quiet _ h.first h.more rest (rw (closed, h.no_bracket, h.sign_is, h.each.0.bracket)) h.each.0.sign
              h.each.1,
        ),
      ),
    )

maybe_values : (inside : Bool) (before : Written) (x rest : List Written) → are_open_behind inside before ≡ false
    → is symbol.Equals before.symbol ≡ false → Reads (Either grammar.values Empty) x → Quiet inside before x rest
maybe_values inside before x rest closed plain (inl h) = values_go_on inside before x rest closed (values_read x h)
maybe_values inside before x rest closed plain (inr h) = rw h (closed, plain)

module _ (rest : List Written) where
  replicated : (k : Symbol) → ((w : Written) (l : List Written) → w.symbol ≡ k → is_first w l ≡ true)
      → is symbol.OpenBracket k ≡ false → (p : List Written)
      → Reads (Before (One (is k)) (Before (One (is symbol.Equals)) grammar.replication)) p → IsPart p rest
  replicated k starts b p (x1, y1, (w, hw, ew), (x2, y2, (e, he, ee), (v, hv, ev), i2), i1) =
      let same = symbol_is k w.symbol hw in
      let sign = symbol_is symbol.Equals e.symbol he in
      record {
        first = w;
        more = e ∷ v ∷ [];
        all = rw (ew, i2, ee, ev) at i1;
        begins_it = starts w (e ∷ v ∷ rest) same;
        goes_on = (
          passed _ w e (v ∷ rest) (rw sign),
          (
            behind_sign _ e v rest sign,
            (
              rw (sign, same, b, apart symbol.OpenBracket (λ s. is symbol.Whole s || is_word s) v.symbol refl hv),
              apart symbol.Equals (λ s. is symbol.Whole s || is_word s) v.symbol refl hv,
            ),
          ),
        );
      }

  column : (w e n : Written) (x : List Written) → are_open_behind false w ≡ false → e.symbol ≡ symbol.Equals
      → is_word n.symbol ≡ true → Reads (Either grammar.values Empty) x → Quiet false w (e ∷ n ∷ x) rest
  column w e n x closed sign word v = (
    passed _ w e (n ∷ x ++ rest) (rw sign),
    (
      behind_sign _ e n (x ++ rest) sign,
      maybe_values _ n x rest (rw (closed, sign, apart symbol.OpenBracket is_word n.symbol refl word))
          (apart symbol.Equals is_word n.symbol refl word) v,
    ),
  )

  -- in brackets any word is passed
  in_brackets : (inside : Bool) (before : Written) (names : List (List Written)) (c : Written) (more : List Written)
      → are_open_behind inside before ≡ true → AllByRecursion (Reads grammar.name) names
      → c.symbol ≡ symbol.CloseBracket → Quiet false c more rest
      → Quiet inside before (flat_map (λ part. part) names ++ c ∷ more) rest
  in_brackets inside before [] c more opened each ends later =
      (rw opened, rw opened (closing more later))
    where
      closing : (more : List Written) → Quiet false c more rest → Quiet true c more rest
      closing [] q = (rw ends, q.1)
      closing (m ∷ more) q = rw ends (rw ends at q)
  in_brackets inside before (part ∷ names) c more opened ((n, word, e), each) ends later =
      let tail = in_brackets true n names c more
      (rw (apart symbol.OpenBracket is_word n.symbol refl word, apart symbol.CloseBracket is_word n.symbol refl word))
      each ends later in
      rw e (rw opened, rw opened tail)

  bracketed : (p : List Written) → Reads grammar.derived p → IsPart p rest
  bracketed p (
    x1,
    y1,
    (o, ho, eo),
    (
      x2,
      y2,
      n,
      (
        x3,
        y3,
        (names, each, fl),
        (x4, y4, (c, hc, ec), (x5, y5, (e, he, ee), (x6, y6, (w, hw, ew), v, i6), i5), i4),
        i3,
      ),
      i2,
    ),
    i1,
  ) =
      let opens = symbol_is symbol.OpenBracket o.symbol ho in
      let ends = symbol_is symbol.CloseBracket c.symbol hc in
      let inner = flat_map (λ part. part) names in
      let text : y1 ≡ (x2 ++ inner) ++ c ∷ e ∷ w ∷ y6 =
      (rw (i3, fl, i4, ec, i5, ee, i6, ew) at i2) ∙ sym (append_assoc x2 inner (c ∷ e ∷ w ∷ y6)) in
      record {
        first = o;
        more = (x2 ++ inner) ++ c ∷ e ∷ w ∷ y6;
        all = rw (eo, text) at i1;
        begins_it = rw opens;
        goes_on = in_brackets false o (x2 ∷ names) c (e ∷ w ∷ y6) (rw opens) (n, each) ends
            (column c e w y6 (rw ends) (symbol_is symbol.Equals e.symbol he) hw v);
      }

  one_option : (p : List Written) → Reads grammar.option p → IsPart p rest
  one_option p (inl h) = replicated symbol.Pointrep (λ w l e. rw e) refl p h
  one_option p (inr (inl h)) = replicated symbol.Designrep (λ w l e. rw e) refl p h
  one_option p (inr (inr (inl (x, y, (w, hw, ew), h, i)))) =
      let same = symbol_is symbol.Randomize w.symbol hw in
      record {
        first = w;
        more = y;
        all = rw ew at i;
        begins_it = rw same;
        goes_on = all_quiet false w y rest (rw same) (rw same) (seed y h);
      }
    where
      seed : (y : List Written)
          → Reads (Either (Before (One (is symbol.Open)) (Before grammar.n (One (is symbol.Close)))) Empty) y
          → AllByRecursion IsQuiet y
      seed y (inl (a, b, h, (c, d, k, l, j), i)) =
          rw (i, j) (both a _ (one_key symbol.Open a refl refl refl refl h)
          (both c d (one_key symbol.Whole c refl refl refl refl k) (one_key symbol.Close d refl refl refl refl l)))
      seed y (inr e) = rw e tt
  one_option p (inr (inr (inr (inl (w, hw, ew))))) =
      let same = symbol_is symbol.Novalran w.symbol hw in
      record { first = w; more = []; all = ew; begins_it = rw same; goes_on = (rw same, rw same) }
  one_option p
      (inr (inr (inr (inr (inl (x1, y1, (b, hb, eb), (x2, y2, (e, he, ee), (x3, y3, (w, hw, ew), v, i3), i2), i1)))))) =
      let same = symbol_is symbol.Blockname b.symbol hb in
      record {
        first = b;
        more = e ∷ w ∷ y3;
        all = rw (eb, i2, ee, i3, ew) at i1;
        begins_it = rw same;
        goes_on = column b e w y3 (rw same) (symbol_is symbol.Equals e.symbol he) hw v;
      }
  one_option p (inr (inr (inr (inr (inr (inl (x, y, (w, hw, ew), v, i))))))) =
      let h = values_read y v in
      let word = and_parts _ _ hw in
      record {
        first = w;
        more = y;
        all = rw ew at i;
        begins_it = rw (h.all, word.0, h.no_sign) (always (is symbol.OpenBracket w.symbol) (is_output_option w.symbol));
        goes_on = values_go_on false w y rest (rw (apart symbol.OpenBracket is_word w.symbol refl word.0)) h;
      }
    where
      always : (a b : Bool) → (a || b || true) ≡ true
      always true b = refl
      always false true = refl
      always false false = refl
  one_option p (inr (inr (inr (inr (inr (inr h)))))) = bracketed p h

starts : (parts : List (List Written)) → AllByRecursion (Reads grammar.option) parts
    → Starts (flat_map (λ part. part) parts)
starts [] each = tt
starts (p ∷ parts) each =
    let part = one_option (flat_map (λ part. part) parts) p each.0 in rw part.all part.begins_it

-- one option more
next : (done : List (List Written)) (inside : Bool) (last w : Written) (more rest : List Written)
    → are_open_behind inside last ≡ false → is symbol.Equals last.symbol ≡ false → is_first w (more ++ rest) ≡ true
    → Quiet false w more rest → Starts rest
    → options_behind done inside (last ∷ w ∷ more ++ rest)
    ≡ options_behind (done ++ (w ∷ more) ∷ []) false (w ∷ more ++ rest)
next done inside last w more rest closed plain first goes_on later =
    let all : List Written = w ∷ more ++ rest in
    let within = are_open_behind inside last in
    let here : begins_option within last all ≡ true = rw (closed, plain, first) in
    cc (len false w more rest goes_on later, take_at (w ∷ more) rest (suc (length more)) refl)

-- where the search has come to behind an option
record Behind (done : List (List Written)) (inside : Bool) (before : Written) (p rest : List Written) : Type 0 where
  within : Bool
  last : Written
  closed : are_open_behind within last ≡ false
  plain : is symbol.Equals last.symbol ≡ false
  same : options_behind done inside (before ∷ p ++ rest) ≡ options_behind (done ++ p ∷ []) within (last ∷ rest)

behind : (done : List (List Written)) (inside : Bool) (before : Written) (p rest : List Written)
    → are_open_behind inside before ≡ false → is symbol.Equals before.symbol ≡ false → IsPart p rest → Starts rest
    → Behind done inside before p rest
behind done inside before p rest closed plain part later =
    let end = pass (done ++ (part.first ∷ part.more) ∷ []) false part.first part.more rest part.goes_on in
    rw part.all
    (record {
      within = end.within;
      last = end.last;
      closed = end.closed;
      plain = end.plain;
      same = cc (next done inside before part.first part.more rest closed plain part.begins_it part.goes_on later);
    })

cut : (parts : List (List Written)) → AllByRecursion (Reads grammar.option) parts → (done : List (List Written))
    (inside : Bool) (last : Written) → are_open_behind inside last ≡ false → is symbol.Equals last.symbol ≡ false
    → options_behind done inside (last ∷ flat_map (λ part. part) parts) ≡ done ++ parts
cut [] each done inside last closed plain = sym (append-nil done)
cut (p ∷ parts) each done inside last closed plain =
    let rest = flat_map (λ part. part) parts in
    let b = behind done inside last p rest closed plain (one_option rest p each.0) (starts parts each.1) in
    cc (cut parts each.1 (done ++ p ∷ []) b.within b.last b.closed b.plain, append_assoc done (p ∷ []) parts)

matching : (parts : List (List Written)) → AllByRecursion (Reads grammar.option) parts
    → AllByRecursion (λ part. Matches grammar.option (symbols_in part)) parts
matching [] each = tt
matching (p ∷ parts) each = (matches grammar.option p each.0, matching parts each.1)

pub options_law : (s : List Written) → IsStatement grammar.output s → AreOptionsRead s
options_law s by_grammar = read (by_lexemes grammar.output s by_grammar)
  where
    read : Reads grammar.output (s ++ semicolon ∷ []) → AreOptionsRead s
    read (
      x0,
      y0,
      (f, hf, ef),
      (
        x1,
        y1,
        (o, ho, eo),
        (x2, y2, (e, he, ee), (x3, y3, (n, hn, en), (x4, y4, (parts, each, fl), (m, hm, em), i4), i3), i2),
        i1,
      ),
      i0,
    )
        =
        let inner = flat_map (λ part. part) parts in
        let text =
        rw (ef, i1, eo, i2, ee, i3, en, i4, fl, em) at i0 in
        let found =
        cut parts each [] false n (rw (apart symbol.OpenBracket is_word n.symbol refl hn))
        (apart symbol.Equals is_word n.symbol refl hn) in
        record {
          word = f;
          out = o;
          equals = e;
          name = n;
          options = inner;
          statement = before_end s _ m text;
          is_name = hn;
          all = rw found;
          each = rw found (matching parts each);
        }
