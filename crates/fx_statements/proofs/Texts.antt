-- Whole texts, and what they mean or why they are refused: factors, effects, sections and files of steps.
use Rattle.std.proofs.Common.{◌≡◌, ℕ, List, [], ◌∷◌, map, length, Result, Ok, Err, true, refl}
use Rattle.std.specs.Prelude.{codes}
use Rattle.std.specs.Fmt.{digits}
use Rattle.fx_designs.specs.Problems.{Requirement, AtResolution, ForEffects}
use Rattle.fx_lexer.specs.declared.token.Token.{Token}
use Rattle.fx_lexer.specs.declared.token.LexFault.{LexFault}
use Rattle.fx_lexer.specs.Lexing.{lexed}
use Rattle.fx_language.specs.Refusals.{refused}
use Rattle.fx_text.specs.declared.refusal.Refusal.{Refusal}
use Rattle.fx_text.specs.Refusals.{◌>>=◌}
use Rattle.fx_demands.specs.Bars.{bars_of}
use Rattle.fx_vectors.specs.Effects.{factors_of}
use Rattle.fx_statements.specs.declared.examine.Examine.{Examine}
use Rattle.fx_settings.specs.declared.settings.Criterion.{Criterion}
use Rattle.fx_settings.specs.declared.settings.Criterion.TheVariants.{Highest, Resolution}
use Rattle.fx_statements.specs.Steps.{Meaning, examine_of}
use Rattle.fx_statements.specs.Programs.{program_of}

by : List ℕ → Result (List Token) LexFault → Result (List Meaning) Refusal
by text (Ok tokens) = program_of text tokens
by text (Err fault) = Ok []

-- the steps of a text
steps : List ℕ → Result (List Meaning) Refusal
unfolding by digits lexed refused bars_of factors_of program_of lib.Count.ones
steps text = by text (lexed text)

factors : List ℕ → Result (List (List (List ℕ))) Refusal
unfolding steps
factors text = steps text >>= (λ (all : List Meaning). Ok (map (λ x. x.factors) all))

criteria : List ℕ → Result (List Criterion) Refusal
unfolding steps
criteria text = steps text >>= (λ (all : List Meaning). Ok (map (λ x. x.settings.criterion) all))

requirements : List ℕ → Result (List Requirement) Refusal
unfolding steps
requirements text = steps text >>= (λ (all : List Meaning). Ok (map (λ x. x.requirement) all))

sections : List ℕ → Result (List Examine) Refusal
unfolding steps
sections text = steps text >>= (λ (all : List Meaning). Ok (map (λ x. x.examine) all))

-- how many files each step asks for
files : List ℕ → Result (List ℕ) Refusal
unfolding steps
files text = steps text >>= (λ (all : List Meaning). Ok (map (λ x. length x.outputs) all))

-- a text is refused by a code, at a column of its first line
refused_at : {A : Type 0} → ℕ → ℕ → Result A Refusal
refused_at code column = Err (record { code = code; line = 1; column = column })

-- ranges of names: from 9 to 11, from 0 on, of one name, with the stem of the first
ranges :
    (factors (codes "proc factex;factors A X9-X11 b;")
    ≡ Ok ((codes "A" ∷ codes "X9" ∷ codes "X10" ∷ codes "X11" ∷ codes "b" ∷ []) ∷ []))
    × (factors (codes "proc factex;factors X0-X2;") ≡ Ok ((codes "X0" ∷ codes "X1" ∷ codes "X2" ∷ []) ∷ []))
    × (factors (codes "proc factex;factors X3-X3;") ≡ Ok ((codes "X3" ∷ []) ∷ []))
    × (factors (codes "proc factex;factors x1-X3;") ≡ Ok ((codes "x1" ∷ codes "x2" ∷ codes "x3" ∷ []) ∷ []))
    × (factors (codes "proc factex;factors A1B1-A1B2;") ≡ Ok ((codes "A1B1" ∷ codes "A1B2" ∷ []) ∷ []))
    × (factors (codes "proc factex;factors Size Model Run;")
    ≡ Ok ((codes "Size" ∷ codes "Model" ∷ codes "Run" ∷ []) ∷ []))
unfolding factors refused_at
ranges = (refl, refl, refl, refl, refl, refl)

-- ranges that are not regular: falling, with a leading zero, of two stems, without a number, of a number alone
irregular_ranges :
    (factors (codes "proc factex;factors X5-X2;") ≡ refused_at 30 21)
    × (factors (codes "proc factex;factors X01-X03;") ≡ refused_at 30 21)
    × (factors (codes "proc factex;factors X1-Y3;") ≡ refused_at 30 21)
    × (factors (codes "proc factex;factors X-X3;") ≡ refused_at 30 21)
    × (factors (codes "proc factex;factors B X1-X;") ≡ refused_at 30 23)
unfolding factors refused_at
irregular_ranges = (refl, refl, refl, refl, refl)

-- a name again, in another spelling or in a range; more factors than there may be: 63 at two and three levels, 40 at
-- others, which are judged before they are refused, and 30 with BLOCKS
names_and_limits :
    (factors (codes "proc factex;factors A a;") ≡ refused_at 5 23)
    × (factors (codes "proc factex;factors X2 X1-X3;") ≡ refused_at 5 24)
    × (factors (codes "proc factex;factors X1-X64;") ≡ refused_at 10 21)
    × (factors (codes "proc factex;factors X1-X63;") ≡ refused_at 9 13)
    × (factors (codes "proc factex;factors X1-X64/nlev=3;") ≡ refused_at 10 21)
    × (factors (codes "proc factex;factors X1-X63/nlev=3;") ≡ refused_at 9 13)
    × (factors (codes "proc factex;factors X1-X41/nlev=4;") ≡ refused_at 10 21)
    × (factors (codes "proc factex;factors X1-X40/nlev=4;") ≡ refused_at 9 13)
    × (factors (codes "proc factex;factors X1-X41/nlev=1;") ≡ refused_at 10 21)
    × (factors (codes "proc factex;factors X1-X31;blocks size=2;model r=3;size design=8;") ≡ refused_at 10 21)
    × (factors (codes "proc factex;factors X1-X30;blocks size=8;model r=3;size design=8;") ≡ refused_at 15 40)
    × (factors (codes "proc factex;model r=3;") ≡ refused_at 7 1)
unfolding factors refused_at
names_and_limits = (refl, refl, refl, refl, refl, refl, refl, refl, refl, refl, refl, refl)

-- effects that are joined by bars: all unions, those of at most so many factors, with products among the parts; fewer
-- factors first, then by the places of the factors
bars :
    (requirements (codes "proc factex;factors A B C D;size design=8;model e=(A|B|C);")
    ≡ Ok (ForEffects (1 ∷ 2 ∷ 4 ∷ 3 ∷ 5 ∷ 6 ∷ 7 ∷ []) [] ∷ []))
    × (requirements (codes "proc factex;factors A B C D;size design=8;model e=(A|B|C@2);")
    ≡ Ok (ForEffects (1 ∷ 2 ∷ 4 ∷ 3 ∷ 5 ∷ 6 ∷ []) [] ∷ []))
    × (requirements (codes "proc factex;factors A B C D;size design=8;model e=(A|B|C@9);")
    ≡ Ok (ForEffects (1 ∷ 2 ∷ 4 ∷ 3 ∷ 5 ∷ 6 ∷ 7 ∷ []) [] ∷ []))
    × (requirements (codes "proc factex;factors A B C D;size design=8;model e=(A|B@1);")
    ≡ Ok (ForEffects (1 ∷ 2 ∷ []) [] ∷ []))
    × (requirements (codes "proc factex;factors A B C D;size design=8;model e=(A*B|C);")
    ≡ Ok (ForEffects (4 ∷ 3 ∷ 7 ∷ []) [] ∷ []))
    × (requirements (codes "proc factex;factors A B C D;size design=8;model e=(A*B|C@1);")
    ≡ Ok (ForEffects (4 ∷ []) [] ∷ []))
    × (requirements (codes "proc factex;factors A B C D;size design=8;model e=(A*B|B*C);")
    ≡ Ok (ForEffects (3 ∷ 6 ∷ 7 ∷ []) [] ∷ []))
    × (requirements (codes "proc factex;factors A B C D;size design=8;model e=(A*D B*C);")
    ≡ Ok (ForEffects (9 ∷ 6 ∷ []) [] ∷ []))
unfolding requirements
bars = (refl, refl, refl, refl, refl, refl, refl, refl)

-- products, in which a factor counts once; a list is a set; ranges are main effects; names in any spelling
products :
    (requirements (codes "proc factex;factors A B C D;size design=8;model e=(A*B*A);")
    ≡ Ok (ForEffects (3 ∷ []) [] ∷ []))
    × (requirements (codes "proc factex;factors A B C D;size design=8;model e=(B A A*B B*A);")
    ≡ Ok (ForEffects (1 ∷ 2 ∷ 3 ∷ []) [] ∷ []))
    × (requirements (codes "proc factex;factors A B C D;size design=8;model e=(a D);")
    ≡ Ok (ForEffects (1 ∷ 8 ∷ []) [] ∷ []))
    × (requirements (codes "proc factex;factors X1-X3;size design=8;model e=(X1-X3);")
    ≡ Ok (ForEffects (1 ∷ 2 ∷ 4 ∷ []) [] ∷ []))
    × (requirements (codes "proc factex;factors X1-X3;size design=8;model e=(X2-X3 X1*X3);")
    ≡ Ok (ForEffects (2 ∷ 4 ∷ 5 ∷ []) [] ∷ []))
unfolding requirements
products = (refl, refl, refl, refl, refl)

-- those that are to be estimated are taken out of those that are not negligible
two_lists :
    (requirements (codes "proc factex;factors A B C D;size design=8;model e=(A B)n=(B C A*C);")
    ≡ Ok (ForEffects (1 ∷ 2 ∷ []) (4 ∷ 5 ∷ []) ∷ []))
    × (requirements (codes "proc factex;factors A B C D;size design=8;model e=(A)n=(A);")
    ≡ Ok (ForEffects (1 ∷ []) [] ∷ []))
    × (requirements (codes "proc factex;factors A B C D;size design=8;model e=(B)n=(A C);")
    ≡ Ok (ForEffects (2 ∷ []) (1 ∷ 4 ∷ []) ∷ []))
unfolding requirements
two_lists = (refl, refl, refl)

-- a resolution, and the highest, which is at least 3
other_criteria :
    (criteria (codes "proc factex;factors A B;") ≡ Ok (Highest ∷ []))
    × (requirements (codes "proc factex;factors A B;") ≡ Ok (AtResolution 3 ∷ []))
    × (criteria (codes "proc factex;factors A B;model r=5;proc factex;factors A;model r=max;")
    ≡ Ok (Resolution 5 ∷ Highest ∷ []))
    × (requirements (codes "proc factex;factors A B;model r=5;proc factex;factors A;model r=max;")
    ≡ Ok (AtResolution 5 ∷ AtResolution 3 ∷ []))
unfolding criteria requirements
other_criteria = (refl, refl, refl, refl)

-- effects that are refused: an unknown factor, a range that is not regular, a limit that keeps no effect; from left to
-- right, ESTIMATE first
refused_effects :
    (requirements (codes "proc factex;factors A B;model e=(A B*Z);") ≡ refused_at 4 38)
    × (requirements (codes "proc factex;factors A X1-X2;model e=(X1-X3);") ≡ refused_at 4 38)
    × (requirements (codes "proc factex;factors X1-X3;model e=(X3-X1);") ≡ refused_at 30 36)
    × (requirements (codes "proc factex;factors A B;model e=(A*B@1);") ≡ refused_at 29 38)
    × (requirements (codes "proc factex;factors A B;model e=(A|B@0);") ≡ refused_at 29 38)
    × (requirements (codes "proc factex;factors A B;model e=(A|B@0)n=(Z);") ≡ refused_at 29 38)
    × (requirements (codes "proc factex;factors A B;model e=(A)n=(Z A*B@1);") ≡ refused_at 4 39)
unfolding requirements refused_at
refused_effects = (refl, refl, refl, refl, refl, refl, refl)

-- 2,000,000 pairs, and more: 1,000 vectors to be estimated, at five levels, and as many others, or 1,004
pairs :
    (requirements (codes
    "proc factex;factors A B C D E F/nlev=5;size design=25;model e=(A B A*B A*C A*B*C A*B*D A*C*D A*B*C*D A*B*C*E A*B*D*E)n=(C D A*D A*E A*B*E A*C*E A*D*E A*C*D*E B*C*D*E A*B*C*F);") ≡ Ok (ForEffects (1 ∷ 2 ∷ 3 ∷ 5 ∷ 7 ∷ 11 ∷ 13 ∷ 15 ∷ 23 ∷ 27 ∷ []) (4 ∷ 8 ∷ 9 ∷ 17 ∷ 19 ∷ 21 ∷ 25 ∷ 39 ∷ 29 ∷ 30 ∷ []) ∷ []))
    × (requirements (codes
    "proc factex;factors A B C D E F/nlev=5;size design=25;model e=(A B A*B A*C A*B*C A*B*D A*C*D A*B*C*D A*B*C*E A*B*D*E)n=(C D A*D A*E A*B*E A*C*E A*D*E A*C*D*E B*C*D*E A*B*C*F E);") ≡ refused_at 22 61)
unfolding requirements refused_at
pairs = (refl, refl)

-- each section, in one statement or in several
sections_asked :
    (sections (codes "proc factex;factors A B;model r=3;")
    ≡ Ok (examine_of [] ∷ []))
    × (sections (codes "proc factex;factors A B;model r=3;examine;")
    ≡ Ok (examine_of [] ∷ []))
    × (sections (codes "proc factex;factors A B;model r=3;examine confounding;")
    ≡ Ok (examine_of [] ∷ []))
    × (sections (codes "proc factex;factors A B;model r=3;examine aliasing;")
    ≡ Ok (record (examine_of []) { aliasing = true } ∷ []))
    × (sections (codes "proc factex;factors A B;model r=3;examine blocked;")
    ≡ Ok (record (examine_of []) { blocked = true } ∷ []))
    × (sections (codes "proc factex;factors A B;model r=3;examine design;")
    ≡ Ok (record (examine_of []) { design = true } ∷ []))
    × (sections (codes "proc factex;factors A B;model r=3;examine aberration;")
    ≡ Ok (record (examine_of []) { aberration = true } ∷ []))
    × (sections (codes "proc factex;factors A B;model r=3;examine design blocked;run;examine aliasing;")
    ≡ Ok (record (examine_of []) { aliasing = true; blocked = true; design = true } ∷ []))
unfolding sections
sections_asked = (refl, refl, refl, refl, refl, refl, refl, refl)

-- at three levels: three values of a factor, 3^t of the column of blocks, at most 200,000 rows of 9 runs, of 729 with
-- the least size
files_of_three_levels :
    (files (codes "proc factex;factors A B C/nlev=3;size design=9;model r=3;output out=a A nvals=(1 2 3);")
    ≡ Ok (1 ∷ []))
    × (files (codes "proc factex;factors A B C/nlev=3;size design=9;model r=3;output out=a A nvals=(1 2);")
    ≡ refused_at 17 73)
    × (files (codes
    "proc factex;factors A B C/nlev=3;size design=9;model r=3;blocks nblkfacs=1;output out=a blockname=d nvals=(1 2 3);") ≡ Ok (1 ∷ []))
    × (files (codes
    "proc factex;factors A B C/nlev=3;size design=9;model r=3;blocks nblkfacs=1;output out=a blockname=d nvals=(1 2);")
    ≡ refused_at 17 101)
    × (files (codes
    "proc factex;factors A B C/nlev=3;size design=9;model r=3;blocks nblocks=9;output out=a blockname=d nvals=(1 2 3 4 5 6 7 8 9);") ≡ Ok (1 ∷ []))
    × (files (codes "proc factex;factors A B C/nlev=3;size design=9;model r=3;output out=a pointrep=22222;")
    ≡ Ok (1 ∷ []))
    × (files (codes "proc factex;factors A B C/nlev=3;size design=9;model r=3;output out=a pointrep=22223;")
    ≡ refused_at 21 69)
    × (files (codes "proc factex;factors A B C/nlev=3;size design=9;model r=3;output out=a pointrep=150 designrep=149;")
    ≡ refused_at 21 69)
    × (files (codes "proc factex;factors A B C/nlev=3;size design=9;model r=3;output out=a pointrep=149 designrep=149;")
    ≡ Ok (1 ∷ []))
    × (files (codes "proc factex;factors A B C/nlev=3;size design=min;model r=3;output out=a pointrep=274;")
    ≡ Ok (1 ∷ []))
    × (files (codes "proc factex;factors A B C/nlev=3;size design=min;model r=3;output out=a pointrep=275;")
    ≡ refused_at 21 71)
    × (files (codes
    "proc factex;factors A B C/nlev=3;size design=min;model r=3;blocks size=3;output out=a blockname=d nvals=(1 2 3);")
    ≡ refused_at 17 99)
unfolding files refused_at
files_of_three_levels = (refl, refl, refl, refl, refl, refl, refl, refl, refl, refl, refl, refl)

-- OUT names differ over all steps, in any spelling; the greatest seed
names_of_files :
    (files (codes
    "proc factex;factors A B;model r=3;output out=a;output out=b;proc factex;factors A;model r=3;output out=c;")
    ≡ Ok (2 ∷ 1 ∷ []))
    × (files (codes "proc factex;factors A B;model r=3;output out=a;proc factex;factors A;model r=3;output out=A;")
    ≡ refused_at 18 91)
    × (files (codes "proc factex;factors A B;output out=a randomize(18446744073709551615);") ≡ Ok (1 ∷ []))
    × (files (codes "proc factex;factors A B;output out=a randomize(18446744073709551616);") ≡ refused_at 19 48)
unfolding files refused_at
names_of_files = (refl, refl, refl, refl)
