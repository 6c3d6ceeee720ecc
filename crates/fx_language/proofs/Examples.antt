-- Texts, and the first symbol of each that is refused: its code, and its index from 0.
use Rattle.std.proofs.Common.{◌≡◌, ℕ, List, [], ◌∷◌, ◌++◌, Option, Some, None, Result, Ok, Err, refl}
use Rattle.std.specs.Prelude.{codes, flat_map, replicate}
use Rattle.fx_lexer.specs.declared.token.Token.{Token}
use Rattle.fx_lexer.specs.declared.token.LexFault.{LexFault}
use Rattle.fx_lexer.specs.Lexing.{lexed}
use Rattle.fx_language.specs.declared.symbol.Symbol.{Symbol}
use Rattle.fx_language.specs.declared.symbol.Symbol.TheVariants.{Proc, Factex, Semicolon}
use Rattle.fx_language.specs.Keywords.{symbols_of}
use Rattle.fx_language.specs.Repeats.{rule_at}
use Rattle.fx_language.specs.Refusals.{refused}
use Rattle.fx_language.specs.FirstRefusal.{first_refusal}

abbrev symbols_among : List ℕ → Result (List Token) LexFault → List Symbol
symbols_among text (Ok tokens) = symbols_of text tokens
symbols_among text (Err fault) = []

-- the first refusal of a text
refusal : List ℕ → Option (ℕ × ℕ)
unfolding refused lexed
refusal text = first_refusal (symbols_among text (lexed text))

-- a program with each statement
accepted : refusal (
    codes "proc factex nodes=9;factors A B X1-X3/nlev=2;size design=16;"
    ++ codes "model est=(A B|X1@2 X1-X2)n=(A*B);blocks size=min;"
    ++ codes "examine aliasing blocked confounding design aberration;"
    ++ codes "output out=p pointrep=2 designrep=3 randomize(7)novalran blockname=b nvals=(-1 .5)A cvals=('l' 'h');"
    ++ codes "run;quit;"
    ) ≡ None
unfolding refusal
accepted = refl

-- FOLDOVER has names and ranges, or none
foldover : refusal (codes "proc factex;factors A B1-B3;foldover B1-B2 size A;run;proc factex;foldover;") ≡ None
unfolding refusal
foldover = refl

foldover_in_part :
    (refusal (codes "proc factex;foldover A-;") ≡ Some (2, 6)) × (refusal (codes "proc factex;foldover A/B;") ≡ Some (2, 5))
unfolding refusal
foldover_in_part = (refl, refl)

-- a step has one, and before its RUN
foldover_once :
    (refusal (codes "proc factex;foldover;foldover A;") ≡ Some (26, 5))
    × (refusal (codes "proc factex;run;foldover;") ≡ Some (27, 5))
unfolding refusal
foldover_once = (refl, refl)

-- a new step may have the same statements
next_step : refusal (codes "proc factex;size design=4;run;proc factex;;model res=max/minabs;size nrunfacs=3;") ≡ None
unfolding refusal
next_step = refl

-- no statement begins so
unknown_statement : refusal (codes "proc factex;title x;") ≡ Some (1, 3)
unfolding refusal
unknown_statement = refl

unknown_procedure : refusal (codes "proc means;") ≡ Some (1, 1)
unfolding refusal
unknown_procedure = refl

-- after QUIT no step is open
outside_a_step : refusal (codes "proc factex;run;quit;factors A;") ≡ Some (1, 7)
unfolding refusal
outside_a_step = refl

-- a word in the place of a value
no_value : refusal (codes "proc factex;size design=foo;") ≡ Some (2, 6)
unfolding refusal
no_value = refl

-- the end of the text
open_end : refusal (codes "proc factex") ≡ Some (2, 2)
unfolding refusal
open_end = refl

-- a word in the place of an option
no_option : refusal (codes "proc factex;size foo;") ≡ Some (3, 4)
unfolding refusal
no_option = refl

-- words that this product doesn't keep
time : refusal (codes "proc factex time=60;") ≡ Some (24, 2)
unfolding refusal
time = refl

nocheck : refusal (codes "proc nocheck;") ≡ Some (24, 1)
unfolding refusal
nocheck = refl

namelen : refusal (codes "proc factex nodes=namelen;") ≡ Some (24, 4)
unfolding refusal
namelen = refl

uniteffect : refusal (codes "proc factex;uniteffect A;") ≡ Some (24, 3)
unfolding refusal
uniteffect = refl

minabs_of : refusal (codes "proc factex;model r=3/minabs(4);") ≡ Some (24, 9)
unfolding refusal
minabs_of = refl

aberration_of : refusal (codes "proc factex;examine aliasing aberration(4);") ≡ Some (24, 6)
unfolding refusal
aberration_of = refl

-- but not so after other words
blocked_of : refusal (codes "proc factex;examine blocked(4);") ≡ Some (2, 5)
unfolding refusal
blocked_of = refl

-- a replication is a number or a name, which may be an option's word
named_plans :
    (refusal (codes "proc factex;output out=a designrep=b;") ≡ None)
    × (refusal (codes "proc factex;output out=a pointrep=designrep designrep=pointrep;") ≡ None)
    × (refusal (codes "proc factex;output out=a pointrep=;") ≡ Some (2, 9))
    × (refusal (codes "proc factex;output out=a pointrep=1.5;") ≡ Some (2, 9))
unfolding refusal
named_plans = (refl, refl, refl, refl)

-- derived factors; in brackets, and after `=`, any word is a name
derived_factors :
    (refusal (codes "proc factex;output out=a[A B]=D[C E F G]=H nvals=(1 -2);") ≡ None)
    × (refusal (codes "proc factex;output out=a pointrep=2[pointrep A]=pointrep;") ≡ None)
    × (refusal (codes "proc factex;output out=a[A B]=D cvals cvals=('l' 'h');") ≡ None)
    × (refusal (codes "proc factex;output out=a[A B]=D pointrep=1 pointrep=1;") ≡ Some (28, 16))
    × (refusal (codes "proc factex;output[A]=B;") ≡ Some (2, 4))
    × (refusal (codes "proc factex;output out=a[]=B;") ≡ Some (2, 8))
    × (refusal (codes "proc factex;output out=a[A 2]=B;") ≡ Some (2, 9))
    × (refusal (codes "proc factex;output out=a[A]B;") ≡ Some (2, 10))
unfolding refusal
derived_factors = (refl, refl, refl, refl, refl, refl, refl, refl)

-- NVALS after a block column's name: its values, a factor of that name, or neither
nvals_of_blocks : refusal (codes "proc factex;output out=a blockname=b nvals=(1 -2);") ≡ None
unfolding refusal
nvals_of_blocks = refl

nvals_of_a_factor : refusal (codes "proc factex;output out=a blockname=b nvals cvals=('l' 'h');") ≡ None
unfolding refusal
nvals_of_a_factor = refl

nvals_and_a_word : refusal (codes "proc factex;output out=a blockname=b nvals x") ≡ Some (3, 11)
unfolding refusal
nvals_and_a_word = refl

nvals_and_a_sign : refusal (codes "proc factex;output out=a blockname=b nvals;") ≡ Some (2, 11)
unfolding refusal
nvals_and_a_sign = refl

-- a statement twice; after RUN it is too late, and that comes first
statement_twice : refusal (codes "proc factex;size design=4;size foo;") ≡ Some (26, 8)
unfolding refusal
statement_twice = refl

behind_run : refusal (codes "proc factex;size design=4;run;size foo;") ≡ Some (27, 10)
unfolding refusal
behind_run = refl

-- an option twice; its word may also be a name, or stand where the grammar has no option
nodes_twice : refusal (codes "proc factex nodes=1 nodes=2;") ≡ Some (28, 5)
unfolding refusal
nodes_twice = refl

nodes_for_a_sign : refusal (codes "proc factex nodes nodes=2;") ≡ Some (2, 3)
unfolding refusal
nodes_for_a_sign = refl

option_twice : refusal (codes "proc factex;output out=novalran novalran randomize novalran;") ≡ Some (28, 9)
unfolding refusal
option_twice = refl

-- PROC FACTEX after 100 steps, and after 99; another procedure is refused at its own name
steps : ℕ → List Symbol
steps n = flat_map (λ (x : Symbol). Semicolon ∷ Factex ∷ Proc ∷ []) (replicate n Proc)

step_101 : rule_at (steps 100) Proc (Factex ∷ []) ≡ Some 32
unfolding steps
step_101 = refl

step_100 : rule_at (steps 99) Proc (Factex ∷ []) ≡ None
unfolding steps
step_100 = refl

no_step : rule_at (steps 100) Proc (Semicolon ∷ []) ≡ None
unfolding steps
no_step = refl

-- a word that is no option there, in each statement that has options
unknown_options :
    (refusal (codes "proc factex foo=3;") ≡ Some (3, 2))
    × (refusal (codes "proc factex;factors A/foo=3;") ≡ Some (3, 6))
    × (refusal (codes "proc factex;size runs=8;") ≡ Some (3, 4))
    × (refusal (codes "proc factex;model foo=3;") ≡ Some (3, 4))
    × (refusal (codes "proc factex;model r=3/foo;") ≡ Some (3, 8))
    × (refusal (codes "proc factex;model e=(A)foo=(B);") ≡ Some (3, 9))
    × (refusal (codes "proc factex;blocks foo=2;") ≡ Some (3, 4))
    × (refusal (codes "proc factex;examine foo;") ≡ Some (3, 4))
    × (refusal (codes "proc factex;output foo=a;") ≡ Some (3, 4))
    × (refusal (codes "proc factex;output out=a A foo;") ≡ Some (3, 8))
unfolding refusal
unknown_options = (refl, refl, refl, refl, refl, refl, refl, refl, refl, refl)

-- a word where none may stand: the value of SIZE, of NODES, of a resolution; the words for the least and for the most
no_options :
    (refusal (codes "proc factex nodes=max;") ≡ Some (2, 4))
    × (refusal (codes "proc factex;size design=max;") ≡ Some (2, 6))
    × (refusal (codes "proc factex;size fraction=min;") ≡ Some (2, 6))
    × (refusal (codes "proc factex;size nrunfacs=max;") ≡ Some (2, 6))
    × (refusal (codes "proc factex;model r=min;") ≡ Some (2, 6))
    × (refusal (codes "proc factex;blocks nblkfacs=min;") ≡ Some (2, 6))
    × (refusal (codes "proc factex;blocks nblocks=min;") ≡ Some (2, 6))
    × (refusal (codes "proc factex;blocks size=max;") ≡ Some (2, 6))
    × (refusal (codes "proc factex;size design=1.5;") ≡ Some (2, 6))
unfolding refusal
no_options = (refl, refl, refl, refl, refl, refl, refl, refl, refl)

-- each option of OUTPUT a second time
repeated_options :
    (refusal (codes "proc factex;output out=a pointrep=1 pointrep=1;") ≡ Some (28, 10))
    × (refusal (codes "proc factex;output out=a designrep=1 designrep=1;") ≡ Some (28, 10))
    × (refusal (codes "proc factex;output out=a blockname=b blockname=b;") ≡ Some (28, 10))
    × (refusal (codes "proc factex;output out=a randomize randomize;") ≡ Some (28, 8))
    × (refusal (codes "proc factex;output out=a randomize(1)randomize;") ≡ Some (28, 11))
    × (refusal (codes "proc factex;output out=a novalran pointrep=1 novalran;") ≡ Some (28, 11))
    × (refusal (codes "proc factex;output out=a novalran;output out=b novalran;") ≡ None)
    × (refusal (codes "proc factex;output out=a blockname=blockname;") ≡ None)
unfolding refusal
repeated_options = (refl, refl, refl, refl, refl, refl, refl, refl)

-- each of FACTORS, SIZE, MODEL and BLOCKS a second time, and after RUN; EXAMINE and OUTPUT may stand so
repeated_statements :
    (refusal (codes "proc factex;factors A;factors B;") ≡ Some (26, 6))
    × (refusal (codes "proc factex;size design=4;size design=4;") ≡ Some (26, 8))
    × (refusal (codes "proc factex;model r=3;model r=3;") ≡ Some (26, 8))
    × (refusal (codes "proc factex;blocks size=2;blocks size=2;") ≡ Some (26, 8))
    × (refusal (codes "proc factex;run;factors A;") ≡ Some (27, 5))
    × (refusal (codes "proc factex;run;model r=3;") ≡ Some (27, 5))
    × (refusal (codes "proc factex;run;blocks size=2;") ≡ Some (27, 5))
    × (refusal (codes "proc factex;run;examine;examine;output out=a;output out=b;run;") ≡ None)
    × (refusal (codes "proc factex;examine design design;") ≡ None)
unfolding refusal
repeated_statements = (refl, refl, refl, refl, refl, refl, refl, refl, refl)

-- capitals and short forms; a longer word is another word
spellings :
    (refusal (codes "PROC FacTex;SIZE Design=MIN;model E=(A)N=(B);") ≡ None)
    × (refusal (codes "proc factex;model est=(A)nonneg=(B);") ≡ None)
    × (refusal (codes "proc factex;model estimate=(A)nonnegligible=(B);") ≡ None)
    × (refusal (codes "proc factex;model res=maximum/minabs;size design=minimum;") ≡ None)
    × (refusal (codes "proc factex;factor A;") ≡ Some (1, 3))
    × (refusal (codes "proc factex;model resolutions=3;") ≡ Some (3, 4))
unfolding refusal
spellings = (refl, refl, refl, refl, refl, refl)
