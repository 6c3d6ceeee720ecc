-- Statements, and what they give.
use Rattle.std.proofs.Common.{◌≡◌, ℕ, List, [], ◌∷◌, ◌++◌, Result, Ok, Err, true, false, refl}
use Rattle.std.specs.Prelude.{codes}
use Rattle.fx_lexer.specs.declared.token.Token.{Token}
use Rattle.fx_lexer.specs.declared.token.LexFault.{LexFault}
use Rattle.fx_lexer.specs.Lexing.{lexed}
use Rattle.fx_text.specs.declared.refusal.Refusal.{Refusal}
use Rattle.fx_text.specs.Written.{Written, written}
use Rattle.fx_text.specs.Statements.{statements_of}
use Rattle.fx_outputs.specs.declared.output.OutputSpec.{OutputSpec}
use Rattle.fx_outputs.specs.declared.earlier.EarlierPlan.{EarlierPlan}
use Rattle.fx_outputs.specs.declared.replication.Rep.TheVariants.{Times, Plan}
use Rattle.fx_outputs.specs.Contexts.{Context}
use Rattle.fx_outputs.specs.declared.context.BlockCount.{BlockCount}
use Rattle.fx_outputs.specs.declared.context.BlockCount.TheVariants as blocks
use Rattle.fx_outputs.specs.declared.shuffle.Shuffle.TheVariants as shuffle
use Rattle.fx_outputs.specs.Outputs.{outputs_of}

-- a step with the factors A and nvals, with two levels and 16 runs
step : BlockCount → Context
step count = record { factors = codes "A" ∷ codes "nvals" ∷ []; q = 2; runs = 16; blocks = count }

among : List ℕ → Result (List Token) LexFault → List (List Written)
among text (Ok tokens) = statements_of (written text tokens)
among text (Err fault) = []

-- the plans `old`, of the column X, and `both`, which names it and has the column B
plans : List EarlierPlan
plans = record {
  name = codes "old";
  rows = 4;
  own = codes "X" ∷ [];
  pointrep = Times 1;
  designrep = Times 1;
} ∷ record {
  name = codes "both";
  rows = 8000;
  own = codes "B" ∷ [];
  pointrep = Times 1000;
  designrep = Plan 0;
} ∷ []

-- the outputs of these statements, after these plans
outputs : BlockCount → List ℕ → Result (List OutputSpec) Refusal
unfolding lexed among step plans
outputs count text = outputs_of (step count) plans (among text (lexed text))

-- with nothing but a name
name_alone : outputs blocks.Without (codes "output out=Plan;") ≡ Ok (record {
  name = codes "Plan";
  pointrep = Times 1;
  designrep = Times 1;
  shuffle = shuffle.Kept;
  recodes = [];
  derived = [];
  block_name = [];
  block_values = [];
} ∷ [])
unfolding outputs
name_alone = refl

-- with each option; the second statement has a factor that is called NVALS, and its name may be an option's word
each_option : outputs (blocks.Fixed 2)
    (codes "output out=novalran designrep=3 blockname=day nvals=(-1 2.5) randomize(7)novalran pointrep=2 "
    ++ codes "a cvals=('it''s' \"\"\"\");run;output out=pointrep randomize nvals nvals=(.5 -3)blockname=out;")
    ≡ Ok (record {
      name = codes "novalran";
      pointrep = Times 2;
      designrep = Times 3;
      shuffle = shuffle.Seed 7 false;
      recodes = record { place = 1; values = codes "it's" ∷ codes "\"" ∷ [] } ∷ [];
      derived = [];
      block_name = codes "day";
      block_values = codes "-1" ∷ codes "2.5" ∷ [];
    } ∷ record {
      name = codes "pointrep";
      pointrep = Times 1;
      designrep = Times 1;
      shuffle = shuffle.Default true;
      recodes = record { place = 2; values = codes ".5" ∷ codes "-3" ∷ [] } ∷ [];
      derived = [];
      block_name = codes "out";
      block_values = [];
    } ∷ [])
unfolding outputs
each_option = refl

-- NOVALRAN alone changes nothing
values_alone : outputs blocks.Without (codes "output out=a novalran;") ≡ Ok (record {
  name = codes "a";
  pointrep = Times 1;
  designrep = Times 1;
  shuffle = shuffle.Kept;
  recodes = [];
  derived = [];
  block_name = [];
  block_values = [];
} ∷ [])
unfolding outputs
values_alone = refl

-- a text is refused by a code, at a column of its first line
refused_at : BlockCount → List ℕ → ℕ → ℕ → Type 0
unfolding outputs
refused_at count text code column = outputs count text ≡ Err (record { code = code; line = 1; column = column })

-- the OUT name precedes, in another spelling
repeated_name : refused_at blocks.Without (codes "output out=OLD pointrep=0;") 18 12
unfolding refused_at
repeated_name = refl

repeated_in_the_step : refused_at blocks.Without (codes "output out=b;output out=B;") 18 25
unfolding refused_at
repeated_in_the_step = refl

no_repetition : refused_at blocks.Without (codes "output out=b designrep=200001 pointrep=0;") 20 40
unfolding refused_at
no_repetition = refl

too_often : refused_at blocks.Without (codes "output out=b designrep=200001;") 20 24
unfolding refused_at
too_often = refl

-- 16 runs, 12,501 times
too_many_rows : refused_at blocks.Without (codes "output out=b pointrep=12501 randomize(18446744073709551616);") 21 12
unfolding refused_at
too_many_rows = refl

large_seed : refused_at blocks.Without
    (codes "output out=b pointrep=12500 blockname=A randomize(18446744073709551616);") 19 51
unfolding refused_at
large_seed = refl

no_blocks : refused_at blocks.Without (codes "output out=b A nvals=(1) blockname=A;") 31 26
unfolding refused_at
no_blocks = refl

column_is_a_factor : refused_at (blocks.Fixed 4) (codes "output out=b A nvals=(1) blockname=a cvals=('x');") 5 36
unfolding refused_at
column_is_a_factor = refl

-- 4 blocks
values_of_blocks : refused_at (blocks.Fixed 4) (codes "output out=b x nvals=(1) blockname=d nvals=(1 2 3);") 17 38
unfolding refused_at
values_of_blocks = refl

values_of_blocks_not_known : refused_at blocks.Open (codes "output out=b blockname=d cvals=('1');") 17 26
unfolding refused_at
values_of_blocks_not_known = refl

no_factor : refused_at blocks.Without (codes "output out=b A cvals=('x' 'y') C nvals=(1) A nvals=(1);") 4 32
unfolding refused_at
no_factor = refl

factor_again : refused_at blocks.Without (codes "output out=b A cvals=('x' 'y') a nvals=(1);") 28 32
unfolding refused_at
factor_again = refl

values_of_a_factor : refused_at blocks.Without (codes "output out=b A nvals=(1 2 3);") 17 16
unfolding refused_at
values_of_a_factor = refl

-- a derived factor; it may have the name of a factor in brackets, which is no column
derived_factor : outputs blocks.Without (codes "output out=b randomize[A nvals]=a cvals=('w' 'x' 'y' 'z');")
    ≡ Ok (record {
      name = codes "b";
      pointrep = Times 1;
      designrep = Times 1;
      shuffle = shuffle.Default true;
      recodes = [];
      derived = record {
        places = 1 ∷ 2 ∷ [];
        name = codes "a";
        values = codes "w" ∷ codes "x" ∷ codes "y" ∷ codes "z" ∷ [];
      } ∷ [];
      block_name = [];
      block_values = [];
    } ∷ [])
unfolding outputs
derived_factor = refl

-- one factor in brackets, and five, of which some are no factors
one_in_brackets : refused_at blocks.Without (codes "output out=b[A]=D;") 35 13
unfolding refused_at
one_in_brackets = refl

five_in_brackets : refused_at blocks.Without (codes "output out=b[A x y z A]=D;") 35 13
unfolding refused_at
five_in_brackets = refl

no_factor_in_brackets : refused_at blocks.Without (codes "output out=b[A pointrep]=D nvals=(1);") 4 16
unfolding refused_at
no_factor_in_brackets = refl

twice_in_brackets : refused_at blocks.Without (codes "output out=b[A a]=D;") 28 16
unfolding refused_at
twice_in_brackets = refl

recoded_before : refused_at blocks.Without (codes "output out=b A nvals=(1 2)[nvals A]=D;") 28 34
unfolding refused_at
recoded_before = refl

recoded_behind : refused_at blocks.Without (codes "output out=b[A nvals]=D A nvals=(1 2);") 28 25
unfolding refused_at
recoded_behind = refl

values_of_a_derived_factor : refused_at blocks.Without (codes "output out=b[A nvals]=D nvals=(1 2);") 17 25
unfolding refused_at
values_of_a_derived_factor = refl

-- the name of the column of blocks
column_again : refused_at (blocks.Fixed 2) (codes "output out=b[A nvals]=Block;") 34 23
unfolding refused_at
column_again = refl

-- a plan is named in any spelling
named_plan : outputs blocks.Without (codes "output out=b designrep=OLD pointrep=2;") ≡ Ok (record {
  name = codes "b";
  pointrep = Times 2;
  designrep = Plan 0;
  shuffle = shuffle.Kept;
  recodes = [];
  derived = [];
  block_name = [];
  block_values = [];
} ∷ [])
unfolding outputs
named_plan = refl

-- a statement that names itself, or a later one; numbers come before names
names_itself : refused_at blocks.Without (codes "output out=b pointrep=B;") 33 23
unfolding refused_at
names_itself = refl

names_a_later_one : refused_at blocks.Without (codes "output out=b designrep=c;output out=c;") 33 24
unfolding refused_at
names_a_later_one = refl

numbers_first : refused_at blocks.Without (codes "output out=b pointrep=c designrep=0;") 20 35
unfolding refused_at
numbers_first = refl

point_first : refused_at blocks.Without (codes "output out=b designrep=d pointrep=c;") 33 35
unfolding refused_at
point_first = refl

-- 16 runs with each of 8,000 rows, and twice
many_rows_of_plans : refused_at blocks.Without (codes "output out=b pointrep=both designrep=2;") 21 12
unfolding refused_at
many_rows_of_plans = refl

-- the column X comes through a plan that `both` names
through_a_plan : refused_at blocks.Without (codes "output out=b designrep=both[A nvals]=x;") 34 38
unfolding refused_at
through_a_plan = refl

two_plans : refused_at blocks.Without (codes "output out=b designrep=old pointrep=old;") 34 37
unfolding refused_at
two_plans = refl

plan_and_blocks : refused_at (blocks.Fixed 2) (codes "output out=b blockname=B designrep=both;") 34 36
unfolding refused_at
plan_and_blocks = refl
