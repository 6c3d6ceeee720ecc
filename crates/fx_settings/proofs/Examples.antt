-- Steps, and their settings or why they are refused: each way to give a number, at two, three, four and nine levels.
use Rattle.std.proofs.Common.{◌≡◌, ℕ, List, [], ◌∷◌, ◌++◌, Result, Ok, Err, Bool, true, false, map, refl}
use Rattle.std.specs.Prelude.{codes}
use Rattle.fx_lexer.specs.declared.token.Token.{Token}
use Rattle.fx_lexer.specs.declared.token.LexFault.{LexFault}
use Rattle.fx_lexer.specs.Lexing.{lexed}
use Rattle.fx_text.specs.declared.refusal.Refusal.{Refusal}
use Rattle.fx_text.specs.Written.{Written, written}
use Rattle.fx_text.specs.Statements.{statements_of}
use Rattle.fx_text.specs.Refusals.{◌>>=◌}
use Rattle.fx_settings.specs.declared.said.StepSaid.{StepSaid}
use Rattle.fx_settings.specs.declared.settings.StepSettings.{StepSettings}
use Rattle.fx_settings.specs.declared.settings.Size.{Size}
use Rattle.fx_settings.specs.declared.settings.Size.TheVariants.{Runs, Minimum}
use Rattle.fx_settings.specs.declared.settings.Criterion.{Criterion}
use Rattle.fx_settings.specs.declared.settings.Criterion.TheVariants.{Resolution, Highest, Effects}
use Rattle.fx_settings.specs.declared.settings.Blocks.{Blocks}
use Rattle.fx_settings.specs.declared.settings.Blocks.TheVariants.{Without, Factors, PerBlock, Most}
use Rattle.fx_settings.specs.Said.{step_said}
use Rattle.fx_settings.specs.Settings.{unblocked_of, step_settings_of}
use Rattle.fx_settings.specs.Powers.{greatest}

among : List ℕ → Result (List Token) LexFault → List (List Written)
among text (Ok tokens) = statements_of (written text tokens)
among text (Err fault) = []

said_by : List (List Written) → StepSaid
said_by [] = step_said [] [] []
said_by (proc ∷ []) = step_said proc [] []
said_by (proc ∷ factors ∷ rest) = step_said proc factors (proc ∷ factors ∷ rest)

-- the settings of a step of s factors, whose PROC and FACTORS statements stand first
settings : ℕ → List ℕ → Result StepSettings Refusal
unfolding lexed among said_by
settings s text = let said = said_by (among text (lexed text)) in
    unblocked_of s said >>= (λ (x : StepSettings). step_settings_of x said)

-- a step of q levels, with these statements on its second line
with_levels : List ℕ → List ℕ → List ℕ
with_levels q statements = codes "proc factex;factors A B/nlev=" ++ (q ++ (codes ";" ++ (10 ∷ statements)))

size : List ℕ → ℕ → List ℕ → Result Size Refusal
unfolding settings with_levels
size q s text = settings s (with_levels q text) >>= (λ (x : StepSettings). Ok x.size)

blocks : List ℕ → ℕ → List ℕ → Result Blocks Refusal
unfolding settings with_levels
blocks q s text = settings s (with_levels q text) >>= (λ (x : StepSettings). Ok x.blocks)

criterion : List ℕ → Result (Criterion × Bool) Refusal
unfolding settings with_levels
criterion text = settings 2 (with_levels (codes "2") text) >>= (λ (x : StepSettings). Ok (x.criterion, x.least))

-- a refusal on the second line
refused : {A : Type 0} → ℕ → ℕ → Result A Refusal
refused code column = Err (record { code = code; line = 2; column = column })

-- SIZE

two_levels :
    (size (codes "2") 4 [] ≡ Ok (Runs 4))
    × (size (codes "2") 4 (codes "size design=8;") ≡ Ok (Runs 3))
    × (size (codes "2") 4 (codes "size fraction=2;") ≡ Ok (Runs 3))
    × (size (codes "2") 4 (codes "size fraction=1;") ≡ Ok (Runs 4))
    × (size (codes "2") 4 (codes "size fraction=8;") ≡ Ok (Runs 1))
    × (size (codes "2") 4 (codes "size nrunfacs=3;") ≡ Ok (Runs 3))
    × (size (codes "2") 4 (codes "size design=1024;") ≡ Ok (Runs 10))
    × (size (codes "2") 10 [] ≡ Ok (Runs 10))
    × (size (codes "2") 4 (codes "size fraction=16;") ≡ refused 8 15)
    × (size (codes "2") 4 (codes "size design=1;") ≡ refused 8 13)
    × (size (codes "2") 4 (codes "size nrunfacs=0;") ≡ refused 8 15)
    × (size (codes "2") 4 (codes "size design=2048;") ≡ refused 9 13)
    × (size (codes "2") 4 (codes "size nrunfacs=11;") ≡ refused 9 15)
unfolding size refused
two_levels = (refl, refl, refl, refl, refl, refl, refl, refl, refl, refl, refl, refl, refl)

-- a third of four factors of three levels, and a ninth
three_levels :
    (size (codes "3") 4 (codes "size fraction=3;") ≡ Ok (Runs 3))
    × (size (codes "3") 4 (codes "size fraction=9;") ≡ Ok (Runs 2))
    × (size (codes "3") 4 (codes "size fraction=2;") ≡ refused 8 15)
    × (size (codes "3") 4 (codes "size design=27;") ≡ Ok (Runs 3))
    × (size (codes "3") 4 (codes "size design=8;") ≡ refused 8 13)
    × (size (codes "3") 4 (codes "size nrunfacs=6;") ≡ Ok (Runs 6))
    × (size (codes "3") 4 (codes "size nrunfacs=7;") ≡ refused 9 15)
unfolding size refused
three_levels = (refl, refl, refl, refl, refl, refl, refl)

four_and_nine_levels :
    (size (codes "4") 3 (codes "size design=16;") ≡ Ok (Runs 2))
    × (size (codes "4") 3 (codes "size fraction=4;") ≡ Ok (Runs 2))
    × (size (codes "4") 3 (codes "size fraction=2;") ≡ refused 8 15)
    × (size (codes "4") 3 (codes "size design=8;") ≡ refused 8 13)
    × (size (codes "4") 3 (codes "size fraction=64;") ≡ refused 8 15)
    × (size (codes "4") 3 (codes "size design=1024;") ≡ Ok (Runs 5))
    × (size (codes "9") 3 [] ≡ Ok (Runs 3))
    × (size (codes "9") 4 (codes "size design=6561;") ≡ refused 9 13)
unfolding size refused
four_and_nine_levels = (refl, refl, refl, refl, refl, refl, refl, refl)

-- each word for the least size; without SIZE too many factors are refused at FACTORS
least_size :
    (size (codes "3") 4 (codes "size design=min;model r=3;") ≡ Ok Minimum)
    × (size (codes "3") 4 (codes "size fraction=max;model r=3;") ≡ Ok Minimum)
    × (size (codes "3") 4 (codes "size nrunfacs=min;model r=3;") ≡ Ok Minimum)
    × (size (codes "2") 11 [] ≡ Err (record { code = 9; line = 1; column = 13 }))
unfolding size
least_size = (refl, refl, refl, refl)

-- the most run indexes of each number of levels
most : map greatest (2 ∷ 3 ∷ 4 ∷ 5 ∷ 7 ∷ 8 ∷ 9 ∷ []) ≡ 10 ∷ 6 ∷ 5 ∷ 4 ∷ 3 ∷ 3 ∷ 3 ∷ []
most = refl

-- MODEL

goals :
    (criterion [] ≡ Ok (Highest, false))
    × (criterion (codes "model r=3;") ≡ Ok (Resolution 3, false))
    × (criterion (codes "model resolution=99/minabs;") ≡ Ok (Resolution 99, true))
    × (criterion (codes "model res=max;") ≡ Ok (Highest, false))
    × (criterion (codes "model r=maximum/minabs;") ≡ Ok (Highest, true))
    × (criterion (codes "model e=(A)n=(B);") ≡ Ok (Effects, false))
    × (criterion (codes "model r=2;") ≡ refused 11 9)
    × (criterion (codes "model r=100;") ≡ refused 11 9)
    × (criterion (codes "model e=(A)/minabs;") ≡ refused 12 13)
unfolding criterion refused
goals = (refl, refl, refl, refl, refl, refl, refl, refl, refl)

-- BLOCKS: by the number of block factors, of blocks, and of runs in each

blocks_of_eight_runs :
    (blocks (codes "2") 3 (codes "model r=3;") ≡ Ok Without)
    × (blocks (codes "2") 3 (codes "blocks nblkfacs=1;model r=3;") ≡ Ok (Factors 1))
    × (blocks (codes "2") 3 (codes "blocks nblkfacs=3;model r=3;") ≡ Ok (Factors 3))
    × (blocks (codes "2") 3 (codes "blocks nblkfacs=4;model r=3;") ≡ refused 16 17)
    × (blocks (codes "2") 3 (codes "blocks nblkfacs=0;model r=3;") ≡ refused 15 17)
    × (blocks (codes "2") 3 (codes "blocks nblocks=4;model r=3;") ≡ Ok (Factors 2))
    × (blocks (codes "2") 3 (codes "blocks nblocks=8;model r=3;") ≡ Ok (Factors 3))
    × (blocks (codes "2") 3 (codes "blocks nblocks=16;model r=3;") ≡ refused 16 16)
    × (blocks (codes "2") 3 (codes "blocks nblocks=3;model r=3;") ≡ refused 15 16)
    × (blocks (codes "2") 3 (codes "blocks nblocks=1;model r=3;") ≡ refused 15 16)
    × (blocks (codes "2") 3 (codes "blocks size=2;model r=3;") ≡ Ok (Factors 2))
    × (blocks (codes "2") 3 (codes "blocks size=1;model r=3;") ≡ Ok (Factors 3))
    × (blocks (codes "2") 3 (codes "blocks size=8;model r=3;") ≡ refused 15 13)
    × (blocks (codes "2") 3 (codes "blocks size=3;model r=3;") ≡ refused 15 13)
unfolding blocks refused
blocks_of_eight_runs = (refl, refl, refl, refl, refl, refl, refl, refl, refl, refl, refl, refl, refl, refl)

blocks_of_27_runs :
    (blocks (codes "3") 3 (codes "blocks nblocks=9;model r=3;") ≡ Ok (Factors 2))
    × (blocks (codes "3") 3 (codes "blocks nblocks=4;model r=3;") ≡ refused 15 16)
    × (blocks (codes "3") 3 (codes "blocks size=9;model r=3;") ≡ Ok (Factors 1))
    × (blocks (codes "3") 3 (codes "blocks size=3;model r=3;") ≡ Ok (Factors 2))
    × (blocks (codes "3") 3 (codes "blocks size=2;model r=3;") ≡ refused 15 13)
    × (blocks (codes "3") 3 (codes "blocks nblkfacs=2;model r=3;") ≡ Ok (Factors 2))
unfolding blocks refused
blocks_of_27_runs = (refl, refl, refl, refl, refl, refl)

blocks_of_16_runs_at_four_levels :
    (blocks (codes "4") 2 (codes "blocks nblocks=4;model r=3;") ≡ Ok (Factors 1))
    × (blocks (codes "4") 2 (codes "blocks nblocks=2;model r=3;") ≡ refused 15 16)
    × (blocks (codes "4") 2 (codes "blocks nblocks=16;model r=3;") ≡ Ok (Factors 2))
    × (blocks (codes "4") 2 (codes "blocks size=4;model r=3;") ≡ Ok (Factors 1))
    × (blocks (codes "4") 2 (codes "blocks size=8;model r=3;") ≡ refused 15 13)
unfolding blocks refused
blocks_of_16_runs_at_four_levels = (refl, refl, refl, refl, refl)

-- with the least size at most 1,024 blocks, and fewer runs in each than there may be in all
blocks_of_the_least_size :
    (blocks (codes "2") 3 (codes "blocks nblkfacs=10;size design=min;model r=3;") ≡ Ok (Factors 10))
    × (blocks (codes "2") 3 (codes "blocks nblkfacs=11;size design=min;model r=3;") ≡ refused 16 17)
    × (blocks (codes "2") 3 (codes "blocks size=512;size design=min;model r=3;") ≡ Ok (PerBlock 9))
    × (blocks (codes "2") 3 (codes "blocks size=1024;size design=min;model r=3;") ≡ refused 15 13)
    × (blocks (codes "3") 3 (codes "blocks nblkfacs=6;size design=min;model r=3;") ≡ Ok (Factors 6))
    × (blocks (codes "3") 3 (codes "blocks nblkfacs=7;size design=min;model r=3;") ≡ refused 16 17)
    × (blocks (codes "3") 3 (codes "blocks size=243;size design=min;model r=3;") ≡ Ok (PerBlock 5))
    × (blocks (codes "3") 3 (codes "blocks size=729;size design=min;model r=3;") ≡ refused 15 13)
unfolding blocks refused
blocks_of_the_least_size = (refl, refl, refl, refl, refl, refl, refl, refl)

most_blocks :
    (blocks (codes "2") 3 (codes "blocks nblkfacs=max;model r=3;") ≡ Ok Most)
    × (blocks (codes "2") 3 (codes "blocks nblocks=max;model r=3;") ≡ Ok Most)
    × (blocks (codes "2") 3 (codes "blocks size=min;model r=3;") ≡ Ok Most)
unfolding blocks
most_blocks = (refl, refl, refl)

-- what cannot be combined: BLOCKS, and the least size
not_together :
    (blocks (codes "2") 3 (codes "blocks nblkfacs=1;") ≡ Ok (Factors 1))
    × (blocks (codes "2") 3 (codes "model r=max;blocks nblkfacs=1;") ≡ Ok (Factors 1))
    × (blocks (codes "2") 3 (codes "blocks size=min;") ≡ refused 13 1)
    × (blocks (codes "2") 3 (codes "model r=max;blocks nblkfacs=max;") ≡ refused 13 13)
    × (blocks (codes "2") 3 (codes "model r=3/minabs;blocks nblkfacs=1;") ≡ refused 13 18)
    × (blocks (codes "2") 3 (codes "model e=(A);blocks nblkfacs=1;") ≡ Ok (Factors 1))
    × (size (codes "2") 3 (codes "size design=min;") ≡ refused 14 13)
    × (size (codes "2") 3 (codes "size design=min;model r=max;") ≡ refused 14 13)
    × (size (codes "2") 3 (codes "size design=min;blocks size=2;") ≡ refused 14 13)
    × (size (codes "2") 3 (codes "size design=min;model r=3/minabs;") ≡ refused 14 13)
    × (size (codes "2") 3 (codes "size design=min;model r=3;blocks nblocks=max;") ≡ refused 14 13)
    × (size (codes "2") 3 (codes "size design=min;model e=(A);") ≡ Ok Minimum)
    × (size (codes "2") 3 (codes "size design=8;model r=max;") ≡ Ok (Runs 3))
unfolding blocks size refused
not_together = (refl, refl, refl, refl, refl, refl, refl, refl, refl, refl, refl, refl, refl)

-- NLEV and NODES, and which refusal comes first

levels_and_budget : List ℕ → Result (ℕ × ℕ) Refusal
unfolding settings
levels_and_budget text = settings 2 text >>= (λ (x : StepSettings). Ok (x.q, x.budget))

refused_first : ℕ → ℕ → Result (ℕ × ℕ) Refusal
refused_first code column = Err (record { code = code; line = 1; column = column })

usual_and_given :
    (levels_and_budget (codes "proc factex;factors A B;") ≡ Ok (2, 1000000))
    × (levels_and_budget (codes "proc factex nodes=5000000;factors A B/nlev=9;") ≡ Ok (9, 5000000))
    × (levels_and_budget (codes "proc factex nodes=1;factors A B/nlev=8;") ≡ Ok (8, 1))
    × (levels_and_budget (codes "proc factex nodes=5000001;factors A B;") ≡ refused_first 29 19)
    × (levels_and_budget (codes "proc factex nodes=0;factors A B;") ≡ refused_first 29 19)
    × (levels_and_budget (codes "proc factex;factors A B/nlev=1;") ≡ refused_first 6 30)
    × (levels_and_budget (codes "proc factex;factors A B/nlev=6;") ≡ refused_first 6 30)
    × (levels_and_budget (codes "proc factex;factors A B/nlev=10;") ≡ refused_first 6 30)
unfolding levels_and_budget refused_first
usual_and_given = (refl, refl, refl, refl, refl, refl, refl, refl)

in_order :
    (levels_and_budget (codes "proc factex nodes=0;factors A/nlev=6;size design=12;model r=2;blocks nblocks=3;")
    ≡ refused_first 6 36)
    × (levels_and_budget (codes "proc factex nodes=0;factors A/nlev=2;size design=12;model r=2;blocks nblocks=3;")
    ≡ refused_first 29 19)
    × (levels_and_budget (codes "proc factex nodes=1;factors A/nlev=2;size design=12;model r=2;blocks nblocks=3;")
    ≡ refused_first 8 50)
    × (levels_and_budget (codes "proc factex nodes=1;factors A/nlev=2;size design=2;model r=2;blocks nblocks=3;")
    ≡ refused_first 11 60)
    × (levels_and_budget (codes "proc factex nodes=1;factors A/nlev=2;size design=min;model r=max;blocks nblocks=max;")
    ≡ refused_first 13 66)
    × (levels_and_budget (codes "proc factex nodes=1;factors A/nlev=2;size design=2;model r=3;blocks nblocks=3;")
    ≡ refused_first 15 77)
unfolding levels_and_budget refused_first
in_order = (refl, refl, refl, refl, refl, refl)
