-- The options of the command line, counted.
use Rattle.std.proofs.Common.{ℕ, ◌≡◌, ◌≤◌, ◌+◌, Option, Some, None, Ok, Err, Result, refl, arith, sym, subst}
use Rattle.std.specs.Prelude.{IfOk, IfSome}
use Rattle.fx_program.specs.declared.words.Extra.TheVariants as extra
use Rattle.fx_program.specs.declared.words.Options.{Options}
use Rattle.fx_program.specs.declared.word_fault.WordFault.{WordFault}
use Rattle.fx_program.specs.CommandLine.{AreThreads, IsOfExtra, option_count}
use Rattle.fx_program.specs.Words.{once}

pub few : (threads extra : Option ℕ) → option_count (record { threads = threads; extra = extra }) ≤ 2
few None None = omega arith
few None (Some n) = omega arith
few (Some n) None = omega arith
few (Some n) (Some m) = omega arith

-- an option that gets a value had none
pub had_none : (place : ℕ) (earlier value : Option ℕ) (n : ℕ) → once place earlier value ≡ Ok n → earlier ≡ None
had_none place None value n e = refl
had_none place (Some m) value n e = absurd (cc e)

-- and is one more
pub one_more : (threads extra : Option ℕ) (n : ℕ) → threads ≡ None
    → option_count (record { threads = Some n; extra = extra })
    ≡ option_count (record { threads = threads; extra = extra }) + 1
one_more threads None n e = rw e refl
one_more threads (Some m) n e = rw e refl

pub one_more_extra : (threads extra : Option ℕ) (n : ℕ) → extra ≡ None
    → option_count (record { threads = threads; extra = Some n })
    ≡ option_count (record { threads = threads; extra = extra }) + 1
one_more_extra None extra n e = rw e refl
one_more_extra (Some m) extra n e = rw e refl

-- the threads are still from 1 to 64
pub kept_threads : (given : Options) (r : Result Options WordFault) → IfSome given.threads AreThreads
    → IfOk r (λ more. more.threads ≡ given.threads)
    → IfOk r (λ more. IfSome more.threads AreThreads)
kept_threads given (Ok more) h e = subst (λ (o : Option ℕ). IfSome o AreThreads) (sym e) h
kept_threads given (Err fault) h e = tt

-- a seed may be any number
any_seed : (o : Option ℕ) → IfSome o (IsOfExtra extra.Seed)
any_seed None = tt
any_seed (Some n) = tt

any_seed_alone : (o : Option ℕ) → IfSome o (IsOfExtra extra.SeedAlone)
any_seed_alone None = tt
any_seed_alone (Some n) = tt

pub of_seed_alone : (r : Result Options WordFault) → IfOk r (λ more. IfSome more.extra (IsOfExtra extra.SeedAlone))
of_seed_alone (Ok more) = any_seed_alone more.extra
of_seed_alone (Err fault) = tt

pub of_seed : (r : Result Options WordFault) → IfOk r (λ more. IfSome more.extra (IsOfExtra extra.Seed))
of_seed (Ok more) = any_seed more.extra
of_seed (Err fault) = tt
