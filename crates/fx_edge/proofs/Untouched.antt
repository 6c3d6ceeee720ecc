-- What is given where nothing was read and nothing written.
use Rattle.std.proofs.Common.{ℕ, ◌≤◌, List, [], Option, Result, Ok, Err, sym, ap, arith}
use Rattle.std.specs.Prelude.{IfOk, unwrap_or}
use Rattle.fx_base.specs.Acts.{World, acts}
use Rattle.fx_base.proofs.Doing.{part_none}
use Rattle.fx_program.specs.CommandLine.{settings_of}
use Rattle.fx_program.specs.Commands.{command_in}
use Rattle.fx_program.specs.Outside.{GivesForSome}
use Rattle.fx_program.proofs.SomeOutput.{gives_some}

nothing_given : (old : World) (words : List (List ℕ)) (left : Option (List ℕ)) (status : ℕ) → 4 ≤ status
    → GivesForSome (command_in words) left old old status
nothing_given old words left status high =
    let some = gives_some (settings_of words) (unwrap_or left []) in
    record {
      text = unwrap_or left [];
      exposed = λ read known e. sym (ap (λ (o : Option (List ℕ)). unwrap_or o []) e);
      output = some.output;
      given = some.given;
      gives = record {
        same = λ low. absurd (omega arith);
        whole = λ low. absurd (omega arith);
        part = part_none old (acts some.output.events);
      };
    }

-- whatever the words are
pub nothing_for : {A E : Type 0} (old : World) (args : Result A E) (words : A → List (List ℕ)) (left : Option (List ℕ))
    (status : ℕ) → 4 ≤ status
    → IfOk args (λ given. GivesForSome (command_in (words given)) left old old status)
nothing_for old (Ok given) words left status high = nothing_given old (words given) left status high
nothing_for old (Err error) words left status high = tt
