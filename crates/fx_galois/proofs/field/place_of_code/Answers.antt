use Rattle.std.proofs.Common.{rules, refl}
use Rattle.fx_galois.specs.TableEntries.{code_place}
use Rattle.fx_galois.proofs.Entries.{code_place-below, last_order}
use Rattle.fx_galois.proofs.field.place_of_code.Goals as goal
use Rattle.fx_galois.proofs.field.place_of_code.Goals.{in-2, in-3, in-4, in-5, in-7, in-8, in_default}

pub returns-clause-place : goal.returns-clause-place
unfolding code_place
returns-clause-place c =
    elim c.match-q.branch [
      | in-2 w ↦ rw (w.first-is, w.in-2.is) refl
      | in-3 w ↦ rw (w.first-is, w.in-3.is) refl
      | in-4 w ↦ rw (w.first-is, w.in-4.is) refl
      | in-5 w ↦ rw (w.first-is, w.in-5.is) refl
      | in-7 w ↦ rw (w.first-is, w.in-7.is) refl
      | in-8 w ↦ rw (w.first-is, w.in-8.is) refl
      | in_default w ↦
          rw (
            w.first-is,
            last_order c.args.q c.requires.order (search rules) (search rules) (search rules) (search rules)
                (search rules) (search rules),
          ) refl
    ]

pub returns-clause-within : goal.returns-clause-within
returns-clause-within c =
    rw (returns-clause-place c) (code_place-below c.args.q c.args.a c.requires.order c.requires.code)
