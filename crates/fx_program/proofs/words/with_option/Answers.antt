use Rattle.std.proofs.Common.{◌∙◌, sym}
use Rattle.fx_program.proofs.GivenOptions.{few, had_none, kept_threads, of_seed, of_seed_alone, one_more}
use Rattle.fx_program.proofs.words.with_option.Goals as goal

pub returns-in_err-threads-clause-few : goal.returns-in_err-threads-clause-few
returns-in_err-threads-clause-few c = few c.args.given.threads c.args.given.extra

pub returns-in-Some-clause-count : goal.returns-in-Some-clause-count
returns-in-Some-clause-count c =
    one_more c.args.given.threads c.args.given.extra c.in_ok-threads.threads
    (had_none c.args.place c.args.given.threads c.few_within.result c.in_ok-threads.threads
    (sym (c.once.ensures.once c.args.given.threads (sym c.is_some.ensures)) ∙ c.in_ok-threads.was))

pub returns-in-Some-clause-few : goal.returns-in-Some-clause-few
returns-in-Some-clause-few c = few c.args.given.threads c.args.given.extra

pub returns-in-Nothing-clause-few : goal.returns-in-Nothing-clause-few
returns-in-Nothing-clause-few c = few c.args.given.threads c.args.given.extra

pub returns-in-Seed-clause-threads : goal.returns-in-Seed-clause-threads
returns-in-Seed-clause-threads c =
    kept_threads c.args.given c.with_extra.result c.requires.threads c.with_extra.ensures.threads

pub returns-in-Seed-clause-extra : goal.returns-in-Seed-clause-extra
returns-in-Seed-clause-extra c = rw c.in-Seed.is (of_seed c.with_extra.result)

pub returns-in-Seed-clause-few : goal.returns-in-Seed-clause-few
returns-in-Seed-clause-few c = few c.args.given.threads c.args.given.extra

pub returns-in-SeedAlone-clause-threads : goal.returns-in-SeedAlone-clause-threads
returns-in-SeedAlone-clause-threads c =
    kept_threads c.args.given c.with_extra-in-SeedAlone.result c.requires.threads c.with_extra-in-SeedAlone.ensures.threads

pub returns-in-SeedAlone-clause-extra : goal.returns-in-SeedAlone-clause-extra
returns-in-SeedAlone-clause-extra c = rw c.in-SeedAlone.is (of_seed_alone c.with_extra-in-SeedAlone.result)

pub returns-in-SeedAlone-clause-few : goal.returns-in-SeedAlone-clause-few
returns-in-SeedAlone-clause-few c = few c.args.given.threads c.args.given.extra

pub returns-in-Nodes-clause-threads : goal.returns-in-Nodes-clause-threads
returns-in-Nodes-clause-threads c =
    kept_threads c.args.given c.with_extra-in-Nodes.result c.requires.threads c.with_extra-in-Nodes.ensures.threads

pub returns-in-Nodes-clause-extra : goal.returns-in-Nodes-clause-extra
returns-in-Nodes-clause-extra c = rw c.in-Nodes.is c.with_extra-in-Nodes.ensures.extra

pub returns-in-Nodes-clause-few : goal.returns-in-Nodes-clause-few
returns-in-Nodes-clause-few c = few c.args.given.threads c.args.given.extra
