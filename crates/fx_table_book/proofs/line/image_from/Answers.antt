use Rattle.std.proofs.Common.{◌&&◌, ◌^◌, ltb, lt-ltb, sym, ap, ap₂, ◌∙◌, arith}
use Rattle.std.proofs.Common.{Ok}
use Rattle.std.specs.List.{list_all}
use Rattle.std.specs.Option.{option_map}
use Rattle.std.proofs.lemmas.Bool.{cond-true, cond-false, and_from, and_right}
use Rattle.fx_strata.specs.Books as books
use Rattle.fx_table_book.specs.Texts.{image_from}
use Rattle.fx_table_book.proofs.LineParts.{all_below}
use Rattle.fx_table_book.proofs.line.image_from.Goals as goal

pub returns-in-None-change_of-clause-entry : goal.returns-in-None-change_of-clause-entry
returns-in-None-change_of-clause-entry c =
    let limit = c.args.base.q ^ c.args.base.m in
    let numbers = c.in-Some-numbers.numbers.items in
    let some_are_not =
    rw c.requires.runs at
    (rw c.as_slice.ensures.value at
    (c.in-None-change_of.ensures.some_are_not (sym c.in-None-change_of.is ∙ c.in-None-change_of.is))) in
    sym (ap₂ (λ r n. image_from limit r (option_map (λ v. v.items) n)) c.in-Some.is c.in-Some-numbers.is
    ∙ cond-false (ltb c.in-Some.row limit && list_all (λ a. ltb a limit) numbers) _ _ (and_right _ _ some_are_not))

pub returns-in-Some-change_of-clause-entry : goal.returns-in-Some-change_of-clause-entry
returns-in-Some-change_of-clause-entry c =
    let limit = c.args.base.q ^ c.args.base.m in
    let row = c.in-Some.row in
    let numbers = c.in-Some-numbers.numbers.items in
    let same =
    c.in-Some-change_of.ensures.same ∙ c.as_slice.ensures.value in
    let below =
    rw c.requires.runs at (rw same at c.in-Some-change_of.ensures.below) in
    sym (ap₂ (λ r n. image_from limit r (option_map (λ v. v.items) n)) c.in-Some.is c.in-Some-numbers.is
    ∙ cond-true (ltb row limit && list_all (λ a. ltb a limit) numbers) _ _
    (and_from _ _ (lt-ltb row limit (omega arith)) (all_below limit numbers below))
    ∙ ap (λ l. Ok (books.Image row l)) (sym same))
