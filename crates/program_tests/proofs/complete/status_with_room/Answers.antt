use Rattle.std.proofs.Common.{◌≡◌, ◌<◌, ◌≤◌, ◌+◌, [], ℕ, List, Some, length, subst, sym, ap, ◌∙◌, arith}
use Rattle.fx_base.specs.Acts.{File}
use Rattle.fx_base.specs.Memory.{SinkInMemory, ShelfInMemory, SourceInMemory, room_of}
use Rattle.fx_base.proofs.Options.{same_some}
use Rattle.fx_program.specs.CommandLine.{bytes_of}
use Rattle.fx_program.specs.Commands.{command_in}
use Rattle.fx_program.specs.Output.{world}
use Rattle.fx_program.specs.Outside.{GivesForSome}
use Rattle.fx_program.proofs.Complete.{not-failed}
use Rattle.program_tests.proofs.complete.status_with_room.Goals as goal

pub returns : goal.returns
returns g c =
    let call = c.factex-status in
    let words = bytes_of c.args.words.now in
    let listing = call.new.listing in
    let shelf = call.new.shelf in
    let text_is : c.new-source.result.left ≡ c.args.text = ap (λ (z : SourceInMemory). z.left) c.new-source.ensures in
    let empty : c.in_ok-listing.listing.written ≡ [] = ap (λ (z : SinkInMemory). z.written) c.in_ok-listing.ensures in
    let none : c.in_ok-shelf.shelf.files ≡ [] = ap (λ (z : ShelfInMemory). z.files) c.in_ok-shelf.ensures in
    let room_is : listing.room ≡ c.args.listing_room =
    same_some call.ensures.rooms.1 ∙ ap (λ (z : SinkInMemory). z.room) c.in_ok-listing.ensures in
    let shelf_room_is : shelf.room ≡ c.args.shelf_room =
    same_some call.ensures.rooms.2 ∙ ap (λ (z : ShelfInMemory). z.room) c.in_ok-shelf.ensures in
    let Gives : List ℕ → List ℕ → List File → Type 0 = λ text written files.
    GivesForSome (command_in words) (Some text) (world (Some written) (Some files))
    (world (Some listing.written) (Some shelf.files)) call.result in
    let gives : Gives c.args.text [] [] =
    subst (λ z. Gives z [] []) text_is
    (subst (λ z. Gives c.new-source.result.left z []) empty
    (subst (λ z. Gives c.new-source.result.left c.in_ok-listing.listing.written z) none call.ensures.output)) in (
      call.ensures.status_range,
      not-failed words c.args.text listing.written shelf.files call.result c.in_ok-listing.listing.faults listing.faults
          c.in_ok-shelf.shelf.faults shelf.faults c.args.listing_room c.args.shelf_room gives call.ensures.cause
          (λ output given. (c.requires.listing output given, c.requires.shelf output given))
          (λ low. c.faults-listed.ensures.sure (subst (λ z. length listing.written < z) (sym room_is) low))
          (λ low. c.faults-shelved.ensures.sure (subst (λ z. room_of shelf.files + 64 ≤ z) (sym shelf_room_is) low)),
    )
