use Rattle.std.proofs.Common.{refl, ◌∙◌, ap, Some}
use Rattle.sgt_core_machine.proofs.Finding.{found_there, someone_there}
use Rattle.sgt_core_machine.proofs.withdrawing.offer_at.Goals as goal

pub offer_all-requires : goal.offer_all-requires
offer_all-requires c =
    let runs = found_there c.args.table.now c.args.slot c.index-table-slot.result c.requires.slot.0 c.requires.slot.1
    c.index-table-slot.is ∙ ap Some c.in-Some.is in
    λ t p here. c.requires.may t p c.in-Some.running here runs

pub unreachable-requires : goal.unreachable-requires
unreachable-requires c =
    someone_there c.args.table.now c.args.slot c.index-table-slot.result c.requires.slot.0 c.requires.slot.1
    c.index-table-slot.is c.in-None.is

pub returns-in-Ok-clause-ok : goal.returns-in-Ok-clause-ok
returns-in-Ok-clause-ok c =
    let runs = found_there c.args.table.now c.args.slot c.index-table-slot.result c.requires.slot.0 c.requires.slot.1
    c.index-table-slot.is ∙ ap Some c.in-Some.is in
    record { running = c.in-Some.running; there = runs; handle_is = refl; pledges = c.in-Ok.ensures.ok }
