use Rattle.std.proofs.Common.{◌∙◌, ap, Some}
use Rattle.sgt_core_machine.proofs.Awaiting.{rules_from}
use Rattle.sgt_core_machine.proofs.Finding.{found_there, someone_there}
use Rattle.sgt_core_machine.proofs.deciding.rule.Goals as goal

pub returns-clause-ok : goal.returns-clause-ok
returns-clause-ok c =
    let runs = found_there c.args.table.now c.args.slot c.index-table-slot.result c.requires.slot.0 c.requires.slot.1
    c.index-table-slot.is ∙ ap Some c.in-Some.is in
    rules_from c.args.certifier.now c.rule.new.self c.args.table.now c.args.slot c.args.edges.now c.in-Some.running
    runs c.rule.result c.rule.ensures.ok c.rule.ensures.unnoted

pub unreachable-requires : goal.unreachable-requires
unreachable-requires c =
    someone_there c.args.table.now c.args.slot c.index-table-slot.result c.requires.slot.0 c.requires.slot.1
    c.index-table-slot.is c.in-None.is

pub rule-requires : goal.rule-requires
rule-requires c =
    let runs = found_there c.args.table.now c.args.slot c.index-table-slot.result c.requires.slot.0 c.requires.slot.1
    c.index-table-slot.is ∙ ap Some c.in-Some.is in
    record { may = c.requires.may c.in-Some.running runs }
