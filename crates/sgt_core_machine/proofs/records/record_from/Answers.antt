use Rattle.std.proofs.Common.{◌∙◌}
use Rattle.sgt_core_machine.proofs.Bundles.{same_log, finals_are}
use Rattle.sgt_core_machine.proofs.records.record_from.Goals as goal

pub returns : goal.returns
returns c =
    let items = c.args.place.site.items in
    let entries = c.args.place.site.entries in
    same_log _ _ _ items entries c.into_log-items.ensures.items c.into_log-items.ensures.entries
    (finals_are items entries items c.in-Ok.finals.items c.in-Ok.ensures.items c.in-Ok.ensures.values)
