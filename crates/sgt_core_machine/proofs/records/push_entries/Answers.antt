use Rattle.sgt_core_machine.proofs.Written.{next_entry}
use Rattle.sgt_core_machine.proofs.records.push_entries.Goals as goal

pub loop-place-preserved : goal.loop-place-preserved
loop-place-preserved c =
    next_entry _ c.loop-place.out.items c.push_entry.new.out.items c.args.log.now.entries c.loop-place.place
    c.at.result c.at.ensures c.in_ok-push_entry.ensures c.loop-place.invariant
