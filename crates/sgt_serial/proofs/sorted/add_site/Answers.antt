use Rattle.sgt_serial.specs.private.Operations.{entry_at}
use Rattle.sgt_serial.proofs.Grouping.{map-more}
use Rattle.sgt_serial.proofs.sorted.add_site.Goals as goal

pub loop-at-preserved : goal.loop-at-preserved
loop-at-preserved c =
    map-more (entry_at c.args.site) c.args.logged.now c.loop-at.at c.at.result c.at.ensures
    c.args.entries.now.items c.loop-at.entries.items c.push.new.self.items c.loop-at.invariant
    c.in_ok-push.ensures.items
