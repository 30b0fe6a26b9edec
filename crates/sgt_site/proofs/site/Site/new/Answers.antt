use Rattle.std.proofs.Common.{refl}
use Rattle.sgt_site.proofs.Fresh.{kept-fresh}
use Rattle.sgt_site.proofs.PendingReads.{pending-fresh}
use Rattle.sgt_site.proofs.site.Site.new.Goals as goal

pub invariant_of-result : goal.invariant_of-result
invariant_of-result c =
    rw (c.in-Ok-new-2.ensures.entries, c.in-Ok-new-2.ensures.installed, c.in-Ok.ensures, c.new-3.ensures.items) (
      kept-fresh c.args.number c.args.items.now c.in-Ok-new.cells _ (c.if-not-are_items.ensures.0 refl)
          c.in-Ok-new.ensures.items c.in-Ok-new.ensures.fresh,
      pending-fresh c.new-5.result c.new-5.ensures,
      c.in-Ok-new-2.ensures.items,
    )
