use Rattle.sgt_names.proofs.Lists.{element_at, All-next, All-whole}
use Rattle.sgt_site.specs.State.{IsSite}
use Rattle.sgt_service_settle.proofs.check.know_sites.Goals as goal

pub loop-site-preserved : goal.loop-site-preserved
loop-site-preserved c =
    let at = element_at _ _ _ c.loop-site-test.true c.site-item.is in
    All-next IsSite _ _ _ at c.items-items.ensures.site c.loop-site.invariant

pub returns : goal.returns
returns c = All-whole IsSite _ _ c.loop-site-test.false c.loop-site.invariant
