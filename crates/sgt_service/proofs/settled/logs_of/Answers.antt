use Rattle.std.proofs.Common.{arith, subst₂, sym, take}
use Rattle.std.specs.List.{AllZip}
use Rattle.sgt_names.proofs.Lists.{element_at, take_next}
use Rattle.sgt_workers.proofs.Lists.{zip_push}
use Rattle.sgt_service.proofs.Bundling.{IsSiteLog}
use Rattle.sgt_service.proofs.settled.logs_of.Goals as goal

pub loop-site-preserved : goal.loop-site-preserved
loop-site-preserved c =
    let n = c.loop-site.site-index in
    let sites = c.args.sites.now in
    let site = c.site-item.result in
    let log = c.in_ok-log.log in
    let here = element_at sites n site (omega arith) c.site-item.is in
    record {
      logs = subst₂ (AllZip IsSiteLog) (sym (take_next sites n site here)) (sym c.push_reserved.ensures.items)
          (zip_push IsSiteLog (take n sites) c.loop-site.logs.items site log c.loop-site.invariant.logs
          (c.in_ok-log.ensures.log, c.log_of.ensures.site));
      room = omega (arith, c.push_reserved.ensures.len, c.push_reserved.ensures.capacity, c.loop-site.invariant.room);
    }
