use Rattle.std.proofs.Common.{List, ap, ◌∙◌, subst, arith}
use Rattle.sgt_bundle.specs.declared.bundle.SiteLog.{SiteLog}
use Rattle.sgt_serial.specs.Report.{finals_of}
use Rattle.sgt_serial.specs.private.Grouped.{AreOperationsOf}
use Rattle.sgt_serial.proofs.written.Plan.new.Goals as goal

pub returns : goal.returns
returns c = record {
  sites = c.in_ok-order.ensures.sites;
  order = c.in_ok-order.ensures.order;
  operations = subst (λ (logs : List SiteLog). AreOperationsOf logs c.in_ok-operations.operations)
      (c.as_slice.ensures.value ∙ c.in_ok-order.ensures.sites) c.in_ok-operations.ensures;
  finals = c.in_ok-finals.ensures ∙ ap finals_of (c.as_slice-2.ensures.value ∙ c.in_ok-order.ensures.sites);
  empty = c.in_ok-out.ensures.items;
  room = omega (arith, c.in_ok-out.ensures.exact);
}
