use Rattle.std.proofs.Common.{List, subst, sym}
use Rattle.std.specs.Arc.{arc_value}
use Rattle.std.proofs.KnownBytes.{Consumes-nil}
use Rattle.sgt_audit_workers.specs.declared.head.Head.{Head}
use Rattle.sgt_audit_workers.specs.declared.running.Running.{Running}
use Rattle.sgt_audit_workers.specs.private.Running.{AreRunning}
use Rattle.sgt_audit_workers.specs.private.Tallied.{IsTallied}
use Rattle.sgt_audit_workers.proofs.Taken.{tallied-first}
use Rattle.sgt_audit_workers.proofs.workers.Workers.new.Goals as goal

pub returns-clause-works : goal.returns-clause-works
returns-clause-works c told left front = record {
  middle = left;
  tallied = subst (λ (h : Head). IsTallied h told left c.new-3.result) (sym c.in_ok-new.ensures.ok)
      (tallied-first c.args.head told left c.new-3.result c.requires c.new-3.ensures front);
  running =
      subst (λ (rs : List Running). AreRunning (arc_value c.in_ok-new.field-0) c.args.most left c.new-3.result.whole
      rs left) (sym c.new-2.ensures.items) (Consumes-nil left);
}
