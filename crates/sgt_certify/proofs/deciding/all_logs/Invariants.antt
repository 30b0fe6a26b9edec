use Rattle.std.proofs.Common.{◌≤◌, ◌-◌, List, length}
use Rattle.sgt_bundle.specs.declared.bundle.SiteLog.{SiteLog}
use Rattle.sgt_certify_logs.specs.Certifiable.{SpellsLogs}
use Rattle.sgt_certify.proofs.deciding.all_logs.Given as goal

abbrev pub invariant-counts : goal.invariant-counts
invariant-counts l = (logs : List SiteLog) → SpellsLogs l.text logs → l.count ≤ length logs

abbrev pub decreases-counts : goal.decreases-counts
decreases-counts l = 65 - l.count
