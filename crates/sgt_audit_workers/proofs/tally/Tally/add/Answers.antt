use Rattle.std.proofs.Common.{◌+◌, length, subst}
use Rattle.sgt_audit.specs.declared.faults.Fault.TheVariants as fault
use Rattle.sgt_audit.specs.declared.verdict.Verdict.TheVariants.{No}
use Rattle.sgt_audit_sections.specs.Judged.{IsJudgedSection}
use Rattle.sgt_audit_workers.specs.Tallies.{Adds}
use Rattle.sgt_audit_workers.proofs.OneMore.{behind-of, last-own, ok-adds}
use Rattle.sgt_audit_workers.proofs.tally.Tally.add.Goals as goal

pub returns-in-Faulty-clause-adds : goal.returns-in-Faulty-clause-adds
returns-in-Faulty-clause-adds c second cert logs bytes more t few judged last =
    let own = subst (IsJudgedSection second cert (length logs) bytes) c.in-Faulty.is judged in
    let old = c.args.self.now in
    ok-adds c.fault_at.result (No (old.lines + c.in-Faulty.line) c.in-Faulty.fault)
    (Adds second cert logs bytes more old) c.fault_at.ensures.ok
    (behind-of second cert logs old t bytes few more c.in-Faulty.line c.in-Faulty.fault (own more))

pub returns-then-is_last-clause-adds : goal.returns-then-is_last-clause-adds
returns-then-is_last-clause-adds c second cert logs bytes more t few judged last =
    let own = subst (IsJudgedSection second cert (length logs) bytes) c.in-Open.is judged in
    let old = c.args.self.now in
    ok-adds c.fault_at-then-is_last.result (No (old.lines + c.in-Open.line) fault.Truncated)
    (Adds second cert logs bytes more old) c.fault_at-then-is_last.ensures.ok
    (behind-of second cert logs old t bytes few more c.in-Open.line fault.Truncated
    (last-own second cert logs old t bytes more c.in-Open.line fault.Truncated (last c.if-is_last.true) own))
