use Rattle.std.proofs.Common.{◌+◌, arith}
use Rattle.sgt_audit_workers.proofs.Given.{given-run, idle-later}
use Rattle.sgt_audit_workers.proofs.Taken.{ends-last, found, idle-behind, judged-at, rest_of, taken}
use Rattle.sgt_audit_workers.specs.Tallies.{IsLost}
use Rattle.sgt_audit_workers.proofs.Losing.{none_judged, on_err, one_judged}
use Rattle.sgt_audit_workers.proofs.workers.take.Goals as goal

pub returns-in-None-clause-takes : goal.returns-in-None-clause-takes
returns-in-None-clause-takes g c h job most told old new tallied lt given will =
    let done = c.finish-job.result in
    let ran = c.finish-job.ensures h job will in
    let here = given-run h most old new c.args.tally.now.whole job done ran given in
    let added =
    rw c.in-None.is at (c.in_ok-verdict.ensures.adds h.second h.certificate tallied.logs done.section.bytes.items
    (rest_of new) tallied.tally
    (omega (arith, tallied.tally.whole, lt))
    (judged-at h most told old new done c.args.tally.now tallied here c.in-Ok.judged ran.done c.in-Ok.is)
    (ends-last h most told old new done c.args.tally.now tallied here)) in
    let now = taken h told old new done.section.bytes.items c.args.tally.now tallied here.section.bytes c.add.new.self
    (rest_of new) added in (
      now.0,
      now.1,
      idle-later h (done.site + 1) c.add.new.self.whole done (omega (arith, here.site, now.1))
          (idle-behind h done c.in-Ok.judged ran.done c.in-Ok.is (rw c.in-None.is at c.in_ok-verdict.ensures.whole)),
    )

pub returns-in-Some-clause-takes : goal.returns-in-Some-clause-takes
returns-in-Some-clause-takes g c h job most told old new tallied lt given will =
    let done = c.finish-job.result in
    let ran = c.finish-job.ensures h job will in
    let here = given-run h most old new c.args.tally.now.whole job done ran given in
    let added =
    rw c.in-Some.is at (c.in_ok-verdict.ensures.adds h.second h.certificate tallied.logs done.section.bytes.items
    (rest_of new) tallied.tally
    (omega (arith, tallied.tally.whole, lt))
    (judged-at h most told old new done c.args.tally.now tallied here c.in-Ok.judged ran.done c.in-Ok.is)
    (ends-last h most told old new done c.args.tally.now tallied here)) in
    found h told old new done.section.bytes.items c.args.tally.now tallied here.section.bytes _ c.in-Some.verdict
    (omega (arith, here.section.short)) added

pub returns-in-Err-clause-lost : goal.returns-in-Err-clause-lost
returns-in-Err-clause-lost g c h job will =
    let done = c.finish-job.result in (
      done,
      c.finish-job.ensures h job will,
      none_judged done.judged c.in-Err.field-0 (IsLost c.args.tally.now.lines done.section.is_last) c.in-Err.is,
    )

pub returns-in_err-verdict-clause-lost : goal.returns-in_err-verdict-clause-lost
returns-in_err-verdict-clause-lost g c h job will =
    let done = c.finish-job.result in
    let lost = one_judged done.judged c.in-Ok.judged (IsLost c.args.tally.now.lines done.section.is_last) c.in-Ok.is
    c.in_err-verdict.ensures.lost in
    on_err c.from_residual.result _ (done, c.finish-job.ensures h job will, lost)
