use Rattle.std.proofs.Common.{Err, Option, Ok, ℕ, Some, ap, refl, unwrap_or}
use Rattle.sgt_audit_chain.specs.declared.faults.ChainFault.{ChainFault}
use Rattle.sgt_program.proofs.Told.{due, failing, front_at, leaves, leaves_fail, left_alone, never_yes, tells-errors, told_no, wrote_none}
use Rattle.sgt_program.specs.declared.ending.Ending.TheVariants.{Ran}
use Rattle.sgt_program.proofs.chain.audit_next.Goals as goal

pub returns-in-Ok-None-clause-goes_on : goal.returns-in-Ok-None-clause-goes_on
returns-in-Ok-None-clause-goes_on g c =
    λ is told audited. rw c.in-Ok-None.field-0-is at (c.in-Ok-None.ensures.goes_on told audited)

pub returns-in-Ok-Some-clause-no : goal.returns-in-Ok-Some-clause-no
returns-in-Ok-Some-clause-no g c = λ is.
    let wrote = told_no c.tell_broken-told.result c.finish.result _ (ap (λ (o : Option ℕ). unwrap_or o 0) is)
    c.finish.ensures.status c.tell_broken-told.ensures.no in (
      c.in-Ok-Some.line,
      c.in-Ok-Some.fault,
      wrote,
      λ told audited. rw c.in-Ok-Some.field-0-is at (c.in-Ok-Some.ensures.fault told audited),
    )

pub returns-in-Ok-Some-clause-ends : goal.returns-in-Ok-Some-clause-ends
returns-in-Ok-Some-clause-ends g c =
    let said = c.tell_broken-told.ensures in
    let finished = c.finish.ensures in
    let quiet = c.in-Ok-Some.ensures.reader.quiet (λ e. cc) in (
      Ran c.tell_broken-told.result,
      finished.status,
      leaves c.tell_broken-told.result _ _ _ absurd (λ e. quiet) said.read_fault said.writer,
      tells-errors c.tell_broken-told.result _ _ finished.silent finished.told,
    )

pub returns-in-Err-clause-ends : goal.returns-in-Err-clause-ends
returns-in-Err-clause-ends g c =
    let said = c.in-Err.ensures in (
      Ran (Err c.in-Err.fail),
      c.give_up.ensures.status,
      leaves_fail (Option (ℕ × ChainFault)) c.in-Err.fail _ _ _ (due _ _ _ _ _ _) said.reader.quiet said.reader.due
          (left_alone g.W.Sink.failures (failing (Option (ℕ × ChainFault)) c.in-Err.fail) c.args.writer.now
          said.write_fault),
      c.give_up.ensures.told,
    )

pub returns-in-Ok-Some-clause-known : goal.returns-in-Ok-Some-clause-known
returns-in-Ok-Some-clause-known g c =
    never_yes c.tell_broken-told.result c.finish.result _ c.finish.ensures.status c.tell_broken-told.ensures.no

pub returns-in-Ok-Some-clause-front : goal.returns-in-Ok-Some-clause-front
returns-in-Ok-Some-clause-front g c =
    front_at c.tell_broken-told.result c.finish.result _ c.finish.ensures.status c.tell_broken-told.ensures.front

pub returns-in-Err-clause-known : goal.returns-in-Err-clause-known
returns-in-Err-clause-known g c = never_yes (Err c.in-Err.fail) c.give_up.result ⊥ c.give_up.ensures.status tt

pub returns-in-Err-clause-front : goal.returns-in-Err-clause-front
returns-in-Err-clause-front g c = λ high. wrote_none c.args.name.now (g.W.Sink.holds c.args.writer.now)
