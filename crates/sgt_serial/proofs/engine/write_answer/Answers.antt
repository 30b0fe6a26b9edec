use Rattle.std.proofs.Common.{Err, ap}
use Rattle.sgt_names.specs.declared.outcome.Outcome.TheVariants.{No}
use Rattle.sgt_audit.specs.Verdict.{text_of}
use Rattle.sgt_audit.specs.declared.verdict.Verdict.TheVariants as verdict
use Rattle.sgt_serial.proofs.Answering.{answered-front, no-answer}
use Rattle.sgt_serial.proofs.Passing.{on-err}
use Rattle.sgt_serial.proofs.engine.write_answer.Goals as goal

pub returns-in_err-write_fault-in-No-clause-front : goal.returns-in_err-write_fault-in-No-clause-front
returns-in_err-write_fault-in-No-clause-front g c told h =
    let holds = g.W.Sink.holds in
    let line = c.in-No.line in
    let fault = c.in-No.fault in
    let call = c.in_err-write_fault-in-No.ensures in
    on-err c.from_residual-in_err-write_fault-in-No.result
    (answered-front c.in_err-write_fault-in-No.field-0.0 told (holds c.args.writer.now)
    (holds c.write_fault.new.writer) No (text_of (verdict.No line fault))
    (no-answer told c.args.audited line fault c.in-No.is h)
    (λ is. ap holds (call.writer.untouched (ap Err is))) (λ is. call.unread (ap Err is)) (λ is. call.front (ap Err is)))
