use Rattle.std.proofs.Common.{◌≡◌, None, false, inl, inr, refl, subst, sym}
use Rattle.std.specs.Prelude.{⊤, IfOk, OnErr}
use Rattle.sgt_audit.specs.declared.verdict.Verdict.{Verdict}
use Rattle.sgt_certify.specs.Answer as certify
use Rattle.sgt_draw.specs.declared.task.Wanted.{Wanted as Picture}
use Rattle.sgt_draw_logs.specs.Drawing as draw
use Rattle.sgt_core.specs.Replay as replay
use Rattle.sgt_service.specs.Report as run
use Rattle.sgt_program.proofs.Answered.{audit-fails, failing, high-stops, low-answered, rule-answers, serial-answers, status-answers, verdict-answers}
use Rattle.sgt_program.specs.Ending.{ReadsOn}
use Rattle.sgt_program.proofs.Told.{due, failed_more, kept, leaves, leaves_fail, leaves_more, leaves_topic, quiet_more}
use Rattle.sgt_command_line.specs.Words.{KeepsInput, command_of}
use Rattle.sgt_program.proofs.engines.run_choice.Goals as goal

pub returns-in-Ok-clause-answers : goal.returns-in-Ok-clause-answers
returns-in-Ok-clause-answers g c =
    let said = c.in-Ok.ensures in
    rw (c.in-Audit.is, c.outcome_of.ensures)
    (verdict-answers _ _ _ c.in-Ok.verdict said.verdict said.headline said.written)

pub returns-in-Err-clause-answers : goal.returns-in-Err-clause-answers
returns-in-Err-clause-answers g c = rw c.in-Audit.is (audit-fails _ _ _ c.in-Err.fail c.in-Err.ensures.front)

pub returns-in-Serial-clause-answers : goal.returns-in-Serial-clause-answers
returns-in-Serial-clause-answers g c =
    rw c.in-Serial.is (serial-answers _ _ _ c.serial.result c.serial.ensures.answer c.serial.ensures.front)

pub returns-in-Run-clause-answers : goal.returns-in-Run-clause-answers
returns-in-Run-clause-answers g c =
    let told = g.R.Source.tells c.args.reader.now in
    let old = g.W.Sink.holds c.args.writer.now in
    let new = g.W.Sink.holds c.run_scripts.new.writer in
    rw c.in-Run.is (status-answers (λ outcome. run.WroteAnswer c.in-Run.tries told outcome old new)
    (run.WroteAnswerFront c.in-Run.tries told old new)
    c.run_scripts.result c.run_scripts.ensures.answer c.run_scripts.ensures.front)

pub returns-in-Replay-clause-answers : goal.returns-in-Replay-clause-answers
returns-in-Replay-clause-answers g c =
    let told = g.R.Source.tells c.args.reader.now in
    let old = g.W.Sink.holds c.args.writer.now in
    let new = g.W.Sink.holds c.replay.new.writer in
    rw c.in-Replay.is (status-answers (λ outcome. replay.WroteAnswer told outcome old new)
    (replay.WroteAnswerFront told old new)
    c.replay.result c.replay.ensures.answer c.replay.ensures.front)

pub returns-in-Certify-clause-answers : goal.returns-in-Certify-clause-answers
returns-in-Certify-clause-answers g c =
    let told = g.R.Source.tells c.args.reader.now in
    let old = g.W.Sink.holds c.args.writer.now in
    let new = g.W.Sink.holds c.certify.new.writer in
    rw c.in-Certify.is (status-answers (λ outcome. certify.WroteAnswer told outcome old new)
    (certify.WroteAnswerFront told old new)
    c.certify.result c.certify.ensures.answer c.certify.ensures.front)

pub returns-in-Check-clause-answers : goal.returns-in-Check-clause-answers
returns-in-Check-clause-answers g c = rw c.in-Check.is c.check_by.ensures.answers

pub returns-in-Explain-clause-answers : goal.returns-in-Explain-clause-answers
returns-in-Explain-clause-answers g c = rw c.in-Explain.is c.explain_by.ensures.answers

pub returns-in-Rule-clause-answers : goal.returns-in-Rule-clause-answers
returns-in-Rule-clause-answers g c =
    let old = g.W.Sink.holds c.args.writer.now in
    let new = g.W.Sink.holds c.explain_topic.new.writer in
    rw c.in-Rule.is (rule-answers c.in-Rule.topic old new c.explain_topic.result c.explain_topic.ensures.ok
    c.explain_topic.ensures.rule c.explain_topic.ensures.front)

pub returns-in-Draw-clause-answers : goal.returns-in-Draw-clause-answers
returns-in-Draw-clause-answers g c =
    let told = g.R.Source.tells c.args.reader.now in
    let old = g.W.Sink.holds c.args.writer.now in
    let new = g.W.Sink.holds c.draw_either.new.writer in
    let wanted : Picture = record { tx = None; is_dot = false } in
    rw c.in-Draw.is (status-answers (λ outcome. draw.WroteDrawing wanted told outcome old new)
    (draw.WroteDrawingFront wanted told old new)
    c.draw_either.result c.draw_either.ensures.answer c.draw_either.ensures.front)

pub returns-in-DrawWith-clause-answers : goal.returns-in-DrawWith-clause-answers
returns-in-DrawWith-clause-answers g c =
    let told = g.R.Source.tells c.args.reader.now in
    let old = g.W.Sink.holds c.args.writer.now in
    let new = g.W.Sink.holds c.draw_either-in-DrawWith.new.writer in
    let wanted : Picture = record { tx = c.in-DrawWith.tx; is_dot = c.in-DrawWith.is_dot } in
    rw c.in-DrawWith.is (status-answers (λ outcome. draw.WroteDrawing wanted told outcome old new)
    (draw.WroteDrawingFront wanted told old new)
    c.draw_either-in-DrawWith.result c.draw_either-in-DrawWith.ensures.answer c.draw_either-in-DrawWith.ensures.front)

pub returns-in-AuditWith-clause-answers : goal.returns-in-AuditWith-clause-answers
returns-in-AuditWith-clause-answers g c = rw c.in-AuditWith.is c.audit_by.ensures.answers

pub returns-in-Serial-clause-ends : goal.returns-in-Serial-clause-ends
returns-in-Serial-clause-ends g c =
    let said = c.serial.ensures in
    leaves c.serial.result _ _ _ (due _ _ _ _ _ _) (λ other. inl (said.reader.quiet other))
    said.reader.due said.writer

pub returns-in-Replay-clause-ends : goal.returns-in-Replay-clause-ends
returns-in-Replay-clause-ends g c =
    let said = c.replay.ensures in
    leaves c.replay.result _ _ _ (due _ _ _ _ _ _) (λ other. inl (said.reader.quiet other))
    said.reader.due said.writer

pub returns-in-Certify-clause-ends : goal.returns-in-Certify-clause-ends
returns-in-Certify-clause-ends g c =
    let said = c.certify.ensures in
    leaves c.certify.result _ _ _ (due _ _ _ _ _ _) (λ other. inl (said.reader.quiet other))
    said.reader.due said.writer

pub returns-in-Check-clause-ends : goal.returns-in-Check-clause-ends
returns-in-Check-clause-ends g c =
    leaves_more c.check_by.result _ _ _ _ _ _ (quiet_more ⊥ (ReadsOn c.args.choice) _ _ _ _ absurd)
    (failed_more _ _ _ _ _ _ _ absurd) c.check_by.ensures.ends

pub returns-in-Draw-clause-ends : goal.returns-in-Draw-clause-ends
returns-in-Draw-clause-ends g c =
    let said = c.draw_either.ensures in
    let is : KeepsInput (command_of c.args.choice) = subst (λ d. KeepsInput (command_of d)) (sym c.in-Draw.is) (inr refl) in
    leaves c.draw_either.result _ _ _ (kept _ _ _ _ _ _ is) (λ other. inl (said.reader.quiet other))
    said.reader.due said.writer

pub returns-in-DrawWith-clause-ends : goal.returns-in-DrawWith-clause-ends
returns-in-DrawWith-clause-ends g c =
    let said = c.draw_either-in-DrawWith.ensures in
    let is : KeepsInput (command_of c.args.choice) =
    subst (λ d. KeepsInput (command_of d)) (sym c.in-DrawWith.is) (inr refl) in
    leaves c.draw_either-in-DrawWith.result _ _ _ (kept _ _ _ _ _ _ is)
    (λ other. inl (said.reader.quiet other))
    said.reader.due said.writer

pub returns-in-Run-clause-ends : goal.returns-in-Run-clause-ends
returns-in-Run-clause-ends g c =
    let said = c.run_scripts.ensures in
    leaves c.run_scripts.result _ _ _ (due _ _ _ _ _ _) (λ other. inl (said.reader.quiet other))
    said.reader.due said.writer

pub returns-in-Explain-clause-ends : goal.returns-in-Explain-clause-ends
returns-in-Explain-clause-ends g c =
    let is : KeepsInput (command_of c.args.choice) =
    subst (λ d. KeepsInput (command_of d)) (sym c.in-Explain.is) (inl refl) in
    leaves_more c.explain_by.result _ _ _ _ _ _ (quiet_more ⊥ (ReadsOn c.args.choice) _ _ _ _ absurd)
    (failed_more _ _ _ _ _ _ _ (λ _. is)) c.explain_by.ensures.ends

pub returns-in-Err-clause-ends : goal.returns-in-Err-clause-ends
returns-in-Err-clause-ends g c =
    let said = c.in-Err.ensures in
    leaves_fail Verdict c.in-Err.fail _ _ _ (due _ _ _ _ _ _) (λ other. inl (said.reader.quiet other))
    said.reader.due said.writer

pub returns-in-AuditWith-clause-ends : goal.returns-in-AuditWith-clause-ends
returns-in-AuditWith-clause-ends g c =
    let on : ReadsOn c.args.choice = subst ReadsOn (sym c.in-AuditWith.is) tt in
    leaves_more c.audit_by.result _ _ _ _ _ _ (quiet_more ⊤ (ReadsOn c.args.choice) _ _ _ _ (λ _. on))
    (failed_more _ _ _ _ _ _ _ absurd) c.audit_by.ensures.ends

pub returns-in-Rule-clause-ends : goal.returns-in-Rule-clause-ends
returns-in-Rule-clause-ends g c =
    let said = c.explain_topic.ensures in
    leaves_topic c.explain_topic.result _ _ _ _ _ _ said.only said.write_fault said.quiet_writer

pub returns-in-Ok-clause-none_behind : goal.returns-in-Ok-clause-none_behind
returns-in-Ok-clause-none_behind g c = rw c.in-Audit.is (λ low. c.in-Ok.ensures.none_behind)

pub returns-in-Err-clause-none_behind : goal.returns-in-Err-clause-none_behind
returns-in-Err-clause-none_behind g c = high-stops c.args.choice _ _ _ _ (failing c.in-Err.fail)

pub returns-in-Serial-clause-none_behind : goal.returns-in-Serial-clause-none_behind
returns-in-Serial-clause-none_behind g c =
    rw c.in-Serial.is (low-answered c.serial.result _ c.serial.ensures.none_behind)
