use Rattle.std.proofs.Common.{◌≡◌, Err, Ok, Result, inl}
use Rattle.sgt_names.specs.declared.outcome.EngineFail.{EngineFail}
use Rattle.sgt_names.specs.declared.outcome.Outcome.{Outcome}
use Rattle.sgt_explain.specs.declared.asked.Explained.{Explained}
use Rattle.sgt_explain_logs.specs.Either as explain
use Rattle.sgt_program.specs.Commands.{explained}
use Rattle.sgt_program.proofs.Answered.{status-answers}
use Rattle.sgt_program.proofs.Told.{kept, leaves_fail}
use Rattle.sgt_program.proofs.engines.explain_by.Goals as goal

pub returns-in-Ok-clause-answers : goal.returns-in-Ok-clause-answers
returns-in-Ok-clause-answers g c =
    let told = g.R.Source.tells c.args.reader.now in
    let old = g.W.Sink.holds c.args.writer.now in
    let new = g.W.Sink.holds c.explain_either.new.writer in
    status-answers (λ outcome. (ended : Explained) × (outcome ≡ explained ended)
    × explain.WroteExplanation c.args.asked told ended old new)
    (explain.WroteExplanationFront told old new) (Ok c.explained.result)
    (c.in-Ok.told, c.explained.ensures, c.in-Ok.ensures.answer) tt

pub returns-in-Err-clause-answers : goal.returns-in-Err-clause-answers
returns-in-Err-clause-answers g c =
    let told = g.R.Source.tells c.args.reader.now in
    let old = g.W.Sink.holds c.args.writer.now in
    let new = g.W.Sink.holds c.explain_either.new.writer in
    status-answers (λ outcome. (ended : Explained) × (outcome ≡ explained ended)
    × explain.WroteExplanation c.args.asked told ended old new)
    (explain.WroteExplanationFront told old new) (Err c.in-Err.fail) tt c.in-Err.ensures.front

pub returns-in-Err-clause-ends : goal.returns-in-Err-clause-ends
returns-in-Err-clause-ends g c =
    let said = c.in-Err.ensures in
    leaves_fail Explained c.in-Err.fail _ _ _ (kept _ _ _ _ _ _ tt) (λ other. inl (said.reader.quiet other))
    said.reader.due said.writer
