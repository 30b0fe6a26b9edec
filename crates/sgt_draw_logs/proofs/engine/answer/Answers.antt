use Rattle.std.proofs.Common.{◌≡◌, ◌↔◌, ◌∙◌, inl, inr, length}
use Rattle.std.specs.Prelude.{IfSome}
use Rattle.std.proofs.lemmas.Result.{IfOk-weaker}
use Rattle.sgt_names.specs.Limits.{most_reads}
use Rattle.sgt_names.specs.declared.outcome.Outcome.TheVariants.{Yes}
use Rattle.sgt_audit.specs.Verdict.{IsVerdict}
use Rattle.sgt_certify.specs.Answer.{HasCertificate}
use Rattle.sgt_explain.specs.Front.{IsFrontOf}
use Rattle.sgt_explain.proofs.Fronts.{reads-back}
use Rattle.sgt_explain.proofs.Taken.{told-back}
use Rattle.sgt_explain_logs.specs.Taken.{AreReadOf, BeganInTime}
use Rattle.sgt_explain_logs.proofs.Explanations.{are-told, logs-told, never-logs, other-told, soon-logs, stops-logs, stops-other}
use Rattle.sgt_explain_logs.proofs.Readings.{long-read, soon-back}
use Rattle.sgt_draw_logs.proofs.engine.answer.Goals as goal

pub logs_answer-requires : goal.logs_answer-requires
logs_answer-requires g c = c.in_ok-logs.ensures.alone

pub returns-in_ok-logs-clause-answer : goal.returns-in_ok-logs-clause-answer
returns-in_ok-logs-clause-answer g c =
    let told = g.R.Source.tells c.args.reader.now in
    let peeked = c.in_ok-peeked.peeked in
    let logs = c.in_ok-logs.logs in
    let read = told-back told (g.R.Source.tells c.peek.new.reader) peeked.text.items (λ bytes. AreReadOf bytes logs)
    c.in_ok-peeked.ensures.came c.in_ok-logs.ensures.read in
    IfOk-weaker c.logs_answer.result _ _
    (λ a is. inl (are-told told peeked.are_logs c.if-peeked.true c.in_ok-peeked.ensures.are, is))
    (c.logs_answer.ensures.answer told read)

pub returns-in_ok-logs-clause-exact : goal.returns-in_ok-logs-clause-exact
returns-in_ok-logs-clause-exact g c =
    let told = g.R.Source.tells c.args.reader.now in
    let logs = c.in_ok-logs.logs in
    let read = told-back told (g.R.Source.tells c.peek.new.reader) c.in_ok-peeked.peeked.text.items
    (λ bytes. AreReadOf bytes logs) c.in_ok-peeked.ensures.came c.in_ok-logs.ensures.read in
    logs-told told logs read c.logs_answer.result (λ a bytes. (a.outcome ≡ Yes) ↔ HasCertificate bytes)
    c.logs_answer.ensures.exact

pub returns-in_ok-logs-clause-none_behind : goal.returns-in_ok-logs-clause-none_behind
returns-in_ok-logs-clause-none_behind g c =
    let told = g.R.Source.tells c.args.reader.now in
    let read = c.read_logs.new.reader in
    stops-logs c.logs_answer.result told (g.R.Source.tells read) (g.R.Source.last read)
    (are-told told c.in_ok-peeked.peeked.are_logs c.if-peeked.true c.in_ok-peeked.ensures.are)

pub returns-in_ok-logs-clause-little_behind : goal.returns-in_ok-logs-clause-little_behind
returns-in_ok-logs-clause-little_behind g c =
    let tells = g.R.Source.tells in
    let read = c.read_logs.new.reader in
    soon-logs c.logs_answer.result (tells c.args.reader.now) (tells read) (g.R.Source.last read)
    (soon-back tells g.R.Source.last c.args.reader.now c.peek.new.reader read c.in_ok-peeked.peeked.text.items
    c.in_ok-peeked.ensures.came c.in_ok-peeked.ensures.peeked c.in_ok-logs.ensures.reads)

pub returns-in_ok-logs-clause-reader : goal.returns-in_ok-logs-clause-reader
returns-in_ok-logs-clause-reader g c =
    let told = g.R.Source.tells c.args.reader.now in
    let logs = c.in_ok-logs.logs in
    let read = told-back told (g.R.Source.tells c.peek.new.reader) c.in_ok-peeked.peeked.text.items
    (λ bytes. AreReadOf bytes logs) c.in_ok-peeked.ensures.came c.in_ok-logs.ensures.read in
    record {
      due = λ is. inr (long-read told logs most_reads read (c.logs_answer.ensures.long is));
      quiet = λ other. c.in_ok-logs.ensures.reader.quiet (λ e. cc) ∙ c.in_ok-peeked.ensures.quiet (λ e. cc);
    }

pub returns-in_ok-front-clause-answer : goal.returns-in_ok-front-clause-answer
returns-in_ok-front-clause-answer g c =
    let told = g.R.Source.tells c.args.reader.now in
    let peeked = c.in_ok-peeked.peeked in
    let front = c.in_ok-front.front in
    let on = told-back told (g.R.Source.tells c.peek.new.reader) peeked.text.items
    (λ bytes. IsVerdict bytes front.verdict × IsFrontOf bytes front.verdict front.text.items)
    c.in_ok-peeked.ensures.came c.in_ok-front.ensures.verdict in
    IfOk-weaker c.bundle_answer.result _ _
    (λ a drawn. inr (other-told told peeked.are_logs c.if-peeked.false c.in_ok-peeked.ensures.are, drawn told on))
    c.bundle_answer.ensures.answer

pub returns-in_ok-front-clause-exact : goal.returns-in_ok-front-clause-exact
returns-in_ok-front-clause-exact g c =
    let told = g.R.Source.tells c.args.reader.now in
    never-logs c.bundle_answer.result told (λ a bytes. (a.outcome ≡ Yes) ↔ HasCertificate bytes)
    (other-told told c.in_ok-peeked.peeked.are_logs c.if-peeked.false c.in_ok-peeked.ensures.are)

pub returns-in_ok-front-clause-little_behind : goal.returns-in_ok-front-clause-little_behind
returns-in_ok-front-clause-little_behind g c =
    let told = g.R.Source.tells c.args.reader.now in
    let read = c.read_judged.new.reader in
    never-logs c.bundle_answer.result told
    (λ a bytes. IfSome (g.R.Source.tells read) (λ left. BeganInTime bytes (length left) (g.R.Source.last read)))
    (other-told told c.in_ok-peeked.peeked.are_logs c.if-peeked.false c.in_ok-peeked.ensures.are)

pub returns-in_ok-front-clause-none_behind : goal.returns-in_ok-front-clause-none_behind
returns-in_ok-front-clause-none_behind g c =
    let tells = g.R.Source.tells in
    let read = c.read_judged.new.reader in
    stops-other c.bundle_answer.result (tells c.args.reader.now) (tells read) (g.R.Source.last read)
    (reads-back tells g.R.Source.asked g.R.Source.last c.args.reader.now c.peek.new.reader read
    c.in_ok-peeked.peeked.text.items c.in_ok-peeked.ensures.came c.in_ok-peeked.ensures.none_behind
    c.in_ok-front.ensures.reads)
