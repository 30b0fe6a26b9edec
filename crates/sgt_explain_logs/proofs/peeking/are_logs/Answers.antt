use Rattle.std.proofs.Common.{false, true, refl}
use Rattle.sgt_explain_logs.proofs.Explanations.{refuted}
use Rattle.sgt_explain_logs.proofs.Heads.{logs-second}
use Rattle.sgt_explain_logs.proofs.peeking.are_logs.Goals as goal

pub returns-then-begins_with : goal.returns-then-begins_with
returns-then-begins_with c = (λ yes. (false, c.begins_with.ensures.0 c.if-begins_with.true), λ are. refl)

pub returns : goal.returns
returns c = (
  λ yes. (true, c.begins_with-2.ensures.0 yes),
  λ are. c.begins_with-2.ensures.1 (logs-second c.args.bytes.now
      (refuted c.begins_with.result c.begins_with.ensures c.if-begins_with.false) are),
)
