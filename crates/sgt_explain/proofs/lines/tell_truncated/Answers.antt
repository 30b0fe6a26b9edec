use Rattle.sgt_audit.specs.Faults.{bytes_of}
use Rattle.sgt_explain.proofs.FaultyText.{truncated-at}
use Rattle.sgt_explain.proofs.Telling.{on-all, ends-shown}
use Rattle.sgt_explain.proofs.lines.tell_truncated.Goals as goal

pub returns : goal.returns
returns c =
    on-all _ c.push_truncated.result (λ first. ends-shown c.push_truncated.result (bytes_of first.next) c.args.number
    _ _ c.push_truncated.ensures.begins
    (λ some. c.push_truncated.ensures.line (bytes_of first.next)
    (truncated-at c.args.bytes.now c.args.number first some)))
