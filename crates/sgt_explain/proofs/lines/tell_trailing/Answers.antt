use Rattle.sgt_audit.specs.Faults.{bytes_of}
use Rattle.sgt_explain.proofs.FaultyText.{trailing-at}
use Rattle.sgt_explain.proofs.Telling.{on-all, on-both}
use Rattle.sgt_explain.proofs.lines.tell_trailing.Goals as goal

pub returns : goal.returns
returns c = on-both _ _ c.push_trailing.result
    (on-all _ c.push_trailing.result (λ first. c.push_trailing.ensures.line (bytes_of first.next)
    (trailing-at c.args.bytes.now c.args.number first)))
    (on-all _ c.push_trailing.result (λ first. c.push_trailing.ensures.text (bytes_of first.next)
    (trailing-at c.args.bytes.now c.args.number first)))
