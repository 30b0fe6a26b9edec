use Rattle.sgt_audit.specs.Faults.{bytes_of}
use Rattle.sgt_explain.proofs.FaultyText.{notation-at}
use Rattle.sgt_explain.proofs.Telling.{on-all, on-both}
use Rattle.sgt_explain.proofs.lines.tell_notation.Goals as goal

pub returns : goal.returns
returns c = on-both _ _ c.push_notation.result
    (on-all _ c.push_notation.result (λ first. c.push_notation.ensures.line (bytes_of first.next)
    (notation-at c.args.bytes.now c.args.number first)))
    (on-all _ c.push_notation.result (λ first. c.push_notation.ensures.slip (bytes_of first.next)
    (notation-at c.args.bytes.now c.args.number first)))
