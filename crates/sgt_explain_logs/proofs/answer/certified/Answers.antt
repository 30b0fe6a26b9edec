use Rattle.std.proofs.Common.{ℕ, List}
use Rattle.sgt_certify.specs.Answer.{IsAnswer}
use Rattle.sgt_explain_logs.proofs.Wrote.{held}
use Rattle.sgt_explain_logs.proofs.answer.certified.Goals as goal

pub returns-in-Ok-clause-answer : goal.returns-in-Ok-clause-answer
returns-in-Ok-clause-answer c =
    held (λ (text : List ℕ). IsAnswer c.args.bytes.now c.in-Ok.outcome text)
    c.new-writer.result.is_short c.certify.new.writer.is_short
    c.new-writer.result.bytes.items c.certify.new.writer.bytes.items
    c.new-writer.ensures.whole c.new-writer.ensures.none (rw c.in-Ok.is at c.certify.ensures.answer)
