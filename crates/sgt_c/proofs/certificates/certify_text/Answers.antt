use Rattle.std.proofs.Common.{ℕ, List, Some}
use Rattle.sgt_names.specs.declared.outcome.Outcome.{Outcome}
use Rattle.sgt_certify.specs.Answer.{IsAnswer}
use Rattle.sgt_c.proofs.Wrote.{held, told}
use Rattle.sgt_c.proofs.certificates.certify_text.Goals as goal

pub returns-in-Ok-clause-text : goal.returns-in-Ok-clause-text
returns-in-Ok-clause-text c =
    let P : Outcome → List ℕ → Type 0 = λ o text. IsAnswer c.args.bytes.now o text in
    told P (λ text no. no) c.number_of_answer.result c.in-Ok.outcome c.certify.new.writer.bytes.items
    c.number_of_answer.ensures
    (held (P c.in-Ok.outcome) c.new-writer.result.is_short c.certify.new.writer.is_short
    c.new-writer.result.bytes.items c.certify.new.writer.bytes.items
    c.new-writer.ensures.whole c.new-writer.ensures.none (rw c.in-Ok.is at c.certify.ensures.answer))
