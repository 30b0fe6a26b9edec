use Rattle.std.proofs.Common.{ℕ, List, Some}
use Rattle.sgt_names.specs.declared.outcome.Outcome.{Outcome}
use Rattle.sgt_explain.specs.Explained.{IsExplainedOf}
use Rattle.sgt_explain.specs.declared.asked.Asked.TheVariants.{All as Each}
use Rattle.sgt_c.specs.Answers.{ended_in}
use Rattle.sgt_c.proofs.Wrote.{held, told, never-unreadable, none-missing}
use Rattle.sgt_c.proofs.explanations.explain_text.Goals as goal

pub returns-in-Ok-clause-text : goal.returns-in-Ok-clause-text
returns-in-Ok-clause-text c =
    let bytes = Some c.args.bytes.now in
    let P : Outcome → List ℕ → Type 0 = λ o text. IsExplainedOf Each bytes (ended_in o) text in
    told P (never-unreadable bytes) c.number_of_answer.result c.in-Ok.explained.outcome
    c.explain.new.writer.bytes.items c.number_of_answer.ensures
    (none-missing bytes c.in-Ok.explained c.explain.new.writer.bytes.items
    (held (λ (text : List ℕ). IsExplainedOf Each bytes c.in-Ok.explained text)
    c.new-writer.result.is_short c.explain.new.writer.is_short
    c.new-writer.result.bytes.items c.explain.new.writer.bytes.items
    c.new-writer.ensures.whole c.new-writer.ensures.none (rw c.in-Ok.is at c.explain.ensures.asked)))
