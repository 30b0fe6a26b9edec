use Rattle.std.proofs.Common.{◌∙◌, [], ap, arith, length, sym}
use Rattle.std.proofs.lemmas.Bool.{eqb-false}
use Rattle.std.proofs.lemmas.List.{append-nil}
use Rattle.sgt_notation.specs.Spelling.{text_of_lines}
use Rattle.sgt_explain_lines.proofs.input.line_at.Goals as goal

pub returns-else-is_empty-clause-none : goal.returns-else-is_empty-clause-none
returns-else-is_empty-clause-none c = λ upto.
    let rest = c.after_line-rest.result.now in
    let none = c.after_line-rest.ensures upto.0 [] upto.1 (omega (arith, upto.3, c.saturating_sub.ensures)) (upto.2
    ∙ sym (append-nil (text_of_lines upto.0))) in
    eqb-false (length rest) 0 (sym c.is_empty.ensures ∙ c.if-is_empty.false) (ap length none)
