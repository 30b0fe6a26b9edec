use Rattle.sgt_explain_lines.proofs.input.text_at.Goals as goal

pub returns-in-None : goal.returns-in-None
returns-in-None c = λ line h. absurd (c.in-None.ensures.some line h)
