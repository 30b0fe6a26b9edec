use Rattle.std.proofs.Common.{ap, ◌∙◌}
use Rattle.std.proofs.lemmas.Option.{same_Some, none-some}
use Rattle.sgt_explain_lines.specs.Numbered.{logged_in}
use Rattle.sgt_explain.proofs.shown.logged_at.Goals as goal

pub returns-in-Some : goal.returns-in-Some
returns-in-Some c = λ before line h. c.logged_on.ensures
    ∙ ap (λ l. logged_in (c.args.number, l)) (same_Some c.in-Some.line line (c.in-Some.ensures before line h))

pub returns-in-None : goal.returns-in-None
returns-in-None c = λ before line h. absurd (none-some line (c.in-None.ensures before line h))
