use Rattle.std.proofs.Common.{refl, inl, inr, sym, subst, ◌∙◌}
use Rattle.sgt_explain_lines.proofs.Numbering.{on-ok}
use Rattle.sgt_explain_decisions.specs.Sought.{FindsOne, TakesOne}
use Rattle.sgt_explain_decisions.proofs.Seeking.{finds-some, finds-none}
use Rattle.sgt_explain_decisions.proofs.sought.find_in.Goals as goal

pub returns-in-Some-clause-spelled : goal.returns-in-Some-clause-spelled
returns-in-Some-clause-spelled c = λ high read is e.
    let one = c.entry_of.ensures.spelled read is e in
    on-ok c.take.result _ _
    (λ takes. (
      one.1,
      finds-some c.entry_of.new.site c.args.line read c.in-Some.entry c.args.sought.now
          c.take.new.sought (sym c.in-Some.is ∙ one.0) takes,
    )) (c.take.ensures c.requires.marked)

pub returns-in-Some-clause-any : goal.returns-in-Some-clause-any
returns-in-Some-clause-any c =
    on-ok c.take.result _ _
    (λ takes. inr (c.entry_of.new.site, record { line = c.args.line; entry = c.in-Some.entry }, takes))
    (c.take.ensures c.requires.marked)

pub returns-in-None-clause-spelled : goal.returns-in-None-clause-spelled
returns-in-None-clause-spelled c = λ high read is e.
    let one = c.entry_of.ensures.spelled read is e in
    (one.1, finds-none c.entry_of.new.site c.args.line read c.args.sought.now (sym c.in-None.is ∙ one.0))
