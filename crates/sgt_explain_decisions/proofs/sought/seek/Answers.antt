use Rattle.sgt_explain_lines.proofs.Numbering.{on-ok}
use Rattle.sgt_explain_decisions.specs.Sought.{key_of}
use Rattle.sgt_explain_decisions.proofs.Seeking.{seeks-both, on-two}
use Rattle.sgt_explain_decisions.proofs.sought.seek.Goals as goal

pub returns-clause-seeks : goal.returns-clause-seeks
returns-clause-seeks c =
    on-ok c.seek_one-2.result _ _ (λ s. seeks-both c.args.sought.now c.seek_one.new.sought c.seek_one-2.new.sought
    c.args.classes.now.items c.seek_one.new.classes.items c.seek_one-2.new.classes.items
    c.in_ok-seek_one.ensures.seeks s) c.seek_one-2.ensures.seeks

pub returns-clause-both : goal.returns-clause-both
returns-clause-both c =
    on-two c.seek_one-2.result (λ s own. (
      s.keys (key_of c.args.step.now c.args.from) c.in_ok-seek_one.ensures.own,
      own,
    )) c.seek_one-2.ensures.seeks c.seek_one-2.ensures.own
