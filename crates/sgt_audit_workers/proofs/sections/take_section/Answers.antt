use Rattle.std.proofs.Common.{List, subst}
use Rattle.sgt_audit_workers.specs.declared.sections.Section.{Section}
use Rattle.sgt_audit_workers.specs.private.Texts.{AreAhead}
use Rattle.sgt_audit_workers.proofs.Left.{first-came}
use Rattle.sgt_audit_workers.proofs.sections.take_section.Goals as goal

pub returns-in-Going-clause-came : goal.returns-in-Going-clause-came
returns-in-Going-clause-came g c first from has =
    let none = subst (λ (ss : List Section). AreAhead c.args.text.now.most from ss has.0) c.in_default.ensures.none
    has.1 in
    first-came first _ from has.0 _ _ c.next_section.result none c.in_default.ensures.empty
    (c.next_section.ensures.came first has.0 has.2)

pub returns-in-Going-clause-asked : goal.returns-in-Going-clause-asked
returns-in-Going-clause-asked g c first from has was = c.next_section.ensures.asked first has.0 has.2 was
