use Rattle.std.proofs.Common.{subst, sym}
use Rattle.sgt_audit_workers.specs.private.Texts.{AreAhead}
use Rattle.sgt_audit_workers.proofs.sections.read_more.Goals as goal

pub returns-in-Some-clause-read : goal.returns-in-Some-clause-read
returns-in-Some-clause-read g c first from has =
    let came = rw c.in-Some.is at (c.next_section.ensures.came first has.0 has.2) in
    c.keep.ensures.kept first _ from has.0 came.0 (subst (λ m. AreAhead m from c.args.ahead.now.items has.0)
    (sym c.next_section.ensures.most) has.1) came.1 came.2

pub returns-in-Some-clause-asked : goal.returns-in-Some-clause-asked
returns-in-Some-clause-asked g c first from has was =
    c.keep.ensures.asked first _ (c.next_section.ensures.asked first has.0 has.2 was)

pub returns-in_default-clause-read : goal.returns-in_default-clause-read
returns-in_default-clause-read g c first from has =
    let came = rw c.in_default.is at (c.next_section.ensures.came first has.0 has.2) in
    (has.0, subst (λ m. AreAhead m from c.args.ahead.now.items has.0) (sym c.next_section.ensures.most) has.1, came)

pub returns-in_default-clause-asked : goal.returns-in_default-clause-asked
returns-in_default-clause-asked g c first from has was = c.next_section.ensures.asked first has.0 has.2 was
