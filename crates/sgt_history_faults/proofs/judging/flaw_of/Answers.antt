use Rattle.std.proofs.Common.{◌≡◌, subst, sym, ◌∙◌, refl, Some, None, ap}
use Rattle.sgt_history_faults.specs.Group.{IsWriter}
use Rattle.sgt_history_faults.proofs.Grouped.{none-writes, surpassed-is, unwritten-is, aborted-is, alike-not, empty-none, some-element}
use Rattle.sgt_history_faults.proofs.judging.flaw_of.Goals as goal

pub returns-then-write-clause-exact : goal.returns-then-write-clause-exact
returns-then-write-clause-exact c = λ e flaw read above other.
    let first = subst (IsWriter c.args.writes.now) c.in-Some.is c.requires.writer in
    surpassed-is c.args.writes.now e c.in-Some.write flaw first c.if-write.true read above other

pub returns-else-write-clause-exact : goal.returns-else-write-clause-exact
returns-else-write-clause-exact c = λ e flaw read above other.
    let first = subst (IsWriter c.args.writes.now) c.in-Some.is c.requires.writer in
    none-writes c.args.writes.now e flaw None refl read
    (alike-not c.args.writes.now c.in-Some.write c.requires.alike first c.if-write.false)
    (c.in-Some.write, first.is) other

pub returns-then-is_empty-clause-exact : goal.returns-then-is_empty-clause-exact
returns-then-is_empty-clause-exact c =
    λ e flaw read above other. unwritten-is c.args.writes.now e flaw
    (empty-none c.args.writes.now (sym c.is_empty.ensures ∙ c.if-is_empty.true)) read above other

pub returns-else-is_empty-clause-exact : goal.returns-else-is_empty-clause-exact
returns-else-is_empty-clause-exact c = λ e flaw read above other.
    let none = subst (IsWriter c.args.writes.now) c.in-None.is c.requires.writer in
    let some = some-element c.args.writes.now (sym c.is_empty.ensures ∙ c.if-is_empty.false) in
    aborted-is c.args.writes.now e some.0 flaw some.1 none read above other
