use Rattle.std.proofs.Common.{◌≡◌, subst, sym, Some, None, length}
use Rattle.sgt_history_faults.specs.Touch.{TellsContradiction}
use Rattle.sgt_history_faults.proofs.Covering.{contradiction-noted}
use Rattle.sgt_history_faults.proofs.collecting.with_contradiction.Goals as goal

pub returns-in-None-clause-noted : goal.returns-in-None-clause-noted
returns-in-None-clause-noted c = λ commits done place tells lt is.
    let none = subst (TellsContradiction done (length done)) c.in-None.is tells in
    absurd (none place lt is)

pub returns-in-Some-clause-noted : goal.returns-in-Some-clause-noted
returns-in-Some-clause-noted c = λ commits done place tells lt is.
    contradiction-noted c.with_fault.result c.args.whose.line c.in-Some.place place done
    (subst (TellsContradiction done (length done)) c.in-Some.is tells) is c.with_fault.ensures.noted
