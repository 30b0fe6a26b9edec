use Rattle.std.proofs.Common.{arith, rules}
use Rattle.sgt_names.proofs.Lists.{element_at, All-next, All-whole}
use Rattle.sgt_explain_decisions.specs.Cycles.{IsShownWhole}
use Rattle.sgt_explain_decisions.proofs.cycles.unmet_in.Goals as goal

pub loop-number-preserved : goal.loop-number-preserved
loop-number-preserved c =
    let ds = c.args.decisions.now in
    let n = c.loop-number.number in
    let d = c.index-decisions-number.result in
    All-next (IsShownWhole c.args.sought.now) ds n d (element_at ds n d (omega arith) c.index-decisions-number.is)
    (search rules) c.loop-number.invariant

pub returns-clause-none : goal.returns-clause-none
returns-clause-none c = All-whole (IsShownWhole c.args.sought.now) c.args.decisions.now c.loop-number.number
    (omega (arith, c.loop-number-test.false)) c.loop-number.invariant
