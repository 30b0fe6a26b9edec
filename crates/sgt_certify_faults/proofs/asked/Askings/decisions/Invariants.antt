use Rattle.std.proofs.Common.{◌≡◌, map, take}
use Rattle.sgt_certify_faults.specs.private.Asked.{decision_of}
use Rattle.sgt_certify_faults.proofs.asked.Askings.decisions.Given as goal

abbrev pub invariant-loop-asking : goal.invariant-loop-asking
invariant-loop-asking l = l.decisions.items ≡ map decision_of (take l.asking-index l.asking-items)
