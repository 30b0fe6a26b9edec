use Rattle.std.specs.BTreeMap.{get}
use Rattle.std.specs.Ordering.{nat_cmp}
use Rattle.sgt_explain_decisions.proofs.Walking.{ArePassed}
use Rattle.sgt_explain_decisions.proofs.walks.again_in.Given as goal

abbrev pub invariant-loop-place : goal.invariant-loop-place
invariant-loop-place l = ArePassed l.between l.place (λ a. get nat_cmp l.passed a)
