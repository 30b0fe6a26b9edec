use Rattle.sgt_certify_stuck.specs.Ends.{AllDecided}
use Rattle.sgt_certify_stuck.proofs.ends.first_left.Given as goal

abbrev pub invariant-loop-place : goal.invariant-loop-place
invariant-loop-place l = AllDecided l.entries l.decided l.place
