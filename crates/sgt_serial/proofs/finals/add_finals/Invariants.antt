use Rattle.std.proofs.Common.{◌≡◌, ◌++◌, map, take}
use Rattle.sgt_serial.specs.Report.{final_at}
use Rattle.sgt_serial.proofs.finals.add_finals.Given as goal

abbrev pub invariant-loop-holding : goal.invariant-loop-holding
invariant-loop-holding l = l.finals.items ≡ l.fn.finals.items ++ map (final_at l.site) (take l.holding-index l.holdings)
