use Rattle.std.proofs.Common.{◌≡◌, ◌++◌, map, take}
use Rattle.sgt_serial.specs.private.Operations.{entry_at}
use Rattle.sgt_serial.proofs.sorted.add_site.Given as goal

abbrev pub invariant-loop-at : goal.invariant-loop-at
invariant-loop-at l = l.entries.items ≡ l.fn.entries.items ++ map (entry_at l.site) (take l.at l.logged)
