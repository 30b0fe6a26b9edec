use Rattle.std.proofs.Common.{◌≡◌, ◌++◌, map, take}
use Rattle.sgt_service_settle.specs.private.Words.{with_number}
use Rattle.sgt_service_settle.proofs.handed.add_edges.Given as goal

abbrev pub invariant-loop-place : goal.invariant-loop-place
invariant-loop-place l = l.handed.items ≡ l.initial.handed.items ++ map (with_number l.number) (take l.place l.edges)
