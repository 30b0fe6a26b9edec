use Rattle.std.specs.List.{AllZip}
use Rattle.sgt_service_locks.proofs.opened.taken_out.Given as goal

abbrev pub invariant-loop-one : goal.invariant-loop-one
invariant-loop-one g l = AllZip (λ one it. g.F.Fn.post l.take (one, tt) it) l.yielded l.out.items
