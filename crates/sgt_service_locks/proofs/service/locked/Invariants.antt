use Rattle.std.proofs.Common.{◌≡◌, vec_len, length}
use Rattle.sgt_service_locks.proofs.service.locked.Given as goal

abbrev pub invariant-loop-site : goal.invariant-loop-site
invariant-loop-site l = vec_len l.locks ≡ length l.yielded
