use Rattle.std.proofs.Common.{ℕ, ◌<◌, ◌≡◌, Some, suc}
use Rattle.std.specs.Prelude.{slice_get}
use Rattle.sgt_workers.specs.declared.ticket.Done.{Done as ADone}
use Rattle.sgt_service.proofs.settled.rise.Given as goal

abbrev pub invariant-loop-i : goal.invariant-loop-i
invariant-loop-i l = (k : ℕ) (d e : ADone) → suc k < l.i → slice_get l.dones k ≡ Some d
    → slice_get l.dones (suc k) ≡ Some e → d.job < e.job
