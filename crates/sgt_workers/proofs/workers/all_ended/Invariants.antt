use Rattle.std.proofs.Common.{◌≡◌, All, map, Ok, Err, IfErr, MatchOption}
use Rattle.std.specs.Prelude.{◌⊎◌}
use Rattle.std.specs.List.{Contains}
use Rattle.sgt_workers.specs.Answers.{IsOwn}
use Rattle.sgt_workers.specs.declared.fault.PoolFail.TheVariants.{Pool}
use Rattle.sgt_workers.specs.declared.fault.PoolFault.TheVariants.{Memory}
use Rattle.sgt_workers.proofs.workers.all_ended.Given as goal

abbrev pub invariant-loop-end : goal.invariant-loop-end
invariant-loop-end g l = record {
  own : All (λ e. IfErr e IsOwn) l.yielded;
  so_far : MatchOption l.fault (l.yielded ≡ map Ok l.reports.items) (λ f. (f ≡ Memory)
      ⊎ Contains l.yielded (Err (Pool f)));
}
