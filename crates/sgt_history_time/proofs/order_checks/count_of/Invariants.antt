use Rattle.std.proofs.Common.{◌≡◌, ℕ, ◌<◌, Some}
use Rattle.std.specs.Prelude.{slice_get}
use Rattle.sgt_history_time.proofs.order_checks.count_of.Given as goal

abbrev pub invariant-loop-line : goal.invariant-loop-line
invariant-loop-line l = (k session : ℕ) → k < l.line → slice_get l.sessions k ≡ Some (Some session) → session < l.count
