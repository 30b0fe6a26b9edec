use Rattle.sgt_history_time.proofs.Forward.{cycle-excludes}
use Rattle.sgt_history_time.proofs.laws.cycles_exclude_orders_that_keep.Goals as goal

pub returns : goal.returns
returns g c = λ h times sessions timed sessioned cycle is s. cycle-excludes h times sessions timed sessioned cycle is s
