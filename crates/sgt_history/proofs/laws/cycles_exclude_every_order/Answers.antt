use Rattle.sgt_history.proofs.Forward.{cycle-excludes}
use Rattle.sgt_history.proofs.laws.cycles_exclude_every_order.Goals as goal

pub returns : goal.returns
returns g c = λ h graph cycle serves. cycle-excludes h graph cycle serves
