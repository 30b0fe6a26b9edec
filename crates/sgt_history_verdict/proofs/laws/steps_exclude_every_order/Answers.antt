use Rattle.sgt_history_verdict.proofs.Excluding.{steps-exclude}
use Rattle.sgt_history_verdict.proofs.laws.steps_exclude_every_order.Goals as goal

pub returns : goal.returns
returns c = λ h g steps are s. steps-exclude h g steps are s
