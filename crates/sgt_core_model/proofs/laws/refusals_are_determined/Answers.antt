use Rattle.sgt_core_model.proofs.Faults.{allowed_or_refused, one_refusal}
use Rattle.sgt_core_model.proofs.laws.refusals_are_determined.Goals as goal

pub returns-clause-told : goal.returns-clause-told
returns-clause-told c state event = allowed_or_refused state event

pub returns-clause-one : goal.returns-clause-one
returns-clause-one c state event f g p q = one_refusal state event f g p q
