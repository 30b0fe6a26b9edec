use Rattle.sgt_certify.proofs.Firsts.{fault-told, reason-told}
use Rattle.sgt_certify.proofs.laws.the_first_reason_is_told.Goals as goal

pub returns-clause-fault : goal.returns-clause-fault
returns-clause-fault c = fault-told

pub returns-clause-reason : goal.returns-clause-reason
returns-clause-reason c = reason-told
