use Rattle.std.proofs.Common.{All, take}
use Rattle.sgt_service_agreement.specs.Agreed.{AgreesOn}
use Rattle.sgt_service_agreement.proofs.agreed.all_agree.Given as goal

abbrev pub invariant-loop-holding : goal.invariant-loop-holding
invariant-loop-holding l = All (λ h. AgreesOn l.certifier.history l.site h.item) (take l.holding-index l.items)
