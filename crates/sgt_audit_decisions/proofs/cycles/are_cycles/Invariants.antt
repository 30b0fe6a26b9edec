use Rattle.std.proofs.Common.{◌≡◌, ◌<◌, ℕ, List, Some}
use Rattle.std.specs.Prelude.{slice_get}
use Rattle.sgt_bundle.specs.Certificate.{IsCycle}
use Rattle.sgt_bundle.specs.declared.certificate.Step.{Step}
use Rattle.sgt_bundle.specs.declared.certificate.Decision.TheVariants.{Refuse}
use Rattle.sgt_audit_decisions.proofs.cycles.are_cycles.Given as goal

abbrev pub invariant-loop-number : goal.invariant-loop-number
invariant-loop-number l = (number tx : ℕ) (walk : List Step) → number < l.number
    → slice_get l.certificate.decisions number ≡ Some (Refuse tx walk) → IsCycle l.certificate.decisions number tx walk
