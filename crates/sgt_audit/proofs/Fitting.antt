-- The parts of a bundle that is spelled fit together.
use Rattle.std.proofs.Common.{ℕ, ◌<◌, List}
use Rattle.sgt_names.proofs.Lists.{All-weaken}
use Rattle.sgt_bundle.specs.Parts.{FitTogether, HasStepsWithin, IsShaped}
use Rattle.sgt_bundle.specs.Text.{IsCertificate, IsDecision, IsStep}
use Rattle.sgt_bundle.specs.declared.certificate.Certificate.{Certificate}
use Rattle.sgt_bundle.specs.declared.certificate.Decision.{Decision}
use Rattle.sgt_bundle.specs.declared.certificate.Decision.TheVariants.{Commit, Refuse, Withdraw}
use Rattle.sgt_bundle.specs.declared.bundle.SiteLog.{SiteLog}

steps-within : (sites : ℕ) (d : Decision) → IsDecision sites d → HasStepsWithin sites d
steps-within sites (Commit tx rank) is = tt
steps-within sites (Refuse tx walk) is =
    All-weaken (IsStep sites) (λ step. step.label.site < sites) walk (λ step s. s.1) is.1
steps-within sites (Withdraw tx) is = tt

pub fit-together : (c : Certificate) (logs : List SiteLog) → IsCertificate c → IsShaped c.sites logs
    → FitTogether (record { certificate = c; sites = logs })
fit-together c logs is shaped = record {
  shape = shaped;
  steps = All-weaken (IsDecision c.sites) (HasStepsWithin c.sites) c.decisions (steps-within c.sites) is.2;
}
