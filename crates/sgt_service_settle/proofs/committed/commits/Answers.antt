use Rattle.std.proofs.Common.{◌≡◌, ◌∙◌, ◌↔◌, ℕ, sym, ap, subst, List}
use Rattle.sgt_bundle.specs.Certificate.{IsCommitted, IsDecidedOnce}
use Rattle.sgt_bundle.specs.declared.certificate.Decision.{Decision}
use Rattle.sgt_certifier.proofs.Ruling.{certificate-once}
use Rattle.sgt_certifier.proofs.Replaying.{replays-good}
use Rattle.sgt_certifier.specs.Certifier.{certificate_of}
use Rattle.sgt_service_settle.specs.private.Index.{IsIn}
use Rattle.sgt_service_settle.proofs.Committing.{certified_commits}
use Rattle.sgt_service_settle.proofs.committed.commits.Goals as goal

pub commits_of-requires : goal.commits_of-requires
commits_of-requires c =
    let s = c.args.certifier.now.state in
    let once =
    certificate-once s (replays-good c.args.certifier.now.history s c.history-replays.ensures.replays).ruled in
    let is : c.as_slice.result.now ≡ (certificate_of s 1).decisions = c.as_slice.ensures
    ∙ ap (λ x. x.decisions) c.in_ok-certificate.ensures in
    subst IsDecidedOnce (sym is) once

pub returns : goal.returns
returns c =
    let s = c.args.certifier.now.state in
    let is : c.as_slice.result.now ≡ (certificate_of s 1).decisions = c.as_slice.ensures
    ∙ ap (λ x. x.decisions) c.in_ok-certificate.ensures in
    let P : List Decision → Type 0 = λ ds. (tx number : ℕ) → IsIn c.in_ok-commits.commits.items tx number
    ↔ ((rank : ℕ) × IsCommitted ds number tx rank) in
    certified_commits s 1 c.in_ok-commits.commits.items (subst P is c.in_ok-commits.ensures)
