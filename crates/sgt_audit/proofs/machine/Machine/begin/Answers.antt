use Rattle.std.proofs.Common.{[], None, refl, sym, ap, ◌∙◌, subst}
use Rattle.sgt_bundle.specs.Text.{certificate_text, IsCertificate}
use Rattle.sgt_bundle.specs.declared.certificate.Certificate.{Certificate}
use Rattle.sgt_audit.specs.declared.faults.Fault.{Fault}
use Rattle.sgt_audit.specs.declared.faults.Fault.TheVariants as fault
use Rattle.sgt_audit.specs.declared.machine.Progress.TheVariants as at
use Rattle.sgt_audit.specs.Faults.{KeepsItself, headed}
use Rattle.sgt_audit.specs.private.NextLine.{Follows}
use Rattle.sgt_audit.specs.Kept.{Means}
use Rattle.sgt_audit.specs.declared.kept.Kept.{Kept}
use Rattle.sgt_audit.specs.Reading.{Begun}
use Rattle.sgt_audit.proofs.NextStage.{certificate-breaks, certificate-means, headed-follows}
use Rattle.sgt_audit.proofs.Places.{fresh-begun}
use Rattle.sgt_audit.proofs.machine.Machine.begin.Goals as goal

pub returns-in_ok-steps-in-Ok-Ok-clause-begins : goal.returns-in_ok-steps-in-Ok-Ok-clause-begins
returns-in_ok-steps-in-Ok-Ok-clause-begins k line reading =
    let read = rw k.in-Ok.is at reading in
    let answered = rw k.in-Ok-Ok.field-0-is at k.in-Ok-Ok.ensures in
    let c = k.in-Ok-Ok.certificate in
    let itself = subst (λ (c : Certificate). (f : Fault) → KeepsItself c.decisions f) answered.0 answered.1 in
    let spelled = read.0 in
    let b : Begun = record { sites = k.in-Ok.certificate.sites; whole = []; current = None } in
    let begun = fresh-begun k.in-Ok.certificate.sites b spelled.0 spelled.1 refl in
    let sites = ap (λ (c : Certificate). c.sites) answered.0 in
    let new : Kept = record {
      certificate = c;
      alone = k.begin.new.self;
      walks = k.new-walks.result;
      sections = k.sections_of-sections.result;
    } in
    let same = k.begin.ensures.second ∙ k.in_ok-alone-in-Ok-Ok.ensures.second in
    subst (λ second. Follows (headed second) line (at.Reading new) None) same
    (headed-follows new line b (read.1 ∙ ap certificate_text (sym answered.0))
    (record {
      means = subst (λ second. Means second c b []) (sym same)
          (subst (λ (c : Certificate). Means k.args.second c b []) (sym answered.0)
          (certificate-means k.args.second k.in-Ok.certificate b spelled itself begun refl));
      stands = k.begin.ensures.stands c b (k.in_ok-alone-in-Ok-Ok.ensures.ready (sym sites))
          (answered.1 fault.DecidedTwice) (answered.1 fault.Ranks) begun (sym sites) refl refl;
      walks = k.new-walks.ensures c.decisions
          (k.in_ok-steps-in-Ok-Ok.ensures (subst IsCertificate (sym answered.0) spelled));
      sections = k.sections_of-sections.ensures.empty;
    }))

pub returns-in-Ok-Err-clause-begins : goal.returns-in-Ok-Err-clause-begins
returns-in-Ok-Err-clause-begins k line reading =
    let read = rw k.in-Ok.is at reading in
    let breaks = rw k.in-Ok-Err.field-0-is at k.in-Ok-Err.ensures in
    certificate-breaks k.args.second k.in-Ok.certificate line k.in-Ok-Err.fault read.0 read.1 breaks
