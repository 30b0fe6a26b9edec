-- A text whose sections have no fault, and where each step of a walk is found, spells a valid bundle.
use Rattle.std.proofs.Common.{◌≡◌, ℕ, Bool, List, [], ◌∷◌, ◌++◌, length, Some, refl, sym, ◌∙◌, subst, Contains}
use Rattle.std.specs.Prelude.{slice_get}
use Rattle.std.proofs.lemmas.List.{append-nil}
use Rattle.sgt_names.proofs.Places.{All_at, All-from_at}
use Rattle.sgt_notation.specs.declared.SectionLine.{SectionLine}
use Rattle.sgt_notation.specs.declared.SectionLine.TheVariants.{End}
use Rattle.sgt_bundle.specs.Valid.{AreLogged}
use Rattle.sgt_bundle.specs.Text.{sections_from, AreSections}
use Rattle.sgt_bundle.specs.declared.bundle.SiteLog.{SiteLog}
use Rattle.sgt_bundle.specs.declared.certificate.Certificate.{Certificate}
use Rattle.sgt_bundle.specs.declared.certificate.Decision.TheVariants.{Refuse}
use Rattle.sgt_bundle.specs.declared.certificate.Step.{Step}
use Rattle.sgt_bundle.proofs.OneText.{sections-one}
use Rattle.sgt_audit_decisions.specs.Steps.{edges_in}
use Rattle.sgt_audit_decisions.specs.declared.steps.Edge.{Edge}
use Rattle.sgt_audit.specs.declared.faults.Fault.TheVariants as fault
use Rattle.sgt_audit.specs.Faults.{AllKept, Keeps}
use Rattle.sgt_audit.specs.Kept.{IsMet}
use Rattle.sgt_audit.specs.Verdict.{IsVerdict, yes_of}
use Rattle.sgt_audit.proofs.LoggedConflicts.{met-walks}
use Rattle.sgt_audit.proofs.NoFault.{bundle_of, spells-bundle, valid-bundle}
use Rattle.sgt_audit_sections.specs.Sections.{AllStepsAreFound, AreFaultlessSections, IsFaultlessCertificate, front_text}
use Rattle.sgt_audit_sections.proofs.SectionFaults.{all-kept, sections-below, shaped}

module _ (second : Bool) (c : Certificate) (logs : List SiteLog) (good : IsFaultlessCertificate c)
    (kept : AreFaultlessSections second c logs) (each : length logs ≡ c.sites) where
  abbrev lines : List SectionLine
  lines = sections_from 0 logs

  walks : AllStepsAreFound c.decisions logs → (tx : ℕ) (walk : List Step) → Contains c.decisions (Refuse tx walk)
      → AreLogged logs tx walk
  walks found =
      met-walks c logs good.spelled each (All-from_at (λ (e : Edge). (log : SiteLog)
      → slice_get logs e.step.label.site ≡ Some log → IsMet log.entries e) (edges_in c.decisions)
      (λ n e at log here.
      All_at (λ (f : Edge). f.step.label.site ≡ e.step.label.site → IsMet log.entries f) (edges_in c.decisions) n e
      (found e.step.label.site log here) at refl))

  walks-keep : AllStepsAreFound c.decisions logs → (earlier : List SectionLine) → lines ≡ earlier ++ End ∷ []
      → Keeps c earlier End fault.WalkStep
  walks-keep found earlier cut ms len same tx walk in_it =
      let one = sections-one 0 logs ms [] [] (each ∙ sym len) (append-nil lines ∙ cut ∙ sym same
      ∙ sym (append-nil (sections_from 0 ms))) in
      subst (λ ls. AreLogged ls tx walk) one.0 (walks found tx walk in_it)

  all : AreSections c.sites lines
  all = (
    logs,
    record { some = good.spelled.0; few = good.spelled.1; each = each; logs = shaped second c logs kept },
    refl,
  )

  no-fault : AllStepsAreFound c.decisions logs → AllKept second c lines
  no-fault found = all-kept second c good lines (sections-below second c logs kept) (walks-keep found)

  pub yes : AllStepsAreFound c.decisions logs → IsVerdict (front_text second c logs) (yes_of c.decisions)
  yes found =
      let text = front_text second c logs in (
        bundle_of text second c lines (no-fault found) all refl,
        spells-bundle text second c lines (no-fault found) all refl,
        valid-bundle text second c lines (no-fault found) all refl,
        refl,
      )
