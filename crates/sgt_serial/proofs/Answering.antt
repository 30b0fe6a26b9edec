-- What was written where an answer was broken off.
use Rattle.std.proofs.Common.{◌≡◌, ℕ, List, Option, Some, None, [], refl, sym, subst, inl, inr}
use Rattle.sgt_names.specs.Device.{AppendsOrForgets, WritesFront}
use Rattle.sgt_names.specs.declared.outcome.EngineFail.{EngineFail}
use Rattle.sgt_names.specs.declared.outcome.EngineFail.TheVariants.{Memory, ReadFault, WriteFault}
use Rattle.sgt_names.specs.declared.outcome.Outcome.{Outcome}
use Rattle.sgt_names.specs.declared.outcome.Outcome.TheVariants.{Yes, No}
use Rattle.sgt_names.proofs.Devices.{wrote_nothing}
use Rattle.std.specs.Prelude.{IfSome}
use Rattle.sgt_bundle.specs.Parts.{Parts}
use Rattle.sgt_audit.specs.Verdict.{IsAudited, HandsOutValid, text_of}
use Rattle.sgt_audit.specs.declared.engine.Audited.{Audited}
use Rattle.sgt_audit.specs.declared.engine.Audited.TheVariants as audited
use Rattle.sgt_audit.specs.declared.faults.Fault.{Fault}
use Rattle.sgt_audit.specs.declared.verdict.Verdict.TheVariants as verdict
use Rattle.sgt_serial.specs.Answer.{IsAnswer, WroteAnswerFront}
use Rattle.sgt_serial.specs.Report.{report_of}
use Rattle.sgt_serial.specs.Text.{report_text}

-- with want of memory nothing was written, and where the writer failed a front of the answer
pub answered-front : (e : EngineFail) (told old new : Option (List ℕ)) (outcome : Outcome) (text : List ℕ)
    → IsAnswer told outcome text
    → (e ≡ Memory → new ≡ old) → (e ≡ ReadFault → ⊥) → (e ≡ WriteFault → WritesFront old new text)
    → WroteAnswerFront told old new
answered-front Memory told old new outcome text answer memory read write =
    inl (subst (λ held. AppendsOrForgets old held []) (sym (memory refl)) (wrote_nothing old))
answered-front ReadFault told old new outcome text answer memory read write = absurd (read refl)
answered-front WriteFault told old new outcome text answer memory read write = inr (outcome, text, answer, write refl)

pub no-answer : (told : Option (List ℕ)) (a : Audited) (line : ℕ) (fault : Fault) → a ≡ audited.No line fault
    → IfSome told (λ bytes. IsAudited bytes a)
    → IsAnswer told No (text_of (verdict.No line fault))
no-answer None a line fault is h = (line, fault, tt, refl)
no-answer (Some bytes) a line fault is h = (line, fault, subst (IsAudited bytes) is h, refl)
