-- One more section behind those that were judged.
use Rattle.std.proofs.Common.{◌≡◌, ◌≢◌, ℕ, ◌+◌, ◌<◌, Bool, true, false, IsTrue, List, [], ◌∷◌, ◌++◌, length, Option, Some, refl, sym, ap, ◌∙◌, subst, arith, inl, inr, zero-add}
use Rattle.std.specs.Prelude.{◌↔◌, ◌&&◌, IfOk, Result, Ok, Err}
use Rattle.std.proofs.lemmas.Bool.{false≢true}
use Rattle.std.proofs.lemmas.List.{append-nil, length-append}
use Rattle.sgt_names.proofs.Lists.{front_at, middle_at}
use Rattle.sgt_notation.specs.declared.SectionLine.{SectionLine}
use Rattle.sgt_bundle.specs.Text.{section_lines, sections_from}
use Rattle.sgt_bundle.specs.declared.bundle.SiteLog.{SiteLog}
use Rattle.sgt_bundle.specs.declared.certificate.Certificate.{Certificate}
use Rattle.sgt_audit_cells.proofs.Doing.{get_cases}
use Rattle.sgt_audit.specs.declared.faults.Fault.{Fault}
use Rattle.sgt_audit.specs.declared.faults.Fault.TheVariants as fault
use Rattle.sgt_audit.specs.declared.verdict.Verdict.{Verdict}
use Rattle.sgt_audit.specs.declared.verdict.Verdict.TheVariants.{No}
use Rattle.sgt_audit.specs.Faults.{FirstFault}
use Rattle.sgt_audit.proofs.MayFollow.{sections-append}
use Rattle.sgt_audit_sections.specs.Sections.{AllStepsAreFound, AreFaultlessSections, IsFaultlessSection, OwnFault, StepsAreFound, front_text, lines_in_front}
use Rattle.sgt_audit_sections.specs.Judged.{IsWholeSection}
use Rattle.sgt_audit_sections.proofs.SectionFaults.{own-first, own-reach, missed-first, missed-reach, trailing-first, trailing-reach}
use Rattle.sgt_audit_workers.specs.declared.tally.Tally.{Tally}
use Rattle.sgt_audit_workers.specs.Tallies.{IsTally, IsVerdictBehind}

both : (a b : Bool) (P Q R : Type 0) → IsTrue a ↔ P → IsTrue b ↔ Q → (P → Q → R) → (R → P) → (R → Q)
    → IsTrue (a && b) ↔ R
both true b P Q R is are join left right = (λ h. join (is.0 refl) (are.0 h), λ r. are.1 (right r))
both false b P Q R is are join left right = (λ h. absurd (false≢true h), λ r. absurd (false≢true (is.1 (left r))))

module _ (second : Bool) (c : Certificate) (logs : List SiteLog) (old : Tally) (t : IsTally second c logs old)
    (bytes : List ℕ) where
  module _ (lines : ℕ) (met : Bool) (w : IsWholeSection second c (length logs) bytes lines met) where
    abbrev all : List SiteLog
    all = logs ++ w.log ∷ []

    faultless-more : AreFaultlessSections second c all
    faultless-more k log at =
        elim (get_cases logs w.log k log at) [
          | inl before ↦ t.faultless k log before
          | inr last ↦ subst (λ (g : SiteLog). IsFaultlessSection second c k g) last.1
              (subst (λ j. IsFaultlessSection second c j w.log) (sym last.0) w.faultless)
        ]

    lines-more : old.lines + lines ≡ lines_in_front all
    lines-more =
        let split = sections-append 0 logs (w.log ∷ [])
        ∙ ap (λ (ls : List SectionLine). sections_from 0 logs ++ ls)
        (append-nil (section_lines (0 + length logs) w.log)
        ∙ ap (λ j. section_lines j w.log) (zero-add (length logs))) in
        omega (
          arith,
          t.lines,
          w.count,
          ap length split,
          length-append (sections_from 0 logs) (section_lines (length logs) w.log),
        )

    found-front : AllStepsAreFound c.decisions all → AllStepsAreFound c.decisions logs
    found-front found k log at = found k log (front_at logs (w.log ∷ []) k log at)

    found-last : AllStepsAreFound c.decisions all → StepsAreFound c.decisions (length logs) w.log
    found-last found = found (length logs) w.log (middle_at logs w.log [])

    found-more : AllStepsAreFound c.decisions logs → StepsAreFound c.decisions (length logs) w.log
        → AllStepsAreFound c.decisions all
    found-more before here k log at =
        elim (get_cases logs w.log k log at) [
          | inl old_one ↦ before k log old_one
          | inr last ↦ subst (λ (g : SiteLog). StepsAreFound c.decisions k g) last.1
              (subst (λ j. StepsAreFound c.decisions j w.log) (sym last.0) here)
        ]

    pub more-tally : (new : Tally) → new.whole ≡ old.whole + 1 → new.lines ≡ old.lines + lines
        → new.met ≡ (old.met && met) → IsTally second c all new
    more-tally new whole counted is_met = record {
      certificate = t.certificate;
      faultless = faultless-more;
      whole = omega (arith, whole, t.whole, length-append logs (w.log ∷ []));
      lines = counted ∙ lines-more;
      met = subst (λ m. IsTrue m ↔ AllStepsAreFound c.decisions all) (sym is_met)
          (both old.met met (AllStepsAreFound c.decisions logs) (StepsAreFound c.decisions (length logs) w.log)
          (AllStepsAreFound c.decisions all) t.met w.steps found-more found-front found-last);
    }

  pub first-of : (few : length logs < c.sites) (more : List ℕ) (n : ℕ) (f : Fault)
      → OwnFault second c (length logs) (bytes ++ more) n f
      → FirstFault (front_text second c logs ++ (bytes ++ more)) (old.lines + n) f
  first-of few more n f own = subst (λ m. FirstFault (front_text second c logs ++ (bytes ++ more)) (m + n) f)
      (sym t.lines) (own-first second c logs (bytes ++ more) n f t.certificate t.faultless few own)

  -- at the end of the text
  pub last-own : (more : List ℕ) (n : ℕ) (f : Fault) → more ≡ [] → OwnFault second c (length logs) bytes n f
      → OwnFault second c (length logs) (bytes ++ more) n f
  last-own more n f none own = subst (λ (t : List ℕ). OwnFault second c (length logs) t n f) (sym (append-nil bytes)
      ∙ ap (λ (m : List ℕ). bytes ++ m) (sym none)) own

  pub behind-of : (few : length logs < c.sites) (more : List ℕ) (n : ℕ) (f : Fault)
      → OwnFault second c (length logs) (bytes ++ more) n f
      → IsVerdictBehind (front_text second c logs) (bytes ++ more) (No (old.lines + n) f)
  behind-of few more n f own = (
    first-of few more n f own,
    λ m g any. let far = own-reach second c logs (bytes ++ more) n m f g t.certificate t.faultless few own any in
        omega (arith, far),
  )

module _ (second : Bool) (c : Certificate) (logs : List SiteLog) (t : Tally) (is : IsTally second c logs t)
    (each : length logs ≡ c.sites) (more : List ℕ) where
  pub misses : t.met ≡ false → IsVerdictBehind (front_text second c logs) more (No t.lines fault.WalkStep)
  misses missed =
      let none = λ (found : AllStepsAreFound c.decisions logs). false≢true (sym missed ∙ is.met.1 found) in (
        subst (λ n. FirstFault (front_text second c logs ++ more) n fault.WalkStep) (sym is.lines)
            (missed-first second c logs is.certificate is.faultless each more none),
        λ m g any. missed-reach second c logs is.certificate is.faultless each more m g none any,
      )

  pub trails : (line : ℕ) → line ≡ t.lines + 1 → AllStepsAreFound c.decisions logs → more ≢ []
      → IsVerdictBehind (front_text second c logs) more (No line fault.Trailing)
  trails line same found some = (
    subst (λ n. FirstFault (front_text second c logs ++ more) n fault.Trailing) (ap (λ n. n + 1) (sym is.lines)
        ∙ sym same) (trailing-first second c logs is.certificate is.faultless each more found some),
    λ m g any. trailing-reach second c logs is.certificate is.faultless each more m g found some any,
  )

-- what an Ok is answered with
pub ok-adds : {E : Type 0} (r : Result (Option Verdict) E) (v : Verdict) (P : Option Verdict → Type 0)
    → IfOk r (λ found. found ≡ Some v) → P (Some v) → IfOk r P
ok-adds (Ok found) v P same p = subst P (sym same) p
ok-adds (Err e) v P same p = tt
