-- Which answer is told: the first fault, or the first reason that the logs have.
use Rattle.std.proofs.Common.{◌≡◌, ℕ, List, ◌++◌, Some, refl, sym, ap, ap₂, ◌∙◌, subst, inl, inr, arith}
use Rattle.std.specs.Prelude.{◌↔◌, slice_get}
use Rattle.std.proofs.lemmas.Option.{same_Some}
use Rattle.sgt_names.specs.declared.outcome.Outcome.{Outcome}
use Rattle.sgt_names.specs.declared.outcome.Outcome.TheVariants.{Yes, No, Unreadable}
use Rattle.sgt_bundle.specs.declared.bundle.SiteLog.{SiteLog}
use Rattle.sgt_audit.specs.Faults.{fault_number}
use Rattle.sgt_audit.specs.declared.faults.Fault.{Fault}
use Rattle.sgt_certify_faults.specs.Faults.{IsFaultless, IsFirstFault}
use Rattle.sgt_certify_faults.proofs.NoCertificate.{fault-none}
use Rattle.sgt_certify_logs.specs.Certifiable.{AreCertifiable, SpellsLogs}
use Rattle.sgt_certify_logs.proofs.Cycles.{conflicts-no_cycle, ends-no_cycle}
use Rattle.sgt_certify_logs.proofs.Inserted.{logs-one}
use Rattle.sgt_certify_logs.proofs.Stuck.{stuck-none}
use Rattle.sgt_certify.specs.Answer.{Excludes, IsAnswer, IsCertified, IsFaulty, IsFirst, IsReason, IsRefused, Refuses, fault_text, refusal_text}
use Rattle.sgt_certify.specs.declared.refuting.Refusal.{Refusal}
use Rattle.sgt_certify.specs.declared.refuting.Refusal.TheVariants.{Order, Ranks, Walk}

-- ---- the texts tell the refusals apart

-- the fourth byte
abbrev mark : Refusal → ℕ
mark Order = 111
mark Ranks = 114
mark Walk = 119

mark_at : (r : Refusal) (lines : List ℕ) → slice_get (refusal_text r ++ lines) 3 ≡ Some (mark r)
mark_at Order lines = refl
mark_at Ranks lines = refl
mark_at Walk lines = refl

same_mark : (r s : Refusal) → mark r ≡ mark s → r ≡ s
same_mark Order Order e = refl
same_mark Ranks Ranks e = refl
same_mark Walk Walk e = refl
same_mark Order Ranks e = absurd (omega (arith, e))
same_mark Order Walk e = absurd (omega (arith, e))
same_mark Ranks Order e = absurd (omega (arith, e))
same_mark Ranks Walk e = absurd (omega (arith, e))
same_mark Walk Order e = absurd (omega (arith, e))
same_mark Walk Ranks e = absurd (omega (arith, e))

same_refusal : (r s : Refusal) (a b : List ℕ) → refusal_text r ++ a ≡ refusal_text s ++ b → r ≡ s
same_refusal r s a b e =
    same_mark r s (same_Some (mark r) (mark s) (sym (mark_at r a) ∙ ap (λ (t : List ℕ). slice_get t 3) e ∙ mark_at s b))

-- ---- a reason, and no other

reason-from : (r : Refusal) (sites : List SiteLog) → Excludes r sites → IsFirst r sites → IsReason r sites
reason-from Order sites shown first = shown
reason-from Ranks sites shown first = (first, shown)
reason-from Walk sites shown first = (first.0, first.1, stuck-none sites shown.0 shown.1)

one_reason : (r s : Refusal) (sites : List SiteLog) → IsReason r sites → IsReason s sites → r ≡ s
one_reason Order Order sites a b = refl
one_reason Ranks Ranks sites a b = refl
one_reason Walk Walk sites a b = refl
one_reason Order Ranks sites a b = absurd (b.0 a)
one_reason Order Walk sites a b = absurd (b.0 a)
one_reason Ranks Order sites a b = absurd (a.0 b)
one_reason Ranks Walk sites a b = absurd (b.1 a.1)
one_reason Walk Order sites a b = absurd (a.0 b)
one_reason Walk Ranks sites a b = absurd (a.1 b.1)

reason-none : (r : Refusal) (sites : List SiteLog) → IsReason r sites → AreCertifiable sites → ⊥
reason-none Order sites is = ends-no_cycle sites is
reason-none Ranks sites is = conflicts-no_cycle sites is.1
reason-none Walk sites is = is.2

-- ---- which is told

module _ (bytes text : List ℕ) (sites : List SiteLog) (faultless : IsFaultless bytes) (logs : SpellsLogs bytes sites)
  where
    reason-of : (is : IsRefused bytes text) → IsReason is.refusal sites
    reason-of is =
        subst (IsReason is.refusal) (logs-one bytes is.sites sites is.logs logs)
        (reason-from is.refusal is.sites is.shown is.first)

    refused-exact : (r : Refusal) (is : IsRefused bytes text) → (Refuses r No text ↔ IsReason r sites)
    refused-exact r is = (
      λ told. subst (λ (s : Refusal). IsReason s sites) (same_refusal is.refusal r is.lines told.1.0 (sym is.told
          ∙ told.1.1)) (reason-of is),
      λ reason. (
        refl,
        (
          is.lines,
          is.told
              ∙ ap (λ (s : Refusal). refusal_text s ++ is.lines) (one_reason is.refusal r sites (reason-of is) reason),
        ),
      ),
    )

    certified-exact : (r : Refusal) → IsCertified bytes text → (Refuses r Yes text ↔ IsReason r sites)
    certified-exact r is = (
      λ told. let no = told.0 in absurd cc,
      λ reason. absurd (reason-none r sites reason
          (subst AreCertifiable (logs-one bytes is.bundle.sites sites is.logs logs) (is.bundle.certificate, is.valid))),
    )

    reason-exact : (outcome : Outcome) (r : Refusal) → IsAnswer bytes outcome text
        → (Refuses r outcome text ↔ IsReason r sites)
    reason-exact Yes r is = certified-exact r is
    reason-exact No r (inl is) = refused-exact r is
    reason-exact No r (inr is) = absurd (faultless is.line is.fault is.shown.has)
    reason-exact Unreadable r is = absurd is

pub reason-told : (bytes text : List ℕ) (outcome : Outcome) (sites : List SiteLog) (refusal : Refusal)
    → IsAnswer bytes outcome text → IsFaultless bytes
    → SpellsLogs bytes sites → (Refuses refusal outcome text ↔ IsReason refusal sites)
reason-told bytes text outcome sites refusal is faultless logs =
    reason-exact bytes text sites faultless logs outcome refusal is

-- the first fault is one
faulty-told : (bytes text : List ℕ) (line : ℕ) (fault : Fault) → IsFaulty bytes text → IsFirstFault bytes line fault
    → text ≡ fault_text line (fault_number fault)
faulty-told bytes text line fault is first =
    let low = is.shown.first line fault first.has in
    let high = first.first is.line is.fault is.shown.has in
    let lines : is.line ≡ line = omega (arith, low, high) in
    let here = subst (λ n. IsFirstFault bytes n is.fault) lines is.shown in
    let least = here.least fault first.has in
    let less = first.least is.fault here.has in
    let numbers : fault_number is.fault ≡ fault_number fault = omega (arith, least, less) in
    is.told ∙ ap₂ fault_text lines numbers

pub fault-told : (bytes text : List ℕ) (outcome : Outcome) (line : ℕ) (fault : Fault) → IsAnswer bytes outcome text
    → IsFirstFault bytes line fault
    → (outcome ≡ No) × (text ≡ fault_text line (fault_number fault))
fault-told bytes text Yes line fault is first =
    absurd (fault-none bytes line fault first.has is.bundle.sites is.logs (is.bundle.certificate, is.valid))
fault-told bytes text No line fault (inl is) first = absurd (is.faultless line fault first.has)
fault-told bytes text No line fault (inr is) first = (refl, faulty-told bytes text line fault is first)
fault-told bytes text Unreadable line fault is first = absurd is
