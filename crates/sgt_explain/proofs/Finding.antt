-- Whether a text has a transaction.
use Rattle.std.proofs.Common.{◌≡◌, ◌≢◌, ◌↔◌, Bool, false, IsTrue, ℕ, List, [], Some, inl, inr, refl, sym, ap, ◌∙◌, subst}
use Rattle.std.proofs.lemmas.Bool.{true≢false}
use Rattle.std.proofs.lemmas.Option.{same_Some}
use Rattle.sgt_notation.specs.declared.SectionLine.{SectionLine}
use Rattle.sgt_bundle.specs.Text.{sections_from}
use Rattle.sgt_bundle.specs.declared.certificate.Certificate.{Certificate}
use Rattle.sgt_bundle.specs.declared.certificate.Decision.{Decision}
use Rattle.sgt_audit.specs.Verdict.{IsVerdict}
use Rattle.sgt_audit.specs.declared.verdict.Verdict.{Verdict}
use Rattle.sgt_audit.specs.declared.verdict.Verdict.TheVariants.{Yes, No}
use Rattle.sgt_explain_decisions.specs.Placed.{HasDecisionOn}
use Rattle.sgt_explain_transaction.specs.Dealings.{own_of}
use Rattle.sgt_explain.specs.Asked.{AreSeen, HasDecision, HasTransaction, HoldsCertificate}
use Rattle.sgt_explain.specs.Shown.{lines_before}

-- by the certificate that is known to be that of line 2
pub decided-held : (bytes : List ℕ) (tx : ℕ) (c : Certificate) (ds : List Decision) (decided : Bool) → ds ≡ c.decisions
    → HoldsCertificate bytes c → ((d : Certificate) → HoldsCertificate bytes d → Some c ≡ Some d)
    → IsTrue decided ↔ HasDecisionOn ds tx → IsTrue decided ↔ HasDecision bytes tx
decided-held bytes tx c ds decided same held only is = (
  λ true. (c, held, subst (λ k. HasDecisionOn k tx) same (is.0 true)),
  λ has.
      let one = same ∙ ap (λ (k : Certificate). k.decisions) (same_Some c has.0 (only has.0 has.1)) in
      is.1 (subst (λ k. HasDecisionOn k tx) (sym one) has.2),
)

-- the lines that are looked at
seen-of : (bytes : List ℕ) (v : Verdict) → IsVerdict bytes v → (lines : List SectionLine) × AreSeen bytes v lines
seen-of bytes (Yes committed refused withdrawn) is = (sections_from 0 is.0.sites, (is.0, is.1, refl))
seen-of bytes (No line f) first = (lines_before first.stage, (first, refl))

pub found-decided : (bytes : List ℕ) (v : Verdict) (tx : ℕ) (decided : Bool) → IsTrue decided
    → IsTrue decided ↔ HasDecision bytes tx → IsTrue decided ↔ HasTransaction bytes v tx
found-decided bytes v tx decided so is = (λ found. inl (is.0 so), λ there. so)

pub found-entry : (bytes : List ℕ) (v : Verdict) (tx : ℕ) (decided any : Bool) → decided ≡ false
    → IsTrue decided ↔ HasDecision bytes tx
    → ((lines : List SectionLine) → AreSeen bytes v lines → IsTrue any ↔ (own_of tx lines ≢ []))
    → IsVerdict bytes v → IsTrue any ↔ HasTransaction bytes v tx
found-entry bytes v tx decided any not is own verdict = (
  λ found. let seen = seen-of bytes v verdict in inr (seen.0, seen.1, (own seen.0 seen.1).0 found),
  λ has. elim has [
    | inl there ↦ absurd (true≢false (sym (is.1 there) ∙ not))
    | inr entry ↦ (own entry.0 entry.1).1 entry.2
  ],
)
