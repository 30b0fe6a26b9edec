-- The lines of the next ends, by whatever says who is decided.
use Rattle.std.proofs.Common.{◌≡◌, refl, ℕ, List, [], ◌∷◌, Option, Some, None, IfSome, IfNone, suc, inl, inr}
use Rattle.sgt_bundle.specs.declared.bundle.SiteLog.{SiteLog}
use Rattle.sgt_certify.specs.Lines.{AreLeftLines, IsLeftLine}
use Rattle.sgt_names.proofs.Elements.{some-weaker, none-weaker}

module _ (sites : List SiteLog) (D E : ℕ → Type 0) (to : (t : ℕ) → D t → E t) (from : (t : ℕ) → E t → D t) where
  line-as : (site : ℕ) (log : SiteLog) (line : List ℕ) → IsLeftLine sites D site log line
      → IsLeftLine sites E site log line
  line-as site log line (inl (place, e, next, is)) = inl (
    place,
    e,
    record {
      at = next.at;
      end = next.end;
      left = λ decided. next.left (from _ decided);
      before = λ k f lt at end. to _ (next.before k f lt at end);
    },
    is,
  )
  line-as site log line (inr (all, is)) = inr (λ k f lt at end. to _ (all k f lt at end), is)

  pub lines-as : (site : ℕ) (logs : List SiteLog) (text : List ℕ) → AreLeftLines sites D site logs text
      → AreLeftLines sites E site logs text
  lines-as site [] text is = is
  lines-as site (log ∷ logs) text (line, rest, one, others, is) =
      (line, rest, line-as site log line one, lines-as (suc site) logs rest others, is)

-- what holds where there is none
pub none-of : {A : Type 0} (o : Option A) (P : Type 0) → ((x : A) → o ≡ Some x → ⊥) → IfNone o P → P
none-of None P never h = h
none-of (Some x) P never h = absurd (never x refl)
