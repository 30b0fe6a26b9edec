-- What holds of a call that went well, and of what it found.
use Rattle.std.proofs.Common.{◌≡◌, ◌≢◌, ℕ, List, [], ◌++◌, codes, inl, inr, subst}
use Rattle.std.specs.Prelude.{Result, Ok, Err, OnOk, OnErr, Option, Some, None, IfOk, IfSome, IsSomeAnd}
use Rattle.sgt_audit.specs.declared.verdict.Verdict.{Verdict}
use Rattle.sgt_audit.specs.declared.verdict.Verdict.TheVariants.{No}
use Rattle.sgt_audit.specs.declared.faults.Fault.TheVariants as fault
use Rattle.sgt_audit.specs.Faults.{FirstFault, bytes_of}
use Rattle.sgt_explain_lines.specs.Told.{read_text, final_text, Adds, ShowsLine}
use Rattle.sgt_explain_lines.specs.declared.values.Misvalued.{Misvalued}
use Rattle.sgt_explain_decisions.specs.Told.{rank_order_text}
use Rattle.sgt_explain_decisions.specs.declared.order.RanksShown.{RanksShown}
use Rattle.sgt_explain_steps.specs.Told.{walk_step_text}
use Rattle.sgt_explain_steps.specs.declared.unmet.Unmet.{Unmet}
use Rattle.sgt_explain.specs.Asked.{TellsAsked, TellsIfYes}
use Rattle.sgt_explain.specs.declared.asked.Asked.{Asked}
use Rattle.sgt_explain.specs.declared.asked.Explained.{Explained}
use Rattle.sgt_names.specs.declared.outcome.EngineFail.{EngineFail}
use Rattle.sgt_explain.specs.Explained.{Tells, MeansOf, IsExplained, IsExplainedBy, IsVerdictOn, WroteExplained, WroteExplainedBy, WroteExplainedByFront, WroteExplainedFront, WroteExplainedOf}
use Rattle.sgt_explain.specs.Shown.{lines_before, decisions_before, ShowsRead, ShowsFinal, ShowsRanks}
use Rattle.sgt_explain.specs.Steps.{ShowsStep}
use Rattle.sgt_explain.specs.Lines.{ShowsEnd}

pub on-ok : {T E P Q : Type 0} (r : Result T E) → (P → Q) → OnOk r P → OnOk r Q
on-ok (Ok t) f p = f p
on-ok (Err e) f p = tt

pub on-both : {T E : Type 0} (P Q : Type 0) (r : Result T E) → OnOk r P → OnOk r Q → OnOk r (P × Q)
on-both P Q (Ok t) p q = (p, q)
on-both P Q (Err e) p q = tt

-- what holds of a call that went well, by each of some facts
pub on-all : {T E F : Type 0} (P : F → Type 0) (r : Result T E) → ((f : F) → OnOk r (P f)) → OnOk r ((f : F) → P f)
on-all P (Ok t) each = each
on-all P (Err e) each = tt

pub ends-shown : {T E : Type 0} (r : Result T E) (line : List ℕ) (n : ℕ) (old new : List ℕ) → OnOk r (Adds (old ++ codes "Truncated: ") new)
    → (line ≢ [] → OnOk r (ShowsLine (codes "Truncated: ") n line old new)) → OnOk r (ShowsEnd line n old new)
ends-shown (Ok t) line n old new begins shown = record { begins = begins; shown = shown }
ends-shown (Err e) line n old new begins shown = tt

pub some-if : {A : Type 0} (P : A → Type 0) (o : Option A) (a : A) → o ≡ Some a → IfSome o P → P a
some-if P o a e h = subst (λ q. IfSome q P) e h

pub some-and : {A : Type 0} (P : A → Type 0) (o : Option A) (a : A) → o ≡ Some a → IsSomeAnd o P → P a
some-and P o a e h = subst (λ q. IsSomeAnd q P) e h

pub none-and : {A Q : Type 0} (P : A → Type 0) (o : Option A) → o ≡ None → IsSomeAnd o P → Q
none-and {A} {Q} P o e h = absurd (subst (λ q. IsSomeAnd q P) e h)

pub if-both : {T E : Type 0} {P Q R : T → Type 0} (r : Result T E) → ((t : T) → P t → Q t → R t) → IfOk r P → IfOk r Q
    → IfOk r R
if-both (Ok t) f p q = f t p q
if-both (Err e) f p q = tt

-- ---- what is told of what was found

pub tells-read : (bytes : List ℕ) (n : ℕ) (found : Option (ℕ × Misvalued)) (old new : List ℕ)
    → ((first : FirstFault bytes n fault.ReadValue)
    → IsSomeAnd found (λ m. ShowsRead (lines_before first.stage) (bytes_of first.next) m.0 m.1))
    → IfSome found (λ m. new ≡ old ++ read_text m.0 m.1) → Tells bytes (No n fault.ReadValue) old new
tells-read bytes n (Some m) old new shows text = λ first. (m.0, m.1, shows first, text)
tells-read bytes n None old new shows text = λ first. absurd (shows first)

pub tells-final : (bytes : List ℕ) (n : ℕ) (found : Option Misvalued) (old new : List ℕ)
    → ((first : FirstFault bytes n fault.Final)
    → IsSomeAnd found (ShowsFinal (lines_before first.stage) (bytes_of first.next)))
    → IfSome found (λ m. new ≡ old ++ final_text m) → Tells bytes (No n fault.Final) old new
tells-final bytes n (Some m) old new shows text = λ first. (m, shows first, text)
tells-final bytes n None old new shows text = λ first. absurd (shows first)

pub tells-ranks : (bytes : List ℕ) (n : ℕ) (found : Option RanksShown) (old new : List ℕ)
    → ((first : FirstFault bytes n fault.RankOrder)
    → IsSomeAnd found (ShowsRanks (decisions_before first.stage) (lines_before first.stage) (bytes_of first.next)
    n))
    → IfSome found (λ m. new ≡ old ++ rank_order_text m) → Tells bytes (No n fault.RankOrder) old new
tells-ranks bytes n (Some m) old new shows text = λ first. (m, shows first, text)
tells-ranks bytes n None old new shows text = λ first. absurd (shows first)

pub tells-step : (bytes : List ℕ) (n : ℕ) (found : Option Unmet) (old new : List ℕ)
    → ((first : FirstFault bytes n fault.WalkStep)
    → IsSomeAnd found (ShowsStep (decisions_before first.stage) (lines_before first.stage) (bytes_of first.next)))
    → IfSome found (λ u. new ≡ old ++ walk_step_text u) → Tells bytes (No n fault.WalkStep) old new
tells-step bytes n (Some u) old new shows text = λ first. (u, shows first, text)
tells-step bytes n None old new shows text = λ first. absurd (shows first)

-- ---- a text that was told, and more behind it

pub if-ok : {T E : Type 0} {P Q : T → Type 0} (r : Result T E) → ((t : T) → P t → Q t) → IfOk r P → IfOk r Q
if-ok (Ok t) f p = f t p
if-ok (Err e) f p = tt

pub means-both : (bytes : List ℕ) (asked : Asked) (v : Verdict) (told more meaning : List ℕ)
    → Tells bytes v [] told → TellsIfYes bytes asked v [] told → TellsAsked bytes v asked [] more
    → meaning ≡ told ++ more → MeansOf bytes asked v meaning
means-both bytes asked v told more meaning tells each dealings text = record {
  said = told;
  more = more;
  text = text;
  told = tells;
  cycles = each;
  dealings = dealings;
}

-- whatever was asked for
pub is-explained : (asked : Asked) (told : Option (List ℕ)) (v : Verdict) (front : List ℕ) (ended : Explained)
    (text : List ℕ) → IsVerdictOn told v front → IsExplainedBy asked front v ended text
    → IsExplained told ended.outcome text
is-explained asked told v front ended text on h = (v, front, h.0, on, (asked, h.1), h.3, h.4)

-- what was written of a front is the explanation of the bytes told
module _ (asked : Asked) (told : Option (List ℕ)) (v : Verdict) (front : List ℕ) (on : IsVerdictOn told v front)
    (old new : Option (List ℕ)) where
  pub wrote-of : (r : Result Explained EngineFail)
      → IfOk r (λ e. WroteExplainedBy asked front v e old new)
      → IfOk r (λ e. WroteExplainedOf asked told e old new)
  wrote-of (Ok e) (text, is, appends) = (text, (v, front, on, is), appends)
  wrote-of (Err fail) wrote = tt

  pub wrote-plain : (r : Result Explained EngineFail)
      → IfOk r (λ e. WroteExplainedBy asked front v e old new)
      → IfOk r (λ e. WroteExplained told e.outcome old new)
  wrote-plain (Ok e) (text, is, appends) = (text, is-explained asked told v front e text on is, appends)
  wrote-plain (Err fail) wrote = tt

  pub wrote-front : (r : Result Explained EngineFail) → OnErr r (WroteExplainedByFront asked front v old new)
      → OnErr r (WroteExplainedFront told old new)
  wrote-front (Ok e) wrote = tt
  wrote-front (Err fail) (inl none) = inl none
  wrote-front (Err fail) (inr (e, text, is, writes)) =
      inr (e.outcome, text, is-explained asked told v front e text on is, writes)
