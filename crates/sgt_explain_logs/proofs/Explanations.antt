-- An explanation of bytes that were read.
use Rattle.std.proofs.Common.{◌≡◌, ◌↔◌, ℕ, List, length, Bool, true, false, IsTrue, Option, Some, None, Result, Ok, Err, IfOk, inl, inr, subst, sym, ◌∙◌}
use Rattle.std.specs.Prelude.{IfSome, OnErr}
use Rattle.std.proofs.lemmas.Bool.{true≢false}
use Rattle.sgt_names.specs.declared.outcome.EngineFail.{EngineFail}
use Rattle.sgt_audit.specs.Faults.{BeginsNoneBehind}
use Rattle.sgt_audit.specs.declared.verdict.Verdict.{Verdict}
use Rattle.sgt_explain.specs.Asked.{transaction_in}
use Rattle.sgt_explain.specs.Explained as bundle
use Rattle.sgt_explain.specs.declared.asked.Asked.{Asked}
use Rattle.sgt_explain.specs.declared.asked.Explained.{Explained}
use Rattle.sgt_explain.proofs.Telling.{wrote-front}
use Rattle.sgt_explain_logs.specs.Either.{WroteExplanation, WroteExplanationFront}
use Rattle.sgt_explain_logs.specs.Explained.{AreLogs, IsFound}
use Rattle.sgt_explain_logs.specs.Explained as logs
use Rattle.sgt_explain_logs.specs.Taken.{AreReadOf, BeganInTime}
use Rattle.sgt_explain_logs.specs.declared.taking.Logs.{Logs}

-- what was tested and isn't so does not hold
pub refuted : {P : Type 0} (r : Bool) → IsTrue r ↔ P → r ≡ false → P → ⊥
refuted r both miss p = true≢false (sym (both.1 p) ∙ miss)

-- what the bytes told are, by a test
pub are-told : (told : Option (List ℕ)) (r : Bool) → r ≡ true → IfSome told (λ bytes. IsTrue r ↔ AreLogs bytes)
    → IfSome told AreLogs
are-told None r is both = tt
are-told (Some bytes) r is both = both.0 is

pub other-told : (told : Option (List ℕ)) (r : Bool) → r ≡ false → IfSome told (λ bytes. IsTrue r ↔ AreLogs bytes)
    → IfSome told (λ bytes. AreLogs bytes → ⊥)
other-told None r miss both = tt
other-told (Some bytes) r miss both = refuted r both miss

-- ---- of logs that were read

module _ (told : Option (List ℕ)) (taken : Logs) (read : IfSome told (λ bytes. AreReadOf bytes taken)) where
  told-found : IfSome told AreLogs → (asked : Option ℕ) (found : Bool)
      → ((bytes : List ℕ) → AreReadOf bytes taken → IsFound bytes asked found)
      → IfSome told (λ bytes. AreLogs bytes × IsFound bytes asked found)
  told-found are asked found is = go told read are
    where
      go : (told : Option (List ℕ)) → IfSome told (λ bytes. AreReadOf bytes taken) → IfSome told AreLogs
          → IfSome told (λ bytes. AreLogs bytes × IsFound bytes asked found)
      go None read are = tt
      go (Some bytes) read are = (are, is bytes read)

  pub logs-wrote : IfSome told AreLogs → (old new : Option (List ℕ)) (asked : Asked) (tx : Option ℕ)
      → tx ≡ transaction_in asked → (r : Result Explained EngineFail)
      → IfOk r (λ e. logs.WroteExplained told e.outcome old new)
      → ((bytes : List ℕ) → AreReadOf bytes taken → IfOk r (λ e. IsFound bytes tx e.is_found))
      → IfOk r (λ e. WroteExplanation asked told e old new)
  logs-wrote are old new asked tx e (Ok ended) (text, is, appends) found = (
    text,
    inl (
      told-found are (transaction_in asked) ended.is_found
          (λ bytes there. subst (λ (o : Option ℕ). IsFound bytes o ended.is_found) e (found bytes there)),
      is,
    ),
    appends,
  )
  logs-wrote are old new asked tx e (Err fail) wrote found = tt

  -- what is so of the bytes that were read is so of those told
  pub logs-told : {A : Type 0} (r : Result A EngineFail) (P : A → List ℕ → Type 0)
      → ((bytes : List ℕ) → AreReadOf bytes taken → IfOk r (λ a. P a bytes))
      → IfOk r (λ a. IfSome told (λ bytes. AreLogs bytes → P a bytes))
  logs-told (Err fail) P is = tt
  logs-told {A} (Ok a) P is = go told read
    where
      go : (told : Option (List ℕ)) → IfSome told (λ bytes. AreReadOf bytes taken)
          → IfSome told (λ bytes. AreLogs bytes → P a bytes)
      go None read = tt
      go (Some bytes) read = λ are. is bytes read

-- of what isn't logs nothing is said of them
pub never-logs : {A : Type 0} (r : Result A EngineFail) (told : Option (List ℕ)) (P : A → List ℕ → Type 0)
    → IfSome told (λ bytes. AreLogs bytes → ⊥) → IfOk r (λ a. IfSome told (λ bytes. AreLogs bytes → P a bytes))
never-logs (Err fail) told P other = tt
never-logs (Ok a) None P other = tt
never-logs (Ok a) (Some bytes) P other = λ are. absurd (other are)

-- ---- of a bundle, by the front that its verdict is told of

module _ (asked : Asked) (told : Option (List ℕ)) (v : Verdict) (front : List ℕ)
    (on : bundle.IsVerdictOn told v front) (old new : Option (List ℕ)) where
  pub bundle-wrote : IfSome told (λ bytes. AreLogs bytes → ⊥) → (r : Result Explained EngineFail)
      → IfOk r (λ e. bundle.WroteExplainedBy asked front v e old new)
      → IfOk r (λ e. WroteExplanation asked told e old new)
  bundle-wrote other (Ok e) (text, is, appends) = (text, inr (other, (v, front, on, is)), appends)
  bundle-wrote other (Err fail) wrote = tt

  turned : (r : Result Explained EngineFail) → OnErr r (bundle.WroteExplainedFront told old new)
      → OnErr r (WroteExplanationFront told old new)
  turned (Ok e) wrote = tt
  turned (Err fail) wrote = inr wrote

  pub bundle-front : (r : Result Explained EngineFail) → OnErr r (bundle.WroteExplainedByFront asked front v old new)
      → OnErr r (WroteExplanationFront told old new)
  bundle-front r wrote = turned r (wrote-front asked told v front on old new r wrote)

-- ---- how far was read

abbrev pub StopsThere : (told now : Option (List ℕ)) (last : ℕ) → Type 0
StopsThere told now last = IfSome told
    (λ bytes. (AreLogs bytes → ⊥) → IfSome now (λ left. BeginsNoneBehind bytes (length left) last))

pub stops-other : {A E : Type 0} (r : Result A E) (told now : Option (List ℕ)) (last : ℕ)
    → IfSome told (λ bytes. IfSome now (λ left. BeginsNoneBehind bytes (length left) last))
    → IfOk r (λ _. StopsThere told now last)
stops-other (Err fail) told now last h = tt
stops-other (Ok a) None now last h = tt
stops-other (Ok a) (Some bytes) now last h = λ other. h

pub stops-logs : {A E : Type 0} (r : Result A E) (told now : Option (List ℕ)) (last : ℕ) → IfSome told AreLogs
    → IfOk r (λ _. StopsThere told now last)
stops-logs (Err fail) told now last are = tt
stops-logs (Ok a) None now last are = tt
stops-logs (Ok a) (Some bytes) now last are = λ other. absurd (other are)

-- of logs little is read behind the line with the first fault
pub soon-logs : {A : Type 0} (r : Result A EngineFail) (told now : Option (List ℕ)) (last : ℕ)
    → IfSome told (λ bytes. IfSome now (λ left. BeganInTime bytes (length left) last))
    → IfOk r (λ _. IfSome told
    (λ bytes. AreLogs bytes → IfSome now (λ left. BeganInTime bytes (length left) last)))
soon-logs (Err fail) told now last soon = tt
soon-logs (Ok a) None now last soon = tt
soon-logs (Ok a) (Some bytes) now last soon = λ are. soon
