-- One more step of a cycle that is told, and one more decision.
use Rattle.std.proofs.Common.{◌≡◌, true, ℕ, suc, ◌+◌, List, [], ◌∷◌, ◌++◌, length, take, Option, Some, None, inl, inr, refl, sym, subst, ap, ◌∙◌, arith, append_assoc}
use Rattle.std.specs.Prelude.{Result, Ok, Err, IfOk, slice_get, is_some}
use Rattle.std.proofs.lemmas.List.{append-nil}
use Rattle.std.proofs.lemmas.Bool.{cases_order, false≢true}
use Rattle.std.proofs.lemmas.Option.{same_Some}
use Rattle.sgt_bundle.specs.declared.certificate.Step.{Step}
use Rattle.sgt_bundle.specs.declared.certificate.Decision.{Decision}
use Rattle.sgt_explain_lines.specs.declared.section.Logged.{Logged}
use Rattle.sgt_explain_decisions.specs.declared.sought.Sought.{Sought}
use Rattle.sgt_explain_decisions.specs.Cycles.{IsShownStep, Shows, step_text, TellsCycle, TellsRefusal, TellsCycles, AreShown}
use Rattle.sgt_notation.specs.declared.SectionLine.{SectionLine}
use Rattle.sgt_explain_lines.specs.Sited.{HasBefore}
use Rattle.sgt_explain_decisions.specs.Fate.{AreSoughtIn}
use Rattle.sgt_explain_decisions.specs.Sought.{last_stop, AreFound, AreFoundIn, WalksAreSought}

pub last_stop-next : (from : ℕ) (walk : List Step) (step : Step) → last_stop from (walk ++ step ∷ []) ≡ step.to
last_stop-next from [] step = refl
last_stop-next from (s ∷ walk) step = last_stop-next s.to walk step

pub cycle-next : (sought : Sought) (from : ℕ) (walk : List Step) (step : Step) (told : List ℕ)
    (shown : Option (Logged × Logged)) → TellsCycle sought from walk told
    → Shows sought (last_stop from walk) step shown
    → TellsCycle sought from (walk ++ step ∷ []) (told ++ step_text (last_stop from walk) step shown)
cycle-next sought from [] step told shown tells there = (
  shown,
  [],
  there,
  refl,
  ap (λ t. t ++ step_text from step shown) tells
      ∙ sym (append-nil (step_text from step shown)),
)
cycle-next sought from (s ∷ walk) step told shown tells there =
    let more = step_text (last_stop s.to walk) step shown in (
      tells.0,
      tells.1 ++ more,
      tells.2,
      cycle-next sought s.to walk step tells.1 shown tells.3 there,
      ap (λ t. t ++ more) tells.4 ∙ append_assoc (step_text from s tells.0) tells.1 more,
    )

pub cycles-next : (sought : Sought) (n : ℕ) (ds : List Decision) (d : Decision) (told one : List ℕ)
    → TellsCycles sought n ds told
    → TellsRefusal sought (n + length ds) d one → TellsCycles sought n (ds ++ d ∷ []) (told ++ one)
cycles-next sought n [] d told one tells refusal =
    let e : n + 0 ≡ n = omega arith in
    (one, [], subst (λ k. TellsRefusal sought k d one) e refusal, refl, ap (λ t. t ++ one) tells ∙ sym (append-nil one))
cycles-next sought n (e ∷ ds) d told one tells refusal =
    let same : n + suc (length ds) ≡ n + 1 + length ds = omega arith in (
      tells.0,
      tells.1 ++ one,
      tells.2,
      cycles-next sought (n + 1) ds d tells.1 one tells.3 (subst (λ k. TellsRefusal sought k d one) same refusal),
      ap (λ t. t ++ one) tells.4 ∙ append_assoc tells.0 tells.1 one,
    )

-- ---- which step isn't shown

pub shown-pair : (sought : Sought) (from : ℕ) (step : Step) (shown : Option (Logged × Logged))
    → Shows sought from step shown → is_some shown ≡ true
    → (two : Logged × Logged) × IsShownStep sought from step two.0 two.1
shown-pair sought from step (Some two) shows some = (two, shows.some)
shown-pair sought from step None shows some = absurd (false≢true some)

-- a step that is shown, behind others that are
pub shown-next : (sought : Sought) (tx from place : ℕ) (walk : List Step) (step : Step) (two : Logged × Logged)
    → slice_get walk place ≡ Some step → from ≡ last_stop tx (take place walk)
    → IsShownStep sought from step two.0 two.1 → AreShown sought tx walk place → AreShown sought tx walk (place + 1)
shown-next sought tx from place walk step two at is shown before q s less at' =
    elim (cases_order q place) [
      | inl here ↦ (let same = same_Some step s (sym at ∙ ap (slice_get walk) (sym here) ∙ at') in
          let own = subst (λ k. IsShownStep sought k step two.0 two.1) is shown in
          let there = subst (λ n. IsShownStep sought (last_stop tx (take n walk)) step two.0 two.1) (sym here) own in (
            two.0,
            two.1,
            subst (λ (t : Step). IsShownStep sought (last_stop tx (take q walk)) t two.0 two.1) same
                there,
          ))
      | inr (inl earlier) ↦ before q s earlier at'
      | inr (inr later) ↦ absurd (omega (arith, less, later))
    ]

-- ---- what is sought

pub sought-whole : {E : Type 0} (r : Result Sought E) (decisions : List Decision) (bytes : List ℕ) → IfOk r AreFound
    → IfOk r (λ s. WalksAreSought s decisions (length decisions))
    → ((lines : List SectionLine) → HasBefore bytes 18446744073709551615 lines
    → IfOk r (AreFoundIn lines (length lines))) → IfOk r (AreSoughtIn decisions bytes)
sought-whole (Ok s) decisions bytes found walks lines = record { found = found; walks = walks; lines = lines }
sought-whole (Err e) decisions bytes found walks lines = tt
