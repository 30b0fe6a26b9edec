-- Each event has an answer, and so each list of events a run.
use Rattle.std.proofs.Common.{ℕ, List, [], ◌∷◌, refl, inl, inr}
use Rattle.std.specs.Prelude.{All}
use Rattle.std.proofs.lemmas.List.Elements.{All-cons, All-nil}
use Rattle.sgt_names.specs.declared.entry.Holding.{Holding}
use Rattle.sgt_notation.specs.declared.event.Event.{Event}
use Rattle.sgt_notation.specs.declared.event.Event.TheVariants.{Begin, Read, Put, Add, Gather, Decide, Install, Commit, Withdraw, Close}
use Rattle.sgt_core_model.specs.declared.reply.Reply.{Reply}
use Rattle.sgt_core_model.specs.declared.reply.Reply.TheVariants.{Fault}
use Rattle.sgt_core_model.specs.declared.reply.CoreFault.{CoreFault}
use Rattle.sgt_core_model.specs.declared.reply.CoreFault.TheVariants as fault
use Rattle.sgt_core_model.specs.Core.{CoreState, fresh, touched}
use Rattle.sgt_core_model.specs.Step.{IsRefused, IsAllowed, Serves, ServesAll, parts_of_decision, replies_of_decision, MayDecide, MayStep, Run}
use Rattle.sgt_core_model.specs.Runs.{IsAnswer, IsMemory}
use Rattle.sgt_core_model.proofs.Kept.{IsKept}
use Rattle.sgt_core_model.proofs.Runs.{may_step-kept, fresh-kept}
use Rattle.sgt_core_model.proofs.Faults.{allowed_or_refused, no_memory}
use Rattle.sgt_core_model.proofs.Going.{IsPart, goes_on}
use Rattle.sgt_core_model.proofs.Committing.{commits}

pub no_fault : (c : CoreState) (event : Event) (f : CoreFault) (new : CoreState) → Serves c event (Fault f) new → ⊥
no_fault c Begin f new s = s.1
no_fault c (Read tx n x) f new s = s.1
no_fault c (Put tx n x v) f new s = s.1
no_fault c (Add tx n x v) f new s = s.1
no_fault c (Gather tx n) f new s = s.1
no_fault c (Decide tx) f new s = s.1
no_fault c (Install tx n) f new s = s.1
no_fault c (Commit tx) f new s = s.1
no_fault c (Withdraw tx) f new s = s.1
no_fault c Close f new s = s.1

unfoldable pub served_answer : (c : CoreState) (event : Event) (reply : Reply) (new : CoreState)
    → Serves c event reply new → IsAnswer reply
served_answer c event (Fault f) new s = no_fault c event f new s
served_answer c event _ new s = tt

unfoldable pub part-may : (c : CoreState) (event : Event) (reply : Reply) (new : CoreState) → IsPart event
    → Serves c event reply new → MayStep c event reply new
part-may c (Commit tx) reply new part s = absurd part
part-may c event (Fault f) new part s = absurd (no_fault c event f new s)
part-may c event reply new part s = s

unfoldable pub part-answered : (c : CoreState) (event : Event) → IsKept c → IsPart event → IsAllowed c event
    → (reply : Reply) × (new : CoreState) × MayStep c event reply new × IsAnswer reply
part-answered c event k part allowed =
    let r = goes_on c event k part allowed in
    (r.0, r.1, part-may c event r.0 r.1 part r.2, served_answer c event r.0 r.1 r.2)

-- an allowed event has an answer that is no refusal
unfoldable pub allowed-answered : (c : CoreState) (event : Event) → IsKept c → IsAllowed c event
    → (reply : Reply) × (new : CoreState) × MayStep c event reply new × IsAnswer reply
allowed-answered c (Commit tx) k allowed = commits c tx k allowed
allowed-answered c event k allowed = part-answered c event k tt allowed

unfoldable pub refused-answered : (c : CoreState) (event : Event) (f : CoreFault) → IsRefused c event f
    → MayStep c event (Fault f) c
refused-answered c event fault.Memory r = absurd (no_memory c event r.0)
refused-answered c event f r = (r, refl)

pub answer-no_memory : (r : Reply) → IsAnswer r → IsMemory r → ⊥
answer-no_memory (Fault f) answer memory = absurd answer
answer-no_memory r answer memory = memory

pub refused-no_memory : (c : CoreState) (event : Event) (f : CoreFault) → IsRefused c event f → IsMemory (Fault f) → ⊥
refused-no_memory c event fault.Memory r memory = no_memory c event r.0
refused-no_memory c event f r memory = memory

-- an event has a reply other than want of memory
unfoldable pub answered : (c : CoreState) (event : Event) → IsKept c
    → (reply : Reply) × (new : CoreState) × MayStep c event reply new × (IsMemory reply → ⊥)
answered c event k = elim (allowed_or_refused c event) [
  | inl allowed ↦ let r = allowed-answered c event k allowed in (r.0, r.1, r.2, answer-no_memory r.0 r.3)
  | inr refused ↦ (
    Fault refused.0,
    c,
    refused-answered c event refused.0 refused.1,
    refused-no_memory c event refused.0 refused.1,
  )
]

-- each list of events has a run without want of memory
unfoldable pub plays : (c : CoreState) (events : List Event) → IsKept c
    → (replies : List Reply) × (new : CoreState) × Run c events replies new × All (λ r. IsMemory r → ⊥) replies
plays c [] k = ([], c, refl, All-nil (λ r. IsMemory r → ⊥))
plays c (event ∷ events) k =
    let r = answered c event k in
    let rest = plays r.1 events (may_step-kept c event r.0 r.1 k r.2) in
    (r.0 ∷ rest.0, rest.1, (r.1, r.2, rest.2), All-cons (λ q. IsMemory q → ⊥) r.0 rest.0 r.3 rest.3)

-- from sites where nothing has happened
unfoldable pub played : (items : List (List Holding)) (events : List Event)
    → (replies : List Reply) × (new : CoreState) × Run (fresh items) events replies new × All (λ r. IsMemory r
    → ⊥) replies
played items events = plays (fresh items) events (fresh-kept items)

-- ---- a decision as a whole

decides_run : (c : CoreState) (tx : ℕ) (sites : List ℕ) (reply : Reply) (d : CoreState)
    → ServesAll c (parts_of_decision sites tx) (replies_of_decision sites reply) d
    → Run c (parts_of_decision sites tx) (replies_of_decision sites reply) d
decides_run c tx [] reply d a = (a.0, part-may c (Decide tx) reply a.0 tt a.1, a.2)
decides_run c tx (s ∷ ss) reply d a = (a.0, a.1, decides_run a.0 tx ss reply d a.2)

-- it is a run of its gathers and its decision, or refused as a commit is
pub decision-run : (c : CoreState) (tx : ℕ) (reply : Reply) (d : CoreState) → MayDecide c tx reply d → IsAnswer reply
    → Run c (parts_of_decision (touched c tx) tx) (replies_of_decision (touched c tx) reply) d
decision-run c tx (Fault f) d h answer = absurd answer
decision-run c tx reply d h answer = decides_run c tx (touched c tx) reply d h.1

pub decision-refused : (c : CoreState) (tx : ℕ) (reply : Reply) (d : CoreState) → MayDecide c tx reply d
    → (IsAnswer reply → ⊥) → MayStep c (Commit tx) reply d
decision-refused c tx (Fault fault.Memory) d h out = h
decision-refused c tx (Fault f) d h out = h
decision-refused c tx reply d h out = absurd (out tt)
