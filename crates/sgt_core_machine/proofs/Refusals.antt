-- When events are refused: each fault, the least number first, and events after a refusal go on.
use Rattle.std.proofs.Common.{◌≡◌, ◌^◌, ◌-◌, ℕ, [], ◌∷◌, refl, sym, ◌∙◌, ap, Option, Some, None}
use Rattle.sgt_names.specs.declared.entry.Entry.TheVariants as entry
use Rattle.sgt_certifier.specs.Certifier.{State, opening, with_begun}
use Rattle.sgt_notation.specs.declared.event.Event.TheVariants.{Begin, Read, Put, Add, Gather, Decide, Install as Write, Commit, Withdraw, Close}
use Rattle.sgt_core_model.specs.declared.reply.Reply.TheVariants.{Begun, Value, Kept, Gathered, Yes, Installed, Withdrawn, Closed, Fault}
use Rattle.sgt_core_model.specs.declared.reply.CoreFault.TheVariants as fault
use Rattle.sgt_core_model.specs.Core.{CoreState, OpenStep, fresh, look}
use Rattle.sgt_core_model.specs.Step.{IsRefused, IsAllowed, MayStep}
use Rattle.sgt_core_model.proofs.Faults.{first_told, none_told}
use Rattle.sgt_core_model.proofs.Examples.{x, y, both, apart, single, Played, play}

-- ---- whole runs

abbrev refused_events : Played
refused_events =
    play single (Begin ∷ Close ∷ Read 9 0 x ∷ Read 1 0 y ∷ Put 1 0 x 6 ∷ Gather 1 0 ∷ Decide 1 ∷ Begin ∷ Write 1 0
    ∷ Commit 1 ∷ [])

refused_events-replies : refused_events.replies
    ≡ Begun 1 ∷ Fault fault.ActiveLeft ∷ Fault fault.Unknown ∷ Fault fault.UnknownItem ∷ Kept ∷ Gathered ∷ Yes
    ∷ Fault fault.StepOpen ∷ Installed
    ∷ Fault fault.Ended ∷ []
unfolding play
refused_events-replies = refl

refused_events-log : refused_events.log 0 ≡ entry.Write 1 x 6 ∷ entry.Commit 1 ∷ []
unfolding play
refused_events-log = refl

-- each event of a transaction that was never begun, and of one that has ended, also where another fault is there too
abbrev unknown_and_ended : Played
unknown_and_ended = play single (
    Begin ∷ Withdraw 1 ∷ Read 2 9 x ∷ Put 2 0 x 1 ∷ Add 2 0 x 1 ∷ Gather 2 0 ∷ Decide 2 ∷ Write 2 0 ∷ Commit 2
    ∷ Withdraw 2
    ∷ Read 1 9 x ∷ Put 1 0 x 1 ∷ Add 1 0 y 1 ∷ Gather 1 0 ∷ Decide 1 ∷ Write 1 0 ∷ Commit 1 ∷ Withdraw 1 ∷ [])

unknown_and_ended-replies : unknown_and_ended.replies
    ≡ Begun 1 ∷ Withdrawn ∷ Fault fault.Unknown ∷ Fault fault.Unknown ∷ Fault fault.Unknown ∷ Fault fault.Unknown
    ∷ Fault fault.Unknown
    ∷ Fault fault.Unknown ∷ Fault fault.Unknown ∷ Fault fault.Unknown ∷ Fault fault.Ended ∷ Fault fault.Ended
    ∷ Fault fault.Ended
    ∷ Fault fault.Ended ∷ Fault fault.Ended ∷ Fault fault.Ended ∷ Fault fault.Ended ∷ Fault fault.Ended ∷ []
unfolding play
unknown_and_ended-replies = refl

-- while a step is open: others read and change items, but none begins, decides, ends or closes; its own transaction
-- does parts of it alone
abbrev in_a_step : Played
in_a_step = play apart (
    Begin ∷ Begin ∷ Put 1 0 x 6 ∷ Put 2 0 x 7 ∷ Put 1 1 y 3 ∷ Gather 1 0
    ∷ Read 1 0 x ∷ Put 1 0 x 8 ∷ Add 1 9 x 8 ∷ Begin ∷ Commit 1 ∷ Withdraw 1 ∷ Close ∷ Gather 2 0 ∷ Decide 2 ∷ Write 2
    0 ∷ Commit 2 ∷ Withdraw 2
    ∷ Read 2 1 y ∷ Put 2 0 x 9 ∷ Gather 1 0 ∷ Decide 1 ∷ Write 1 0 ∷ Gather 1 1 ∷ Decide 1 ∷ Decide 1 ∷ Gather 1 1
    ∷ Write 1 1 ∷ Write 1 1 ∷ Read 1 0 x ∷ Write 1 0 ∷ Write 1 0 ∷ Withdraw 2 ∷ Close ∷ [])

in_a_step-replies : in_a_step.replies
    ≡ Begun 1 ∷ Begun 2 ∷ Kept ∷ Kept ∷ Kept ∷ Gathered
    ∷ Fault fault.StepOpen ∷ Fault fault.StepOpen ∷ Fault fault.StepOpen ∷ Fault fault.StepOpen ∷ Fault fault.StepOpen
    ∷ Fault fault.StepOpen
    ∷ Fault fault.StepOpen ∷ Fault fault.StepOpen ∷ Fault fault.StepOpen ∷ Fault fault.StepOpen ∷ Fault fault.StepOpen
    ∷ Fault fault.StepOpen
    ∷ Value 2 ∷ Kept ∷ Fault fault.AlreadyDone ∷ Fault fault.NotGathered ∷ Fault fault.NotGathered ∷ Gathered ∷ Yes
    ∷ Fault fault.AlreadyDone
    ∷ Fault fault.AlreadyDone ∷ Installed ∷ Fault fault.AlreadyDone ∷ Fault fault.StepOpen ∷ Installed
    ∷ Fault fault.Ended ∷ Withdrawn ∷ Closed 1 ∷ []
unfolding play
in_a_step-replies = refl

in_a_step-first : in_a_step.log 0 ≡ entry.Write 1 x 6 ∷ entry.Commit 1 ∷ entry.Withdraw 2 ∷ []
unfolding play
in_a_step-first = refl

in_a_step-second : in_a_step.log 1 ≡ entry.Read 2 y 2 ∷ entry.Write 1 y 3 ∷ entry.Commit 1 ∷ entry.Withdraw 2 ∷ []
unfolding play
in_a_step-second = refl

-- who has ended or never began is told so, in another's step too
abbrev ended_in_a_step : Played
ended_in_a_step = play apart
    (Begin ∷ Begin ∷ Withdraw 2 ∷ Put 1 0 x 6 ∷ Gather 1 0 ∷ Commit 2 ∷ Gather 2 0 ∷ Decide 2 ∷ Withdraw 2 ∷ Commit 9
    ∷ Write 9 0 ∷ [])

ended_in_a_step-replies : ended_in_a_step.replies
    ≡ Begun 1 ∷ Begun 2 ∷ Withdrawn ∷ Kept ∷ Gathered ∷ Fault fault.Ended ∷ Fault fault.Ended ∷ Fault fault.Ended
    ∷ Fault fault.Ended
    ∷ Fault fault.Unknown ∷ Fault fault.Unknown ∷ []
unfolding play
ended_in_a_step-replies = refl

-- sites and items that aren't there, parts of a step that isn't open, and sites that aren't touched; two faults at once
abbrev elsewhere : Played
elsewhere = play apart (
    Begin ∷ Read 1 0 y ∷ Read 1 2 x ∷ Put 1 0 y 1 ∷ Put 1 2 x 1 ∷ Add 1 0 y 1 ∷ Add 1 2 x 1 ∷ Gather 1 2 ∷ Gather 1 1
    ∷ Write 1 2 ∷ Write 1 1 ∷ Put 1 0 x 6 ∷ Gather 1 1 ∷ Decide 1 ∷ Write 1 0 ∷ Gather 1 0 ∷ Write 1 0 ∷ Write 1 1
    ∷ Decide 1 ∷ Write 1 1 ∷ [])

elsewhere-replies : elsewhere.replies
    ≡ Begun 1 ∷ Fault fault.UnknownItem ∷ Fault fault.UnknownItem ∷ Fault fault.UnknownItem ∷ Fault fault.UnknownItem
    ∷ Fault fault.UnknownItem
    ∷ Fault fault.UnknownItem ∷ Fault fault.UnknownItem ∷ Fault fault.NotTouched ∷ Fault fault.UnknownItem
    ∷ Fault fault.NotGathered ∷ Kept
    ∷ Fault fault.NotTouched ∷ Fault fault.NotGathered ∷ Fault fault.NotGathered ∷ Gathered ∷ Fault fault.NotGathered
    ∷ Fault fault.NotGathered ∷ Yes
    ∷ Fault fault.NotTouched ∷ []
unfolding play
elsewhere-replies = refl

-- nothing was begun, and the window is closed all the same; then with a transaction active
abbrev closes : Played
closes = play single (Close ∷ Begin ∷ Put 1 0 x 6 ∷ Close ∷ Commit 1 ∷ Close ∷ Begin ∷ Read 2 0 x ∷ Commit 2 ∷ [])

closes-replies : closes.replies ≡ Closed 0 ∷ Begun 1 ∷ Kept ∷ Fault fault.ActiveLeft ∷ Yes ∷ Closed 1 ∷ Begun 2
    ∷ Value 6 ∷ Yes ∷ []
unfolding play
closes-replies = refl

-- ---- the limits, in states that no example reaches

abbrev with_state : State → Option OpenStep → CoreState
with_state s step = record (fresh both) { certifier = s; step = step }

-- so many were begun, so many of them before this window, of this generation
abbrev counted : ℕ → ℕ → ℕ → State
counted begun before generation = record opening { begun = begun; before = before; generation = generation }

abbrev last_number : ℕ
last_number = 2 ^ 32 - 1

abbrev own : Option OpenStep
own = Some (record { tx = 1; gathered = [] })

window_full : IsRefused (with_state (counted 4096 0 0) None) Begin fault.WindowFull
window_full = first_told (with_state (counted 4096 0 0) None) Begin fault.WindowFull refl

-- also where the numbers are spent; but not while a step is open
window_full_and_numbers_spent : IsRefused (with_state (counted last_number (last_number - 4096) 0) None) Begin
    fault.WindowFull
window_full_and_numbers_spent =
    first_told (with_state (counted last_number (last_number - 4096) 0) None) Begin fault.WindowFull refl

window_full_in_a_step : IsRefused (with_state (counted 4096 0 0) own) Begin fault.StepOpen
window_full_in_a_step = first_told (with_state (counted 4096 0 0) own) Begin fault.StepOpen refl

numbers_spent : IsRefused (with_state (counted last_number (last_number - 1) 0) None) Begin fault.NumbersSpent
numbers_spent = first_told (with_state (counted last_number (last_number - 1) 0) None) Begin fault.NumbersSpent refl

generations_spent : IsRefused (with_state (counted 1 1 last_number) None) Close fault.GenerationsSpent
generations_spent = first_told (with_state (counted 1 1 last_number) None) Close fault.GenerationsSpent refl

-- the last one of a window, the last number and the last generation are given
last_of_a_window : IsAllowed (with_state (counted 4095 0 0) None) Begin
last_of_a_window = none_told (with_state (counted 4095 0 0) None) Begin refl

last_of_all : IsAllowed (with_state (counted (last_number - 1) (last_number - 1) 0) None) Begin
last_of_all = none_told (with_state (counted (last_number - 1) (last_number - 1) 0) None) Begin refl

last_generation : IsAllowed (with_state (counted 1 1 (last_number - 1)) None) Close
last_generation = none_told (with_state (counted 1 1 (last_number - 1)) None) Close refl

-- also with a transaction active, and then in a step
active_and_generations_spent : IsRefused (with_state (with_begun (counted 1 1 last_number)) None) Close fault.ActiveLeft
active_and_generations_spent =
    first_told (with_state (with_begun (counted 1 1 last_number)) None) Close fault.ActiveLeft refl

active_in_a_step : IsRefused (with_state (with_begun (counted 1 1 last_number)) own) Close fault.StepOpen
active_in_a_step = first_told (with_state (with_begun (counted 1 1 last_number)) own) Close fault.StepOpen refl

-- ---- want of memory

-- no install wants memory, and no read of what is in the draft
install_takes_none : (c new : CoreState) (tx s : ℕ) → MayStep c (Write tx s) (Fault fault.Memory) new → ⊥
install_takes_none c new tx s h = h.1

read_takes_none : (c new : CoreState) (tx s : ℕ) (v : ℕ) → look c tx s x ≡ Some v
    → MayStep c (Read tx s x) (Fault fault.Memory) new → ⊥
read_takes_none c new tx s v found h = let e = h.1.0 in let f : Some v ≡ None = sym found ∙ e in absurd cc

-- after it the step is closed, where an event was a part of one; else nothing has changed
after_gather : (c new : CoreState) (tx s : ℕ) → MayStep c (Gather tx s) (Fault fault.Memory) new
    → (new.step ≡ None) × (new ≡ record c { step = None })
after_gather c new tx s h = (ap (λ (d : CoreState). d.step) h.1, h.1)

after_decide : (c new : CoreState) (tx : ℕ) → MayStep c (Decide tx) (Fault fault.Memory) new
    → new ≡ record c { step = None }
after_decide c new tx h = h.1

after_put : (c new : CoreState) (tx s v : ℕ) → MayStep c (Put tx s x v) (Fault fault.Memory) new → new ≡ c
after_put c new tx s v h = h.1
