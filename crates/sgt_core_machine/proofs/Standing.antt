-- A state that the machine stands for: runs that go on, and what the state says of the machine's parts.
use Rattle.std.proofs.Common.{◌≡◌, ◌<◌, ◌≤◌, ◌+◌, ℕ, suc, List, [], ◌∷◌, ◌++◌, refl, sym, ◌∙◌, arith, Contains, Option, Some, None, subst}
use Rattle.std.specs.Prelude.{slice_get, is_some, false}
use Rattle.sgt_notation.specs.declared.event.Event.{Event}
use Rattle.sgt_core_model.specs.declared.reply.Reply.{Reply}
use Rattle.sgt_core_model.specs.declared.reply.CoreFault.{CoreFault}
use Rattle.sgt_core_model.specs.declared.reply.CoreFault.TheVariants as fault
use Rattle.sgt_core_machine.specs.declared.machine.Place.{Place}
use Rattle.sgt_core_machine.specs.declared.machine.Part.{Part}
use Rattle.sgt_core_machine.specs.declared.machine.Part.TheVariants.{Idle, Due, Written}
use Rattle.sgt_core_machine.specs.declared.machine.Open.{Open}
use Rattle.sgt_core_model.specs.Core.{CoreState, fresh}
use Rattle.sgt_core_model.specs.Step.{gathered_in, tx_in, Fails, fault_place, IsRefused, MayStep, Run}
use Rattle.sgt_core_machine.specs.Machine.{Parts, IsReached, IsPart, IsStep, StandsFor, Stands, GoesOn}
use Rattle.sgt_core_model.proofs.Kept.{IsKept}
use Rattle.sgt_core_model.proofs.Runs.{runs-kept, idle}
use Rattle.sgt_names.proofs.Elements.{contains-none}

-- ---- runs

pub run_more : (old : CoreState) (events : List Event) (replies : List Reply) (mid : CoreState) (event : Event)
    (reply : Reply) (new : CoreState)
    → Run old events replies mid → MayStep mid event reply new
    → Run old (events ++ event ∷ []) (replies ++ reply ∷ []) new
run_more old [] [] mid event reply new run may = (new, subst (λ c. MayStep c event reply new) run may, refl)
run_more old (x ∷ xs) (y ∷ ys) mid event reply new run may =
    (run.0, run.1, run_more run.0 xs ys mid event reply new run.2 may)
run_more old [] (y ∷ ys) mid event reply new run may = absurd run
run_more old (x ∷ xs) [] mid event reply new run may = absurd run

pub reached_more : (c : CoreState) (event : Event) (reply : Reply) (d : CoreState) → IsReached c
    → MayStep c event reply d → IsReached d
reached_more c event reply d r may = (
  r.0,
  (
    r.1.0 ++ event ∷ [],
    (r.1.1.0 ++ reply ∷ [], run_more (fresh r.0) r.1.0 r.1.1.0 c event reply d r.1.1.1 may),
  ),
)

pub reached_kept : (c : CoreState) → IsReached c → IsKept c
reached_kept c r = runs-kept r.0 r.1.0 r.1.1.0 c r.1.1.1

-- the new machine stands for a state too
pub goes_stands : (P : CoreState → CoreState → Type 0) (old new : Parts) → Stands old → GoesOn P old new → Stands new
goes_stands P old new s go = let r = go s.0 s.1 in (r.0, r.2)

pub goes_same : (inside now new : Parts) (event same : Event) (reply : Reply) → inside ≡ now → event ≡ same
    → GoesOn (λ c d. MayStep c same reply d) inside new
    → GoesOn (λ c d. MayStep c event reply d) now new
goes_same inside now new event same reply view is go c s =
    let r = go c (subst (λ v. StandsFor v c) (sym view) s) in
    (r.0, subst (λ e. MayStep c e reply r.0) (sym is) r.1, r.2)

-- ---- no step is open

pub none_of : (o : Option Open) → is_some o ≡ false → o ≡ None
none_of None e = refl
none_of (Some o) e = absurd cc

pub closed_core : (m : Parts) (c : CoreState) (o : Option Open) → o ≡ None → IsStep m c o → c.step ≡ None
closed_core m c None e h = h.0
closed_core m c (Some o) e h = absurd cc

pub core_closed : (m : Parts) (c : CoreState) → StandsFor m c → m.step ≡ None → c.step ≡ None
core_closed m c s none = closed_core m c m.step none s.step

pub certifier_closed : (m : Parts) (c : CoreState) → StandsFor m c → m.step ≡ None → c.certifier.step ≡ None
certifier_closed m c s none = idle c (reached_kept c s.reached) (core_closed m c s none)

none_gathered : (c : CoreState) (s : ℕ) → c.step ≡ None → Contains (gathered_in c.step) s → ⊥
none_gathered c s none m = contains-none s (subst (λ o. Contains (gathered_in o) s) none m)

-- while none is open a site has no part of one
pub part_closed : (m n : Parts) (c d : CoreState) (s : ℕ) (p : Place) (part : Part) → IsPart m c s p part
    → m.step ≡ None → c.step ≡ None → d.step ≡ None
    → d.due s ≡ c.due s → IsPart n d s p part
part_closed m n c d s p Idle h m_none c_none d_none due = (h.0, due ∙ h.1, none_gathered d s d_none)
part_closed m n c d s p Due h m_none c_none d_none due = absurd (let e : Some h.0 ≡ None = sym h.1.open_step
    ∙ m_none in cc)
part_closed m n c d s p Written h m_none c_none d_none due = absurd (none_gathered c s c_none h.gathered)

-- ---- who isn't active

low : (c : CoreState) (event : Event) (tx : ℕ) (g : CoreFault) → tx_in event ≡ Some tx → tx ≤ c.certifier.begun
    → fault_place g < 2 → Fails c event g → ⊥
low c event tx fault.Unknown is le lt h = let e : Some tx ≡ Some h.0 = sym is ∙ h.1 in let same : tx ≡ h.0 = cc in
    omega (arith, h.2, same)
low c event tx fault.Ended is le lt h = absurd (omega arith)
low c event tx fault.StepOpen is le lt h = absurd (omega arith)
low c event tx fault.UnknownItem is le lt h = absurd (omega arith)
low c event tx fault.NotGathered is le lt h = absurd (omega arith)
low c event tx fault.AlreadyDone is le lt h = absurd (omega arith)
low c event tx fault.WindowFull is le lt h = absurd (omega arith)
low c event tx fault.ActiveLeft is le lt h = absurd (omega arith)
low c event tx fault.Memory is le lt h = absurd (omega arith)
low c event tx fault.GenerationsSpent is le lt h = absurd (omega arith)
low c event tx fault.NumbersSpent is le lt h = absurd (omega arith)
low c event tx fault.NotTouched is le lt h = absurd (omega arith)

pub ended_refused : (c : CoreState) (event : Event) (tx : ℕ) → tx_in event ≡ Some tx → tx ≤ c.certifier.begun
    → (Contains c.certifier.active tx → ⊥)
    → IsRefused c event fault.Ended
ended_refused c event tx is le out = ((tx, is, (le, out)), λ g lt h. low c event tx g is le lt h)

-- who was begun before the window has ended
pub older_refused : (m : Parts) (c : CoreState) (event : Event) (tx : ℕ) → StandsFor m c → tx_in event ≡ Some tx
    → tx ≤ m.before
    → IsRefused c event fault.Ended
older_refused m c event tx s is le =
    let k = reached_kept c s.reached in
    let before = s.before in
    let window = k.sound.ordered.certifier.window in
    ended_refused c event tx is (omega arith) (λ active. let here = k.sound.ordered.certifier.active_here tx active in
    omega (arith, here.0))

-- and so has one of the window at whose place nothing stands
pub free_refused : (m : Parts) (c : CoreState) (event : Event) (tx slot : ℕ) → StandsFor m c → tx_in event ≡ Some tx
    → tx ≤ m.begun
    → tx ≡ suc (m.before + slot) → slice_get m.table slot ≡ Some None → IsRefused c event fault.Ended
free_refused m c event tx slot s is le at there =
    let begun = s.begun in
    ended_refused c event tx is (omega arith)
    (λ active. s.running slot None there (subst (Contains c.certifier.active) at active))
