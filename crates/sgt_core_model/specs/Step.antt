-- The steps of the core: when an event is refused, what it does otherwise, and runs of events.
use Rattle.std.specs.Prelude.{◌≡◌, ◌≢◌, ◌<◌, ◌≤◌, ◌-◌, ◌^◌, ℕ, suc, true, false, List, [], ◌∷◌, ◌++◌, length, map, Contains, Option, Some, None}
use Rattle.sgt_names.specs.Name.{Name}
use Rattle.sgt_names.specs.Draft.{added_to}
use Rattle.sgt_names.specs.Log.{names, value_at}
use Rattle.sgt_names.specs.declared.entry.Change.TheVariants as change
use Rattle.sgt_names.specs.declared.entry.Entry.TheVariants as entry
use Rattle.sgt_bundle.specs.declared.certificate.Step.{Step}
use Rattle.sgt_certifier.specs.Certifier.{State, Arc, window_room, serial, with_begun, with_withdrawn, with_closed, Commits, Refuses}
use Rattle.sgt_notation.specs.declared.event.Event.{Event}
use Rattle.sgt_notation.specs.declared.event.Event.TheVariants.{Begin, Read, Put, Add, Gather, Decide, Install, Commit, Withdraw, Close}
use Rattle.sgt_core_model.specs.declared.reply.Reply.{Reply}
use Rattle.sgt_core_model.specs.declared.reply.Reply.TheVariants.{Begun, Value, Kept, Gathered, Yes, No, Installed, Withdrawn, Closed, Fault}
use Rattle.sgt_core_model.specs.declared.reply.CoreFault.{CoreFault}
use Rattle.sgt_core_model.specs.declared.reply.CoreFault.TheVariants as fault
use Rattle.sgt_core_model.specs.Core.{OpenStep, CoreState, items_at, change_in, with_entries, only_at, with_change, look, touches, touched, AreEdges, committed_block, refused_block, withdrawn_block, decided, installed}

-- ---- the open step

abbrev pub StepIs : (ℕ → Type 0) → Option OpenStep → Type 0
StepIs P None = ⊥
StepIs P (Some step) = P step.tx

-- the step of tx is open, that of another one, any
abbrev pub IsOwnOpen : CoreState → ℕ → Type 0
IsOwnOpen c tx = StepIs (λ t. t ≡ tx) c.step

abbrev pub IsOtherOpen : CoreState → ℕ → Type 0
IsOtherOpen c tx = StepIs (λ t. t ≢ tx) c.step

abbrev pub IsAnyOpen : CoreState → Type 0
IsAnyOpen c = c.step ≢ None

abbrev pub gathered_in : Option OpenStep → List ℕ
gathered_in None = []
gathered_in (Some step) = step.gathered

-- tx is gathered at the site, is decided
abbrev pub IsGathered : CoreState → ℕ → ℕ → Type 0
IsGathered c tx s = IsOwnOpen c tx × Contains (gathered_in c.step) s

abbrev pub IsDecided : CoreState → ℕ → Type 0
IsDecided c tx = c.certifier.step ≡ Some tx

-- ---- refusals

-- the transaction that an event is about
abbrev pub tx_in : Event → Option ℕ
tx_in Begin = None
tx_in (Read tx s x) = Some tx
tx_in (Put tx s x v) = Some tx
tx_in (Add tx s x v) = Some tx
tx_in (Gather tx s) = Some tx
tx_in (Decide tx) = Some tx
tx_in (Install tx s) = Some tx
tx_in (Commit tx) = Some tx
tx_in (Withdraw tx) = Some tx
tx_in Close = None

-- the transaction was begun, and it is no more active
abbrev pub HasEnded : CoreState → ℕ → Type 0
HasEnded c tx = (tx ≤ c.certifier.begun) × (Contains c.certifier.active tx → ⊥)

abbrev pub IsOfSite : CoreState → ℕ → Name → Type 0
IsOfSite c s x = Contains (names (items_at c s)) x

-- the fault is there, when this event comes. Want of memory isn't a matter of the state
abbrev pub Fails : CoreState → Event → CoreFault → Type 0
Fails c event fault.Unknown = (tx : ℕ) × (tx_in event ≡ Some tx) × (c.certifier.begun < tx)
Fails c event fault.Ended = (tx : ℕ) × (tx_in event ≡ Some tx) × HasEnded c tx
Fails c (Read tx s x) fault.StepOpen = IsOwnOpen c tx
Fails c (Put tx s x v) fault.StepOpen = IsOwnOpen c tx
Fails c (Add tx s x v) fault.StepOpen = IsOwnOpen c tx
Fails c (Gather tx s) fault.StepOpen = IsOtherOpen c tx
Fails c (Decide tx) fault.StepOpen = IsOtherOpen c tx
Fails c (Install tx s) fault.StepOpen = IsOtherOpen c tx
Fails c event fault.StepOpen = IsAnyOpen c
Fails c (Read tx s x) fault.UnknownItem = IsOfSite c s x → ⊥
Fails c (Put tx s x v) fault.UnknownItem = IsOfSite c s x → ⊥
Fails c (Add tx s x v) fault.UnknownItem = IsOfSite c s x → ⊥
Fails c (Gather tx s) fault.UnknownItem = length c.items ≤ s
Fails c (Install tx s) fault.UnknownItem = length c.items ≤ s
Fails c (Decide tx) fault.NotGathered = (s : ℕ) × Contains (touched c tx) s
    × (IsGathered c tx s → ⊥)
Fails c (Install tx s) fault.NotGathered = IsDecided c tx → ⊥
Fails c (Gather tx s) fault.AlreadyDone = IsGathered c tx s
Fails c (Decide tx) fault.AlreadyDone = IsDecided c tx
Fails c (Install tx s) fault.AlreadyDone = (touches c tx s ≡ true) × (c.due s ≡ [])
Fails c Begin fault.WindowFull = window_room ≤ c.certifier.begun - c.certifier.before
Fails c Close fault.ActiveLeft = c.certifier.active ≢ []
Fails c Close fault.GenerationsSpent = 2 ^ 32 ≤ suc c.certifier.generation
Fails c Begin fault.NumbersSpent = 2 ^ 32 ≤ suc c.certifier.begun
Fails c (Gather tx s) fault.NotTouched = touches c tx s ≡ false
Fails c (Install tx s) fault.NotTouched = touches c tx s ≡ false
Fails _ _ _ = ⊥

-- the order in which faults are told: by their numbers, but want of memory last
abbrev pub fault_place : CoreFault → ℕ
fault_place fault.Unknown = 1
fault_place fault.Ended = 2
fault_place fault.StepOpen = 3
fault_place fault.UnknownItem = 4
fault_place fault.NotGathered = 5
fault_place fault.AlreadyDone = 6
fault_place fault.WindowFull = 7
fault_place fault.ActiveLeft = 8
fault_place fault.GenerationsSpent = 10
fault_place fault.NumbersSpent = 11
fault_place fault.NotTouched = 12
fault_place fault.Memory = 13

-- the fault is there, and none that is told before it
abbrev pub IsRefused : CoreState → Event → CoreFault → Type 0
IsRefused c event f = Fails c event f
    × ((g : CoreFault) → fault_place g < fault_place f → Fails c event g → ⊥)

-- no fault is there
abbrev pub IsAllowed : CoreState → Event → Type 0
IsAllowed c event = (f : CoreFault) → Fails c event f → ⊥

-- after want of memory the state is as it was, but the step of a Gather, Decide or Commit is as if
-- it had never been opened.
-- Install and a Read from the draft take no memory
abbrev pub AfterMemory : CoreState → Event → CoreState → Type 0
AfterMemory old (Gather tx s) new = new ≡ record old { step = None }
AfterMemory old (Decide tx) new = new ≡ record old { step = None }
AfterMemory old (Commit tx) new = new ≡ record old { step = None }
AfterMemory old (Install tx s) new = ⊥
AfterMemory old (Read tx s x) new = (look old tx s x ≡ None) × (new ≡ old)
AfterMemory old event new = new ≡ old

-- ---- answers

-- the item is read at the site: the value at the end of the log is logged, and the answer is what
-- the transaction finds then
abbrev pub ReadsSite : CoreState → ℕ → ℕ → Name → ℕ → CoreState → Type 0
ReadsSite old tx s x v new =
    (u : ℕ) × (value_at (items_at old s) (old.entries s) x ≡ Some u)
    × (new ≡ with_entries old (only_at s (entry.Read tx x u ∷ []))) × (look new tx s x ≡ Some v)

-- a read answers what the transaction finds without the site, and changes nothing; or else it reads
-- the site
abbrev pub Reads : CoreState → ℕ → ℕ → Name → ℕ → Option ℕ → CoreState → Type 0
Reads old tx s x v (Some found) new = (v ≡ found) × (new ≡ old)
Reads old tx s x v None new = ReadsSite old tx s x v new

-- i is committed with its edges, or refused, and its blocks are due
pub record CommitsAt (old : CoreState) (i : ℕ) (new : CoreState) : Type 0 where
  pub arcs : List Arc
  pub certifier : State
  pub edges : AreEdges old i arcs
  pub commits : Commits old.certifier i arcs certifier
  pub after : new ≡ decided old i certifier (committed_block old i)

pub record RefusesAt (old : CoreState) (i : ℕ) (new : CoreState) : Type 0 where
  pub arcs : List Arc
  pub walk : List Step
  pub certifier : State
  pub edges : AreEdges old i arcs
  pub refuses : Refuses old.certifier i arcs walk certifier
  pub after : new ≡ decided old i certifier (refused_block old i)

-- each event with its answer, and the state that it leaves
abbrev pub Does : CoreState → Event → Reply → CoreState → Type 0
Does old Begin (Begun tx) new = (tx ≡ suc old.certifier.begun)
    × (new ≡ record old { certifier = with_begun old.certifier })
Does old (Read tx s x) (Value v) new = Reads old tx s x v (look old tx s x) new
Does old (Put tx s x v) Kept new = new ≡ with_change old tx s x (change.Put v)
Does old (Add tx s x v) Kept new =
    new ≡ with_change old tx s x (added_to (change_in (old.changes tx s) x) v)
Does old (Gather tx s) Gathered new =
    new ≡ record old { step = Some (record { tx = tx; gathered = s ∷ gathered_in old.step }) }
Does old (Decide tx) Yes new = CommitsAt old tx new
Does old (Decide tx) No new = RefusesAt old tx new
Does old (Install tx s) Installed new = new ≡ installed old tx s
Does old (Withdraw tx) Withdrawn new =
    new ≡ record (with_entries old
    (withdrawn_block old tx)) { certifier = with_withdrawn old.certifier tx }
Does old Close (Closed ranks) new = (ranks ≡ length (serial old.certifier))
    × (new ≡ record old { certifier = with_closed old.certifier })
Does _ _ _ _ = ⊥

-- an event other than Commit, allowed and answered
abbrev pub Serves : CoreState → Event → Reply → CoreState → Type 0
Serves old event reply new = IsAllowed old event × Does old event reply new

-- such events one after another
abbrev pub ServesAll : CoreState → List Event → List Reply → CoreState → Type 0
ServesAll old [] [] new = new ≡ old
ServesAll old (event ∷ events) (reply ∷ replies) new = (mid : CoreState)
    × Serves old event reply mid × ServesAll mid events replies new
ServesAll old _ _ new = ⊥

-- a commit gathers at each touched site, decides, and installs at each touched site
abbrev pub parts_of_commit : List ℕ → ℕ → List Event
parts_of_commit sites tx = map (Gather tx) sites ++ Decide tx ∷ map (Install tx) sites

abbrev pub replies_of_commit : List ℕ → Reply → List Reply
replies_of_commit sites verdict = map (λ s. Gathered) sites ++ verdict ∷ map (λ s. Installed) sites

abbrev pub CommitsWith : CoreState → ℕ → Reply → CoreState → Type 0
CommitsWith old tx verdict new =
    ServesAll old (parts_of_commit (touched old tx) tx)
    (replies_of_commit (touched old tx) verdict) new

-- a commit's gathers and its decision, without the installs
abbrev pub parts_of_decision : List ℕ → ℕ → List Event
parts_of_decision sites tx = map (Gather tx) sites ++ Decide tx ∷ []

abbrev pub replies_of_decision : List ℕ → Reply → List Reply
replies_of_decision sites verdict = map (λ s. Gathered) sites ++ verdict ∷ []

abbrev pub DecidesWith : CoreState → ℕ → Reply → CoreState → Type 0
DecidesWith old tx verdict new =
    ServesAll old (parts_of_decision (touched old tx) tx)
    (replies_of_decision (touched old tx) verdict) new

-- tx is gathered wherever it touches and decided, refused where its commit is
abbrev pub MayDecide : CoreState → ℕ → Reply → CoreState → Type 0
MayDecide old tx (Fault fault.Memory) new = IsAllowed old (Commit tx)
    × AfterMemory old (Commit tx) new
MayDecide old tx (Fault f) new = IsRefused old (Commit tx) f × (new ≡ old)
MayDecide old tx verdict new = IsAllowed old (Commit tx) × DecidesWith old tx verdict new

-- from old, the event may be given this reply, and leave new
abbrev pub MayStep : CoreState → Event → Reply → CoreState → Type 0
MayStep old event (Fault fault.Memory) new = IsAllowed old event × AfterMemory old event new
MayStep old event (Fault f) new = IsRefused old event f × (new ≡ old)
MayStep old (Commit tx) verdict new = IsAllowed old (Commit tx) × CommitsWith old tx verdict new
MayStep old event reply new = Serves old event reply new

-- the events may be given these replies, one step after another
abbrev pub Run : CoreState → List Event → List Reply → CoreState → Type 0
Run old [] [] new = new ≡ old
Run old (event ∷ events) (reply ∷ replies) new = (mid : CoreState) × MayStep old event reply mid
    × Run mid events replies new
Run old _ _ new = ⊥
