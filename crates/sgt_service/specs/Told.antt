-- Which call of a transaction told the fault that ended its try.
use Rattle.std.specs.Prelude.{◌≡◌, ◌≢◌, ◌⊎◌, ℕ, List, [], Bool, true, false, Option, None, Some, slice_get, take}
use Rattle.sgt_names.specs.Name.{Name}
use Rattle.sgt_names.specs.Draft.{at_site}
use Rattle.sgt_names.specs.declared.draft.Touch.{Touch}
use Rattle.sgt_notation.specs.declared.script.Op.{Op}
use Rattle.sgt_notation.specs.declared.script.Op.TheVariants.{Read, Put, Add, Sum}
use Rattle.sgt_notation.specs.declared.script.Script.{Script}
use Rattle.sgt_arena.specs.declared.handle.Handle.{Handle}
use Rattle.sgt_site.specs.declared.fault.SiteFault.TheVariants as site
use Rattle.sgt_certifier.specs.History.{begin}
use Rattle.sgt_certifier.specs.declared.call.Call.TheVariants as call
use Rattle.sgt_service_agreement.specs.declared.fault.ServiceFault.{ServiceFault}
use Rattle.sgt_service_agreement.specs.declared.fault.ServiceFault.TheVariants.{Memory, Site, NotPledged}
use Rattle.sgt_service_locks.specs.Guarded.{HasAdded}
use Rattle.sgt_service_locks.specs.Reads.{look_in}
use Rattle.sgt_service_locks.specs.Refused.{IsOfCall, IsToldOf, RefusesItem, RefusesReadAt}
use Rattle.sgt_service_locks.specs.Undecided.{IsToldOfCommit, IsToldOfWithdraw}
use Rattle.sgt_service_locks.specs.declared.active.Active.{Active}
use Rattle.sgt_service.specs.Operations.{DoesAll}

-- a sum is refused: the transaction sees nothing at its source, or the write of it is refused
abbrev pub RefusesPutOfSum : List (List Name) → ℕ → Name → Option ℕ → ServiceFault → Type 0
RefusesPutOfSum names s x seen f =
    ((seen ≡ None) × (f ≡ Site site.UnknownItem)) ⊎ RefusesItem names s x f

-- an operation of a transaction with this draft is refused, at sites with items of these names: by the
-- call that it makes, or for want of memory for what a read answers
abbrev pub RefusesOperation : List (List Name) → (tx : ℕ) → List Touch → Op → ServiceFault → Type 0
RefusesOperation names tx touched (Read s x) f =
    (f ≡ Memory) ⊎ RefusesReadAt names tx touched s x f
RefusesOperation names tx touched (Put s x v) f = RefusesItem names s x f
RefusesOperation names tx touched (Add s x v) f = RefusesItem names s x f
RefusesOperation names tx touched (Sum s x t y v) f =
    RefusesPutOfSum names s x (look_in touched t y) f

-- one of the operations is refused, behind those in front of it, which were done from this draft on
pub record IsUndone (names : List (List Name)) (tx : ℕ) (ops : List Op) (old : List Touch) (heard : List ℕ)
    (f : ServiceFault) : Type 0 where
  pub place : ℕ
  pub op : Op
  pub touched : List Touch
  pub reads : List ℕ
  pub there : slice_get ops place ≡ Some op
  pub before : DoesAll (take place ops) true old touched heard reads
  pub refused : RefusesOperation names tx touched op f

-- A try of the operations by one transaction, at so many sites with items of these names, ended with the
-- fault: its begin told it; or one of the operations; or its commit, where all were done; or its
-- withdrawal, where a sum was too large; or a site that it touches had lost its pledge when it was
-- decided; or memory was wanted for the ticket
pub data IsToldBy (sites : ℕ) (names : List (List Name)) (ops : List Op) : ServiceFault → Type 0 where
  unbegun : (f : ServiceFault) → IsToldOf begin f → IsToldBy sites names ops f
  undone : (tx : ℕ) (h : Handle) (f : ServiceFault) → HasAdded (call.Begin tx h)
      → IsUndone names tx ops [] [] f → IsToldBy sites names ops f
  uncommitted : (active : Active) (reads : List ℕ) (f : ServiceFault)
      → HasAdded (call.Begin active.tx active.handle)
      → DoesAll ops true [] active.draft.touched [] reads → IsToldOfCommit sites active f
      → IsToldBy sites names ops f
  unwithdrawn : (active : Active) (reads : List ℕ) (f : ServiceFault)
      → HasAdded (call.Begin active.tx active.handle)
      → DoesAll ops false [] active.draft.touched [] reads → IsToldOfWithdraw sites active f
      → IsToldBy sites names ops f
  unwritten : (active : Active) (all : Bool) (reads : List ℕ) (here : ℕ)
      → HasAdded (call.Begin active.tx active.handle)
      → DoesAll ops all [] active.draft.touched [] reads → at_site here active.draft.touched ≢ []
      → IsToldBy sites names ops (NotPledged here)
  unkept : IsToldBy sites names ops Memory

-- so a try of the script ended; and it is a fault that a call may be refused for
abbrev pub EndsTry : (sites : ℕ) → List (List Name) → Script → ServiceFault → Type 0
EndsTry sites names s f = IsOfCall f × IsToldBy sites names s.operations f
