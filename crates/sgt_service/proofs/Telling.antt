-- Which call told the fault of a try.
use Rattle.std.proofs.Common.{◌≡◌, ◌≢◌, ◌⊎◌, ℕ, List, [], Bool, true, false, Option, Some, None, IfSome}
use Rattle.std.proofs.Common.{Result, Ok, Err, IfErr, inl, inr, refl, sym, subst, subst₂}
use Rattle.std.specs.Prelude.{length, map, slice_get, take, ◌-◌, ◌<◌}
use Rattle.sgt_names.specs.Name.{Name}
use Rattle.sgt_names.specs.Log.{names}
use Rattle.sgt_names.specs.declared.draft.Touch.{Touch}
use Rattle.sgt_names.specs.declared.entry.Holding.{Holding}
use Rattle.sgt_notation.specs.declared.script.Op.{Op}
use Rattle.sgt_notation.specs.declared.script.Op.TheVariants.{Read}
use Rattle.sgt_notation.specs.declared.script.Script.{Script}
use Rattle.sgt_arena.specs.declared.handle.Handle.{Handle}
use Rattle.sgt_certifier.specs.History.{begin}
use Rattle.sgt_certifier.specs.declared.call.Call.TheVariants as call
use Rattle.sgt_workers.specs.Answers.{IsFault}
use Rattle.sgt_workers.specs.declared.fault.PoolFail.{PoolFail}
use Rattle.sgt_workers.specs.declared.fault.PoolFail.TheVariants.{Work, Pool}
use Rattle.sgt_workers.specs.declared.ticket.Ending.{Ending}
use Rattle.sgt_service_agreement.specs.declared.fault.ServiceFault.{ServiceFault}
use Rattle.sgt_service_agreement.specs.declared.fault.ServiceFault.TheVariants as fault
use Rattle.sgt_service_locks.specs.Guarded.{HasAdded}
use Rattle.sgt_service_locks.specs.Reads.{IsOfActive}
use Rattle.sgt_service_locks.specs.Refused.{IsToldOf, RefusesReadAt}
use Rattle.sgt_service_locks.specs.Seats.{IsBack}
use Rattle.sgt_service_locks.specs.Stops.{ComesBackBy}
use Rattle.sgt_service_locks.specs.Undecided.{IsToldOfCommit, IsToldOfWithdraw}
use Rattle.sgt_service_locks.specs.declared.active.Active.{Active}
use Rattle.sgt_service_locks.specs.declared.active.Back.{Back}
use Rattle.sgt_service_locks.specs.declared.seat.Seat.{Seat}
use Rattle.sgt_service.specs.Operations.{DoesAll}
use Rattle.sgt_service.specs.Report.{EndsRun, IsOfRun, IsWant}
use Rattle.sgt_service.specs.Told.{EndsTry, IsToldBy, IsUndone, RefusesOperation}
use Rattle.sgt_service.specs.Told.{unbegun, undone, uncommitted, unwithdrawn, unwritten, unkept}

-- the begin
pub begin_tells : (sites : ℕ) (known : List (List Name)) (ops : List Op) (f : ServiceFault) → IsToldOf begin f
    → IsToldBy sites known ops f
begin_tells sites known ops f told = unbegun f told

-- a read
pub read_refuses : {A : Type 0} (known : List (List Name)) (tx : ℕ) (touched : List Touch) (s : ℕ) (x : Name)
    (r : Result A ServiceFault)
    → IfErr r (RefusesReadAt known tx touched s x) → IfErr r (RefusesOperation known tx touched (Read s x))
read_refuses known tx touched s x (Ok a) refused = tt
read_refuses known tx touched s x (Err f) refused = inr refused

-- no room for a ticket
pub want_ends : {A : Type 0} (sites : ℕ) (known : List (List Name)) (s : Script) (r : Result A ServiceFault)
    → IfErr r (λ f. f ≡ fault.Memory) → IfErr r (EndsTry sites known s)
want_ends sites known s (Ok a) want = tt
want_ends sites known s (Err f) want = subst (EndsTry sites known s) (sym want) (inl tt, unkept)

-- an operation, behind those that were done
pub undone_at : (known : List (List Name)) (tx same : ℕ) (ops shown : List Op) (place : ℕ) (op : Op)
    (old touched : List Touch) (heard reads : List ℕ) → shown ≡ ops → slice_get shown place ≡ Some op
    → DoesAll (take place shown) true old touched heard reads → same ≡ tx → (f : ServiceFault)
    → RefusesOperation known same touched op f → IsUndone known tx ops old heard f
undone_at known tx same ops shown place op old touched heard reads are there before is f refused =
    subst (λ (all : List Op). IsUndone known tx all old heard f) are (record {
      place = place;
      op = op;
      touched = touched;
      reads = reads;
      there = there;
      before = before;
      refused = subst (λ (n : ℕ). RefusesOperation known n touched op f) is refused;
    })

-- an operation of the transaction that began with an empty draft
pub operation_tells : (sites : ℕ) (known : List (List Name)) (ops : List Op) (first : Active) (before : List ℕ)
    → HasAdded (call.Begin first.tx first.handle) → first.draft.touched ≡ [] → before ≡ [] → (f : ServiceFault)
    → IsUndone known first.tx ops first.draft.touched before f → IsToldBy sites known ops f
operation_tells sites known ops first before begun empty none f is =
    undone first.tx first.handle f begun
    (subst₂ (λ (old : List Touch) (heard : List ℕ). IsUndone known first.tx ops old heard f) empty none is)

-- the transaction that did its operations, all of them or not
record IsEnding (ops : List Op) (all : Bool) (last : Active) (reads : List ℕ) : Type 0 where
  pub begun : HasAdded (call.Begin last.tx last.handle)
  pub does : DoesAll ops all [] last.draft.touched [] reads

ending : (ops : List Op) (all : Bool) (first last : Active) (before reads : List ℕ)
    → HasAdded (call.Begin first.tx first.handle) → first.draft.touched ≡ [] → before ≡ [] → IsOfActive first last
    → DoesAll ops all first.draft.touched last.draft.touched before reads → IsEnding ops all last reads
ending ops all first last before reads begun empty none same does = record {
  begun = subst₂ (λ (tx : ℕ) (h : Handle). HasAdded (call.Begin tx h)) (sym same.0) (sym same.1) begun;
  does = subst₂ (λ (old : List Touch) (heard : List ℕ). DoesAll ops all old last.draft.touched heard reads)
      empty none does;
}

module _ {L : Type 0} where
  -- what comes back of it was told so, or a site had lost its pledge
  back_tells : (sites : ℕ) (known : List (List Name)) (ops : List Op) (all : Bool) (last : Active) (reads : List ℕ)
      (decided : Ending → Type 0) (old new : Seat L) (o : Option Active) (f : ServiceFault)
      (why : ServiceFault → Type 0) → IsEnding ops all last reads
      → IsBack decided last old new (record { active = o; fault = f }) → IfSome o (λ same. why f)
      → (why f → IsToldBy sites known ops f) → IsToldBy sites known ops f
  back_tells sites known ops all last reads decided old new None f why is back none tells =
      subst (IsToldBy sites known ops) (sym back.3) (unwritten last all reads back.1 is.begun is.does back.4.0)
  back_tells sites known ops all last reads decided old new (Some a) f why is back told tells = tells told

  -- a commit, where all were done
  pub commit_tells : (sites : ℕ) (known : List (List Name)) (ops : List Op) (all : Bool) (first last : Active)
      (before reads : List ℕ) (decided : Ending → Type 0) (old new : Seat L) (b : Back)
      → HasAdded (call.Begin first.tx first.handle) → first.draft.touched ≡ [] → before ≡ [] → IsOfActive first last
      → DoesAll ops all first.draft.touched last.draft.touched before reads → all ≡ true
      → IsBack decided last old new b → ComesBackBy (IsToldOfCommit sites last) b → IsToldBy sites known ops b.fault
  commit_tells sites known ops all first last before reads decided old new b begun empty none same does fits back told =
      let is = ending ops all first last before reads begun empty none same does in
      back_tells sites known ops all last reads decided old new b.active b.fault (IsToldOfCommit sites last)
      is back told
      (λ why. uncommitted last reads b.fault is.begun
      (subst (λ a. DoesAll ops a [] last.draft.touched [] reads) fits is.does) why)

  -- a withdrawal, where a sum was too large
  pub withdraw_tells : (sites : ℕ) (known : List (List Name)) (ops : List Op) (all : Bool) (first last : Active)
      (before reads : List ℕ) (decided : Ending → Type 0) (old new : Seat L) (b : Back)
      → HasAdded (call.Begin first.tx first.handle) → first.draft.touched ≡ [] → before ≡ [] → IsOfActive first last
      → DoesAll ops all first.draft.touched last.draft.touched before reads → all ≡ false
      → IsBack decided last old new b → ComesBackBy (IsToldOfWithdraw sites last) b → IsToldBy sites known ops b.fault
  withdraw_tells sites known ops all first last before reads decided old new b begun empty none same does unfit back
      told =
      let is = ending ops all first last before reads begun empty none same does in
      back_tells sites known ops all last reads decided old new b.active b.fault (IsToldOfWithdraw sites last)
      is back told
      (λ why. unwithdrawn last reads b.fault is.begun
      (subst (λ a. DoesAll ops a [] last.draft.touched [] reads) unfit is.does) why)

-- ---- what ends a run

is_of_run : (scripts : List Script) (items : List (List Holding)) (f : ServiceFault) → f ≢ fault.Memory
    → (number : ℕ) × (s : Script) × (0 < number) × (slice_get scripts (number - 1) ≡ Some s)
    × EndsTry (length items) (map names items) s f
    → IsOfRun scripts items f
is_of_run scripts items f not is = (not, (is.0, is.1, is.3, is.4))

call_ends : (scripts : List Script) (items : List (List Holding)) (f : ServiceFault)
    → (number : ℕ) × (s : Script) × (0 < number) × (slice_get scripts (number - 1) ≡ Some s)
    × EndsTry (length items) (map names items) s f
    → (f ≡ fault.Memory) ⊎ IsOfRun scripts items f
call_ends scripts items fault.Memory is = inl refl
call_ends scripts items (fault.StrayTicket number) is = inr (is_of_run scripts items _ (λ e. absurd cc) is)
call_ends scripts items (fault.TwoTickets number) is = inr (is_of_run scripts items _ (λ e. absurd cc) is)
call_ends scripts items (fault.Site f) is = inr (is_of_run scripts items _ (λ e. absurd cc) is)
call_ends scripts items (fault.Certifier f) is = inr (is_of_run scripts items _ (λ e. absurd cc) is)
call_ends scripts items fault.SumTooLarge is = inr (is_of_run scripts items _ (λ e. absurd cc) is)
call_ends scripts items (fault.MissingTicket number) is = inr (is_of_run scripts items _ (λ e. absurd cc) is)
call_ends scripts items (fault.NotPledged site) is = inr (is_of_run scripts items _ (λ e. absurd cc) is)
call_ends scripts items (fault.TicketOrder job) is = inr (is_of_run scripts items _ (λ e. absurd cc) is)
call_ends scripts items (fault.LogDiffers site) is = inr (is_of_run scripts items _ (λ e. absurd cc) is)
call_ends scripts items (fault.VersionsDiffer site) is = inr (is_of_run scripts items _ (λ e. absurd cc) is)

run_ends : (scripts : List Script) (items : List (List Holding)) (tries : ℕ) (f : PoolFail ServiceFault)
    → IsFault (λ number s g. EndsTry (length items) (map names items) s g) scripts f
    → IsWant f ⊎ EndsRun scripts items tries f
run_ends scripts items tries (Work f) is = elim (call_ends scripts items f is) [
  | inl want ↦ inl want
  | inr ends ↦ inr (inl ends)
]
run_ends scripts items tries (Pool f) is = inl is

-- what a pool of the service's calls ends with ends the run, or is want of memory
pub run_ended : (scripts : List Script) (items : List (List Holding)) (tries sites : ℕ) (known : List (List Name))
    → sites ≡ length items → known ≡ map names items → (f : PoolFail ServiceFault)
    → IsFault (λ number s g. EndsTry sites known s g) scripts f → IsWant f ⊎ EndsRun scripts items tries f
run_ended scripts items tries sites known many named f is =
    run_ends scripts items tries f
    (subst₂ (λ (n : ℕ) (k : List (List Name)).
    IsFault (λ number (s : Script) (g : ServiceFault). EndsTry n k s g) scripts f) many named is)
