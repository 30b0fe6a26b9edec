-- What was told, by how the writing ended; how a run ended, by what its parts say.
use Rattle.std.proofs.Common.{◌≡◌, ◌≢◌, ℕ, ◌<◌, ◌≤◌, ◌+◌, List, Option, Result, Ok, Err, inl, inr, ◌++◌, ◌⊎◌, codes, decimal, length, length-append, refl, sym, ap, subst, arith}
use Rattle.std.specs.Prelude.{⊤, IfErr, IfOk, IfSome, IsErrOf, IsOk, OnErr, OnOk}
use Rattle.sgt_names.specs.Limits.{most_reads}
use Rattle.sgt_notation.specs.Lines.{ReadFaultIsDue}
use Rattle.sgt_names.specs.Device.{CountsFailures}
use Rattle.sgt_devices.specs.Devices.{LeavesWriter}
use Rattle.sgt_names.specs.declared.outcome.EngineFail.{EngineFail}
use Rattle.sgt_names.specs.declared.outcome.EngineFail.TheVariants.{Memory, ReadFault, WriteFault}
use Rattle.sgt_names.specs.declared.outcome.Outcome.{Outcome}
use Rattle.sgt_names.specs.declared.outcome.Outcome.TheVariants.{No, Unreadable, Yes}
use Rattle.sgt_names.proofs.Devices.{wrote_nothing}
use Rattle.sgt_audit.specs.declared.verdict.Verdict.{Verdict}
use Rattle.sgt_audit.specs.declared.verdict.Verdict.TheVariants as audit
use Rattle.sgt_audit_chain.specs.declared.faults.ChainFault.TheVariants.{Broken}
use Rattle.sgt_audit_workers.specs.Reads.{IsYes}
use Rattle.sgt_command_line.specs.Words.{AsksFor}
use Rattle.sgt_command_line.specs.declared.choice.Choice.{Choice}
use Rattle.sgt_command_line.specs.declared.choice.Choice.TheVariants as made
use Rattle.sgt_program.specs.Chains.{WroteBrokenFront}
use Rattle.sgt_program.specs.Commands.{outcome}
use Rattle.sgt_program.specs.Ending.{AsksWorkers, LeavesDevices, ReadFailed, ReaderIsQuiet, ReadsOn, TellsErrors, status_of, text_of_fail}
use Rattle.sgt_program.specs.declared.ending.Ending.{Ending}
use Rattle.sgt_program.specs.declared.ending.Ending.TheVariants.{Ran}

pub wrote_or_failed : {A E : Type 0} (r : Result A E) (Wrote Front : Type 0) (failures failures' : ℕ) → OnOk r Wrote
    → CountsFailures r failures failures' → OnErr r Front
    → Wrote ⊎ ((failures < failures') × Front)
wrote_or_failed (Ok a) Wrote Front failures failures' wrote counts front = inl wrote
wrote_or_failed (Err e) Wrote Front failures failures' wrote counts front = inr (omega arith, front)

-- what the error stream was told of a run
pub tells-errors : (r : Result Outcome EngineFail) (Silent : Type 0) (Tells : List ℕ → Type 0) → (IsOk r → Silent)
    → IfErr r (λ fail. Tells (text_of_fail fail)) → TellsErrors (Ran r) Silent Tells
tells-errors (Ok outcome) Silent Tells silent told = silent refl
tells-errors (Err fail) Silent Tells silent told = told

-- how the devices come out of the help
pub helped : (r : Result Outcome EngineFail) (On : Type 0) (n : ℕ) (Quiet ReadFailed WriteFailed Unwritten : Type 0)
    → IfOk r (λ outcome. (outcome ≡ Yes) × Quiet)
    → IfErr r (λ fail. (fail ≡ WriteFault) × WriteFailed)
    → LeavesDevices (Ran r) (ReaderIsQuiet On (Ran r) n n × Quiet) ReadFailed WriteFailed Unwritten
helped (Ok outcome) On n Quiet ReadFailed WriteFailed Unwritten done failed = (inl refl, done.1)
helped (Err fail) On n Quiet ReadFailed WriteFailed Unwritten done failed =
    subst (λ f. LeavesDevices (Ran (Err f)) (ReaderIsQuiet On (Ran (Err f)) n n × Quiet) ReadFailed WriteFailed
    Unwritten) (sym failed.0) failed.1

-- a read failed as an engine says, or, where the bytes are kept, for their number
pub due : (K : Type 0) (told : Option (List ℕ)) (failures failures' asked asked' : ℕ)
    → ReadFaultIsDue told failures failures' asked asked'
    → ReadFailed K told failures failures' asked asked'
due K told failures failures' asked asked' (inl failed) = inl failed
due K told failures failures' asked asked' (inr (all, long)) = inr (long, inl all)

pub kept : (K : Type 0) (told : Option (List ℕ)) (failures failures' asked asked' : ℕ) → K
    → (failures < failures') ⊎ IfSome told (λ bytes. most_reads ≤ length bytes)
    → ReadFailed K told failures failures' asked asked'
kept K told failures failures' asked asked' is (inl failed) = inl failed
kept K told failures failures' asked asked' is (inr long) = inr (long, inr is)

-- of two readers
pub due_of_two : (told lines : Option (List ℕ)) (failures failures' asked asked' fails fails' calls calls' : ℕ)
    → ReadFaultIsDue told failures failures' asked asked' ⊎ ReadFaultIsDue lines fails fails' calls calls'
    → ReadFailed ⊥ told failures failures' asked asked' ⊎ ReadFailed ⊥ lines fails fails' calls calls'
due_of_two told lines failures failures' asked asked' fails fails' calls calls' (inl one) =
    inl (due ⊥ told failures failures' asked asked' one)
due_of_two told lines failures failures' asked asked' fails fails' calls calls' (inr other) =
    inr (due ⊥ lines fails fails' calls calls' other)

-- how the devices come out of an engine
pub leaves : {W : Type 0} {fails : W → ℕ} {old new : W} (r : Result Outcome EngineFail) (Reader Due Read : Type 0)
    → (Due → Read) → (r ≢ Err ReadFault → Reader) → (IsErrOf r ReadFault → Due) → LeavesWriter fails r old new
    → LeavesDevices (Ran r) (Reader × (fails new ≡ fails old)) Read (fails old < fails new) (new ≡ old)
leaves (Ok outcome) Reader Due Read so reader read writer = (reader (λ e. cc), writer.quiet (λ e. cc))
leaves (Err Memory) Reader Due Read so reader read writer =
    ((reader (λ e. cc), writer.quiet (λ e. cc)), writer.untouched refl)
leaves (Err ReadFault) Reader Due Read so reader read writer = (so (read refl), writer.unwritten refl)
leaves (Err WriteFault) Reader Due Read so reader read writer = writer.failed refl

abbrev pub failing : (T : Type 0) → EngineFail → Result T EngineFail
failing T fail = Err fail

-- and of one that failed with this fault, whatever it answers else
pub leaves_fail : {W : Type 0} {fails : W → ℕ} {old new : W} (T : Type 0) (fail : EngineFail) (Reader Due Read : Type 0)
    → (Due → Read) → (failing T fail ≢ failing T ReadFault → Reader) → (IsErrOf (failing T fail) ReadFault → Due)
    → LeavesWriter fails (failing T fail) old new
    → LeavesDevices (Ran (Err fail)) (Reader × (fails new ≡ fails old)) Read (fails old < fails new) (new ≡ old)
leaves_fail T Memory Reader Due Read so reader read writer =
    ((reader (λ e. cc), writer.quiet (λ e. cc)), writer.untouched refl)
leaves_fail T ReadFault Reader Due Read so reader read writer = (so (read refl), writer.unwritten refl)
leaves_fail T WriteFault Reader Due Read so reader read writer = writer.failed refl

-- a writer that nothing was written to, by a call that tells no write fault
pub left_alone : {A W : Type 0} (fails : W → ℕ) (r : Result A EngineFail) (w : W) → (r ≢ Err WriteFault)
    → LeavesWriter fails r w w
left_alone fails r w never = record {
  failed = λ e. absurd (never e);
  quiet = λ e. refl;
  unwritten = λ e. refl;
  untouched = λ e. refl;
}

-- and of one that reads nothing
pub leaves_topic : (r : Result Outcome EngineFail) (On : Type 0) (n : ℕ) (Writer Read Wrote Unwritten : Type 0)
    → OnErr r (r ≡ Err WriteFault) → OnErr r Wrote → OnOk r Writer
    → LeavesDevices (Ran r) (ReaderIsQuiet On (Ran r) n n × Writer) Read Wrote Unwritten
leaves_topic (Ok outcome) On n Writer Read Wrote Unwritten only failed writer = (inl refl, writer)
leaves_topic (Err Memory) On n Writer Read Wrote Unwritten only failed writer = cc
leaves_topic (Err ReadFault) On n Writer Read Wrote Unwritten only failed writer = cc
leaves_topic (Err WriteFault) On n Writer Read Wrote Unwritten only failed writer = failed

-- and of one whose reader may have failed at an answer
pub leaves_audit : {W : Type 0} {fails : W → ℕ} {old new : W} (T : Type 0) (fail : EngineFail) (Reader Due Read : Type 0)
    → (Due → Read) → (IsErrOf (failing T fail) Memory → Reader) → (IsErrOf (failing T fail) ReadFault → Due)
    → LeavesWriter fails (failing T fail) old new
    → LeavesDevices (Ran (Err fail)) (Reader × (fails new ≡ fails old)) Read (fails old < fails new) (new ≡ old)
leaves_audit T Memory Reader Due Read so reader read writer =
    ((reader refl, writer.quiet (λ e. cc)), writer.untouched refl)
leaves_audit T ReadFault Reader Due Read so reader read writer = (so (read refl), writer.unwritten refl)
leaves_audit T WriteFault Reader Due Read so reader read writer = writer.failed refl

pub verdict-quiet : (v : Verdict) (o : Outcome) (failures failures' : ℕ) → o ≡ outcome v
    → (IsYes v → failures' ≡ failures) → failures' ≤ failures + 1 → ReaderIsQuiet ⊤ (Ran (Ok o)) failures failures'
verdict-quiet (audit.Yes committed refused withdrawn) o failures failures' same quiet few = inl (quiet tt)
verdict-quiet (audit.No line f) o failures failures' same quiet few =
    inr (tt, ap (λ (p : Outcome). Ran (Ok p)) same, few)

pub quiet_more : (On On' : Type 0) (ending : Ending) (failures failures' : ℕ) (Writer : Type 0) → (On → On')
    → ReaderIsQuiet On ending failures failures' × Writer → ReaderIsQuiet On' ending failures failures' × Writer
quiet_more On On' ending failures failures' Writer so (inl same, writer) = (inl same, writer)
quiet_more On On' ending failures failures' Writer so (inr (on, is, few), writer) = (inr (so on, is, few), writer)

pub asks_workers : (words : List (List ℕ)) (choice : Choice) → AsksFor words choice → ReadsOn choice → AsksWorkers words
asks_workers words (made.AuditWith workers) asks on = (workers, asks)
asks_workers words made.Audit asks on = absurd on
asks_workers words made.Serial asks on = absurd on
asks_workers words made.Replay asks on = absurd on
asks_workers words made.Certify asks on = absurd on
asks_workers words (made.Check wanted) asks on = absurd on
asks_workers words (made.Explain asked) asks on = absurd on
asks_workers words (made.Rule topic) asks on = absurd on
asks_workers words made.Draw asks on = absurd on
asks_workers words (made.DrawWith tx is_dot) asks on = absurd on
asks_workers words (made.Run workers tries) asks on = absurd on

pub failed_more : (K K' : Type 0) (told : Option (List ℕ)) (failures failures' asked asked' : ℕ) → (K → K')
    → ReadFailed K told failures failures' asked asked' → ReadFailed K' told failures failures' asked asked'
failed_more K K' told failures failures' asked asked' so (inl failed) = inl failed
failed_more K K' told failures failures' asked asked' so (inr (long, inl all)) = inr (long, inl all)
failed_more K K' told failures failures' asked asked' so (inr (long, inr is)) = inr (long, inr (so is))

pub leaves_more : (r : Result Outcome EngineFail) (Quiet Quiet' Read Read' Wrote Unwritten : Type 0)
    → (Quiet → Quiet') → (Read → Read') → LeavesDevices (Ran r) Quiet Read Wrote Unwritten
    → LeavesDevices (Ran r) Quiet' Read' Wrote Unwritten
leaves_more (Ok outcome) Quiet Quiet' Read Read' Wrote Unwritten quiet so devices = quiet devices
leaves_more (Err Memory) Quiet Quiet' Read Read' Wrote Unwritten quiet so devices = (quiet devices.0, devices.1)
leaves_more (Err ReadFault) Quiet Quiet' Read Read' Wrote Unwritten quiet so devices = (so devices.0, devices.1)
leaves_more (Err WriteFault) Quiet Quiet' Read Read' Wrote Unwritten quiet so devices = devices

-- what the status 1 says of an engine that answers no alone
pub told_no : (r : Result Outcome EngineFail) (status : ℕ) (P : Type 0) → status ≡ 1 → status ≡ status_of (Ran r)
    → IfOk r (λ outcome. (outcome ≡ No) × P) → P
told_no (Ok outcome) status P one is said = said.1
told_no (Err Memory) status P one is said = absurd (omega arith)
told_no (Err ReadFault) status P one is said = absurd (omega arith)
told_no (Err WriteFault) status P one is said = absurd (omega arith)

-- and the status 0 of one that answers yes alone
pub told_yes : (r : Result Outcome EngineFail) (status : ℕ) (P : Type 0) → status ≡ 0 → status ≡ status_of (Ran r)
    → IfOk r (λ outcome. (outcome ≡ Yes) × P) → P
told_yes (Ok outcome) status P zero is said = said.1
told_yes (Err Memory) status P zero is said = absurd (omega arith)
told_yes (Err ReadFault) status P zero is said = absurd (omega arith)
told_yes (Err WriteFault) status P zero is said = absurd (omega arith)

-- an engine that answers no alone has no other status of an answer
pub never_yes : (r : Result Outcome EngineFail) (status : ℕ) (P : Type 0) → status ≡ status_of (Ran r)
    → IfOk r (λ outcome. (outcome ≡ No) × P)
    → (status ≢ 0) × (status ≢ 2)
never_yes (Ok Yes) status P is said = absurd (let e : Yes ≡ No = said.0 in cc)
never_yes (Ok No) status P is said = (λ e. absurd (omega (arith, is, e)), λ e. absurd (omega (arith, is, e)))
never_yes (Ok Unreadable) status P is said = absurd (let e : Unreadable ≡ No = said.0 in cc)
never_yes (Err Memory) status P is said = (λ e. absurd (omega (arith, is, e)), λ e. absurd (omega (arith, is, e)))
never_yes (Err ReadFault) status P is said = (λ e. absurd (omega (arith, is, e)), λ e. absurd (omega (arith, is, e)))
never_yes (Err WriteFault) status P is said = (λ e. absurd (omega (arith, is, e)), λ e. absurd (omega (arith, is, e)))

-- nor has one that answers yes alone
pub never_no : (r : Result Outcome EngineFail) (status : ℕ) (P : Type 0) → status ≡ status_of (Ran r)
    → IfOk r (λ outcome. (outcome ≡ Yes) × P)
    → (status ≢ 1) × (status ≢ 2)
never_no (Ok Yes) status P is said = (λ e. absurd (omega (arith, is, e)), λ e. absurd (omega (arith, is, e)))
never_no (Ok No) status P is said = absurd (let e : No ≡ Yes = said.0 in cc)
never_no (Ok Unreadable) status P is said = absurd (let e : Unreadable ≡ Yes = said.0 in cc)
never_no (Err Memory) status P is said = (λ e. absurd (omega (arith, is, e)), λ e. absurd (omega (arith, is, e)))
never_no (Err ReadFault) status P is said = (λ e. absurd (omega (arith, is, e)), λ e. absurd (omega (arith, is, e)))
never_no (Err WriteFault) status P is said = (λ e. absurd (omega (arith, is, e)), λ e. absurd (omega (arith, is, e)))

-- at 3 and 4 there is no answer
pub front_at : (r : Result Outcome EngineFail) (status : ℕ) (Front : Type 0) → status ≡ status_of (Ran r)
    → OnErr r Front → 3 ≤ status → Front
front_at (Ok Yes) status Front is front high = absurd (omega (arith, is, high))
front_at (Ok No) status Front is front high = absurd (omega (arith, is, high))
front_at (Ok Unreadable) status Front is front high = absurd (omega (arith, is, high))
front_at (Err fail) status Front is front high = front

-- and at 4 a write failed, where no read is blamed
pub failed_at : (r : Result Outcome EngineFail) (status : ℕ) (Front : Type 0) → status ≡ status_of (Ran r)
    → (r ≢ Err ReadFault)
    → (IsErrOf r WriteFault → Front) → status ≡ 4 → Front
failed_at (Ok Yes) status Front is read front four = absurd (omega (arith, is, four))
failed_at (Ok No) status Front is read front four = absurd (omega (arith, is, four))
failed_at (Ok Unreadable) status Front is read front four = absurd (omega (arith, is, four))
failed_at (Err Memory) status Front is read front four = absurd (omega (arith, is, four))
failed_at (Err ReadFault) status Front is read front four = absurd (read refl)
failed_at (Err WriteFault) status Front is read front four = front refl

-- no byte of a no was written
pub wrote_none : (name : List ℕ) (held : Option (List ℕ)) → WroteBrokenFront name held held
wrote_none name held = (0, Broken, (0, omega (arith, length-append (codes "no ") (name ++ (codes " line " ++ (decimal 0 ++ (codes " C1" ++ codes "\n"))))), wrote_nothing held))

-- how the writer comes out of an engine that reads nothing
pub writes : {W : Type 0} {fails : W → ℕ} {old new : W} (r : Result Outcome EngineFail) → (r ≢ Err ReadFault)
    → LeavesWriter fails r old new
    → LeavesDevices (Ran r) (fails new ≡ fails old) ⊥ (fails old < fails new) (new ≡ old)
writes (Ok outcome) read writer = writer.quiet (λ e. cc)
writes (Err Memory) read writer = (writer.quiet (λ e. cc), writer.untouched refl)
writes (Err ReadFault) read writer = absurd (read refl)
writes (Err WriteFault) read writer = writer.failed refl
