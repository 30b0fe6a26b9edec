-- The texts of answers.
use Rattle.std.specs.Prelude.{ℕ, ◌+◌, ◌-◌, Bool, true, false, List, [], ◌++◌, length, codes, decimal, Option, Some, None, slice_get, count_by}
use Rattle.std.specs.List.{flat_map}
use Rattle.sgt_history.specs.declared.history.Kind.{Kind}
use Rattle.sgt_history.specs.declared.history.Kind.TheVariants.{Read, Write}
use Rattle.sgt_history.specs.declared.history.Operation.{Operation}
use Rattle.sgt_history.specs.declared.named.Conflict.{Conflict}
use Rattle.sgt_history.specs.declared.named.Conflict.TheVariants.{WriteWrite, WriteRead, ReadWrite}
use Rattle.sgt_history.specs.declared.named.Flaw.{Flaw}
use Rattle.sgt_history.specs.declared.named.Flaw.TheVariants.{Internal, Duplicate, AbortedRead, Unwritten, IntermediateRead, Value}
use Rattle.sgt_history.specs.Transaction.{Transaction}
use Rattle.sgt_history.specs.Serial.{operations_in}
use Rattle.sgt_history_evidence.specs.declared.evidence.Evidence.{Evidence}
use Rattle.sgt_history_evidence.specs.declared.evidence.Evidence.TheVariants.{Nothing, Wrote, WritesLater, Writer, Surpassed, Gives}
use Rattle.sgt_history_text.specs.declared.fault.LineFault.{LineFault}
use Rattle.sgt_history_text.specs.declared.fault.LineFault.TheVariants.{NotALine, TooLong, IdAgain}
use Rattle.sgt_history_verdict.specs.declared.anomaly.Anomaly.{Anomaly}
use Rattle.sgt_history_verdict.specs.declared.anomaly.Anomaly.TheVariants.{G0, G1c, GSingle, G2Item}
use Rattle.sgt_history_verdict.specs.declared.step.Step.{Step}
use Rattle.sgt_history_verdict.specs.Named.{named}

-- how the names of a history are written: of a line its id, items, values
pub record Spelling (I V : Type 0) : Type 0 where
  pub id : ℕ → List ℕ
  pub item : I → List ℕ
  pub value : V → List ℕ

-- ---- yes

-- how many transactions commit, and how many don't
abbrev pub committed_of : {I V : Type 0} → List (Transaction I V) → ℕ
committed_of {I} {V} h = count_by (λ (t : Transaction I V). t.commits) h

abbrev pub aborted_of : {I V : Type 0} → List (Transaction I V) → ℕ
aborted_of h = length h - committed_of h

abbrev pub counts_text : (committed aborted : ℕ) → List ℕ
counts_text committed aborted =
    codes "yes " ++ (decimal committed ++ (codes " committed " ++ (decimal aborted ++ codes " aborted\n")))

-- an order: the ids, a line each
abbrev pub id_line : {I V : Type 0} → Spelling I V → ℕ → List ℕ
id_line s line = s.id line ++ codes "\n"

abbrev pub order_text : {I V : Type 0} → Spelling I V → List ℕ → List ℕ
order_text s order = codes "---\n" ++ flat_map (id_line s) order

-- the order stands there, where it is asked for
abbrev pub order_part : {I V : Type 0} → Bool → Spelling I V → List ℕ → List ℕ
order_part true s order = order_text s order
order_part false s order = []

-- ---- a line that can't be read

abbrev pub line_fault_text : LineFault → List ℕ
line_fault_text NotALine = codes "! L1 line "
line_fault_text TooLong = codes "! L2 line "
line_fault_text IdAgain = codes "! L3 line "

abbrev pub unreadable_text : (line : ℕ) → LineFault → List ℕ
unreadable_text line fault = line_fault_text fault ++ (decimal line ++ codes "\n")

-- ---- a fault

abbrev pub flaw_text : Flaw → List ℕ
flaw_text Internal = codes "no internal\n"
flaw_text Duplicate = codes "no duplicate\n"
flaw_text AbortedRead = codes "no G1a\n"
flaw_text Unwritten = codes "no unwritten\n"
flaw_text IntermediateRead = codes "no G1b\n"
flaw_text Value = codes "no value\n"

abbrev pub kind_text : Kind → List ℕ
kind_text Read = codes " r "
kind_text Write = codes " w "

-- lines are counted from 0, and told from 1
abbrev pub number_text : ℕ → List ℕ
number_text line = decimal (line + 1)

abbrev pub operation_text : {I V : Type 0} → Spelling I V → Operation I V → List ℕ
operation_text s o = kind_text o.kind ++ (s.item o.item ++ (codes " " ++ decimal o.version))

abbrev pub writer_text : {I V : Type 0} → Spelling I V → ℕ → List ℕ
writer_text s by = codes " written by " ++ (s.id by ++ (codes " line " ++ number_text by))

-- the value that is given, if one is
abbrev pub value_text : {I V : Type 0} → Spelling I V → Option V → List ℕ
value_text s None = []
value_text s (Some v) = s.value v

abbrev pub value_of : {I V : Type 0} → Option (Operation I V) → Option V
value_of None = None
value_of (Some o) = o.value

-- the value that the operation at the place of the line gives, if it is there
abbrev pub value_at : {I V : Type 0} → List (Transaction I V) → (line place : ℕ) → Option V
value_at h line place = value_of (slice_get (operations_in (slice_get h line)) place)

-- which line gives which other value
abbrev pub values_text : {I V : Type 0} → Spelling I V → Option V → ℕ → Option V → List ℕ
values_text s value by other = codes " value " ++ (value_text s value ++ (codes ", line "
    ++ (number_text by ++ (codes " gives " ++ value_text s other))))

abbrev pub evidence_text : {I V : Type 0} → Spelling I V → List (Transaction I V) → ℕ → Operation I V → Evidence
    → List ℕ
evidence_text s h line o Nothing = []
evidence_text s h line o (Wrote version) = codes " wrote " ++ decimal version
evidence_text s h line o WritesLater = codes " writes it in line " ++ number_text line
evidence_text s h line o (Writer by) = writer_text s by
evidence_text s h line o (Surpassed by greater) = writer_text s by ++ (codes ", which wrote " ++ decimal greater)
evidence_text s h line o (Gives by at) = values_text s o.value by (value_at h by at)

abbrev pub told_text : {I V : Type 0} → Spelling I V → List (Transaction I V) → ℕ → Operation I V → Evidence → List ℕ
told_text s h line o evidence = codes "line " ++ (number_text line ++ (codes " " ++ (s.id line
    ++ (operation_text s o ++ (evidence_text s h line o evidence ++ codes "\n")))))

abbrev pub fault_text : {I V : Type 0} → Spelling I V → List (Transaction I V) → ℕ → Flaw → Operation I V → Evidence
    → List ℕ
fault_text s h line flaw o evidence = flaw_text flaw ++ told_text s h line o evidence

-- ---- a cycle

abbrev pub anomaly_text : Anomaly → List ℕ
anomaly_text G0 = codes "no G0\n"
anomaly_text G1c = codes "no G1c\n"
anomaly_text GSingle = codes "no G-single\n"
anomaly_text G2Item = codes "no G2-item\n"

abbrev pub conflict_text : Conflict → List ℕ
conflict_text WriteWrite = codes " ww "
conflict_text WriteRead = codes " wr "
conflict_text ReadWrite = codes " rw "

-- a step, whose item is numbered
abbrev pub ends_text : {V : Type 0} → Spelling ℕ V → Step → List ℕ
ends_text s step = s.id step.from ++ (conflict_text step.kind ++ (s.id step.to ++ codes " "))

abbrev pub versions_text : {V : Type 0} → Spelling ℕ V → Step → List ℕ
versions_text s step = s.item step.item ++ (codes " " ++ (decimal step.from_version ++ (codes " " ++ decimal step.to_version)))

abbrev pub step_text : {V : Type 0} → Spelling ℕ V → Step → List ℕ
step_text s step = ends_text s step ++ (versions_text s step ++ (codes " lines "
    ++ (number_text step.from ++ (codes " " ++ (number_text step.to ++ codes "\n")))))

abbrev pub cycle_text : {V : Type 0} → Spelling ℕ V → List Step → List ℕ
cycle_text s steps = anomaly_text (named steps) ++ flat_map (step_text s) steps
