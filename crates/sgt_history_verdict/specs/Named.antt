-- The name of a cycle, by its steps, and what it tells of the history.
use Rattle.std.specs.Prelude.{◌==◌, if◌then◌else◌, ℕ, Bool, true, false, List, count_by}
use Rattle.sgt_history.specs.declared.named.Conflict.{Conflict}
use Rattle.sgt_history.specs.declared.named.Conflict.TheVariants.{WriteWrite, WriteRead, ReadWrite}
use Rattle.sgt_history.specs.declared.named.Graph.TheVariants as graph
use Rattle.sgt_history.specs.Transaction.{Transaction}
use Rattle.sgt_history.specs.Conflicts.{HasCycle}
use Rattle.sgt_history_verdict.specs.declared.anomaly.Anomaly.{Anomaly}
use Rattle.sgt_history_verdict.specs.declared.anomaly.Anomaly.TheVariants.{G0, G1c, GSingle, G2Item}
use Rattle.sgt_history_verdict.specs.declared.step.Step.{Step}

abbrev pub is_write_read : Conflict → Bool
is_write_read WriteWrite = false
is_write_read WriteRead = true
is_write_read ReadWrite = false

abbrev pub is_read_write : Conflict → Bool
is_read_write WriteWrite = false
is_read_write WriteRead = false
is_read_write ReadWrite = true

-- how many of the steps are wr, and how many rw
abbrev pub write_reads : List Step → ℕ
write_reads steps = count_by (λ (s : Step). is_write_read s.kind) steps

abbrev pub read_writes : List Step → ℕ
read_writes steps = count_by (λ (s : Step). is_read_write s.kind) steps

-- where none is rw, by whether one is wr; else by whether one alone is rw
abbrev pub named_by : (wr rw : ℕ) → Anomaly
named_by wr rw = if rw == 0 then (if wr == 0 then G0 else G1c) else (if rw == 1 then GSingle else G2Item)

abbrev pub named : List Step → Anomaly
named steps = named_by (write_reads steps) (read_writes steps)

-- ww alone have a cycle; they have none, but ww and wr do; these have none either, but all conflicts do
abbrev pub IsNameOf : {I V : Type 0} → List (Transaction I V) → Anomaly → Type 0
IsNameOf h G0 = HasCycle h graph.WriteWrite
IsNameOf h G1c = (HasCycle h graph.WriteWrite → ⊥) × HasCycle h graph.WithReads
IsNameOf h GSingle = (HasCycle h graph.WithReads → ⊥) × HasCycle h graph.Whole
IsNameOf h G2Item = (HasCycle h graph.WithReads → ⊥) × HasCycle h graph.Whole
