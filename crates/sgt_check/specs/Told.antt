-- What is told of a numbered history.
use Rattle.std.specs.Prelude.{◌≡◌, ◌⊎◌, ℕ, ◌-◌, Bool, true, false, if◌then◌else◌, List, [], ◌++◌, codes, length, count_by, Option, Some, None, slice_get, get_or}
use Rattle.std.specs.List.{flat_map}
use Rattle.sgt_names.specs.declared.outcome.Outcome.{Outcome}
use Rattle.sgt_names.specs.declared.outcome.Outcome.TheVariants.{Yes, No, Unreadable}
use Rattle.sgt_history.specs.Conflicts.{IsOperation}
use Rattle.sgt_history.specs.Flaws.{IsFaultless, IsFirstFault}
use Rattle.sgt_history.specs.Serial.{Serves}
use Rattle.sgt_history.specs.Transaction.{Transaction}
use Rattle.sgt_history.specs.declared.history.Line.{Line}
use Rattle.sgt_history.specs.declared.history.Operation.{Operation}
use Rattle.sgt_history.specs.declared.named.Graph.{Graph}
use Rattle.sgt_history_evidence.specs.Evidence.{IsEvidence}
use Rattle.sgt_history_evidence.specs.declared.evidence.Evidence.{Evidence}
use Rattle.sgt_history_faults.specs.declared.fault.Fault.{Fault}
use Rattle.sgt_history_verdict.specs.Steps.{AreSteps, AreToldFirst, lines_of}
use Rattle.sgt_history_verdict.specs.Verdict.{IsFirstOf, IsLeastFirst, IsLeastGraph}
use Rattle.sgt_history_verdict.specs.declared.step.Step.{Step}
use Rattle.sgt_check.specs.Rank.{AreRanks}
use Rattle.sgt_check.specs.Text.{Spelling, aborted_of, committed_of, counts_text, cycle_text, fault_text, id_line, order_part}
use Rattle.sgt_check.specs.declared.naming.Naming.{Naming}
use Rattle.sgt_check.specs.declared.options.Options.{Options}

-- ---- names

-- the text with this number; JSON's null where there is none
abbrev pub text_at : List (List ℕ) → ℕ → List ℕ
text_at texts n = get_or texts n (codes "null")

abbrev pub spelled : Naming → Spelling ℕ ℕ
spelled n = record { id = text_at n.ids; item = text_at n.items; value = text_at n.values }

-- ---- an order

-- whether the line commits
abbrev pub commits_in : Option Line → Bool
commits_in None = false
commits_in (Some l) = l.commits

abbrev pub commits_at : List Line → ℕ → Bool
commits_at lines line = commits_in (slice_get lines line)

-- its id, if it does
abbrev pub id_part : Spelling ℕ ℕ → List Line → ℕ → List ℕ
id_part s lines line = if commits_at lines line then id_line s line else []

-- ---- a fault

pub record IsToldAs (h : List (Transaction ℕ ℕ)) (f : Fault) : Type 0 where
  pub t : Transaction ℕ ℕ
  pub o : Operation ℕ ℕ
  pub is : IsOperation h f.line f.place t o
  pub evidence : Evidence
  pub behind : IsEvidence h f.line f.place t o f.flaw evidence

-- ---- the answer

pub record IsSerialTold (options : Options) (n : Naming) (h : List (Transaction ℕ ℕ)) (text : List ℕ) : Type 0 where
  pub order : List ℕ
  pub serves : Serves h order
  pub least : IsLeastFirst h order
  pub text_is : text ≡ counts_text (committed_of h) (aborted_of h) ++ order_part options.order (spelled n) order

pub record IsFaultyTold (n : Naming) (h : List (Transaction ℕ ℕ)) (text : List ℕ) : Type 0 where
  pub fault : Fault
  pub first : IsFirstFault h fault.line fault.flaw fault.place
  pub told : IsToldAs h fault
  pub text_is : text ≡ fault_text (spelled n) h fault.line fault.flaw told.o told.evidence

-- the steps of the graph's first cycle, each told before all others from its line to the next
pub record AreShown (n : Naming) (h : List (Transaction ℕ ℕ)) (graph : Graph) (steps : List Step) : Type 0 where
  pub are : AreSteps h graph steps
  pub cycle_is : IsFirstOf h graph (lines_of steps)
  pub ranks : List ℕ
  pub ranks_are : AreRanks n.items ranks
  pub told_first : AreToldFirst h graph ranks steps

pub record IsCyclicTold (n : Naming) (h : List (Transaction ℕ ℕ)) (text : List ℕ) : Type 0 where
  pub faultless : IsFaultless h
  pub graph : Graph
  pub graph_is : IsLeastGraph h graph
  pub steps : List Step
  pub shown : AreShown n h graph steps
  pub text_is : text ≡ cycle_text (spelled n) steps

abbrev pub IsTold : Options → Naming → List (Transaction ℕ ℕ) → Outcome → List ℕ → Type 0
IsTold options n h Yes text = IsSerialTold options n h text
IsTold options n h No text = IsFaultyTold n h text ⊎ IsCyclicTold n h text
IsTold options n h Unreadable text = ⊥

-- the text of a yes, by lines, of which those that commit serve in this order
abbrev pub ids_text : Bool → Spelling ℕ ℕ → List Line → List ℕ → List ℕ
ids_text true s lines order = codes "---\n" ++ flat_map (id_part s lines) order
ids_text false s lines order = []

abbrev pub yes_text : Options → Naming → List Line → List ℕ → List ℕ
yes_text options n lines order =
    let committed = count_by (λ (l : Line). l.commits) lines in
    counts_text committed (length lines - committed) ++ ids_text options.order (spelled n) lines order
