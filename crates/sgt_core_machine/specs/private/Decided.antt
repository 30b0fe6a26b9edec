-- A gathered transaction is decided: what the certifier is asked and answers, and what the step is
-- afterwards.
use Rattle.std.specs.Prelude.{◌≡◌, ◌⊎◌, ℕ, Bool, true, false, List, [], Option, Some, None, slice_get, slice_set}
use Rattle.sgt_edges.specs.declared.edge.Edge.{Edge}
use Rattle.sgt_certifier.specs.Certifier.{State}
use Rattle.sgt_certifier.specs.History.{tx_under}
use Rattle.sgt_certifier.specs.Judged.{Ends as JudgeEnds, Rules}
use Rattle.sgt_certifier.specs.Kept.{MayDecide}
use Rattle.sgt_core_machine.specs.declared.machine.Running.{Running}
use Rattle.sgt_core_machine.specs.declared.machine.Open.{Open}
use Rattle.sgt_core_machine.specs.declared.machine.Phase.{Phase}
use Rattle.sgt_core_machine.specs.declared.machine.Phase.TheVariants.{Gathering, Committed, Refused}
use Rattle.sgt_core_model.specs.declared.reply.Reply.{Reply}
use Rattle.sgt_core_model.specs.declared.reply.Reply.TheVariants.{Yes, No}
use Rattle.sgt_core_machine.specs.Machine.{Parts, AwaitsInstall}

-- the edges of the open step
abbrev pub edges_by : Phase → List Edge
edges_by (Gathering edges) = edges
edges_by phase = []

abbrev pub edges_in : Option Open → List Edge
edges_in None = []
edges_in (Some o) = edges_by o.phase

-- the open step is gathered no more
abbrev pub IsRuled : Option Open → Type 0
IsRuled None = ⊥
IsRuled (Some o) = (o.phase ≡ Committed) ⊎ (o.phase ≡ Refused)

-- what a decision makes of the step, and its answer, by whether the transaction is committed
abbrev pub phase_after : Bool → Phase
phase_after true = Committed
phase_after false = Refused

abbrev pub reply_after : Bool → Reply
reply_after true = Yes
reply_after false = No

-- the certifier refuses no decision of the transaction at this place of the table with these edges
abbrev pub MayRuleAt : State → List (Option Running) → ℕ → List Edge → Type 0
MayRuleAt s table slot edges = (r : Running) → slice_get table slot ≡ Some (Some r)
    → MayDecide s r.handle edges

-- the transaction at this place of the table is decided with these edges, told is whether it is
-- committed, and each of its installs can be noted
pub record RulesAt (old new : State) (table : List (Option Running)) (slot : ℕ) (edges : List Edge)
    (told : Bool) : Type 0 where
  pub running : Running
  pub runs : slice_get table slot ≡ Some (Some running)
  pub rules : Rules old running.handle edges told new
  pub awaits : phase_after told ≡ Committed → (s : ℕ)
      → AwaitsInstall new (tx_under old running.handle) s

-- the transaction at this place of the table ends with its step
pub record EndsAt (old new : Parts) (tx slot : ℕ) : Type 0 where
  pub ends : JudgeEnds old.certifier tx new.certifier
  pub is : new ≡ record old { certifier = new.certifier; table = slice_set old.table slot None }

-- how many drafts of transactions that have ended are kept at most
abbrev pub most_drafts : ℕ
most_drafts = 16
