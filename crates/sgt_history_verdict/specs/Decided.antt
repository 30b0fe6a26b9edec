-- What a decision starts from.
use Rattle.std.specs.Prelude.{◌≡◌, ℕ, List, length}
use Rattle.sgt_history.specs.declared.named.Graph.TheVariants.{Whole}
use Rattle.sgt_history.specs.Transaction.{Transaction, ArePositive}
use Rattle.sgt_history.specs.Conflicts.{HasCycle}
use Rattle.sgt_history_conflicts.specs.declared.parts.Parts.{Parts}
use Rattle.sgt_history_conflicts.specs.Edges.{HasEdges}
use Rattle.sgt_history_faults.specs.declared.touch.Touch.{Touch}
use Rattle.sgt_history_faults.specs.Judged.{IsFaultlessBy}

-- the whole graph of a history of so many lines, with these edges, has a cycle
pub record IsFoundIn (h : List (Transaction ℕ ℕ)) (nodes : ℕ) (edges : Parts) : Type 0 where
  pub conflicts : HasEdges h edges
  pub size : length h ≡ nodes
  pub has : HasCycle h Whole

-- it has so many lines, writes versions above 0 alone, has no fault, and these touches
pub record IsDecidedFrom (h : List (Transaction ℕ ℕ)) (nodes : ℕ) (touches : List Touch) : Type 0 where
  pub size : length h ≡ nodes
  pub positive : ArePositive h
  pub faultless : IsFaultlessBy h touches
